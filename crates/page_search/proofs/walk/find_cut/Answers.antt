use Rattle.std.proofs.Common.{◌≡◌, ◌+◌, ◌≤◌, ℕ, List, ◌++◌, ◌∷◌, [], length, ap, sym, subst, arith}
use Rattle.page_directory.proofs.ListLemmas.{none_left}
use Rattle.index_page.specs.Rows.{Row, first_of_rows, last_of_rows}
use Rattle.page_rows.specs.Reading.{rows_in_bytes}
use Rattle.page_search.specs.Agreeing.{agreed}
use Rattle.page_search.specs.Cuts.{FindsCut}
use Rattle.page_search.specs.declared.cut.CutPlace.{CutPlace}
use Rattle.page_search.proofs.FigureLemmas.{figures_few}
use Rattle.page_search.proofs.WayLemmas.{found_at}
use Rattle.page_search.proofs.walk.find_cut.Goals as goal

-- a row less in the middle, and one more that was passed
passed_one : (row : Row) (rest middle : List Row) (counter : ℕ) → middle ≡ row ∷ rest → length middle + counter ≤ 7 → length rest + (counter + 1) ≤ 7
passed_one row rest middle counter is few = omega (arith, ap length is, few)

pub loop-init : goal.loop-init
loop-init g c =
    let n = c.owner_before-found.ensures in
    let few = n.few in
    (n.left, n.middle, n.right, n.way, omega arith)

pub go_on-requires-clause-way : goal.go_on-requires-clause-way
go_on-requires-clause-way g c =
    let inv = c.loop.invariant in
    (inv.0, inv.1, inv.2, inv.3)

pub place-requires-clause-low : goal.place-requires-clause-low
place-requires-clause-low g c =
    let inv = c.loop.invariant in
    let tuple = g.A.Fields.fields_of c.args.tuple.now in
    let finds = c.in-Here.ensures inv.0 inv.1 inv.2 inv.3 in
    omega (arith, figures_few tuple (last_of_rows finds.cuts.left) (agreed c.in-Here.cut.low) finds.low, c.requires.tuple, c.ranges.fields.fits)

pub place-requires-clause-up : goal.place-requires-clause-up
place-requires-clause-up g c =
    let inv = c.loop.invariant in
    let tuple = g.A.Fields.fields_of c.args.tuple.now in
    let finds = c.in-Here.ensures inv.0 inv.1 inv.2 inv.3 in
    omega (arith, figures_few tuple (first_of_rows finds.cuts.right) (agreed c.in-Here.cut.up) finds.up, c.requires.tuple, c.ranges.fields.fits)

pub returns-in-Here : goal.returns-in-Here
returns-in-Here g c =
    let inv = c.loop.invariant in
    let tuple = g.A.Fields.fields_of c.args.tuple.now in
    let finds = c.in-Here.ensures inv.0 inv.1 inv.2 inv.3 in
    subst (λ (cut : CutPlace). FindsCut (rows_in_bytes c.args.page.now c.args.fields) c.args.mode tuple cut) (sym c.place.ensures) finds

pub loop-preserved : goal.loop-preserved
loop-preserved g c =
    let inv = c.loop.invariant in
    let n = c.in-On.ensures inv.0 inv.1 inv.2 inv.3 in
    (inv.0 ++ n.0 ∷ [], n.1, inv.2, n.3, passed_one n.0 n.1 inv.1 c.loop.counter n.2 inv.4)

pub place-requires-2-clause-low : goal.place-requires-2-clause-low
place-requires-2-clause-low g c =
    let inv = c.loop.invariant in
    let tuple = g.A.Fields.fields_of c.args.tuple.now in
    let way = inv.3 in
    omega (arith, figures_few tuple (last_of_rows inv.0) (agreed c.loop.found.low) way.low.is, c.requires.tuple, c.ranges.fields.fits)

pub place-requires-2-clause-up : goal.place-requires-2-clause-up
place-requires-2-clause-up g c =
    let inv = c.loop.invariant in
    let tuple = g.A.Fields.fields_of c.args.tuple.now in
    let way = inv.3 in
    omega (arith, figures_few tuple (first_of_rows inv.2) (agreed c.loop.found.up) way.up.is, c.requires.tuple, c.ranges.fields.fits)

pub returns : goal.returns
returns g c =
    let inv = c.loop.invariant in
    let tuple = g.A.Fields.fields_of c.args.tuple.now in
    let finds = found_at inv.0 inv.1 inv.2 (none_left inv.1 (omega (arith, inv.4))) inv.3 in
    subst (λ (cut : CutPlace). FindsCut (rows_in_bytes c.args.page.now c.args.fields) c.args.mode tuple cut) (sym c.place-2.ensures) finds
