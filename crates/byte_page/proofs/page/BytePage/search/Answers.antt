use Rattle.std.proofs.Common.{◌∙◌, ℕ, List, refl, sym, ap, subst, length}
use Rattle.page_mirror.specs.Steps.{HasOrigin}
use Rattle.index_page.specs.Rows.{Row, first_of_rows, last_of_rows, IsAt}
use Rattle.page_search.specs.Cuts.{FindsCut}
use Rattle.page_search.proofs.NextLemmas.{before_rows}
use Rattle.page_rows.specs.Reading.{rows_in_bytes}
use Rattle.byte_page.specs.Form.{GappedPage}
use Rattle.byte_page.proofs.SearchLemmas.{right_ascends, sides}
use Rattle.byte_page.proofs.page.BytePage.search.Goals as goal

pub next_of-requires : goal.next_of-requires
next_of-requires g c =
    let tuple = g.A.Fields.fields_of c.args.tuple.now in
    let found = subst (λ (b : List ℕ). FindsCut (rows_in_bytes b c.self.inside.fields) c.args.mode tuple c.find_cut-cut.result) c.deref.ensures.value c.find_cut-cut.ensures in
    let m = c.self.invariant.rows.parts.mirror in
    let r = before_rows (right_ascends c.self.invariant found.cuts) in
    (m, r.here, subst (λ (b : List ℕ). HasOrigin b m r.here c.find_cut-cut.result.before) (sym c.deref-2.ensures.value) r.at)

pub returns : goal.returns
returns g c =
    let tuple = g.A.Fields.fields_of c.args.tuple.now in
    let found = subst (λ (b : List ℕ). FindsCut (rows_in_bytes b c.self.inside.fields) c.args.mode tuple c.find_cut-cut.result) c.deref.ensures.value c.find_cut-cut.ensures in
    let cut = found.cuts in
    let m = c.self.invariant.rows.parts.mirror in
    let r = before_rows (right_ascends c.self.invariant cut) in
    let at = c.next_of.ensures m r.here (subst (λ (b : List ℕ). HasOrigin b m r.here c.find_cut-cut.result.before) (sym c.deref-2.ensures.value) r.at) in
    let s = sides c.next_of.result c.place_left.result c.row_place.result c.self.invariant cut (sym at.placed) c.place_left.ensures c.row_place.ensures in
    let same = ap (λ (f : GappedPage). f.page.rows) c.self.view_is in (
      length cut.left,
      record {
        left = cut.left;
        right = cut.right;
        split = sym same ∙ cut.split;
        out = cut.out;
        past = cut.past;
        before_at = subst (λ (rows : List Row). IsAt rows c.place_left.result (last_of_rows cut.left)) same s.before_at;
        after_at = subst (λ (rows : List Row). IsAt rows c.row_place.result (first_of_rows cut.right)) same s.after_at;
        low = found.low;
        up = found.up;
        cut = refl;
      },
    )
