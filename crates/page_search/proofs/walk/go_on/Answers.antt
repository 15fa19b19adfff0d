use Rattle.std.proofs.Common.{◌≡◌, ◌∙◌, ◌∷◌, ◌++◌, ℕ, true, false, List, [], sym, ap, subst}
use Rattle.key_tuple.specs.Order.{FieldList}
use Rattle.key_tuple.specs.declared.mode.Mode.{Mode}
use Rattle.key_tuple.specs.KeyPlace.{At, cut_of}
use Rattle.key_tuple.specs.Figures.{matching}
use Rattle.compact_record.specs.Record.{PlacedRecord}
use Rattle.compact_record.specs.Reading.{HasRecord, record_at}
use Rattle.key_tuple.specs.declared.mode.Match.{Match}
use Rattle.compact_record.proofs.LawLemmas.{record_there, record_read}
use Rattle.index_page.proofs.CutLemmas.{mode_cuts}
use Rattle.page_rows.proofs.SpellingLemmas.{row_of}
use Rattle.page_search.specs.Agreeing.{AgreesTo, lesser_match, agreed}
use Rattle.page_search.proofs.NextLemmas.{NextRow, before_rows, none_behind, row_behind}
use Rattle.page_search.proofs.WayLemmas.{next_agrees, cut_at_end, cut_here, passed_on}
use Rattle.index_page.specs.Rows.{Row}
use Rattle.page_rows.specs.Reading.{rows_in_bytes}
use Rattle.page_mirror.specs.Mirror.{Mirror}
use Rattle.page_mirror.specs.Steps.{HasOrigin}
use Rattle.page_search.specs.declared.cut.CutPlace.{CutPlace}
use Rattle.page_search.specs.declared.judging.Verdict.{Verdict}
use Rattle.page_search.specs.Judging.{Judges}
use Rattle.page_search.specs.Cuts.{IsBehindRows, IsOnTheWay, FindsCut, place_in}
use Rattle.page_search.proofs.walk.go_on.Goals as goal

-- the row behind the place
next_row : {bytes : List ℕ} {fields : ℕ} {left right : List Row} {place : ℕ} (next : ℕ) → (b : IsBehindRows bytes fields left right place)
    → ((m : Mirror) (h : ℕ) → HasOrigin bytes m h place → HasOrigin bytes m (m.next h) next) → (next ≡ 112 → ⊥) → NextRow bytes fields b.page.parts right next
next_row next b steps other =
    let r = before_rows b in
    row_behind next r (sym (steps b.page.parts.mirror r.here r.at).placed) other

next_there : (bytes : List ℕ) (fields : ℕ) (left right : List Row) (place next : ℕ) → IsBehindRows bytes fields left right place
    → ((m : Mirror) (h : ℕ) → HasOrigin bytes m h place → HasOrigin bytes m (m.next h) next) → (next ≡ 112 → ⊥) → HasRecord bytes next fields
next_there bytes fields left right place next b steps other =
    let row = next_row next b steps other in
    record_there bytes next fields (b.page.parts.of row.here) row.is

next_agreed : (bytes : List ℕ) (fields : ℕ) (mode : Mode) (tuple : FieldList) (left middle right : List Row) (found : CutPlace) (next : ℕ) (from : Match) → IsOnTheWay bytes fields mode tuple left middle right found
    → ((m : Mirror) (h : ℕ) → HasOrigin bytes m h found.before → HasOrigin bytes m (m.next h) next) → (next ≡ 112 → ⊥) → from ≡ lesser_match found.low found.up → AgreesTo tuple (record_at bytes next fields).key from
next_agreed bytes fields mode tuple left middle right found next from way steps other is =
    let b = way.behind in
    let row = next_row next b steps other in
    let read = record_read bytes next fields (b.page.parts.of row.here) row.is in
    let agrees = next_agrees tuple middle right (row_of b.page.parts row.here) row.rest left found.low found.up row.rows way.low way.up in
    subst (λ (m : Match). AgreesTo tuple (record_at bytes next fields).key m) (sym is) (subst (λ (x : PlacedRecord). AgreesTo tuple x.key (lesser_match found.low found.up)) (sym read) agrees)

-- the next row is admitted, or left out
next_in : (bytes : List ℕ) (fields : ℕ) (mode : Mode) (tuple : FieldList) (left middle right : List Row) (found : CutPlace) (next : ℕ) (verdict : Verdict) → IsOnTheWay bytes fields mode tuple left middle right found
    → ((m : Mirror) (h : ℕ) → HasOrigin bytes m h found.before → HasOrigin bytes m (m.next h) next) → (next ≡ 112 → ⊥) → Judges mode tuple (record_at bytes next fields).key verdict → verdict.admitted ≡ true
    → FindsCut (rows_in_bytes bytes fields) mode tuple (record { before = found.before; low = found.low; up = agreed verdict.figures })
next_in bytes fields mode tuple left middle right found next verdict way steps other judges is =
    let b = way.behind in
    let row = next_row next b steps other in
    let read = record_read bytes next fields (b.page.parts.of row.here) row.is in
    let admitted = ap (λ (x : PlacedRecord). cut_of mode tuple (At x.key)) (sym read) ∙ sym judges.admitted ∙ is in
    let figures = judges.figures ∙ ap (λ (x : PlacedRecord). matching tuple x.key) read in
    cut_here left middle right (row_of b.page.parts row.here) row.rest (agreed verdict.figures) (mode_cuts mode tuple) row.rows admitted figures way

next_out : (bytes : List ℕ) (fields : ℕ) (mode : Mode) (tuple : FieldList) (left middle right : List Row) (found : CutPlace) (next : ℕ) (verdict : Verdict) → IsOnTheWay bytes fields mode tuple left middle right found
    → ((m : Mirror) (h : ℕ) → HasOrigin bytes m h found.before → HasOrigin bytes m (m.next h) next) → (next ≡ 112 → ⊥) → Judges mode tuple (record_at bytes next fields).key verdict → verdict.admitted ≡ false
    → (row : Row) × (rest : List Row) × (middle ≡ row ∷ rest) × IsOnTheWay bytes fields mode tuple (left ++ row ∷ []) rest right (record { before = next; low = agreed verdict.figures; up = found.up })
next_out bytes fields mode tuple left middle right found next verdict way steps other judges is =
    let b = way.behind in
    let row = next_row next b steps other in
    let read = record_read bytes next fields (b.page.parts.of row.here) row.is in
    let left_out = ap (λ (x : PlacedRecord). cut_of mode tuple (At x.key)) (sym read) ∙ sym judges.admitted ∙ is in
    let figures = judges.figures ∙ ap (λ (x : PlacedRecord). matching tuple x.key) read in
    passed_on left middle right (row_of b.page.parts row.here) row.rest next (agreed verdict.figures) row.rows row.placed left_out figures way

pub next_of-next-requires : goal.next_of-next-requires
next_of-next-requires g c =
    let b = c.requires.way.3.behind in
    let r = before_rows b in
    (b.page.parts.mirror, r.here, r.at)

pub returns-then-next-eq-SUPREMUM : goal.returns-then-next-eq-SUPREMUM
returns-then-next-eq-SUPREMUM g c = λ left middle right way.
    let b = way.behind in
    let r = before_rows b in
    let next = c.next_of-next.ensures b.page.parts.mirror r.here r.at in
    cut_at_end left middle right (none_behind c.next_of-next.result r (sym next.placed) c.if-next-eq-SUPREMUM.true) way

pub judge-verdict-requires-clause-there : goal.judge-verdict-requires-clause-there
judge-verdict-requires-clause-there g c =
    let way = c.requires.way in
    next_there c.args.page.now c.args.fields way.0 _ c.args.found.before c.next_of-next.result way.3.behind c.next_of-next.ensures c.if-next-eq-SUPREMUM.false

pub judge-verdict-requires-clause-agrees : goal.judge-verdict-requires-clause-agrees
judge-verdict-requires-clause-agrees g c =
    let way = c.requires.way in
    next_agreed c.args.page.now c.args.fields c.args.mode (g.A.Fields.fields_of c.args.tuple.now) way.0 way.1 way.2 (place_in c.args.found) c.next_of-next.result (agreed c.lesser.result) way.3 c.next_of-next.ensures c.if-next-eq-SUPREMUM.false c.lesser.ensures

pub returns-then-verdict : goal.returns-then-verdict
returns-then-verdict g c = λ left middle right way.
    next_in c.args.page.now c.args.fields c.args.mode (g.A.Fields.fields_of c.args.tuple.now) left middle right (place_in c.args.found) c.next_of-next.result c.judge-verdict.result
    way c.next_of-next.ensures c.if-next-eq-SUPREMUM.false c.judge-verdict.ensures c.if-verdict.true

pub returns : goal.returns
returns g c = λ left middle right way.
    next_out c.args.page.now c.args.fields c.args.mode (g.A.Fields.fields_of c.args.tuple.now) left middle right (place_in c.args.found) c.next_of-next.result c.judge-verdict.result
    way c.next_of-next.ensures c.if-next-eq-SUPREMUM.false c.judge-verdict.ensures c.if-verdict.false
