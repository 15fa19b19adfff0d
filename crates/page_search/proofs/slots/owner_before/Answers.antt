use Rattle.std.proofs.Common.{◌≡◌, ◌<◌, ◌≤◌, ◌-◌, ℕ, true, false, List, [], length, slice_index, ◌∙◌, ◌+◌, ◌/◌, ◌∷◌, sym, ap, subst, arith}
use Rattle.key_tuple.specs.Order.{FieldList}
use Rattle.key_tuple.specs.KeyPlace.{At, cut_of}
use Rattle.key_tuple.specs.declared.mode.Mode.{Mode}
use Rattle.compact_record.specs.Record.{PlacedRecord}
use Rattle.compact_record.specs.Reading.{HasRecord, record_at}
use Rattle.key_tuple.specs.declared.mode.Match.{Match}
use Rattle.compact_record.proofs.LawLemmas.{record_there, record_read}
use Rattle.page_directory.proofs.OwnerLemmas.{slots_counted, count_sizes}
use Rattle.index_page.proofs.CutLemmas.{mode_cuts}
use Rattle.index_page.specs.Page.{RowsAscend}
use Rattle.index_page.proofs.RowLemmas.{ascends_right}
use Rattle.key_tuple.specs.Figures.{matching}
use Rattle.page_rows.specs.Reading.{rows_in_bytes}
use Rattle.page_rows.specs.Spelling.{IsPageOfRows, PageParts, SpellsRows}
use Rattle.page_mirror.specs.Steps.{HasOrigin}
use Rattle.page_search.specs.declared.judging.Verdict.{Verdict}
use Rattle.page_search.specs.Judging.{Judges}
use Rattle.page_search.specs.Cuts.{LowFigures, UpFigures}
use Rattle.page_rows.proofs.SpellingLemmas.{row_of}
use Rattle.page_search.specs.Agreeing.{AgreesTo, lesser_match, agreed}
use Rattle.page_search.proofs.FigureLemmas.{none_low, none_up, low_at, up_at}
use Rattle.page_search.proofs.SlotLemmas.{OutTo, InFrom, OwnerRow, owner_row, owner_there, owner_out, owner_in, first_out, last_in}
use Rattle.page_search.proofs.WayLemmas.{owner_agrees, narrowed}
use Rattle.page_search.proofs.slots.owner_before.Goals as goal

-- the middle of two slots that aren't neighbours
middle_above : (low high : ℕ) → low + 1 < high → low < (low + high) / 2
middle_above low high below = omega arith

middle_below : (low high : ℕ) → low + 1 < high → (low + high) / 2 < high
middle_below low high below = omega arith

middle_short : (low high most : ℕ) → low + 1 < high → high < most → (low + high) / 2 < most
middle_short low high most below short = omega arith

middle_slot : {bytes : List ℕ} {fields : ℕ} {p : PageParts} (low high : ℕ) → SpellsRows bytes fields p [] → low + 1 < high → high < length p.groups → (low + high) / 2 < length p.mirror.slots
middle_slot low high s below within = omega (arith, below, within, slots_counted s.page.groups)

middle_row : {bytes : List ℕ} {fields : ℕ} {p : PageParts} (low high : ℕ) → SpellsRows bytes fields p [] → low + 1 < high → high < length p.groups → OwnerRow bytes fields p ((low + high) / 2)
middle_row low high s below within = owner_row ((low + high) / 2) s (omega (arith, below)) (omega (arith, below, within))

low_slot : {bytes : List ℕ} {fields : ℕ} {p : PageParts} (low high : ℕ) → SpellsRows bytes fields p [] → low < high → high < length p.groups → low < length p.mirror.slots
low_slot low high s below within = omega (arith, below, within, slots_counted s.page.groups)

next_slot : (low high : ℕ) → low < high → high ≤ low + 1 → low + 1 ≡ high
next_slot low high below last = omega arith

-- the cut leaves out the rows up to the owner of slot `low`, and admits those from that of `high` on
abbrev CutsBetween : List ℕ → ℕ → Mode → FieldList → ℕ → ℕ → Match → Match → Type 0
CutsBetween bytes fields mode tuple low high below above =
    (page : IsPageOfRows bytes fields) × (low < high) × (high < length page.parts.groups) × (out : OutTo bytes fields (cut_of mode tuple) page.parts low)
    × (past : InFrom bytes fields (cut_of mode tuple) page.parts high) × LowFigures tuple out.left out.right below × UpFigures tuple past.left past.right above × (high < 65536)

-- the middle slot's row stands there
middle_there : (bytes : List ℕ) (fields : ℕ) {p : PageParts} (low high at : ℕ) → (s : SpellsRows bytes fields p []) → low + 1 < high → high < length p.groups
    → HasOrigin bytes p.mirror (slice_index p.mirror.slots ((low + high) / 2)) at → HasRecord bytes at fields
middle_there bytes fields {p} low high at s test within there =
    let o = middle_row low high s test within in
    record_there bytes at fields (p.of o.here) (owner_there o there)

middle_agrees : (bytes : List ℕ) (fields : ℕ) (mode : Mode) (tuple : FieldList) (low high at : ℕ) (below above from : Match) → low + 1 < high → (n : CutsBetween bytes fields mode tuple low high below above)
    → HasOrigin bytes n.0.parts.mirror (slice_index n.0.parts.mirror.slots ((low + high) / 2)) at → from ≡ lesser_match below above → AgreesTo tuple (record_at bytes at fields).key from
middle_agrees bytes fields mode tuple low high at below above from test n there is =
    let o = middle_row low high n.0.spells test n.2 in
    let read = record_read bytes at fields (n.0.parts.of o.here) (owner_there o there) in
    let agrees = owner_agrees tuple below above n.3 n.4 o (middle_above low high test) (middle_below low high test) n.2 n.5 n.6 in
    subst (λ (m : Match). AgreesTo tuple (record_at bytes at fields).key m) (sym is) (subst (λ (x : PlacedRecord). AgreesTo tuple x.key (lesser_match below above)) (sym read) agrees)

-- the middle slot's row is admitted, or left out
middle_in : (bytes : List ℕ) (fields : ℕ) (mode : Mode) (tuple : FieldList) (low high at : ℕ) (below above : Match) (verdict : Verdict) → RowsAscend (rows_in_bytes bytes fields) → low + 1 < high
    → (n : CutsBetween bytes fields mode tuple low high below above) → HasOrigin bytes n.0.parts.mirror (slice_index n.0.parts.mirror.slots ((low + high) / 2)) at
    → Judges mode tuple (record_at bytes at fields).key verdict → verdict.admitted ≡ true → CutsBetween bytes fields mode tuple low ((low + high) / 2) below (agreed verdict.figures)
middle_in bytes fields mode tuple low high at below above verdict ascend test n there judges is =
    let p = cut_of mode tuple in
    let o = middle_row low high n.0.spells test n.2 in
    let read = record_read bytes at fields (n.0.parts.of o.here) (owner_there o there) in
    let admitted = ap (λ (x : PlacedRecord). p (At x.key)) (sym read) ∙ sym judges.admitted ∙ is in
    let figures = judges.figures ∙ ap (λ (x : PlacedRecord). matching tuple x.key) read in
    let row = row_of n.0.parts o.here in
    (n.0, middle_above low high test, middle_short low high (length n.0.parts.groups) test n.2, n.3, owner_in p (mode_cuts mode tuple) ascend o admitted, n.5, up_at tuple o.left row o.right (agreed verdict.figures) figures (subst RowsAscend o.rows ascend), middle_short low high 65536 test n.7)

middle_out : (bytes : List ℕ) (fields : ℕ) (mode : Mode) (tuple : FieldList) (low high at : ℕ) (below above : Match) (verdict : Verdict) → RowsAscend (rows_in_bytes bytes fields) → low + 1 < high
    → (n : CutsBetween bytes fields mode tuple low high below above) → HasOrigin bytes n.0.parts.mirror (slice_index n.0.parts.mirror.slots ((low + high) / 2)) at
    → Judges mode tuple (record_at bytes at fields).key verdict → verdict.admitted ≡ false → CutsBetween bytes fields mode tuple ((low + high) / 2) high (agreed verdict.figures) above
middle_out bytes fields mode tuple low high at below above verdict ascend test n there judges is =
    let p = cut_of mode tuple in
    let o = middle_row low high n.0.spells test n.2 in
    let read = record_read bytes at fields (n.0.parts.of o.here) (owner_there o there) in
    let left_out = ap (λ (x : PlacedRecord). p (At x.key)) (sym read) ∙ sym judges.admitted ∙ is in
    let figures = judges.figures ∙ ap (λ (x : PlacedRecord). matching tuple x.key) read in
    let row = row_of n.0.parts o.here in
    let behind = ascends_right o.left (row ∷ o.right) (subst RowsAscend o.rows ascend) in
    (n.0, middle_below low high test, n.2, owner_out p (mode_cuts mode tuple) ascend o left_out, n.4, low_at tuple o.left row o.right (agreed verdict.figures) figures behind, n.6, n.7)

nearer_below : (low high : ℕ) → low + 1 < high → (low + high) / 2 - low < high - low
nearer_below low high below = omega arith

nearer_above : (low high : ℕ) → low + 1 < high → high - (low + high) / 2 < high - low
nearer_above low high below = omega arith

pub overflow_sub-last : goal.overflow_sub-last
overflow_sub-last g c =
    let s = c.requires.page.spells in
    omega (arith, c.slot_count-last.ensures c.requires.page.parts.mirror s.page.is, slots_counted s.page.groups, s.sizes.two, count_sizes c.requires.page.parts.groups)

pub loop-low-init : goal.loop-low-init
loop-low-init g c =
    let page = c.requires.page in
    let s = page.spells in
    let p = cut_of c.args.mode (g.A.Fields.fields_of c.args.tuple.now) in
    let from = c.from-high.ensures in
    let count = c.slot_count-last.ensures page.parts.mirror s.page.is in
    let slots = slots_counted s.page.groups in
    let sizes = count_sizes page.parts.groups in
    let two = s.sizes.two in
    let rows = rows_in_bytes c.args.page.now c.args.fields in
    let t = g.A.Fields.fields_of c.args.tuple.now in
    (page, omega arith, omega arith, first_out p s, last_in p _ s (omega arith), none_low t rows, none_up t rows, omega arith)

pub slot_owner-owner-requires : goal.slot_owner-owner-requires
slot_owner-owner-requires g c =
    let inv = c.loop-low.invariant in
    let s = inv.0.spells in
    (inv.0.parts.mirror, s.page.is, middle_slot c.loop-low.low c.loop-low.high s c.loop-low-test.true inv.2)

pub judge-verdict-requires-clause-there : goal.judge-verdict-requires-clause-there
judge-verdict-requires-clause-there g c =
    let inv = c.loop-low.invariant in
    middle_there c.args.page.now c.args.fields c.loop-low.low c.loop-low.high c.slot_owner-owner.result inv.0.spells c.loop-low-test.true inv.2 (c.slot_owner-owner.ensures c.loop-low.invariant.0.parts.mirror c.loop-low.invariant.0.spells.page.is (middle_slot c.loop-low.low c.loop-low.high c.loop-low.invariant.0.spells c.loop-low-test.true c.loop-low.invariant.2))

pub judge-verdict-requires-clause-agrees : goal.judge-verdict-requires-clause-agrees
judge-verdict-requires-clause-agrees g c =
    middle_agrees c.args.page.now c.args.fields c.args.mode (g.A.Fields.fields_of c.args.tuple.now) c.loop-low.low c.loop-low.high c.slot_owner-owner.result (agreed c.loop-low.below) (agreed c.loop-low.above)
    (agreed c.lesser.result) c.loop-low-test.true c.loop-low.invariant (c.slot_owner-owner.ensures c.loop-low.invariant.0.parts.mirror c.loop-low.invariant.0.spells.page.is (middle_slot c.loop-low.low c.loop-low.high c.loop-low.invariant.0.spells c.loop-low-test.true c.loop-low.invariant.2)) c.lesser.ensures

pub loop-low-preserved-then-verdict : goal.loop-low-preserved-then-verdict
loop-low-preserved-then-verdict g c =
    middle_in c.args.page.now c.args.fields c.args.mode (g.A.Fields.fields_of c.args.tuple.now) c.loop-low.low c.loop-low.high c.slot_owner-owner.result (agreed c.loop-low.below) (agreed c.loop-low.above)
    c.judge-verdict.result c.requires.ascend c.loop-low-test.true c.loop-low.invariant (c.slot_owner-owner.ensures c.loop-low.invariant.0.parts.mirror c.loop-low.invariant.0.spells.page.is (middle_slot c.loop-low.low c.loop-low.high c.loop-low.invariant.0.spells c.loop-low-test.true c.loop-low.invariant.2)) c.judge-verdict.ensures c.if-verdict.true

pub loop-low-preserved : goal.loop-low-preserved
loop-low-preserved g c =
    middle_out c.args.page.now c.args.fields c.args.mode (g.A.Fields.fields_of c.args.tuple.now) c.loop-low.low c.loop-low.high c.slot_owner-owner.result (agreed c.loop-low.below) (agreed c.loop-low.above)
    c.judge-verdict.result c.requires.ascend c.loop-low-test.true c.loop-low.invariant (c.slot_owner-owner.ensures c.loop-low.invariant.0.parts.mirror c.loop-low.invariant.0.spells.page.is (middle_slot c.loop-low.low c.loop-low.high c.loop-low.invariant.0.spells c.loop-low-test.true c.loop-low.invariant.2)) c.judge-verdict.ensures c.if-verdict.false

pub slot_owner-requires : goal.slot_owner-requires
slot_owner-requires g c =
    let inv = c.loop-low.invariant in
    let s = inv.0.spells in
    (inv.0.parts.mirror, s.page.is, low_slot c.loop-low.low c.loop-low.high s inv.1 inv.2)

pub returns : goal.returns
returns g c =
    let inv = c.loop-low.invariant in
    let s = inv.0.spells in
    let at = c.slot_owner.ensures inv.0.parts.mirror s.page.is (low_slot c.loop-low.low c.loop-low.high s inv.1 inv.2) in
    narrowed c.args.mode (g.A.Fields.fields_of c.args.tuple.now) c.loop-low.low c.loop-low.high (record { before = c.slot_owner.result; low = agreed c.loop-low.below; up = agreed c.loop-low.above }) inv.0 c.requires.ascend s inv.3 inv.4 (next_slot c.loop-low.low c.loop-low.high inv.1 c.loop-low-test.false) inv.2 at inv.5 inv.6

pub loop-low-smaller-then-verdict : goal.loop-low-smaller-then-verdict
loop-low-smaller-then-verdict g c = nearer_below c.loop-low.low c.loop-low.high c.loop-low-test.true

pub loop-low-smaller : goal.loop-low-smaller
loop-low-smaller g c = nearer_above c.loop-low.low c.loop-low.high c.loop-low-test.true

pub judge-verdict-requires-clause-tuple : goal.judge-verdict-requires-clause-tuple
judge-verdict-requires-clause-tuple g c = c.requires.tuple

pub judge-verdict-requires-clause-first : goal.judge-verdict-requires-clause-first
judge-verdict-requires-clause-first g c = c.requires.first

pub overflow_cast-middle : goal.overflow_cast-middle
overflow_cast-middle g c = omega (arith, middle_short c.loop-low.low c.loop-low.high 65536 c.loop-low-test.true c.loop-low.invariant.7)

pub overflow_add-middle : goal.overflow_add-middle
overflow_add-middle g c = omega (arith, c.loop-low-test.true, c.loop-low.invariant.7)

pub overflow_cast-low : goal.overflow_cast-low
overflow_cast-low g c = omega (arith, c.loop-low.invariant.1, c.loop-low.invariant.7)
