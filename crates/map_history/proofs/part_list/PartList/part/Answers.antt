use Rattle.std.proofs.Common.{◌≡◌, ◌<◌, ◌∷◌, [], length, ap, arith, sym, get_or, ◌∙◌}
use Rattle.std.proofs.lemmas.List.{get_or_default}
use Rattle.key_tuple.specs.Order.{FieldList}
use Rattle.key_tuple.proofs.PartsLemmas.{IsRange, range_of_part, length-parts, get_or-parts}
use Rattle.map_history.proofs.part_list.PartList.part.Goals as goal

pub start_of-start-requires : goal.start_of-start-requires
start_of-start-requires c =
    let view = ap (λ (p : FieldList). length p) c.self.view_is in
    let many = length-parts c.self.inside.bytes.items 0 c.self.inside.ends.items in
    omega (arith, c.deref.ensures.len, c.self.inside.ends.ok.0)

pub index-end-requires : goal.index-end-requires
index-end-requires c =
    let view = ap (λ (p : FieldList). length p) c.self.view_is in
    let many = length-parts c.self.inside.bytes.items 0 c.self.inside.ends.items in
    omega (arith, c.self.inside.ends.ok.0)

-- the part's ends, within the bytes
within : (c : goal.After-deref-2) → (c.args.i < length c.self.inside.ends.items) × (c.start_of-start.result ≡ get_or (0 ∷ c.self.inside.ends.items) c.args.i 0) × (c.index-end.result.now ≡ get_or c.self.inside.ends.items c.args.i 0)
within c =
    let view = ap (λ (p : FieldList). length p) c.self.view_is in
    let many = length-parts c.self.inside.bytes.items 0 c.self.inside.ends.items in
    let there : c.args.i < length c.self.inside.ends.items = omega arith in
    let start = c.start_of-start.ensures ∙ ap (λ ends. get_or (0 ∷ ends) c.args.i 0) c.deref.ensures.value in
    (there, start, c.index-end.ensures ∙ get_or_default c.self.inside.ends.items c.args.i c.index-end.result.now 0 there)

range : (c : goal.After-deref-2) → IsRange (get_or (0 ∷ c.self.inside.ends.items) c.args.i 0) (get_or c.self.inside.ends.items c.args.i 0) (length c.self.inside.bytes.items)
range c = range_of_part 0 c.self.inside.ends.items (length c.self.inside.bytes.items) c.args.i c.self.invariant (within c).0

pub slice_bounds-result-count : goal.slice_bounds-result-count
slice_bounds-result-count c = omega (arith, (range c).rises, (within c).1, (within c).2)

pub slice_bounds-result-start : goal.slice_bounds-result-start
slice_bounds-result-start c = omega (arith, (range c).rises, (within c).1, (within c).2)

pub slice_bounds-result-end : goal.slice_bounds-result-end
slice_bounds-result-end c = omega (arith, (range c).fits, (within c).2, ap length c.deref-2.ensures.value)

pub returns : goal.returns
returns c =
    let bytes = c.self.inside.bytes.items in
    let ends = c.self.inside.ends.items in
    let length_view = ap (λ (p : FieldList). length p) c.self.view_is in
    let many = length-parts bytes 0 ends in
    let there : c.args.i < length ends = omega arith in
    let start = c.start_of-start.ensures ∙ ap (λ offsets. get_or (0 ∷ offsets) c.args.i 0) c.deref.ensures.value in
    let end = c.index-end.ensures ∙ get_or_default ends c.args.i c.index-end.result.now 0 there in
    rw (start, end, c.deref-2.ensures.value) (sym (get_or-parts bytes 0 ends c.args.i there) ∙ ap (λ (p : FieldList). get_or p c.args.i []) c.self.view_is)
