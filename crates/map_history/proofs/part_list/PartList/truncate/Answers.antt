use Rattle.std.proofs.Common.{◌≡◌, ◌≤◌, ◌∷◌, ◌∙◌, ap, sym, length, take, get_or, arith, length-take}
use Rattle.std.proofs.lemmas.List.{take_all}
use Rattle.key_tuple.specs.Order.{FieldList}
use Rattle.key_tuple.proofs.PartsLemmas.{length-parts}
use Rattle.map_history.proofs.CutLemmas.{parts-take, RiseTo-take, rises_to}
use Rattle.map_history.proofs.part_list.PartList.truncate.Goals as goal

below : (c : goal.After-truncate-then-count-len) → c.args.count ≤ length c.self.inside.ends.items
below c = omega (arith, c.len.ensures, c.self.inside.ends.ok.0)

end_is : (c : goal.After-truncate-then-count-len) → c.start_of-end.result ≡ get_or (0 ∷ c.self.inside.ends.items) c.args.count 0
end_is c = c.start_of-end.ensures ∙ ap (λ ends. get_or (0 ∷ ends) c.args.count 0) c.deref.ensures.value

pub invariant_of-self : goal.invariant_of-self
invariant_of-self c =
    let ends = c.self.inside.ends.items in
    let bytes = c.self.inside.bytes.items in
    let rises = RiseTo-take 0 ends (length bytes) c.args.count c.self.invariant (below c) in
    let fits = rises_to 0 ends (length bytes) c.args.count c.self.invariant (below c) in
    let kept : length c.truncate.new.self.items ≡ get_or (0 ∷ ends) c.args.count 0 = ap length c.truncate.ensures.items ∙ length-take c.start_of-end.result bytes ∙ omega (arith, end_is c) in
    rw (c.truncate-then-count-len.ensures.items, kept) rises

pub returns-then-count-len : goal.returns-then-count-len
returns-then-count-len c =
    let ends = c.self.inside.ends.items in
    let bytes = c.self.inside.bytes.items in
    let first = parts-take bytes 0 ends (length bytes) c.args.count c.self.invariant (below c) in
    rw (c.truncate-then-count-len.ensures.items, c.truncate.ensures.items, end_is c) (first ∙ ap (λ (p : FieldList). take c.args.count p) c.self.view_is)

pub returns-else-count-len : goal.returns-else-count-len
returns-else-count-len c =
    let view = ap (λ (p : FieldList). length p) c.self.view_is in
    let many = length-parts c.self.inside.bytes.items 0 c.self.inside.ends.items in
    sym (take_all c.args.count c.args.self.now (omega (arith, c.len.ensures, c.self.inside.ends.ok.0)))
