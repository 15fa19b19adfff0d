use Rattle.std.proofs.Common.{◌≡◌, ◌+◌, ◌++◌, ◌∷◌, [], ◌∙◌, ap, sym, length, arith, length-append, ℕ, List, subst}
use Rattle.key_tuple.specs.Order.{FieldList}
use Rattle.key_tuple.proofs.PartsLemmas.{RiseTo-push, parts-push}
use Rattle.list_facts.proofs.Outcomes.{as_ok}
use Rattle.key_tuple.specs.Parts.{RiseTo}
use Rattle.map_history.proofs.part_list.PartList.push.Goals as goal

-- the offset of the new end stands behind the others
ends_after : (c : goal.After-push-room_holds) → c.push-room_holds.new.self.items ≡ c.self.inside.ends.items ++ c.len.result ∷ []
ends_after c =
    let room = c.in_ok-reserve.ensures.ok in
    as_ok c.push-room_holds.result _ _ _ (c.push-room_holds.ensures.succeeds (omega (arith, room))) c.push-room_holds.ensures.items ∙ ap (λ ends. ends ++ c.len.result ∷ []) c.in_ok-reserve.ensures.items

end_is : (c : goal.After-push-room_holds) → c.len.result ≡ length c.self.inside.bytes.items + length c.args.part.now
end_is c = omega (arith, c.len.ensures, c.in_ok-extend_from_slice.ensures.len, c.self.inside.bytes.ok.0)

pub invariant_of-self-2 : goal.invariant_of-self-2
invariant_of-self-2 c =
    let bytes : length c.extend_from_slice.new.self.items ≡ c.len.result = ap length c.in_ok-extend_from_slice.ensures.items ∙ length-append c.self.inside.bytes.items c.args.part.now ∙ sym (end_is c) in
    rw (ends_after c, bytes) (RiseTo-push 0 c.self.inside.ends.items (length c.self.inside.bytes.items) c.len.result c.self.invariant (omega (arith, end_is c)))

pub returns-clause-ok : goal.returns-clause-ok
returns-clause-ok c =
    let after = parts-push c.self.inside.bytes.items c.args.part.now 0 c.self.inside.ends.items c.len.result c.self.invariant (end_is c) in
    rw (ends_after c, c.in_ok-extend_from_slice.ensures.items) (after ∙ ap (λ (p : FieldList). p ++ c.args.part.now ∷ []) c.self.view_is)

pub invariant_of-self-in_err-extend_from_slice : goal.invariant_of-self-in_err-extend_from_slice
invariant_of-self-in_err-extend_from_slice c =
    subst (λ (ends : List ℕ). RiseTo 0 ends (length c.extend_from_slice.new.self.items)) (sym c.in_ok-reserve.ensures.items)
    (subst (λ (bytes : List ℕ). RiseTo 0 c.self.inside.ends.items (length bytes)) (sym c.in_err-extend_from_slice.ensures.items) c.self.invariant)

pub invariant_of-self : goal.invariant_of-self
invariant_of-self c =
    subst (λ (ends : List ℕ). RiseTo 0 ends (length c.self.inside.bytes.items)) (sym c.in_err-reserve.ensures.items) c.self.invariant
