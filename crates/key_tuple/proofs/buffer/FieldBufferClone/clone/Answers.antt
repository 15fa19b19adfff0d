use Rattle.std.proofs.Common.{ℕ, List, length, take, sym, ap, subst, ◌∙◌, arith}
use Rattle.std.proofs.lemmas.List.Elements.{same_from_all_zip}
use Rattle.key_tuple.specs.Parts.{parts, RiseTo}
use Rattle.key_tuple.proofs.buffer.FieldBufferClone.clone.Goals as goal

pub returns : goal.returns
returns c = let ends = take c.self.inside.count c.self.inside.ends in
    let same = same_from_all_zip _ c.self.inside.bytes.items c.in_ok-clone.field-0.items c.in_ok-clone.ensures.cases.0 (λ x y e. e) in record {
      cases = ap (λ (bytes : List ℕ). parts bytes 0 ends) same ∙ (λ i. (c.self.view_is i).fields);
    }

pub invariant_of-result : goal.invariant_of-result
invariant_of-result c = let ends = take c.self.inside.count c.self.inside.ends in
    let same = same_from_all_zip _ c.self.inside.bytes.items c.in_ok-clone.field-0.items c.in_ok-clone.ensures.cases.0 (λ x y e. e) in record {
      offsets = c.self.invariant.offsets;
      few = c.self.invariant.few;
      short = omega (arith, ap length same, c.self.invariant.short);
      rise = subst (λ (bytes : List ℕ). RiseTo 0 ends (length bytes)) (sym same) c.self.invariant.rise;
    }
