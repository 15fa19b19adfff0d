-- A list that grows in front of what is still to come.
use Rattle.std.proofs.Common.{◌≡◌, List, [], ◌∷◌, ◌++◌, Option, Some, None, refl, sym, ap, append_assoc}
use Rattle.script.specs.Grammar.{in_front, behind}

pub behind_in_front : {A : Type 0} (front : List A) (x : A) (o : Option (List A)) → behind front (in_front (Some x) o) ≡ behind (front ++ x ∷ []) o
behind_in_front front x None = refl
behind_in_front front x (Some xs) = ap Some (sym (append_assoc front (x ∷ []) xs))

pub behind_nothing : {A : Type 0} (o : Option (List A)) → behind [] o ≡ o
behind_nothing None = refl
behind_nothing (Some xs) = refl
