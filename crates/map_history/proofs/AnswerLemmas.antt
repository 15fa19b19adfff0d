-- What is said of a key, and the last row that a cut leaves out.
use Rattle.std.proofs.Common.{◌≡◌, ℕ, Bool, true, false, Some, None, List, [], ◌∷◌, ◌++◌, refl, ap, is_some, is_none, cond}
use Rattle.key_tuple.specs.Order.{FieldList}
use Rattle.key_tuple.specs.KeyPlace.{KeyPlace, At}
use Rattle.map_history.specs.declared.reply.Reply.TheVariants as word
use Rattle.map_history.specs.Map.{Pair, Map, Put, Set, Del, value_at}
use Rattle.map_history.specs.Operation.{Make}
use Rattle.map_history.specs.Reply.{reply_of, Done, Duplicate, Absent, last_before, or_else}
use Rattle.map_history.specs.Told.{said}

module _ (k : FieldList) (m : Map) (row : Pair) where
  pub said-put : (v : List ℕ) → said (Make (Put k v)) (cond (is_some (value_at k m)) word.Duplicate word.Ok) row ≡ Some (reply_of m (Make (Put k v)))
  said-put v = elim (value_at k m) as (λ o. said (Make (Put k v)) (cond (is_some o) word.Duplicate word.Ok) row ≡ Some (cond (is_none o) Done Duplicate)) [ None ↦ refl | Some w ↦ refl ]

  pub said-set : (v : List ℕ) → said (Make (Set k v)) (cond (is_some (value_at k m)) word.Ok word.Absent) row ≡ Some (reply_of m (Make (Set k v)))
  said-set v = elim (value_at k m) as (λ o. said (Make (Set k v)) (cond (is_some o) word.Ok word.Absent) row ≡ Some (cond (is_some o) Done Absent)) [ None ↦ refl | Some w ↦ refl ]

  pub said-del : said (Make (Del k)) (cond (is_some (value_at k m)) word.Ok word.Absent) row ≡ Some (reply_of m (Make (Del k)))
  said-del = elim (value_at k m) as (λ o. said (Make (Del k)) (cond (is_some o) word.Ok word.Absent) row ≡ Some (cond (is_some o) Done Absent)) [ None ↦ refl | Some w ↦ refl ]

-- a list with one more row at its end
pub last_before-in : (p : KeyPlace → Bool) (m : Map) (x : Pair) → p (At x.key) ≡ true → last_before p (m ++ x ∷ []) ≡ last_before p m
last_before-in p [] x e = rw e refl
last_before-in p (y ∷ m) x e = ap (λ r. or_else r (cond (p (At y.key)) None (Some y))) (last_before-in p m x e)

pub last_before-out : (p : KeyPlace → Bool) (m : Map) (x : Pair) → p (At x.key) ≡ false → last_before p (m ++ x ∷ []) ≡ Some x
last_before-out p [] x e = rw e refl
last_before-out p (y ∷ m) x e = ap (λ r. or_else r (cond (p (At y.key)) None (Some y))) (last_before-out p m x e)
