-- Doers that are taken apart one after another.
use Rattle.std.proofs.Common.{◌≡◌, Some, List, [], ◌∷◌, ◌++◌, map, ap, sym, ◌∙◌, arith}
use Rattle.std.proofs.lemmas.List.{map-append}
use Rattle.std.specs.Prelude.{ℕ, ◌+◌, ◌≤◌, Vec, vec_len, vec_capacity}
use Rattle.std.specs.declared.alloc.Global.{Global}
use Rattle.change_log.specs.Log.{Log}
use Rattle.map_history.specs.declared.counts.Counts.{Counts}
use Rattle.lane_threads.specs.Engine.{EnginePass}
use Rattle.lane_threads.specs.declared.doer.DoneLane.{DoneLane}
use Rattle.lane_threads.specs.declared.doer.LaneDoer.{LaneDoer}
use Rattle.lane_threads.specs.Doing.{AreParts, HasRoomBehind}

push_map : {X Y : Type 0} (f : X → Y) (xs : List X) (ys ys' : List Y) (x : X) → ys ≡ map f xs → ys' ≡ ys ++ f x ∷ [] → ys' ≡ map f (xs ++ x ∷ [])
push_map f xs ys ys' x is added = added ∙ (ap (λ zs. zs ++ f x ∷ []) is ∙ sym (map-append f xs (x ∷ [])))

-- one more that is done
pub parts_more : (doers : List LaneDoer) (doer : LaneDoer) (lane : DoneLane) (passes passes' : List EnginePass) (texts texts' : List (List (List ℕ))) (logs logs' : List Log) (counts counts' : List (Vec Counts Global))
    → AreParts doers passes texts logs counts → doer.done ≡ Some lane → passes' ≡ passes ++ lane.pass ∷ [] → texts' ≡ texts ++ lane.work.answers ∷ [] → logs' ≡ logs ++ lane.work.log ∷ [] → counts' ≡ counts ++ lane.work.counts ∷ []
    → AreParts (doers ++ doer ∷ []) passes' texts' logs' counts'
parts_more doers doer lane passes passes' texts texts' logs logs' counts counts' parts is pushed told noted counted = record {
  done = parts.done ++ lane ∷ [];
  all_done = map-append (λ (d : LaneDoer). d.done) doers (doer ∷ []) ∙ ((λ i. parts.all_done i ++ is i ∷ []) ∙ sym (map-append Some parts.done (lane ∷ [])));
  passes_are = push_map (λ (d : DoneLane). d.pass) parts.done passes passes' lane parts.passes_are pushed;
  texts_are = push_map (λ (d : DoneLane). d.work.answers) parts.done texts texts' lane parts.texts_are told;
  logs_are = push_map (λ (d : DoneLane). d.work.log) parts.done logs logs' lane parts.logs_are noted;
  counts_are = push_map (λ (d : DoneLane). d.work.counts) parts.done counts counts' lane parts.counts_are counted;
}

-- room for one more
pub has_room : {X : Type 0} (old new : Vec X Global) → new.items ≡ old.items → vec_len new + 1 ≤ vec_capacity new → HasRoomBehind old new
has_room old new same fits = (same, omega (arith, fits))

-- what stands behind is one more than before
pub put_behind : {X : Type 0} (old with_room : Vec X Global) (new : List X) (x : X) → HasRoomBehind old with_room → new ≡ with_room.items ++ x ∷ [] → new ≡ old.items ++ x ∷ []
put_behind old with_room new x room added = added ∙ ap (λ xs. xs ++ x ∷ []) room.0
