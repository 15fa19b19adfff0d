-- A pass came to a leaf that is alone in its hand, without a word; and what it said of it then.
use Rattle.std.proofs.Common.{◌≡◌, ◌⊎◌, inl, inr, ℕ, ◌≤◌, Option, [], ◌∷◌, ◌++◌, length, length-append, sym, ap, subst, ◌∙◌, refl, arith}
use mathlib.Core.Option.{some}
use lib.ListN.{get_elem?}
use Rattle.key_tuple.specs.Order.{FieldList}
use Rattle.latch_law.specs.declared.knows.Reference.{Reference}
use Rattle.latch_law.specs.declared.knows.Terms.{Terms}
use Rattle.latch_law.specs.Views.{holding}
use Rattle.latch_space.specs.Passes.{view, count}
use Rattle.map_history.specs.Map.{Map}
use Rattle.map_history.specs.Operation.{Ask}
use Rattle.map_history.specs.Report.{Columns}
use Rattle.index_law.specs.Shape.{Shape}
use Rattle.index_law.specs.State.{Entries}
use Rattle.forest_law.specs.declared.objects.Object.{Object}
use Rattle.forest_law.specs.Numbers.{frame_id}
use Rattle.forest_world.specs.Held.{TreePass, shape_of_pass}
use Rattle.call_law.specs.Hands.{HoldsTheRest}
use Rattle.call_law.specs.Spoken.{View}
use Rattle.call_law.specs.Trace.{Added, Adds, SameNumbers, SparesTrees}
use Rattle.call_law.proofs.TraceLemmas.{both_added, adds_both}
use Rattle.buffer_pool.specs.AsTaken.{AreAsTakenBut, Exception, HoldsAsTaken, IsAsTaken, KeepsAsHeld, NoException}
use Rattle.buffer_pool.proofs.AddedLemmas.{spares_both}
use Rattle.buffer_pool.proofs.AsTakenLemmas.{both_but, held_in, keeps_took, other_but}
use Rattle.scan_law.specs.ScanLaws.{ReadRange}
use Rattle.said_scans.specs.Ranges.{range_said}
use Rattle.tree_cursor.specs.declared.cursor.Cursor.{Cursor}
use Rattle.tree_cursor.specs.declared.pieces.Step.{Step}
use Rattle.tree_cursor.specs.EmptyPieces.{TellsEmpty, empty_range}
use Rattle.tree_cursor.specs.Pieces.{TellsPiece, GivesUp}
use Rattle.key_tuple.specs.KeyPlace.{KeyPlace}
use Rattle.index_seeks.proofs.SeekLearnLemmas.{none_held_of}

-- nothing was said, no tree was taken, and each frame that kept its page was given back as it was
-- taken, but for exceptions
pub record GoesSilently (but : Exception) (v v' : View) : Type 0 where
  pub added : Added
  pub adds : Adds v v' added
  pub silent : added.said ≡ []
  pub spares : SparesTrees v.terms.shape added
  pub as_taken : AreAsTakenBut but added.references

-- the same, and what is in hand then is as it was taken, but for exceptions
pub record ComesSilently (but : Exception) (v v' : View) : Type 0 where
  pub way : GoesSilently but v v'
  pub hand : (q : Reference Object) → held_in v' q → IsAsTaken q.taken q.released ⊎ but q

-- this range was said, and nothing else
pub record SaysOne (but : Exception) (v v' : View) (i : ℕ) (ask : Ask) (range : ReadRange) : Type 0
  where
    pub added : Added
    pub adds : Adds v v' added
    pub said : added.said ≡ range_said i v.low ask range ∷ []
    pub spares : SparesTrees v.terms.shape added
    pub as_taken : AreAsTakenBut but added.references
    pub least : (ys : Entries) → get_elem? v.seen i ≡ some ys → length ys ≤ range.piece.point
    pub most : (zs : Entries) → get_elem? v'.seen i ≡ some zs → range.piece.point ≤ length zs

-- trees that are spared, by the shape of another view of the space
pub spares_then : (v v' : View) (a b : Added) → Adds v v' a → SparesTrees v'.terms.shape b
    → SparesTrees v.terms.shape b
spares_then v v' a b adds spares =
    subst (λ (t : Terms Shape). SparesTrees t.shape b) adds.numbers.terms spares

module _ (but : Exception) (v v0 v1 : View) where
  pub silent_both : GoesSilently but v v0 → GoesSilently but v0 v1 → GoesSilently but v v1
  silent_both first second = record {
    added = both_added first.added second.added;
    adds = adds_both v v0 v1 first.added second.added first.adds second.adds;
    silent = (λ k. first.silent k ++ second.silent k);
    spares = spares_both v.terms.shape first.added second.added first.spares
        (spares_then v v0 first.added second.added first.adds second.spares);
    as_taken = both_but but first.added.references second.added.references first.as_taken
        second.as_taken;
  }

  -- a way without a word, and then a range was said
  pub silent_then_one : (i : ℕ) (ask : Ask) (range : ReadRange) → GoesSilently but v v0
      → SaysOne but v0 v1 i ask range → SaysOne but v v1 i ask range
  silent_then_one i ask range first one = record {
    added = both_added first.added one.added;
    adds = adds_both v v0 v1 first.added one.added first.adds one.adds;
    said = (λ k. first.silent k ++ (one.said
        ∙ ap (λ n. range_said i n ask range ∷ []) first.adds.numbers.low) k);
    spares = spares_both v.terms.shape first.added one.added first.spares
        (spares_then v v0 first.added one.added first.adds one.spares);
    as_taken = both_but but first.added.references one.added.references first.as_taken
        one.as_taken;
    least = λ ys at. (let more = first.adds.seen i ys at in
        let long = one.least (ys ++ more.0) more.1 in
        omega (arith, long, length-append ys more.0));
    most = one.most;
  }

-- where nothing is an exception, other things may be
pub silent_weaker : (but : Exception) (v v' : View) → GoesSilently NoException v v'
    → GoesSilently but v v'
silent_weaker but v v' goes = record {
  added = goes.added;
  adds = goes.adds;
  silent = goes.silent;
  spares = goes.spares;
  as_taken = other_but NoException but (λ q never. absurd never) goes.added.references
      goes.as_taken;
}

pub one_weaker : (but : Exception) (v v' : View) (i : ℕ) (ask : Ask) (range : ReadRange)
    → SaysOne NoException v v' i ask range → SaysOne but v v' i ask range
one_weaker but v v' i ask range one = record {
  added = one.added;
  adds = one.adds;
  said = one.said;
  spares = one.spares;
  as_taken = other_but NoException but (λ q never. absurd never) one.added.references one.as_taken;
  least = one.least;
  most = one.most;
}

-- what was given back as it was held, by a pass whose hand is as it was taken
module _ (but : Exception) (v v0 v1 : View) (comes : ComesSilently but v v0) (a : Added)
    (keeps : KeepsAsHeld v0 v1 a.references) where
  pub then_as_taken : AreAsTakenBut but a.references
  then_as_taken = other_but (held_in v0) but comes.hand a.references keeps.gave

-- a piece was told of the leaf to which it came
pub comes_then_piece : (but : Exception) (v : View) (p q : TreePass) (b i : ℕ) (ask : Ask)
    (to : Option FieldList) (c : Cursor) (place : KeyPlace) (left : ℕ) (columns : Columns)
    (old new : Map) (step : Step) (c' : Cursor) → ComesSilently but v (view p)
    → (t : TellsPiece p b i ask to c place left columns old new step c' q)
    → SaysOne but v (view q) i ask t.range
comes_then_piece but v p q b i ask to c place left columns old new step c' comes t =
    silent_then_one but v (view p) (view q) i ask t.range comes.way (record {
      added = t.added;
      adds = t.does.adds;
      said = t.said;
      spares = t.does.spares;
      as_taken = then_as_taken but v (view p) (view q) comes t.added t.keeps;
      least = λ ys at. subst (λ n. length ys ≤ n) (ap (λ z. z.point) (sym t.piece)) (t.least ys at);
      most = λ zs at. subst (λ n. n ≤ length zs) (ap (λ z. z.point) (sym t.piece)) (t.most zs at);
    })

-- or the one without rows
pub comes_then_none : (but : Exception) (v : View) (p q : TreePass) (b i : ℕ) (ask : Ask)
    (place : KeyPlace) (columns : Columns) (point : ℕ) → ComesSilently but v (view p)
    → TellsEmpty p b i ask place columns point q
    → SaysOne but v (view q) i ask (empty_range place point columns)
comes_then_none but v p q b i ask place columns point comes t =
    silent_then_one but v (view p) (view q) i ask (empty_range place point columns) comes.way (record {
      added = t.added;
      adds = t.does.adds;
      said = t.said;
      spares = t.does.spares;
      as_taken = then_as_taken but v (view p) (view q) comes t.added t.keeps;
      least = t.least;
      most = t.most;
    })

-- or memory lacked
pub comes_then_up : (but : Exception) (v : View) (p q : TreePass) (b i : ℕ)
    → ComesSilently but v (view p) → GivesUp p b i q → GoesSilently but v (view q)
comes_then_up but v p q b i comes up = silent_both but v (view p) (view q) comes.way (record {
  added = up.added;
  adds = up.does.adds;
  silent = up.silent;
  spares = up.does.spares;
  as_taken = then_as_taken but v (view p) (view q) comes up.added up.keeps;
})

-- a frame that a pass with nothing in hand took is all that it holds, as it was taken
pub hand_by_rest : (p q : TreePass) (b : ℕ) → count p ≡ 0 → SameNumbers (view p) (view q)
    → HoldsTheRest (view p) (view q) (frame_id (shape_of_pass p) b ∷ []) → HoldsAsTaken (view q) b
    → (r : Reference Object) → held_in (view q) r → IsAsTaken r.taken r.released
hand_by_rest p q b none numbers rest taken r held =
    elim ((keeps_took (view p) (view q) b numbers rest taken [] refl).hand r.object
    (holding r.taken r.released) held) [
      | inl was ↦ absurd (none_held_of p none r.object (holding r.taken r.released) was)
      | inr so ↦ so
    ]
