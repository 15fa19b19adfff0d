-- What calls add, one behind the other.
use Rattle.std.proofs.Common.{◌≡◌, ◌≢◌, ℕ, List, [], ◌∷◌, ◌++◌, sym, ap, subst, ◌∙◌, refl, append-nil}
use Rattle.std.specs.List.{AllByRecursion}
use lib.ListN.{get_elem?}
use Rattle.latch_law.specs.declared.knows.Reference.{Reference}
use Rattle.latch_law.specs.declared.knows.Terms.{Terms}
use Rattle.latch_space.specs.Passes.{view}
use Rattle.tree_law.specs.TreeShape.{In}
use Rattle.index_law.specs.Shape.{Shape}
use Rattle.forest_law.specs.declared.objects.Object.{Object}
use Rattle.forest_law.specs.declared.objects.Object.TheVariants as object
use Rattle.forest_law.specs.Numbers.{frame_id}
use Rattle.forest_world.specs.Held.{TreePass, shape_of_pass}
use Rattle.call_law.specs.Spoken.{View}
use Rattle.call_law.specs.Trace.{Added}
use Rattle.call_law.proofs.TraceLemmas.{both_added}
use Rattle.buffer_pool.specs.Calls.{Does, DoesSilently}
use Rattle.buffer_pool.specs.Frames.{GivesFrame}
use Rattle.buffer_pool.specs.Hands.{LacksFrame}
use Rattle.buffer_pool.proofs.AddedLemmas.{none_added, only_given, held_adds, none_spares}
use Rattle.buffer_pool.proofs.CallLemmas.{does_both, does_again, gave_frame}
use Rattle.tree_smo.specs.Remakes.{IsAsBefore}
use Rattle.tree_law.proofs.ListLemmas.{In-append_left, In-append_right}

module _ (p q : TreePass) (ks js : List ℕ)
    (fewer : (k : ℕ) → AllByRecursion (λ (j : ℕ). k ≢ j) js
    → AllByRecursion (λ (j : ℕ). k ≢ j) ks) where
  -- a call does so beside more objects
  pub does_weaker : (a : Added) → Does p q ks a → Does p q js a
  does_weaker a does = record {
    adds = does.adds;
    spares = does.spares;
    rest = λ k apart. does.rest k (fewer k apart);
    known = does.known;
  }

  pub silently_weaker : DoesSilently p q ks → DoesSilently p q js
  silently_weaker s = search (does_weaker s.added s.does)

-- a pass that is as before did nothing
pub silently_same : (p q : TreePass) → IsAsBefore p q → DoesSilently p q []
silently_same p q same = record {
  added = none_added;
  does = record {
    adds = held_adds (view p) (view q) (view p).held same.same_view;
    spares = none_spares (shape_of_pass p);
    rest = λ k apart. ap (λ (v : View). get_elem? v.held k) same.same_view;
    known = same.known;
  };
  silent = refl;
}

-- the shape stays
pub does_shape : (p q : TreePass) (ks : List ℕ) (a : Added) → Does p q ks a
    → shape_of_pass q ≡ shape_of_pass p
does_shape p q ks a does = ap (λ (t : Terms Shape). t.shape) does.adds.numbers.terms

-- a page is held while a call is made, and its frame given back
module _ (p q r s : TreePass) (b : ℕ) (took : DoesSilently p q (frame_id (shape_of_pass p) b ∷ []))
    (gave : GivesFrame r b s) where
  abbrev pub around_added : Added → Added
  around_added a = both_added (both_added took.added a)
      (only_given (frame_id (shape_of_pass r) b) gave.taken (object.Frame gave.frame))

  module _ (lacked : LacksFrame p b) (ids : Shape → List ℕ) (a : Added)
      (does : Does q r (frame_id (shape_of_pass q) b ∷ ids (shape_of_pass q)) a) where
    first : Does p q (frame_id (shape_of_pass p) b ∷ ids (shape_of_pass p)) took.added
    first = does_weaker p q (frame_id (shape_of_pass p) b ∷ [])
        (frame_id (shape_of_pass p) b ∷ ids (shape_of_pass p)) (λ k apart. (apart.0, tt))
        took.added took.does

    here : shape_of_pass q ≡ shape_of_pass p
    here = does_shape p q (frame_id (shape_of_pass p) b ∷ ids (shape_of_pass p)) took.added first

    two : Does p r (frame_id (shape_of_pass p) b ∷ ids (shape_of_pass p)) (both_added took.added a)
    two = does_both p q r (frame_id (shape_of_pass p) b ∷ ids (shape_of_pass p)) took.added a first
        (subst (λ (z : Shape). Does q r (frame_id z b ∷ ids z) a) here does)

    there : shape_of_pass r ≡ shape_of_pass p
    there = does_shape p r (frame_id (shape_of_pass p) b ∷ ids (shape_of_pass p))
        (both_added took.added a) two

    last : Does r s (frame_id (shape_of_pass p) b ∷ ids (shape_of_pass p))
        (only_given (frame_id (shape_of_pass r) b) gave.taken (object.Frame gave.frame))
    last = does_weaker r s (frame_id (shape_of_pass r) b ∷ [])
        (frame_id (shape_of_pass p) b ∷ ids (shape_of_pass p))
        (λ k apart. (λ e. apart.0 (e ∙ ap (λ (z : Shape). frame_id z b) there), tt))
        (only_given (frame_id (shape_of_pass r) b) gave.taken (object.Frame gave.frame))
        (gave_frame r s does.known b gave)

    three : Does p s (frame_id (shape_of_pass p) b ∷ ids (shape_of_pass p)) (around_added a)
    three = does_both p r s (frame_id (shape_of_pass p) b ∷ ids (shape_of_pass p))
        (both_added took.added a)
        (only_given (frame_id (shape_of_pass r) b) gave.taken (object.Frame gave.frame)) two last

    -- the hand is as before, beside the objects of the call
    pub does_around : Does p s (ids (shape_of_pass p)) (around_added a)
    does_around = does_again p s (around_added a) (frame_id (shape_of_pass p) b)
        (ids (shape_of_pass p)) three
        (ap (λ (z : Shape). get_elem? (view s).held (frame_id z b))
        (sym (does_shape p s (frame_id (shape_of_pass p) b ∷ ids (shape_of_pass p)) (around_added a)
        three)) ∙ (gave.lacks ∙ sym lacked))

  -- a reference of the call is among all that were added
  pub among_around : (x : Reference Object) (a : Added) → In x a.references
      → In x (around_added a).references
  among_around x a among = In-append_left x (took.added.references ++ a.references)
      (only_given (frame_id (shape_of_pass r) b) gave.taken (object.Frame gave.frame)).references
      (In-append_right x took.added.references a.references among)

  -- and what was said is what the call said
  pub said_around : (a : Added) → (around_added a).said ≡ a.said
  said_around a = append-nil (took.added.said ++ a.said)
      ∙ ap (λ qs. qs ++ a.said) took.silent
