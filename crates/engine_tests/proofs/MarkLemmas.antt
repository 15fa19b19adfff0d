-- A cursor that a pass may restore, whatever the pass does.
use Rattle.std.proofs.Common.{◌≡◌, ℕ, false, sym, ap, subst, ◌∙◌}
use Rattle.latch_law.specs.declared.knows.Terms.{Terms}
use Rattle.latch_space.specs.Passes.{view}
use Rattle.index_law.specs.Shape.{Shape}
use Rattle.forest_law.specs.declared.objects.Object.TheVariants as object
use Rattle.forest_law.specs.Numbers.{frame_id}
use Rattle.forest_law.specs.State.{fields_for}
use Rattle.latch_law.specs.Views.{holding}
use Rattle.forest_world.specs.Held.{TreePass, shape_of_pass}
use Rattle.call_law.specs.Spoken.{View}
use Rattle.call_law.specs.Trace.{Added, Adds}
use Rattle.buffer_pool.specs.Frames.{GivesFrame}
use Rattle.buffer_pool.proofs.AddedLemmas.{gave_adds}
use Rattle.tree_descent.specs.Ways.{HoldsPage}
use Rattle.tree_cursor.specs.declared.cursor.Cursor.{Cursor}
use Rattle.tree_cursor.specs.Storing.{Stores}
use Rattle.tree_cursor.proofs.ReferLemmas.{references_stay, stored_cursors_refer}
use Rattle.engine_tests.specs.Marks.{MayRefill, IsMarked}

-- its key has room still
pub room_stays : (v v' : View) (c : Cursor) → v'.terms ≡ v.terms → MayRefill v c
    → MayRefill v' c
room_stays v v' c same fits = record {
  fields = fits.fields ∙ sym (ap (λ (t : Terms Shape). fields_for t.shape 0) same);
  room = fits.room ∙ sym (ap (λ (t : Terms Shape). fields_for t.shape 0) same);
}

-- it may be restored still
pub marks_stay : (v v' : View) (added : Added) (c : Cursor) → Adds v v' added → IsMarked v c
    → IsMarked v' c
marks_stay v v' added c adds marked = record {
  fits = room_stays v v' c adds.numbers.terms marked.fits;
  referred = references_stay v v' added c adds marked.referred;
}

-- also once a frame was given back
pub marks_given : (p q : TreePass) (b : ℕ) (c : Cursor) → GivesFrame p b q → IsMarked (view p) c
    → IsMarked (view q) c
marks_given p q b c gave marked = marks_stay (view p) (view q) _ c
    (gave_adds (view p) (view q) (frame_id (shape_of_pass p) b)
    (holding gave.taken (object.Frame gave.frame)) gave.view) marked

-- a cursor that was stored may be restored once its leaf is given back
pub stored_marks : (p q : TreePass) (b : ℕ) (place : _) (c : Cursor) → HoldsPage (view p) b 0 0
    → Stores (view p) b place c → GivesFrame p b q → IsMarked (view q) c
stored_marks p q b place c holds stored gave = let s = stored 0 holds in record {
  fits = room_stays (view p) (view q) c gave.hand.terms (record { fields = s.fields; room = s.room });
  referred = stored_cursors_refer p q b 0 place c holds stored gave;
}
