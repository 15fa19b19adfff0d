-- What a reference of a cursor's leaf says.
use Rattle.std.proofs.Common.{◌≡◌, ℕ, suc, List, [], ◌∷◌, length, inl, inr, refl, sym, ap, subst, ◌∙◌}
use mathlib.Core.Option.{some}
use lib.ListN.{get_elem?}
use Rattle.atomic_table.proofs.Lists.{at_last, at_longer}
use Rattle.latch_law.specs.declared.knows.Terms.{Terms}
use Rattle.latch_law.specs.Whole.{reference}
use Rattle.latch_space.specs.Passes.{view}
use Rattle.clock_law.specs.ModifyClock.{NumberedPage}
use Rattle.index_page.specs.Page.{PageRows}
use Rattle.tree_law.specs.TreeShape.{In}
use Rattle.index_law.specs.Shape.{Shape}
use Rattle.forest_law.specs.declared.objects.Frame.{Frame}
use Rattle.forest_law.specs.declared.objects.Object.TheVariants as object
use Rattle.forest_law.specs.Numbers.{frame_id}
use Rattle.forest_world.specs.Held.{TreePass, shape_of_pass}
use Rattle.call_law.specs.Hands.{KnowsFrame}
use Rattle.call_law.specs.Spoken.{View}
use Rattle.buffer_pool.specs.Frames.{GivesFrame}
use Rattle.buffer_pool.specs.Pages.{HasTreePage}
use Rattle.engine_law.proofs.KnownLemmas.{gave_known, same_page}
use Rattle.tree_neighbours.proofs.HandLemmas.{gave_page}
use Rattle.tree_cursor.specs.declared.cursor.Cursor.{Cursor}
use Rattle.tree_cursor.specs.Cursors.{HasCursor}
use Rattle.tree_cursor.specs.CursorLaws.{FramesRefer, GivenFramesRefer, StoredCursorsRefer, ReferencesStay}
use Rattle.tree_cursor.proofs.RestoreLemmas.{guard_of}

-- what is among some others stands at a number
place_among : {A : Type 0} (x : A) (xs : List A) → In x xs → (n : ℕ) × (get_elem? xs n ≡ some x)
place_among x [] among = absurd among
place_among x (y ∷ ys) (inl is) = (0, ap some (sym is))
place_among x (y ∷ ys) (inr among) = let rest = place_among x ys among in (suc rest.0, rest.1)

pub frames_refer : FramesRefer
frames_refer v c q f among object_is released has =
    let at = place_among q v.references among in record {
      nth = at.0;
      said = q;
      there = at.1;
      object_is = object_is;
      frame = f;
      released = released;
      has = has;
    }

pub references_stay : ReferencesStay
references_stay v v' added c adds r = record {
  nth = r.nth;
  said = r.said;
  there = ap (λ qs. get_elem? qs r.nth) adds.references
      ∙ at_longer v.references added.references r.nth r.said r.there;
  object_is = r.object_is
      ∙ ap (λ (t : Terms Shape). frame_id t.shape c.block) (sym adds.numbers.terms);
  frame = r.frame;
  released = r.released;
  has = r.has;
}

pub given_frames_refer : GivenFramesRefer
given_frames_refer p q c f knows has gave =
    let k = frame_id (shape_of_pass p) c.block in
    let said = reference k gave.taken (object.Frame gave.frame) in record {
      nth = length (view p).references;
      said = said;
      there = ap (λ (v : View). get_elem? v.references (length (view p).references)) gave.view
          ∙ at_last (view p).references said (length (view p).references) refl;
      object_is = ap (λ (t : Terms Shape). frame_id t.shape c.block) (sym gave.hand.terms);
      frame = gave.frame;
      released = refl;
      has = subst (λ (g : Frame). HasCursor g c) (gave_known p q c.block f knows gave) has;
    }

pub stored_cursors_refer : StoredCursorsRefer
stored_cursors_refer p q b i place c h stored gave = let s = stored i h in
    given_frames_refer p q c h.frame
    (subst (λ n. KnowsFrame (view p) n h.frame) (sym s.block) h.knows) s.has
    (subst (λ n. GivesFrame p n q) (sym s.block) gave)

-- a cursor on a leaf of an index is one of that index
cursor_index : (f : Frame) (i : ℕ) (c : Cursor) → HasTreePage f i 0 → (has : HasCursor f c)
    → has.page.index ≡ i
cursor_index f i c is has =
    let guard = guard_of f (record { number = c.page; page = has.page }) has.guards in
    sym (ap (λ (x : NumberedPage). x.page.index) guard.is)
    ∙ (ap (λ (x : PageRows). x.head.index) (same_page f f is.page guard.rows refl is.paged guard.paged)
    ∙ is.index)

-- and so is the one that the reference says
pub given_index : (p q : TreePass) (i : ℕ) (c : Cursor) (f : Frame)
    → (knows : KnowsFrame (view p) c.block f) → (has : HasCursor f c)
    → (gave : GivesFrame p c.block q) → HasTreePage f i 0
    → (given_frames_refer p q c f knows has gave).has.page.index ≡ i
unfolding given_frames_refer
given_index p q i c f knows has gave is =
    cursor_index gave.frame i c (gave_page p q c.block i f knows is gave)
    (given_frames_refer p q c f knows has gave).has
