-- What is read of a leaf in hand is what it is known to be.
use Rattle.std.proofs.Common.{◌≡◌, ℕ, ◌≤◌, ◌<◌, Bool, Option, Some, None, length, sym, ap, subst, ◌∙◌, refl}
use Rattle.std.specs.Prelude.{IfSome}
use denote.Ref.{Bor}
use Rattle.list_facts.proofs.Places.{same_some}
use Rattle.key_tuple.specs.Order.{FieldList}
use Rattle.key_tuple.specs.KeyPlace.{KeyPlace}
use Rattle.key_tuple.specs.Parts.{Buffered}
use Rattle.latch_space.specs.Has.{IsKnown}
use Rattle.latch_space.specs.Passes.{view}
use Rattle.index_page.specs.Page.{PageRows}
use Rattle.clock_law.specs.ModifyClock.{HasKeyAt, last_clock}
use Rattle.tree_law.specs.Pages.{Page, HasFields}
use Rattle.forest_law.specs.declared.objects.Frame.{Frame}
use Rattle.forest_law.specs.State.{bound, fields_for, page_within}
use Rattle.forest_world.specs.Held.{TreePass, HasFrame, shape_of_pass}
use Rattle.buffer_pool.proofs.CallLemmas.{frame_has}
use Rattle.tree_descent.specs.Ways.{HoldsPage}
use Rattle.tree_descent.proofs.PageLemmas.{read_fields, read_high}
use Rattle.tree_cursor.specs.declared.cursor.Cursor.{Cursor}
use Rattle.page_view.specs.Taking.{IsPlaceIn}
use Rattle.tree_cursor.specs.Cursors.{StandsAt}
use Rattle.tree_cursor.specs.Fills.{MayFill}
use Rattle.tree_cursor.specs.Pieces.{count_lent, HoldsStand}
use Rattle.tree_cursor.specs.Telling.{MayTell}

module _ (p : TreePass) (known : IsKnown p) (b i : ℕ) (h : HoldsPage (view p) b i 0) (found : Frame)
    (reads : (f g : Frame) → HasFrame p b f g → found ≡ g) where
  pub found_is : found ≡ h.frame
  found_is = reads h.frame h.frame (frame_has p known b h.frame h.knows)

  pub found_paged : found.page ≡ Some h.is.page
  found_paged = ap (λ (f : Frame). f.page) found_is ∙ h.is.paged

  pub page_is : (page : PageRows) → found.page ≡ Some page → page ≡ h.is.page
  page_is page paged = same_some page h.is.page (sym paged ∙ found_paged)

  pub fields_are : h.is.page.head.fields ≡ fields_for (shape_of_pass p) i
  fields_are = read_fields (shape_of_pass p) b i 0 h.frame h.is h.order h.is.page refl

  pub ends_are : HasFields h.is.page.head.fields (bound found.high)
  ends_are = read_high (shape_of_pass p) b i 0 h.frame h.is h.order h.is.page refl found found_is

  -- a cursor that stands at a place has its key there
  key_at : (page : Page) (place : Option ℕ) (key : FieldList) (after : Bool)
      → StandsAt page place key after → IfSome place (λ n. HasKeyAt page.rows n key)
  key_at page None key after stands = tt
  key_at page (Some place) key after stands = stands

  pub kept_key : (c : Cursor) (low : KeyPlace) (stand : HoldsStand (view p) b i c low)
      → stand.holds.frame ≡ h.frame → stand.holds.is.page ≡ h.is.page → b ≡ c.block
      → found.clock ≡ c.clock → c.clock < last_clock
      → IfSome c.place (λ place. HasKeyAt h.is.page.rows place c.key.tuple)
  kept_key c low stand one same block clock below =
      subst (λ (x : PageRows). IfSome c.place (λ place. HasKeyAt x.rows place c.key.tuple)) same
      (key_at (page_within stand.holds.is.page stand.holds.frame.low stand.holds.frame.high) c.place c.key.tuple c.after
      (stand.at block
      (ap (λ (f : Frame). f.clock) one ∙ (ap (λ (f : Frame). f.clock) (sym found_is) ∙ clock)) below))

  -- rows may be taken of it
  pub may_fill : (start : Option ℕ) (low : KeyPlace) (c : Cursor)
      (may : MayTell (view p) b i start low c) → may.holds.is.page ≡ h.is.page
      → MayFill found h.is.page start c
  may_fill start low c may same = record {
    paged = found_paged;
    level = h.is.at_level;
    there = subst (λ (x : PageRows). IsPlaceIn x.rows start) same may.there;
    high = ends_are;
    fields = may.fields ∙ sym fields_are;
    room = may.room ∙ sym fields_are;
  }

-- a lent tuple has as many fields as are counted
pub lent_count : (to : Option (Bor Buffered)) (n : ℕ) → count_lent to ≤ n
    → IfSome to (λ t. length t.now.fields ≤ n)
lent_count None n few = tt
lent_count (Some t) n few = few
