-- A change of a leaf's row in hand follows.
use Rattle.std.proofs.Common.{◌≡◌, inl, inr, ℕ, [], ◌∷◌, ◌++◌, List, length, sym, ap, subst, ◌∙◌, arith, refl, Option, Some, None}
use mathlib.Core.Logic.{dite}
use native.Mathlib.Decide.{ℕ_discrete}
use Rattle.map_history.specs.Map.{Map, MapChange, Ascends, key_of, value_of, write}
use Rattle.index_page.specs.Rows.{Row}
use Rattle.tree_law.specs.Pages.{Page, row_pairs}
use Rattle.tree_law.specs.PageMoves.{WritesPage, Writes}
use Rattle.tree_law.specs.ContentLaws.{BecomeWritten}
use Rattle.tree_law.proofs.ContentLemmas.{rows_are_written}
use Rattle.clock_law.specs.ModifyClock.{KeysStay}
use Rattle.clock_law.proofs.LaterLemmas.{keys_between, rows_stay}
use Rattle.index_law.specs.Answers.{MadeChange}
use Rattle.index_law.specs.Shape.{Shape}
use Rattle.forest_law.specs.declared.objects.Object.{Object}
use Rattle.forest_law.specs.Turns.{page_changes}
use Rattle.forest_law.specs.Trees.{MapsLead}
use Rattle.forest_law.specs.HashKept.{KeepsHash}
use Rattle.forest_law.specs.Law.{Follows}
use Rattle.forest_law.specs.Steps.{InHand, FrameStep, frame_step, ClockSuits, MakeSteps}
use Rattle.forest_law.specs.RowSteps.{SetsRow, ChangesRow, ChangesLeaf}
use Rattle.forest_law.specs.StepLaws.{RowChangesFollow}
use Rattle.forest_law.proofs.FrameStepLemmas.{turns_of, frames_follow}
use Rattle.forest_law.proofs.HeightLemmas.{heights_stay}
use Rattle.forest_law.proofs.PayingLemmas.{rest_is_paid, row_is_paid}

-- a row that is replaced by one of the same key at the same place keeps all keys' places
replaced_stay : (left right : List Row) (row after : Row) → after.key ≡ row.key
    → after.place ≡ row.place → KeysStay (left ++ row ∷ right) (left ++ after ∷ right)
replaced_stay [] right row after key place r (inl e) = record {
  row = after;
  among = inl refl;
  place_is = place ∙ sym (ap (λ (z : Row). z.place) e);
  key_is = key ∙ sym (ap (λ (z : Row). z.key) e);
}
replaced_stay [] right row after key place r (inr i) =
    record { row = r; among = inr i; place_is = refl; key_is = refl }
replaced_stay (x ∷ xs) right row after key place r (inl e) =
    record { row = r; among = inl e; place_is = refl; key_is = refl }
replaced_stay (x ∷ xs) right row after key place r (inr i) =
    let rest = replaced_stay xs right row after key place r i in record {
      row = rest.row;
      among = inr rest.among;
      place_is = rest.place_is;
      key_is = rest.key_is;
    }

module _ (c : MapChange) (old new : List Row) (clock clock' : ℕ) where
  -- rows that are written, at other names of the rows and of the change
  written_as : (o n : List Row) (d : MapChange) → old ≡ o → new ≡ n → c ≡ d
      → BecomeWritten o n (key_of d) (value_of d) → BecomeWritten old new (key_of c) (value_of c)
  written_as o n d was is same w =
      subst (λ (z : MapChange). BecomeWritten old new (key_of z) (value_of z)) (sym same)
      (subst (λ z. BecomeWritten z new (key_of d) (value_of d)) (sym was)
      (subst (λ z. BecomeWritten o z (key_of d) (value_of d)) (sym is) w))

  -- the rows become those with the change's value at its key
  pub change_writes : ChangesRow c old new clock clock'
      → BecomeWritten old new (key_of c) (value_of c)
  change_writes (inl i) = written_as _ _ _ i.was i.is i.is_put
      (rows_are_written.put i.below i.row i.above i.value i.body
      (subst (λ z. Ascends (row_pairs z)) i.is i.ascend))
  change_writes (inr (inl s)) = written_as _ _ _ s.was s.is s.is_set
      (rows_are_written.set s.left s.row s.after s.right s.before s.value s.had s.has s.key
      (subst (λ z. Ascends (row_pairs z)) s.was s.ascend))
  change_writes (inr (inr d)) = written_as _ _ _ d.was d.is d.is_del
      (rows_are_written.del d.left d.row d.right d.value d.body
      (subst (λ z. Ascends (row_pairs z)) d.was d.ascend))

module _ (hand : InHand) (n : ℕ) (page : Page) (rows : List Row) where
  abbrev step : FrameStep
  step = frame_step hand n page (record page { rows = rows })

  -- a clock that stays suits where the keys keep their places
  stays_suits : hand.new.clock ≡ hand.old.clock → KeysStay page.rows rows → ClockSuits step
  stays_suits same keys = inr (omega (arith, same), rows_stay n page rows keys)

  set_suits : (c : MapChange) → SetsRow c page.rows rows hand.old.clock hand.new.clock
      → ClockSuits step
  set_suits c s = dite (ℕ_discrete (length s.value) (length s.before))
      (λ is. let here = s.in_place is in stays_suits here.1
      (subst (λ z. KeysStay z rows) (sym s.was)
      (subst (KeysStay (s.left ++ s.row ∷ s.right)) (sym s.is)
      (replaced_stay s.left s.right s.row s.after s.key here.0))))
      (λ isnt. inl (s.anew isnt))

  -- the clock suits the change
  pub change_suits : (c : MapChange) → ChangesRow c page.rows rows hand.old.clock hand.new.clock
      → ClockSuits step
  change_suits c (inl i) = stays_suits i.clock_stays
      (subst (λ z. KeysStay z rows) (sym i.was)
      (subst (KeysStay (i.below ++ i.above)) (sym i.is) (keys_between i.below i.above i.row)))
  change_suits c (inr (inl s)) = set_suits c s
  change_suits c (inr (inr d)) = inl d.rises

module _ (sh : Shape) (before news : List (Option Object)) where
  -- a step in which all is at rest follows
  pub rest_follows : MakeSteps sh before news [] [] → KeepsHash sh before news
      → Follows sh before news None
  rest_follows make hash = frames_follow sh before news [] [] make None tt
      (λ h h' lead maps maps' same. inl (refl, heights_stay sh before news [] make h h' lead, same))
      tt (rest_is_paid sh) (inl tt) hash

  -- the leaf's row and the map become what the change makes of them
  row_writes : (d : ℕ × MadeChange) (c : ChangesLeaf sh before news d) (maps maps' : ℕ → Map)
      → MapsLead (Some d) maps maps' → WritesPage maps maps' c.number
  row_writes d c maps maps' change = let leaf = c.allows in
      let written = change_writes d.1.change c.page.rows c.rows c.hand.old.clock c.hand.new.clock
      c.changes in record {
        key = key_of d.1.change;
        value = value_of d.1.change;
        page = c.page;
        rows = c.rows;
        tree = leaf.tree;
        leaf = leaf.leaf;
        has = leaf.inside;
        row = written.rows;
        pointers = written.pointers;
        map_is = ap maps' leaf.index ∙ (change.0
            ∙ ap (λ i. write (key_of d.1.change) (value_of d.1.change) (maps i)) (sym leaf.index));
        maps_kept = λ i ne. change.1 i (λ e. ne (e ∙ sym leaf.index));
      }

  -- a change of a row follows
  pub row_follows : (d : ℕ × MadeChange) → ChangesLeaf sh before news d
      → KeepsHash sh before news → Follows sh before news (Some d)
  unfolding row_writes
  row_follows d c hash = let leaf = c.allows in
      frames_follow sh before news (step c.hand c.number c.page c.rows ∷ []) [] c.make (Some d)
      (change_suits c.hand c.number c.page c.rows d.1.change c.changes, tt)
      (λ h h' lead maps maps' change. inr (Writes c.number (row_writes d c maps maps' change)
      (heights_stay sh before news (step c.hand c.number c.page c.rows ∷ []) c.make h h' lead)))
      (record {
        number = c.number;
        block = c.hand.block;
        page = c.page;
        hand = record {
          frame = c.hand.old;
          at = c.make.each.0.becomes.0;
          has = c.make.each.0.had;
        };
        allows = leaf;
      })
      (row_is_paid sh d c.number (page_changes (turns_of (step c.hand c.number c.page c.rows ∷ [])))
      (λ maps maps' change. (row_writes d c maps maps' change, refl, refl)))
      (inl ((λ own. own), tt)) hash

pub row_changes_follow : RowChangesFollow
row_changes_follow = record { rest = rest_follows; row = row_follows }
