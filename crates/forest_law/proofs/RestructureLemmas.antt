-- Splits, merges, raises, lifts and rearrangements in hand follow.
use Rattle.std.proofs.Common.{◌≡◌, ℕ, suc, inl, inr, true, false, [], ◌∷◌, ◌++◌, List, sym, ap, subst, ◌∙◌, refl, Option, Some, None}
use Rattle.std.specs.List.{AllByRecursion}
use Rattle.index_page.specs.Rows.{Row}
use Rattle.tree_law.specs.Pages.{Page, is_own}
use Rattle.tree_law.specs.PageChanges.{PageChange, page_change, taken_back}
use Rattle.tree_law.specs.PageMoves.{TwoHalves, whole_page, left_page, right_page, beyond_changes, halves_changes, IsMove, Splits, Merges, Raises, Lifts, Rearrange}
use Rattle.clock_law.specs.ModifyClock.{KeysStay}
use Rattle.clock_law.proofs.LaterLemmas.{keys_between, rows_stay, neighbour_stays}
use Rattle.index_law.specs.Shape.{Shape}
use Rattle.forest_law.specs.declared.objects.Object.{Object}
use Rattle.forest_law.specs.Turns.{page_changes}
use Rattle.forest_law.specs.Budget.{Pays}
use Rattle.forest_law.specs.HashKept.{KeepsHash}
use Rattle.forest_law.specs.Law.{Follows}
use Rattle.forest_law.specs.Steps.{InHand, FrameStep, frame_step, ClockStands, ClockSuits}
use Rattle.forest_law.specs.Restructures.{HandsOfHalves, up_before, up_after, beyond_steps, split_steps, merge_steps, raise_steps, lift_steps, SplitsInHand, MergesInHand, RaisesInHand, LiftsInHand, RearrangesInHand}
use Rattle.forest_law.specs.StepLaws.{RestructuresFollow}
use Rattle.forest_law.proofs.FrameStepLemmas.{turns_of, frames_follow}
use Rattle.forest_law.proofs.HeightLemmas.{heights_stay, heights_move}
use Rattle.forest_law.proofs.PayingLemmas.{split_is_paid, merge_is_paid, raise_is_paid, lift_is_paid, rearrange_is_paid}
use Rattle.forest_law.proofs.OneOutsideLemmas.{not_outside}

-- another left neighbour raises no clock
beyond_clocks : (o : Option ℕ) (b : InHand) (page : Page) (q r : Option ℕ) → ClockStands b
    → ((n : ℕ) → o ≡ Some n → (is_own n q ≡ false) × (is_own n r ≡ false))
    → AllByRecursion ClockSuits (beyond_steps o b page q r)
beyond_clocks None b page q r stands trees = tt
beyond_clocks (Some n) b page q r stands trees = let t = trees n refl in
    (inr (stands, neighbour_stays n page q r t.0 t.1), tt)

-- nor does it bring a page outside the trees
beyond_inside : (P : FrameStep → Type 0) (o : Option ℕ) (b : InHand) (page : Page) (q r : Option ℕ)
    → ((n : ℕ) → o ≡ Some n → is_own n r ≡ false)
    → AllByRecursion (λ s. is_own s.number s.is.prev ≡ true → P s) (beyond_steps o b page q r)
beyond_inside P None b page q r trees = tt
beyond_inside P (Some n) b page q r trees = ((λ own. not_outside n r (trees n refl) own), tt)

-- one row more behind one of others
one_more : (fore aft : List Row) (this new : Row)
    → KeysStay (fore ++ this ∷ aft) (fore ++ this ∷ new ∷ aft)
one_more [] aft this new r among = keys_between (this ∷ []) aft new r among
one_more (x ∷ xs) aft this new r (inl e) =
    record { row = r; among = inl e; place_is = refl; key_is = refl }
one_more (x ∷ xs) aft this new r (inr i) = let rest = one_more xs aft this new r i in record {
  row = rest.row;
  among = inr rest.among;
  place_is = rest.place_is;
  key_is = rest.key_is;
}

beyond_are : (o : Option ℕ) (hand : InHand) (page : Page) (q r : Option ℕ)
    → page_changes (turns_of (beyond_steps o hand page q r)) ≡ beyond_changes o page q r
beyond_are None hand page q r = refl
beyond_are (Some n) hand page q r = refl

beyond_back : (o : Option ℕ) (hand : InHand) (page : Page) (q r : Option ℕ)
    → page_changes (turns_of (beyond_steps o hand page r q))
    ≡ taken_back (beyond_changes o page q r)
beyond_back None hand page q r = refl
beyond_back (Some n) hand page q r = refl

module _ (left right parent : ℕ) (h : TwoHalves left right parent) (hands : HandsOfHalves) where
  -- the three changes of a split, before others
  abbrev cut_before : List PageChange → List PageChange
  cut_before rest =
      page_change left (whole_page left right parent h) (left_page left right parent h)
      ∷ page_change right h.fresh (right_page left right parent h)
      ∷ page_change parent (up_before left right parent h) (up_after left right parent h)
      ∷ rest

  split_changes : page_changes (turns_of (split_steps left right parent h hands))
      ≡ halves_changes left right parent h
  split_changes =
      ap cut_before (beyond_are h.page.next hands.beyond h.beyond h.whole_prev h.cut_prev)

  merge_changes : page_changes (turns_of (merge_steps left right parent h hands))
      ≡ taken_back (halves_changes left right parent h)
  merge_changes = ap (λ rest. taken_back (cut_before []) ++ rest)
      (beyond_back h.page.next hands.beyond h.beyond h.whole_prev h.cut_prev)

module _ (sh : Shape) (before news : List (Option Object)) where
  -- a split follows
  pub split_follows : SplitsInHand sh before news → KeepsHash sh before news
      → Follows sh before news None
  split_follows s hash = let h = s.split.halves in
      let steps = split_steps s.left s.right s.parent h s.hands in
      frames_follow sh before news steps [] s.make None (
        inl s.left_rises,
        (
          inl s.right_rises,
          (
            inr (
              s.up_stands,
              rows_stay s.parent (up_before s.left s.right s.parent h)
                  (h.fore ++ h.this ∷ h.new ∷ h.aft) (one_more h.fore h.aft h.this h.new),
            ),
            beyond_clocks h.page.next s.hands.beyond h.beyond h.whole_prev h.cut_prev s.beyond_stands
                h.beyond_tree,
          ),
        ),
      )
      (λ hs hs' lead maps maps' same. inr
      (subst (IsMove hs hs' maps maps') (sym (split_changes s.left s.right s.parent h s.hands))
      (Splits s.left s.right s.parent s.split
      (heights_stay sh before news steps s.make hs hs' lead) same))) tt
      (subst (Pays sh None) (sym (split_changes s.left s.right s.parent h s.hands))
      (split_is_paid sh s.left s.right s.parent s.split s.due))
      (inl (
        (λ own. own),
        (
          (λ own. h.right_own),
          (
            (λ own. own),
            beyond_inside (λ s. is_own s.number s.was.prev ≡ true) h.page.next s.hands.beyond
                h.beyond h.whole_prev h.cut_prev (λ n e. (h.beyond_tree n e).1),
          ),
        ),
      )) hash

  -- a merge follows
  pub merge_follows : MergesInHand sh before news → KeepsHash sh before news
      → Follows sh before news None
  merge_follows m hash = let h = m.merge.halves in
      let steps = merge_steps m.left m.right m.parent h m.hands in
      frames_follow sh before news steps [] m.make None (
        inl m.left_rises,
        (
          inl m.right_rises,
          (
            inl m.up_rises,
            beyond_clocks h.page.next m.hands.beyond h.beyond h.cut_prev h.whole_prev m.beyond_stands
                (λ n e. (let t = h.beyond_tree n e in (t.1, t.0))),
          ),
        ),
      )
      (λ hs hs' lead maps maps' same. inr
      (subst (IsMove hs hs' maps maps') (sym (merge_changes m.left m.right m.parent h m.hands))
      (Merges m.left m.right m.parent m.merge
      (heights_stay sh before news steps m.make hs hs' lead) same))) tt
      (subst (Pays sh None) (sym (merge_changes m.left m.right m.parent h m.hands))
      (merge_is_paid sh m.left m.right m.parent m.merge m.small))
      (inr (
        m.alone,
        m.right,
        (
          not_outside m.left h.page.prev h.left_tree,
          (
            (λ own. refl),
            (
              not_outside m.parent h.up.prev h.up_tree,
              beyond_inside (λ s. s.number ≡ m.right) h.page.next m.hands.beyond h.beyond h.cut_prev
                  h.whole_prev (λ n e. (h.beyond_tree n e).0),
            ),
          ),
        ),
      )) hash

  -- a raise follows
  pub raise_follows : RaisesInHand sh before news → KeepsHash sh before news
      → Follows sh before news None
  raise_follows r hash = let m = r.moves in
      let steps = raise_steps r.root r.under r.storeys m.top m.below in
      frames_follow sh before news steps (m.tree ∷ []) m.make None
      (inl m.top_rises, (inl m.below_rises, tt))
      (λ hs hs' lead maps maps' same.
      (let on = heights_move sh before news steps m.tree m.make hs hs' lead in
      inr (Raises r.root r.under r.storeys
      (record {
        height = ap hs' (sym m.index) ∙ (on.is ∙ (r.height
            ∙ ap suc (sym on.was ∙ ap hs m.index)));
        heights = λ i ne. sym (on.others i (λ e. ne (e ∙ m.index)));
      }) same))) tt (raise_is_paid sh r.root r.under r.storeys r.two)
      (inl ((λ own. own), ((λ own. r.storeys.under_own), tt))) hash

  -- a lift follows
  pub lift_follows : LiftsInHand sh before news → KeepsHash sh before news
      → Follows sh before news None
  lift_follows r hash = let m = r.moves in
      let steps = lift_steps r.root r.under r.storeys m.top m.below in
      frames_follow sh before news steps (m.tree ∷ []) m.make None
      (inl m.top_rises, (inl m.below_rises, tt))
      (λ hs hs' lead maps maps' same.
      (let on = heights_move sh before news steps m.tree m.make hs hs' lead in
      inr (Lifts r.root r.under r.storeys
      (record {
        height = ap hs (sym m.index) ∙ (on.was ∙ (r.height
            ∙ ap suc (sym on.is ∙ ap hs' m.index)));
        heights = λ i ne. on.others i (λ e. ne (e ∙ m.index));
      }) same))) tt (lift_is_paid sh r.root r.under r.storeys)
      (inr (r.alone, r.under, (not_outside r.root None refl, ((λ own. refl), tt)))) hash

  -- a page that is rearranged follows
  pub rearrange_follows : RearrangesInHand sh before news → KeepsHash sh before news
      → Follows sh before news None
  rearrange_follows r hash =
      let step = frame_step r.hand r.number r.page (record r.page { rows = r.rows }) in
      frames_follow sh before news (step ∷ []) [] r.make None (inl r.rises, tt)
      (λ hs hs' lead maps maps' same. inr (Rearrange r.number
      (record { page = r.page; rows = r.rows; same = r.same })
      (heights_stay sh before news (step ∷ []) r.make hs hs' lead) same)) tt
      (rearrange_is_paid sh r.number (record { page = r.page; rows = r.rows; same = r.same }))
      (inl ((λ own. own), tt)) hash

pub restructures_follow : RestructuresFollow
restructures_follow = assumption (split_follows, merge_follows, raise_follows, lift_follows, rearrange_follows)
