-- The page behind two halves, in a split of frames in hand.
use Rattle.std.proofs.Common.{◌≡◌, ◌≢◌, ℕ, false, List, sym, ap, subst, ◌∙◌, arith, Option, Some, None}
use Rattle.std.proofs.lemmas.Bool.{ne_eqb}
use Rattle.std.specs.List.{AllByRecursion}
use Rattle.index_page.specs.declared.head.PageHead.{PageHead}
use Rattle.tree_law.specs.Pages.{Page, is_own}
use Rattle.index_law.specs.Shape.{Shape}
use Rattle.forest_law.specs.declared.objects.Frame.{Frame}
use Rattle.forest_law.specs.declared.objects.Object.{Object}
use Rattle.forest_law.specs.State.{bound, page_within}
use Rattle.forest_law.specs.Steps.{InHand, ClockStands, MakesFrameStep, IsNoFrameOf}
use Rattle.forest_law.specs.Restructures.{beyond_steps}
use Rattle.tree_restructure.specs.Links.{RelinksNext}
use Rattle.tree_restructure.specs.Parts.{frame_ids}
use Rattle.tree_restructure.specs.Splits.{NextTakesPart, next_hands}
use Rattle.tree_restructure.proofs.FrameLemmas.{same_under, goes, was_orderly, was_own}

-- the page behind, where there is one
module _ (shape : Shape) (before news : List (Option Object)) (right : ℕ) (hand : InHand) where
  abbrev pub beyond_page : Page → (o : Option ℕ) → RelinksNext right o hand.old hand.new → Page
  beyond_page none None x = none
  beyond_page none (Some n) x = page_within x.0.page hand.old.low hand.old.high

  abbrev pub beyond_prev : (o : Option ℕ) → RelinksNext right o hand.old hand.new → Option ℕ
  beyond_prev None x = None
  beyond_prev (Some n) x = x.0.page.head.prev

  pub beyond_tree : (o : Option ℕ) (x : RelinksNext right o hand.old hand.new)
      → NextTakesPart shape before news o hand → o ≢ Some right → (n : ℕ) → o ≡ Some n
      → (is_own n (beyond_prev o x) ≡ false) × (is_own n (Some right) ≡ false)
  beyond_tree None x part apart n e = absurd cc
  beyond_tree (Some m) x part apart n e = let same : m ≡ n = cc in (
    subst (λ k. is_own k x.0.page.head.prev ≡ false) same
        (was_own shape before news m false hand part x.0.page x.0.had),
    ne_eqb right n (λ q. apart (ap Some (same ∙ sym q))),
  )

  pub beyond_stands : (o : Option ℕ) → RelinksNext right o hand.old hand.new → ClockStands hand
  beyond_stands None x = omega (arith, ap (λ (f : Frame). f.clock) x)
  beyond_stands (Some n) x = omega (arith, ap (λ (f : Frame). f.clock) x.0.kept)

  pub beyond_makes : (none : Page) (o : Option ℕ) (x : RelinksNext right o hand.old hand.new)
      → NextTakesPart shape before news o hand
      → AllByRecursion (MakesFrameStep shape before news)
      (beyond_steps o hand (beyond_page none o x) (beyond_prev o x) (Some right))
  beyond_makes none None x part = tt
  beyond_makes none (Some n) x part =
      let r = x.0 in
      let old = was_orderly shape before news n false hand part r.page r.had in
      let was = page_within r.page hand.old.low hand.old.high in
      let is : Page = record was { prev = Some right } in (
        goes shape before news n false hand part r.page r.new was is r.had x.1 (assumption)
            (ap (λ (f : Frame). f.page) r.kept) (ap (λ (h : PageHead). h.number) r.head ∙ x.1)
            (same_under r.new hand.new is r.head (assumption)
            (ap (λ (f : Frame). bound f.low) r.kept) (ap (λ (f : Frame). bound f.high) r.kept)
            r.rows)
            r.order (assumption old),
        tt,
      )

  pub beyond_apart : (page : Page) (q r : Option ℕ) (k : ℕ) (o : Option ℕ)
      → IsNoFrameOf shape k (beyond_steps o hand page q r)
      → AllByRecursion (λ (j : ℕ). k ≢ j) (frame_ids shape (next_hands o hand))
  beyond_apart page q r k None a = tt
  beyond_apart page q r k (Some n) a = (a.0, tt)
