-- Frames after a step that succeeded or was refused.
use Rattle.std.proofs.Common.{◌≡◌, ℕ, Option, Some, None, option_and_then, Result, Ok, Err, OnErr, IfErr, IfSome, IsErrAnd, ◌⊎◌, inl, inr, sym, ap, subst, ◌∙◌, refl}
use Rattle.std.proofs.lemmas.Result.{err_from_is_err_and}
use Rattle.key_tuple.specs.Order.{FieldList}
use Rattle.list_facts.proofs.Places.{same_some}
use Rattle.index_page.specs.declared.error.PageError.{PageError}
use Rattle.index_page.specs.Page.{PageRows}
use Rattle.forest_law.specs.declared.objects.Frame.{Frame}
use Rattle.tree_restructure.specs.Cuts.{SuitsPages, CutsPage}
use Rattle.tree_restructure.specs.FrameCuts.{SuitsFrames, CutsIn}
use Rattle.tree_restructure.specs.Pointers.{pointer_refusal}
use Rattle.tree_restructure.specs.Raises.{SuitsRaise, SuitsRaiseFrames, RaisesPage, RaisesIn}
use Rattle.tree_restructure.specs.SplitCalls.{split_refusal}

-- what holds anyway holds after an error
pub on_err : {T E P : Type 0} (r : Result T E) → P → OnErr r P
on_err (Ok x) p = tt
on_err (Err e) p = p

-- a frame whose page is as before is as before
pub same_frame : (f : Frame) (page new : PageRows) → f.page ≡ Some page → new ≡ page
    → record f { page = Some new } ≡ f
same_frame f page new has same = λ i. record f { page = (ap Some same ∙ sym has) i }

-- what holds of a frame's page holds of it by each name
pub of_page : (P : PageRows → Type 0) (f : Frame) (page other : PageRows) → f.page ≡ Some page
    → f.page ≡ Some other → P page → P other
of_page P f page other has too p = subst P (same_some page other (sym has ∙ too)) p

-- pages of frames that can be cut can be cut
pub suits_pages : (l r : Frame) (page fresh : PageRows) (place : ℕ) (at : FieldList)
    → SuitsFrames l r place at → l.page ≡ Some page → r.page ≡ Some fresh
    → SuitsPages page fresh place at
suits_pages l r page fresh place at s has other =
    of_page (λ p. SuitsPages p fresh place at) l s.page page s.has has
    (of_page (λ p. SuitsPages s.page p place at) r s.fresh fresh s.has_fresh other s.suits)

-- so it is with pages that may rise
pub suits_raise : (t b : Frame) (page fresh : PageRows) → SuitsRaiseFrames t b
    → t.page ≡ Some page → b.page ≡ Some fresh → SuitsRaise page fresh
suits_raise t b page fresh s has other = of_page (λ p. SuitsRaise p fresh) t s.page page s.has has
    (of_page (SuitsRaise s.page) b s.fresh fresh s.has_fresh other s.suits)

-- frames whose pages were cut
pub cuts_in : (l r : Frame) (page stays fresh new : PageRows) (place : ℕ) (at : FieldList)
    → SuitsFrames l r place at → l.page ≡ Some page → r.page ≡ Some fresh
    → CutsPage page stays fresh new at
    → CutsIn l (record l { page = Some stays }) r (record r { page = Some new }) at
cuts_in l r page stays fresh new place at s had had_fresh cuts = record {
  page = page;
  stays = stays;
  fresh = fresh;
  new = new;
  had = had;
  had_fresh = had_fresh;
  left = refl;
  right = refl;
  blank = (suits_pages l r page fresh place at s had had_fresh).blank;
  cuts = cuts;
}

-- frames of which one rose over the other
pub raises_in : (t b : Frame) (page top fresh new : PageRows) → SuitsRaiseFrames t b
    → t.page ≡ Some page → b.page ≡ Some fresh → RaisesPage page top fresh new
    → RaisesIn t (record t { page = Some top }) b (record b { page = Some new })
raises_in t b page top fresh new s had had_fresh raises = record {
  page = page;
  top = top;
  fresh = fresh;
  new = new;
  had = had;
  had_fresh = had_fresh;
  root = refl;
  under = refl;
  blank = (suits_raise t b page fresh s had had_fresh).blank;
  raises = raises;
}

-- the parent refuses the pointer to the right frame's page
pub refusal_is : (u r : Frame) (at : FieldList) (fresh : PageRows) (number : ℕ)
    → r.page ≡ Some fresh → number ≡ fresh.head.number
    → pointer_refusal u at number ≡ split_refusal u r at
refusal_is u r at fresh number has same = ap (pointer_refusal u at) same
    ∙ sym (ap (option_and_then (λ (page : PageRows). pointer_refusal u at page.head.number)) has)

abbrev Placed : Type 0
Placed = Result ℕ PageError

-- what was done was not refused
pub not_refused : (o p : Option PageError) (place : ℕ) (r : Result (Unit {0}) PageError) → o ≡ p
    → IfSome o (λ e. ◌≡◌ {A = Placed} (Ok place) (Err e)) → IfSome p (λ e. r ≡ Err e)
not_refused None None place r same done = tt
not_refused None (Some e) place r same done = absurd cc
not_refused (Some d) None place r same done = absurd cc
not_refused (Some d) (Some e) place r same done = absurd cc

-- a refusal is handed on
pub refused_too : (o p : Option PageError) (x : PageError) (r : Result (Unit {0}) PageError)
    → o ≡ p → IfSome o (λ e. ◌≡◌ {A = Placed} (Err x) (Err e)) → IsErrAnd r (λ e. e ≡ x)
    → IfSome p (λ e. r ≡ Err e)
refused_too None None x r same refused is = tt
refused_too None (Some e) x r same refused is = absurd cc
refused_too (Some d) None x r same refused is = absurd cc
refused_too (Some d) (Some e) x r same refused is =
    let y = err_from_is_err_and r is in let q = y.1 in let w = y.2 in cc

-- so is its cause
pub caused_too : (o p : Option PageError) (x : PageError) (r : Result (Unit {0}) PageError)
    → o ≡ p → (x ≡ PageError.NoMemory) ⊎ (o ≡ Some x) → IsErrAnd r (λ e. e ≡ x)
    → IfErr r (λ e. (e ≡ PageError.NoMemory) ⊎ (p ≡ Some e))
caused_too o p x (Ok v) same cause is = tt
caused_too o p x (Err e) same (inl c) is = inl (is ∙ c)
caused_too o p x (Err e) same (inr c) is = inr (sym same ∙ c ∙ ap Some (sym is))
