-- Pages that take part in a step, and those that do not.
use Rattle.std.proofs.Common.{◌≡◌, ◌≢◌, ◌⊎◌, inl, inr, ℕ, List, [], ◌∷◌, map, Option, Some, refl, sym, ap, ◌∙◌}
use Rattle.std.specs.List.{AllByRecursion}
use Rattle.std.proofs.lemmas.Bool.{cases_eq}
use mathlib.Core.Option.{some}
use lib.ListN.{get_elem?}
use Rattle.tree_law.specs.Pages.{Page}
use Rattle.tree_law.proofs.LeafLemmas.{each_in}
use Rattle.index_law.specs.Shape.{Shape}
use Rattle.forest_law.specs.declared.objects.Where.{Where}
use Rattle.forest_law.specs.declared.objects.Where.TheVariants.{Free, InFrame, Image}
use Rattle.forest_law.specs.declared.objects.Object.{Object}
use Rattle.forest_law.specs.declared.objects.Object.TheVariants as object
use Rattle.forest_law.specs.Numbers.{pool_id, frame_id}
use Rattle.forest_law.specs.State.{page_of, page_stored, images_of, image_at, page_where}
use Rattle.forest_law.specs.Turns.{Turn, IsSeen, IsApart, IsTurned}
use Rattle.forest_law.specs.Steps.{FrameStep}

-- the turn of a frame's page
abbrev pub turn_of : FrameStep → Turn
turn_of s = record {
  number = s.number;
  from = InFrame s.hand.block;
  to = InFrame s.hand.block;
  old = Some s.was;
  new = Some s.is;
}

-- the turns of some steps
abbrev pub turns_of : List FrameStep → List Turn
turns_of steps = map turn_of steps

-- what holds of each in two ways
pub each_both : {A : Type 0} (P Q : A → Type 0) (xs : List A) → AllByRecursion P xs
    → AllByRecursion Q xs → AllByRecursion (λ (x : A). P x × Q x) xs
each_both P Q [] a b = tt
each_both P Q (x ∷ xs) a b = ((a.0, b.0), each_both P Q xs a.1 b.1)

-- what follows for each
pub each_so : {A : Type 0} (P Q : A → Type 0) (xs : List A) → ((x : A) → P x → Q x)
    → AllByRecursion P xs → AllByRecursion Q xs
each_so P Q [] f a = tt
each_so P Q (x ∷ xs) f a = (f x a.0, each_so P Q xs f a.1)

-- a page takes part, or it doesn't
pub takes_part : (n : ℕ) (turns : List Turn) → IsApart n turns ⊎ IsTurned turns n
takes_part n [] = inl tt
takes_part n (t ∷ ts) = elim (cases_eq n t.number) [
  | inl e ↦ inr (record { turn = t; among = inl refl; number = sym e })
  | inr ne ↦ elim (takes_part n ts) [
    | inl rest ↦ inl (ne, rest)
    | inr found ↦ inr (record { turn = found.turn; among = inr found.among; number = found.number })
  ]
]

-- a page can't both take part and not
pub not_apart : (n m : ℕ) (turns : List Turn) → n ≡ m → IsApart n turns → IsTurned turns m → ⊥
not_apart n m turns e apart turned =
    each_in (λ (t : Turn). n ≢ t.number) turns apart turned.turn turned.among
    (e ∙ sym turned.number)

-- what is seen in hand is so in the state
pub seen_where : (sh : Shape) (xs : List Object) (held : List (Option Object))
    → ((k : ℕ) (x : Object) → get_elem? held k ≡ some (Some x) → get_elem? xs k ≡ some x)
    → (n : ℕ) (w : Where) (page : Option Page) → IsSeen sh held n w page
    → page_where sh xs n w ≡ page
seen_where sh xs held at n Free page s = sym s
seen_where sh xs held at n (InFrame b) page s =
    ap page_of (at (frame_id sh b) (object.Frame s.2.frame) s.2.at) ∙ (s.2.has.is ∙ sym s.1)
seen_where sh xs held at n Image page s =
    ap (λ o. page_stored (image_at (images_of o) n)) (at pool_id (object.Pool s.2.pool) s.2.at)
    ∙ (ap page_stored s.2.stored ∙ (ap Some s.2.has.is ∙ sym s.1))
