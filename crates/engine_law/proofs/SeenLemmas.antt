-- What a step adds to the own answers, and to what was seen.
use Rattle.std.proofs.Common.{◌≡◌, ◌≢◌, ⊎_elim, inl, inr, ℕ, zero, suc, ◌≤◌, List, [], ◌∷◌, ◌++◌, append-nil, length, length-append, set, sym, ap, ◌∙◌, arith, refl, Contains}
use Rattle.std.proofs.lemmas.Bool.{cases_eq}
use mathlib.Core.Option.{some}
use lib.ListN.{get_elem?}
use Rattle.atomic_table.proofs.Lists.{set_here, set_else, at_set}
use Rattle.latch_law.specs.Fitting.{Extends}
use Rattle.list_facts.proofs.Places.{inside}
use Rattle.map_history.specs.LegalReport.{Mark}
use Rattle.index_law.specs.State.{Entries}
use Rattle.call_law.specs.Spoken.{View, OwnAnswer}
use Rattle.call_law.specs.Trace.{SameNumbers, SeesMore, Added, Adds, IsOnlySaid}

-- own answers, and nothing else
abbrev pub said_alone : List OwnAnswer → Added
said_alone qs = record { said = qs; refused = []; references = [] }

-- a pass that said something more, and did nothing else, adds just that
pub adds_said : (v v' : View) (qs : List OwnAnswer) → SameNumbers v v' → v'.said ≡ v.said ++ qs
    → v'.refused ≡ v.refused → v'.references ≡ v.references → SeesMore v v'
    → Adds v v' (said_alone qs)
adds_said v v' qs numbers said refused references seen = record {
  numbers = numbers;
  said = said;
  refused = refused ∙ sym (append-nil v.refused);
  references = references ∙ sym (append-nil v.references);
  seen = seen;
}

-- that nothing else was done is plain then
pub said_alone_only : (qs : List OwnAnswer) → IsOnlySaid (said_alone qs)
said_alone_only qs = record { refused = refl; references = refl }

-- a list of one mark has that mark alone
pub one_mark : (m n : Mark) → Contains (m ∷ []) n → m ≡ n
one_mark m n (zero, below, is) = is
one_mark m n (suc k, below, is) = absurd (omega (arith, below))

module _ (v : View) (i : ℕ) (list : Entries) (extends : Extends v i list)
    (seen' : List Entries) (is : seen' ≡ set v.seen i list) where
  -- what was seen is still seen once a longer list is
  pub more_seen : (j : ℕ) (ys : Entries) → get_elem? v.seen j ≡ some ys
      → (zs : Entries) × (get_elem? seen' j ≡ some (ys ++ zs))
  more_seen j ys at = elim (cases_eq j i) [
    | inl same ↦ (let more = extends ys (ap (get_elem? v.seen) (sym same) ∙ at) in (
      more.0,
      (λ k. get_elem? (is k) (same k))
          ∙ (set_here v.seen i list
          (inside v.seen i ys (ap (get_elem? v.seen) (sym same) ∙ at)) ∙ ap some (sym more.1)),
    ))
    | inr differs ↦ (
      [],
      ap (λ z. get_elem? z j) is
          ∙ (set_else v.seen i j list differs ∙ (at ∙ ap some (sym (append-nil ys)))),
    )
  ]

  -- what was seen of it is no longer than it
  pub extends_length : (ys : Entries) → get_elem? v.seen i ≡ some ys → length ys ≤ length list
  extends_length ys at = let more = extends ys at in let whole = ap length more.1 in
      omega (arith, whole, length-append ys more.0)

  -- of that index exactly the list is seen
  pub now_seen : (zs : Entries) → get_elem? seen' i ≡ some zs → list ≡ zs
  now_seen zs at = ⊎_elim (λ (here : (i ≡ i) × (list ≡ zs)). here.1)
      (λ (else : (i ≢ i) × (get_elem? v.seen i ≡ some zs)). absurd (else.0 refl))
      (at_set v.seen i i list zs (ap (λ z. get_elem? z i) (sym is) ∙ at))
