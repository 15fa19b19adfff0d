-- Passes that are joined, from the last to the first.
use Rattle.std.proofs.Common.{◌≡◌, ℕ, zero, suc, ◌+◌, List, [], ◌∷◌, ◌++◌, length, refl, ap, sym, ◌∙◌, arith}
use Rattle.std.proofs.lemmas.List.{append-nil}
use mathlib.Core.Option.{some, some-injective, some-ne-none}
use lib.ListN.{get_elem?}
use Rattle.latch_law.specs.Views.{both_parts}
use Rattle.list_facts.specs.Parts.{longer}
use Rattle.call_law.specs.Spoken.{View, OwnAnswer}
use Rattle.index_law.specs.State.{Entries}
use Rattle.search_info.specs.Parts.{joined_parts}
use Rattle.search_info.specs.declared.knows.Knows.{Knows}
use Rattle.search_info.specs.declared.knows.Try.{Try}
use Rattle.lane_threads.specs.Engine.{Engine, EnginePass, known, lessons_of, IsOf}
use Rattle.lane_threads.specs.Gathered.{Gathers}

longer_none : (xs : List Entries) → longer xs [] ≡ xs
longer_none [] = refl
longer_none (x ∷ xs) = refl

-- one pass is all there is
pub gathers_one : (engine : Engine) (p : EnginePass) → IsOf engine p → Gathers engine (p ∷ []) p
gathers_one engine p own = record {
  own = own;
  low = λ q e. ap (λ (z : EnginePass). (known z).low) (some-injective p q e);
  end = end;
  sizes = λ q e. ap (λ (z : EnginePass). z.sizes) (some-injective p q e);
  said = sym (append-nil (known p).said);
  seen = sym (longer_none (known p).seen);
  tries = sym (append-nil (lessons_of p).tries);
  references = sym (append-nil (known p).references);
}
  where
    end : (k : ℕ) (q : EnginePass) → get_elem? (p ∷ []) k ≡ some q → length (p ∷ []) ≡ k + 1 → (known p).end ≡ (known q).end
    end zero q e long = ap (λ (z : EnginePass). (known z).end) (some-injective p q e)
    end (suc k) q e long = absurd (some-ne-none q (sym e))

-- one more goes before those that are joined
pub gathers_more : (engine : Engine) (p p' r : EnginePass) (rs : List EnginePass) (whole : EnginePass) → IsOf engine p' → p'.sizes ≡ p.sizes → known p' ≡ both_parts (known p) (known whole) → lessons_of p' ≡ joined_parts (lessons_of p) (lessons_of whole) → Gathers engine (r ∷ rs) whole → Gathers engine (p ∷ r ∷ rs) p'
gathers_more engine p p' r rs whole own sizes joined taught gathers = record {
  own = own;
  low = λ q e. ap (λ (v : View). v.low) joined ∙ ap (λ (z : EnginePass). (known z).low) (some-injective p q e);
  end = end;
  sizes = λ q e. sizes ∙ ap (λ (z : EnginePass). z.sizes) (some-injective p q e);
  said = ap (λ (v : View). v.said) joined ∙ ap (λ (s : List OwnAnswer). (known p).said ++ s) gathers.said;
  seen = ap (λ (v : View). v.seen) joined ∙ ap (λ (s : List Entries). longer (known p).seen s) gathers.seen;
  tries = ap (λ (m : Knows). m.tries) taught ∙ ap (λ (ts : List Try). (lessons_of p).tries ++ ts) gathers.tries;
  references = ap (λ (v : View). v.references) joined ∙ ap (λ s. (known p).references ++ s) gathers.references;
}
  where
    end : (k : ℕ) (q : EnginePass) → get_elem? (p ∷ r ∷ rs) k ≡ some q → length (p ∷ r ∷ rs) ≡ k + 1 → (known p').end ≡ (known q).end
    end zero q e long = absurd (omega arith)
    end (suc k) q e long = ap (λ (v : View). v.end) joined ∙ gathers.end k q e (omega arith)
