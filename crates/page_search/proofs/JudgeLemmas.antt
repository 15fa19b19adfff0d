-- What the first fields tell of a tuple and a key.
use Rattle.std.proofs.Common.{◌≡◌, ℕ, ◌<◌, ◌≤◌, Bool, List, [], ◌∷◌, length, get_or, refl, sym, ap, ap₂, subst, ◌∙◌, arith, Ordering, Less, Equal, Greater}
use Rattle.std.specs.Ordering.{nat_cmp, is_lt}
use Rattle.std.specs.Cmp.Lexicographic.{slice_cmp}
use Rattle.key_tuple.specs.Order.{FieldList}
use Rattle.key_tuple.specs.declared.mode.Mode.{Mode}
use Rattle.key_tuple.specs.declared.mode.Mode.TheVariants.{Ge, G, Le, L}
use Rattle.key_tuple.specs.declared.mode.Match.{Match}
use Rattle.page_search.specs.declared.agreement.Agreement.{Agreement}
use Rattle.page_search.specs.Agreeing.{AgreesTo, agreed}
use Rattle.page_search.specs.Cuts.{admits_at}
use Rattle.page_search.specs.Judging.{Judges}
use Rattle.key_tuple.specs.Figures.{equal_bytes}
use Rattle.page_search.proofs.AgreeLemmas.{begin_at, next_at, differ_at, figures_at, figures_end, upto_end, all_equal}
use Rattle.page_search.proofs.ByteLemmas.{bytes_itself}
use Rattle.page_search.proofs.CutLemmas.{admits_is}

-- a cut admits what is above the tuple, whichever its mode
admits_above : (mode : Mode) (o : Ordering) → (o ≡ Equal → ⊥) → is_lt o ≡ admits_at mode o
admits_above mode Equal other = absurd (other refl)
admits_above Ge Less other = refl
admits_above Ge Greater other = refl
admits_above G Less other = refl
admits_above G Greater other = refl
admits_above Le Less other = refl
admits_above Le Greater other = refl
admits_above L Less other = refl
admits_above L Greater other = refl

-- bytes of a first field are those of some field
pub first_some : (tuple : FieldList) (first : List ℕ) → first ≡ get_or tuple 0 [] → 0 < length first → 0 < length tuple
first_some [] first is some = absurd (omega (arith, some, ap length is))
first_some (x ∷ xs) first is some = omega arith

-- figures of so many fields and bytes
pub match_is : (f : Agreement) {n b : ℕ} → (agreed f).fields ≡ n → (agreed f).bytes ≡ b → agreed f ≡ (let m : Match = record { fields = n; bytes = b } in m)
match_is f fields bytes = ap₂ (λ (n b : ℕ). let m : Match = record { fields = n; bytes = b } in m) fields bytes

pub apart_judged : (mode : Mode) (tuple key : FieldList) (less : Bool) (f : Agreement) → 0 < length tuple → length tuple ≤ length key
    → less ≡ is_lt (slice_cmp nat_cmp (get_or tuple 0 []) (get_or key 0 [])) → (agreed f).fields ≡ 0 → (agreed f).bytes ≡ equal_bytes (get_or tuple 0 []) (get_or key 0 [])
    → (slice_cmp nat_cmp (get_or tuple 0 []) (get_or key 0 []) ≡ Equal → ⊥) → Judges mode tuple key (record { admitted = less; figures = f })
apart_judged mode tuple key less f some long is no_fields bytes other =
    let o = slice_cmp nat_cmp (get_or tuple 0 []) (get_or key 0 []) in
    let d = differ_at 0 o (begin_at tuple key 0 (omega arith)) some (omega (arith, some, long)) refl other in
    record {
      admitted = is ∙ admits_above mode o other ∙ admits_is mode tuple key o d.0;
      figures = match_is f no_fields refl ∙ figures_at tuple key 0 (agreed f).bytes d.1 bytes;
    }

pub whole_judged : (mode : Mode) (tuple key : FieldList) (admitted : Bool) (f : Agreement) → (agreed f).fields ≡ 1 → (agreed f).bytes ≡ 0 → length tuple ≡ 1 → 1 ≤ length key → get_or tuple 0 [] ≡ get_or key 0 [] → admitted ≡ admits_at mode Equal
    → Judges mode tuple key (record { admitted = admitted; figures = f })
whole_judged mode tuple key admitted f one_field bytes one some same is =
    let tied : slice_cmp nat_cmp (get_or tuple 0 []) (get_or key 0 []) ≡ Equal =
    subst (λ (x : List ℕ). slice_cmp nat_cmp (get_or tuple 0 []) x ≡ Equal) same (bytes_itself (get_or tuple 0 [])) in
    let upto = upto_end (next_at 0 (begin_at tuple key 0 (omega arith)) (omega (arith, one)) (omega (arith, some)) tied) (omega (arith, one)) in
    record {
      admitted = is ∙ admits_is mode tuple key Equal (sym (all_equal upto).0);
      figures = match_is f one_field bytes ∙ figures_end 1 upto (sym one);
    }

-- where no field is known to be equal, so many first bytes of the first fields are
pub starts_equal : (tuple key : FieldList) (from : Match) (first other : List ℕ) (start : ℕ) → AgreesTo tuple key from → from.fields ≡ 0 → first ≡ get_or tuple 0 [] → other ≡ get_or key 0 [] → start ≡ from.bytes → start ≤ equal_bytes first other
starts_equal tuple key from first other start agrees none first_is other_is start_is =
    let bytes : from.bytes ≤ equal_bytes (get_or tuple 0 []) (get_or key 0 []) = subst (λ (n : ℕ). from.bytes ≤ equal_bytes (get_or tuple n []) (get_or key n [])) none agrees.bytes in
    rw (start_is, first_is, other_is) bytes
