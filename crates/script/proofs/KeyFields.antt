-- The fields of a key, one word's piece after another.
use Rattle.std.proofs.Common.{◌≡◌, ℕ, ◌+◌, ◌≤◌, true, false, eqb, leb, List, [], ◌∷◌, ◌++◌, length, Option, Some, None, Ok, Err, refl, sym, ap, subst, ◌∙◌, append-nil, arith}
use Rattle.std.proofs.lemmas.List.{length-append}
use Rattle.std.proofs.lemmas.Bool.{eq-eqb, ne_eqb, le-leb, lt-leb}
use Rattle.key_tuple.specs.Order.{FieldList}
use Rattle.key_tuple.specs.Parts.{parts, RiseTo}
use Rattle.key_tuple.proofs.PartsLemmas.{length-parts, parts-push, RiseTo-push}
use Rattle.script.specs.declared.error.Flaw.{Flaw}
use Rattle.script.specs.declared.error.Flaw.TheVariants.{BadLine}
use Rattle.script.specs.declared.error.Refusal.{Refusal}
use Rattle.script.specs.declared.error.Refusal.TheVariants as refusal
use Rattle.script.specs.Grammar.{in_front, behind, field_of, fields_in, exactly, at_most}
use Rattle.script.specs.Steps.{Fails, or_bad}
use Rattle.script.proofs.Results.{some_of, given}
use Rattle.script.proofs.Steps.{behind_in_front, behind_nothing}

too_long : (n : ℕ) (front : FieldList) (f : Option (List ℕ)) (o : Option FieldList) → length front ≡ n → at_most n (behind front (in_front f o)) ≡ None
too_long n front None o e = refl
too_long n front (Some x) None e = refl
too_long n front (Some x) (Some xs) e =
    let long : length (front ++ x ∷ xs) ≡ length front + length (x ∷ xs) = length-append front (x ∷ xs) in
    let over : leb (length (front ++ x ∷ xs)) n ≡ false = lt-leb _ _ (omega (arith, long)) in
    rw over refl

-- one field more than there may be
pub one_too_many : (n : ℕ) (whole : Option FieldList) (front : FieldList) (left : List (List ℕ)) (text : List ℕ) (texts : List (List ℕ))
    → whole ≡ behind front (fields_in left) → left ≡ text ∷ texts → length front ≡ n → or_bad (at_most n whole) ≡ Err BadLine
one_too_many n whole front left text texts told steps long = rw (told, steps, too_long n front (field_of text) (fields_in texts) long) refl

flawed : (n : ℕ) (front : FieldList) (f : Option (List ℕ)) (o : Option FieldList) (e : Flaw) → or_bad f ≡ Err e → or_bad (at_most n (behind front (in_front f o))) ≡ Err e
flawed n front None o e h = let f : BadLine ≡ e = cc in ap Err f
flawed n front (Some x) o e h = absurd cc

-- a field that is none
pub no_field : (n : ℕ) (whole : Option FieldList) (front : FieldList) (left : List (List ℕ)) (text : List ℕ) (texts : List (List ℕ)) (e : Refusal)
    → whole ≡ behind front (fields_in left) → left ≡ text ∷ texts → Fails e (or_bad (field_of text)) → Fails e (or_bad (at_most n whole))
no_field n whole front left text texts refusal.NoMemory told steps h = tt
no_field n whole front left text texts (refusal.Flawed f) told steps h = rw (told, steps) (flawed n front (field_of text) (fields_in texts) f h)

-- what was put behind others
record IsPut (front : List ℕ) (o : Option (List ℕ)) (new : List ℕ) : Type 0 where
  more : List ℕ
  there : o ≡ Some more
  joined : front ++ more ≡ new

is_put : (front : List ℕ) (o : Option (List ℕ)) (new : List ℕ) → or_bad (behind front o) ≡ Ok new → IsPut front o new
is_put front None new h = absurd cc
is_put front (Some x) new h = record { more = x; there = refl; joined = cc }

unread_behind : (front : List ℕ) (o : Option (List ℕ)) (e : Flaw) → or_bad (behind front o) ≡ Err e → or_bad o ≡ Err e
unread_behind front None e h = h
unread_behind front (Some x) e h = absurd cc

-- a field that isn't put behind others is none
pub not_put : (front : List ℕ) (o : Option (List ℕ)) (e : Refusal) → Fails e (or_bad (behind front o)) → Fails e (or_bad o)
not_put front o refusal.NoMemory h = tt
not_put front o (refusal.Flawed f) h = unread_behind front o f h

-- the fields so far lie in one buffer, and those that are left are to come behind them
pub record AreSoFar (whole : Option FieldList) (bytes ends : List ℕ) (left : List (List ℕ)) : Type 0 where
  pub told : whole ≡ behind (parts bytes 0 ends) (fields_in left)
  pub rise : RiseTo 0 ends (length bytes)

-- before the first field
pub none_so_far : (whole : Option FieldList) (bytes ends : List ℕ) (left : List (List ℕ)) → bytes ≡ [] → ends ≡ [] → whole ≡ fields_in left → AreSoFar whole bytes ends left
none_so_far whole bytes ends left none no_ends is = rw (none, no_ends) (record { told = is ∙ sym (behind_nothing (fields_in left)); rise = refl })

-- one field more, right behind them
field_there : (whole : Option FieldList) (bytes ends more : List ℕ) (left : List (List ℕ)) (text : List ℕ) (texts : List (List ℕ))
    → AreSoFar whole bytes ends left → left ≡ text ∷ texts → field_of text ≡ Some more → AreSoFar whole (bytes ++ more) (ends ++ length (bytes ++ more) ∷ []) texts
field_there whole bytes ends more left text texts old steps there =
    let long : length (bytes ++ more) ≡ length bytes + length more = length-append bytes more in
    let parts_more = parts-push bytes more 0 ends (length (bytes ++ more)) old.rise long in
    record {
      told = old.told ∙ rw (steps, there, parts_more) (behind_in_front (parts bytes 0 ends) more (fields_in texts));
      rise = RiseTo-push 0 ends (length bytes) (length (bytes ++ more)) old.rise (omega (arith, long));
    }

-- one field more
pub field_more : (whole : Option FieldList) (bytes ends new ends' : List ℕ) (left : List (List ℕ)) (text : List ℕ) (texts : List (List ℕ))
    → AreSoFar whole bytes ends left → left ≡ text ∷ texts → or_bad (behind bytes (field_of text)) ≡ Ok new → ends' ≡ ends ++ length new ∷ [] → AreSoFar whole new ends' texts
field_more whole bytes ends new ends' left text texts old steps h e =
    let put = is_put bytes (field_of text) new h in
    let there = field_there whole bytes ends put.more left text texts old steps put.there in
    let joined = subst (λ (ys : List ℕ). AreSoFar whole ys (ends ++ length ys ∷ []) texts) put.joined there in
    subst (λ (es : List ℕ). AreSoFar whole new es texts) (sym e) joined

-- where no piece is left, these are all fields
pub all_there : (n : ℕ) (whole : Option FieldList) (bytes ends : List ℕ) (left : List (List ℕ)) → AreSoFar whole bytes ends left → left ≡ [] → length ends ≤ n
    → or_bad (at_most n whole) ≡ Ok (parts bytes 0 ends)
all_there n whole bytes ends left so_far none few =
    let front = parts bytes 0 ends in
    let fits : leb (length front) n ≡ true = le-leb _ _ (omega (arith, few, length-parts bytes 0 ends)) in
    rw (so_far.told, none, append-nil front, fits) refl

-- where there are at most so many fields, they are a key's if they are as many
pub as_many : (n : ℕ) (o : Option FieldList) (fields : FieldList) → or_bad (at_most n o) ≡ Ok fields → length fields ≡ n → or_bad (exactly n o) ≡ Ok fields
as_many n None fields h count = absurd cc
as_many n (Some xs) fields h count =
    let kept = given (leb (length xs) n) xs fields (some_of _ _ h) in
    let same : eqb (length xs) n ≡ true = eq-eqb _ _ (ap length kept.1 ∙ count) in
    rw same (ap Ok kept.1)

pub too_few : (n : ℕ) (o : Option FieldList) (fields : FieldList) → or_bad (at_most n o) ≡ Ok fields → (length fields ≡ n → ⊥) → or_bad (exactly n o) ≡ Err BadLine
too_few n None fields h other = absurd cc
too_few n (Some xs) fields h other =
    let kept = given (leb (length xs) n) xs fields (some_of _ _ h) in
    let same : eqb (length xs) n ≡ false = ne_eqb _ _ (λ is. other (sym (ap length kept.1) ∙ is)) in
    rw same refl
