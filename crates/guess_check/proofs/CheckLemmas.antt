-- The check as a test tells what the law of trees asks for, and nothing else.
use Rattle.std.proofs.Common.{◌≡◌, inl, inr, ◌≢◌, ℕ, Bool, true, false, not, cond, ◌&&◌, ◌||◌, Option, Some, None, is_none, List, length, refl, sym, ap, ◌∙◌}
use mathlib.Core.Bool.{beq}
use Rattle.std.proofs.lemmas.Bool.{true≢false, and_parts, and_from, or_cases, or_left, or_right, not-true, not_from_false, eqb-true, eq-eqb}
use Rattle.std.specs.Ordering.{is_eq}
use Rattle.list_facts.proofs.Orders.{is_equal}
use Rattle.key_tuple.specs.Order.{FieldList, tuple_cmp}
use Rattle.key_tuple.specs.KeyPlace.{KeyPlace, At, cut_of, looks_ahead, not_below, above}
use Rattle.key_tuple.specs.declared.mode.Mode.{Mode}
use Rattle.key_tuple.specs.declared.mode.Mode.TheVariants.{Ge, G, Le, L}
use Rattle.index_page.specs.declared.head.PageHead.{PageHead}
use Rattle.index_page.specs.Page.{PageRows}
use Rattle.index_page.specs.Rows.{Row, first_of_rows, last_of_rows}
use Rattle.tree_law.specs.GuessCheck.{PrevIsOut, NextIsIn, PassesCheck}
use Rattle.guess_check.specs.Check.{is_left_out, is_admitted, is_end, is_ge, is_the_key, meets, passes, told_of}
use Rattle.guess_check.specs.Laws.{page_between, CheckedRowsPass}

-- what is left out, and what is admitted
left_out : (cut : KeyPlace → Bool) (page : Option ℕ) (row : Option Row)
    → is_left_out cut page row ≡ true → PrevIsOut cut page row
left_out cut None None e = refl
left_out cut (Some n) None e = absurd cc
left_out cut page (Some row) e = not-true (cut (At row.key)) e

is_out_so : (cut : KeyPlace → Bool) (page : Option ℕ) (row : Option Row) → PrevIsOut cut page row
    → is_left_out cut page row ≡ true
is_out_so cut page None e = ap is_none e
is_out_so cut page (Some row) e = not_from_false (cut (At row.key)) e

admitted : (cut : KeyPlace → Bool) (page : Option ℕ) (row : Option Row)
    → is_admitted cut page row ≡ true → NextIsIn cut page row
admitted cut None None e = refl
admitted cut (Some n) None e = absurd cc
admitted cut page (Some row) e = e

is_in_so : (cut : KeyPlace → Bool) (page : Option ℕ) (row : Option Row) → NextIsIn cut page row
    → is_admitted cut page row ≡ true
is_in_so cut page None e = ap is_none e
is_in_so cut page (Some row) e = e

-- a row that passes the test passes the check
tells : (mode : Mode) (tuple : FieldList) (page : PageRows) (low high : Option FieldList)
    (left : List Row) (row : Row) (right : List Row)
    → passes mode tuple page.head left row right ≡ true
    → PassesCheck mode tuple (page_between page low high) left row right
tells Ge tuple page low high left row right e =
    let both = and_parts (not_below tuple (At row.key)) _ e in (
      both.0,
      elim (or_cases _ _ both.1) [
        | inl key ↦ let parts = and_parts (meets tuple row.key) _ key in
            inl (
              eqb-true (length tuple) page.head.fields parts.1,
              is_equal (tuple_cmp tuple row.key) parts.0,
            )
        | inr end ↦ inr (left_out (not_below tuple) page.head.prev (last_of_rows left) end)
      ],
    )
tells G tuple page low high left row right e =
    let both = and_parts (above tuple (At row.key)) _ e in
    (both.0, left_out (above tuple) page.head.prev (last_of_rows left) both.1)
tells Le tuple page low high left row right e =
    let both = and_parts (not (above tuple (At row.key))) _ e in (
      not-true (above tuple (At row.key)) both.0,
      admitted (above tuple) page.head.next (first_of_rows right) both.1,
    )
tells L tuple page low high left row right e =
    let both = and_parts (not (not_below tuple (At row.key))) _ e in (
      not-true (not_below tuple (At row.key)) both.0,
      admitted (not_below tuple) page.head.next (first_of_rows right) both.1,
    )

-- and a row that passes the check passes the test
told : (mode : Mode) (tuple : FieldList) (page : PageRows) (low high : Option FieldList)
    (left : List Row) (row : Row) (right : List Row)
    → PassesCheck mode tuple (page_between page low high) left row right
    → passes mode tuple page.head left row right ≡ true
told Ge tuple page low high left row right c =
    and_from _ _ c.0 (elim c.1 [
      | inl key ↦ or_left _ _ (and_from _ _ (ap is_eq key.1) (eq-eqb _ _ key.0))
      | inr end ↦ or_right _ _ (is_out_so (not_below tuple) page.head.prev (last_of_rows left) end)
    ])
told G tuple page low high left row right c =
    and_from _ _ c.0 (is_out_so (above tuple) page.head.prev (last_of_rows left) c.1)
told Le tuple page low high left row right c =
    and_from _ _ (not_from_false _ c.0)
    (is_in_so (above tuple) page.head.next (first_of_rows right) c.1)
told L tuple page low high left row right c =
    and_from _ _ (not_from_false _ c.0)
    (is_in_so (not_below tuple) page.head.next (first_of_rows right) c.1)

-- what is told where a test holds, and where it doesn't
some_tells : (b m x : Bool) → cond b (Some m) None ≡ Some x → (b ≡ true) × (m ≡ x)
some_tells true m x e = (refl, cc)
some_tells false m x e = absurd cc

none_tells : (b m : Bool) → cond b (Some m) None ≡ None → b ≡ true → ⊥
none_tells true m e so = cc
none_tells false m e so = cc

pub checked : CheckedRowsPass
checked = record {
  told = λ mode tuple page low high left row right found e.
      tells mode tuple page low high left row right
      (some_tells (passes mode tuple page.head left row right) (meets tuple row.key) found e).0;
  untold = λ mode tuple page low high left row right e c.
      none_tells (passes mode tuple page.head left row right) (meets tuple row.key) e
      (told mode tuple page low high left row right c);
  found = λ mode tuple page left row right e.
      is_equal (tuple_cmp tuple row.key)
      (some_tells (passes mode tuple page.head left row right) (meets tuple row.key) true e).1;
}

-- a test on the wrong side of the cut
wrong_side : (ahead past x y : Bool) → past ≢ ahead
    → cond ahead (past && x) (not past && y) ≡ false
wrong_side true true x y apart = absurd (apart refl)
wrong_side true false x y apart = refl
wrong_side false true x y apart = refl
wrong_side false false x y apart = absurd (apart refl)

-- nothing is told of a row on the wrong side of the cut
pub none_beyond : (mode : Mode) (tuple : FieldList) (head : PageHead) (left : List Row) (row : Row)
    (right : List Row) → cut_of mode tuple (At row.key) ≢ looks_ahead mode
    → told_of mode tuple head left row right ≡ None
none_beyond mode tuple head left row right apart =
    ap (λ b. cond b (Some (meets tuple row.key)) None)
    (wrong_side (looks_ahead mode) (cut_of mode tuple (At row.key))
    (is_the_key mode tuple head row || is_end mode tuple head left right)
    (is_end mode tuple head left right) apart)

-- a search for the first row that isn't below the tuple ends at the row with that very key
pub the_key_passes : (mode : Mode) (tuple : FieldList) (head : PageHead) (left : List Row)
    (row : Row) (right : List Row) → is_ge mode ≡ true
    → cut_of mode tuple (At row.key) ≡ looks_ahead mode → meets tuple row.key ≡ true
    → length tuple ≡ head.fields → told_of mode tuple head left row right ≡ Some true
the_key_passes Ge tuple head left row right ge side same fields =
    ap (λ b. cond b (Some (meets tuple row.key)) None)
    (and_from _ _ side (or_left _ _ (and_from _ _ same (eq-eqb _ _ fields)))) ∙ ap Some same
the_key_passes G tuple head left row right ge side same fields = absurd (true≢false (sym ge))
the_key_passes Le tuple head left row right ge side same fields = absurd (true≢false (sym ge))
the_key_passes L tuple head left row right ge side same fields = absurd (true≢false (sym ge))

-- what a comparison of two tests tells
pub apart_so : (a b : Bool) → not (beq a b) ≡ true → a ≢ b
apart_so true true e = λ _. absurd cc
apart_so true false e = λ same. absurd (true≢false same)
apart_so false true e = λ same. absurd (true≢false (sym same))
apart_so false false e = λ _. absurd cc

pub same_so : (a b : Bool) → not (beq a b) ≡ false → a ≡ b
same_so true true e = refl
same_so true false e = absurd cc
same_so false true e = absurd cc
same_so false false e = refl
