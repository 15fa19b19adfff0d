-- Whole keys and the figures of their spots.
use Rattle.std.proofs.Common.{◌≡◌, ◌≢◌, ℕ, nat_eq, suc, ◌+◌, ◌<◌, Bool, true, false, cond, Some, List, [], ◌∷◌, ◌++◌, refl, sym, ap, ◌∙◌, subst, arith, length, append_assoc, take, drop}
use Rattle.std.proofs.lemmas.Cmp.{nat_list_eq_equiv}
use Rattle.std.proofs.lemmas.List.{take-append-drop}
use Rattle.std.specs.List.{AllByRecursion}
use Rattle.std.specs.Cmp.Lexicographic.{pointwise, same_text}
use Rattle.key_tuple.specs.Order.{FieldList}
use Rattle.key_tuple.specs.KeyPlace.{not_below}
use Rattle.key_tuple.specs.Figures.{equal_fields}
use Rattle.key_tuple.specs.declared.mode.Match.{Match}
use Rattle.key_tuple.specs.declared.mode.Mode.TheVariants.{Ge}
use Rattle.index_page.specs.declared.spot.Spot.{Spot}
use Rattle.index_page.specs.Rows.{Row, find_row, first_of_rows, IsAt, LacksKey}
use Rattle.index_page.specs.Page.{PageRows, RowsAscend, IsRowOf, IsPageInOrder}
use Rattle.index_page.specs.Search.{AllOut, AllIn, agreement, Finds, IsPosition}
use Rattle.index_page.specs.Laws.{HasKeyAfter, TellsKey}
use Rattle.list_facts.proofs.Each.{each_weaker, each_right}
use Rattle.index_page.proofs.RowLemmas.{ascends_right, find_stands, each_found, first_of_rows-drop}
use Rattle.index_page.proofs.CutLemmas.{first_with_key}

-- all fields of a key are equal to its own, and only to those
pub equal_fields-itself : (k : FieldList) → equal_fields k k ≡ length k
equal_fields-itself [] = refl
equal_fields-itself (x ∷ k) = ap (λ b. cond b (equal_fields k k + 1) 0) (nat_list_eq_equiv.refl x) ∙ omega (arith, equal_fields-itself k)

pub all_equal : (t k : FieldList) → length t ≡ length k → equal_fields t k ≡ length t → t ≡ k
all_equal [] [] l e = refl
all_equal [] (y ∷ k) l e = absurd (omega arith)
all_equal (x ∷ t) [] l e = absurd (omega arith)
all_equal (x ∷ t) (y ∷ k) l e = go (pointwise nat_eq x y) refl e (all_equal t k (omega arith))
  where
    go : (b : Bool) → pointwise nat_eq x y ≡ b → cond b (equal_fields t k + 1) 0 ≡ suc (length t) → (equal_fields t k ≡ length t → t ≡ k) → x ∷ t ≡ y ∷ k
    go true q f more =
        let rest : t ≡ k = more (omega arith) in
        let first : x ≡ y = same_text x y (sym q) in
        cc
    go false q f more = absurd (omega arith)

-- what holds wherever a list is parted holds of each element
each_part : {A : Type 0} (P : A → Type 0) (zs : List A) → ((xs ys : List A) (x : A) → zs ≡ xs ++ x ∷ ys → P x) → (done xs : List A) → zs ≡ done ++ xs → AllByRecursion P xs
each_part P zs h done [] e = tt
each_part P zs h done (x ∷ xs) e = (h done xs x e, each_part P zs h (done ++ x ∷ []) xs (e ∙ sym (append_assoc done (x ∷ []) xs)))

module _ (page : PageRows) (key : FieldList) (spot : Spot) (order : IsPageInOrder page) (long : length key ≡ page.head.fields) (found : Finds Ge key page.rows spot) where
  fields : AllByRecursion (λ (x : Row). length key ≡ length x.key) found.right
  fields = each_weaker (IsRowOf page.head) (λ (x : Row). length key ≡ length x.key) (λ x of. long ∙ sym of.fields) found.right (each_right (IsRowOf page.head) found.left found.right (subst (AllByRecursion (IsRowOf page.head)) found.split order.each))

  -- a row with the key is the one after the spot, and all its fields are equal
  its_row : (xs ys : List Row) (x : Row) → page.rows ≡ xs ++ x ∷ ys → x.key ≡ key → spot.up.fields ≡ length key
  its_row xs ys x e is =
      let first = first_with_key key found.left found.right xs ys x (ascends_right found.left found.right (subst RowsAscend found.split order.ascend)) fields found.out found.past (sym found.split ∙ e) is in
      ap (λ (m : Match). m.fields) (found.up ∙ ap (agreement key) first) ∙ ap (equal_fields key) is ∙ equal_fields-itself key

  -- so where not all of them are equal, no row has the key
  pub lacks_key : spot.up.fields ≢ length key → LacksKey key page.rows
  lacks_key other = each_part (λ (x : Row). x.key ≢ key) page.rows (λ xs ys x e is. other (its_row xs ys x e is)) [] page.rows refl

  there : (right : List Row) → 0 < length key → found.right ≡ right → spot.up.fields ≡ length key → HasKeyAfter key page.rows spot
  there [] some e f =
      let none : spot.up.fields ≡ 0 = ap (λ (m : Match). m.fields) (found.up ∙ ap (λ (zs : List Row). agreement key (first_of_rows zs)) e) in
      absurd (omega arith)
  there (x ∷ right) some e f =
      let figures : spot.up.fields ≡ equal_fields key x.key = ap (λ (m : Match). m.fields) (found.up ∙ ap (λ (zs : List Row). agreement key (first_of_rows zs)) e) in
      let as_long : length key ≡ length x.key = (subst (AllByRecursion (λ (z : Row). length key ≡ length z.key)) e fields).0 in
      record { row = x; after_at = subst (λ (zs : List Row). IsAt page.rows spot.after (first_of_rows zs)) e found.after_at; key_is = sym (all_equal key x.key as_long (sym figures ∙ f)) }

  pub tells_key : 0 < length key → TellsKey key page.rows spot
  tells_key some = record { there = there found.right some refl; absent = lacks_key }

-- the cut before the key of a row is where the row stands
pub position_of : (page : PageRows) (place : ℕ) (row : Row) (cut : ℕ) → IsPageInOrder page → find_row place page.rows ≡ Some row → AllOut (not_below row.key) (take cut page.rows) → AllIn (not_below row.key) (drop cut page.rows) → IsPosition page.rows place cut
position_of page place row cut order found out past =
    let s = find_stands page.rows place row found in
    let parts : take cut page.rows ++ drop cut page.rows ≡ page.rows = take-append-drop cut page.rows in
    let suits = each_found (IsRowOf page.head) page.rows place row order.each found in
    let each = each_right (IsRowOf page.head) (take cut page.rows) (drop cut page.rows) (subst (AllByRecursion (IsRowOf page.head)) (sym parts) order.each) in
    let fields = each_weaker (IsRowOf page.head) (λ (x : Row). length row.key ≡ length x.key) (λ x of. suits.fields ∙ sym of.fields) (drop cut page.rows) each in
    let rises = ascends_right (take cut page.rows) (drop cut page.rows) (subst RowsAscend (sym parts) order.ascend) in
    let first = first_with_key row.key (take cut page.rows) (drop cut page.rows) s.left s.right row rises fields out past (parts ∙ s.split) refl in
    record { row = row; there = sym (first_of_rows-drop page.rows cut) ∙ first; place_is = s.place_is }
