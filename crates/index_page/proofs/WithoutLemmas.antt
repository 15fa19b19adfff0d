-- Rows and pages without the row at a place.
use Rattle.std.proofs.Common.{◌≡◌, ◌≢◌, ℕ, ◌+◌, ◌≤◌, ◌==◌, Bool, true, false, cond, not, Option, Some, None, IsSome, List, [], ◌∷◌, ◌++◌, refl, sym, ap, ◌∙◌, subst, arith, eq-eqb}
use Rattle.std.proofs.lemmas.Bool.{both_ways, ne_eqb}
use Rattle.std.specs.List.{AllByRecursion}
use Rattle.list_facts.proofs.Each.{filter_each, each_weaker}
use Rattle.index_page.specs.Rows.{Row, find_row}
use Rattle.index_page.specs.Page.{PageRows, PlacesDiffer}
use Rattle.index_page.specs.Changes.{Inserts, Deletes, rows_without, page_without}
use Rattle.index_page.specs.Laws.{StandsAt}
use Rattle.index_page.specs.Loads.{load_of}
use Rattle.index_page.proofs.RowLemmas.{find_stands}
use Rattle.index_page.proofs.LoadLemmas.{row_charge, load_of-among}

-- what holds of each element holds of one in the middle
pub each_middle : {A : Type 0} (P : A → Type 0) (xs : List A) (x : A) (ys : List A) → AllByRecursion P (xs ++ x ∷ ys) → P x
each_middle P [] x ys a = a.0
each_middle P (z ∷ zs) x ys a = each_middle P zs x ys a.1

-- no row stands there
abbrev pub AreElsewhere : ℕ → List Row → Type 0
AreElsewhere place rows = AllByRecursion (λ (x : Row). x.place ≢ place) rows

elsewhere_kept : (place : ℕ) (rows : List Row) → AreElsewhere place rows → rows_without place rows ≡ rows
elsewhere_kept place rows apart = filter_each (λ (x : Row). not (x.place == place)) rows (each_weaker _ _ (λ (x : Row) a. ap not (ne_eqb x.place place a)) rows apart)

-- without the row in the middle the others are left
without-split : (place : ℕ) (left : List Row) (row : Row) (right : List Row) → row.place ≡ place → AreElsewhere place (left ++ right) → rows_without place (left ++ row ∷ right) ≡ left ++ right
without-split place [] row right at apart = rw (eq-eqb row.place place at) (elsewhere_kept place right apart)
without-split place (x ∷ left) row right at apart = rw (ne_eqb x.place place apart.0) (ap (λ rows. x ∷ rows) (without-split place left row right at apart.1))

pub differ_elsewhere : (left : List Row) (row : Row) (right : List Row) → PlacesDiffer (left ++ row ∷ right) → AreElsewhere row.place (left ++ right)
differ_elsewhere [] row right differ = differ.0
differ_elsewhere (x ∷ left) row right differ = let apart = each_middle (λ (y : Row). y.place ≢ x.place) left row right differ.0 in (λ e. apart (sym e), differ_elsewhere left row right differ.1)

vacant_elsewhere : (place : ℕ) (rows : List Row) → find_row place rows ≡ None → AreElsewhere place rows
vacant_elsewhere place [] vacant = tt
vacant_elsewhere place (x ∷ rows) vacant = go (x.place == place) refl vacant (vacant_elsewhere place rows)
  where
    go : (b : Bool) → (x.place == place) ≡ b → cond b (Some x) (find_row place rows) ≡ None → (find_row place rows ≡ None → AreElsewhere place rows) → AreElsewhere place (x ∷ rows)
    go true is none more = absurd cc
    go false is none more = (λ e. absurd (both_ways (x.place == place) is (eq-eqb x.place place e)), more none)

same_page : {p q : PageRows} → p.head ≡ q.head → p.rows ≡ q.rows → p ≡ q
same_page head rows = λ i. record { head = head i; rows = rows i }

-- a page from which the row at a place was deleted is the page without it
pub deleted_is : (page after : PageRows) (place : ℕ) → PlacesDiffer page.rows → Deletes page after place → after ≡ page_without place page
deleted_is page after place differ taken =
    same_page taken.head (taken.is ∙ sym (ap (rows_without place) taken.was
    ∙ without-split place taken.left taken.row taken.right taken.place_is (subst (λ p. AreElsewhere p (taken.left ++ taken.right)) taken.place_is (differ_elsewhere taken.left taken.row taken.right (subst PlacesDiffer taken.was differ)))))

-- the rows around the row at a place are those without it
without_is : (rows : List Row) (place : ℕ) (row : Row) → PlacesDiffer rows → (s : StandsAt rows place row) → rows_without place rows ≡ s.left ++ s.right
without_is rows place row differ s =
    ap (rows_without place) s.split ∙ without-split place s.left row s.right s.place_is (subst (λ p. AreElsewhere p (s.left ++ s.right)) s.place_is (differ_elsewhere s.left row s.right (subst PlacesDiffer s.split differ)))

-- and a page with a row at a place deletes it to become that
pub without_deletes : (page : PageRows) (place : ℕ) (row : Row) → PlacesDiffer page.rows → find_row place page.rows ≡ Some row → Deletes page (page_without place page) place
without_deletes page place row differ there = let s = find_stands page.rows place row there in record {
  left = s.left;
  row = row;
  right = s.right;
  was = s.split;
  place_is = s.place_is;
  is = without_is page.rows place row differ s;
  head = refl;
}

-- a page into which a row was put is, without it, what it was
pub put_without : (before after : PageRows) (row : Row) → Inserts before after row → page_without row.place after ≡ before
put_without before after row put =
    same_page put.head (ap (rows_without row.place) put.is ∙ (without-split row.place put.below row put.above refl (subst (AreElsewhere row.place) put.was (vacant_elsewhere row.place before.rows put.vacant)) ∙ sym put.was))

-- the load without a row is less by its charge
pub load_of-without : (rows : List Row) (place : ℕ) (row : Row) → PlacesDiffer rows → find_row place rows ≡ Some row → load_of rows ≡ load_of (rows_without place rows) + row_charge row
load_of-without rows place row differ there =
    let s = find_stands rows place row there in
    ap load_of s.split ∙ load_of-among s.left row s.right ∙ ap (λ (zs : List Row). load_of zs + row_charge row) (sym (without_is rows place row differ s))

-- so with the charge that was counted the load of the others is left
pub others_load : (rows : List Row) (place : ℕ) (row : Row) (load n : ℕ) → PlacesDiffer rows → find_row place rows ≡ Some row → load ≡ load_of rows → n ≡ row_charge row → load ≡ load_of (rows_without place rows) + n
others_load rows place row load n differ there counted charged = omega (arith, load_of-without rows place row differ there, counted, charged)

-- a charge that was counted is within the load
pub charge_within_load : (rows : List Row) (place load n : ℕ) → PlacesDiffer rows → IsSome (find_row place rows) → load ≡ load_of rows → ((row : Row) → find_row place rows ≡ Some row → n ≡ row_charge row) → n ≤ load
charge_within_load rows place load n differ some counted charged = go (find_row place rows) refl some
  where
    go : (o : Option Row) → find_row place rows ≡ o → IsSome o → n ≤ load
    go None e there = absurd cc
    go (Some row) e there = omega (arith, others_load rows place row load n differ e counted (charged row e))
