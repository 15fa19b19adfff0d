-- The pointer that a search picks has the cut in its range.
use Rattle.std.proofs.Common.{◌≡◌, ◌≢◌, inl, inr, ℕ, ◌<◌, Bool, true, false, Option, Some, None, List, [], ◌∷◌, ◌++◌, refl, sym, ap, subst, ◌∙◌, append_assoc, arith}
use Rattle.std.specs.List.{AllByRecursion}
use Rattle.key_tuple.specs.Order.{FieldList}
use Rattle.key_tuple.specs.KeyPlace.{KeyPlace, Start, At, End, before, IsCut}
use Rattle.index_page.specs.Rows.{RowBody, Bytes, Child, Row, last_of_rows, last_row_after}
use Rattle.index_page.specs.Page.{FitsLevel}
use Rattle.tree_law.specs.TreeShape.{Pointer, In, first_from, ranges, Rise, HasCut, pointer_to}
use Rattle.tree_law.specs.PickLaws.{CutRange, AreInner, RangesArePicked, DescentSteps}
use Rattle.tree_law.proofs.PageRowLemmas.{tree_is, pointers-append, pointer_is}
use Rattle.tree_law.proofs.DescentLemmas.{child_has_cut}
use Rattle.list_facts.proofs.Each.{each_right}
use Rattle.tree_law.specs.Pages.{is_empty, from_place, pointers_of, outline, forest, low_place, high_place}

-- a row, if there is one
abbrev the_row : Row → Option Row → Row
the_row d None = d
the_row d (Some x) = x

inner_body : (level : ℕ) → level ≢ 0 → (body : RowBody) → FitsLevel level body → (n : ℕ) × (body ≡ Child n)
inner_body level inner (Bytes v) fits = absurd (inner fits)
inner_body level inner (Child n) fits = (n, refl)

-- each row of an inner page points
pub are_inner : (level : ℕ) → level ≢ 0 → (rows : List Row) → AllByRecursion (λ (x : Row). FitsLevel level x.body) rows → AreInner rows
are_inner level inner [] a = tt
are_inner level inner (x ∷ xs) a = (inner_body level inner x.body a.0, are_inner level inner xs a.1)

not_start : (x : KeyPlace) → before x Start ≡ true → ⊥
unfolding before
not_start Start e = absurd cc
not_start (At k) e = absurd cc
not_start End e = absurd cc

-- a place after another is at its key
at_key : (x : KeyPlace) (k : FieldList) → before x (from_place k) ≡ true → from_place k ≡ At k
at_key x k e = pick (is_empty k) refl
  where
    pick : (b : Bool) → is_empty k ≡ b → from_place k ≡ At k
    pick true q = absurd (not_start x (subst (λ z. before x z ≡ true) (rw q refl) e))
    pick false q = rw q refl

-- a pointer's range among those of its page
in_ranges : (xs : List Pointer) (x : Pointer) (qs : List Pointer) (high : KeyPlace) → In (record { from = x.from; to = first_from qs high; child = x.child }) (ranges (xs ++ x ∷ qs) high)
in_ranges [] x qs high = inl refl
in_ranges (y ∷ xs) x qs high = inr (in_ranges xs x qs high)

-- a pointer's place comes before the next
rises_at : (xs : List Pointer) (x : Pointer) (qs : List Pointer) (high : KeyPlace) → Rise (xs ++ x ∷ qs) high → before x.from (first_from qs high) ≡ true
rises_at [] x qs high r = r.0
rises_at (y ∷ xs) x qs high r = rises_at xs x qs high r.1

-- some rows end with their last
ends_at : (a : Row) (xs : List Row) → (ls : List Row) × (a ∷ xs ≡ ls ++ last_row_after a xs ∷ [])
ends_at a [] = ([], refl)
ends_at a (b ∷ xs) = let r = ends_at b xs in (a ∷ r.0, ap (λ z. a ∷ z) r.1)

-- what holds of each of some rows holds of the last
last_of_each : (P : Row → Type 0) (a : Row) (xs : List Row) → AllByRecursion P (a ∷ xs) → P (last_row_after a xs)
last_of_each P a [] h = h.0
last_of_each P a (b ∷ xs) h = last_of_each P b xs h.1

module _ (p : KeyPlace → Bool) (cut : IsCut p) where
  -- a place that the key is left out of
  from_out : (k : FieldList) → p (At k) ≡ false → p (from_place k) ≡ false
  from_out k out = pick (is_empty k) refl
    where
      pick : (b : Bool) → is_empty k ≡ b → p (from_place k) ≡ false
      pick true q = rw q cut.begins
      pick false q = rw q out

  -- the next pointer's place is beyond the cut
  next_in : (from : KeyPlace) (ys : List Row) (high : KeyPlace) → AreInner ys → AllByRecursion (λ (y : Row). p (At y.key) ≡ true) ys → p high ≡ true
      → before from (first_from (pointers_of ys) high) ≡ true → p (first_from (pointers_of ys) high) ≡ true
  next_in from [] high inner ins end rise = end
  next_in from (y ∷ ys) high inner ins end rise =
      let is = pointer_is y inner.0.0 (from_place y.key) ys (inner.0.1, refl) in
      let first : first_from (pointers_of (y ∷ ys)) high ≡ from_place y.key = ap (λ ps. first_from ps high) is in
      ap p (first ∙ at_key from y.key (ap (before from) (sym first) ∙ rise)) ∙ ins.0

  -- a row between others
  middle : (ls : List Row) (x : Row) (ys : List Row) (high : KeyPlace) (n : ℕ) → x.body ≡ Child n → p (from_place x.key) ≡ false → AreInner ys → AllByRecursion (λ (y : Row). p (At y.key) ≡ true) ys
      → p high ≡ true → Rise (pointers_of (ls ++ x ∷ ys)) high → CutRange p (ls ++ x ∷ ys) high n
  middle ls x ys high n body out inner ins end rise =
      let is : pointers_of (ls ++ x ∷ ys) ≡ pointers_of ls ++ pointer_to (from_place x.key) n ∷ pointers_of ys =
      pointers-append ls (x ∷ ys) ∙ ap (λ z. pointers_of ls ++ z) (pointer_is x n (from_place x.key) ys (body, refl)) in
      let rise' = subst (λ ps. Rise ps high) is rise in
      record {
        range = record { from = from_place x.key; to = first_from (pointers_of ys) high; child = n };
        among = subst (λ ps. In (record { from = from_place x.key; to = first_from (pointers_of ys) high; child = n }) (ranges ps high)) (sym is) (in_ranges (pointers_of ls) (pointer_to (from_place x.key) n) (pointers_of ys) high);
        from = out;
        to = next_in (from_place x.key) ys high inner ins end (rises_at (pointers_of ls) (pointer_to (from_place x.key) n) (pointers_of ys) high rise');
        child = refl;
      }

  -- the last row that the cut leaves out
  pub pick_last : (rows left right : List Row) (high : KeyPlace) (x : Row) (n : ℕ) → rows ≡ left ++ right → last_of_rows left ≡ Some x → x.body ≡ Child n
      → AllByRecursion (λ (y : Row). p (At y.key) ≡ false) left → AllByRecursion (λ (y : Row). p (At y.key) ≡ true) right → AreInner right
      → p high ≡ true → Rise (pointers_of rows) high → CutRange p rows high n
  pick_last rows [] right high x n is last body outs ins inner end rise = absurd (none_is_not x last)
    where
      none_is_not : (x : Row) → None ≡ Some x → ⊥
      none_is_not x e = absurd cc
  pick_last rows (a ∷ left) right high x n is last body outs ins inner end rise =
      let same : last_row_after a left ≡ x = same_row (last_row_after a left) x last in
      let e = ends_at a left in
      let all : rows ≡ e.0 ++ x ∷ right = is ∙ (ap (λ z. z ++ right) (e.1 ∙ ap (λ z. e.0 ++ z ∷ []) same) ∙ append_assoc e.0 (x ∷ []) right) in
      subst (λ z. CutRange p z high n) (sym all)
      (middle e.0 x right high n body (from_out x.key (subst (λ (z : Row). p (At z.key) ≡ false) same (last_of_each (λ (y : Row). p (At y.key) ≡ false) a left outs))) inner ins end (subst (λ z. Rise (pointers_of z) high) all rise))
    where
      same_row : (y z : Row) → Some y ≡ Some z → y ≡ z
      same_row y z e = ap (the_row y) e

  -- the first row, where the cut leaves out none
  pub pick_first : (x : Row) (ys : List Row) (low high : KeyPlace) (n : ℕ) → x.body ≡ Child n → AllByRecursion (λ (y : Row). p (At y.key) ≡ true) ys → AreInner ys
      → first_from (pointers_of (x ∷ ys)) high ≡ low → p low ≡ false → p high ≡ true → Rise (pointers_of (x ∷ ys)) high → CutRange p (x ∷ ys) high n
  pick_first x ys low high n body ins inner first out end rise =
      middle [] x ys high n body (ap p (sym (ap (λ ps. first_from ps high) (pointer_is x n (from_place x.key) ys (body, refl))) ∙ first) ∙ out) inner ins end rise

pub ranges_are_picked : RangesArePicked
ranges_are_picked p cut = record { last = pick_last p cut; first = pick_first p cut }

-- the child that the picked row points to has the cut
pub descent_steps : DescentSteps
descent_steps indexes fields_of heights maps pages law p cut number level page is tree above low high =
    let trees = forest pages in
    let there = tree_is pages number page is tree in
    let sound = law.shape.pages number (outline page) there in
    let over : 0 < page.level = omega (arith, above) in
    let rise = sound.rise over in
    let begins = sound.begins over in
    let bodies = (law.orderly number page is).bodies in
    let inner = are_inner page.level (λ e. omega (arith, e, above)) page.rows bodies in
    let down : (n : ℕ) → CutRange p page.rows (high_place page.high) n → HasCut trees p page.index level n =
    λ n r. subst (HasCut trees p page.index level) r.child (child_has_cut indexes heights trees law.shape p page.index level number (outline page) there refl above r.range r.among r.from r.to) in
    record {
      last = λ left right x n split last body outs ins. down n (pick_last p cut page.rows left right (high_place page.high) x n split last body outs ins (each_right _ left right (subst AreInner split inner)) high rise);
      first = λ x ys n is_first body ins.
          down n (subst (λ rows. CutRange p rows (high_place page.high) n) (sym is_first)
          (pick_first p cut x ys (low_place page.low) (high_place page.high) n body ins (subst AreInner is_first inner).1 (ap (λ rows. first_from (pointers_of rows) (high_place page.high)) (sym is_first) ∙ begins) low high (subst (λ rows. Rise (pointers_of rows) (high_place page.high)) is_first rise)));
    }
