-- A leaf in a frame, of which a row gets another value.
use Rattle.std.proofs.Common.{◌≡◌, ◌≢◌, ◌≤◌, ◌==◌, ℕ, Bool, Some, None, Option, IsSome, Result, Ok, Err, IsOk, IfOk, List, [], ◌∷◌, ◌++◌, length, refl, sym, ap, subst, ◌∙◌, arith, eq-eqb}
use Rattle.std.proofs.lemmas.Bool.{ne_eqb}
use Rattle.std.specs.Option.{option_map}
use Rattle.key_tuple.specs.Order.{FieldList}
use Rattle.list_facts.proofs.Places.{same_some}
use Rattle.map_history.specs.Map.{Set}
use Rattle.index_page.specs.Changes.{Sets}
use Rattle.index_page.specs.Laws.{StandsAt}
use Rattle.index_page.specs.declared.error.PageError.{PageError}
use Rattle.index_page.specs.Page.{PageRows, PlacesDiffer, FitsLevel, IsPageInOrder}
use Rattle.index_page.specs.Rows.{RowBody, Row, Bytes, Child, placed_row, find_row}
use Rattle.index_page.proofs.RowLemmas.{find_stands, find_among, each_found}
use Rattle.index_page.proofs.SetLemmas.{differ_put}
use Rattle.index_page.proofs.WithoutLemmas.{AreElsewhere, differ_elsewhere, deleted_is}
use Rattle.clock_law.specs.ModifyClock.{last_clock, raised, ClockRises}
use Rattle.clock_law.proofs.LaterLemmas.{changes}
use Rattle.forest_law.specs.declared.objects.Frame.{Frame}
use Rattle.leaf_rows.specs.Changing.{HasRowOf, HasSomeRow}
use Rattle.leaf_rows.specs.Laws.{ValuesAreSet}
use Rattle.leaf_rows.specs.Setting.{rows_with, page_with, clock_with, frame_with, IsNoLonger, IsLongerValue, SetsValue, MovesRowTo, frame_before}
use Rattle.page_view.proofs.ValueLemmas.{leaf_values, has_bytes, pairs_ascend}

module _ (place : ℕ) (value : List ℕ) where
  -- rows of which none stands there stay
  elsewhere_stay : (rows : List Row) → AreElsewhere place rows → rows_with place value rows ≡ rows
  elsewhere_stay [] apart = refl
  elsewhere_stay (x ∷ rows) apart = rw (ne_eqb x.place place apart.0)
      (ap (λ zs. x ∷ zs) (elsewhere_stay rows apart.1))

  -- the row there has the value, and those around it stay
  with-split : (left : List Row) (row : Row) (right : List Row) → row.place ≡ place
      → AreElsewhere place (left ++ right)
      → rows_with place value (left ++ row ∷ right)
      ≡ left ++ placed_row row.place row.key (Bytes value) ∷ right
  with-split [] row right at apart = rw (eq-eqb row.place place at)
      (ap (λ zs. placed_row row.place row.key (Bytes value) ∷ zs) (elsewhere_stay right apart))
  with-split (x ∷ left) row right at apart = rw (ne_eqb x.place place apart.0)
      (ap (λ zs. x ∷ zs) (with-split left row right at apart.1))

  elsewhere_around : (left : List Row) (row : Row) (right : List Row) → row.place ≡ place
      → PlacesDiffer (left ++ row ∷ right) → AreElsewhere place (left ++ right)
  elsewhere_around left row right at differ =
      subst (λ p. AreElsewhere p (left ++ right)) at (differ_elsewhere left row right differ)

  -- a page of which the row got the value in its place is the page with it
  pub set_is : (page new : PageRows) → PlacesDiffer page.rows → Sets page new place place value
      → new ≡ page_with place value page
  set_is page new differ sets =
      let apart = elsewhere_around sets.left sets.row sets.right sets.place_is
      (subst PlacesDiffer sets.was differ) in
      let rows = ap (rows_with place value) sets.was
      ∙ with-split sets.left sets.row sets.right sets.place_is apart in
      let is = sets.is ∙ ap (λ p. sets.left ++ placed_row p sets.row.key (Bytes value)
      ∷ sets.right) (sym sets.place_is) ∙ sym rows in
      λ i. record { head = sets.head i; rows = is i }

-- the row that is set stood at the place
row_there : (page new : PageRows) (place other : ℕ) (value : List ℕ) → IsPageInOrder page
    → (sets : Sets page new place other value) → find_row place page.rows ≡ Some sets.row
row_there page new place other value order sets =
    let found = find_among sets.left sets.row sets.right
    (subst PlacesDiffer sets.was order.places) in
    let at = subst (λ (rows : List Row). find_row sets.row.place rows ≡ Some sets.row)
    (sym sets.was) found in
    subst (λ p. find_row p page.rows ≡ Some sets.row) sets.place_is at

-- a leaf of which the key's row got a value, and the clock is as it asks
module _ (f : Frame) (place : ℕ) (key : FieldList) (value : List ℕ) (has : HasRowOf f place key)
    (order : IsPageInOrder has.page) where
  pub sets_value : (new : PageRows) (clock other : ℕ)
      → (s : StandsAt has.page.rows place has.has.row)
      → new.rows ≡ s.left ++ placed_row other has.has.row.key (Bytes value) ∷ s.right
      → new.head ≡ has.page.head → PlacesDiffer new.rows
      → (length value ≡ length has.has.value → (other ≡ place) × (clock ≡ f.clock))
      → (length value ≢ length has.has.value → ClockRises f.clock clock)
      → SetsValue f (record f { page = Some new; clock = clock }) key value
  sets_value new clock other s is head differ stays rises = record {
    page = has.page;
    new = new;
    before = has.has.value;
    had = has.paged;
    kept = refl;
    head = head;
    level = has.level;
    has = has.has.has;
    sets = record {
      left = s.left;
      row = has.has.row;
      after = placed_row other has.has.row.key (Bytes value);
      right = s.right;
      before = has.has.value;
      value = value;
      is_set = ap (λ (k : FieldList). Set k value) (sym has.has.key_is);
      had = has.has.body;
      has = refl;
      key = refl;
      was = s.split;
      is = is;
      ascend = pairs_ascend has.page.rows order.ascend;
      in_place = λ same. ((stays same).0 ∙ sym s.place_is, (stays same).1);
      anew = rises;
    };
    places = differ;
  }

  -- so it is where the page was set
  pub set_sets : (new : PageRows) (clock other : ℕ) → Sets has.page new place other value
      → PlacesDiffer new.rows
      → (length value ≡ length has.has.value → clock ≡ f.clock)
      → (length value ≢ length has.has.value → ClockRises f.clock clock)
      → SetsValue f (record f { page = Some new; clock = clock }) key value
  set_sets new clock other sets differ stays rises =
      let there = row_there has.page new place other value order sets in
      let same : sets.row ≡ has.has.row = same_some _ _ (sym there ∙ has.has.there) in
      let s : StandsAt has.page.rows place has.has.row = search (sets.was ∙ ap (λ (x : Row). sets.left ++ x ∷ sets.right) same, ap (λ (x : Row). x.place) (sym same) ∙ sets.place_is) in
      let is = sets.is ∙ ap (λ (x : Row). sets.left ++ placed_row other x.key (Bytes value)
      ∷ sets.right) same in
      sets_value new clock other s is sets.head differ (λ e. (
        sets.in_place has.has.value
            (ap (λ (x : Row). x.body) same ∙ has.has.body) (omega (arith, e)),
        stays e,
      )) rises

-- the clock where a value comes in the place of one that may have another length
clock_stays : (long before clock : ℕ) → long ≡ before → clock_with (long == before) clock ≡ clock
clock_stays long before clock e = rw (eq-eqb long before e) refl

pub clock_as_long : (long before clock : ℕ) → long ≡ before
    → clock ≡ clock_with (long == before) clock
clock_as_long long before clock e = sym (clock_stays long before clock e)

pub clock_shorter : (long before clock : ℕ) → long ≢ before
    → raised clock ≡ clock_with (long == before) clock
clock_shorter long before clock other = rw (ne_eqb long before other) refl

clock_rises : (long before clock : ℕ) → clock ≤ last_clock → long ≢ before
    → ClockRises clock (clock_with (long == before) clock)
clock_rises long before clock within other =
    rw (ne_eqb long before other) (changes.one_step clock within)

pub values_are_set : ValuesAreSet
values_are_set f place key value has order within less =
    let s = find_stands has.page.rows place has.has.row has.has.there in
    let row = has.has.row in
    let long = length value in let before = length has.has.value in
    let apart = elsewhere_around place value s.left row s.right s.place_is
    (subst PlacesDiffer s.split order.places) in
    let is = ap (rows_with place value) s.split
    ∙ with-split place value s.left row s.right s.place_is apart
    ∙ ap (λ p. s.left ++ placed_row p row.key (Bytes value) ∷ s.right) s.place_is in
    let differ = differ_put s.left row (placed_row place row.key (Bytes value)) s.right s.place_is
    (subst PlacesDiffer s.split order.places) in
    let clock = clock_with (long == before) f.clock in
    subst (λ o. SetsValue f (record f { page = o; clock = clock }) key value)
    (ap (option_map (page_with place value)) (sym has.paged))
    (sets_value f place key value has order (page_with place value has.page) clock place s is refl
    (subst PlacesDiffer (sym is) differ)
    (λ e. (refl, clock_stays long before f.clock e))
    (clock_rises long before f.clock within))

-- a value that is no longer was written in its place
pub written_is : (page new : PageRows) (place : ℕ) (value : List ℕ) (result : Result ℕ PageError)
    → IsPageInOrder page → IsSome (find_row place page.rows) → page.head.level ≡ 0
    → ((row : Row) (before : List ℕ) → find_row place page.rows ≡ Some row
    → row.body ≡ Bytes before → length value ≤ length before)
    → ((row : Row) (before : List ℕ) → find_row place page.rows ≡ Some row
    → row.body ≡ Bytes before → length value ≤ length before → IsOk result)
    → IfOk result (λ other. Sets page new place other value) → new ≡ page_with place value page
written_is page new place value result order some level less ok sets =
    go (find_row place page.rows) refl some
  where
    of : (row : Row) (before : List ℕ) → find_row place page.rows ≡ Some row
        → row.body ≡ Bytes before → (r : Result ℕ PageError) → IsOk r
        → IfOk r (λ other. Sets page new place other value) → new ≡ page_with place value page
    of row before there is (Err e) fine set = absurd cc
    of row before there is (Ok other) fine set =
        let here = row_there page new place other value order set in
        let same : set.row ≡ row = same_some _ _ (sym here ∙ there) in
        let stays = set.in_place before (ap (λ (x : Row). x.body) same ∙ is)
        (less row before there is) in
        set_is place value page new order.places
        (subst (λ p. Sets page new place p value) stays set)

    go : (o : Option Row) → find_row place page.rows ≡ o → IsSome o
        → new ≡ page_with place value page
    go None there fine = absurd cc
    go (Some row) there fine =
        let b = has_bytes row.body (each_found (λ (x : Row). FitsLevel 0 x.body) page.rows place row
        (leaf_values page order level) there) in
        of row b.0 there b.1 result
        (ok row b.0 there b.1 (less row b.0 there b.1)) sets

module _ (f : Frame) (place : ℕ) (value : List ℕ) (page : PageRows) (paged : f.page ≡ Some page) where
  -- the value of the row there, by the page
  pub no_longer_there : HasSomeRow f place → IsNoLonger f place value → (row : Row)
      → (before : List ℕ) → find_row place page.rows ≡ Some row → row.body ≡ Bytes before
      → length value ≤ length before
  no_longer_there some less row before there is =
      let has = some.1 in
      let same : has.page ≡ page = same_some has.page page (sym has.paged ∙ paged) in
      let here = subst (λ (p : PageRows). find_row place p.rows ≡ Some has.has.row) same
      has.has.there in
      let one : has.has.row ≡ row = same_some _ _ (sym here ∙ there) in
      let value_is : Bytes has.has.value ≡ Bytes before =
      sym has.has.body ∙ ap (λ (x : Row). x.body) one ∙ is in
      let long : length has.has.value ≡ length before = ap bytes_long value_is in
      omega (arith, less some.0 has, long)
    where
      bytes_long : RowBody → ℕ
      bytes_long (Bytes v) = length v
      bytes_long (Child n) = 0

  -- the frame with the page, and the clock by the lengths
  pub rewritten_frame : (new : PageRows) (clock : ℕ) (b : Bool)
      → new ≡ page_with place value page → clock ≡ clock_with b f.clock
      → record f { page = Some new; clock = clock } ≡ frame_with place value b f
  rewritten_frame new clock b is at =
      ap (λ (p : PageRows). record f { page = Some p; clock = clock }) is
      ∙ ap (λ n. record f { page = Some (page_with place value page); clock = n }) at
      ∙ ap (λ o. record f { page = o; clock = clock_with b f.clock })
      (ap (option_map (page_with place value)) (sym paged))

module _ (f : Frame) (page new : PageRows) (place : ℕ) (value : List ℕ)
    (paged : f.page ≡ Some page) where
  -- a longer value was set, and the clock is one higher
  pub grown_sets : IsPageInOrder page → IsPageInOrder new → (other : ℕ)
      → Sets page new place other value → f.clock ≤ last_clock → IsLongerValue f place value
      → (key : FieldList) → HasRowOf f place key
      → SetsValue f (record f { page = Some new; clock = raised f.clock }) key value
  grown_sets order after other sets within longer key has =
      let same : page ≡ has.page = same_some page has.page (sym paged ∙ has.paged) in
      let set = subst (λ (p : PageRows). Sets p new place other value) same sets in
      let more = longer key has in
      set_sets f place key value has (subst IsPageInOrder same order) new (raised f.clock) other
      set after.places (λ e. absurd (omega (arith, e, more)))
      (λ _. changes.one_step f.clock within)

  -- and no other row moved
  pub grown_moves : IsPageInOrder page → IsPageInOrder new → (other : ℕ)
      → Sets page new place other value
      → MovesRowTo f (record f { page = Some new; clock = raised f.clock }) place other
  grown_moves order after other sets = record {
    page = page;
    new = new;
    had = paged;
    has = refl;
    stood = subst (λ o. IsSome o) (sym (row_there page new place other value order sets)) refl;
    stands = subst (λ o. IsSome o) (sym sets.stands) refl;
    rest = sym (deleted_is new without other after.places (record {
      left = sets.left;
      row = placed_row other sets.row.key (Bytes value);
      right = sets.right;
      was = sets.is;
      place_is = refl;
      is = refl;
      head = sym sets.head;
    })) ∙ deleted_is page without place order.places (record {
      left = sets.left;
      row = sets.row;
      right = sets.right;
      was = sets.was;
      place_is = sets.place_is;
      is = refl;
      head = refl;
    });
  }
    where
      without : PageRows
      without = record page { rows = sets.left ++ sets.right }

  -- with the page and the clock that there were the frame is what it was
  pub before_is : (kept : Option PageRows) → kept ≡ Some page
      → frame_before (record { page = kept; clock = f.clock })
      (record f { page = Some new; clock = raised f.clock }) ≡ f
  before_is kept is = ap (λ o. record f { page = o }) (is ∙ sym paged)
