-- A row that is put into the held leaf, or is to go from it, makes a change that may be committed.
use Rattle.std.proofs.Common.{◌≡◌, ◌≤◌, ℕ, true, false, List, [], ◌∷◌, ◌++◌, inl, inr, length, sym, ap, subst, ◌∙◌, refl, Option, Some, None, is_none, is_some}
use Rattle.std.specs.List.{AllByRecursion}
use Rattle.std.specs.Option.{option_map}
use Rattle.key_tuple.specs.Order.{FieldList}
use Rattle.list_facts.proofs.Each.{each_left, each_right, each_append, each_weaker}
use Rattle.list_facts.proofs.Places.{same_some}
use Rattle.map_history.specs.Map.{Put, Set, Del, value_at}
use Rattle.index_page.specs.declared.head.PageHead.{PageHead}
use Rattle.index_page.specs.declared.spot.Spot.{Spot}
use Rattle.index_page.specs.Changes.{page_without}
use Rattle.index_page.specs.Page.{PageRows, PlacesDiffer, FitsLevel, IsRowOf, IsPageInOrder}
use Rattle.index_page.specs.Rows.{Row}
use Rattle.tree_law.specs.Pages.{row_pairs, HasFields, IsOrderly}
use Rattle.index_law.specs.Shape.{Shape}
use Rattle.forest_law.specs.declared.objects.Frame.{Frame}
use Rattle.forest_law.specs.State.{bound, page_within, fields_for}
use Rattle.clock_law.specs.ModifyClock.{last_clock}
use Rattle.leaf_rows.specs.Changing.{PutsRow, LacksRow, HasRowOf, frame_without}
use Rattle.page_view.specs.Finding.{HasSpot, IsFoundAt}
use Rattle.leaf_rows.specs.Setting.{SetsValue}
use Rattle.leaf_rows.proofs.ChangeLemmas.{takes_out}
use Rattle.leaf_rows.proofs.FullLemmas.{refused_values_lack_room}
use Rattle.leaf_rows.proofs.SetLemmas.{values_are_set}
use Rattle.leaf_changes.specs.Changes.{HasSpotIn, HasOldRow, FindsRow}
use Rattle.leaf_changes.specs.Commits.{MakesChange}
use Rattle.leaf_changes.specs.Holds.{IsLeafOf}

-- what holds of each row holds of the others without one
each_drop : (P : Row → Type 0) (left : List Row) (row : Row) (right : List Row)
    → AllByRecursion P (left ++ row ∷ right) → AllByRecursion P (left ++ right)
each_drop P left row right all = let rest = each_right P left (row ∷ right) all in
    each_append P left right (each_left P left (row ∷ right) all) rest.1

-- what holds of each row holds of the others, and of the one that came in a row's place
each_put : (P Q : Row → Type 0) (left : List Row) (row after : Row) (right : List Row)
    → ((x : Row) → P x → Q x) → (P row → Q after)
    → AllByRecursion P (left ++ row ∷ right) → AllByRecursion Q (left ++ after ∷ right)
each_put P Q left row after right others this all =
    let rest = each_right P left (row ∷ right) all in
    each_append Q left (after ∷ right)
    (each_weaker P Q others left (each_left P left (row ∷ right) all))
    (this rest.0, each_weaker P Q others right rest.1)

differ_drop : (left : List Row) (row : Row) (right : List Row)
    → PlacesDiffer (left ++ row ∷ right) → PlacesDiffer (left ++ right)
differ_drop [] row right differ = differ.1
differ_drop (x ∷ left) row right differ =
    (each_drop _ left row right differ.0, differ_drop left row right differ.1)

-- the key belongs at the spot on the page that the frame has
pub spot_on : (f : Frame) (page : PageRows) (key : FieldList) (spot : Spot) → f.page ≡ Some page
    → HasSpotIn f key spot → HasSpot page key spot
spot_on f page key spot paged spot_in = subst (λ (r : PageRows). HasSpot r key spot)
    (same_some spot_in.page page (sym spot_in.paged ∙ paged)) spot_in.finds

-- what a search of a frame's leaf finds
pub finds_row : (f : Frame) (page : PageRows) (key : FieldList) (spot : Spot) (o : Option ℕ)
    → f.page ≡ Some page → IsPageInOrder page → f.clock ≤ last_clock → HasSpotIn f key spot
    → IsFoundAt page key o → FindsRow f key spot o
finds_row f page key spot o paged order within spot_in found =
    by_place o found
  where
    finds : HasSpot page key spot
    finds = spot_on f page key spot paged spot_in

    by_place : (place : Option ℕ) → IsFoundAt page key place → FindsRow f key spot place
    by_place None absent =
        record { page = page; paged = paged; spot_is = finds; absent = absent }
    by_place (Some place) has =
        let row : HasRowOf f place key =
        record { page = page; paged = paged; level = finds.level; has = has } in
        record {
          has = row;
          goes = takes_out f place page paged order within key row;
          sets = λ value less. values_are_set f place key value row order within less;
          lacks = λ value e refused.
              refused_values_lack_room f place key value e row order refused;
        }

-- a row that was found, or none
pub found_old : (f : Frame) (key : FieldList) (spot : Spot) (o : Option ℕ) → FindsRow f key spot o
    → is_some o ≡ true → (place : ℕ) × HasOldRow f key place
found_old f key spot (Some place) found there = (place, found)
found_old f key spot None found there = absurd cc

pub found_new : (f : Frame) (key : FieldList) (spot : Spot) (o : Option ℕ) → FindsRow f key spot o
    → is_some o ≡ false → LacksRow f key spot
found_new f key spot (Some place) found none = absurd cc
found_new f key spot None found none = found

module _ (shape : Shape) (i : ℕ) (key : FieldList) (f : Frame)
    (leaf : IsLeafOf shape i key f) where
  -- the leaf's page, by the frame
  page_is : (page : PageRows) → f.page ≡ Some page → leaf.page.is.page ≡ page
  page_is page paged = same_some leaf.page.is.page page (sym leaf.page.is.paged ∙ paged)

  -- the leaf's values, by the frame
  pub lacks_key : (spot : Spot) → LacksRow f key spot
      → value_at key (row_pairs leaf.page.is.page.rows) ≡ None
  lacks_key spot lacks =
      ap (λ (r : PageRows). value_at key (row_pairs r.rows)) (page_is lacks.page lacks.paged)
      ∙ lacks.absent

  pub lacked_key : (g : Frame) (place : ℕ) (value : List ℕ) → PutsRow f g place key value
      → value_at key (row_pairs leaf.page.is.page.rows) ≡ None
  lacked_key g place value puts =
      ap (λ (r : PageRows). value_at key (row_pairs r.rows)) (page_is puts.page puts.had)
      ∙ puts.absent

  pub has_key : (place : ℕ) → HasOldRow f key place
      → (value : List ℕ) × (value_at key (row_pairs leaf.page.is.page.rows) ≡ Some value)
  has_key place row = (
    row.goes.value,
    ap (λ (r : PageRows). value_at key (row_pairs r.rows)) (page_is row.goes.page row.goes.had)
        ∙ row.goes.has,
  )

  pub set_key : (g : Frame) (value : List ℕ) → (sets : SetsValue f g key value)
      → value_at key (row_pairs leaf.page.is.page.rows) ≡ Some sets.before
  set_key g value sets =
      ap (λ (r : PageRows). value_at key (row_pairs r.rows)) (page_is sets.page sets.had)
      ∙ sets.has

  -- a row that was put in is a change
  pub put_makes : (g : Frame) (place : ℕ) (value : List ℕ) → PutsRow f g place key value
      → MakesChange shape (Put key value) f g
  put_makes g place value puts =
      let head : puts.new.head ≡ leaf.page.is.page.head =
      puts.head ∙ ap (λ (r : PageRows). r.head) (sym (page_is puts.page puts.had)) in
      let fields = ap (λ (h : PageHead). h.fields) head in
      let low : g.low ≡ f.low = ap (λ (h : Frame). h.low) puts.kept in
      let high : g.high ≡ f.high = ap (λ (h : Frame). h.high) puts.kept in record {
        page = puts.page;
        new = puts.new;
        had = puts.had;
        has = ap (λ (h : Frame). h.page) puts.kept;
        head = puts.head;
        low = low;
        high = high;
        allowed = ap is_none puts.absent;
        changes = inl puts.inserts;
        order = record {
          fields = subst (λ (h : PageHead). h.fields ≡ fields_for shape h.index) (sym head)
              leaf.page.order.fields;
          keys = each_weaker (IsRowOf puts.new.head)
              (λ (x : Row). length x.key ≡ puts.new.head.fields) (λ x is. is.fields)
              puts.new.rows puts.order.each;
          low = subst (λ o. HasFields puts.new.head.fields (bound o)) (sym low)
              (subst (λ n. HasFields n (bound f.low)) (sym fields) leaf.page.order.low);
          high = subst (λ o. HasFields puts.new.head.fields (bound o)) (sym high)
              (subst (λ n. HasFields n (bound f.high)) (sym fields) leaf.page.order.high);
          bodies = each_weaker (IsRowOf puts.new.head)
              (λ (x : Row). FitsLevel puts.new.head.level x.body) (λ x is. is.body)
              puts.new.rows puts.order.each;
          places = puts.order.places;
        };
      }

  -- and so is a row that is to go
  pub del_makes : (place : ℕ) → HasOldRow f key place
      → MakesChange shape (Del key) f (frame_without place f)
  del_makes place row = let goes = row.goes in let d = goes.deletes in
      let old = subst
      (λ (r : PageRows). IsOrderly (fields_for shape) (page_within r f.low f.high))
      (page_is goes.page goes.had) leaf.page.order in record {
        page = goes.page;
        new = page_without place goes.page;
        had = goes.had;
        has = ap (option_map (page_without place)) goes.had;
        head = refl;
        low = refl;
        high = refl;
        allowed = ap is_some goes.has;
        changes = inr (inr d);
        order = record {
          fields = old.fields;
          keys = subst (AllByRecursion (λ (x : Row). length x.key ≡ goes.page.head.fields))
              (sym d.is) (each_drop _ d.left d.row d.right
              (subst (AllByRecursion (λ (x : Row). length x.key ≡ goes.page.head.fields)) d.was
              old.keys));
          low = old.low;
          high = old.high;
          bodies = subst (AllByRecursion (λ (x : Row). FitsLevel goes.page.head.level x.body))
              (sym d.is) (each_drop _ d.left d.row d.right
              (subst (AllByRecursion (λ (x : Row). FitsLevel goes.page.head.level x.body)) d.was
              old.bodies));
          places = subst PlacesDiffer (sym d.is)
              (differ_drop d.left d.row d.right (subst PlacesDiffer d.was old.places));
        };
      }

  -- and a row that got another value, or is to get it
  pub set_makes : (g : Frame) (value : List ℕ) → SetsValue f g key value
      → MakesChange shape (Set key value) f g
  set_makes g value sets = let s = sets.sets in
      let old = subst
      (λ (r : PageRows). IsOrderly (fields_for shape) (page_within r f.low f.high))
      (page_is sets.page sets.had) leaf.page.order in
      let fields : sets.page.head.fields ≡ sets.new.head.fields =
      ap (λ (h : PageHead). h.fields) (sym sets.head) in
      let low : g.low ≡ f.low = ap (λ (h : Frame). h.low) sets.kept in
      let high : g.high ≡ f.high = ap (λ (h : Frame). h.high) sets.kept in
      let level : 0 ≡ sets.new.head.level =
      sym (ap (λ (h : PageHead). h.level) sets.head ∙ sets.level) in record {
        page = sets.page;
        new = sets.new;
        had = sets.had;
        has = ap (λ (h : Frame). h.page) sets.kept;
        head = sets.head;
        low = low;
        high = high;
        allowed = ap is_some sets.has;
        changes = inr (inl s);
        order = record {
          fields = subst (λ (h : PageHead). h.fields ≡ fields_for shape h.index) (sym sets.head)
              old.fields;
          keys = subst (AllByRecursion (λ (x : Row). length x.key ≡ sets.new.head.fields))
              (sym s.is)
              (each_put (λ (x : Row). length x.key ≡ sets.page.head.fields)
              (λ (x : Row). length x.key ≡ sets.new.head.fields) s.left s.row s.after s.right
              (λ x is. is ∙ fields) (λ is. ap length s.key ∙ (is ∙ fields))
              (subst (AllByRecursion (λ (x : Row). length x.key ≡ sets.page.head.fields)) s.was
              old.keys));
          low = subst (λ o. HasFields sets.new.head.fields (bound o)) (sym low)
              (subst (λ n. HasFields n (bound f.low)) fields old.low);
          high = subst (λ o. HasFields sets.new.head.fields (bound o)) (sym high)
              (subst (λ n. HasFields n (bound f.high)) fields old.high);
          bodies = subst (AllByRecursion (λ (x : Row). FitsLevel sets.new.head.level x.body))
              (sym s.is)
              (each_put (λ (x : Row). FitsLevel sets.page.head.level x.body)
              (λ (x : Row). FitsLevel sets.new.head.level x.body) s.left s.row s.after s.right
              (λ x fits. subst (λ (h : PageHead). FitsLevel h.level x.body) (sym sets.head) fits)
              (λ fits. subst (λ n. FitsLevel n s.after.body) level
              (subst (FitsLevel 0) (sym s.has) refl))
              (subst (AllByRecursion (λ (x : Row). FitsLevel sets.page.head.level x.body)) s.was
              old.bodies));
          places = sets.places;
        };
      }
