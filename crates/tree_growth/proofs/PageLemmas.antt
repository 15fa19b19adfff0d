-- Pages that are kept on the way, and in whose bounds the key is.
use Rattle.std.proofs.Common.{◌≡◌, ◌≢◌, ℕ, Bool, true, false, List, [], ◌∷◌, length, cond, eq-eqb, sym, ap, subst, ◌∙◌}
use Rattle.std.specs.List.{AllByRecursion}
use Rattle.key_tuple.specs.declared.mode.Mode.{Mode}
use Rattle.key_tuple.specs.declared.mode.Mode.TheVariants as mode
use Rattle.key_tuple.specs.KeyPlace.{KeyPlace, At, above, cut_of}
use Rattle.key_tuple.specs.Order.{FieldList}
use Rattle.key_tuple.specs.Position.{position_cut}
use Rattle.latch_space.specs.Passes.{view}
use Rattle.tree_law.specs.Pages.{low_place, high_place, IsOrderly}
use Rattle.index_law.specs.Shape.{Shape}
use Rattle.forest_law.specs.declared.objects.Frame.{Frame}
use Rattle.forest_law.specs.Numbers.{frame_id}
use Rattle.forest_law.specs.State.{page_within, fields_for}
use Rattle.forest_world.specs.Held.{TreePass, shape_of_pass}
use Rattle.call_law.specs.Hands.{KnowsFrame}
use Rattle.call_law.specs.Spoken.{View}
use Rattle.buffer_pool.specs.Frames.{GivesFrame}
use Rattle.buffer_pool.proofs.CallLemmas.{gave_frame}
use Rattle.tree_descent.specs.Leaves.{HasCutWithin, cut_in, IsPageFor}
use Rattle.tree_growth.specs.declared.looking.PageInHand.{PageInHand}
use Rattle.tree_growth.specs.Pages.{TellsRoom, IsPageInHand, HoldsBothHalves}
use Rattle.tree_growth.specs.Ways.{IsGoingDown, ArrivesAt}
use Rattle.tree_growth.proofs.AddLemmas.{same_shape}
use Rattle.tree_growth.proofs.HandLemmas.{way_less, goes_gave, still_gave}

-- a page of the index with the key in its bounds, of a pass of this shape
abbrev pub HasKey : Shape → (i level : ℕ) → FieldList → Frame → Type 0
HasKey s i level key f = IsPageFor s f i level (cut_in s i mode.Ge key)

-- a key with all fields is where its cut is
pub cut_is_above : (fields : ℕ) (m : Mode) (key : FieldList) (x : KeyPlace) → length key ≡ fields
    → position_cut fields m key x ≡ above key x
cut_is_above fields m key x e =
    ap (λ (b : Bool). cond b (above key x) (cut_of m key x)) (eq-eqb (length key) fields e)

-- a page in hand of which this is known
module _ (v : View) (i : ℕ) (key : FieldList) (need b level : ℕ) (at : PageInHand) (f : Frame)
    (page : HasKey v.terms.shape i level key f) (tells : TellsRoom b page.is.page need at) where
  pub in_hand : KnowsFrame v b f → IsPageInHand v i key need at
  in_hand knows = record {
    frame = f;
    knows = subst (λ c. KnowsFrame v c f) (sym tells.is_block) knows;
    page = record {
      is = record {
        page = page.is.page;
        paged = page.is.paged;
        tree = page.is.tree;
        index = page.is.index;
        at_level = sym tells.is_level;
      };
      order = page.order;
      within = page.within;
    };
    tells = assumption;
  }

  pub its_level : at.level ≡ level
  its_level = tells.is_level ∙ page.is.at_level

-- one page is given back and another kept
module _ (p q : TreePass) (i : ℕ) (key : FieldList) (need : ℕ) (bs : List ℕ)
    (way : IsGoingDown p i key bs) (b k : ℕ) (ne : k ≢ b) (gave : GivesFrame p b q)
    (cover : (j : ℕ) → j ≢ frame_id (shape_of_pass p) b
    → AllByRecursion (λ (c : ℕ). j ≢ frame_id (shape_of_pass p) c) (k ∷ [])
    → AllByRecursion (λ (c : ℕ). j ≢ frame_id (shape_of_pass p) c) bs)
    (two : length bs ≡ 2) (level : ℕ) (f : Frame) (knows : KnowsFrame (view p) k f)
    (page : HasKey (shape_of_pass p) i level key f) where
  kept_way : IsGoingDown q i key (k ∷ [])
  kept_way = way_less p q i key bs (k ∷ []) way b gave cover two

  pub reaches_kept : (at : PageInHand) → TellsRoom k page.is.page need at
      → ArrivesAt p i key need at q
  reaches_kept at tells =
      let goes = goes_gave p q b way.known gave in
      let shape = same_shape p q _ (gave_frame p q way.known b gave).adds in
      record {
        goes = goes;
        way = subst (λ c. IsGoingDown q i key (c ∷ [])) (sym tells.is_block) kept_way;
        is = in_hand (view q) i key need k level at f
            (record {
              is = page.is;
              order = subst
                  (λ (s : Shape). IsOrderly (fields_for s) (page_within page.is.page f.low f.high))
                  (sym shape) page.order;
              within = subst (λ (s : Shape). HasCutWithin f (cut_in s i mode.Ge key)) (sym shape)
                  page.within;
            }) tells (still_gave p q b way.known gave k f ne knows);
      }

-- the half that has the key
module _ (p : TreePass) (i : ℕ) (key : FieldList) (left right : ℕ)
    (fields : length key ≡ fields_for (shape_of_pass p) i)
    (halves : HoldsBothHalves (view p) left right i key) where
  pub at_cut : cut_in (shape_of_pass p) i mode.Ge key (At halves.at) ≡ above key (At halves.at)
  at_cut = cut_is_above (fields_for (shape_of_pass p) i) mode.Ge key (At halves.at) fields

  abbrev pub lower_has : above key (At halves.at) ≡ true
      → HasKey (shape_of_pass p) i halves.level key halves.lower
  lower_has below = record {
    is = halves.is_lower;
    order = halves.order_lower;
    within = record {
      low = halves.begins;
      high = ap (λ o. cut_in (shape_of_pass p) i mode.Ge key (high_place o)) halves.to
          ∙ (at_cut ∙ below);
    };
  }

  abbrev pub upper_has : above key (At halves.at) ≡ false
      → HasKey (shape_of_pass p) i halves.level key halves.upper
  upper_has not_below = record {
    is = halves.is_upper;
    order = halves.order_upper;
    within = record {
      low = ap (λ o. cut_in (shape_of_pass p) i mode.Ge key (low_place o)) halves.from
          ∙ (at_cut ∙ not_below);
      high = halves.ends;
    };
  }
