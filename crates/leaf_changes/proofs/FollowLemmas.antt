-- A change of the held leaf follows, whether it was made or is to be made.
use Rattle.std.proofs.Common.{◌≡◌, ◌≢◌, ◌<◌, ℕ, List, set, sym, ap, subst, ◌∙◌, Option, Some}
use mathlib.Core.Option.{some}
use lib.ListN.{get_elem?}
use Rattle.key_tuple.specs.Order.{FieldList}
use Rattle.key_tuple.specs.KeyPlace.{At, within}
use Rattle.atomic_table.proofs.Lists.{set_here, set_else}
use Rattle.latch_law.specs.Fitting.{AreValuesOf}
use Rattle.latch_law.specs.Views.{holding, knowns}
use Rattle.latch_law.proofs.Lists.{known_at}
use Rattle.list_facts.proofs.Places.{inside, same_some}
use Rattle.latch_space.specs.Passes.{view, values}
use Rattle.latch_space.proofs.Pointwise.{whole_values, values_set}
use Rattle.map_history.specs.Map.{MapChange, key_of}
use Rattle.index_page.specs.declared.head.PageHead.{PageHead}
use Rattle.index_page.specs.Page.{PageRows}
use Rattle.tree_law.specs.Pages.{Page, is_own, IsOrderly}
use Rattle.index_law.specs.Answers.{MadeChange}
use Rattle.forest_law.specs.declared.objects.Frame.{Frame}
use Rattle.forest_law.specs.declared.objects.Object.{Object}
use Rattle.forest_law.specs.declared.objects.Object.TheVariants as object
use Rattle.forest_law.specs.Law.{Follows}
use Rattle.forest_law.specs.Lists.{AllowsChange}
use Rattle.forest_law.specs.HashLaws.{BlocksAskTheSame}
use Rattle.forest_law.specs.Numbers.{frame_id, frames_of}
use Rattle.forest_law.specs.RowSteps.{ChangesRow}
use Rattle.forest_law.specs.State.{page_if, page_within, fields_for}
use Rattle.forest_law.specs.Steps.{InHand, frame_step, MakesFrameStep}
use Rattle.forest_law.proofs.RowStepLemmas.{row_follows}
use Rattle.forest_world.specs.Held.{TreePass, shape_of_pass, HasFrame}
use Rattle.tree_facts.specs.TreeFrames.{low_of, high_of}
use Rattle.leaf_changes.specs.Commits.{MakesChange}
use Rattle.leaf_changes.specs.Hashed.{KeepsHashed}
use Rattle.leaf_changes.specs.Holds.{HoldsLeaf}
use Rattle.leaf_changes.proofs.KeptLemmas.{hash_kept, others_rest, whole_kept}

module _ (p : TreePass) (b : ℕ) where
  -- the number of the frame's object
  abbrev pub leaf_id : ℕ
  leaf_id = frame_id (shape_of_pass p) b

  -- the values in hand, but for the frame, which is to be the next one
  abbrev pub next_values : Frame → List (Option Object)
  next_values next = set (values p) leaf_id (Some (object.Frame next))

  pub next_at : (f g next : Frame) → HasFrame p b f g
      → get_elem? (next_values next) leaf_id ≡ some (Some (object.Frame next))
  next_at f g next has = set_here (values p) leaf_id (Some (object.Frame next))
      (inside (values p) leaf_id (Some (object.Frame g)) has.value)

  pub next_else : (next : Frame) (j : ℕ) → j ≢ leaf_id
      → get_elem? (next_values next) j ≡ get_elem? (values p) j
  next_else next j differs = set_else (values p) leaf_id j (Some (object.Frame next)) differs

  pub next_suits : (o : Option ℕ) (f x next h : Frame) → HasFrame p b f x
      → KeepsHashed p o b f next h → AreValuesOf (view p) (next_values next)
  next_suits o f x next h has hash =
      values_set (view p) (values p) leaf_id (holding has.held.0 (object.Frame f))
      (object.Frame next)
      (whole_values p (whole_kept p o b f next x h has hash)) has.held.1

  module _ (i : ℕ) (key : FieldList) where
    module _ (f g x : Frame) (change : MapChange) (holds : HoldsLeaf p b i key f x)
        (about : key_of change ≡ key) (makes : MakesChange (shape_of_pass p) change f g) where
      abbrev before : Page
      before = page_within makes.page f.low f.high

      abbrev after : Page
      after = record before { rows = makes.new.rows }

      abbrev hand : InHand
      hand = record { block = b; old = f; new = g }

      -- the head of the leaf
      head_is : makes.page.head ≡ holds.leaf.page.is.page.head
      head_is = ap (λ (r : PageRows). r.head)
          (same_some makes.page holds.leaf.page.is.page (sym makes.had ∙ holds.leaf.page.is.paged))

      -- and its number
      abbrev number : ℕ
      number = holds.leaf.page.is.page.head.number

      -- the page after the change
      after_is : page_within makes.new g.low g.high ≡ after
      after_is k =
          page_within (record { head = makes.head k; rows = makes.new.rows }) (makes.low k)
          (makes.high k)

      allows : AllowsChange number before i change
      allows = let is = holds.leaf.page.is in record {
        tree = ap (λ (h : PageHead). is_own number h.prev) head_is ∙ is.tree;
        index = ap (λ (h : PageHead). h.index) head_is ∙ is.index;
        leaf = ap (λ (h : PageHead). h.level) head_is ∙ is.at_level;
        inside = ap (λ k. within (low_of f) (high_of f) (At k)) about ∙ holds.leaf.inside;
        allowed = makes.allowed;
      }

      module _ (vs : List (Option Object))
          (at : get_elem? vs leaf_id ≡ some (Some (object.Frame g)))
          (same : (j : ℕ) → j ≢ leaf_id → get_elem? vs j ≡ get_elem? (values p) j) where
        step_is : MakesFrameStep (shape_of_pass p) (knowns (view p).held) vs
            (frame_step hand number before after)
        step_is = let held = holds.has.held in record {
          becomes = (
            known_at (view p).held leaf_id (holding held.0 (object.Frame f)) held.1,
            at,
          );
          had = record {
            rows = makes.page;
            paged = makes.had;
            number = ap (λ (h : PageHead). h.number) head_is;
            is = ap (λ o. page_if o f.low f.high) makes.had;
          };
          has = record {
            rows = makes.new;
            paged = makes.has;
            number = ap (λ (h : PageHead). h.number) (makes.head ∙ head_is);
            is = ap (λ o. page_if o g.low g.high) makes.has ∙ ap Some after_is;
          };
          order = subst (IsOrderly (fields_for (shape_of_pass p))) after_is makes.order;
        }

        -- the change may be made of what is held
        pub leaf_follows : BlocksAskTheSame → (o : Option ℕ) → KeepsHashed p o b f g g
            → b < frames_of (shape_of_pass p) → (deed : MadeChange) → deed.change ≡ change
            → Follows (shape_of_pass p) (knowns (view p).held) vs (Some (i, deed))
        leaf_follows ask o hash below deed is =
            row_follows (shape_of_pass p) (knowns (view p).held) vs (i, deed)
            (record {
              number = number;
              hand = hand;
              page = before;
              rows = makes.new.rows;
              allows = subst (AllowsChange number before i) (sym is) allows;
              changes = subst
                  (λ c. ChangesRow c makes.page.rows makes.new.rows f.clock g.clock) (sym is)
                  makes.changes;
              make = record {
                each = (step_is, tt);
                tops = tt;
                others = λ k y z becomes apart aside.
                    others_rest p o b f g x g holds.has hash vs at same k y z becomes apart.0;
              };
            })
            (hash_kept ask p o b f g x holds.has hash below vs at same)
