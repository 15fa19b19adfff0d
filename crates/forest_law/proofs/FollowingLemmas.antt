-- A lawful state stays lawful when what is held changes as the law allows.
use Rattle.std.proofs.Common.{◌≡◌, ◌≢◌, ◌⊎◌, inl, inr, ℕ, ◌<◌, true, [], ◌∷◌, ◌++◌, List, length, set, length-set, sym, ap, subst, ◌∙◌, arith, refl, Option, Some, None}
use mathlib.Core.List.{map-append}
use mathlib.Core.Logic.{dite}
use mathlib.Core.Option.{some, some-injective, some-ne-none}
use mathlib.Core.Option as maybe
use native.Mathlib.Decide.{ℕ_discrete}
use lib.ListN.{get_elem?}
use Rattle.atomic_table.proofs.Lists.{set_here, set_else}
use Rattle.list_facts.proofs.Places.{inside, none_is_not}
use Rattle.latch_law.specs.declared.knows.Entry.{Entry}
use Rattle.latch_law.specs.Whole.{overlay}
use Rattle.latch_law.specs.Moves.{IsChanged, Moves}
use Rattle.latch_law.specs.Views.{knowns}
use Rattle.latch_law.proofs.Lists.{length-overlay, overlay_some, overlay_none}
use Rattle.map_history.specs.Map.{is_allowed, key_of, value_of, write, map_after, AreLawful}
use Rattle.map_history.proofs.HistoryLemmas.{map_after-push, lawful-push}
use Rattle.tree_law.proofs.ContentLemmas.{maps_are_written}
use Rattle.index_law.specs.Answers.{MadeChange}
use Rattle.forest_law.specs.Lists.{AreLawfulLists}
use Rattle.index_law.specs.State.{Entries, changes, written_in_all}
use Rattle.forest_law.specs.declared.objects.Object.{Object}
use Rattle.forest_law.specs.State.{ForestState, list_of, maps_of}
use Rattle.forest_law.specs.Budget.{ArePaid}
use Rattle.forest_law.specs.Law.{AreLawfulObjects, IsLawful, Follows, MayFollow}
use Rattle.forest_law.specs.Outside.{AreOutsideHeld}
use Rattle.index_law.specs.Rightness.{IsRight}
use Rattle.forest_law.specs.References.{IsReference}
use Rattle.forest_law.proofs.ObjectLemmas.{Leads, Stays, Changes}
use Rattle.forest_law.proofs.KeepingLemmas.{map_allows, objects_stay}
use Rattle.forest_law.proofs.BudgetKeptLemmas.{written_by, written_in-push, written_in_all-set, budget_lasts}
use Rattle.forest_law.proofs.OutsideLemmas.{outside_stays}

-- after a step the objects are those before it, with the new values of what is held
pub objects_after : (name : ℕ) (w w' : ForestState) (us : List (Option Object))
    (change : Option (ℕ × MadeChange)) → IsChanged name w us change w'
    → w'.objects ≡ overlay us w.objects
objects_after name w w' us None is = ap (λ (z : ForestState). z.objects) is
objects_after name w w' us (Some d) is = ap (λ (z : ForestState). z.objects) is.3

-- a step leaves the shape
pub shape_after : (name : ℕ) (w w' : ForestState) (us : List (Option Object))
    (change : Option (ℕ × MadeChange)) → IsChanged name w us change w' → w'.shape ≡ w.shape
shape_after name w w' us None is = ap (λ (z : ForestState). z.shape) is
shape_after name w w' us (Some d) is = ap (λ (z : ForestState). z.shape) is.3

module _ (name : ℕ) (w w' : ForestState)
    (moves : Moves IsRight IsReference MayFollow name w w') where
  laid : w'.objects ≡ overlay moves.news w.objects
  laid = objects_after name w w' moves.news moves.change moves.is_changed

  is_at : (k : ℕ) (y : Object) → get_elem? moves.news k ≡ some (Some y)
      → get_elem? w'.objects k ≡ some y
  is_at k y e = let x = moves.are_news.only k y e in
      ap (λ z. get_elem? z k) laid
      ∙ overlay_some moves.news w.objects k y e
      (inside w.objects k x.0 (moves.held.each k x.0 x.1).1)

  -- a step leads from the objects to the objects
  pub step_leads : Leads w.objects w'.objects (knowns moves.view.held) moves.news
  step_leads = record {
    fate = λ k. fate k (get_elem? (knowns moves.view.held) k) refl;
    was = λ k x e. (moves.held.each k x e).1;
    is = is_at;
  }
    where
      stays : (k : ℕ) → ((x : Object) → get_elem? (knowns moves.view.held) k ≡ some (Some x) → ⊥)
          → Stays w.objects w'.objects (knowns moves.view.held) moves.news k
      stays k free = record {
        same = ap (λ z. get_elem? z k) laid
            ∙ overlay_none moves.news w.objects k
            (λ y e. (let x = moves.are_news.only k y e in free x.0 x.1));
        free = free;
      }

      fate : (k : ℕ) (o : maybe.Option (Option Object)) → get_elem? (knowns moves.view.held) k ≡ o
          → Stays w.objects w'.objects (knowns moves.view.held) moves.news k
          ⊎ Changes w.objects w'.objects (knowns moves.view.held) moves.news k
      fate k (maybe.some (Some x)) e = let y = moves.are_news.each k x e in
          inr (record {
            old = x;
            new = y.0;
            becomes = (e, y.1);
            was = (moves.held.each k x e).1;
            is = is_at k y.0 y.1;
          })
      fate k (maybe.some None) e = inl (stays k (λ x q. none_is_not x (sym e ∙ q)))
      fate k maybe.none e = inl (stays k (λ x q. some-ne-none (Some x) (sym q ∙ e)))

module _ (name : ℕ) (w w' : ForestState) (law : AreLawfulObjects w.shape w.objects w.lists)
    (moves : Moves IsRight IsReference MayFollow name w w') where
  leads : Leads w.objects w'.objects (knowns moves.view.held) moves.news
  leads = step_leads name w w' moves

  counted : length w'.objects ≡ length w.objects
  counted = ap length (objects_after name w w' moves.news moves.change moves.is_changed)
      ∙ length-overlay moves.news w.objects

  -- the terms that the pass knows have the state's shape
  here : (change : Option (ℕ × MadeChange))
      → Follows moves.view.terms.shape (knowns moves.view.held) moves.news change
      → Follows w.shape (knowns moves.view.held) moves.news change
  here change f = subst (λ s. Follows s (knowns moves.view.held) moves.news change)
      (sym moves.on.shape) f

  module _ (d : ℕ × MadeChange)
      (f : Follows w.shape (knowns moves.view.held) moves.news (Some d)) (xs : Entries)
      (there : get_elem? w.lists d.0 ≡ some xs)
      (lists : w'.lists ≡ set w.lists d.0 (xs ++ record { change = d.1; by = name } ∷ [])) where
    abbrev entry : Entry MadeChange
    entry = record { change = d.1; by = name }

    longer : changes (xs ++ entry ∷ []) ≡ changes xs ++ d.1.change ∷ []
    longer = map-append (λ (e : Entry MadeChange). e.change.change) xs (entry ∷ [])

    at : get_elem? w'.lists d.0 ≡ some (xs ++ entry ∷ [])
    at = ap (λ z. get_elem? z d.0) lists
        ∙ set_here w.lists d.0 (xs ++ entry ∷ []) (inside w.lists d.0 xs there)

    elsewhere : (j : ℕ) → j ≢ d.0 → get_elem? w'.lists j ≡ get_elem? w.lists j
    elsewhere j isnt = ap (λ z. get_elem? z j) lists ∙ set_else w.lists d.0 j (xs ++ entry ∷ []) isnt

    map_is : maps_of w.lists d.0 ≡ map_after (changes xs)
    map_is = ap (λ z. map_after (changes (list_of z))) there

    allowed : is_allowed (map_after (changes xs)) d.1.change ≡ true
    allowed = ap (λ m. is_allowed m d.1.change) (sym map_is)
        ∙ map_allows w.shape w.objects w'.objects (knowns moves.view.held) moves.news leads w.lists
        law d.0 d.1.change f.allowed

    map_here : maps_of w'.lists d.0
        ≡ write (key_of d.1.change) (value_of d.1.change) (maps_of w.lists d.0)
    map_here = ap (λ z. map_after (changes (list_of z))) at
        ∙ (ap map_after longer ∙ (map_after-push (changes xs) d.1.change
        ∙ (maps_are_written.change (map_after (changes xs)) d.1.change allowed
        ∙ ap (write (key_of d.1.change) (value_of d.1.change)) (sym map_is))))

    map_else : (j : ℕ) → j ≢ d.0 → maps_of w'.lists j ≡ maps_of w.lists j
    map_else j isnt = ap (λ z. map_after (changes (list_of z))) (elsewhere j isnt)

    lawful : AreLawfulLists w'.lists
    lawful j ys e = dite (ℕ_discrete j d.0)
        (λ is. let same : xs ++ entry ∷ [] ≡ ys =
        some-injective (xs ++ entry ∷ []) ys
        (sym at ∙ (ap (get_elem? w'.lists) (sym is) ∙ e)) in
        subst (λ z. AreLawful (changes z)) same
        (subst AreLawful (sym longer)
        (lawful-push (changes xs) d.1.change (law.lists d.0 xs there) allowed)))
        (λ isnt. law.lists j ys (sym (elsewhere j isnt) ∙ e))

    changed : AreLawfulObjects w.shape w'.objects w'.lists
    changed = objects_stay w.shape w.objects w'.objects (knowns moves.view.held) moves.news leads
        w.lists law w'.lists (Some d) f (map_here, map_else) counted
        (ap length lists ∙ length-set w.lists d.0 (xs ++ entry ∷ [])) lawful

    -- the change pays
    paid_changed : ArePaid w.shape w.objects w.lists → ArePaid w.shape w'.objects w'.lists
    paid_changed = budget_lasts w.shape w.objects w'.objects (knowns moves.view.held) moves.news
        leads w.lists law w'.lists (Some d) f (map_here, map_else)
        (ap written_in_all lists ∙ written_in_all-set w.lists d.0 xs (xs ++ entry ∷ [])
        (written_by (Some d)) there (written_in-push xs entry))

  -- without a change there is nothing to pay for
  paid_unchanged : Follows w.shape (knowns moves.view.held) moves.news None → w'.lists ≡ w.lists
      → ArePaid w.shape w.objects w.lists → ArePaid w.shape w'.objects w'.lists
  paid_unchanged f lists = budget_lasts w.shape w.objects w'.objects (knowns moves.view.held)
      moves.news leads w.lists law w'.lists None f (ap maps_of lists)
      (let same = ap written_in_all lists in omega (arith, same))

  unchanged : Follows w.shape (knowns moves.view.held) moves.news None → w'.lists ≡ w.lists
      → AreLawfulObjects w.shape w'.objects w'.lists
  unchanged f lists = objects_stay w.shape w.objects w'.objects (knowns moves.view.held) moves.news
      leads w.lists law w'.lists None f (ap maps_of lists) counted (ap length lists)
      (λ i xs there. law.lists i xs (ap (λ z. get_elem? z i) (sym lists) ∙ there))

  objects_lawful : (change : Option (ℕ × MadeChange))
      → Follows moves.view.terms.shape (knowns moves.view.held) moves.news change
      → IsChanged name w moves.news change w' → AreLawfulObjects w.shape w'.objects w'.lists
  objects_lawful None f is = unchanged (here None f) (ap (λ (z : ForestState). z.lists) is)
  objects_lawful (Some d) f is =
      changed d (here (Some d) f) is.0 is.1 (ap (λ (z : ForestState). z.lists) is.3)

  -- so the pages stay within the budget
  budget_kept : (change : Option (ℕ × MadeChange))
      → Follows moves.view.terms.shape (knowns moves.view.held) moves.news change
      → IsChanged name w moves.news change w' → ArePaid w.shape w.objects w.lists
      → ArePaid w.shape w'.objects w'.lists
  budget_kept None f is = paid_unchanged (here None f) (ap (λ (z : ForestState). z.lists) is)
  budget_kept (Some d) f is =
      paid_changed d (here (Some d) f) is.0 is.1 (ap (λ (z : ForestState). z.lists) is.3)

module _ (name : ℕ) (w w' : ForestState) (law : IsLawful w) (below : name < w.passes)
    (moves : Moves IsRight IsReference MayFollow name w w') where
  -- the objects that the new values make
  over : Leads w.objects (overlay moves.news w.objects) (knowns moves.view.held) moves.news
  over = subst (λ z. Leads w.objects z (knowns moves.view.held) moves.news) (laid name w w' moves)
      (step_leads name w w' moves)

  outside : (change : Option (ℕ × MadeChange)) (lists : List Entries)
      → Follows moves.view.terms.shape (knowns moves.view.held) moves.news change
      → AreOutsideHeld (record w { objects = overlay moves.news w.objects; lists = lists })
  outside change lists f = outside_stays w name (overlay moves.news w.objects) lists
      (knowns moves.view.held) moves.news change law below moves.held moves.are_news over
      (here name w w' law.objects moves change f)

  -- pages outside the trees are held after the step
  outside_lawful : (change : Option (ℕ × MadeChange))
      → Follows moves.view.terms.shape (knowns moves.view.held) moves.news change
      → IsChanged name w moves.news change w' → AreOutsideHeld w'
  outside_lawful None f is = subst AreOutsideHeld (sym is) (outside None w.lists f)
  outside_lawful (Some d) f is = subst AreOutsideHeld (sym is.3)
      (outside (Some d) (set w.lists d.0 (is.0 ++ record { change = d.1; by = name } ∷ [])) f)

-- a step that follows leads from a lawful state to a lawful one
pub follow_lemma : (name : ℕ) (w w' : ForestState) → IsLawful w → name < w.passes
    → Moves IsRight IsReference MayFollow name w w' → IsLawful w'
follow_lemma name w w' law below moves = record {
  objects = subst (λ s. AreLawfulObjects s w'.objects w'.lists)
      (sym (shape_after name w w' moves.news moves.change moves.is_changed))
      (objects_lawful name w w' law.objects moves moves.change moves.follow moves.is_changed);
  budget = subst (λ s. ArePaid s w'.objects w'.lists)
      (sym (shape_after name w w' moves.news moves.change moves.is_changed))
      (budget_kept name w w' law.objects moves moves.change moves.follow moves.is_changed
      law.budget);
  outside = outside_lawful name w w' law below moves moves.change moves.follow moves.is_changed;
}
