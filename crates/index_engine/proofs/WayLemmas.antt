-- How a leaf was found, and what a call leaves behind that held it and answered nothing.
use Rattle.std.proofs.Common.{◌≡◌, inl, inr, ℕ, List, sym, subst, ◌∙◌, refl}
use Rattle.key_tuple.specs.Order.{FieldList}
use Rattle.key_tuple.specs.declared.mode.Mode.TheVariants as mode
use Rattle.latch_law.specs.declared.knows.Reference.{Reference}
use Rattle.latch_law.specs.declared.knows.Terms.{Terms}
use Rattle.latch_space.specs.Passes.{view}
use Rattle.map_history.specs.declared.columns.How.{How}
use Rattle.map_history.specs.declared.reply.Told.{Told}
use Rattle.map_history.specs.Map.{Pair}
use Rattle.map_history.specs.Operation.{Ask}
use Rattle.search_info.specs.declared.knows.Knows.{Knows}
use Rattle.index_law.specs.Shape.{Shape}
use Rattle.forest_law.specs.declared.objects.Frame.{Frame}
use Rattle.forest_law.specs.declared.objects.Object.{Object}
use Rattle.forest_law.specs.declared.objects.Object.TheVariants as object
use Rattle.forest_world.specs.Held.{TreePass, shape_of_pass}
use Rattle.call_law.specs.Once.{IsQuiet}
use Rattle.call_law.specs.Spoken.{View}
use Rattle.call_law.specs.Trace.{SparesTrees}
use Rattle.call_law.proofs.TraceLemmas.{quiet_of, quiet_both}
use Rattle.buffer_pool.specs.AsTaken.{AreAsTaken}
use Rattle.tree_descent.specs.declared.descending.Leaf.{Leaf}
use Rattle.tree_descent.specs.Descents.{Descends}
use Rattle.leaf_search.specs.declared.searched.Searched.{Searched}
use Rattle.leaf_search.specs.Searches.{Searches}
use Rattle.leaf_search.specs.Taught.{IsAsFound}
use Rattle.index_engine.specs.Leaving.{ComesToLeaf, LooksAndLeaves}
use Rattle.leaf_changes.specs.Says.{SparesPages}
use Rattle.index_engine.specs.Traces.{Finding, AreWayTo, IsFoundBy, EndsOnLeaf, TellsByLeaf}
use Rattle.index_engine.proofs.FoundLemmas.{TellsFound, back, back_adds, ends_all, spares_all}

-- a search found the leaf by the hash, or by a way
pub by_search : (p : TreePass) (l : Knows) (i : ℕ) (key : FieldList) (s : Searched) (q : TreePass)
    (m : Knows) → Searches p l i key s q m
    → ComesToLeaf (IsFoundBy (shape_of_pass p) i key s.how) p i key s.leaf q
by_search p l i key s q m found = record {
  silently = found.silently;
  as_taken = found.as_taken;
  lacked = found.lacked;
  frame = found.frame;
  knows = found.knows;
  is = found.is;
  came = elim found.came [
    | inl hit ↦ inl hit
    | inr down ↦ inr (
      down.0,
      record {
        vain = down.1.vain;
        path = down.1.path;
        is = down.1.references;
        leads = down.1.leads;
      },
    )
  ];
  count = found.count;
}

-- a descent is a way
pub by_way : (p : TreePass) (i : ℕ) (key : FieldList) (leaf : Leaf) (q : TreePass)
    → Descends p i mode.Ge key leaf q
    → ComesToLeaf (AreWayTo (shape_of_pass p) i key) p i key leaf q
by_way p i key leaf q went = record {
  silently = went.silently;
  as_taken = went.as_taken;
  lacked = went.lacked;
  frame = went.frame;
  knows = went.knows;
  is = went.is;
  came = record {
    vain = went.path.vain;
    path = went.path.path;
    is = went.path.references;
    leads = went.path.leads;
  };
  count = went.count;
}

-- nothing is told of a leaf that was found so, and the references are the leaf's at the end
pub record LooksFound (found : Finding) (v v' : View) (i : ℕ) (leaf : Frame) : Type 0 where
  pub quiet : IsQuiet v v' i
  pub ends : EndsOnLeaf v.terms.shape found quiet.added.references
  pub leaf_is : leaf ≡ ends.leaf
  pub spares : SparesTrees v.terms.shape quiet.added

-- so it is where nothing was answered while the leaf was held
unfoldable pub looks_found : (found : Finding) (p p0 p2 : TreePass) (i : ℕ) (key : FieldList)
    (leaf : Leaf) → ComesToLeaf found p i key leaf p0
    → (looks : LooksAndLeaves p0 leaf.block i p2)
    → LooksFound found (view p) (view p2) i looks.gave.frame
unfolding quiet_of quiet_both ends_all
looks_found found p p0 p2 i key leaf went left =
    let p1 = left.between in let gave = left.gave in let looks = left.looks in
    let first = went.silently.does.adds.numbers.terms in
    let terms = looks.quiet.adds.numbers.terms ∙ first in
    let beside = subst (λ (t : Terms Shape). SparesPages t.shape looks.quiet.added) first
    looks.beside in
    record {
      quiet = quiet_both (view p) (view p1) (view p2) i
          (quiet_both (view p) (view p0) (view p1) i
          (quiet_of (view p) (view p0) i went.silently.added went.silently.does.adds
          went.silently.silent) looks.quiet)
          (quiet_of (view p1) (view p2) i (back found p p0 p1 p2 i key leaf went gave)
          (back_adds found p p0 p1 p2 i key leaf went gave) refl);
      ends = ends_all found p p0 p1 p2 i key leaf went gave looks.quiet.added beside terms
          left.number;
      leaf_is = refl;
      spares = spares_all found p p0 p1 p2 i key leaf went gave looks.quiet.added beside terms;
    }

-- what is told of the search is how the leaf was found
pub ends_told : (shape : Shape) (i : ℕ) (key : FieldList) (told how : How) → told ≡ how
    → (qs : List (Reference Object)) → (ends : EndsOnLeaf shape (IsFoundBy shape i key how) qs)
    → (e : EndsOnLeaf shape (IsFoundBy shape i key told) qs) × (ends.leaf ≡ e.leaf)
ends_told shape i key told how by qs ends = subst
    (λ h. (e : EndsOnLeaf shape (IsFoundBy shape i key h) qs) × (ends.leaf ≡ e.leaf)) (sym by)
    (ends, refl)

-- the same, with what is so of the references before the leaf's and of that
found_told : (shape : Shape) (i : ℕ) (m : Knows) (key : FieldList) (told how : How) → told ≡ how
    → (qs : List (Reference Object)) → (ends : EndsOnLeaf shape (IsFoundBy shape i key how) qs)
    → AreAsTaken ends.before → IsAsFound shape i m how ends.taken (object.Frame ends.leaf)
    → (e : EndsOnLeaf shape (IsFoundBy shape i key told) qs) × AreAsTaken e.before
    × IsAsFound shape i m told e.taken (object.Frame e.leaf)
found_told shape i m key told how by qs ends before leaf = subst
    (λ h. (e : EndsOnLeaf shape (IsFoundBy shape i key h) qs) × AreAsTaken e.before
    × IsAsFound shape i m h e.taken (object.Frame e.leaf)) (sym by) (ends, before, leaf)

-- an answer that was told by a leaf that a search found, and that was given back as it was found
pub tells_search : (v v' : View) (m : Knows) (i : ℕ) (key : FieldList) (how : How) (ask : Ask)
    (told : Told) (row : Pair) (taken : Object) (leaf : Frame) → told.how ≡ how
    → IsAsFound v.terms.shape i m how taken (object.Frame leaf)
    → TellsFound (IsFoundBy v.terms.shape i key how) v v' i ask told row taken leaf
    → TellsByLeaf v v' m i key ask told row
tells_search v v' m i key how ask told row taken leaf by so tells =
    let last = subst
    (λ (t : Object). IsAsFound v.terms.shape i m how t (object.Frame tells.ends.leaf))
    tells.taken_is
    (subst (λ (f : Frame). IsAsFound v.terms.shape i m how taken (object.Frame f)) tells.leaf_is
    so) in
    let found = found_told v.terms.shape i m key told.how how by
    tells.tells.once.added.references tells.ends tells.as_taken last in
    record {
      tells = tells.tells;
      ends = found.0;
      as_taken = found.1;
      as_found = found.2;
      spares = tells.spares;
    }

-- what is so of a key is so of the same key
pub about_key : (P : ℕ → FieldList → Type 0) (i j : ℕ) (k l : FieldList) → i ≡ j → k ≡ l → P i k
    → P j l
about_key P i j k l index key so = subst (λ z. P j z) key (subst (λ z. P z k) index so)
