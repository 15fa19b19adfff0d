-- A leaf is hashed with its advice: it was, or it is built.
use Rattle.std.proofs.Common.{◌≡◌, ℕ, [], sym, ap, subst, ◌∙◌, refl, arith, Option, Some, None}
use Rattle.std.specs.List.{AllByRecursion}
use Rattle.std.specs.Prelude.{Bool, true, false, List, is_some, nat_lt, if◌then◌else◌}
use Rattle.key_tuple.specs.declared.mode.Params.{Params}
use Rattle.latch_law.specs.declared.knows.Reference.{Reference}
use Rattle.latch_space.specs.Passes.{view}
use Rattle.learning.specs.declared.event.BlockFigures.{BlockFigures}
use Rattle.index_page.specs.Page.{PageRows}
use Rattle.hash_law.specs.Blocks.{IsTidy}
use Rattle.hash_upkeep.specs.declared.built.Build.{Build}
use Rattle.hash_upkeep.specs.declared.built.Build.TheVariants.{Built, NotNeeded, ArenaFull}
use Rattle.hash_upkeep.specs.declared.hashing.Hashing.{Hashing}
use Rattle.hash_upkeep.specs.Build.{build_by}
use Rattle.map_history.specs.declared.columns.Note.{Note}
use Rattle.map_history.specs.declared.columns.Note.TheVariants as note
use Rattle.forest_law.specs.declared.objects.Frame.{Frame}
use Rattle.forest_law.specs.declared.objects.Object.{Object}
use Rattle.forest_law.specs.Hashed.{hash_block}
use Rattle.forest_world.specs.Held.{TreePass}
use Rattle.hash_maintain.specs.Leaves.{frame_built}
use Rattle.hash_maintain.specs.Upkeep.{hashing_as}
use Rattle.call_law.specs.Spoken.{View}
use Rattle.buffer_pool.specs.Forests.{IsFittedTree}
use Rattle.buffer_pool.specs.Pages.{HasTreePage}
use Rattle.buffer_pool.specs.Tries.{IsOfPart}
use Rattle.buffer_pool.proofs.HashRestLemmas.{known_tidy}
use Rattle.leaf_search.specs.Builds.{SuitsLeaf, HoldsToTeach, EndsBuild, EndsHashing}
use Rattle.leaf_search.specs.Lessons.{BuildsOnPart, BuildsSo, FrameBecomes, HashesLeaf, note_of_build, unhelped, with_figures}
use Rattle.leaf_search.proofs.BuiltFrameLemmas.{tidy_index}

-- what is there where something else is
there_too : (o : Option ℕ) (built : Option Params) (params : Params) → is_some o ≡ is_some built
    → built ≡ Some params → (index : ℕ) × (o ≡ Some index)
there_too (Some index) built params both is = (index, refl)
there_too None (Some other) params both is = absurd cc
there_too None None params both is = absurd cc

-- a leaf that is hashed with its advice is as a build would leave it
same_built : (f : Frame) (figures : BlockFigures) (how : Hashing) → IsTidy (hash_block f)
    → HasTreePage f how.index 0 → SuitsLeaf f figures → figures.built ≡ Some how.params
    → with_figures f figures ≡ frame_built NotNeeded how (with_figures f figures)
same_built f figures how tidy is suits built =
    let there = there_too f.hashed f.figures.built how.params tidy.both (sym suits.built ∙ built) in
    let hashed : f.hashed ≡ Some how.index =
    there.1 ∙ ap Some (tidy_index f how.index there.0 tidy is there.1) in
    λ j. record f { figures = record figures { built = built j }; hashed = hashed j }

-- the figures suit the leaf whether helps are counted or not
abbrev pub unhelped_suits : (v : View) (b i : ℕ) (figures : BlockFigures) → HoldsToTeach v b i figures
    → HoldsToTeach v b i (unhelped figures)
unhelped_suits v b i figures h = record {
  leaf = h.leaf;
  suits = record { built = h.suits.built; advice = h.suits.advice };
}

module _ (p q : TreePass) (b i : ℕ) (figures : BlockFigures)
    (h : HoldsToTeach (view p) b i figures) where
  abbrev f : Frame
  f = h.leaf.frame

  -- it was hashed so
  pub ends_same : IsFittedTree (view p) → figures.built ≡ Some figures.advice
      → FrameBecomes p b f (with_figures f (unhelped figures)) [] q
      → EndsHashing p i b f h.leaf.is.page figures note.Same q
  ends_same fitted built becomes = record {
    new = with_figures f (unhelped figures);
    given = [];
    becomes = becomes;
    hashes = record {
      answer = NotNeeded;
      note_is = refl;
      becomes = same_built f (unhelped figures) (hashing_as p b i figures.advice)
          (known_tidy (view p) fitted b f h.leaf.knows) h.leaf.is
          (record { built = h.suits.built; advice = h.suits.advice }) built;
      builds = (built, refl);
    };
  }

  on_part : (answer : Build) (given : List (Reference Object))
      → BuildsOnPart p i b h.leaf.is.page (unhelped figures) answer given
      → BuildsOnPart p i b h.leaf.is.page figures answer given
  on_part answer given builds = search

  -- a build that is made isn't told as one that wasn't needed
  not_needed : (need spare : ℕ) → NotNeeded ≡ build_by need spare → ⊥
  not_needed need spare e = none_of (nat_lt spare need) e
    where
      none_of : (b : Bool) → NotNeeded ≡ (if b then ArenaFull need spare else Built need) → ⊥
      none_of true e = absurd cc
      none_of false e = absurd cc

  builds_so : (answer : Build) (given : List (Reference Object))
      → BuildsOnPart p i b h.leaf.is.page (unhelped figures) answer given
      → BuildsSo p i b h.leaf.is.page figures answer given
  builds_so (Built nodes) given builds = on_part (Built nodes) given builds
  builds_so NotNeeded given builds = absurd (not_needed _ _ builds.told.is)
  builds_so (ArenaFull need spare) given builds = on_part (ArenaFull need spare) given builds

  -- or it is built
  pub ends_built : (answer : Build) (told : Note) → told ≡ note_of_build answer
      → EndsBuild p i b f h.leaf.is.page (unhelped figures) answer q
      → EndsHashing p i b f h.leaf.is.page figures told q
  ends_built answer told is ends = search (frame_built answer (hashing_as p b i figures.advice) (with_figures f (unhelped figures)), answer, is, builds_so answer ends.given ends.builds)

-- partitions alone were given back
pub hashes_parts : (p : TreePass) (i b : ℕ) (f : Frame) (page : PageRows) (figures : BlockFigures)
    (told : Note) (g : Frame) (given : List (Reference Object))
    → HashesLeaf p i b f page figures told g given → AllByRecursion IsOfPart given
hashes_parts p i b f page figures told g given hashes = by hashes.answer hashes.builds
  where
    one : (answer : Build) → BuildsOnPart p i b page figures answer given
        → AllByRecursion IsOfPart given
    one answer builds = subst (AllByRecursion IsOfPart) (sym builds.given)
        ((builds.now, refl, λ e. omega (arith, e)), tt)

    by : (answer : Build) → BuildsSo p i b page figures answer given
        → AllByRecursion IsOfPart given
    by (Built nodes) builds = one (Built nodes) builds
    by NotNeeded builds = subst (AllByRecursion IsOfPart) (sym builds.1) tt
    by (ArenaFull need spare) builds = one (ArenaFull need spare) builds
