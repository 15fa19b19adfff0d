-- How a frame is hashed once its leaf was built, and that it stays tidy.
use Rattle.std.proofs.Common.{◌≡◌, ◌<◌, ℕ, inl, inr, length, sym, ap, subst, ◌∙◌, refl, arith, Some, None}
use Rattle.std.specs.Prelude.{is_some}
use Rattle.list_facts.proofs.Places.{same_some}
use Rattle.key_tuple.specs.declared.mode.Params.{Params}
use Rattle.learning.specs.declared.event.BlockFigures.{BlockFigures}
use Rattle.index_page.specs.Page.{PageRows}
use Rattle.hash_law.specs.Blocks.{AskFew, HasLeafOf, IsTidy}
use Rattle.hash_upkeep.specs.declared.built.Build.{Build}
use Rattle.hash_upkeep.specs.declared.built.Build.TheVariants.{Built, NotNeeded, ArenaFull}
use Rattle.hash_upkeep.specs.declared.hashing.Hashing.{Hashing}
use Rattle.hash_upkeep.specs.Build.{LacksIfFull}
use Rattle.hash_upkeep.specs.Hashing.{row_entries}
use Rattle.index_law.specs.Shape.{Shape}
use Rattle.forest_law.specs.declared.objects.Frame.{Frame}
use Rattle.forest_law.specs.Hashed.{hash_block}
use Rattle.forest_law.specs.HashStays.{page_needs, IsHashedAnew}
use Rattle.forest_law.specs.Steps.{FrameRests}
use Rattle.hash_maintain.specs.Leaves.{frame_built}
use Rattle.buffer_pool.specs.Pages.{HasTreePage}
use Rattle.leaf_search.specs.Lessons.{with_figures}

none_is : {A : Type 0} (x : A) → None ≡ Some x → ⊥
none_is x e = absurd cc

-- once a leaf was built its frame is at rest
pub built_rests : (answer : Build) (how : Hashing) (f : Frame) (figures : BlockFigures)
    → FrameRests f (frame_built answer how (with_figures f figures))
built_rests answer how f figures =
    record { page = refl; low = refl; high = refl; clock = omega arith }

-- it is hashed for the index, or not at all
pub built_index : (answer : Build) (how : Hashing) (f : Frame) (index : ℕ)
    → (frame_built answer how f).hashed ≡ Some index → index ≡ how.index
built_index (Built nodes) how f index e = same_some index how.index (sym e)
built_index NotNeeded how f index e = same_some index how.index (sym e)
built_index (ArenaFull need spare) how f index e = absurd (none_is index e)

-- with these parameters, if it is
built_params : (answer : Build) (how : Hashing) (f : Frame) (params : Params)
    → (frame_built answer how f).figures.built ≡ Some params → params ≡ how.params
built_params (Built nodes) how f params e = same_some params how.params (sym e)
built_params NotNeeded how f params e = same_some params how.params (sym e)
built_params (ArenaFull need spare) how f params e = absurd (none_is params e)

built_both : (answer : Build) (how : Hashing) (f : Frame)
    → is_some (frame_built answer how f).hashed ≡ is_some (frame_built answer how f).figures.built
built_both (Built nodes) how f = refl
built_both NotNeeded how f = refl
built_both (ArenaFull need spare) how f = refl

-- and stays tidy
pub built_tidy : (answer : Build) (how : Hashing) (f : Frame) → HasLeafOf (hash_block f) how.index
    → AskFew f.page how.params → IsTidy (hash_block f)
    → IsTidy (hash_block (frame_built answer how f))
built_tidy answer how f leaf few tidy = record {
  both = built_both answer how f;
  leaf = λ index e. record {
    page = leaf.page;
    page_is = leaf.page_is;
    leaf = leaf.leaf;
    index_is = leaf.index_is ∙ sym (built_index answer how f index e);
  };
  built = λ params e. subst (AskFew f.page) (sym (built_params answer how f params e)) few;
  advice = tidy.advice;
}

-- it is hashed anew, as is advised, or there was no room for that
pub built_anew : (shape : Shape) (answer : Build) (b i : ℕ) (f : Frame) (figures : BlockFigures)
    (page : PageRows) (spare : ℕ) → f.page ≡ Some page
    → LacksIfFull answer spare (length (row_entries (record {
      index = i;
      block = b;
      params = figures.advice;
      bits = shape.fold_bits;
    }) page.rows)) → IsHashedAnew shape spare b i f (frame_built answer (record {
      index = i;
      block = b;
      params = figures.advice;
      bits = shape.fold_bits;
    }) (with_figures f figures))
built_anew shape (Built nodes) b i f figures page spare paged room =
    record { stays = refl; as_advised = inl (record { hashed = refl; built = refl }) }
built_anew shape NotNeeded b i f figures page spare paged room =
    record { stays = refl; as_advised = inl (record { hashed = refl; built = refl }) }
built_anew shape (ArenaFull need was) b i f figures page spare paged room = record {
  stays = refl;
  as_advised = inr (subst (λ o. spare < page_needs shape b i figures.advice o) (sym paged) room);
}

-- a tidy frame with a leaf of an index is hashed for that alone
pub tidy_index : (f : Frame) (i index : ℕ) → IsTidy (hash_block f) → HasTreePage f i 0
    → f.hashed ≡ Some index → index ≡ i
tidy_index f i index tidy is e = let leaf = tidy.leaf index e in
    sym leaf.index_is
    ∙ (ap (λ (z : PageRows). z.head.index)
    (same_some leaf.page is.page (sym leaf.page_is ∙ is.paged)) ∙ is.index)
