-- A frame that is hashed in its partition.
use Rattle.std.proofs.Common.{◌≡◌, ℕ, true, false, if◌then◌else◌, Option, Some, None, List, [], sym, ap, subst, ◌∙◌, refl}
use Rattle.std.specs.Prelude.{is_some, IsSome}
use Rattle.list_facts.proofs.Places.{same_some}
use Rattle.key_tuple.specs.declared.mode.Params.{Params}
use Rattle.index_page.specs.Page.{PageRows}
use Rattle.index_page.specs.Rows.{Row, find_row}
use Rattle.index_page.specs.Changes.{rows_without}
use Rattle.chain_arena.specs.Bag.{count_of}
use Rattle.hash_partition.specs.Part.{Part}
use Rattle.hash_law.specs.Entries.{NodesAt}
use Rattle.hash_law.specs.Blocks.{folds_of, part_for, entries_owed, IsExact, AskFew, HasLeafOf, IsTidy}
use Rattle.hash_upkeep.specs.declared.hashing.Hashing.{Hashing}
use Rattle.hash_upkeep.specs.declared.built.Build.{Build}
use Rattle.hash_upkeep.specs.declared.built.Build.TheVariants.{Built, NotNeeded, ArenaFull}
use Rattle.hash_upkeep.specs.declared.upkeep.Upkeep.{Upkeep}
use Rattle.hash_upkeep.specs.declared.upkeep.Upkeep.TheVariants.{Kept, Dropped}
use Rattle.hash_upkeep.specs.Hashing.{row_entries, CanHash, CanHashIf, as_built, entries_if}
use Rattle.hash_upkeep.specs.Build.{built_after}
use Rattle.hash_upkeep.specs.Upkeep.{kept_entries}
use Rattle.hash_upkeep.specs.Cover.{Renews}
use Rattle.hash_upkeep.specs.Laws.{EntriesAreOwed}
use Rattle.forest_law.specs.declared.objects.Frame.{Frame}
use Rattle.forest_law.specs.Hashed.{hash_block}
use Rattle.hash_maintain.specs.Leaves.{IsHashedSo, CutsFolds, IsExactSo, KeepsUpSo, unhashed, frame_built, kept_frame, paged_without, without_row, HasRowInFrame}

-- what holds of the rows of a frame's page holds of the rows of any page that it has
pub rows_of_page : (P : List Row → Type 0) (f : Frame) (here page : PageRows) → f.page ≡ Some here
    → f.page ≡ Some page → P here.rows → P page.rows
rows_of_page P f here page e g has =
    subst (λ (z : PageRows). P z.rows) (same_some here page (sym e ∙ g)) has

-- a page that can be hashed so, where the frame is tidy
pub can_hash : (how : Hashing) (f : Frame) (page : PageRows) → f.page ≡ Some page
    → AskFew f.page how.params → CutsFolds how → CanHash how page
can_hash how f page paged few bits = record {
  fields = subst (λ o. AskFew o how.params) paged few;
  some = bits.some;
  fit = bits.fit;
}

-- a frame that has a row at a place has it on the page that it has
pub row_there : (f : Frame) (place : ℕ) (page : PageRows) → f.page ≡ Some page → HasRowInFrame f place
    → IsSome (find_row place page.rows)
row_there f place page paged has = subst (λ (p : PageRows). IsSome (find_row place p.rows))
    (same_some has.page page (sym has.page_is ∙ paged)) has.row

module _ (owed : EntriesAreOwed) (how : Hashing) (part : Part) where
  -- where the partition is exact of a frame that is hashed so, it has the entries of its rows
  pub exact_nodes : (f : Frame) (page : PageRows) → f.page ≡ Some page → IsHashedSo how f
      → IsExactSo how part f → NodesAt how.block part.nodes (row_entries how page.rows)
  exact_nodes f page paged so exact n here = (exact 1).nodes n here
      ∙ ap (count_of n) (owed how.bits 1 (part_for 1 how.index) how.block part (hash_block f) page
      how.index how.params paged so.index so.params refl)

  -- and where it has these, it is exact
  pub nodes_exact : (f : Frame) (page : PageRows) → f.page ≡ Some page → IsHashedSo how f
      → NodesAt how.block part.nodes (row_entries how page.rows) → IsExactSo how part f
  nodes_exact f page paged so nodes parts = record {
    nodes = λ n here. nodes n here
        ∙ ap (count_of n) (sym (owed how.bits parts (part_for parts how.index) how.block part
        (hash_block f) page how.index how.params paged so.index so.params refl));
  }

  -- where it is exact of a frame that isn't hashed, it has no node of the block
  exact_none : (f : Frame) → f.hashed ≡ None → IsExactSo how part f
      → NodesAt how.block part.nodes []
  exact_none f none exact n here = (exact 1).nodes n here
      ∙ ap (λ h. count_of n (if is_some h
      then entries_owed (folds_of how.bits) 1 (part_for 1 how.index) how.block f.page h
      f.figures.built else [])) none

-- the page of a frame without a row
pub page_without_is : (f : Frame) (place : ℕ) (page : PageRows) → f.page ≡ Some page
    → (without_row place f).page ≡ Some (record page { rows = rows_without place page.rows })
page_without_is f place page paged = ap (paged_without place) paged

-- an unhashed block has no entries, so its partition is exact without its nodes
pub unhashed_exact : (how : Hashing) (f : Frame) (old new : Part) → Renews how.block [] old new
    → KeepsUpSo how (unhashed f) old new
unhashed_exact how f old new renews = record {
  exact = λ parts. record { nodes = renews.nodes };
  others = renews.others;
  shape = renews.shape;
}

module _ (owed : EntriesAreOwed) (how : Hashing) (f : Frame) (page : PageRows)
    (paged : f.page ≡ Some page) (so : IsHashedSo how f) (old new : Part) where
  -- what the upkeep of a row that came leaves
  pub came_exact : (answer : Upkeep)
      → Renews how.block (kept_entries answer (row_entries how page.rows)) old new
      → KeepsUpSo how (kept_frame answer f) old new
  came_exact Kept renews = assumption (nodes_exact owed how new f page paged so renews.nodes)
  came_exact (Dropped need spare) renews = unhashed_exact how f old new renews

  -- and that of one that goes
  pub goes_exact : (place : ℕ) (answer : Upkeep)
      → Renews how.block (kept_entries answer (row_entries how (rows_without place page.rows))) old
      new → KeepsUpSo how (without_row place (kept_frame answer f)) old new
  goes_exact place Kept renews = record {
    exact = nodes_exact owed how new (without_row place f)
        (record page { rows = rows_without place page.rows })
        (page_without_is f place page paged) (record { index = so.index; params = so.params })
        renews.nodes;
    others = renews.others;
    shape = renews.shape;
  }
  goes_exact place (Dropped need spare) renews =
      unhashed_exact how (without_row place f) old new renews

module _ (owed : EntriesAreOwed) (how : Hashing) (f : Frame) (page : PageRows)
    (paged : f.page ≡ Some page) (old : Part) where
  -- how a tidy frame with a leaf of the index is hashed
  so_hashed : IsTidy (hash_block f) → HasLeafOf (hash_block f) how.index → (params : Params)
      → f.figures.built ≡ Some params → (h : Option ℕ) → f.hashed ≡ h
      → IsHashedSo (record how { params = params }) f
  so_hashed tidy leaf params built None e =
      absurd (neither (sym (ap is_some e) ∙ (tidy.both ∙ ap is_some built)))
    where
      neither : false ≡ true → ⊥
      neither e = absurd cc
  so_hashed tidy leaf params built (Some index) e = let has = tidy.leaf index e in
      let same : has.page ≡ leaf.page = same_some has.page leaf.page
      (sym has.page_is ∙ leaf.page_is) in
      record {
        index = e ∙ ap (λ i. Some i) (sym has.index_is
            ∙ (ap (λ (p : PageRows). p.head.index) same ∙ leaf.index_is));
        params = built;
      }

  -- a tidy frame that is hashed with no parameters is hashed for no index
  not_hashed : IsTidy (hash_block f) → f.figures.built ≡ None → f.hashed ≡ None
  not_hashed tidy e = none f.hashed refl
    where
      neither : true ≡ false → ⊥
      neither e = absurd cc

      none : (h : Option ℕ) → f.hashed ≡ h → f.hashed ≡ None
      none None is = is
      none (Some index) is =
          absurd (neither (sym (ap is_some is) ∙ (tidy.both ∙ ap is_some e)))

  -- what a build asks of the partition before it
  pub was_exact : IsTidy (hash_block f) → HasLeafOf (hash_block f) how.index
      → IsExactSo how old f → (built : Option Params) → f.figures.built ≡ built
      → NodesAt how.block old.nodes (entries_if (as_built how built) page.rows)
  was_exact tidy leaf exact None e = exact_none owed how old f (not_hashed tidy e) exact
  was_exact tidy leaf exact (Some params) e =
      exact_nodes owed (record how { params = params }) old f page paged
      (so_hashed tidy leaf params e f.hashed refl) exact

  pub was_can : IsTidy (hash_block f) → CutsFolds how → (built : Option Params)
      → f.figures.built ≡ built → CanHashIf (as_built how built) how.block page
  was_can tidy bits None e = tt
  was_can tidy bits (Some params) e = (
    refl,
    can_hash (record how { params = params }) f page paged (tidy.built params e)
        (record { some = bits.some; fit = bits.fit }),
  )

  -- a tidy frame's exactness doesn't hang on how many partitions there are
  pub exact_any : IsTidy (hash_block f) → HasLeafOf (hash_block f) how.index → (built : Option Params)
      → f.figures.built ≡ built → (parts : ℕ)
      → IsExact (folds_of how.bits) parts (part_for parts how.index) how.block old (hash_block f)
      → IsExactSo how old f
  exact_any tidy leaf None e parts exact = λ others.
      (let none = not_hashed tidy e in record {
        nodes = λ n here. exact.nodes n here
            ∙ (ap (λ h. count_of n (if is_some h
            then entries_owed (folds_of how.bits) parts (part_for parts how.index) how.block f.page h
            f.figures.built else [])) none
            ∙ sym (ap (λ h. count_of n (if is_some h
            then entries_owed (folds_of how.bits) others (part_for others how.index) how.block f.page h
            f.figures.built else [])) none));
      })
  exact_any tidy leaf (Some params) e parts exact =
      let so = so_hashed tidy leaf params e f.hashed refl in
      nodes_exact owed (record how { params = params }) old f page paged so
      (λ n here. exact.nodes n here
      ∙ ap (count_of n) (owed how.bits parts (part_for parts how.index) how.block old (hash_block f)
      page how.index params paged so.index so.params refl))

  -- and what it leaves
  pub built_exact : (new : Part) (answer : Build)
      → Renews how.block (entries_if (as_built how (built_after answer how.params)) page.rows) old
      new → KeepsUpSo how (frame_built answer how f) old new
  built_exact new (Built nodes) renews = record {
    exact = nodes_exact owed how new (frame_built (Built nodes) how f) page paged
        (record { index = refl; params = refl }) renews.nodes;
    others = renews.others;
    shape = renews.shape;
  }
  built_exact new NotNeeded renews = record {
    exact = nodes_exact owed how new (frame_built NotNeeded how f) page paged
        (record { index = refl; params = refl }) renews.nodes;
    others = renews.others;
    shape = renews.shape;
  }
  built_exact new (ArenaFull need spare) renews = unhashed_exact how f old new renews
