-- What a build of a leaf leaves in hand.
use Rattle.std.proofs.Common.{◌≡◌, ℕ, Some, length, sym, ap, subst, ◌∙◌, refl}
use Rattle.list_facts.proofs.Places.{same_some}
use Rattle.key_tuple.specs.declared.mode.Params.{Params}
use Rattle.index_page.specs.Page.{PageRows}
use Rattle.hash_partition.specs.Part.{Part}
use Rattle.hash_law.specs.Blocks.{part_for, HasLeafOf, IsTidy}
use Rattle.hash_upkeep.specs.declared.hashing.Hashing.{Hashing}
use Rattle.hash_upkeep.specs.declared.built.Build.{Build}
use Rattle.hash_upkeep.specs.Build.{BuildsAnew, LacksIfFull}
use Rattle.hash_upkeep.specs.Hashing.{row_entries}
use Rattle.hash_upkeep.specs.Laws.{EntriesAreOwed}
use Rattle.forest_law.specs.declared.objects.Frame.{Frame}
use Rattle.forest_law.specs.Hashed.{hash_block}
use Rattle.forest_world.specs.Held.{TreePass, shape_of_pass}
use Rattle.hash_maintain.specs.Leaves.{IsExactSo, KeepsUpSo}
use Rattle.hash_maintain.specs.Parting.{HoldsPartOut, PutsPartBack}
use Rattle.hash_maintain.specs.Upkeep.{IsExactIn, IsLeafExactIn, BuildsInHand, CountsLeaf, hashing_as}
use Rattle.hash_maintain.proofs.LeafLemmas.{exact_any}
use Rattle.hash_maintain.proofs.HoldLemmas.{in_hand, keeps_in_hand}

-- a hashing of the block for the index, its folds cut to so many bits
abbrev pub cut_to : (b index : ℕ) → Params → (bits : ℕ) → Hashing
cut_to b index params bits = record { index = index; block = b; params = params; bits = bits }

-- a frame has a leaf of one index
pub one_leaf : (f : Frame) (i j : ℕ) → HasLeafOf (hash_block f) i → HasLeafOf (hash_block f) j
    → i ≡ j
one_leaf f i j one other = sym one.index_is
    ∙ (ap (λ (z : PageRows). z.head.index)
    (same_some one.page other.page (sym one.page_is ∙ other.page_is)) ∙ other.index_is)

-- so a page that the frame has is of that index
pub page_index : (f : Frame) (i : ℕ) (page : PageRows) → HasLeafOf (hash_block f) i
    → f.page ≡ Some page → i ≡ page.head.index
page_index f i page leaf paged = sym leaf.index_is
    ∙ ap (λ (z : PageRows). z.head.index) (same_some leaf.page page (sym leaf.page_is ∙ paged))

-- entries are counted of the page that the frame has
module _ (p : TreePass) (b index bits need : ℕ) (params : Params) (f : Frame) (page : PageRows)
    (paged : f.page ≡ Some page) (index_is : index ≡ page.head.index)
    (bits_are : bits ≡ (shape_of_pass p).fold_bits) where
  -- so the entries of its rows are, hashed so
  pub counted_so : CountsLeaf p b params f need → (other : PageRows) → f.page ≡ Some other
      → need ≡ length (row_entries (cut_to b index params bits) other.rows)
  counted_so counts other there = subst (λ (z : PageRows).
      need ≡ length (row_entries (cut_to b index params bits) z.rows))
      (same_some page other (sym paged ∙ there))
      (subst (λ n. need ≡ length (row_entries (cut_to b index params n) page.rows)) (sym bits_are)
      (subst (λ j. need ≡ length (row_entries (hashing_as p b j params) page.rows)) (sym index_is)
      (counts page paged)))

module _ (p : TreePass) (b k index bits : ℕ) (params : Params) (f : Frame)
    (part_is : k ≡ part_for (shape_of_pass p).parts index) (bits_are : bits ≡ (shape_of_pass p).fold_bits)
    (leaf : IsLeafExactIn p b f) (same : leaf.index ≡ index) where
  -- the leaf is of the index
  pub leaf_of : HasLeafOf (hash_block f) index
  leaf_of = subst (HasLeafOf (hash_block f)) same leaf.leaf

  -- the partition is exact of the frame, however many there are
  pub build_so : EntriesAreOwed → IsTidy (hash_block f) → (m : TreePass) (was : Part)
      → HoldsPartOut p k was m → IsExactSo (cut_to b index params bits) was f
  build_so owed tidy m was held = subst (λ n. IsExactSo (cut_to b index params n) was f)
      (sym bits_are)
      (exact_any owed (hashing_as p b index params) f leaf_of.page leaf_of.page_is was tidy leaf_of
      f.figures.built refl (shape_of_pass p).parts
      (in_hand p (part_for (shape_of_pass p).parts index) m b was f
      (subst (λ i. IsExactIn p (part_for (shape_of_pass p).parts i) b f) same leaf.exact)
      (subst (λ d. HoldsPartOut p d was m) part_is held)))

  -- and keeps up with the build
  pub builds : (m q : TreePass) (was now : Part) (g : Frame) (answer : Build)
      → HoldsPartOut p k was m → PutsPartBack m k now q
      → KeepsUpSo (cut_to b index params bits) g was now
      → ((page : PageRows) → f.page ≡ Some page
      → BuildsAnew (cut_to b index params bits) page.rows was now answer)
      → ((page : PageRows) → f.page ≡ Some page
      → LacksIfFull answer now.spare (length (row_entries (cut_to b index params bits) page.rows)))
      → (i : ℕ) → HasLeafOf (hash_block f) i → BuildsInHand p b i params f g answer q
  builds m q was now g answer held back keeps told room i other =
      let kept = subst (λ n. KeepsUpSo (cut_to b index params n) g was now) bits_are keeps in
      subst (λ j. BuildsInHand p b j params f g answer q) (one_leaf f index i leaf_of other)
      (record {
        keeps = keeps_in_hand p (part_for (shape_of_pass p).parts index) m q b was now g
            (subst (λ d. HoldsPartOut p d was m) part_is held)
            (subst (λ d. PutsPartBack m d now q) part_is back)
            (kept.exact (shape_of_pass p).parts) kept.others kept.shape;
        told = λ page paged. subst (λ n. BuildsAnew (cut_to b index params n) page.rows was now answer)
            bits_are (told page paged);
        room = λ page paged. subst (λ n. LacksIfFull answer now.spare
            (length (row_entries (cut_to b index params n) page.rows))) bits_are (room page paged);
      })
