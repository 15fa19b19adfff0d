-- What the upkeep of a hashed frame leaves in hand.
use Rattle.std.proofs.Common.{◌≡◌, ◌≤◌, ℕ, true, false, Option, Some, None, List, length, sym, ap, subst, ◌∙◌, refl}
use Rattle.std.specs.Prelude.{is_some}
use Rattle.list_facts.proofs.Places.{same_some}
use Rattle.key_tuple.specs.declared.mode.Params.{Params}
use Rattle.index_page.specs.Page.{PageRows}
use Rattle.chain_arena.specs.Bag.{count_of, SameOutsideBlock}
use Rattle.hash_partition.specs.Part.{Part}
use Rattle.hash_law.specs.Blocks.{folds_of, part_for, due, IsExact, IsTidy}
use Rattle.hash_upkeep.specs.declared.hashing.Hashing.{Hashing}
use Rattle.hash_upkeep.specs.Hashing.{row_entries}
use Rattle.hash_upkeep.specs.declared.upkeep.Upkeep.{Upkeep}
use Rattle.hash_upkeep.specs.declared.upkeep.Upkeep.TheVariants.{Kept}
use Rattle.hash_upkeep.specs.Upkeep.{IsRowAnswer, LacksIfDropped}
use Rattle.hash_upkeep.specs.Laws.{EntriesAreOwed}
use Rattle.index_law.specs.Shape.{Shape}
use Rattle.chain_arena.specs.declared.node.Node.{Node}
use Rattle.learning.specs.declared.event.BlockFigures.{BlockFigures}
use Rattle.forest_law.specs.declared.objects.Frame.{Frame}
use Rattle.forest_law.specs.Hashed.{hash_block, due_for, IsExactFor}
use Rattle.forest_law.specs.Counted.{SuitsHash}
use Rattle.forest_world.specs.Held.{TreePass, shape_of_pass}
use Rattle.hash_maintain.specs.Leaves.{hashing_by, hashing_of, IsHashedSo, CutsFolds, IsExactSo, KeepsUpSo, unhashed}
use Rattle.hash_maintain.specs.Parting.{HoldsPartOut, PutsPartBack}
use Rattle.hash_maintain.specs.Upkeep.{IsExactIn, KeepsUpInHand, KeepsUpWithRow, hashing_in}
use Rattle.hash_maintain.proofs.LeafLemmas.{nodes_exact}
use Rattle.hash_maintain.proofs.HoldLemmas.{in_hand, keeps_in_hand}

-- a block that wasn't dropped lacks no room
pub kept_lacks : (answer : Upkeep) (spare need : ℕ) → answer ≡ Kept
    → LacksIfDropped answer spare need
kept_lacks answer spare need kept = subst (λ u. LacksIfDropped u spare need) (sym kept) tt

-- how a hashed block's frame is hashed
pub record IsHow (b bits : ℕ) (f : Frame) (how : Hashing) : Type 0 where
  pub so : IsHashedSo how f
  pub block : how.block ≡ b
  pub bits_are : how.bits ≡ bits

pub how_is : (b bits : ℕ) (f : Frame) (how : Hashing) → hashing_of b bits f ≡ Some how
    → IsHow b bits f how
how_is b bits f how e = pick f.hashed f.figures.built refl refl e
  where
    none_is : None ≡ Some how → ⊥
    none_is q = absurd cc

    pick : (h : Option ℕ) (built : Option Params) → f.hashed ≡ h → f.figures.built ≡ built
        → hashing_by b bits h built ≡ Some how → IsHow b bits f how
    pick None built hashed is q = absurd (none_is q)
    pick (Some index) None hashed is q = absurd (none_is q)
    pick (Some index) (Some params) hashed is q = let same =
        same_some (record { index = index; block = b; params = params; bits = bits }) how q in
        record {
          so = record {
            index = hashed ∙ ap (λ (z : Hashing). Some z.index) same;
            params = is ∙ ap (λ (z : Hashing). Some z.params) same;
          };
          block = ap (λ (z : Hashing). z.block) (sym same);
          bits_are = ap (λ (z : Hashing). z.bits) (sym same);
        }

-- a block whose frame isn't hashed isn't hashed in any way
pub not_how : (b bits : ℕ) (f : Frame) (how : Hashing) → f.hashed ≡ None
    → hashing_of b bits f ≡ Some how → ⊥
not_how b bits f how none e = none_is (sym (ap (λ h. hashing_by b bits h f.figures.built) none) ∙ e)
  where
    none_is : None ≡ Some how → ⊥
    none_is q = absurd cc

-- a tidy frame that is hashed in no way is the unhashed one
pub is_unhashed : (b bits : ℕ) (f : Frame) → IsTidy (hash_block f) → hashing_of b bits f ≡ None
    → f ≡ unhashed f
is_unhashed b bits f tidy e = pick f.hashed f.figures.built refl refl e
  where
    some_is : (how : Hashing) → Some how ≡ None → ⊥
    some_is how q = absurd cc

    not_both : true ≡ false → ⊥
    not_both q = absurd cc

    pick : (h : Option ℕ) (built : Option Params) → f.hashed ≡ h → f.figures.built ≡ built
        → hashing_by b bits h built ≡ None → f ≡ unhashed f
    pick None None hashed is q = λ i. record f {
      figures = record f.figures { built = is i };
      hashed = hashed i;
    }
    pick None (Some params) hashed is q =
        absurd (not_both (sym (ap is_some is) ∙ (sym tidy.both ∙ ap is_some hashed)))
    pick (Some index) None hashed is q =
        absurd (not_both (sym (ap is_some hashed) ∙ (tidy.both ∙ ap is_some is)))
    pick (Some index) (Some params) hashed is q = absurd (some_is _ q)

-- folds of the space's bits
pub cuts : (p : TreePass) (b : ℕ) (f : Frame) (how : Hashing) → SuitsHash (shape_of_pass p)
    → IsHow b (shape_of_pass p).fold_bits f how → CutsFolds how
cuts p b f how suits is = record {
  some = subst (λ n. 1 ≤ n) (sym is.bits_are) suits.some;
  fit = subst (λ n. n ≤ 64) (sym is.bits_are) suits.fit;
}

-- partition k is that of the index for which the block is hashed so
pub record IsCall (p : TreePass) (b k : ℕ) (f : Frame) (how : Hashing) : Type 0 where
  pub found : hashing_in p b f ≡ Some how
  pub part : k ≡ part_for (shape_of_pass p).parts how.index

pub is_call : (p : TreePass) (b k bits : ℕ) (f : Frame) (how : Hashing) (layout shape : Shape)
    (result : Option Hashing) → layout ≡ shape → shape_of_pass p ≡ shape → bits ≡ layout.fold_bits
    → result ≡ hashing_of b bits f → result ≡ Some how → k ≡ part_for layout.parts how.index
    → IsCall p b k f how
is_call p b k bits f how layout shape result one other bits_are told found part =
    let same : layout ≡ shape_of_pass p = one ∙ sym other in record {
      found = ap (λ n. hashing_of b n f) (sym (bits_are ∙ ap (λ (s : Shape). s.fold_bits) same))
          ∙ (sym told ∙ found);
      part = part ∙ ap (λ (s : Shape). part_for s.parts how.index) same;
    }

-- a frame is hashed for an index, or is not
pub hashed_or_not : (hashed : Option ℕ) (index : ℕ) → hashed ≡ Some index → hashed ≡ None → ⊥
hashed_or_not hashed index is not = absurd cc

module _ (p : TreePass) (b k : ℕ) (f : Frame) (how : Hashing) (call : IsCall p b k f how) where
  abbrev sh : Shape
  sh = shape_of_pass p

  abbrev part : ℕ
  part = part_for (shape_of_pass p).parts how.index

  is : IsHow b sh.fold_bits f how
  is = how_is b sh.fold_bits f how call.found

  -- the frame is hashed so, and its page is a leaf's
  pub hashed_so : IsHashedSo how f
  hashed_so = is.so

  -- what the partition owes the block, however many there are
  owes : EntriesAreOwed → (r : Part) (g : Frame) (page : PageRows) → g.page ≡ Some page
      → IsHashedSo how g → due_for sh part b r g ≡ row_entries how page.rows
  owes owed r g page paged so = subst (λ c. due_for sh part c r g ≡ row_entries how page.rows)
      is.block
      (subst (λ bits. due (folds_of bits) sh.parts part how.block r (hash_block g)
      ≡ row_entries how page.rows) is.bits_are
      (owed how.bits sh.parts part how.block r (hash_block g) page how.index how.params paged
      so.index so.params refl))

  -- exact in the space's partition, it is so however many there are
  exact_so : EntriesAreOwed → (r : Part) (g : Frame) (page : PageRows) → g.page ≡ Some page
      → IsHashedSo how g → IsExactFor sh part b r g → IsExactSo how r g
  exact_so owed r g page paged so exact = nodes_exact owed how r g page paged so
      (λ n here. exact.nodes n (here ∙ is.block)
      ∙ ap (count_of n) (owes owed r g page paged so))

  pub was_so : EntriesAreOwed → (m : TreePass) (was : Part) (g : Frame) (page : PageRows)
      → g.page ≡ Some page → g.hashed ≡ f.hashed → g.figures ≡ f.figures
      → IsExactIn p part b g → HoldsPartOut p k was m → IsExactSo how was g
  was_so owed m was g page paged hashed figures exact held =
      exact_so owed was g page paged
      (record {
        index = hashed ∙ is.so.index;
        params = ap (λ (z : BlockFigures). z.built) figures ∙ is.so.params;
      })
      (in_hand p part m b was g exact (subst (λ d. HoldsPartOut p d was m) call.part held))

  -- what is exact however many partitions there are is so in the space's
  pub then_exact : (r : Part) (g : Frame) → IsExactSo how r g → IsExactFor sh part b r g
  then_exact r g exact = subst (λ c. IsExactFor sh part c r g) is.block
      (subst (λ bits. IsExact (folds_of bits) sh.parts part how.block r (hash_block g)) is.bits_are
      (exact sh.parts))

  pub others_then : (was now : Part) → SameOutsideBlock now.nodes was.nodes how.block
      → SameOutsideBlock now.nodes was.nodes b
  others_then was now others = subst (λ c. SameOutsideBlock now.nodes was.nodes c) is.block others

  -- so the partition keeps up with the block
  abbrev pub keeps_up : (m q : TreePass) (was now : Part) (g : Frame) → HoldsPartOut p k was m
      → PutsPartBack m k now q → KeepsUpSo how g was now → KeepsUpInHand p part b g q
  keeps_up m q was now g held back keeps = keeps_in_hand p part m q b was now g
      (subst (λ d. HoldsPartOut p d was m) call.part held)
      (subst (λ d. PutsPartBack m d now q) call.part back) (then_exact now g keeps.exact)
      (others_then was now keeps.others) keeps.shape

  -- the block is hashed in one way
  pub one_way : (other : Hashing) → hashing_in p b f ≡ Some other → how ≡ other
  one_way other e = same_some how other (sym call.found ∙ e)

  pub drops : (m q : TreePass) (was now : Part) (g : Frame) → HoldsPartOut p k was m
      → PutsPartBack m k now q → KeepsUpSo how g was now → (other : Hashing)
      → hashing_in p b f ≡ Some other
      → KeepsUpInHand p (part_for (shape_of_pass p).parts other.index) b g q
  drops m q was now g held back keeps other e =
      subst (λ (h : Hashing). KeepsUpInHand p (part_for (shape_of_pass p).parts h.index) b g q)
      (one_way other e) (keeps_up m q was now g held back keeps)

  pub row_keeps : (m q : TreePass) (was now : Part) (seen : Frame) (place : ℕ)
      (answer_of : (spare : ℕ) → (brought driven : List Node) → Upkeep) (answer : Upkeep)
      → HoldsPartOut p k was m → PutsPartBack m k now q → KeepsUpSo how seen was now
      → ((page : PageRows) → f.page ≡ Some page
      → IsRowAnswer how page.rows place (answer_of was.spare) answer)
      → ((page : PageRows) → f.page ≡ Some page
      → LacksIfDropped answer now.spare (length (row_entries how page.rows))) → (other : Hashing)
      → hashing_in p b f ≡ Some other
      → KeepsUpWithRow p b place other f seen answer_of answer q
  row_keeps m q was now seen place answer_of answer held back keeps told room other e =
      subst (λ (h : Hashing). KeepsUpWithRow p b place h f seen answer_of answer q)
      (one_way other e) (record {
        keeps = keeps_up m q was now seen held back keeps;
        told = told;
        room = room;
      })
