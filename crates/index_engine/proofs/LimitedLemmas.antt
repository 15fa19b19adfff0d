-- What is so of sizes of which none is outside its limits.
use Rattle.std.proofs.Common.{◌≡◌, ℕ, ◌≤◌, Bool, true, false, Option, Some, None, refl}
use Rattle.std.specs.Prelude.{if◌then◌else◌}
use Rattle.std.proofs.lemmas.Bool.{leb-true, and_parts}
use Rattle.map_history.specs.declared.sizes.Sizes.{Sizes}
use Rattle.settings.specs.Limits.{first_broken, is_within}

-- where none is the first that is broken, this one isn't, and none of the others is
passed : {T : Type 0} (fits : Bool) (s : T) (others : Option T)
    → None ≡ (if fits then others else Some s) → (fits ≡ true) × (None ≡ others)
passed true s others none = (refl, none)
passed false s others none = absurd cc

-- a number that is within lies there
lies_within : (low high n : ℕ) → is_within low high n ≡ true → (low ≤ n) × (n ≤ high)
lies_within low high n within = let both = and_parts _ _ within in
    (leb-true low n both.0, leb-true n high both.1)

-- what an engine asks of its sizes
pub record AreLimited (sizes : Sizes) (indexes : ℕ) : Type 0 where
  pub room : indexes ≤ sizes.pages
  pub pages : sizes.pages ≤ 65536
  pub some : 1 ≤ sizes.parts
  pub parts : sizes.parts ≤ 512
  pub blocks : sizes.blocks ≤ 65536
  pub cells : 1 ≤ sizes.cells
  pub least : 1 ≤ sizes.fold_bits
  pub most : sizes.fold_bits ≤ 64

pub sizes_limited : (sizes : Sizes) (indexes lanes : ℕ) → None ≡ first_broken sizes indexes lanes
    → AreLimited sizes indexes
sizes_limited sizes indexes lanes none = let blocks = passed _ _ _ none in
    let pages = passed _ _ _ blocks.1 in let parts = passed _ _ _ pages.1 in
    let cells = passed _ _ _ parts.1 in let nodes = passed _ _ _ cells.1 in
    let folds = passed _ _ _ nodes.1 in
    let paged = lies_within _ _ _ pages.0 in
    let parted = lies_within _ _ _ (and_parts _ _ parts.0).0 in
    let folded = lies_within _ _ _ folds.0 in record {
      room = paged.0;
      pages = paged.1;
      some = parted.0;
      parts = parted.1;
      blocks = (lies_within _ _ _ blocks.0).1;
      cells = leb-true 1 sizes.cells (and_parts _ _ cells.0).0;
      least = folded.0;
      most = folded.1;
    }
