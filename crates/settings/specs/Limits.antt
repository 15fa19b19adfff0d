-- The limits of the settings.
use Rattle.std.specs.Prelude.{ℕ, ◌+◌, ◌*◌, Bool, ◌&&◌, Option, Some, None, List, [], ◌∷◌, if◌then◌else◌}
use lib.Dec.{leb}
use Rattle.map_history.specs.declared.sizes.Sizes.{Sizes}
use Rattle.settings.specs.declared.setting.Setting.{Setting}
use Rattle.map_history.specs.declared.TheConstants.{LANE_BLOCKS}
use Rattle.settings.specs.declared.limits.TheConstants.{MAX_BLOCKS, MAX_PAGES, MAX_PARTS, MAX_COUNTERS, MAX_CELLS, MAX_NODES, MAX_FOLD_BITS, MAX_CHANGES}
use Rattle.settings.specs.declared.setting.Setting.TheVariants.{Blocks, Pages, Parts, Cells, Nodes, FoldBits, MaxChanges}
use Rattle.settings.specs.Words.{all_settings}

-- the number is one of those from `low` to `high`
abbrev pub is_within : ℕ → ℕ → ℕ → Bool
is_within low high n = leb low n && leb n high

-- The setting is within its limits. Products of two settings are judged with the second, but that
-- of partitions and blocks with the first.
abbrev pub fits_limits : Sizes → ℕ → ℕ → Setting → Bool
fits_limits sizes indexes lanes Blocks =
    is_within (LANE_BLOCKS * lanes + LANE_BLOCKS) MAX_BLOCKS sizes.blocks
fits_limits sizes indexes lanes Pages = is_within indexes MAX_PAGES sizes.pages
fits_limits sizes indexes lanes Parts =
    is_within 1 MAX_PARTS sizes.parts && leb (sizes.parts * sizes.blocks) MAX_COUNTERS
fits_limits sizes indexes lanes Cells =
    leb 1 sizes.cells && leb (sizes.parts * sizes.cells) MAX_CELLS
fits_limits sizes indexes lanes Nodes = leb (sizes.parts * sizes.nodes) MAX_NODES
fits_limits sizes indexes lanes FoldBits = is_within 1 MAX_FOLD_BITS sizes.fold_bits
fits_limits sizes indexes lanes MaxChanges = is_within 1 MAX_CHANGES sizes.max_changes

-- the first of some settings that isn't
abbrev pub first_outside : Sizes → ℕ → ℕ → List Setting → Option Setting
first_outside sizes indexes lanes [] = None
first_outside sizes indexes lanes (s ∷ ss) =
    if fits_limits sizes indexes lanes s then first_outside sizes indexes lanes ss else Some s

-- the first setting that isn't within its limits, for so many indexes and lanes
abbrev pub first_broken : Sizes → ℕ → ℕ → Option Setting
first_broken sizes indexes lanes = first_outside sizes indexes lanes all_settings
