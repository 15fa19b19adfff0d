-- What a setting has among the sizes of a run.
use Rattle.std.specs.Prelude.{ℕ}
use Rattle.map_history.specs.declared.sizes.Sizes.{Sizes}
use Rattle.settings.specs.declared.setting.Setting.{Setting}
use Rattle.settings.specs.declared.setting.Setting.TheVariants.{Blocks, Pages, Parts, Cells, Nodes, FoldBits, MaxChanges}

-- what the setting is
abbrev pub size_of : Sizes → Setting → ℕ
size_of sizes Blocks = sizes.blocks
size_of sizes Pages = sizes.pages
size_of sizes Parts = sizes.parts
size_of sizes Cells = sizes.cells
size_of sizes Nodes = sizes.nodes
size_of sizes FoldBits = sizes.fold_bits
size_of sizes MaxChanges = sizes.max_changes

-- the sizes with this setting made a number, and the others as they were
abbrev pub with_size : Sizes → Setting → ℕ → Sizes
with_size sizes Blocks n = record sizes { blocks = n }
with_size sizes Pages n = record sizes { pages = n }
with_size sizes Parts n = record sizes { parts = n }
with_size sizes Cells n = record sizes { cells = n }
with_size sizes Nodes n = record sizes { nodes = n }
with_size sizes FoldBits n = record sizes { fold_bits = n }
with_size sizes MaxChanges n = record sizes { max_changes = n }
