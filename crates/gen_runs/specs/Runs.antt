-- Runs of lanes that are drawn from a number.
use Rattle.std.specs.Prelude.{ℕ, zero, suc, ◌≤◌, List, [], ◌∷◌, ◌++◌, codes}
use Rattle.map_history.specs.LegalReport.{Line, Run}
use Rattle.map_history.specs.declared.TheConstants.{MAX_LANES}
use Rattle.map_history.specs.declared.sizes.Sizes.{Sizes}
use Rattle.script.specs.declared.TheConstants.{DEFAULT_SIZES}
use Rattle.gen_law.specs.Drawing.{lane_lines}

-- the sizes of a generated run: those of a schema that sets none, but for blocks and changes
abbrev pub gen_sizes : Sizes
gen_sizes = record DEFAULT_SIZES { blocks = 1024; max_changes = 1280000 }

-- the lanes that are drawn from a number, so many, each with so many lines
abbrev pub lanes_drawn : (number lanes lines : ℕ) → List (List Line)
lanes_drawn number zero lines = []
lanes_drawn number (suc lanes) lines =
    lanes_drawn number lanes lines ++ lane_lines number (suc lanes) lines ∷ []

-- the run of these lanes over one index, `t`
abbrev pub gen_run : (number lanes lines : ℕ) → Run
gen_run number lanes lines = record {
  sizes = gen_sizes;
  names = codes "t" ∷ [];
  lanes = lanes_drawn number lanes lines;
}

-- there are at most 64 lanes of at most 20,000 lines
abbrev pub AreFewLines : (lanes lines : ℕ) → Type 0
AreFewLines lanes lines = (lanes ≤ MAX_LANES) × (lines ≤ 20000)
