-- Whose keys are whose.
use Rattle.std.specs.Prelude.{ℕ, ◌≡◌, ◌<◌}
use Rattle.gen_law.specs.Drawing.{key_drawn}

-- of the first hundred lanes no two draw one key
abbrev pub LanesHaveTheirOwnKeys : Type 0
LanesHaveTheirOwnKeys = (lane lane' drawn drawn' : ℕ) → lane < 100 → lane' < 100
    → key_drawn lane drawn ≡ key_drawn lane' drawn' → lane ≡ lane'
