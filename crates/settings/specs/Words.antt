-- The settings and the words that a schema sets them by.
use Rattle.std.specs.Prelude.{ℕ, if◌then◌else◌, Option, Some, None, List, [], ◌∷◌, codes}
use Rattle.std.specs.Str.{bytes_eq}
use Rattle.settings.specs.declared.setting.Setting.{Setting}
use Rattle.settings.specs.declared.setting.Setting.TheVariants.{Blocks, Pages, Parts, Cells, Nodes, FoldBits, MaxChanges}

-- the schema's word for a setting
abbrev pub setting_word : Setting → List ℕ
setting_word Blocks = codes "blocks"
setting_word Pages = codes "pages"
setting_word Parts = codes "parts"
setting_word Cells = codes "cells"
setting_word Nodes = codes "nodes"
setting_word FoldBits = codes "fold_bits"
setting_word MaxChanges = codes "max_changes"

-- all settings, in the order in which they are judged
abbrev pub all_settings : List Setting
all_settings = Blocks ∷ Pages ∷ Parts ∷ Cells ∷ Nodes ∷ FoldBits ∷ MaxChanges ∷ []

-- the first of some settings that has this word
abbrev pub named_among : List ℕ → List Setting → Option Setting
named_among word [] = None
named_among word (s ∷ ss) = if bytes_eq (setting_word s) word then Some s else named_among word ss

-- the setting that a word names
abbrev pub setting_named : List ℕ → Option Setting
setting_named word = named_among word all_settings

-- a setting's place among all
abbrev pub place_of : Setting → ℕ
place_of Blocks = 0
place_of Pages = 1
place_of Parts = 2
place_of Cells = 3
place_of Nodes = 4
place_of FoldBits = 5
place_of MaxChanges = 6
