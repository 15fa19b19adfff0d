-- How many lanes accepted words name.
use Rattle.std.proofs.Common.{◌≡◌, ℕ, ◌≤◌, ◌<◌, Bool, true, false, ◌&&◌, leb, None, List, [], ◌∷◌, length, map, refl, arith, String}
use Rattle.std.proofs.lemmas.Bool.{leb-true}
use Rattle.std.specs.List.{list_all}
use Rattle.std.specs.String.{string_bytes}
use Rattle.std.specs.declared.alloc.Global.{Global}
use Rattle.map_history.specs.declared.TheConstants.{MAX_LANES}
use Rattle.settings.specs.Limits.{is_within}
use Rattle.ahi_cli.specs.Words.{accepted, names_file, are_lanes}

-- two tests that hold together
both : (a b : Bool) → (a && b) ≡ true → (a ≡ true) × (b ≡ true)
both true true e = (refl, refl)
both true false e = absurd cc
both false b e = absurd cc

pub few_lanes : (lanes : List (List ℕ)) → are_lanes lanes ≡ true → (1 ≤ length lanes) × (length lanes ≤ MAX_LANES)
few_lanes lanes e =
    let within = both (leb 1 (length lanes)) (leb (length lanes) MAX_LANES) (both (list_all names_file lanes) (is_within 1 MAX_LANES (length lanes)) e).1 in
    (leb-true 1 (length lanes) within.0, leb-true (length lanes) MAX_LANES within.1)

-- fewer than two words aren't accepted
pub too_few_words : (words : List (String Global)) → length words < 2 → None ≡ accepted (map string_bytes words)
too_few_words [] few = refl
too_few_words (verb ∷ []) few = refl
too_few_words (verb ∷ schema ∷ lanes) few = absurd (omega (arith, few))
