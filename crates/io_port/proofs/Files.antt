-- Finding a file by its name.
use Rattle.std.proofs.Common.{◌≡◌, ℕ, true, false, List, [], ◌∷◌, Some, String, Vec, refl, cond, option_map, find}
use Rattle.std.specs.Str.{bytes_eq}
use Rattle.std.specs.String.{string_bytes}
use Rattle.std.specs.declared.alloc.Global.{Global}
use Rattle.io_port.specs.Shelf.{files_of}
use Rattle.io_port.specs.MemoryShelf.{pairs_of}

-- the first file of a name, as it stands in the vector
pub files_of-pairs_of : (files : List (String Global × Vec ℕ Global)) (name : List ℕ) → files_of (pairs_of files) name ≡ option_map (λ file. file.1.items) (find (λ file. bytes_eq (string_bytes file.0) name) files)
files_of-pairs_of [] name = refl
files_of-pairs_of (file ∷ files) name =
    let rest = files_of-pairs_of files name in
    elim (bytes_eq (string_bytes file.0) name) as (λ b. option_map (λ (f : List ℕ × List ℕ). f.1) (cond b (Some (string_bytes file.0, file.1.items)) (find (λ f. bytes_eq f.0 name) (pairs_of files)))
    ≡ option_map (λ (f : String Global × Vec ℕ Global). f.1.items) (cond b (Some file) (find (λ f. bytes_eq (string_bytes f.0) name) files))) [ true ↦ refl | false ↦ rest ]
