use Rattle.std.proofs.Common.{refl}
use Rattle.std.proofs.lemmas.List.Sums.{sum_by-append}
use Rattle.index_page.proofs.LoadLemmas.{row_charge, load_of-among}
use Rattle.index_page.proofs.HalvesLemmas.{load_of-parts}
use Rattle.index_page.proofs.laws.loads_add_up.Goals as goal

pub returns : goal.returns
returns c = record {
  none = refl;
  cut = load_of-parts;
  merged = λ left right. sum_by-append row_charge left right;
  row = load_of-among;
}
