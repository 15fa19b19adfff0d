use Rattle.std.proofs.Common.{◌≡◌, Some, List, sym, subst}
use Rattle.index_page.specs.Rows.{Row, find_row}
use Rattle.index_page.specs.Page.{PlacesDiffer}
use Rattle.index_page.proofs.RowLemmas.{find_among, find_stands}
use Rattle.index_page.proofs.laws.places_tell_rows.Goals as goal

pub returns : goal.returns
returns c = record {
  found = λ page left row right order split. subst (λ (zs : List Row). find_row row.place zs ≡ Some row) (sym split) (find_among left row right (subst PlacesDiffer split order.places));
  stands = find_stands;
}
