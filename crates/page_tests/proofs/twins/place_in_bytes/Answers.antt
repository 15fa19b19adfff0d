use Rattle.index_page.specs.Rows.{first_of_rows}
use Rattle.byte_page.proofs.SearchLemmas.{row_is_there}
use Rattle.page_tests.proofs.twins.place_in_bytes.Goals as goal

pub returns : goal.returns
returns g c =
    let f = c.search-spot.ensures in
    row_is_there c.args.page.now.page.rows c.search-spot.result.after (first_of_rows f.1.right) f.1.after_at
