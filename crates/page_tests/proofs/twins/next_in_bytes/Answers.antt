use Rattle.index_page.specs.Rows.{first_of_rows}
use Rattle.byte_page.proofs.SearchLemmas.{row_is_there}
use Rattle.page_tests.proofs.twins.next_in_bytes.Goals as goal

pub returns : goal.returns
returns c = row_is_there c.args.page.now.page.rows c.next.result (first_of_rows c.next.ensures.right) c.next.ensures.next_at
