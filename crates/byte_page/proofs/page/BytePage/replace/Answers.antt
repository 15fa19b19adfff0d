use Rattle.std.proofs.Common.{ap}
use Rattle.byte_page.specs.Form.{GappedPage}
use Rattle.byte_page.proofs.CopyLemmas.{key_copied}
use Rattle.byte_page.proofs.page.BytePage.replace.Goals as goal

pub put_value-requires-clause-key : goal.put_value-requires-clause-key
put_value-requires-clause-key c = λ row found. key_copied c.copy_row-at.new.to c.copy_row-at.result
    c.args.self.now.page.head.fields c.self.inside.fields c.view-key.result row c.view-key.ensures
    (ap (λ (p : GappedPage). p.page.head.fields) c.self.view_is)
    (c.copy_row-at.ensures.key row found)
