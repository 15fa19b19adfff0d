use Rattle.std.proofs.Common.{◌≡◌, ℕ, List, sym, ap, subst, ◌∙◌}
use Rattle.key_tuple.specs.Order.{FieldList}
use Rattle.index_page.specs.Rows.{RowBody, Bytes, Child, body_by, placed_row}
use Rattle.index_page.specs.Page.{PageRows}
use Rattle.index_page.specs.Changes.{Inserts}
use Rattle.page_rows.specs.Reading.{body_of_kind}
use Rattle.byte_page.proofs.page.BytePage.insert_behind.Goals as goal

-- a row that is inserted is also inserted with what its body is equal to
inserts_as : (old new : PageRows) (place : ℕ) (key : FieldList) (a b : RowBody) → a ≡ b
    → Inserts old new (placed_row place key a) → Inserts old new (placed_row place key b)
inserts_as old new place key a b is inserts =
    subst (λ (z : RowBody). Inserts old new (placed_row place key z)) is inserts

pub returns-in-Child-clause-ok : goal.returns-in-Child-clause-ok
returns-in-Child-clause-ok g c = inserts_as c.args.self.now.page c.enter-in-Child.new.self.page
    c.enter-in-Child.result (g.A.Fields.fields_of c.args.key.now)
    (body_of_kind c.pointer_kind-kind.result c.child_bytes.result) (body_by c.args.body)
    (c.pointer_kind-kind.ensures.child c.child_bytes.result
    ∙ (ap (λ n. Child n) c.child_bytes.ensures.child ∙ sym (ap body_by c.in-Child.is)))
    c.enter-in-Child.ensures

pub returns-in-Value-clause-ok : goal.returns-in-Value-clause-ok
returns-in-Value-clause-ok g c = inserts_as c.args.self.now.page c.enter.new.self.page
    c.enter.result (g.A.Fields.fields_of c.args.key.now) (Bytes c.as_bytes.result.now)
    (body_by c.args.body)
    (ap (λ (v : List ℕ). Bytes v) c.as_bytes.ensures.bytes ∙ sym (ap body_by c.in-Value.is))
    c.enter.ensures
