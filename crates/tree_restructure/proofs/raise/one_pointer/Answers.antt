use Rattle.std.proofs.Common.{◌≡◌, ◌+◌, ◌∙◌, None, [], replicate, refl, sym, subst, add-one, arith}
use lib.ListN.{length-replicate}
use Rattle.index_page.specs.Rows.{Child, LacksKey, placed_row}
use Rattle.tree_restructure.proofs.RootLemmas.{only_row, blank_begins, blank_limits}
use Rattle.tree_restructure.proofs.raise.one_pointer.Goals as goal

pub returns-in-Ok-clause-one : goal.returns-in-Ok-clause-one
returns-in-Ok-clause-one c = let n = c.args.head.now.fields in
    let row = placed_row c.in-Ok.field-0 (replicate n []) (Child c.args.child) in record {
      pointer = row;
      is = only_row c.in_ok-top.top c.insert.new.self row c.in_ok-top.ensures.rows
          c.in-Ok.ensures.ok;
      child_is = refl;
      first = blank_begins n;
    }

pub insert-requires-clause-body : goal.insert-requires-clause-body
insert-requires-clause-body c none =
    let level : c.in_ok-top.top.head.level ≡ c.args.head.now.level + 1 = (λ i. (c.in_ok-top.ensures.head i).level) in omega (arith, level, none)

pub returns-in-Ok-clause-head : goal.returns-in-Ok-clause-head
returns-in-Ok-clause-head c =
    let head = c.args.head.now in
    c.in-Ok.ensures.ok.head ∙ c.in_ok-top.ensures.head ∙ (λ i. record head { level = add-one head.level i; prev = None; next = None })

pub insert-requires-clause-fields : goal.insert-requires-clause-fields
insert-requires-clause-fields c = length-replicate c.args.head.now.fields []
    ∙ sym (λ i. (c.in_ok-top.ensures.head i).fields)

pub insert-requires-clause-limits : goal.insert-requires-clause-limits
insert-requires-clause-limits c = blank_limits c.args.head.now.fields c.requires.fields

pub returns-in-Err-clause-one : goal.returns-in-Err-clause-one
returns-in-Err-clause-one c = tt

pub returns-in-Err-clause-head : goal.returns-in-Err-clause-head
returns-in-Err-clause-head c = tt

pub insert-requires-clause-absent : goal.insert-requires-clause-absent
insert-requires-clause-absent c =
    subst (LacksKey (replicate c.args.head.now.fields [])) (sym c.in_ok-top.ensures.rows) tt
