use Rattle.std.proofs.Common.{Some, sym, subst, IsSome, refl}
use Rattle.scan_law.specs.AfterKey.{place_at}
use Rattle.tree_cursor.specs.Starts.{BeginsAt}
use Rattle.tree_cursor.proofs.StartLemmas.{key_found, begins_at_key, begins_after_key}
use Rattle.tree_cursor.proofs.starting.from_place.Goals as goal

pub next-requires : goal.next-requires
next-requires c = subst IsSome
    (sym (key_found c.args.page.now.rows c.args.place c.args.cursor.now.key.tuple
    c.is_in_order.ensures.places c.requires.key)) refl

pub returns-then-cursor : goal.returns-then-cursor
returns-then-cursor c =
    let key = c.args.cursor.now.key.tuple in
    subst (λ a. BeginsAt c.args.page.now.rows (place_at key a) c.next.result)
    (sym c.if-cursor.true)
    (begins_after_key c.args.page.now c.is_in_order.ensures c.args.place key c.requires.key
    c.next.result c.requires.fields c.next.ensures)

pub returns-else-cursor : goal.returns-else-cursor
returns-else-cursor c =
    let key = c.args.cursor.now.key.tuple in
    subst (λ a. BeginsAt c.args.page.now.rows (place_at key a) (Some c.args.place))
    (sym c.if-cursor.false)
    (begins_at_key c.args.page.now c.is_in_order.ensures c.args.place key c.requires.key)
