use Rattle.std.proofs.Common.{◌≤◌, sym, ap, ◌∙◌, arith}
use Rattle.key_tuple.specs.declared.TheConstants.{MAX_KEY_BYTES}
use Rattle.key_tuple.specs.Order.{FieldList, byte_count}
use Rattle.key_tuple.specs.KeyPlace.{At, above, before}
use Rattle.map_history.specs.Pairs.{pairs}
use Rattle.map_history.specs.Ranges.{from_key, row_from}
use Rattle.map_history.specs.Reply.{first_after}
use Rattle.map_ranges.specs.Bounds.{lengthened}
use Rattle.map_ranges.proofs.RowLemmas.{same_first, behind_is_above}
use Rattle.map_ranges.proofs.TupleCutLemmas.{above_is_from}
use Rattle.map_ranges.proofs.seeks.first_above.Goals as goal

pub returns-then-byte_count-lt-MAX_KEY_BYTES : goal.returns-then-byte_count-lt-MAX_KEY_BYTES
returns-then-byte_count-lt-MAX_KEY_BYTES c =
    let tuple = c.args.tuple.now.fields in
    let rows = pairs c.args.map.now in
    c.first_from.ensures ∙ ap (λ (key : FieldList). row_from key rows) c.in_ok-key.ensures
    ∙ sym (same_first (above tuple) (from_key (lengthened tuple))
    (λ (key : FieldList). above_is_from tuple key c.requires) rows)

pub returns : goal.returns
returns c =
    let tuple = c.args.tuple.now.fields in
    let rows = pairs c.args.map.now in
    let full : MAX_KEY_BYTES ≤ byte_count tuple =
    omega (arith, c.byte_count.ensures, c.if-byte_count-lt-MAX_KEY_BYTES.false) in
    behind_is_above tuple rows c.first_behind.result full
    (c.first_behind.ensures.row
    ∙ ap (λ (key : FieldList). first_after (before (At key)) rows) c.in_ok-key-2.ensures)
    c.first_behind.ensures.limits
