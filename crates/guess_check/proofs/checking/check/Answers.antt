use Rattle.std.proofs.Common.{◌≡◌, false, sym, ap, ◌∙◌}
use Rattle.std.specs.Ordering.{is_eq}
use Rattle.guess_check.proofs.CheckLemmas.{none_beyond, the_key_passes, apart_so, same_so}
use Rattle.guess_check.specs.Check.{is_the_key}
use Rattle.guess_check.proofs.EndLemmas.{IsRead, TellsEnd, read_so, first_ends, last_ends, checks_at_end, checks_elsewhere, other_mode, other_fields, part_of_key}
use Rattle.guess_check.proofs.checking.check.Goals as goal
use Rattle.guess_check.proofs.checking.check.Goals.{then-looks_ahead, else-looks_ahead, else-is_ge-via-then-is_ge+then-found+else-count-head, else-is_ge-via-then-is_ge+else-found, else-is_ge-via-else-is_ge}

pub returns-then-is_past-looks_ahead : goal.returns-then-is_past-looks_ahead
returns-then-is_past-looks_ahead g c =
    let page = c.args.page.now in
    let row = c.row-row.result.row in
    let stands = c.places_tell_rows.ensures.stands page.rows c.args.place row c.row-row.ensures.row in
    record {
      left = stands.left;
      row = row;
      right = stands.right;
      split = stands.split;
      place_is = stands.place_is;
      is = sym (none_beyond c.args.mode (g.A.Fields.fields_of c.args.tuple.now) page.head
          stands.left row stands.right (λ e. apart_so c.is_past.result c.looks_ahead.result
          c.if-is_past-looks_ahead.true
          (c.is_past.ensures ∙ e ∙ sym c.looks_ahead.ensures)));
    }

pub returns-then-count-head : goal.returns-then-count-head
returns-then-count-head g c =
    let page = c.args.page.now in
    let row = c.row-row.result.row in
    let stands = c.places_tell_rows.ensures.stands page.rows c.args.place row c.row-row.ensures.row in
    record {
      left = stands.left;
      row = row;
      right = stands.right;
      split = stands.split;
      place_is = stands.place_is;
      is = sym (the_key_passes c.args.mode (g.A.Fields.fields_of c.args.tuple.now) page.head
          stands.left row stands.right (sym c.is_ge.ensures ∙ c.if-is_ge.true)
          (sym c.is_past.ensures ∙ same_so c.is_past.result c.looks_ahead.result
          c.if-is_past-looks_ahead.false ∙ c.looks_ahead.ensures)
          (sym (c.is_eq-found.ensures ∙ ap is_eq c.compare.ensures) ∙ c.if-found.true)
          (sym c.count.ensures ∙ c.if-count-head.true ∙ ap (λ h. h.fields) c.head.ensures));
    }

pub returns-then-is_end : goal.returns-then-is_end
returns-then-is_end g c =
    let mode = c.args.mode in
    let tuple = g.A.Fields.fields_of c.args.tuple.now in
    let page = c.args.page.now in
    let read : IsRead mode tuple page c.args.place c.row-row.result.row c.is_eq-found.result =
    read_so c.is_past.result c.looks_ahead.result c.is_eq-found.result c.compare.result c.places_tell_rows.ensures
    c.is_in_order.ensures c.row-row.ensures.row c.is_past.ensures c.looks_ahead.ensures c.if-is_past-looks_ahead.false
    c.is_eq-found.ensures c.compare.ensures in
    let end = c.if-looks_ahead.is_end in
    let told : TellsEnd mode tuple page c.args.place end = elim c.if-looks_ahead.branch [
      | then-looks_ahead w ↦ first_ends mode tuple page c.args.place w.is_first-is_end.result end
          (sym c.looks_ahead-2.ensures ∙ w.if-looks_ahead.true) w.is_end-is w.is_first-is_end.ensures
      | else-looks_ahead w ↦ last_ends mode tuple page c.args.place w.is_last-is_end.result end
          (sym c.looks_ahead-2.ensures ∙ w.if-looks_ahead.false) w.is_end-is w.is_last-is_end.ensures
    ] in
    checks_at_end mode tuple page c.args.place c.row-row.result.row c.is_eq-found.result end read told
    c.if-is_end.true

pub returns-else-is_end : goal.returns-else-is_end
returns-else-is_end g c =
    let mode = c.args.mode in
    let tuple = g.A.Fields.fields_of c.args.tuple.now in
    let page = c.args.page.now in
    let row = c.row-row.result.row in
    let read : IsRead mode tuple page c.args.place row c.is_eq-found.result =
    read_so c.is_past.result c.looks_ahead.result c.is_eq-found.result c.compare.result c.places_tell_rows.ensures
    c.is_in_order.ensures c.row-row.ensures.row c.is_past.ensures c.looks_ahead.ensures c.if-is_past-looks_ahead.false
    c.is_eq-found.ensures c.compare.ensures in
    let end = c.if-looks_ahead.is_end in
    let told : TellsEnd mode tuple page c.args.place end = elim c.if-looks_ahead.branch [
      | then-looks_ahead w ↦ first_ends mode tuple page c.args.place w.is_first-is_end.result end
          (sym c.looks_ahead-2.ensures ∙ w.if-looks_ahead.true) w.is_end-is w.is_first-is_end.ensures
      | else-looks_ahead w ↦ last_ends mode tuple page c.args.place w.is_last-is_end.result end
          (sym c.looks_ahead-2.ensures ∙ w.if-looks_ahead.false) w.is_end-is w.is_last-is_end.ensures
    ] in
    let other : is_the_key mode tuple page.head row ≡ false = elim c.else-is_ge.branch [
      | else-is_ge-via-then-is_ge+then-found+else-count-head w ↦ part_of_key mode tuple page.head row
          (λ e. w.if-count-head.false (w.count.ensures ∙ e ∙ sym (ap (λ h. h.fields) w.head.ensures)))
      | else-is_ge-via-then-is_ge+else-found w ↦ other_fields mode tuple page.head row
          (sym read.found_is ∙ w.if-found.false)
      | else-is_ge-via-else-is_ge w ↦ other_mode mode tuple page.head row
          (sym c.is_ge.ensures ∙ w.if-is_ge.false)
    ] in
    checks_elsewhere mode tuple page c.args.place row c.is_eq-found.result end read other told
    c.if-is_end.false
