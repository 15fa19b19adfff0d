use Rattle.std.proofs.Common.{IsSome, List, ◌≡◌, ◌∙◌, ◌+◌, ◌∷◌, [], ◌++◌, ◌<◌, ap, refl, sym, subst, length, take}
use Rattle.std.proofs.lemmas.List.{take_all}
use Rattle.std.proofs.lemmas.Result.{err_from_is_err_and}
use Rattle.map_history.specs.declared.line.Line.{Line}
use Rattle.map_history.specs.Lines.{line_text, line_texts}
use Rattle.index_engine.specs.Engines.{indexes_of}
use Rattle.lane_threads.specs.Workable.{IsWorkable}
use Rattle.lane_threads.specs.Works.{Works}
use Rattle.lane_threads.proofs.LaneLemmas.{works_none, works_more, workable_at, workable_plain, workable_below, workable_seen, lines_more, same_none, same_more, none_noted, few_noted, room_for_notes, nothing_promised}
use Rattle.lane_threads.proofs.lane.work_lane.Goals as goal

pub loop-line-init : goal.loop-line-init
loop-line-init g c = let work = c.in_ok-work.work in record {
  same = same_none c.args.pass.now;
  own = c.requires.own;
  works = works_none c.args.pass.now work.answers work.log work.counts.items c.args.indexes c.in_ok-work.ensures.answers c.in_ok-work.ensures.log.0 (c.requires.indexes ∙ sym (ap (λ t. t.indexes) c.requires.own.0.1)) c.in_ok-work.ensures.counts;
  room = c.in_ok-work.ensures.log.1;
  few = none_noted c.in_ok-work.work.log c.in_ok-work.ensures.log.0;
}

pub add-requires-clause-index : goal.add-requires-clause-index
add-requires-clause-index g c =
    let line = c.line-item.result in
    let can = subst (IsWorkable c.args.engine.now) (sym c.line-item.is) (workable_at c.args.engine.now c.args.lines.now c.loop-line.line-index line c.requires.lines c.loop-line-test.true) in
    let counted : length c.loop-line.work.counts.items ≡ indexes_of c.args.engine.now = c.loop-line.invariant.works.counted.long ∙ ap (λ t. t.indexes) c.requires.own.0.1 in
    subst (λ n. (line_text line).op.index < n) (sym counted) (workable_below c.args.engine.now line can)

pub loop-line-preserved : goal.loop-line-preserved
loop-line-preserved g c =
    let at = c.loop-line.line-index in let lines = c.args.lines.now in let line = c.line-item.result in let so_far = c.loop-line.invariant in
    let old = c.loop-line.work in let new = c.add.new.self in let added = c.in_ok-add.ensures in
    let can = subst (IsWorkable c.args.engine.now) (sym c.line-item.is) (workable_at c.args.engine.now lines at line c.requires.lines c.loop-line-test.true) in
    let more = works_more c.args.pass.now c.loop-line.pass c.work_line.new.pass (line_texts (take at lines)) old.answers new.answers old.log new.log old.counts.items new.counts.items
    (line_text line) c.in_ok-told.told c.work_line.new.row c.args.lane so_far.works (workable_seen c.args.engine.now c.loop-line.pass line so_far.own can)
    (subst (λ n. (line_text line).op.index < n) (sym (ap (λ t. t.indexes) c.requires.own.0.1)) (workable_below c.args.engine.now line can)) (workable_plain c.args.engine.now line can)
    c.in_ok-told.ensures.ok c.in_ok-told.ensures.tried c.requires.lane added.printed added.noted added.counted in
    let same : line_texts (take at lines) ++ line_text line ∷ [] ≡ line_texts (take (at + 1) lines) = ap (λ l. line_texts (take at lines) ++ line_text l ∷ []) c.line-item.is ∙ sym (lines_more lines at line c.loop-line-test.true) in
    record {
      same = same_more c.args.pass.now c.loop-line.pass c.work_line.new.pass so_far.same c.work_line.ensures.own.0;
      own = c.work_line.ensures.own.1;
      works = subst (λ ls. Works c.args.pass.now c.work_line.new.pass ls new.answers new.log new.counts.items) same more;
      room = added.room ∙ so_far.room;
      few = few_noted old.log new.log c.args.lane (line_text line) c.in_ok-told.told at added.noted so_far.few;
    }

pub work_line-requires-clause-own : goal.work_line-requires-clause-own
work_line-requires-clause-own g c = c.loop-line.invariant.own

pub work_line-requires-clause-line : goal.work_line-requires-clause-line
work_line-requires-clause-line g c = subst (IsWorkable c.args.engine.now) (sym c.line-item.is) (workable_at c.args.engine.now c.args.lines.now c.loop-line.line-index c.line-item.result c.requires.lines c.loop-line-test.true)

pub add-requires-clause-room : goal.add-requires-clause-room
add-requires-clause-room g c = room_for_notes c.loop-line.work.log c.loop-line.line-index (length c.args.lines.now) c.loop-line.invariant.room c.loop-line.invariant.few c.loop-line-test.true

pub returns-clause-own : goal.returns-clause-own
returns-clause-own g c = (c.loop-line.invariant.same, c.loop-line.invariant.own)

pub returns-clause-ok : goal.returns-clause-ok
returns-clause-ok g c =
    let work = c.loop-line.work in
    let all = take_all c.loop-line.line-index c.args.lines.now c.loop-line-test.false in
    subst (λ (ls : List Line). Works c.args.pass.now c.loop-line.pass (line_texts ls) work.answers work.log work.counts.items) all c.loop-line.invariant.works

pub returns-in_err-work-clause-own : goal.returns-in_err-work-clause-own
returns-in_err-work-clause-own g c = (same_none c.args.pass.now, c.requires.own)

pub returns-in_err-row-clause-own : goal.returns-in_err-row-clause-own
returns-in_err-row-clause-own g c = (same_none c.args.pass.now, c.requires.own)

pub returns-in_err-told-clause-own : goal.returns-in_err-told-clause-own
returns-in_err-told-clause-own g c = (same_more c.args.pass.now c.loop-line.pass c.work_line.new.pass c.loop-line.invariant.same c.work_line.ensures.own.0, c.work_line.ensures.own.1)

pub returns-in_err-add-clause-own : goal.returns-in_err-add-clause-own
returns-in_err-add-clause-own g c = (same_more c.args.pass.now c.loop-line.pass c.work_line.new.pass c.loop-line.invariant.same c.work_line.ensures.own.0, c.work_line.ensures.own.1)

pub returns-in_err-add-clause-ok : goal.returns-in_err-add-clause-ok
returns-in_err-add-clause-ok g c =
    let p = err_from_is_err_and c.from_residual-in_err-add.result c.from_residual-in_err-add.ensures.1 in
    nothing_promised c.from_residual-in_err-add.result p.0 (λ work. Works c.args.pass.now c.work_line.new.pass (line_texts c.args.lines.now) work.answers work.log work.counts.items) p.1

pub returns-in_err-told-clause-ok : goal.returns-in_err-told-clause-ok
returns-in_err-told-clause-ok g c =
    let p = err_from_is_err_and c.from_residual-in_err-told.result c.from_residual-in_err-told.ensures.1 in
    nothing_promised c.from_residual-in_err-told.result p.0 (λ work. Works c.args.pass.now c.work_line.new.pass (line_texts c.args.lines.now) work.answers work.log work.counts.items) p.1

pub returns-in_err-work-clause-ok : goal.returns-in_err-work-clause-ok
returns-in_err-work-clause-ok g c =
    let p = err_from_is_err_and c.from_residual-in_err-work.result c.from_residual-in_err-work.ensures.1 in
    nothing_promised c.from_residual-in_err-work.result p.0 (λ work. Works c.args.pass.now c.args.pass.now (line_texts c.args.lines.now) work.answers work.log work.counts.items) p.1

pub add-requires-clause-answer : goal.add-requires-clause-answer
add-requires-clause-answer g c = subst IsSome (sym c.in_ok-told.ensures.ok.is_told.is) refl
