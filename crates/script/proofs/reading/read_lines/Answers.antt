-- A line that isn't read is the file's flaw, and one that is read leaves those after it.
use Rattle.std.proofs.Common.{length, ap, ◌∙◌, arith}
use Rattle.map_history.specs.Lines.{line_texts}
use Rattle.script.specs.Pieces.{lines_left}
use Rattle.script.specs.Lane.{lane_of}
use Rattle.script.specs.Views.{schema_text}
use Rattle.script.proofs.Whole.{few_lines, lane_begins, lane_stops, lane_goes}
use Rattle.script.proofs.reading.read_lines.Goals as goal

pub returns-in-Err : goal.returns-in-Err
returns-in-Err c =
    let schema = schema_text c.args.schema.now in
    rw c.at.ensures (lane_stops schema c.loop-line.number (line_texts c.loop-line.lines.items) (lines_left c.loop-line.line-iterator) c.in-Some.line.now (lines_left c.next.new.self)
    (lane_of schema c.args.bytes.now) c.in-Err.refusal c.loop-line.invariant.told c.in-Some.ensures.steps c.in-Err.ensures.cause)

pub loop-line-preserved : goal.loop-line-preserved
loop-line-preserved c =
    let schema = schema_text c.args.schema.now in
    let fewer = ap length c.in-Some.ensures.steps in
    record {
      told = lane_goes schema c.loop-line.number (line_texts c.loop-line.lines.items) (line_texts c.take_line.new.lines.items) (lines_left c.loop-line.line-iterator) c.in-Some.line.now (lines_left c.next.new.self)
          (lane_of schema c.args.bytes.now) c.loop-line.invariant.told c.in-Some.ensures.steps c.in_default.ensures.ok;
      room = omega (arith, fewer, c.loop-line.invariant.room);
    }

pub loop-line-init : goal.loop-line-init
loop-line-init c =
    let all = ap lines_left c.into_iter-line-iterator.ensures.into_iter_gives ∙ c.new-line-items.ensures in
    record {
      told = lane_begins (schema_text c.args.schema.now) c.args.bytes.now (line_texts c.new-lines.result.items) (lines_left c.into_iter-line-iterator.result) (ap line_texts c.new-lines.ensures.items) all;
      room = omega (arith, few_lines c.args.bytes.now, ap length all);
    }

pub overflow_add-number : goal.overflow_add-number
overflow_add-number c = omega (arith, c.loop-line.invariant.room, c.requires)
