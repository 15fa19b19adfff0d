-- A line that isn't read is the file's flaw, and one that is read leaves those after it.
use Rattle.std.proofs.Common.{◌≡◌, ℕ, [], length, refl, ap, ◌∙◌, arith, Vec, String, Global}
use Rattle.script.specs.Pieces.{lines_left}
use Rattle.script.specs.Schema.{empty_draft, schema_of}
use Rattle.script.specs.declared.TheConstants.{DEFAULT_SIZES}
use Rattle.script.specs.Views.{draft_view}
use Rattle.settings.specs.declared.setting.Setting.{Setting}
use Rattle.script.proofs.NameFacts.{alike_empty}
use Rattle.script.proofs.Whole.{few_lines, schema_begins, schema_stops, schema_goes, schema_lacks, schema_ends}
use Rattle.script.proofs.reading.read_indexes.Goals as goal

-- a draft of empty lists is empty
empty_lists : (given : Vec Setting Global) (names : Vec (String Global) Global) (fields : Vec ℕ Global) → given.items ≡ [] → names.items ≡ [] → fields.items ≡ []
    → draft_view (record { sizes = DEFAULT_SIZES; given = given; names = names; fields = fields }) ≡ empty_draft
empty_lists given names fields no_given no_names no_fields = rw (no_given, no_names, no_fields) refl

pub returns-in-Err : goal.returns-in-Err
returns-in-Err c =
    rw c.at.ensures (schema_stops c.loop-line.number (draft_view c.loop-line.draft) (lines_left c.loop-line.line-iterator) c.in-Some.line.now (lines_left c.next.new.self)
    (schema_of c.args.bytes.now) c.in-Err.refusal c.loop-line.invariant.told c.in-Some.ensures.steps c.in-Err.ensures)

pub loop-line-preserved : goal.loop-line-preserved
loop-line-preserved c =
    let fewer = ap length c.in-Some.ensures.steps in
    record {
      told = schema_goes c.loop-line.number (draft_view c.loop-line.draft) (draft_view c.take_line.new.self) (lines_left c.loop-line.line-iterator) c.in-Some.line.now (lines_left c.next.new.self)
          (schema_of c.args.bytes.now) c.loop-line.invariant.told c.in-Some.ensures.steps c.in_default.ensures;
      room = omega (arith, fewer, c.loop-line.invariant.room);
    }

pub returns : goal.returns
returns c =
    let draft = c.loop-line.draft in
    schema_ends c.loop-line.number (draft_view draft) (lines_left c.loop-line.line-iterator) (schema_of c.args.bytes.now) c.loop-line.invariant.told c.in-None.ensures.steps.0
    (alike_empty draft.names _ c.if-is_empty.ensures)

pub returns-then-is_empty : goal.returns-then-is_empty
returns-then-is_empty c =
    let draft = c.loop-line.draft in
    rw c.at-then-is_empty.ensures (schema_lacks c.loop-line.number (draft_view draft) (lines_left c.loop-line.line-iterator) (schema_of c.args.bytes.now) c.loop-line.invariant.told c.in-None.ensures.steps.0
    (alike_empty draft.names _ c.if-is_empty.ensures))

pub loop-line-init : goal.loop-line-init
loop-line-init c =
    let all = ap lines_left c.into_iter-line-iterator.ensures.into_iter_gives ∙ c.new-line-items.ensures in
    let empty = empty_lists c.new.result c.new-2.result c.new-3.result c.new.ensures.items c.new-2.ensures.items c.new-3.ensures.items in
    record {
      told = schema_begins _ c.args.bytes.now (lines_left c.into_iter-line-iterator.result) empty all;
      room = omega (arith, few_lines c.args.bytes.now, ap length all);
    }

pub overflow_add-number : goal.overflow_add-number
overflow_add-number c = omega (arith, c.loop-line.invariant.room, c.requires)
