use Rattle.std.proofs.Common.{◌≡◌, ◌≤◌, length, take, map}
use Rattle.std.specs.Option.{ForSome}
use Rattle.std.specs.String.{string_bytes}
use Rattle.script.specs.declared.TheConstants.{MAX_FILE_BYTES}
use Rattle.script.specs.Views.{schema_text}
use Rattle.lane_threads.specs.Together.{lane_texts, AllAreLinesOf}
use Rattle.ahi_cli.specs.Files.{KeepsFiles}
use Rattle.ahi_cli.proofs.FirstLemmas.{SpellsUpTo}
use Rattle.ahi_cli.proofs.files.load_lanes.Given as goal

-- the lanes so far were read
abbrev pub invariant-loop-i : goal.invariant-loop-i
invariant-loop-i g l = record {
  spelled : ForSome (g.F.Shelf.holds l.fn.shelf) (λ files. SpellsUpTo files (schema_text l.schema) l.before (take l.i (map string_bytes l.command.lanes.now)) (lane_texts l.lanes.items) l.size);
  fits : l.size ≤ MAX_FILE_BYTES;
  count : length l.lanes.items ≡ l.i;
  lines : AllAreLinesOf l.schema.fields.items l.lanes.items;
  kept : KeepsFiles g.F.Shelf l.fn.shelf l.shelf;
}
