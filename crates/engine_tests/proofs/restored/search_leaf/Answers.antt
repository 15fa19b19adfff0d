use Rattle.std.proofs.Common.{refl}
use Rattle.key_tuple.specs.declared.mode.Mode.TheVariants as mode
use Rattle.engine_tests.proofs.EmptyLemmas.{none_has_frame, none_has_table}
use Rattle.engine_tests.proofs.StandLemmas.{none_held, down_alone, stands_searched}
use Rattle.engine_tests.proofs.restored.search_leaf.Goals as goal

pub descend-requires-clause-frames : goal.descend-requires-clause-frames
descend-requires-clause-frames g c = let site = c.args.site.now in
    none_has_frame site.space c.args.pass.now site.forest c.requires.own c.requires.nothing

pub descend-requires-clause-tables : goal.descend-requires-clause-tables
descend-requires-clause-tables g c = let site = c.args.site.now in
    none_has_table site.space c.args.pass.now site.forest c.requires.own c.requires.nothing

pub returns-clause-only : goal.returns-clause-only
returns-clause-only g c = let site = c.args.site.now in let p = c.args.pass.now in
    down_alone p c.descend.new.pass 0 mode.Ge c.args.cursor.now.key.tuple c.descend.result
    c.descend.ensures.went (none_held site.space p site.forest c.requires.own c.requires.nothing)

pub returns-clause-stand : goal.returns-clause-stand
returns-clause-stand g c = let old = c.args.cursor.now in
    stands_searched c.args.pass.now c.descend.new.pass
    (record {
      block = old.block;
      clock = 18446744073709551615;
      page = old.page;
      place = old.place;
      key = old.key;
      after = old.after;
    }) c.descend.result c.descend.ensures.went
    (record { fields = c.requires.room.fields; room = c.requires.room.room }) refl
