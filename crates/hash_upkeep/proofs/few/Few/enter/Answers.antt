use Rattle.std.specs.Option.{option_to_list}
use Rattle.hash_upkeep.proofs.SwapLemmas.{both_come, former_fits, latter_fits}
use Rattle.hash_upkeep.proofs.few.Few.enter.Goals as goal

pub enter_one-requires : goal.enter_one-requires
enter_one-requires c = record {
  room = former_fits (option_to_list c.args.self.now.first) (option_to_list c.args.self.now.second)
      c.args.part.now.spare c.requires.room;
}

pub enter_one-requires-2 : goal.enter_one-requires-2
enter_one-requires-2 c = record {
  room = latter_fits (option_to_list c.args.self.now.first) (option_to_list c.args.self.now.second)
      c.args.part.now.spare c.enter_one.new.part.spare c.requires.room c.enter_one.ensures.spare;
}

pub returns-clause-nodes : goal.returns-clause-nodes
returns-clause-nodes c =
    both_come (option_to_list c.args.self.now.first) (option_to_list c.args.self.now.second)
    c.args.part.now.nodes c.enter_one.new.part.nodes c.enter_one-2.new.part.nodes
    c.enter_one.ensures.nodes c.enter_one-2.ensures.nodes
