use Rattle.std.specs.Option.{option_to_list}
use Rattle.hash_upkeep.proofs.SwapLemmas.{both_go, former_there, latter_there, spare_after_both}
use Rattle.hash_upkeep.proofs.few.Few.leave.Goals as goal

pub leave_one-requires : goal.leave_one-requires
leave_one-requires c = record {
  there = former_there (option_to_list c.args.self.now.first) (option_to_list c.args.self.now.second)
      c.args.part.now.nodes c.requires.there;
}

pub leave_one-requires-2 : goal.leave_one-requires-2
leave_one-requires-2 c = record {
  there = latter_there (option_to_list c.args.self.now.first) (option_to_list c.args.self.now.second)
      c.args.part.now.nodes c.leave_one.new.part.nodes c.requires.there c.leave_one.ensures.nodes;
}

pub returns-clause-nodes : goal.returns-clause-nodes
returns-clause-nodes c =
    both_go (option_to_list c.args.self.now.first) (option_to_list c.args.self.now.second)
    c.args.part.now.nodes c.leave_one.new.part.nodes c.leave_one-2.new.part.nodes
    c.leave_one.ensures.nodes c.leave_one-2.ensures.nodes

pub returns-clause-spare : goal.returns-clause-spare
returns-clause-spare c =
    spare_after_both (option_to_list c.args.self.now.first)
    (option_to_list c.args.self.now.second) c.args.part.now.spare c.leave_one.new.part.spare
    c.leave_one-2.new.part.spare c.leave_one.ensures.spare c.leave_one-2.ensures.spare
