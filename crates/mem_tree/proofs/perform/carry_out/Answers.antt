use Rattle.mem_tree.proofs.perform.carry_out.Goals as goal

pub record-requires-clause-placed : goal.record-requires-clause-placed
record-requires-clause-placed c = c.torn-left.ensures.placed c.args.stands.now
