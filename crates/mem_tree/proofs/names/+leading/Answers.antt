use Rattle.mem_tree.proofs.Leading.{step_leading}
use Rattle.mem_tree.proofs.names.+leading.Goals as goal

pub returns-in_ok-add_leading-in-len1-up : goal.returns-in_ok-add_leading-in-len1-up
returns-in_ok-add_leading-in-len1-up t c =
    step_leading c.args.edits.now c.first-item.result c.in_ok-names-in-len1-up.names c.take_out.new.names c.add_leading.new.names
    c.in-len1-up.len_at_least c.first-item.is c.in_ok-names-in-len1-up.ensures c.take_out.ensures c.in_ok-add_leading-in-len1-up.ensures
