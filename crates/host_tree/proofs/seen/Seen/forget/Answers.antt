-- what is retained is what the closure's test keeps
use Rattle.std.proofs.Common.{rules}
use Rattle.std.proofs.lemmas.Fn.{filter_same}
use Rattle.host_tree.proofs.seen.Seen.forget.Goals as goal

pub returns-clause-folders : goal.returns-clause-folders
returns-clause-folders c = filter_same _ _ _ (λ x b f' k. search rules) _ _ c.retain.ensures.filtered
