use Rattle.user_menu.proofs.CutLemmas.{cut_some, cut_none}
use Rattle.user_menu.proofs.words.cut_at_blank.Goals as goal

pub returns-in-Some-clause-word : goal.returns-in-Some-clause-word
returns-in-Some-clause-word c = (cut_some c.args.words.now c.in-Some.word.now c.in-Some.behind.now c.in-Some.ensures.cases).0

pub returns-in-Some-clause-behind : goal.returns-in-Some-clause-behind
returns-in-Some-clause-behind c = (cut_some c.args.words.now c.in-Some.word.now c.in-Some.behind.now c.in-Some.ensures.cases).1

pub returns-in-None-clause-word : goal.returns-in-None-clause-word
returns-in-None-clause-word c = (cut_none c.args.words.now c.in-None.ensures.cases).0

pub returns-in-None-clause-behind : goal.returns-in-None-clause-behind
returns-in-None-clause-behind c = (cut_none c.args.words.now c.in-None.ensures.cases).1
