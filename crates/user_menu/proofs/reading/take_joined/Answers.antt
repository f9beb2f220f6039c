use Rattle.user_menu.proofs.TermLemmas.{word-short}
use Rattle.user_menu.proofs.reading.take_joined.Goals as goal

pub returns-in-Some-joint_of-clause-shorter : goal.returns-in-Some-joint_of-clause-shorter
returns-in-Some-joint_of-clause-shorter c =
    word-short c.args.behind.now (record { word = c.in-Some.word.now; rest = c.in-Some.rest.now }) c.in-Some.ensures
