use Rattle.laws_crash.proofs.ModeLaws.{setting_law}
use Rattle.laws_crash.proofs.quiet_calls.what_a_setting_of_a_mode_keeps.Goals as goal

pub returns : goal.returns
returns c = setting_law
