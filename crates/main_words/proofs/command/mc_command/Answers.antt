use Rattle.std.proofs.Common.{ap, ◌∙◌}
use Rattle.std.proofs.lemmas.Result.{IfOk-weaker}
use Rattle.main_words.specs.Profile.{mc_app, with_options, with_flags, with_folders}
use Rattle.main_words.proofs.command.mc_command.Goals as goal

pub returns : goal.returns
unfolding mc_app
returns c =
    IfOk-weaker c.add_folders.result _ _
    (λ r e. e ∙ ap with_folders (c.in_ok-command-2.ensures ∙ ap with_flags (c.in_ok-command.ensures ∙ ap with_options c.bare.ensures)))
    c.add_folders.ensures
