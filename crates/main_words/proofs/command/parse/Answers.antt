use Rattle.std.proofs.Common.{map-id, ◌∙◌}
use Rattle.clap.specs.Words.{app_of}
use Rattle.main_words.proofs.ProfileLemmas.{is_free, is_simple_app, are_read-ok, are_read-err, value_in-found}
use Rattle.main_words.proofs.command.parse.Goals as goal

pub returns-in-Ok-try_get_matches_from-clause-read : goal.returns-in-Ok-try_get_matches_from-clause-read
returns-in-Ok-try_get_matches_from-clause-read c =
    let app = app_of c.in-Ok.command in
    are_read-ok app _ c.args.words.now c.in-Ok.ensures (map-id c.args.words.now)
    (c.in-Ok-try_get_matches_from.ensures.kinds (is_free app c.in-Ok.ensures))

pub returns-in-Ok-try_get_matches_from-clause-rows : goal.returns-in-Ok-try_get_matches_from-clause-rows
returns-in-Ok-try_get_matches_from-clause-rows c = λ id.
    let app = app_of c.in-Ok.command in
    value_in-found app _ c.args.words.now c.in-Ok-try_get_matches_from.matches id c.in-Ok.ensures (map-id c.args.words.now)
    (c.in-Ok-try_get_matches_from.ensures.matches (is_simple_app app c.in-Ok.ensures)).0

pub returns-clause-usage : goal.returns-clause-usage
returns-clause-usage c = λ _.
    let app = app_of c.in-Ok.command in
    are_read-err app _ c.args.words.now c.in-Err.error c.in-Ok.ensures (map-id c.args.words.now)
    (c.in-Err.ensures.kinds (is_free app c.in-Ok.ensures))
    (λ e. c.in_default-kind.not-OutOfMemory (c.kind.ensures ∙ e))
