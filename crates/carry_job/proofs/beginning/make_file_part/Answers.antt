-- The part of a file is made.
use Rattle.std.proofs.Common.{◌≡◌, true}
use Rattle.carry_job.proofs.Stepping.{file_begins, file_begins_going}
use Rattle.carry_job.proofs.beginning.make_file_part.Goals as goal

pub returns-clause-begins : goal.returns-clause-begins
returns-clause-begins g c =
    file_begins (λ path. g.P.PartTest.is_free c.args.parts.now path ≡ true) c.args.facts c.args.places.now c.args.folder c.args.copy c.begin_with-stepped.new.self c.begin_with-stepped.result.did
    c.begin_with-stepped.result.calls c.after_beginning-stage.result _ _ _ _ c.requires.begun c.begin_with-stepped.ensures c.after_beginning-stage.ensures

pub returns-clause-going : goal.returns-clause-going
returns-clause-going g c =
    file_begins_going (λ path. g.P.PartTest.is_free c.args.parts.now path ≡ true) c.args.facts c.args.places.now c.args.folder c.args.copy c.begin_with-stepped.new.self c.begin_with-stepped.result.did
    c.begin_with-stepped.result.calls c.after_beginning-stage.result _ _ _ _ c.requires.begun c.begin_with-stepped.ensures c.after_beginning-stage.ensures
