-- The copy stands where no part is made yet.
use Rattle.std.proofs.Common.{◌≡◌, true}
use Rattle.copy_file.specs.Copying.{copying}
use Rattle.copy_file.proofs.Stepping.{makes_from}
use Rattle.copy_file.proofs.copy.FileCopy.begin_with.Goals as goal

pub returns : goal.returns
returns g c =
    makes_from (λ path. g.P.PartTest.is_free c.args.parts.now path ≡ true) c.args.facts c.args.self.now (copying c.self.inside.item c.begin_known-moved.result.stage c.begin_known-moved.result.folder)
    c.self.inside.item c.self.inside.stage c.self.inside.folder c.begin_known-moved.result.did c.begin_known-moved.result.calls _ _ _ _ c.self.view_is c.requires.stage c.begin_known-moved.ensures
