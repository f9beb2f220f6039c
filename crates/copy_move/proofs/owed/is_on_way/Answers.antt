-- Where the folder that something leaves is the one that is changed, the same folders are on the way to it.
use Rattle.std.proofs.Common.{◌≡◌, sym, ◌∙◌, subst}
use Rattle.tree_trait.specs.Change.{current}
use Rattle.tree_trait.proofs.Visible.{same_path-true}
use Rattle.copy_move.specs.Settling.{changed_folder, left_folder}
use Rattle.copy_move.specs.MountNumbers.{LiesApart, LiesOff}
use Rattle.copy_move.proofs.owed.is_on_way.Goals as goal

pub returns-then-same-clause-not : goal.returns-then-same-clause-not
returns-then-same-clause-not g c = λ no log known kept lies apart.
    let off = c.is_above.ensures.not c.if-is_above.false log known kept lies (subst (λ folder. LiesApart (current log) folder kept) (sym c.folder.ensures) apart) in
    let changed : LiesOff (current log) (changed_folder c.args.work.now) kept = subst (λ folder. LiesOff (current log) folder kept) c.folder.ensures off in
    let same : changed_folder c.args.work.now ≡ left_folder c.args.work.now =
    sym c.folder-2.ensures ∙ (sym (same_path-true c.left_folder.result.now c.folder-2.result.now (sym c.same.ensures ∙ c.if-same.true)) ∙ c.left_folder.ensures) in
    (changed, subst (λ folder. LiesOff (current log) folder kept) same changed)
