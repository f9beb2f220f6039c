-- Each stage is a function of its own.
use Rattle.std.proofs.Common.{◌≡◌, true, refl, subst}
use Rattle.std.specs.Prelude.{⊤}
use Rattle.copy_file.specs.declared.stage.Stage.TheVariants.{Fill, Clean, Decided}
use Rattle.copy_file.specs.declared.stage.FolderState.TheVariants.{Dirty}
use Rattle.copy_file.specs.Copying.{IsSound}
use Rattle.copy_file.proofs.Stepping.{moves_at, moves_begin, dirty_fill}
use Rattle.copy_file.proofs.work.work.Goals as goal

pub returns-in-Begin : goal.returns-in-Begin
returns-in-Begin g c =
    moves_begin (λ path. g.P.PartTest.is_free c.args.parts.now path ≡ true) c.args.item.now c.args.stage c.args.folder c.begin.result _ _ _ _ c.in-Begin.is c.begin.ensures

pub returns-then-done-facts : goal.returns-then-done-facts
returns-then-done-facts g c =
    moves_at (λ _. ⊤) (λ path. g.P.PartTest.is_free c.args.parts.now path ≡ true) c.args.item.now c.args.stage (Fill c.in-Fill.part c.in-Fill.facts c.in-Fill.done) c.args.folder Dirty c.fill.result _ _ _ _
    c.in-Fill.is (dirty_fill c.args.stage c.args.folder c.in-Fill.part c.in-Fill.facts c.in-Fill.done c.in-Fill.is c.requires.sound) (λ h. cc) c.fill.ensures

pub returns-else-done-facts : goal.returns-else-done-facts
returns-else-done-facts g c =
    moves_at (λ _. ⊤) (λ path. g.P.PartTest.is_free c.args.parts.now path ≡ true) c.args.item.now c.args.stage (Fill c.in-Fill.part c.in-Fill.facts c.in-Fill.done) c.args.folder Dirty c.finish_part.result _ _ _ _
    c.in-Fill.is (dirty_fill c.args.stage c.args.folder c.in-Fill.part c.in-Fill.facts c.in-Fill.done c.in-Fill.is c.requires.sound) (λ h. cc) c.finish_part.ensures

pub returns-in-Clean : goal.returns-in-Clean
returns-in-Clean g c =
    moves_at (λ _. ⊤) (λ path. g.P.PartTest.is_free c.args.parts.now path ≡ true) c.args.item.now c.args.stage (Clean c.in-Clean.part c.in-Clean.next) c.args.folder Dirty c.clean.result _ _ _ _
    c.in-Clean.is (subst (λ s. IsSound s c.args.folder) c.in-Clean.is c.requires.sound) (λ h. cc) c.clean.ensures

pub returns-in-Decided : goal.returns-in-Decided
returns-in-Decided g c =
    moves_at (λ _. ⊤) (λ path. g.P.PartTest.is_free c.args.parts.now path ≡ true) c.args.item.now c.args.stage Decided c.args.folder c.args.folder c.conclude.result _ _ _ _
    c.in-Decided.is refl (λ h. cc) c.conclude.ensures
