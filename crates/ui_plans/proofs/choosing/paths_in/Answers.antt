-- The paths are those of the names.
use Rattle.std.proofs.Common.{◌≡◌, ◌∷◌, ◌∙◌, false, List, ℕ, ap, subst, take}
use Rattle.std.specs.List.{list_any}
use Rattle.std.proofs.lemmas.List.{take_all}
use Rattle.ui_plans.specs.Choices.{is_too_long, paths_in}
use Rattle.ui_plans.proofs.Within.{any_in_folder, long_at}
use Rattle.ui_plans.proofs.choosing.paths_in.Goals as goal

pub returns-in-Err-TooLong : goal.returns-in-Err-TooLong
returns-in-Err-TooLong c =
    any_in_folder c.args.folder.now c.args.names.now
    ∙ long_at c.args.folder.now c.args.names.now c.loop-name.name-index c.name-item.result c.loop-name-test.true c.name-item.is
    (c.in-Err-TooLong.ensures.too_long (λ same. absurd cc)).1

pub returns : goal.returns
returns c =
    let all : take c.loop-name.name-index c.args.names.now ≡ c.args.names.now = take_all c.loop-name.name-index c.args.names.now c.loop-name-test.false in (
      any_in_folder c.args.folder.now c.args.names.now
          ∙ subst (λ (l : List (List ℕ)). list_any (λ name. is_too_long (name ∷ c.args.folder.now)) l ≡ false) all c.loop-name.invariant.near,
      c.loop-name.invariant.made ∙ ap (paths_in c.args.folder.now) all,
    )
