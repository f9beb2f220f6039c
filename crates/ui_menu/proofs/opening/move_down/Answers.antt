use Rattle.std.proofs.Common.{◌≡◌, suc, ◌+◌, ap, ◌∙◌, arith}
use Rattle.key_screen.specs.declared.keys.Base.TheVariants.{Down}
use Rattle.mc_dialogs.specs.ListKeys.{list_moved}
use Rattle.ui_menu.specs.MenuRows.{moved_down}
use Rattle.ui_menu.proofs.opening.move_down.Goals as goal

pub loop-preserved : goal.loop-preserved
loop-preserved c =
    let next : suc c.loop.counter ≡ c.loop.counter + 1 = omega arith in
    c.press_down.ensures ∙ ap (λ list. list_moved list Down) c.loop.invariant ∙ ap (λ n. moved_down n c.args.list.now) next
