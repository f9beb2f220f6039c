use Rattle.std.proofs.Common.{◌≡◌, ◌≢◌, Some, false, ap, ◌∙◌, sym}
use Rattle.std.proofs.lemmas.Result.{IfErr-weaker}
use Rattle.user_menu.specs.declared.error.MenuError.TheVariants.{NotText, Memory}
use Rattle.user_menu.specs.MenuFiles.{menu_fault, fault_from, readings, kind_first}
use Rattle.user_menu.proofs.FileLemmas.{menu_fault-text, menu_fault-no_text, read_is}
use Rattle.user_menu.proofs.file.parse_menu.Goals as goal

pub returns-in-Ok-clause-read : goal.returns-in-Ok-clause-read
returns-in-Ok-clause-read c =
    read_is c.args.shell_patterns c.args.bytes.now c.in-Ok.text.now c.parse_text.result c.in-Ok.ensures.cases.0 c.in-Ok.ensures.cases.1
    (rw c.kind_first.ensures at c.parse_text.ensures.entries) (rw c.kind_first.ensures at c.parse_text.ensures.faultless)

pub returns-in-Ok-clause-refused : goal.returns-in-Ok-clause-refused
returns-in-Ok-clause-refused c =
    let bytes = c.args.bytes.now in
    let kind = kind_first c.args.shell_patterns in
    let fault : fault_from 1 false (readings kind c.in-Ok.text.now) ≡ menu_fault c.args.shell_patterns bytes =
    ap (λ text. fault_from 1 false (readings kind text)) c.in-Ok.ensures.cases.0
    ∙ sym (menu_fault-text c.args.shell_patterns bytes c.in-Ok.ensures.cases.1) in
    IfErr-weaker c.parse_text.result (λ e. e ≢ Memory → fault_from 1 false (readings kind c.in-Ok.text.now) ≡ Some e)
    (λ e. e ≢ Memory → menu_fault c.args.shell_patterns bytes ≡ Some e)
    (λ e refused other. sym fault ∙ refused other) (rw c.kind_first.ensures at c.parse_text.ensures.refused)

pub returns-in-Err-clause-refused : goal.returns-in-Err-clause-refused
returns-in-Err-clause-refused c = λ _.
    menu_fault-no_text c.args.shell_patterns c.args.bytes.now c.in-Err.ensures.cases.0
    ∙ ap (λ at. Some (NotText at)) (sym (c.valid_up_to.ensures ∙ c.in-Err.ensures.valid_len))
