use Rattle.std.proofs.Common.{◌≡◌, ◌≢◌, Some, false, ap, ◌∙◌, sym}
use Rattle.std.proofs.lemmas.Result.{IfErr-weaker}
use Rattle.ext_rules.specs.declared.error.ExtError.TheVariants.{NotText, Memory}
use Rattle.ext_rules.specs.ExtFiles.{ext_fault, fault_from, readings}
use Rattle.ext_rules.proofs.FileLemmas.{ext_fault-text, ext_fault-no_text, read_is}
use Rattle.ext_rules.proofs.file.parse_ext.Goals as goal

pub returns-in-Ok-clause-read : goal.returns-in-Ok-clause-read
returns-in-Ok-clause-read c =
    read_is c.args.bytes.now c.in-Ok.text.now c.parse_text.result c.in-Ok.ensures.cases.0 c.in-Ok.ensures.cases.1 c.parse_text.ensures.rules c.parse_text.ensures.faultless

pub returns-in-Ok-clause-refused : goal.returns-in-Ok-clause-refused
returns-in-Ok-clause-refused c =
    let bytes = c.args.bytes.now in
    let fault : fault_from 1 false (readings c.in-Ok.text.now) ≡ ext_fault bytes =
    ap (λ text. fault_from 1 false (readings text)) c.in-Ok.ensures.cases.0 ∙ sym (ext_fault-text bytes c.in-Ok.ensures.cases.1) in
    IfErr-weaker c.parse_text.result (λ e. e ≢ Memory → fault_from 1 false (readings c.in-Ok.text.now) ≡ Some e) (λ e. e ≢ Memory → ext_fault bytes ≡ Some e)
    (λ e refused other. sym fault ∙ refused other) c.parse_text.ensures.refused

pub returns-in-Err-clause-refused : goal.returns-in-Err-clause-refused
returns-in-Err-clause-refused c = λ _.
    ext_fault-no_text c.args.bytes.now c.in-Err.ensures.cases.0
    ∙ ap (λ at. Some (NotText at)) (sym (c.valid_up_to.ensures ∙ c.in-Err.ensures.valid_len))
