use Rattle.std.proofs.Common.{◌≡◌, ◌≢◌, [], Some, ap, ◌∙◌, sym}
use Rattle.std.proofs.lemmas.Result.{IfErr-weaker}
use Rattle.text_scan.specs.Lines.{lines_of}
use Rattle.hotlist.specs.declared.error.HotError.TheVariants.{NotText, Memory}
use Rattle.hotlist.specs.HotFiles.{fault_from, hotlist_fault}
use Rattle.hotlist.proofs.GrammarLemmas.{hotlist_fault-text, hotlist_fault-no_text}
use Rattle.hotlist.proofs.file.parse_bytes.Goals as goal

pub returns-in-Ok-clause-refused : goal.returns-in-Ok-clause-refused
returns-in-Ok-clause-refused c =
    let bytes = c.args.bytes.now in
    let fault : fault_from 1 (lines_of c.in-Ok.text.now) 32 [] ≡ hotlist_fault bytes =
    ap (λ text. fault_from 1 (lines_of text) 32 []) c.in-Ok.ensures.cases.0 ∙ sym (hotlist_fault-text bytes c.in-Ok.ensures.cases.1) in
    IfErr-weaker c.parse_text.result (λ e. e ≢ Memory → fault_from 1 (lines_of c.in-Ok.text.now) 32 [] ≡ Some e) (λ e. e ≢ Memory → hotlist_fault bytes ≡ Some e)
    (λ e refused other. sym fault ∙ refused other) c.parse_text.ensures.refused

pub returns-in-Err-clause-refused : goal.returns-in-Err-clause-refused
returns-in-Err-clause-refused c = λ _.
    hotlist_fault-no_text c.args.bytes.now c.in-Err.ensures.cases.0
    ∙ ap (λ at. Some (NotText at)) (sym (c.valid_up_to.ensures ∙ c.in-Err.ensures.valid_len))
