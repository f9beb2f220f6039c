use Rattle.std.proofs.Common.{◌∙◌, sym, subst}
use Rattle.key_screen.specs.Terminal.{Reads}
use Rattle.key_screen.proofs.TerminalLemmas.{text_read-text, text_read-front}
use Rattle.key_screen.proofs.terminal.Terminal.read_text.Goals as goal

pub returns-in-Ok : goal.returns-in-Ok
returns-in-Ok c =
    let is = text_read-text c.args.self.now c.args.position c.args.bytes.now c.in-Ok.text.now c.in-Ok.ensures.cases.0 c.in-Ok.ensures.cases.1 in
    subst (λ told. Reads told c.read_clusters.result c.read_clusters.new.self) (sym is) c.read_clusters.ensures

pub returns-in-Err : goal.returns-in-Err
returns-in-Err c =
    let is = text_read-front c.args.self.now c.args.position c.valid_up_to.result c.args.bytes.now c.in-Err.ensures.cases.0 (c.valid_up_to.ensures ∙ c.in-Err.ensures.valid_len) in
    subst (λ told. Reads told c.read_front.result c.read_front.new.self) (sym is) c.read_front.ensures
