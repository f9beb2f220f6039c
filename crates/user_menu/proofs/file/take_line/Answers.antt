use Rattle.std.proofs.Common.{◌∷◌, ap, ◌∙◌, sym}
use Rattle.user_menu.specs.Drafts.{continued_entries}
use Rattle.user_menu.proofs.DraftLemmas.{continued-begun}
use Rattle.user_menu.proofs.file.take_line.Goals as goal

pub returns-in_ok-begin_entry-in-Title-clause-said : goal.returns-in_ok-begin_entry-in-Title-clause-said
returns-in_ok-begin_entry-in-Title-clause-said c = λ lines.
    let e = c.in_ok-begin_entry-in-Title.ensures in
    continued-begun c.args.draft.now c.begin_entry.new.draft c.in-Title.title lines e.begun e.none_waits
    ∙ ap (λ read. continued_entries c.args.draft.now (read ∷ lines)) (sym c.in-Title.is)
