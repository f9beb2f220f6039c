use Rattle.std.proofs.Common.{◌≡◌, ℕ, Vec, Global, ap, ◌∙◌, sym, subst, arith}
use Rattle.std.specs.Str.{IsUtf8}
use Rattle.std.specs.String.{string_bytes}
use Rattle.std.proofs.lemmas.Str.{IsUtf8-string_bytes}
use Rattle.std.proofs.lemmas.Grind.{common_steps}
use Rattle.text_scan.specs.Lines.{lines_of}
use Rattle.hotlist.specs.HotFiles.{said_by}
use Rattle.hotlist.specs.ListViews.{list_in}
use Rattle.hotlist.specs.Printed.{printed_list}
use Rattle.hotlist.proofs.PrintLemmas.{said-whole}
use Rattle.hotlist.proofs.print.print_hotlist.Goals as goal

pub returns-clause-read_back : goal.returns-clause-read_back
returns-clause-read_back c = λ one_line.
    let text : c.into_bytes.result.items ≡ string_bytes c.print_items.new.text = ap (λ (v : Vec ℕ Global). v.items) c.into_bytes.ensures.value in
    let bytes : c.into_bytes.result.items ≡ printed_list 0 (list_in c.args.list.now) = grind (arith, common_steps) in
    record {
      text = subst IsUtf8 (sym text) (IsUtf8-string_bytes c.print_items.new.text);
      said = ap (λ b. said_by (lines_of b)) bytes ∙ said-whole (list_in c.args.list.now) one_line;
      nested = c.args.list.now.nested;
    }
