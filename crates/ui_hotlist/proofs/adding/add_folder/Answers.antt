-- Neither the label nor the path of what is added holds a newline.
use Rattle.std.proofs.Common.{rules, ◌≡◌, ◌==◌, false, sym, subst, IfSome}
use Rattle.std.specs.List.{list_any}
use Rattle.mc_text.specs.Routes.{path_text}
use Rattle.hotlist.specs.HotFiles.{IsHotlist}
use Rattle.hotlist.specs.HotLists.{AreOneLine}
use Rattle.hotlist.specs.ListViews.{list_in}
use Rattle.ui_hotlist.specs.HotlistFiles.{with_folder}
use Rattle.ui_hotlist.proofs.EntryLemmas.{one_line-added}
use Rattle.ui_hotlist.proofs.adding.add_folder.Goals as goal

pub returns-clause-read_back : goal.returns-clause-read_back
returns-clause-read_back c = λ one.
    let folder = c.args.folder.now in
    let list = list_in c.args.list in
    let grown = list_in c.in_ok-grown.grown in
    let grown_is : grown ≡ with_folder folder list = search rules in
    let none : list_any (λ byte. byte == 10) (path_text folder) ≡ false = search rules in
    let whole : AreOneLine grown = subst AreOneLine (sym grown_is) (one_line-added (path_text folder) list none one) in
    let read = subst (λ file. IfSome file (λ bytes. AreOneLine grown → IsHotlist bytes grown)) c.in-Some.is c.in_ok-file_of.ensures.read_back in
    subst (IsHotlist c.in-Some.bytes) grown_is (read whole)
