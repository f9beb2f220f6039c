-- Where a short file came, it is whole; else what came is read again with more room.
use Rattle.std.proofs.Common.{ℕ, Vec, Global}
use Rattle.ui_editor.proofs.OpeningLemmas.{front_of, read_refused, refused_of}
use Rattle.ui_editor.proofs.reading.first_bytes.Goals as goal

pub returns-else-as_slice-lt-SHORT_FILE-clause-front : goal.returns-else-as_slice-lt-SHORT_FILE-clause-front
returns-else-as_slice-lt-SHORT_FILE-clause-front g c =
    front_of (λ (v : Vec ℕ Global). v.items) c.args.path.now c.args.most (g.T.ReadTree.contents c.args.tree.now)
    (g.T.ReadTree.contents c.front.new.tree) c.front-in-Ok.result c.front.ensures.same c.front-in-Ok.ensures.answer

pub returns-else-as_slice-lt-SHORT_FILE-clause-refused : goal.returns-else-as_slice-lt-SHORT_FILE-clause-refused
returns-else-as_slice-lt-SHORT_FILE-clause-refused g c =
    refused_of (λ (v : Vec ℕ Global). v.items) c.args.path.now c.args.most (g.T.ReadTree.contents c.args.tree.now)
    (g.T.ReadTree.contents c.front.new.tree) c.front-in-Ok.result c.front.ensures.same c.front-in-Ok.ensures.answer

pub returns-in-Err-clause-refused : goal.returns-in-Err-clause-refused
returns-in-Err-clause-refused g c = λ log known.
    read_refused log c.args.path.now c.in-Err.error _ (c.in-Err.ensures.answer log known)
