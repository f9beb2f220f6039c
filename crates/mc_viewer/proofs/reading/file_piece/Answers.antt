-- What a tree that is known reads of a file.
use Rattle.std.proofs.Common.{◌≡◌, length, take, drop, ap, sym, ◌∙◌, arith}
use Rattle.tree_trait.specs.FileSystem.{node}
use Rattle.tree_trait.specs.Change.{current, found_node}
use Rattle.tree_trait.specs.Answers.{IsRead}
use Rattle.mc_viewer.proofs.ReadingLemmas.{known-file, read-is, written-over, readable-file, refused-read, refused-said}
use Rattle.mc_viewer.proofs.reading.file_piece.Goals as goal

pub returns-in_err-read-clause-refused : goal.returns-in_err-read-clause-refused
returns-in_err-read-clause-refused g c = λ log known.
    let path = c.args.path.now in
    let e = c.in_err-read.field-0.0 in
    refused-said log path e c.from_residual-in_err-read.result c.from_residual-in_err-read.ensures.1
    (refused-read log path c.args.at (length c.as_mut_slice.result.now) e
    (IsRead (node (current log) (found_node (current log) path)).bytes c.args.at c.as_mut_slice.result.now c.read_at.new.into)
    (c.in_err-read.ensures.answer log known))

pub returns-clause-shown : goal.returns-clause-shown
returns-clause-shown g c = λ bytes known.
    let path = c.args.path.now in
    let there = known-file (g.T.ReadTree.contents c.args.tree.now) path bytes known in
    let len : length c.as_mut_slice.result.now ≡ c.args.count = omega (arith, ap length c.as_mut_slice.ensures.value, c.in_ok-bytes.ensures.len) in
    let into = c.read_at.new.into in
    let old = c.in_ok-bytes.bytes in
    let items_len : length old.items ≡ old.len = omega (arith, ap length c.as_mut_slice.ensures.value, c.as_mut_slice.ensures.len) in
    let into_len : length into ≡ old.len = omega (arith, ap length c.as_mut_slice.ensures.value, c.as_mut_slice.ensures.len, c.read_at.auto.into) in
    c.truncate.ensures.items
    ∙ ap (take c.in_ok-read.read) (written-over old.len into old.items into_len (omega arith))
    ∙ read-is (node (current there.log) (found_node (current there.log) path)).bytes c.args.at c.args.count c.as_mut_slice.result.now c.read_at.new.into c.in_ok-read.read len
    (c.in_ok-read.ensures.answer there.log there.is).1
    ∙ ap (λ l. take c.args.count (drop c.args.at l)) (sym there.holds)

pub returns-clause-readable : goal.returns-clause-readable
returns-clause-readable g c = λ log known. readable-file log c.args.path.now (c.in_ok-read.ensures.answer log known).0
