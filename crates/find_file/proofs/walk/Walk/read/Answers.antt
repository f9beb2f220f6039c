-- A file is read where a content is asked for, but one without bytes; one that can't be read is skipped.
use Rattle.std.proofs.Common.{rules, ◌≡◌, ℕ, ◌<◌, Bool, List, length, take, refl, sym, ap, ◌∙◌, arith}
use Rattle.std.proofs.lemmas.List.{take_all}
use Rattle.tree_trait.specs.FileSystem.{node}
use Rattle.tree_trait.specs.Change.{current, found_node}
use Rattle.find_file.specs.FoundList.{holds, is_by_name}
use Rattle.find_file.proofs.Looking.{read-refused, asked, unasked, needless, unread-file, empty-file, read-holds, read-lacks}
use Rattle.find_file.proofs.walk.Walk.read.Goals as goal
use Rattle.find_file.proofs.walk.Walk.read.Goals.{then-not-is_named-via-then-not-is_named, then-not-is_named-via-else-not-is_named+then-is_by_name}

-- what was said of a file is all of it
all-bytes : (content other bytes : List ℕ) (size : ℕ) → size ≡ length bytes → content ≡ other → holds content (take size bytes) ≡ holds other bytes
all-bytes content other bytes size said is =
    ap (holds content) (ap (λ n. take n bytes) said ∙ take_all (length bytes) bytes (omega arith)) ∙ ap (λ l. holds l bytes) is

pub returns-in-Err-clause-answer : goal.returns-in-Err-clause-answer
returns-in-Err-clause-answer g c = λ log tells stands kind said.
    let more : 0 < c.args.size = search rules in
    let file = (node (current log) (found_node (current log) c.args.path)).bytes in
    read-refused log c.args.search.now c.args.self.now c.requires Bool (λ is. is ≡ holds c.as_slice.result.now (take c.args.size file)) c.in-Err.error c.refused.new.self c.refused.result
    c.args.path c.args.is_named stands kind (asked c.args.is_named (is_by_name c.args.search.now) c.if-not-is_named.false (sym c.is_by_name.ensures ∙ c.if-is_by_name.false))
    (omega (arith, more, said)) (c.in-Err.ensures.answer log tells) c.refused.ensures.told c.refused.ensures.waits

pub returns-then-not-is_named-clause-answer : goal.returns-then-not-is_named-clause-answer
returns-then-not-is_named-clause-answer g c = λ log tells stands kind said.
    unread-file (current log) c.args.search.now c.args.self.now c.requires c.args.path c.args.is_named stands kind c.args.self.now refl
    (elim c.then-not-is_named.branch [
      | then-not-is_named-via-then-not-is_named w ↦ unasked c.args.is_named (is_by_name c.args.search.now) w.if-not-is_named.true
      | then-not-is_named-via-else-not-is_named+then-is_by_name w ↦ needless c.args.is_named (is_by_name c.args.search.now) (sym w.is_by_name.ensures ∙ w.if-is_by_name.true)
    ])

pub returns-in-Ok-true-clause-answer : goal.returns-in-Ok-true-clause-answer
returns-in-Ok-true-clause-answer g c = λ log tells stands kind said.
    let more : 0 < c.args.size = search rules in
    let told = c.in-Ok-true.ensures.answer log tells in
    let file = (node (current log) (found_node (current log) c.args.path)).bytes in
    let content : c.as_slice.result.now ≡ c.args.search.now.content = cc in
    read-holds (current log) c.args.search.now c.args.self.now c.requires c.args.path c.args.is_named stands kind c.args.self.now refl
    (asked c.args.is_named (is_by_name c.args.search.now) c.if-not-is_named.false (sym c.is_by_name.ensures ∙ c.if-is_by_name.false))
    (omega (arith, more, said)) told.0
    (sym c.in-Ok-true.field-0-test ∙ told.1 ∙ all-bytes c.as_slice.result.now c.args.search.now.content file c.args.size said content)

pub returns-in-Ok-false-clause-answer : goal.returns-in-Ok-false-clause-answer
returns-in-Ok-false-clause-answer g c = λ log tells stands kind said.
    let more : 0 < c.args.size = search rules in
    let told = c.in-Ok-false.ensures.answer log tells in
    let file = (node (current log) (found_node (current log) c.args.path)).bytes in
    let content : c.as_slice.result.now ≡ c.args.search.now.content = cc in
    read-lacks (current log) c.args.search.now c.args.self.now c.requires c.args.path c.args.is_named stands kind c.args.self.now refl
    (asked c.args.is_named (is_by_name c.args.search.now) c.if-not-is_named.false (sym c.is_by_name.ensures ∙ c.if-is_by_name.false))
    (omega (arith, more, said)) told.0
    (sym c.in-Ok-false.field-0-test ∙ told.1 ∙ all-bytes c.as_slice.result.now c.args.search.now.content file c.args.size said content)

pub returns-then-size-eq0-clause-answer : goal.returns-then-size-eq0-clause-answer
returns-then-size-eq0-clause-answer g c = λ log tells stands kind said.
    let none : c.args.size ≡ 0 = search rules in
    empty-file (current log) c.args.search.now c.args.self.now c.requires c.args.path c.args.is_named stands kind c.args.self.now refl
    (asked c.args.is_named (is_by_name c.args.search.now) c.if-not-is_named.false (sym c.is_by_name.ensures ∙ c.if-is_by_name.false)) (sym none ∙ said)
