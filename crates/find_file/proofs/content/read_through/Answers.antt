-- Each piece is sought together with what was kept before it.
use Rattle.std.proofs.Common.{◌≡◌, ℕ, Bool, Global, ◌-◌, ◌<◌, ◌≤◌, ◌++◌, length, take, drop, sym, ap, subst, ◌∙◌, arith}
use Rattle.std.specs.Prelude.{⊤, Vec, Option, MatchOption}
use Rattle.tree_trait.specs.FileSystem.{node}
use Rattle.tree_trait.specs.Change.{current, found_node}
use Rattle.find_file.specs.FoundList.{holds}
use Rattle.find_file.proofs.Reading.{read-end, read-found, read-on, last-short, first-piece, first-end, first-all, at_none, at_some, read-error}
use Rattle.find_file.proofs.content.read_through.Goals as goal

pub returns-in-Ok-None-clause-answer : goal.returns-in-Ok-None-clause-answer
returns-in-Ok-None-clause-answer g c = λ log tells.
    let told = c.in-Ok-None.ensures.answer log (c.loop-offset.invariant.same ∙ tells) in
    let file = (node (current log) (found_node (current log) c.args.path.now)).bytes in
    let offset = c.loop-offset.offset in (
      told.0,
      read-end c.args.finder.now (take c.args.size file) offset c.requires.some c.loop-offset.kept.items (c.loop-offset.invariant.left log tells)
          (first-end file c.args.size offset
          (at_none c.in-Ok-None.field-0 (length file ≤ offset) (λ bytes. bytes.items ≡ take (length bytes.items) (drop offset file)) c.in-Ok-None.field-0-is told.1))
          (subst (λ n. length c.loop-offset.kept.items < n) c.requires.width c.loop-offset.invariant.short),
    )

pub returns-then-is_in-clause-answer : goal.returns-then-is_in-clause-answer
returns-then-is_in-clause-answer g c = λ log tells.
    let told = c.in-Ok-Some.ensures.answer log (c.loop-offset.invariant.same ∙ tells) in
    let file = (node (current log) (found_node (current log) c.args.path.now)).bytes in
    let offset = c.loop-offset.offset in
    let kept = c.loop-offset.kept.items in
    let content = c.args.finder.now in
    let few : length c.in-Ok-Some.piece.items ≤ c.args.size - offset =
    omega (arith, at_some c.in-Ok-Some.field-0 c.in-Ok-Some.piece ⊤ (λ bytes. length bytes.items ≤ c.piece_size-most.result) c.in-Ok-Some.field-0-is c.in-Ok-Some.ensures.few, c.piece_size-most.ensures.within) in (
      told.0,
      read-found content (take c.args.size file) offset c.requires.some kept (c.loop-offset.invariant.left log tells) c.in-Ok-Some.piece.items c.in-Ok.stretch.items
          (first-piece file c.in-Ok-Some.piece.items c.args.size offset c.loop-offset.invariant.within few
          (at_some c.in-Ok-Some.field-0 c.in-Ok-Some.piece (length file ≤ offset) (λ bytes. bytes.items ≡ take (length bytes.items) (drop offset file)) c.in-Ok-Some.field-0-is told.1))
          (c.in-Ok.ensures ∙ (ap (λ l. l ++ c.as_slice-bytes.result.now) c.as_slice.ensures.value ∙ ap (λ l. kept ++ l) c.as_slice-bytes.ensures.value))
          (sym (ap (holds content) c.as_slice-in-loop-offset.ensures.value) ∙ (sym c.is_in.ensures ∙ c.if-is_in.true)),
    )

pub loop-offset-preserved : goal.loop-offset-preserved
loop-offset-preserved g c =
    let offset = c.loop-offset.offset in
    let kept = c.loop-offset.kept.items in
    let content = c.args.finder.now in
    let width = c.args.width in
    let stretch = c.in-Ok.stretch.items in
    let last = c.in-Ok-last_of.last.items in
    let few : length c.in-Ok-Some.piece.items ≤ c.args.size - offset =
    omega (arith, at_some c.in-Ok-Some.field-0 c.in-Ok-Some.piece ⊤ (λ bytes. length bytes.items ≤ c.piece_size-most.result) c.in-Ok-Some.field-0-is c.in-Ok-Some.ensures.few, c.piece_size-most.ensures.within) in
    let last_is : last ≡ drop (length stretch - (width - 1)) stretch =
    c.in-Ok-last_of.ensures ∙ ap (λ l. drop (length l - (width - 1)) l) c.as_slice-in-loop-offset-2.ensures.value in
    record {
      same = c.next_piece.ensures.same ∙ c.loop-offset.invariant.same;
      later = omega (arith, c.loop-offset.invariant.later, c.next_piece.ensures.cause.later);
      short = last-short stretch last width (omega (arith, c.requires.width, c.requires.some)) last_is;
      within = omega (arith, few, c.loop-offset.invariant.within, ap length c.as_slice-bytes.ensures.value);
      begun = λ log tells more. (c.in-Ok-Some.ensures.answer log (c.loop-offset.invariant.same ∙ tells)).0;
      left = λ log tells.
          let told = c.in-Ok-Some.ensures.answer log (c.loop-offset.invariant.same ∙ tells) in
          let file = (node (current log) (found_node (current log) c.args.path.now)).bytes in
          read-on content (take c.args.size file) offset c.requires.some kept (c.loop-offset.invariant.left log tells) c.in-Ok-Some.piece.items stretch
          (first-piece file c.in-Ok-Some.piece.items c.args.size offset c.loop-offset.invariant.within few
          (at_some c.in-Ok-Some.field-0 c.in-Ok-Some.piece (length file ≤ offset) (λ bytes. bytes.items ≡ take (length bytes.items) (drop offset file)) c.in-Ok-Some.field-0-is told.1))
          (c.in-Ok.ensures ∙ (ap (λ l. l ++ c.as_slice-bytes.result.now) c.as_slice.ensures.value ∙ ap (λ l. kept ++ l) c.as_slice-bytes.ensures.value))
          width (length c.as_slice-bytes.result.now) last c.requires.width (ap length c.as_slice-bytes.ensures.value)
          (sym (ap (holds content) c.as_slice-in-loop-offset.ensures.value) ∙ (sym c.is_in.ensures ∙ c.if-is_in.false)) last_is;
    }

pub returns-clause-answer : goal.returns-clause-answer
returns-clause-answer g c = λ log tells.
    let file = (node (current log) (found_node (current log) c.args.path.now)).bytes in (
      c.loop-offset.invariant.begun log tells (omega (arith, c.requires.more)),
      read-end c.args.finder.now (take c.args.size file) c.loop-offset.offset c.requires.some c.loop-offset.kept.items (c.loop-offset.invariant.left log tells)
          (first-all file c.args.size c.loop-offset.offset (omega arith)) (subst (λ n. length c.loop-offset.kept.items < n) c.requires.width c.loop-offset.invariant.short),
    )

pub returns-in-Err-clause-answer : goal.returns-in-Err-clause-answer
returns-in-Err-clause-answer g c = λ log tells.
    let file = (node (current log) (found_node (current log) c.args.path.now)).bytes in
    let offset = c.loop-offset.offset in
    read-error (Option (Vec ℕ Global)) Bool log c.args.path.now 0 0
    (λ piece. MatchOption piece (length file ≤ offset) (λ bytes. bytes.items ≡ take (length bytes.items) (drop offset file)))
    (λ is. is ≡ holds c.args.finder.now (take c.args.size file)) c.in-Err.error (c.in-Err.ensures.answer log (c.loop-offset.invariant.same ∙ tells))
