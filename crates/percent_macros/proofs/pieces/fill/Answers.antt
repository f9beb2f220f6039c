use Rattle.std.proofs.Common.{◌≡◌, ◌+◌, ◌∷◌, ◌++◌, length, drop, map, ap, ◌∙◌, arith}
use Rattle.std.specs.List.{flat_map}
use Rattle.std.proofs.lemmas.Grind.{common_steps}
use Rattle.percent_macros.specs.declared.pieces.Piece.TheVariants.{Plain, Prompt}
use Rattle.percent_macros.specs.Commands.{Typed, Asked, prompts_in, parts_of_piece}
use Rattle.percent_macros.proofs.FilledLemmas.{filled-plain, filled-answer, prompts_in-typed}
use Rattle.percent_macros.proofs.pieces.fill.Goals.{in-Plain+in_ok-push_str-in-Plain, in-Prompt+in-Some+in_ok-push_str-in-Some}
use Rattle.percent_macros.proofs.pieces.fill.Goals as goal

pub loop-piece-preserved : goal.loop-piece-preserved
loop-piece-preserved c =
    let here = c.loop-piece.invariant in
    let left = drop c.loop-piece.piece-index c.args.pieces.now in
    let others = flat_map parts_of_piece (drop (c.loop-piece.piece-index + 1) c.args.pieces.now) in
    let next : left ≡ c.piece-item.result ∷ drop (c.loop-piece.piece-index + 1) c.args.pieces.now = grind (arith, common_steps) in
    elim c.match-piece.branch [
      | in-Plain+in_ok-push_str-in-Plain w ↦
          let piece : c.piece-item.result ≡ Plain w.as_str.result.now = cc in
          let parts : flat_map parts_of_piece left ≡ map Typed w.as_str.result.now ++ others =
          ap (flat_map parts_of_piece) next ∙ ap (λ p. parts_of_piece p ++ others) piece in
          rw (w.command-is, w.unused-is, w.in_ok-push_str-in-Plain.ensures.bytes) (record {
            filled_in = filled-plain _ w.as_str.result.now _ others _ _ parts here.filled_in;
            enough = here.enough ∙ ap prompts_in parts ∙ prompts_in-typed w.as_str.result.now others;
          })
      | in-Prompt+in-Some+in_ok-push_str-in-Some w ↦
          let piece : c.piece-item.result ≡ Prompt w.in-Prompt.field-0 = cc in
          let parts : flat_map parts_of_piece left ≡ Asked w.in-Prompt.field-0 ∷ others =
          ap (flat_map parts_of_piece) next ∙ ap (λ p. parts_of_piece p ++ others) piece in
          let answers : c.loop-piece.unused.now ≡ w.in-Some.answer.now ∷ w.in-Some.others.now = grind (arith, common_steps, w.in-Some.ensures.cases) in
          let count : length c.loop-piece.unused.now ≡ 1 + prompts_in others = here.enough ∙ ap prompts_in parts in
          rw (w.command-is, w.unused-is, w.in_ok-push_str-in-Some.ensures.bytes, w.as_str-in-Some.ensures) (record {
            filled_in = filled-answer _ w.in-Prompt.field-0 w.in-Some.answer.now _ others _ _ _ parts answers here.filled_in;
            enough = omega (arith, ap length answers);
          })
    ]
