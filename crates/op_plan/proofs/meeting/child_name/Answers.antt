-- a path one name longer than the folder that it begins with is a child of it
use Rattle.std.proofs.Common.{◌≡◌, ◌∙◌, sym, ap, ℕ, List, length, arith}
use Rattle.std.proofs.lemmas.List.{length-reverse}
use denote.Ref.{Bor}
use Rattle.op_plan.proofs.Siblings.{child-of}
use Rattle.op_plan.proofs.meeting.child_name.Goals as goal

pub returns-then-is_prefix_of-clause-joined : goal.returns-then-is_prefix_of-clause-joined
returns-then-is_prefix_of-clause-joined c =
    let own = c.names.result.now in
    let others = c.names-2.result.now in
    let size : length own ≡ length c.args.path.now = sym (length-reverse own) ∙ ap length c.names.ensures.names in
    let depth : length others ≡ length c.args.folder.now = sym (length-reverse others) ∙ ap length c.names-2.ensures.names in
    child-of c.args.folder.now c.args.path.now (λ (name : Bor (List ℕ)). name.now) c.last_text.result (sym c.is_prefix_of.ensures ∙ c.if-is_prefix_of.true)
    (omega (arith, size, depth, c.if-names.true)) c.last_text.ensures.last
