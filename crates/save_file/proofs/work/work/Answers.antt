-- Each piece of work is a function of its own, or what a copy does.
use Rattle.std.proofs.Common.{◌≡◌, ◌∙◌, ap, sym, true}
use Rattle.save_file.specs.Saving.{piece_at}
use Rattle.save_file.proofs.Settling.{settled}
use Rattle.save_file.proofs.work.work.Goals as goal

pub returns-in-Write : goal.returns-in-Write
returns-in-Write g c = c.write.ensures (g.P.PartTest.is_free c.args.parts.now)

pub returns-in-Settle : goal.returns-in-Settle
returns-in-Settle g c =
    settled (λ path. g.P.PartTest.is_free c.args.parts.now path ≡ true) c.args.copy.now c.args.bytes.now c.requires.own
    (ap piece_at (sym c.stage.ensures) ∙ (sym c.next_piece.ensures ∙ c.in-Settle.is)) c.step.result.did c.step.new.self c.step.result.calls _ _ _ _ c.step.ensures.steps
