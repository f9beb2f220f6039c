use Rattle.std.proofs.Common.{◌≡◌, ◌∷◌, replicate, string_bytes}
use Rattle.screen_frame.proofs.cutting.edge_of.Given as goal

abbrev pub invariant-loop : goal.invariant-loop
invariant-loop l = string_bytes l.line ≡ 43 ∷ replicate l.counter 45
