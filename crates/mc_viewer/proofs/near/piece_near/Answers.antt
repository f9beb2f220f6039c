-- The piece holds what is asked for.
use Rattle.std.proofs.Common.{List, ℕ, take, drop, ap, ◌∙◌}
use Rattle.mc_viewer.proofs.NearLemmas.{part_kept}
use Rattle.mc_viewer.proofs.near.piece_near.Goals as goal

pub returns-in-Some-clause-shown : goal.returns-in-Some-clause-shown
returns-in-Some-clause-shown g c = λ bytes known.
    let near = c.args.near.now in
    let place = c.in-Some.place in
    c.in_ok-part.ensures.value ∙ ap (λ (l : List ℕ). take c.args.count (drop place l)) c.as_slice.ensures.value
    ∙ part_kept bytes near.bytes.items near.start place c.args.count c.args.at (c.requires.kept bytes known) c.in-Some.ensures.place c.in-Some.ensures.within
