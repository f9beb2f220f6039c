-- What the matcher finds is what the text means.
use Rattle.std.proofs.Common.{◌≡◌, Some, option_map, sym, ap, ◌∙◌}
use Rattle.regex.specs.declared.bytes.matcher.Match.{Match}
use Rattle.regex.specs.Bytes.{matcher_pattern}
use Rattle.text_search.specs.Lines.{line_place}
use Rattle.text_search.proofs.MeaningLemmas.{found_place}
use Rattle.text_search.proofs.matcher.LineMatcher.place_in.Goals as goal
use Rattle.text_search.proofs.matcher.LineMatcher.place_in.Goals.{in-Some, in-None}

pub returns-clause-place : goal.returns-clause-place
returns-clause-place c =
    let place : option_map (λ (m : Match). m.start) c.find.result ≡ line_place c.self.inside.text.now c.args.line.now =
    found_place c.self.inside.text.now (matcher_pattern c.self.inside.matcher) c.args.line.now c.self.invariant (λ k. (c.type_inv.line k).fits) c.find.result c.find.ensures.found in
    elim c.match-find.branch [
      | in-Some w ↦ w.result-is ∙ (ap Some w.start.ensures ∙ (ap (option_map (λ (m : Match). m.start)) (sym w.in-Some.is) ∙ (place ∙ ap (λ t. line_place t c.args.line.now) c.self.view_is)))
      | in-None w ↦ w.result-is ∙ (ap (option_map (λ (m : Match). m.start)) (sym w.in-None.is) ∙ (place ∙ ap (λ t. line_place t c.args.line.now) c.self.view_is))
    ]
