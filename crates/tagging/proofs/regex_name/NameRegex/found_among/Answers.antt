use Rattle.std.proofs.Common.{◌≡◌, ap, ◌∙◌, sym, refl, subst, take, if◌then◌else◌, filter, [], ◌∷◌, ◌++◌}
use Rattle.tagging.specs.Regexes.{found_in, IsMeantBy}
use Rattle.tagging.proofs.RegexLemmas.{regex_means}
use Rattle.tagging.proofs.KeepLemmas.{filter-take_more}
use Rattle.tagging.proofs.regex_name.NameRegex.found_among.Goals as goal

pub loop-name-init : goal.loop-name-init
loop-name-init c = record {
  meant = rw (← c.self.view_is, c.in_ok-matcher.ensures.pattern) (regex_means c.self.inside.regex _ c.self.invariant.0 refl c.self.invariant.1);
  kept = c.new-found.ensures;
}

pub loop-name-preserved : goal.loop-name-preserved
loop-name-preserved c =
    let kept = take c.loop-name.name-index c.as_slice-name-items.result.now in
    let more = filter-take_more (found_in c.args.self.now) c.as_slice-name-items.result.now c.loop-name.name-index c.name-item.result c.loop-name-test.true c.name-item.is in
    let found : c.finds-is_found.result ≡ found_in c.args.self.now c.name-item.result =
    c.finds-is_found.ensures.found c.args.self.now c.loop-name.invariant.meant ∙ ap (found_in c.args.self.now) c.text.ensures.text in
    record {
      meant = subst (IsMeantBy c.args.self.now) (sym c.finds-is_found.ensures.same) c.loop-name.invariant.meant;
      kept = c.in_ok-keep_if.ensures
          ∙ ap (λ before. before ++ (if c.finds-is_found.result then c.name-item.result ∷ [] else [])) c.loop-name.invariant.kept
          ∙ ap (λ finds. filter (found_in c.args.self.now) kept ++ (if finds then c.name-item.result ∷ [] else [])) found
          ∙ sym more;
    }
