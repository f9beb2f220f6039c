use Rattle.std.proofs.Common.{ap, ◌∙◌, sym, rules, length, drop, ◌≡◌, ℕ, List, ◌++◌}
use Rattle.std.specs.Str.{IsUtf8}
use Rattle.std.proofs.lemmas.Str.{IsCharBoundary-at_seam}
use Rattle.std.proofs.Math.Seq.{drop-append_seam}
use Rattle.tagging.proofs.FrontLemmas.{tried_nothing, tried_more, tried_all, tried_last}
use Rattle.tagging.proofs.captures.shortest_end.Goals as goal

pub loop-front-init : goal.loop-front-init
loop-front-init c = record { text = c.utf8.text; tried = tried_nothing c.args.parts.now c.args.text.now }

pub split_at-requires : goal.split_at-requires
split_at-requires c =
    let tried = c.loop-front.invariant.tried in
    IsCharBoundary-at_seam c.args.text.now c.loop-front.front.now tried.back (sym tried.joins) tried.is_text

-- the end that is tried
end_is : (text prefix end back : List ℕ) → end ≡ drop (length prefix) text → prefix ++ back ≡ text → end ≡ back
end_is text prefix end back is joins = is ∙ ap (drop (length prefix)) (sym joins) ∙ drop-append_seam prefix back

pub returns-then-matches_parts : goal.returns-then-matches_parts
returns-then-matches_parts c =
    let tried = c.loop-front.invariant.tried in
    let is = end_is c.args.text.now c.loop-front.front.now c.split_at.result.1.now tried.back c.split_at.ensures.back tried.joins in
    rw is (tried_last c.args.parts.now c.args.text.now c.loop-front.front.now c.loop-front.invariant.text tried (sym (rw is at c.if-matches_parts.ensures)))

pub returns-in_default : goal.returns-in_default
returns-in_default c =
    let tried = c.loop-front.invariant.tried in
    let is = end_is c.args.text.now c.loop-front.front.now c.split_at.result.1.now tried.back c.split_at.ensures.back tried.joins in
    tried_all c.args.parts.now c.args.text.now c.loop-front.front.now c.in_default.ensures tried (sym (rw is at c.if-matches_parts.ensures))

pub loop-front-smaller : goal.loop-front-smaller
loop-front-smaller c = c.in-Some.ensures.shorter

pub loop-front-preserved : goal.loop-front-preserved
loop-front-preserved c =
    let tried = c.loop-front.invariant.tried in
    let is = end_is c.args.text.now c.loop-front.front.now c.split_at.result.1.now tried.back c.split_at.ensures.back tried.joins in
    let is_text : IsUtf8 c.in-Some.shorter.now = search rules in
    record {
      text = is_text;
      tried = tried_more c.args.parts.now c.args.text.now c.loop-front.front.now c.in-Some.shorter.now c.loop-front.invariant.text is_text
          c.in-Some.ensures tried (sym (rw is at c.if-matches_parts.ensures));
    }
