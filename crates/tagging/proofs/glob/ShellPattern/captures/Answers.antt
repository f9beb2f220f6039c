use Rattle.std.proofs.Common.{ap, ◌∙◌, sym, rules, if◌then◌else◌, [], ◌∷◌, List, ℕ}
use Rattle.std.specs.Str.{chars}
use Rattle.std.proofs.lemmas.List.{nil_from_length}
use Rattle.tagging.specs.Globs.{is_wild, captures_of}
use Rattle.tagging.proofs.CutLemmas.{AreCaptures-captures_of}
use Rattle.tagging.proofs.FrontLemmas.{after_captures, captures_of-front, captures_of-none, captures_of-past, captures_of-end, captures_of-unmatched, after_captures-append}
use Rattle.tagging.proofs.glob.ShellPattern.captures.Goals as goal

pub returns-then-not-matches-clause-value : goal.returns-then-not-matches-clause-value
returns-then-not-matches-clause-value c =
    sym (captures_of-unmatched c.args.self.now (chars c.args.name.now) (sym c.matches.ensures.test ∙ c.if-not-matches.true))

pub returns-in_default-front_of-clause-value : goal.returns-in_default-front_of-clause-value
returns-in_default-front_of-clause-value c =
    sym (ap (after_captures c.loop-part.captured) (captures_of-none c.in-Some.part.now c.in-Some.behind.now (chars c.loop-part.rest.now) c.in_default-front_of.ensures))
    ∙ (rw c.in-Some.ensures.cases.0 at c.loop-part.invariant.same)

pub loop-part-preserved : goal.loop-part-preserved
loop-part-preserved c =
    let next : List (List ℕ) = if is_wild c.in-Some.part.now then c.in-Some-front_of.front.now ∷ [] else [] in
    let left = captures_of c.in-Some.behind.now (chars c.in-Some-front_of.more.now) in
    record {
      text = search rules;
      same = ap (λ prefix. after_captures prefix left) c.in_ok-capture.ensures
          ∙ after_captures-append c.loop-part.captured next left
          ∙ ap (after_captures c.loop-part.captured) (sym (captures_of-front c.in-Some.part.now c.in-Some.behind.now c.loop-part.rest.now _ _ c.in-Some-front_of.ensures))
          ∙ (rw c.in-Some.ensures.cases.0 at c.loop-part.invariant.same);
    }

pub returns-in-None-clause-longest : goal.returns-in-None-clause-longest
returns-in-None-clause-longest c =
    let ended = nil_from_length _ c.in_default.ensures.cases in
    AreCaptures-captures_of c.args.self.now (chars c.args.name.now) c.loop-part.captured
    (sym (rw (ended, c.in-None.ensures.first) at c.loop-part.invariant.same) ∙ captures_of-end c.loop-part.captured)

pub returns-in-None-clause-value : goal.returns-in-None-clause-value
returns-in-None-clause-value c =
    let ended = nil_from_length _ c.in_default.ensures.cases in
    sym (captures_of-end c.loop-part.captured) ∙ (rw (ended, c.in-None.ensures.first) at c.loop-part.invariant.same)

pub returns-in-Some-first_char-clause-value : goal.returns-in-Some-first_char-clause-value
returns-in-Some-first_char-clause-value c =
    let ended = nil_from_length _ c.in_default.ensures.cases in
    sym (ap (after_captures c.loop-part.captured) (captures_of-past _ _)) ∙ (rw (ended, c.in-Some-first_char.ensures.first) at c.loop-part.invariant.same)
