use Rattle.std.proofs.Common.{ap, ◌∙◌, sym, rules, arith, length, ◌≡◌, ◌∷◌, encode_utf8_all}
use Rattle.std.specs.Str.{chars}
use Rattle.std.proofs.lemmas.Str.{encodes-chars}
use Rattle.std.proofs.lemmas.Result.{err_from_is_err_and}
use Rattle.tagging.specs.GlobText.{pattern_of, parts_within, after_parts}
use Rattle.tagging.proofs.ParseLemmas.{parts_within-first, parts_within-fault, after_parts-push, after_parts-nil}
use Rattle.tagging.proofs.glob.ShellPattern.parse.Goals as goal

pub loop-first-init : goal.loop-first-init
unfolding pattern_of
loop-first-init c = record { text = c.utf8.text; same = rw c.new-parts.ensures.items (after_parts-nil _); shorter = omega arith }

pub returns-in_err-part-clause-refused : goal.returns-in_err-part-clause-refused
returns-in_err-part-clause-refused c =
    let p = err_from_is_err_and c.from_residual.result c.from_residual.ensures.1 in
    let bytes : length (encode_utf8_all (c.in-Some.first ∷ chars c.in-Some.behind.now)) ≡ length c.loop-first.rest.now =
    ap (λ cs. length (encode_utf8_all cs)) (sym c.in-Some.ensures.first) ∙ ap length (encodes-chars c.loop-first.rest.now c.loop-first.invariant.text) in
    rw (p.1, p.2) (λ ne.
    let refused = rw (← bytes) at (c.in_err-part.ensures.refused ne) in
    let fault = parts_within-fault (length c.args.text.now) c.in-Some.first (chars c.in-Some.behind.now) c.in_err-part.field-0.0 refused in
    sym (rw c.in-Some.ensures.first at c.loop-first.invariant.same) ∙ ap (after_parts c.loop-first.parts.items) fault)

pub loop-first-preserved : goal.loop-first-preserved
loop-first-preserved c =
    let bytes : length (encode_utf8_all (c.in-Some.first ∷ chars c.in-Some.behind.now)) ≡ length c.loop-first.rest.now =
    ap (λ cs. length (encode_utf8_all cs)) (sym c.in-Some.ensures.first) ∙ ap length (encodes-chars c.loop-first.rest.now c.loop-first.invariant.text) in
    let read = rw (← bytes) at c.in_ok-part.ensures.read in
    let first = parts_within-first (length c.args.text.now) c.in-Some.first (chars c.in-Some.behind.now) c.in_ok-part.part (chars c.in_ok-part.more.now) read in
    let left = parts_within (length (chars c.in_ok-part.more.now)) (length c.args.text.now) (chars c.in_ok-part.more.now) in
    record {
      text = search rules;
      same = ap (λ parts. after_parts parts left) c.in_ok-push.ensures.items ∙ after_parts-push c.loop-first.parts.items c.in_ok-part.part left
          ∙ ap (after_parts c.loop-first.parts.items) (sym first) ∙ (rw c.in-Some.ensures.first at c.loop-first.invariant.same);
      shorter = omega (arith, c.in_ok-part.ensures.shrinks, c.in-Some.ensures.shorter);
    }
