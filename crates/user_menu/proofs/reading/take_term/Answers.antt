-- A term was read, so the terms of the text are it and what stands behind it.
use Rattle.std.proofs.Common.{◌≡◌, Some, ap, ◌∙◌, sym}
use Rattle.std.proofs.lemmas.Result.{IfOk-weaker}
use Rattle.user_menu.specs.Conditions.{FirstTerm, first_term, terms_of}
use Rattle.user_menu.specs.Courses.{onto_terms, terms_at, IsBehind}
use Rattle.user_menu.specs.TermViews.{term_view}
use Rattle.user_menu.proofs.TermLemmas.{taken-no_term, taken-term, term-short, behind-further}
use Rattle.user_menu.proofs.reading.take_term.Goals as goal

pub returns-in-Some-clause-taken : goal.returns-in-Some-clause-taken
returns-in-Some-clause-taken c =
    let read : FirstTerm = record { term = c.in-Some.term; rest = c.in-Some.behind.now } in
    let is : Some read ≡ first_term c.args.kind c.args.text.now = ap term_view (sym c.in-Some.is) ∙ c.in_ok-term.ensures in
    IfOk-weaker c.take_joined.result _
    (λ course. onto_terms c.args.terms.now.items (terms_of c.args.kind c.args.joint c.args.text.now) ≡ terms_at c.args.kind c.take_joined.new.terms.items course)
    (λ course taken. taken-term c.args.kind c.args.joint c.args.text.now c.args.terms.now.items read is ∙ taken c.args.kind)
    c.take_joined.ensures.taken

pub returns-in-Some-clause-shorter : goal.returns-in-Some-clause-shorter
returns-in-Some-clause-shorter c =
    let read : FirstTerm = record { term = c.in-Some.term; rest = c.in-Some.behind.now } in
    let is : Some read ≡ first_term c.args.kind c.args.text.now = ap term_view (sym c.in-Some.is) ∙ c.in_ok-term.ensures in
    IfOk-weaker c.take_joined.result (IsBehind c.in-Some.behind.now) (IsBehind c.args.text.now)
    (λ course. behind-further c.in-Some.behind.now c.args.text.now course (term-short c.args.kind c.args.text.now read is))
    c.take_joined.ensures.shorter

pub returns-in-None-clause-taken : goal.returns-in-None-clause-taken
returns-in-None-clause-taken c =
    taken-no_term c.args.kind c.args.joint c.args.text.now c.args.terms.now.items (ap term_view (sym c.in-None.is) ∙ c.in_ok-term.ensures)
