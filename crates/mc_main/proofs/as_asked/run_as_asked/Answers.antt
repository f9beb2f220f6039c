-- A run is safe at each moment, what it finished stays done, the tree is what it tells, its keys are those of the bytes that were taken, and it is complete.
use Rattle.std.proofs.Common.{rules, reverse, inl, inr, refl, ◌≡◌, ◌≤◌, ◌<◌, ◌∙◌, sym, subst, ap, IsSome, Option, Some, arith}
use Rattle.tree_trait.specs.Answers.{HasRisen}
use Rattle.laws_sessions.specs.Traces.{IsTracedTo}
use Rattle.mc_desk.specs.declared.starts.Start.{Start}
use Rattle.mc_desk.specs.KeysAndFaults.{faults_in}
use Rattle.mc_main.specs.Beginnings.{asked_in, session_start, surroundings_in, status_with}
use Rattle.mc_main.specs.Statuses.{IsStatusOr}
use Rattle.mc_main.specs.KeysRead.{TookAll}
use Rattle.mc_main.proofs.Printing.{at_most_five, begins_none, below_four, completes_none, not_at, print_is, prints_it, prints_not, prints_start, put_printed, put_start, refuses_none, session_is, some_prints_not, starts_in, status_few, text_given, usage_asked}
use Rattle.mc_main.proofs.Starting.{completes, completes_by_five, may_refuse, refuses_by, refuses_listed}
use Rattle.mc_main.proofs.Taking.{reads_none}
use Rattle.mc_main.proofs.Runs.{none_counted, answered_to, calmed_to, finished_to, keeps_to, outcome_to, stays_to, replayed_to, run_in, run_shows, shows_none, safe_to, traced_none, whole_to, refused_start}
use Rattle.mc_main.proofs.as_asked.run_as_asked.Goals as goal

pub returns-in-Ok-Print-clause-keeps : goal.returns-in-Ok-Print-clause-keeps
returns-in-Ok-Print-clause-keeps g c = keeps_to _ _ _ (traced_none _ _ (reverse c.refuse.result.history.entries) (ap reverse c.refuse.ensures.empty) (ap g.T.ReadTree.contents c.refuse.ensures.tree))

pub returns-in-Err-clause-keeps : goal.returns-in-Err-clause-keeps
returns-in-Err-clause-keeps g c = keeps_to _ _ _ (traced_none _ _ (reverse c.without_session.result.history.entries) (ap reverse c.without_session.ensures.empty) (ap g.T.ReadTree.contents c.without_session.ensures.tree))

pub returns-in-Ok-clause-keeps : goal.returns-in-Ok-clause-keeps
returns-in-Ok-clause-keeps g c =
    keeps_to _ _ _ (subst (λ o. IsTracedTo o (g.T.ReadTree.contents c.run_desk.result.tree) (reverse c.run_desk.result.history.entries)) (sym c.requires.opening) c.run_desk.ensures.traced)

pub returns-clause-keeps : goal.returns-clause-keeps
returns-clause-keeps g c = keeps_to _ _ _ (traced_none _ _ (reverse c.refuse_start.result.history.entries) (ap reverse c.refuse_start.ensures.empty) (ap g.T.ReadTree.contents c.refuse_start.ensures.tree ∙ c.in-Err-begin.ensures.same))

pub returns-in-Ok-Print-clause-safe : goal.returns-in-Ok-Print-clause-safe
returns-in-Ok-Print-clause-safe g c = safe_to _ _ _ (traced_none _ _ (reverse c.refuse.result.history.entries) (ap reverse c.refuse.ensures.empty) (ap g.T.ReadTree.contents c.refuse.ensures.tree))

pub returns-in-Ok-Print-clause-finished : goal.returns-in-Ok-Print-clause-finished
returns-in-Ok-Print-clause-finished g c = finished_to _ _ _ (traced_none _ _ (reverse c.refuse.result.history.entries) (ap reverse c.refuse.ensures.empty) (ap g.T.ReadTree.contents c.refuse.ensures.tree))

pub returns-in-Ok-Print-clause-stays : goal.returns-in-Ok-Print-clause-stays
returns-in-Ok-Print-clause-stays g c = stays_to _ _ _ (traced_none _ _ (reverse c.refuse.result.history.entries) (ap reverse c.refuse.ensures.empty) (ap g.T.ReadTree.contents c.refuse.ensures.tree))

pub returns-in-Ok-Print-clause-outcome : goal.returns-in-Ok-Print-clause-outcome
returns-in-Ok-Print-clause-outcome g c = outcome_to _ _ _ (traced_none _ _ (reverse c.refuse.result.history.entries) (ap reverse c.refuse.ensures.empty) (ap g.T.ReadTree.contents c.refuse.ensures.tree))

pub returns-in-Ok-Print-clause-answered : goal.returns-in-Ok-Print-clause-answered
returns-in-Ok-Print-clause-answered g c = answered_to _ _ _ (traced_none _ _ (reverse c.refuse.result.history.entries) (ap reverse c.refuse.ensures.empty) (ap g.T.ReadTree.contents c.refuse.ensures.tree))

pub returns-in-Ok-Print-clause-whole : goal.returns-in-Ok-Print-clause-whole
returns-in-Ok-Print-clause-whole g c = whole_to _ _ _ (traced_none _ _ (reverse c.refuse.result.history.entries) (ap reverse c.refuse.ensures.empty) (ap g.T.ReadTree.contents c.refuse.ensures.tree))

pub returns-in-Ok-Print-clause-calmed : goal.returns-in-Ok-Print-clause-calmed
returns-in-Ok-Print-clause-calmed g c = calmed_to _ _ _ (traced_none _ _ (reverse c.refuse.result.history.entries) (ap reverse c.refuse.ensures.empty) (ap g.T.ReadTree.contents c.refuse.ensures.tree))

pub returns-in-Ok-Print-clause-replayed : goal.returns-in-Ok-Print-clause-replayed
returns-in-Ok-Print-clause-replayed g c = replayed_to _ _ _ (traced_none _ _ (reverse c.refuse.result.history.entries) (ap reverse c.refuse.ensures.empty) (ap g.T.ReadTree.contents c.refuse.ensures.tree))

pub returns-in-Ok-Print-clause-keys : goal.returns-in-Ok-Print-clause-keys
returns-in-Ok-Print-clause-keys g c = reads_none (g.K.Source.left c.args.keys.now) (reverse c.refuse.result.history.entries) c.refuse.result.status (ap reverse c.refuse.ensures.empty)

pub returns-in-Err-clause-safe : goal.returns-in-Err-clause-safe
returns-in-Err-clause-safe g c = safe_to _ _ _ (traced_none _ _ (reverse c.without_session.result.history.entries) (ap reverse c.without_session.ensures.empty) (ap g.T.ReadTree.contents c.without_session.ensures.tree))

pub returns-in-Err-clause-finished : goal.returns-in-Err-clause-finished
returns-in-Err-clause-finished g c = finished_to _ _ _ (traced_none _ _ (reverse c.without_session.result.history.entries) (ap reverse c.without_session.ensures.empty) (ap g.T.ReadTree.contents c.without_session.ensures.tree))

pub returns-in-Err-clause-stays : goal.returns-in-Err-clause-stays
returns-in-Err-clause-stays g c = stays_to _ _ _ (traced_none _ _ (reverse c.without_session.result.history.entries) (ap reverse c.without_session.ensures.empty) (ap g.T.ReadTree.contents c.without_session.ensures.tree))

pub returns-in-Err-clause-outcome : goal.returns-in-Err-clause-outcome
returns-in-Err-clause-outcome g c = outcome_to _ _ _ (traced_none _ _ (reverse c.without_session.result.history.entries) (ap reverse c.without_session.ensures.empty) (ap g.T.ReadTree.contents c.without_session.ensures.tree))

pub returns-in-Err-clause-answered : goal.returns-in-Err-clause-answered
returns-in-Err-clause-answered g c = answered_to _ _ _ (traced_none _ _ (reverse c.without_session.result.history.entries) (ap reverse c.without_session.ensures.empty) (ap g.T.ReadTree.contents c.without_session.ensures.tree))

pub returns-in-Err-clause-whole : goal.returns-in-Err-clause-whole
returns-in-Err-clause-whole g c = whole_to _ _ _ (traced_none _ _ (reverse c.without_session.result.history.entries) (ap reverse c.without_session.ensures.empty) (ap g.T.ReadTree.contents c.without_session.ensures.tree))

pub returns-in-Err-clause-calmed : goal.returns-in-Err-clause-calmed
returns-in-Err-clause-calmed g c = calmed_to _ _ _ (traced_none _ _ (reverse c.without_session.result.history.entries) (ap reverse c.without_session.ensures.empty) (ap g.T.ReadTree.contents c.without_session.ensures.tree))

pub returns-in-Err-clause-replayed : goal.returns-in-Err-clause-replayed
returns-in-Err-clause-replayed g c = replayed_to _ _ _ (traced_none _ _ (reverse c.without_session.result.history.entries) (ap reverse c.without_session.ensures.empty) (ap g.T.ReadTree.contents c.without_session.ensures.tree))

pub returns-in-Err-clause-keys : goal.returns-in-Err-clause-keys
returns-in-Err-clause-keys g c = reads_none (g.K.Source.left c.args.keys.now) (reverse c.without_session.result.history.entries) c.without_session.result.status (ap reverse c.without_session.ensures.empty)

pub returns-in-Ok-clause-safe : goal.returns-in-Ok-clause-safe
returns-in-Ok-clause-safe g c =
    safe_to _ _ _ (subst (λ o. IsTracedTo o (g.T.ReadTree.contents c.run_desk.result.tree) (reverse c.run_desk.result.history.entries)) (sym c.requires.opening) c.run_desk.ensures.traced)

pub returns-in-Ok-clause-finished : goal.returns-in-Ok-clause-finished
returns-in-Ok-clause-finished g c =
    finished_to _ _ _ (subst (λ o. IsTracedTo o (g.T.ReadTree.contents c.run_desk.result.tree) (reverse c.run_desk.result.history.entries)) (sym c.requires.opening) c.run_desk.ensures.traced)

pub returns-in-Ok-clause-stays : goal.returns-in-Ok-clause-stays
returns-in-Ok-clause-stays g c =
    stays_to _ _ _ (subst (λ o. IsTracedTo o (g.T.ReadTree.contents c.run_desk.result.tree) (reverse c.run_desk.result.history.entries)) (sym c.requires.opening) c.run_desk.ensures.traced)

pub returns-in-Ok-clause-outcome : goal.returns-in-Ok-clause-outcome
returns-in-Ok-clause-outcome g c =
    outcome_to _ _ _ (subst (λ o. IsTracedTo o (g.T.ReadTree.contents c.run_desk.result.tree) (reverse c.run_desk.result.history.entries)) (sym c.requires.opening) c.run_desk.ensures.traced)

pub returns-in-Ok-clause-answered : goal.returns-in-Ok-clause-answered
returns-in-Ok-clause-answered g c =
    answered_to _ _ _ (subst (λ o. IsTracedTo o (g.T.ReadTree.contents c.run_desk.result.tree) (reverse c.run_desk.result.history.entries)) (sym c.requires.opening) c.run_desk.ensures.traced)

pub returns-in-Ok-clause-whole : goal.returns-in-Ok-clause-whole
returns-in-Ok-clause-whole g c =
    whole_to _ _ _ (subst (λ o. IsTracedTo o (g.T.ReadTree.contents c.run_desk.result.tree) (reverse c.run_desk.result.history.entries)) (sym c.requires.opening) c.run_desk.ensures.traced)

pub returns-in-Ok-clause-calmed : goal.returns-in-Ok-clause-calmed
returns-in-Ok-clause-calmed g c =
    calmed_to _ _ _ (subst (λ o. IsTracedTo o (g.T.ReadTree.contents c.run_desk.result.tree) (reverse c.run_desk.result.history.entries)) (sym c.requires.opening) c.run_desk.ensures.traced)

pub returns-in-Ok-clause-replayed : goal.returns-in-Ok-clause-replayed
returns-in-Ok-clause-replayed g c =
    replayed_to _ _ _ (subst (λ o. IsTracedTo o (g.T.ReadTree.contents c.run_desk.result.tree) (reverse c.run_desk.result.history.entries)) (sym c.requires.opening) c.run_desk.ensures.traced)

pub returns-clause-safe : goal.returns-clause-safe
returns-clause-safe g c = safe_to _ _ _ (traced_none _ _ (reverse c.refuse_start.result.history.entries) (ap reverse c.refuse_start.ensures.empty) (ap g.T.ReadTree.contents c.refuse_start.ensures.tree ∙ c.in-Err-begin.ensures.same))

pub returns-clause-finished : goal.returns-clause-finished
returns-clause-finished g c = finished_to _ _ _ (traced_none _ _ (reverse c.refuse_start.result.history.entries) (ap reverse c.refuse_start.ensures.empty) (ap g.T.ReadTree.contents c.refuse_start.ensures.tree ∙ c.in-Err-begin.ensures.same))

pub returns-clause-stays : goal.returns-clause-stays
returns-clause-stays g c = stays_to _ _ _ (traced_none _ _ (reverse c.refuse_start.result.history.entries) (ap reverse c.refuse_start.ensures.empty) (ap g.T.ReadTree.contents c.refuse_start.ensures.tree ∙ c.in-Err-begin.ensures.same))

pub returns-clause-outcome : goal.returns-clause-outcome
returns-clause-outcome g c = outcome_to _ _ _ (traced_none _ _ (reverse c.refuse_start.result.history.entries) (ap reverse c.refuse_start.ensures.empty) (ap g.T.ReadTree.contents c.refuse_start.ensures.tree ∙ c.in-Err-begin.ensures.same))

pub returns-clause-answered : goal.returns-clause-answered
returns-clause-answered g c = answered_to _ _ _ (traced_none _ _ (reverse c.refuse_start.result.history.entries) (ap reverse c.refuse_start.ensures.empty) (ap g.T.ReadTree.contents c.refuse_start.ensures.tree ∙ c.in-Err-begin.ensures.same))

pub returns-clause-whole : goal.returns-clause-whole
returns-clause-whole g c = whole_to _ _ _ (traced_none _ _ (reverse c.refuse_start.result.history.entries) (ap reverse c.refuse_start.ensures.empty) (ap g.T.ReadTree.contents c.refuse_start.ensures.tree ∙ c.in-Err-begin.ensures.same))

pub returns-clause-calmed : goal.returns-clause-calmed
returns-clause-calmed g c = calmed_to _ _ _ (traced_none _ _ (reverse c.refuse_start.result.history.entries) (ap reverse c.refuse_start.ensures.empty) (ap g.T.ReadTree.contents c.refuse_start.ensures.tree ∙ c.in-Err-begin.ensures.same))

pub returns-clause-replayed : goal.returns-clause-replayed
returns-clause-replayed g c = replayed_to _ _ _ (traced_none _ _ (reverse c.refuse_start.result.history.entries) (ap reverse c.refuse_start.ensures.empty) (ap g.T.ReadTree.contents c.refuse_start.ensures.tree ∙ c.in-Err-begin.ensures.same))

pub returns-clause-keys : goal.returns-clause-keys
returns-clause-keys g c = reads_none (g.K.Source.left c.args.keys.now) (reverse c.refuse_start.result.history.entries) c.refuse_start.result.status (ap reverse c.refuse_start.ensures.empty)

pub returns-clause-complete : goal.returns-clause-complete
returns-clause-complete g c log known =
    refused_start log (session_start (surroundings_in c.args.env.now) (asked_in c.args.env.now.folder c.args.words.now)) c.refuse_start.result.status _ _ _ _ (λ two. may_refuse log (session_start (surroundings_in c.args.env.now) (asked_in c.args.env.now.folder c.args.words.now)) c.in-Ok-Session.start c.in-Err-begin.refused.error (g.T.ReadTree.fault_count c.args.tree) (g.T.ReadTree.fault_count c.refuse_start.result.tree) (starts_in (surroundings_in c.args.env.now) (asked_in c.args.env.now.folder c.args.words.now) c.in-Ok-Session.start c.in-Ok-Session.typed (session_is (surroundings_in c.args.env.now) (asked_in c.args.env.now.folder c.args.words.now) c.in-Ok-Session.field-0 c.in-Ok-Session.start c.in-Ok-Session.typed c.in-Ok-Session.ensures c.in-Ok-Session.field-0-is))
    (c.refuse_start.ensures.cause two) (c.in-Err-begin.ensures.cause log known)
    (λ fault. subst (λ t. HasRisen (g.T.ReadTree.fault_count c.args.tree) (g.T.ReadTree.fault_count t)) (sym c.refuse_start.ensures.tree) (c.in-Err-begin.ensures.fault fault))) c.refuse_start.ensures.status (λ four. search rules)

pub begin-requires-clause-start : goal.begin-requires-clause-start
begin-requires-clause-start g c known is =
    let starts : session_start (surroundings_in c.args.env.now) (asked_in c.args.env.now.folder c.args.words.now) ≡ Some c.in-Ok-Session.start = starts_in (surroundings_in c.args.env.now) (asked_in c.args.env.now.folder c.args.words.now) c.in-Ok-Session.start c.in-Ok-Session.typed (session_is (surroundings_in c.args.env.now) (asked_in c.args.env.now.folder c.args.words.now) c.in-Ok-Session.field-0 c.in-Ok-Session.start c.in-Ok-Session.typed c.in-Ok-Session.ensures c.in-Ok-Session.field-0-is) in
    let both : Some known ≡ Some c.in-Ok-Session.start = sym is ∙ (c.requires.start ∙ starts) in cc

pub returns-in-Ok-clause-session : goal.returns-in-Ok-clause-session
returns-in-Ok-clause-session g c =
    let starts : session_start (surroundings_in c.args.env.now) (asked_in c.args.env.now.folder c.args.words.now) ≡ Some c.in-Ok-Session.start = starts_in (surroundings_in c.args.env.now) (asked_in c.args.env.now.folder c.args.words.now) c.in-Ok-Session.start c.in-Ok-Session.typed (session_is (surroundings_in c.args.env.now) (asked_in c.args.env.now.folder c.args.words.now) c.in-Ok-Session.field-0 c.in-Ok-Session.start c.in-Ok-Session.typed c.in-Ok-Session.ensures c.in-Ok-Session.field-0-is) in
    inl (
      subst (λ (o : Option Start). IsSome o) (sym starts) refl,
      run_in g.N.Tag.start (session_start (surroundings_in c.args.env.now) (asked_in c.args.env.now.folder c.args.words.now)) g.N.Tag.opening (g.T.ReadTree.contents c.args.tree) g.N.Tag.tree_faults (g.T.ReadTree.fault_count c.args.tree) c.run_desk.result.status
          (reverse c.run_desk.result.history.entries) (g.T.ReadTree.contents c.run_desk.result.tree) g.N.Tag.stream (g.K.Source.left c.args.keys.now) (g.K.Source.left c.run_desk.new.keys) g.N.Tag.given (g.S.Sink.given c.args.screen) (g.S.Sink.given c.run_desk.result.screen) c.requires.start c.requires.opening
          c.requires.faults c.requires.stream c.requires.given c.run_desk.ensures.session,
    )

pub returns-in-Ok-clause-shown : goal.returns-in-Ok-clause-shown
returns-in-Ok-clause-shown g c =
    run_shows (session_start (surroundings_in c.args.env.now) (asked_in c.args.env.now.folder c.args.words.now)) (g.T.ReadTree.contents c.args.tree) (g.T.ReadTree.fault_count c.args.tree) c.run_desk.result.status (reverse c.run_desk.result.history.entries) (g.T.ReadTree.contents c.run_desk.result.tree)
    (TookAll (g.K.Source.left c.args.keys.now) (g.K.Source.left c.run_desk.new.keys)) (g.S.Sink.given c.args.screen) (g.S.Sink.given c.run_desk.result.screen)
    (run_in g.N.Tag.start (session_start (surroundings_in c.args.env.now) (asked_in c.args.env.now.folder c.args.words.now)) g.N.Tag.opening (g.T.ReadTree.contents c.args.tree) g.N.Tag.tree_faults (g.T.ReadTree.fault_count c.args.tree) c.run_desk.result.status
    (reverse c.run_desk.result.history.entries) (g.T.ReadTree.contents c.run_desk.result.tree) g.N.Tag.stream (g.K.Source.left c.args.keys.now) (g.K.Source.left c.run_desk.new.keys) g.N.Tag.given (g.S.Sink.given c.args.screen)
    (g.S.Sink.given c.run_desk.result.screen) c.requires.start c.requires.opening c.requires.faults c.requires.stream c.requires.given c.run_desk.ensures.session)

pub returns-in-Ok-Print-clause-shown : goal.returns-in-Ok-Print-clause-shown
returns-in-Ok-Print-clause-shown g c = shows_none _ _ _ _ (reverse c.refuse.result.history.entries) _ (ap reverse c.refuse.ensures.empty)

pub returns-in-Err-clause-shown : goal.returns-in-Err-clause-shown
returns-in-Err-clause-shown g c = shows_none _ _ _ _ (reverse c.without_session.result.history.entries) _ (ap reverse c.without_session.ensures.empty)

pub returns-clause-shown : goal.returns-clause-shown
returns-clause-shown g c = shows_none _ _ _ _ (reverse c.refuse_start.result.history.entries) _ (ap reverse c.refuse_start.ensures.empty)

pub returns-in-Ok-clause-keys : goal.returns-in-Ok-clause-keys
returns-in-Ok-clause-keys g c bytes known = c.run_desk.ensures.keys bytes (sym c.requires.stream ∙ known)

pub returns-in-Ok-clause-faults : goal.returns-in-Ok-clause-faults
returns-in-Ok-clause-faults g c =
    subst (λ n. faults_in n (reverse c.run_desk.result.history.entries) ≤ g.T.ReadTree.fault_count c.run_desk.result.tree) c.requires.faults c.run_desk.ensures.faults

pub returns-in-Ok-clause-commands : goal.returns-in-Ok-clause-commands
returns-in-Ok-clause-commands g c = record { ran = c.run_desk.ensures.commands.ran ∙ sym c.requires.runs; failed = c.run_desk.ensures.commands.failed ∙ sym c.requires.spawner }

pub returns-in-Ok-Print-clause-faults : goal.returns-in-Ok-Print-clause-faults
returns-in-Ok-Print-clause-faults g c = none_counted _ _ (reverse c.refuse.result.history.entries) (ap reverse c.refuse.ensures.empty) (let same = ap g.T.ReadTree.fault_count c.refuse.ensures.tree in omega (arith, same))

pub returns-in-Err-clause-faults : goal.returns-in-Err-clause-faults
returns-in-Err-clause-faults g c =
    none_counted _ _ (reverse c.without_session.result.history.entries) (ap reverse c.without_session.ensures.empty) (let same = ap g.T.ReadTree.fault_count c.without_session.ensures.tree in omega (arith, same))

pub returns-clause-faults : goal.returns-clause-faults
returns-clause-faults g c =
    none_counted _ _ (reverse c.refuse_start.result.history.entries) (ap reverse c.refuse_start.ensures.empty)
    (let same = ap g.T.ReadTree.fault_count c.refuse_start.ensures.tree in let later = c.in-Err-begin.ensures.later in omega (arith, same, later))

pub returns-in-Ok-Print-clause-commands : goal.returns-in-Ok-Print-clause-commands
returns-in-Ok-Print-clause-commands g c = record { ran = ap g.P.Spawner.runs c.refuse.ensures.spawner; failed = ap g.P.Spawner.fault_count c.refuse.ensures.spawner }

pub returns-in-Err-clause-commands : goal.returns-in-Err-clause-commands
returns-in-Err-clause-commands g c = record { ran = ap g.P.Spawner.runs c.without_session.ensures.spawner; failed = ap g.P.Spawner.fault_count c.without_session.ensures.spawner }

pub returns-clause-commands : goal.returns-clause-commands
returns-clause-commands g c =
    let same = c.refuse_start.ensures.spawner ∙ c.in-Err-begin.ensures.same_spawner in
    record { ran = ap g.P.Spawner.runs same; failed = ap g.P.Spawner.fault_count same }

pub returns-clause-start_line : goal.returns-clause-start_line
returns-clause-start_line g c two before known =
    prints_start (g.T.ReadTree.contents c.args.tree) (surroundings_in c.args.env.now) (asked_in c.args.env.now.folder c.args.words.now) c.in-Ok-Session.start c.in-Ok-Session.typed c.in-Err-begin.refused.error (g.T.ReadTree.fault_count c.args.tree) (g.T.ReadTree.fault_count c.refuse_start.result.tree) before (g.S.Sink.given c.refuse_start.result.screen) (session_is (surroundings_in c.args.env.now) (asked_in c.args.env.now.folder c.args.words.now) c.in-Ok-Session.field-0 c.in-Ok-Session.start c.in-Ok-Session.typed c.in-Ok-Session.ensures c.in-Ok-Session.field-0-is) (c.refuse_start.ensures.cause two)
    c.in-Err-begin.ensures.cause (λ faulty. subst (HasRisen (g.T.ReadTree.fault_count c.args.tree)) (sym (ap g.T.ReadTree.fault_count c.refuse_start.ensures.tree)) (c.in-Err-begin.ensures.fault faulty))
    (c.refuse_start.ensures.line two before (ap g.S.Sink.given c.in-Err-begin.ensures.same_screen ∙ known))

pub returns-in-Ok-Print-clause-usage : goal.returns-in-Ok-Print-clause-usage
returns-in-Ok-Print-clause-usage g c one =
    usage_asked (asked_in c.args.env.now.folder c.args.words.now) c.in-Ok-Print.printed c.refuse.result.status (print_is (surroundings_in c.args.env.now) (asked_in c.args.env.now.folder c.args.words.now) c.in-Ok-Print.field-0 c.in-Ok-Print.printed c.in-Ok-Print.ensures c.in-Ok-Print.field-0-is) (subst (λ n. IsStatusOr n c.refuse.result.status) c.status-status.ensures.value c.refuse.ensures.status) one

pub returns-in-Ok-Print-clause-prints : goal.returns-in-Ok-Print-clause-prints
returns-in-Ok-Print-clause-prints g c other known =
    prints_it (asked_in c.args.env.now.folder c.args.words.now) c.in-Ok-Print.printed other c.refuse.result.status (print_is (surroundings_in c.args.env.now) (asked_in c.args.env.now.folder c.args.words.now) c.in-Ok-Print.field-0 c.in-Ok-Print.printed c.in-Ok-Print.ensures c.in-Ok-Print.field-0-is) known (subst (λ n. IsStatusOr n c.refuse.result.status) c.status-status.ensures.value c.refuse.ensures.status)

pub returns-in-Ok-Print-clause-printed_text : goal.returns-in-Ok-Print-clause-printed_text
returns-in-Ok-Print-clause-printed_text g c other known own before given =
    text_given (asked_in c.args.env.now.folder c.args.words.now) c.in-Ok-Print.printed other before c.text-text.result.now (g.S.Sink.given c.refuse.result.screen) (print_is (surroundings_in c.args.env.now) (asked_in c.args.env.now.folder c.args.words.now) c.in-Ok-Print.field-0 c.in-Ok-Print.printed c.in-Ok-Print.ensures c.in-Ok-Print.field-0-is) known c.text-text.ensures
    (c.refuse.ensures.line (below_four (asked_in c.args.env.now.folder c.args.words.now) c.in-Ok-Print.printed other c.refuse.result.status (print_is (surroundings_in c.args.env.now) (asked_in c.args.env.now.folder c.args.words.now) c.in-Ok-Print.field-0 c.in-Ok-Print.printed c.in-Ok-Print.ensures c.in-Ok-Print.field-0-is) known (subst (λ n. n < 2) c.status-status.ensures.value c.status-status.ensures.few) own) before given)

pub returns-in-Ok-Print-clause-untouched : goal.returns-in-Ok-Print-clause-untouched
returns-in-Ok-Print-clause-untouched g c some =
    (c.refuse.ensures.tree, c.refuse.ensures.empty)

pub returns-in-Ok-Print-clause-session : goal.returns-in-Ok-Print-clause-session
returns-in-Ok-Print-clause-session g c =
    let is = print_is (surroundings_in c.args.env.now) (asked_in c.args.env.now.folder c.args.words.now) c.in-Ok-Print.field-0 c.in-Ok-Print.printed c.in-Ok-Print.ensures c.in-Ok-Print.field-0-is in
    inr (
      ap reverse c.refuse.ensures.empty,
      begins_none (asked_in c.args.env.now.folder c.args.words.now) c.in-Ok-Print.printed c.refuse.result.status is (subst (λ n. IsStatusOr n c.refuse.result.status) c.status-status.ensures.value c.refuse.ensures.status),
      λ before known. put_printed (g.T.ReadTree.contents c.args.tree) (surroundings_in c.args.env.now) (asked_in c.args.env.now.folder c.args.words.now) c.in-Ok-Print.printed before c.text-text.result.now (g.S.Sink.given c.refuse.result.screen) is c.text-text.ensures (c.refuse.ensures.put before known),
    )

pub returns-in-Ok-Print-clause-start : goal.returns-in-Ok-Print-clause-start
returns-in-Ok-Print-clause-start g c two =
    absurd (not_at (status_with c.in-Ok-Print.printed) c.refuse.result.status 2 (subst (λ n. n < 2) c.status-status.ensures.value c.status-status.ensures.few) (omega arith) (omega arith) (subst (λ n. IsStatusOr n c.refuse.result.status) c.status-status.ensures.value c.refuse.ensures.status) two)

pub returns-in-Ok-Print-clause-start_line : goal.returns-in-Ok-Print-clause-start_line
returns-in-Ok-Print-clause-start_line g c two =
    absurd (not_at (status_with c.in-Ok-Print.printed) c.refuse.result.status 2 (subst (λ n. n < 2) c.status-status.ensures.value c.status-status.ensures.few) (omega arith) (omega arith) (subst (λ n. IsStatusOr n c.refuse.result.status) c.status-status.ensures.value c.refuse.ensures.status) two)

pub returns-in-Ok-Print-clause-keyboard : goal.returns-in-Ok-Print-clause-keyboard
returns-in-Ok-Print-clause-keyboard g c three =
    absurd (not_at (status_with c.in-Ok-Print.printed) c.refuse.result.status 3 (subst (λ n. n < 2) c.status-status.ensures.value c.status-status.ensures.few) (omega arith) (omega arith) (subst (λ n. IsStatusOr n c.refuse.result.status) c.status-status.ensures.value c.refuse.ensures.status) three)

pub returns-in-Ok-Print-clause-screen : goal.returns-in-Ok-Print-clause-screen
returns-in-Ok-Print-clause-screen g c four =
    c.refuse.ensures.screen (λ own. let few = c.status-status.ensures.few in absurd (omega (arith, few, own))) four

pub returns-in-Ok-Print-clause-refuses_start : goal.returns-in-Ok-Print-clause-refuses_start
returns-in-Ok-Print-clause-refuses_start g c log known =
    refuses_none log (surroundings_in c.args.env.now) (asked_in c.args.env.now.folder c.args.words.now) c.in-Ok-Print.printed c.refuse.result.status (print_is (surroundings_in c.args.env.now) (asked_in c.args.env.now.folder c.args.words.now) c.in-Ok-Print.field-0 c.in-Ok-Print.printed c.in-Ok-Print.ensures c.in-Ok-Print.field-0-is)

pub returns-in-Ok-Print-clause-complete : goal.returns-in-Ok-Print-clause-complete
returns-in-Ok-Print-clause-complete g c log known =
    completes_none log (surroundings_in c.args.env.now) (asked_in c.args.env.now.folder c.args.words.now) c.in-Ok-Print.printed c.refuse.result.status _ (print_is (surroundings_in c.args.env.now) (asked_in c.args.env.now.folder c.args.words.now) c.in-Ok-Print.field-0 c.in-Ok-Print.printed c.in-Ok-Print.ensures c.in-Ok-Print.field-0-is)

pub returns-in-Ok-Print-clause-statuses : goal.returns-in-Ok-Print-clause-statuses
returns-in-Ok-Print-clause-statuses g c =
    at_most_five (status_with c.in-Ok-Print.printed) c.refuse.result.status (subst (λ n. n < 2) c.status-status.ensures.value c.status-status.ensures.few) (subst (λ n. IsStatusOr n c.refuse.result.status) c.status-status.ensures.value c.refuse.ensures.status)

pub returns-in-Err-clause-prints : goal.returns-in-Err-clause-prints
returns-in-Err-clause-prints g c other known =
    inr (inr c.without_session.ensures.status)

pub returns-in-Err-clause-printed_text : goal.returns-in-Err-clause-printed_text
returns-in-Err-clause-printed_text g c other known own =
    absurd (let few = status_few other in let five = c.without_session.ensures.status in omega (arith, few, five, own))

pub returns-in-Err-clause-untouched : goal.returns-in-Err-clause-untouched
returns-in-Err-clause-untouched g c some =
    (c.without_session.ensures.tree, c.without_session.ensures.empty)

pub returns-in-Err-clause-session : goal.returns-in-Err-clause-session
returns-in-Err-clause-session g c =
    inr (ap reverse c.without_session.ensures.empty, inr (inr (inr (inr c.without_session.ensures.status))), λ before known. inl (ap g.S.Sink.given c.without_session.ensures.screen ∙ known))

pub returns-in-Err-clause-refuses_start : goal.returns-in-Err-clause-refuses_start
returns-in-Err-clause-refuses_start g c log known =
    refuses_by log (session_start (surroundings_in c.args.env.now) (asked_in c.args.env.now.folder c.args.words.now)) c.without_session.result.status (inr (inr c.without_session.ensures.status))

pub returns-in-Err-clause-complete : goal.returns-in-Err-clause-complete
returns-in-Err-clause-complete g c log known =
    completes_by_five log (session_start (surroundings_in c.args.env.now) (asked_in c.args.env.now.folder c.args.words.now)) c.without_session.result.status _ c.without_session.ensures.status

pub returns-in-Ok-clause-prints : goal.returns-in-Ok-clause-prints
returns-in-Ok-clause-prints g c other known =
    prints_not (surroundings_in c.args.env.now) (asked_in c.args.env.now.folder c.args.words.now) c.in-Ok-Session.start c.in-Ok-Session.typed other (session_is (surroundings_in c.args.env.now) (asked_in c.args.env.now.folder c.args.words.now) c.in-Ok-Session.field-0 c.in-Ok-Session.start c.in-Ok-Session.typed c.in-Ok-Session.ensures c.in-Ok-Session.field-0-is) known

pub returns-in-Ok-clause-printed_text : goal.returns-in-Ok-clause-printed_text
returns-in-Ok-clause-printed_text g c other known =
    prints_not (surroundings_in c.args.env.now) (asked_in c.args.env.now.folder c.args.words.now) c.in-Ok-Session.start c.in-Ok-Session.typed other (session_is (surroundings_in c.args.env.now) (asked_in c.args.env.now.folder c.args.words.now) c.in-Ok-Session.field-0 c.in-Ok-Session.start c.in-Ok-Session.typed c.in-Ok-Session.ensures c.in-Ok-Session.field-0-is) known

pub returns-in-Ok-clause-untouched : goal.returns-in-Ok-clause-untouched
returns-in-Ok-clause-untouched g c some =
    some_prints_not (surroundings_in c.args.env.now) (asked_in c.args.env.now.folder c.args.words.now) c.in-Ok-Session.start c.in-Ok-Session.typed (session_is (surroundings_in c.args.env.now) (asked_in c.args.env.now.folder c.args.words.now) c.in-Ok-Session.field-0 c.in-Ok-Session.start c.in-Ok-Session.typed c.in-Ok-Session.ensures c.in-Ok-Session.field-0-is) some

pub returns-in-Ok-clause-refuses_start : goal.returns-in-Ok-clause-refuses_start
returns-in-Ok-clause-refuses_start g c log known =
    refuses_listed log (session_start (surroundings_in c.args.env.now) (asked_in c.args.env.now.folder c.args.words.now)) c.in-Ok-Session.start c.run_desk.result.status (starts_in (surroundings_in c.args.env.now) (asked_in c.args.env.now.folder c.args.words.now) c.in-Ok-Session.start c.in-Ok-Session.typed (session_is (surroundings_in c.args.env.now) (asked_in c.args.env.now.folder c.args.words.now) c.in-Ok-Session.field-0 c.in-Ok-Session.start c.in-Ok-Session.typed c.in-Ok-Session.ensures c.in-Ok-Session.field-0-is)) (c.in-Ok.ensures.permitted log known)

pub returns-in-Ok-clause-complete : goal.returns-in-Ok-clause-complete
returns-in-Ok-clause-complete g c log known =
    completes log (session_start (surroundings_in c.args.env.now) (asked_in c.args.env.now.folder c.args.words.now)) c.run_desk.result.status _ _ _ c.run_desk.ensures.statuses c.run_desk.ensures.not_usage c.run_desk.ensures.not_start (λ three. search rules) (λ four. search rules)

pub returns-clause-prints : goal.returns-clause-prints
returns-clause-prints g c other known =
    prints_not (surroundings_in c.args.env.now) (asked_in c.args.env.now.folder c.args.words.now) c.in-Ok-Session.start c.in-Ok-Session.typed other (session_is (surroundings_in c.args.env.now) (asked_in c.args.env.now.folder c.args.words.now) c.in-Ok-Session.field-0 c.in-Ok-Session.start c.in-Ok-Session.typed c.in-Ok-Session.ensures c.in-Ok-Session.field-0-is) known

pub returns-clause-printed_text : goal.returns-clause-printed_text
returns-clause-printed_text g c other known =
    prints_not (surroundings_in c.args.env.now) (asked_in c.args.env.now.folder c.args.words.now) c.in-Ok-Session.start c.in-Ok-Session.typed other (session_is (surroundings_in c.args.env.now) (asked_in c.args.env.now.folder c.args.words.now) c.in-Ok-Session.field-0 c.in-Ok-Session.start c.in-Ok-Session.typed c.in-Ok-Session.ensures c.in-Ok-Session.field-0-is) known

pub returns-clause-untouched : goal.returns-clause-untouched
returns-clause-untouched g c some =
    some_prints_not (surroundings_in c.args.env.now) (asked_in c.args.env.now.folder c.args.words.now) c.in-Ok-Session.start c.in-Ok-Session.typed (session_is (surroundings_in c.args.env.now) (asked_in c.args.env.now.folder c.args.words.now) c.in-Ok-Session.field-0 c.in-Ok-Session.start c.in-Ok-Session.typed c.in-Ok-Session.ensures c.in-Ok-Session.field-0-is) some

pub returns-clause-session : goal.returns-clause-session
returns-clause-session g c =
    inr (
      ap reverse c.refuse_start.ensures.empty,
      inr (inr c.refuse_start.ensures.status),
      λ before known. put_start (g.T.ReadTree.contents c.args.tree) (surroundings_in c.args.env.now) (asked_in c.args.env.now.folder c.args.words.now) c.in-Ok-Session.start c.in-Ok-Session.typed c.in-Err-begin.refused.error before (g.S.Sink.given c.refuse_start.result.screen)
          (session_is (surroundings_in c.args.env.now) (asked_in c.args.env.now.folder c.args.words.now) c.in-Ok-Session.field-0 c.in-Ok-Session.start c.in-Ok-Session.typed c.in-Ok-Session.ensures c.in-Ok-Session.field-0-is) c.in-Err-begin.ensures.cause
          (c.refuse_start.ensures.put before (ap g.S.Sink.given c.in-Err-begin.ensures.same_screen ∙ known)),
    )

pub returns-clause-start : goal.returns-clause-start
returns-clause-start g c two log known =
    may_refuse log (session_start (surroundings_in c.args.env.now) (asked_in c.args.env.now.folder c.args.words.now)) c.in-Ok-Session.start c.in-Err-begin.refused.error (g.T.ReadTree.fault_count c.args.tree) (g.T.ReadTree.fault_count c.refuse_start.result.tree) (starts_in (surroundings_in c.args.env.now) (asked_in c.args.env.now.folder c.args.words.now) c.in-Ok-Session.start c.in-Ok-Session.typed (session_is (surroundings_in c.args.env.now) (asked_in c.args.env.now.folder c.args.words.now) c.in-Ok-Session.field-0 c.in-Ok-Session.start c.in-Ok-Session.typed c.in-Ok-Session.ensures c.in-Ok-Session.field-0-is))
    (c.refuse_start.ensures.cause two) (c.in-Err-begin.ensures.cause log known)
    (λ fault. subst (λ t. HasRisen (g.T.ReadTree.fault_count c.args.tree) (g.T.ReadTree.fault_count t)) (sym c.refuse_start.ensures.tree) (c.in-Err-begin.ensures.fault fault))

pub returns-clause-refuses_start : goal.returns-clause-refuses_start
returns-clause-refuses_start g c log known =
    refuses_by log (session_start (surroundings_in c.args.env.now) (asked_in c.args.env.now.folder c.args.words.now)) c.refuse_start.result.status c.refuse_start.ensures.status
