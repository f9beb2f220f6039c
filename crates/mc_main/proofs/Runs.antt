-- What a run promises, from what its session does, or where none began.
use Rattle.std.proofs.Common.{◌≡◌, ◌⊎◌, ◌≤◌, ℕ, Bool, true, List, [], refl, sym, subst, inl, inr, Option, Some, None, ◌∷◌, ◌++◌, ◌∙◌}
use Rattle.mc_text.specs.Routes.{Route}
use Rattle.tree_trait.specs.Change.{CallLog, current}
use Rattle.tree_trait.specs.Answers.{IfKnown, HasRisen}
use Rattle.session_entries.specs.declared.history.Entry.{Entry}
use Rattle.session_entries.specs.LiveJobs.{IsLivePart, live_jobs}
use Rattle.laws_sessions.specs.Traces.{IsTraced, IsTracedTo, at_rest}
use Rattle.laws_sessions.proofs.Calmed.{calm_law}
use Rattle.laws_sessions.proofs.Done.{done_law}
use Rattle.laws_sessions.proofs.Histories.{traced_reached}
use Rattle.laws_sessions.proofs.ModesStay.{stays_law}
use Rattle.laws_sessions.proofs.Moments.{replay_law, session_law}
use Rattle.laws_sessions.proofs.WholeMoments.{whole_law}
use Rattle.laws_outcomes.proofs.AnswersLaw.{answered_law}
use Rattle.laws_outcomes.proofs.CutKeeps.{keeps_law}
use Rattle.laws_outcomes.proofs.UntouchedSteps.{kept_law, untouched_law}
use Rattle.laws_outcomes.proofs.Outcome.{outcome_law}
use Rattle.laws_outcomes.proofs.Together.{all_sources_law}
use Rattle.mc_desk.specs.declared.starts.Start.{Start}
use Rattle.mc_desk.specs.Sessions.{EndsSession}
use Rattle.mc_desk.specs.DeskDevices.{HasGiven, put_since}
use Rattle.mc_desk.specs.KeysAndFaults.{faults_in}
use Rattle.mc_desk.proofs.Seeing.{session_shows}
use Rattle.mc_desk.proofs.Terminals.{since_is}
use Rattle.mc_main.specs.declared.session.SessionEnd.{SessionEnd}
use Rattle.mc_main.specs.declared.session.SessionEnd.TheVariants.{Quit, KeysEnded}
use Rattle.mc_main.proofs.Starting.{can_read}
use Rattle.mc_main.specs.Headline.{IsCalmedRun, IsFinishedRun, IsKeepingRun, IsReplayedRun, IsSafeRun, IsStayingRun, IsWholeRun}
use Rattle.mc_main.specs.OutcomeRuns.{IsAnsweredRun, IsOutcomeRun}
use Rattle.mc_main.specs.KeysRead.{IsCut, TookAll}
use Rattle.mc_main.specs.SessionRuns.{ShowsRun, RanSession}
use Rattle.mc_main.specs.Statuses.{IsStatusOf, IsStatusOr}
use Rattle.mc_main.specs.StartRefusals.{MayRefuseStart, IsComplete}

-- the trace of a tree that tells
told_trace : (o contents : Option CallLog) (newest : List Entry) (opening now : CallLog) → o ≡ Some opening → contents ≡ Some now → IsTracedTo o contents newest → (dirty : List Route) × IsTraced opening newest (at_rest dirty) now
told_trace o contents newest opening now o_is is traced =
    let t = subst (λ x. IsTracedTo x contents newest) o_is traced in
    let same : t.0 ≡ now = let a = t.2 in let b = is in cc in
    (t.1, subst (λ l. IsTraced opening newest (at_rest t.1) l) same t.3)

-- a power cut keeps the files
pub keeps_to : (o contents : Option CallLog) (newest : List Entry) → IsTracedTo o contents newest → IfKnown o (λ opening. IfKnown contents (λ now. IsKeepingRun opening now newest))
keeps_to o contents newest traced opening o_is now is tree settled =
    let t = told_trace o contents newest opening now o_is is traced in
    keeps_law opening now newest (at_rest t.0) tree settled t.1

-- a run is safe at each moment
pub safe_to : (o contents : Option CallLog) (newest : List Entry) → IsTracedTo o contents newest → IfKnown o (λ opening. IfKnown contents (λ now. IsSafeRun opening now newest))
safe_to o contents newest traced opening o_is now is tree settled standing coming calls image moment left =
    let t = told_trace o contents newest opening now o_is is traced in session_law opening now newest standing coming (at_rest t.0) calls image tree settled t.1 moment left

-- and a thing that is moved is whole
pub whole_to : (o contents : Option CallLog) (newest : List Entry) → IsTracedTo o contents newest → IfKnown o (λ opening. IfKnown contents (λ now. IsWholeRun opening now newest))
whole_to o contents newest traced opening o_is now is tree settled =
    let t = told_trace o contents newest opening now o_is is traced in
    whole_law opening now newest (at_rest t.0) tree settled t.1

-- what a finished job did stays done
pub finished_to : (o contents : Option CallLog) (newest : List Entry) → IsTracedTo o contents newest → IfKnown o (λ opening. IfKnown contents (λ now. IsFinishedRun opening now newest))
finished_to o contents newest traced opening o_is now is tree settled =
    let t = told_trace o contents newest opening now o_is is traced in done_law opening now newest (at_rest t.0) tree settled t.1

-- what is on the disk stays there
pub stays_to : (o contents : Option CallLog) (newest : List Entry) → IsTracedTo o contents newest → IfKnown o (λ opening. IfKnown contents (λ now. IsStayingRun opening now newest))
stays_to o contents newest traced opening o_is now is tree settled =
    let t = told_trace o contents newest opening now o_is is traced in
    record {
      names = λ older standing coming calls path moment since later sure no_part.
          stays_law.names opening now newest older standing coming (at_rest t.0) calls path tree settled t.1 moment since later sure no_part;
      modes = λ older standing coming calls path moment since later sure other.
          stays_law.modes opening now newest older standing coming (at_rest t.0) calls path tree settled t.1 moment since later sure other;
    }

-- and all that it was to do is done
pub outcome_to : (o contents : Option CallLog) (newest : List Entry) → IsTracedTo o contents newest → IfKnown o (λ opening. IfKnown contents (λ now. IsOutcomeRun opening now newest))
outcome_to o contents newest traced opening o_is now is tree settled =
    let t = told_trace o contents newest opening now o_is is traced in
    record {
      done = outcome_law opening now newest (at_rest t.0) tree settled t.1;
      alone = untouched_law opening now newest (at_rest t.0) tree settled t.1;
      kept = kept_law opening now newest (at_rest t.0) tree settled t.1;
      all = all_sources_law opening now newest (at_rest t.0) tree settled t.1;
    }

-- and what it replaced, kept or asked about is as was answered
pub answered_to : (o contents : Option CallLog) (newest : List Entry) → IsTracedTo o contents newest → IfKnown o (λ opening. IfKnown contents (λ now. IsAnsweredRun opening now newest))
answered_to o contents newest traced opening o_is now is tree settled =
    let t = told_trace o contents newest opening now o_is is traced in answered_law opening now newest (at_rest t.0) tree settled t.1

-- a first change comes where nothing is in doubt
pub calmed_to : (o contents : Option CallLog) (newest : List Entry) → IsTracedTo o contents newest → IfKnown o (λ opening. IfKnown contents (λ now. IsCalmedRun opening now newest))
calmed_to o contents newest traced opening o_is now is tree settled =
    let t = told_trace o contents newest opening now o_is is traced in calm_law opening now newest (at_rest t.0) tree settled t.1

-- and the tree shows what the history makes of the opening
pub replayed_to : (o contents : Option CallLog) (newest : List Entry) → IsTracedTo o contents newest → IfKnown o (λ opening. IfKnown contents (λ now. IsReplayedRun opening now newest))
replayed_to o contents newest traced opening o_is now is tree settled =
    let t = told_trace o contents newest opening now o_is is traced in
    let r = replay_law opening now newest (at_rest t.0) tree settled t.1 in
    let reached = traced_reached opening tree settled newest (at_rest t.0) now t.1 in
    let rest : live_jobs newest ≡ [] = reached.live in
    record { base = r.base; tree = r.tree; shows = λ path. r.shows path (λ live. let part = subst (λ jobs. IsLivePart jobs path) rest live in part.1) }

-- where nothing was written down, the tree is as it was
pub traced_none : (o contents : Option CallLog) (newest : List Entry) → newest ≡ [] → contents ≡ o → IsTracedTo o contents newest
traced_none None contents newest empty same = same
traced_none (Some opening) contents newest empty same = (opening, [], same, subst (λ es. IsTraced opening es (at_rest []) opening) (sym empty) (refl, refl))

-- paths that lead to what can be read are refused only where a device failed
pub refused_start : (log : CallLog) (o : Option Start) (status faults faults_after : ℕ) (keys screen : Type 0) → (status ≡ 2 → MayRefuseStart log o faults faults_after) → IsStatusOr 2 status → (status ≡ 4 → screen)
    → IsComplete log o status (HasRisen faults faults_after ⊎ (keys ⊎ screen))
refused_start log None status faults faults_after keys screen start is sink = tt
refused_start log (Some begun) status faults faults_after keys screen start is sink = λ can none_failed.
    elim is [
      | inl two ↦ elim (start two) [ inl cant ↦ absurd (can_read (current log) begun.mode can cant) | inr risen ↦ absurd (none_failed (inl risen)) ]
      | inr more ↦ elim more [ inl four ↦ absurd (none_failed (inr (inr (sink four)))) | inr five ↦ inr five ]
    ]

-- what was written down is a session at the paths that the words name
pub run_in : (start folders : Option Start) (told o : Option CallLog) (told_faults faults status : ℕ) (newest : List Entry) (contents : Option CallLog) (stream left left_after told_given given given_after : Option (List ℕ))
    → start ≡ folders → o ≡ told → told_faults ≡ faults → left ≡ stream → given ≡ told_given → RanSession start told told_faults status newest contents (TookAll stream left_after) told_given given_after
    → RanSession folders o faults status newest contents (TookAll left left_after) given given_after
run_in start folders told o told_faults faults status newest contents stream left left_after told_given given given_after named same counted gives before ran =
    subst (λ f. RanSession f o faults status newest contents (TookAll left left_after) given given_after) named
    (subst (λ x. RanSession start x faults status newest contents (TookAll left left_after) given given_after) (sym same)
    (subst (λ n. RanSession start told n status newest contents (TookAll left left_after) given given_after) counted
    (subst (λ b. RanSession start told told_faults status newest contents (TookAll left left_after) b given_after) (sym before)
    (subst (λ s. RanSession start told told_faults status newest contents (TookAll s left_after) told_given given_after) (sym gives) ran))))

-- what a session came to is what its run did
pub ran_session : (start : Option Start) (opening : Option CallLog) (faults status : ℕ) (newest : List Entry) (contents : Option CallLog) (end : SessionEnd) (quit screen_failed key_lost closed is_cut : Bool) (all_taken : Type 0)
    (given given_after : Option (List ℕ)) → EndsSession start opening faults newest contents (record { bytes = put_since given given_after; is_cut = is_cut }) quit → HasGiven given (put_since given given_after) given_after
    → (is_cut ≡ true → closed ≡ true) → (closed ≡ true → IsCut (Some end)) → IsStatusOf end screen_failed key_lost status → (end ≡ Quit → quit ≡ true) → (end ≡ KeysEnded → all_taken)
    → RanSession start opening faults status newest contents all_taken given given_after
ran_session start opening faults status newest contents end quit screen_failed key_lost closed is_cut all_taken given given_after ends had shut cut is asked whole = record {
  asked = quit;
  put = record { bytes = put_since given given_after; is_cut = is_cut };
  session = ends;
  puts = had;
  uncut = λ h. is.failed (elim (cut (shut h)) [ inl screen ↦ inl cc | inr memory ↦ inr cc ]);
  ended = λ zero_status. elim (is.done zero_status) [ inl by_key ↦ inl (asked by_key) | inr by_end ↦ inr (whole by_end) ];
  not_usage = is.not_usage;
  not_start = is.not_start;
}

-- what a terminal shows of a run in which nothing was written down
pub shows_none : (folders : Option Start) (opening : Option CallLog) (faults status : ℕ) (newest : List Entry) (put : Option (List ℕ)) → newest ≡ [] → IfKnown put (λ bytes. ShowsRun folders opening faults status newest bytes)
shows_none folders opening faults status newest put empty bytes known later e older is drawn = absurd (nothing later (sym empty ∙ is))
  where
    nothing : (later : List Entry) → [] ≡ later ++ e ∷ older → ⊥
    nothing [] h = cc
    nothing (l ∷ later) h = cc

-- and of a session
pub run_shows : (folders : Option Start) (opening : Option CallLog) (faults status : ℕ) (newest : List Entry) (contents : Option CallLog) (all_taken : Type 0) (given given_after : Option (List ℕ))
    → RanSession folders opening faults status newest contents all_taken given given_after → IfKnown (put_since given given_after) (λ put. ShowsRun folders opening faults status newest put)
run_shows folders opening faults status newest contents all_taken given given_after ran all known later e older is drawn =
    let ends = ran.session in
    let bytes : ran.put.bytes ≡ Some all = put_is given given_after ran.put.bytes ran.puts ∙ known in
    elim (session_shows folders opening faults newest (record { screen = ends.0; stand = at_rest ends.1; contents = contents; put = ran.put }) all ends.3 bytes later e older is drawn) [
      | inl shows ↦ inl shows
      | inr cut ↦ inr (ran.uncut cut.0, cut.1)
    ]
  where
    put_is : (g now put : Option (List ℕ)) → HasGiven g put now → put ≡ put_since g now
    put_is None now put h = (h.untold refl).0
    put_is (Some before) now put h = let t = h.told before refl in t.1 ∙ sym (since_is before t.0 now t.2)

-- where nothing was written down, no fault was
pub none_counted : (faults now : ℕ) (newest : List Entry) → newest ≡ [] → faults ≤ now → faults_in faults newest ≤ now
none_counted faults now newest empty few = subst (λ es. faults_in faults es ≤ now) (sym empty) few
