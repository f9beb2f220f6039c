-- What the entries of a session say of a path, from where a source was taken up on, until a step at another one names it: none names it, or the job that is at that source changed it.
use Rattle.std.proofs.Common.{◌≡◌, ◌⊎◌, ℕ, Bool, true, false, List, [], ◌∷◌, ◌++◌, length, refl, sym, ◌∙◌, ap, subst, inl, inr, Option, Some, None, append_assoc}
use Rattle.std.specs.Prelude.{⊤, ◌||◌, ◌==◌, if◌then◌else◌}
use Rattle.std.specs.Option.{option_map, option_map_or}
use Rattle.std.proofs.lemmas.Bool.{both_ways, eq-eqb, false≢true}
use Rattle.mc_text.specs.Routes.{Route, is_prefix, same_path}
use Rattle.tree_trait.specs.Shape.{IsTree}
use Rattle.tree_trait.specs.Change.{Change, CallLog, current}
use Rattle.tree_trait.specs.CrashImages.{Among, all_settled}
use Rattle.tree_trait.specs.FileSystem.{Spot, Value, View}
use Rattle.tree_trait.proofs.Visible.{same_path-self, same_path-true}
use Rattle.job_reports.specs.declared.job.Pair.{Pair}
use Rattle.job_reports.specs.declared.report.Did.{Did}
use Rattle.job_reports.specs.declared.report.Did.TheVariants.{Began, Chunk, Placed, Removed, Made, Set, Kept, Skipped, Cleaned, Barrier, Asked, Merges, Moved, Troubled, Ended}
use Rattle.job_reports.specs.declared.report.Ending.{Ending}
use Rattle.job_reports.specs.Jobs.{ItemOfJob, Copies, Moves, Removes, Makes, MakesLink, Sets, RemovesEmptied}
use Rattle.session_entries.specs.declared.history.Event.{Event}
use Rattle.session_entries.specs.declared.history.Event.TheVariants.{Key, Look, Sought, Order, Step, Next, Closed}
use Rattle.session_entries.specs.declared.history.Event.TheVariants as event
use Rattle.session_entries.specs.declared.history.Entry.{Entry}
use Rattle.session_entries.specs.LiveJobs.{LiveJob, after_event, after_report, live_item, live_jobs}
use Rattle.session_entries.specs.Moves.{is_of_move, paths_moved}
use Rattle.session_entries.specs.Named.{IsUnnamedSince, is_part_of_other, left_after, left_parts, live_parts, named_after, named_parts, names, names_path}
use Rattle.laws_outcomes.specs.Touched.{IsAtSince, IsPartAt, LastsSince, WasPart, touches}
use Rattle.copy_tree.specs.InPlace.{IsMoved}
use Rattle.copy_move.specs.Jobs.{Running}
use Rattle.laws_sessions.specs.Replayed.{earlier_event, earlier_step, earlier_tree, log_prefix, replayed_event, replayed_step, replayed_tree}
use Rattle.laws_sessions.specs.Traces.{EventLeads, Follows, IsTraced, JobSteps, Stand}
use Rattle.laws_sessions.proofs.Going.{only_job}
use Rattle.laws_sessions.proofs.Histories.{IsReached, enters, traced_reached}
use Rattle.laws_sessions.proofs.Intact.{prefix_append}
use Rattle.laws_sessions.proofs.JobKnows.{WorkKnows}
use Rattle.laws_sessions.proofs.Moments.{log_of}
use Rattle.laws_sessions.proofs.Prefixes.{replayed_more, told_of}
use Rattle.laws_sessions.proofs.Reports.{HasLive, JobsKnow}
use Rattle.laws_sessions.proofs.Sources.{item_in}
use Rattle.laws_sessions.proofs.Stepped.{more}
use Rattle.laws_sessions.proofs.Unnamed.{earlier_unnamed, step_unnamed}
use Rattle.laws_outcomes.specs.Begun.{tree_begun}
use Rattle.laws_outcomes.specs.Outcomes.{passed_over}
use Rattle.laws_outcomes.proofs.Accounts.{put_value}
use Rattle.laws_sessions.proofs.ChangedPaths.{IsChanged}
use Rattle.laws_outcomes.proofs.CutLive.{AllLive, live_since}
use Rattle.laws_outcomes.proofs.CutParts.{apart_then, left_event, named_event}
use Rattle.laws_outcomes.proofs.CutSteps.{StepFact, leads_fact, pair_at}
use Rattle.laws_outcomes.proofs.Doing.{JobDone, JobsDone}
use Rattle.laws_outcomes.proofs.Outcome.{traced_done}

-- a report names the path as a part
abbrev pub NamesPart : Did → Route → Type 0
NamesPart (Began part) path = part ≡ path
NamesPart (Cleaned part) path = part ≡ path
NamesPart (Ended ending part) path = part ≡ Some path
NamesPart did path = ⊥

named_how : (did : Did) (path : Route) → names did path ≡ true → IsChanged did path ⊎ NamesPart did path
named_how (Began part) path h = inr (sym (same_path-true path part h))
named_how (Cleaned part) path h = inr (sym (same_path-true path part h))
named_how (Ended ending (Some part)) path h = inr (ap (λ p. (let o : Option Route = Some p in o)) (sym (same_path-true path part h)))
named_how (Placed target) path h = inl (inl (same_path-true path target h))
named_how (Removed gone) path h = inl (inl (same_path-true path gone h))
named_how (Made made) path h = inl (inl (same_path-true path made h))
named_how (Set set) path h = inl (inl (same_path-true path set h))
named_how (Moved pair) path h = inl h
named_how did path h = absurd (false≢true h)

-- then it begins that part, or it is the one that stands
module _ (v : View) (stood : Option Route) where
  pub cleaned_part : (item : ItemOfJob) (part : Route) → StepFact item v stood (Cleaned part) → stood ≡ Some part
  cleaned_part (Copies source target) part fact = fact.0
  cleaned_part item part fact = absurd fact

  pub ended_part : (item : ItemOfJob) (ending : Ending) (part : Option Route) → StepFact item v stood (Ended ending part) → (part ≡ None) ⊎ (stood ≡ part)
  ended_part (Copies source target) ending part fact = fact.1
  ended_part (Moves source target) ending part fact = inl fact
  ended_part (Removes top) ending part fact = inl fact
  ended_part (Makes made) ending part fact = inl fact
  ended_part (MakesLink made text) ending part fact = inl fact
  ended_part (Sets thing mode) ending part fact = inl fact
  ended_part (RemovesEmptied folder) ending part fact = inl fact

  part_how : (item : ItemOfJob) (did : Did) (path : Route) → StepFact item v stood did → NamesPart did path → (stood ≡ Some path) ⊎ (did ≡ Began path)
  part_how item (Began part) path fact is = inr (ap Began is)
  part_how item (Cleaned part) path fact is = inl (cleaned_part item part fact ∙ ap (λ p. (let o : Option Route = Some p in o)) is)
  part_how item (Ended ending part) path fact is = elim (ended_part item ending part fact) [
    | inl none ↦ absurd (let e : (let o : Option Route = Some path in o) ≡ None = sym is ∙ none in let f : ⊥ = cc in f)
    | inr same ↦ inl (same ∙ is)
  ]
  part_how item did path fact is = absurd is

  -- what is changed is touched
  placed_touches : (item : ItemOfJob) (p path : Route) → StepFact item v stood (Placed p) → path ≡ p → touches item path ≡ true
  placed_touches (Copies source target) p path fact is = (let t = fact.0.1 in let m : IsMoved (pair_at source target) t.0 p = t.1 in subst (λ q. is_prefix target q ≡ true) (sym (is ∙ m.to)) (prefix_append target m.rest))
  placed_touches item p path fact is = absurd fact

  removed_touches : (item : ItemOfJob) (p path : Route) → StepFact item v stood (Removed p) → path ≡ p → touches item path ≡ true
  removed_touches (Removes top) p path fact is = subst (λ q. touches (Removes top) q ≡ true) (sym is) fact
  removed_touches (RemovesEmptied folder) p path fact is = subst (λ q. touches (RemovesEmptied folder) q ≡ true) (sym is) fact
  removed_touches (Copies source target) p path fact is = absurd fact.0
  removed_touches item p path fact is = absurd fact

  made_touches : (item : ItemOfJob) (p path : Route) → StepFact item v stood (Made p) → path ≡ p → touches item path ≡ true
  made_touches (Copies source target) p path fact is = (let t = fact.0.1 in let m : IsMoved (pair_at source target) t.0 p = t.1 in subst (λ q. is_prefix target q ≡ true) (sym (is ∙ m.to)) (prefix_append target m.rest))
  made_touches (Makes made) p path fact is = subst (λ q. same_path q made ≡ true) (sym (is ∙ fact.0)) (same_path-self made)
  made_touches (MakesLink made text) p path fact is = subst (λ q. same_path q made ≡ true) (sym (is ∙ fact.0)) (same_path-self made)
  made_touches item p path fact is = absurd fact

  set_touches : (item : ItemOfJob) (p path : Route) → StepFact item v stood (Set p) → path ≡ p → touches item path ≡ true
  set_touches (Copies source target) p path fact is = (let t = fact.0 in let m : IsMoved (pair_at source target) t.0 p = t.1 in subst (λ q. is_prefix target q ≡ true) (sym (is ∙ m.to)) (prefix_append target m.rest))
  set_touches (Sets thing mode) p path fact is = subst (λ q. same_path q thing ≡ true) (sym (is ∙ fact.0)) (same_path-self thing)
  set_touches item p path fact is = absurd fact

  moved_touches : (item : ItemOfJob) (pair : Pair) (path : Route) → StepFact item v stood (Moved pair) → is_of_move pair path ≡ true → touches item path ≡ true
  moved_touches (Moves source target) pair path fact is = subst (λ (p : Pair). is_of_move p path ≡ true) fact.0 is
  moved_touches (Copies source target) pair path fact is = absurd fact.0
  moved_touches item pair path fact is = absurd fact

  one_path : (a b : Route) → Among (a ∷ []) b → b ≡ a
  one_path a b (inl is) = is
  one_path a b (inr none) = absurd none

  pub changed_touches : (item : ItemOfJob) (did : Did) (path : Route) → StepFact item v stood did → IsChanged did path → touches item path ≡ true
  changed_touches item (Placed p) path fact changed = placed_touches item p path fact (one_path p path changed)
  changed_touches item (Removed p) path fact changed = removed_touches item p path fact (one_path p path changed)
  changed_touches item (Made p) path fact changed = made_touches item p path fact (one_path p path changed)
  changed_touches item (Set p) path fact changed = set_touches item p path fact (one_path p path changed)
  changed_touches item (Moved pair) path fact changed = moved_touches item pair path fact changed
  changed_touches item did path fact changed = absurd changed

  -- only a copy begins a part
  pub begins_copy : (item : ItemOfJob) (part : Route) → StepFact item v stood (Began part) → (source : Route) × (target : Route) × (item ≡ Copies source target)
  begins_copy (Copies source target) part fact = (source, target, refl)
  begins_copy item part fact = absurd fact

-- what a path showed before a report that changed it, it showed before that
earlier_changed : (did : Did) (v before : View) (path : Route) → IsChanged did path → (earlier_step did v before path).value ≡ (v path).value
earlier_changed (Placed p) v before path (inl is) = subst (λ q. (earlier_step (Placed p) v before q).value ≡ (v q).value) (sym is) (put_value before p (v p).value)
earlier_changed (Removed p) v before path (inl is) = subst (λ q. (earlier_step (Removed p) v before q).value ≡ (v q).value) (sym is) (put_value before p (v p).value)
earlier_changed (Made p) v before path (inl is) = subst (λ q. (earlier_step (Made p) v before q).value ≡ (v q).value) (sym is) (put_value before p (v p).value)
earlier_changed (Set p) v before path (inl is) = subst (λ q. (earlier_step (Set p) v before q).value ≡ (v q).value) (sym is) (put_value before p (v p).value)
earlier_changed (Moved pair) v before path changed = ap (λ b. (let s : Spot = if b then v path else before path in s.value)) changed
earlier_changed (Placed p) v before path (inr none) = absurd none
earlier_changed (Removed p) v before path (inr none) = absurd none
earlier_changed (Made p) v before path (inr none) = absurd none
earlier_changed (Set p) v before path (inr none) = absurd none
earlier_changed did v before path none = absurd none

-- only a step names a path
named_by_step : (what : Event) (path : Route) → names_path what path ≡ true → (id : ℕ) × (did : Did) × (what ≡ Step id did) × (names did path ≡ true)
named_by_step (Step id did) path h = (id, did, refl, h)
named_by_step (event.Began id plan background) path h = absurd (false≢true h)
named_by_step (Order id order) path h = absurd (false≢true h)
named_by_step (Next id plan) path h = absurd (false≢true h)
named_by_step (Key key time refusals lost) path h = absurd (false≢true h)
named_by_step (Look refusals) path h = absurd (false≢true h)
named_by_step Sought path h = absurd (false≢true h)
named_by_step Closed path h = absurd (false≢true h)

pub event_unchanged : (log : CallLog) (what : Event) (jobs : List LiveJob) (v : View) (path : Route) → names_path what path ≡ false → replayed_event log what jobs v path ≡ v path
event_unchanged log (Step id did) jobs v path unnamed = step_unnamed log did (live_item id jobs) v path unnamed
event_unchanged log what jobs v path unnamed = refl

event_earlier : (what : Event) (v before : View) (path : Route) → names_path what path ≡ false → earlier_event what v before path ≡ before path
event_earlier (Step id did) v before path unnamed = earlier_unnamed did v before path unnamed
event_earlier what v before path unnamed = refl

-- the part of the first live job
abbrev first_part : List LiveJob → Option Route
first_part [] = None
first_part (job ∷ jobs) = job.part

module _ (opening : CallLog) (tree : IsTree (current opening)) (settled : all_settled opening.changes ≡ true) (end : CallLog) where
  -- the tree that the history makes
  abbrev pub shown : List Entry → View
  shown g = replayed_tree opening end g

  -- these entries are the first ones of the session
  pub record IsFirst (g : List Entry) : Type 0 where
    pub stand : Stand
    pub now : CallLog
    pub rest : List Change
    pub traced : IsTraced opening g stand now
    pub end_is : end ≡ more now rest

  -- and with the newest of them a job made a step
  pub record AtStep (e : Entry) (g : List Entry) (id : ℕ) (did : Did) : Type 0 where
    pub item : ItemOfJob
    pub part : Option Route
    pub live : live_jobs g ≡ (let l : LiveJob = record { id = id; item = item; part = part } in l) ∷ []
    pub fact : StepFact item (shown g) part did
    pub named : (p : Route) → part ≡ Some p → Among (named_parts g) p
    pub shows : shown (e ∷ g) ≡ replayed_step (log_prefix opening e.calls end) did (Some item) (shown g)

  -- all but the newest
  pub before_newest : (e : Entry) (g : List Entry) → IsFirst (e ∷ g) → IsFirst g
  before_newest e g first = by first.traced
    where
      by : IsTraced opening (e ∷ g) first.stand first.now → IsFirst g
      by (was, before, traced, f) =
          let n = enters opening g e.calls was before (traced_reached opening tree settled g was before traced) e.what f.after first.now f.leads f.counts in
          record {
            stand = was;
            now = before;
            rest = n.made ++ first.rest;
            traced = traced;
            end_is = first.end_is ∙ (ap (λ (l : CallLog). more l first.rest) n.now_is ∙ ap (log_of before) (append_assoc before.changes n.made first.rest));
          }

  pub at_step : (e : Entry) (g : List Entry) (id : ℕ) (did : Did) → IsFirst (e ∷ g) → e.what ≡ Step id did → AtStep e g id did
  at_step e g id did first is = by first.traced
    where
      by : IsTraced opening (e ∷ g) first.stand first.now → AtStep e g id did
      by (was, before, traced, f) = record {
        item = item_in job.work;
        part = r.part;
        live = live_is;
        fact = subst (λ (v : View). StepFact (item_in job.work) v r.part did) (sym same) fact_before;
        named = λ p part_is. r.kept.known.aside p (r.kept.known.part p part_is).0;
        shows = ap (λ w. replayed_event (log_prefix opening e.calls end) w (live_jobs g) (shown g)) is ∙ ap (λ o. replayed_step (log_prefix opening e.calls end) did o (shown g)) item_is;
      }
        where
          r : IsReached opening g was before
          r = traced_reached opening tree settled g was before traced

          s : JobSteps was id did f.after before first.now
          s = subst (λ w. EventLeads was w f.after before first.now) is f.leads

          job : Running
          job = s.job

          one : (was.jobs ≡ job ∷ []) × (job.id ≡ id)
          one = only_job id was.jobs job (told_of opening before g r.part) was.dirty r.marks before s.its r.knows

          live_is : live_jobs g ≡ (let l : LiveJob = record { id = id; item = item_in job.work; part = r.part } in l) ∷ []
          live_is = subst (λ js. HasLive (live_jobs g) js r.part) one.0 r.live ∙ ap (λ n. (let l : LiveJob = record { id = n; item = item_in job.work; part = r.part } in l) ∷ []) one.1

          item_is : live_item id (live_jobs g) ≡ Some (item_in job.work)
          item_is = ap (live_item id) live_is ∙ ap (λ b. if b then Some (item_in job.work) else None) (eq-eqb id id refl)

          knows : WorkKnows (told_of opening before g r.part) was.dirty r.marks before job.course job.work
          knows = subst (λ js. JobsKnow (told_of opening before g r.part) was.dirty r.marks before js) one.0 r.knows

          done : JobDone (passed_over job.id g) (tree_begun opening before job.id g) (replayed_tree opening before g) (current before) job
          done = subst (λ js. JobsDone (λ n. passed_over n g) (λ n. tree_begun opening before n g) (replayed_tree opening before g) (current before) js) one.0 (traced_done opening tree settled g was before traced)

          fact_before : StepFact (item_in job.work) (replayed_tree opening before g) r.part did
          fact_before =
              leads_fact (told_of opening before g r.part) was.dirty (let a : Stand = f.after in a.dirty) r.marks before first.now r.kept job did s.new (passed_over job.id g) (tree_begun opening before job.id g) knows done s.leads

          same : shown g ≡ replayed_tree opening before g
          same = let n = enters opening g e.calls was before r e.what f.after first.now f.leads f.counts in
              ap (λ (l : CallLog). replayed_tree opening l g) (first.end_is ∙ (ap (λ (l : CallLog). more l first.rest) n.now_is ∙ ap (log_of before) (append_assoc before.changes n.made first.rest)))
              ∙ replayed_more opening before (n.made ++ first.rest) g r.within

  -- a part is begun where nothing can be seen
  pub began_bare : (e : Entry) (g : List Entry) (id : ℕ) (path : Route) → IsFirst (e ∷ g) → e.what ≡ Step id (Began path) → AtStep e g id (Began path) → (shown g path).value ≡ None
  began_bare e g id path first is at =
      sym (ap (λ (w : View). (w path).value) at.shows)
      ∙ (ap (λ (l : CallLog). (replayed_tree opening l (e ∷ g) path).value) first.end_is
      ∙ (ap (λ (w : View). (w path).value) (replayed_more opening first.now first.rest (e ∷ g) r.within)
      ∙ ap (λ (spot : Spot). spot.value) (r.kept.known.part path part_is).1))
    where
      r : IsReached opening (e ∷ g) first.stand first.now
      r = traced_reached opening tree settled (e ∷ g) first.stand first.now first.traced

      if_same : (b : Bool) (x y : List LiveJob) → b ≡ true → if◌then◌else◌ b x y ≡ x
      if_same true x y same = refl
      if_same false x y same = absurd (false≢true same)

      live_is : live_jobs (e ∷ g) ≡ (let l : LiveJob = record { id = id; item = at.item; part = Some path } in l) ∷ []
      live_is = ap (λ w. after_event w (live_jobs g)) is ∙ (ap (after_report id (Began path)) at.live ∙ if_same (id == id) _ _ (eq-eqb id id refl))

      by : (jobs : List Running) → HasLive (live_jobs (e ∷ g)) jobs r.part → r.part ≡ Some path
      by [] none = absurd (let e : (let l : LiveJob = record { id = id; item = at.item; part = Some path } in l) ∷ [] ≡ [] = sym live_is ∙ none in let f : ⊥ = cc in f)
      by (job ∷ []) one = sym (ap first_part (sym live_is ∙ one))
      by (job ∷ other ∷ jobs) two = absurd two

      part_is : r.part ≡ Some path
      part_is = by first.stand.jobs r.live

  -- Of a path, since entries after which each live job was at such a source.
  module _ (begun : List Entry) (path : Route) (Its : ItemOfJob → Type 0) (its : AllLive Its (live_jobs begun)) where
    abbrev pub first_value : Option Value
    first_value = (shown begun path).value

    -- a step is one at such a source, until another is taken up
    pub at_source : (e : Entry) (g : List Entry) (id : ℕ) (did : Did) → IsAtSince begun g → (at : AtStep e g id did) → Its at.item
    at_source e g id did since at = (subst (AllLive Its) at.live (live_since begun Its its g since)).0

    -- It is no part, where something stood at first; where nothing did, it is said elsewhere that it never was one.
    abbrev pub IsOff : List Entry → Type 0
    IsOff g = (first_value ≡ None) ⊎ ((first_value ≡ None → ⊥) × (IsPartAt g path → ⊥))

    abbrev pub IsNever : List Entry → Type 0
    IsNever g = first_value ≡ None → WasPart g path → ⊥

    was_named : (g : List Entry) → Among (named_parts g) path → WasPart g path
    was_named [] among = absurd among
    was_named (e ∷ g) among = inl among

    pub off_named : (g : List Entry) → IsOff g → IsNever g → Among (named_parts g) path → ⊥
    off_named g (inl none) never among = never none (was_named g among)
    off_named g (inr (some, off)) never among = off (inl among)

    -- an entry that doesn't name it
    off_unnamed : (e : Entry) (g : List Entry) → names_path e.what path ≡ false → IsOff g → IsOff (e ∷ g)
    off_unnamed e g unnamed (inl none) = inl none
    off_unnamed e g unnamed (inr (some, off)) = inr (
      some,
      λ part. elim part [
        | inl named ↦ off (inl (named_event e.what (live_parts g) (left_parts g) (named_parts g) path unnamed named))
        | inr left ↦ off (inr (left_event e.what (left_parts g) path unnamed left))
      ],
    )

    module _ (Is : Option Value → Type 0) where
      -- it shows what it showed at first, or is so
      abbrev pub HoldsThen : List Entry → Type 0
      HoldsThen g = ((shown g path).value ≡ first_value) ⊎ Is (shown g path).value

      -- no entry named it since, or it was changed so, and showed before its last change what it showed first, or was so then, too
      abbrev pub Known : List Entry → Type 0
      Known g = IsUnnamedSince begun path g ⊎ (Is (shown g path).value × (((earlier_tree opening end g path).value ≡ first_value) ⊎ Is (earlier_tree opening end g path).value))

      -- each step of the source that changes it leaves it so
      abbrev pub Gives : Type 0
      Gives = (e : Entry) (g : List Entry) (id : ℕ) (did : Did) → IsFirst (e ∷ g) → e.what ≡ Step id did → IsAtSince begun g → (at : AtStep e g id did) → Its at.item → IsChanged did path → HoldsThen g → Is (shown (e ∷ g) path).value

      -- a copy leaves something there
      abbrev pub Fills : Type 0
      Fills = (source target : Route) → Its (Copies source target) → Is None → ⊥

      -- and a move takes no part there, where something stood
      abbrev pub Carries : Type 0
      Carries = (e : Entry) (g : List Entry) (id : ℕ) (pair : Pair) → IsFirst (e ∷ g) → e.what ≡ Step id (Moved pair) → IsAtSince begun g → (at : AtStep e g id (Moved pair)) → Its at.item → is_of_move pair path ≡ true
          → (first_value ≡ None → ⊥) → HoldsThen g → Among (paths_moved pair (left_parts g)) path → ⊥

      pub record IsMade : Type 0 where
        pub gives : Gives
        pub fills : Fills
        pub carries : Carries

      module _ (made : IsMade) (same : (g : List Entry) → IsUnnamedSince begun path g → (shown g path).value ≡ first_value) where
        shown_of : (g : List Entry) → Known g → HoldsThen g
        shown_of g (inl unnamed) = inl (same g unnamed)
        shown_of g (inr known) = inr known.0

        later : (e : Entry) (g : List Entry) → names_path e.what path ≡ false → Known g → Known (e ∷ g)
        later e g unnamed (inl since) = inl (inr (unnamed, since))
        later e g unnamed (inr known) =
            let now_is = ap (λ (s : Spot). s.value) (event_unchanged (log_prefix opening e.calls end) e.what (live_jobs g) (shown g) path unnamed) in
            let was_is = ap (λ (s : Spot). s.value) (event_earlier e.what (shown g) (earlier_tree opening end g) path unnamed) in
            inr (subst Is (sym now_is) known.0, elim known.1 [ inl first ↦ inl (was_is ∙ first) | inr so ↦ inr (subst Is (sym was_is) so) ])

        module _ (e : Entry) (g : List Entry) (id : ℕ) (did : Did) (is : e.what ≡ Step id did) (first : IsFirst (e ∷ g)) (since : IsAtSince begun g) (never : IsNever (e ∷ g)) (named : names did path ≡ true) (known : Known g) (off : IsOff g) where
          at : AtStep e g id did
          at = at_step e g id did first is

          its_item : Its at.item
          its_item = at_source e g id did since at

          -- nothing begins a part where something stands
          not_begun : (first_value ≡ None → ⊥) → did ≡ Began path → ⊥
          not_begun some begins = elim (shown_of g known) [
            | inl same_value ↦ some (sym same_value ∙ bare)
            | inr so ↦
                let c = begins_copy (shown g) at.part at.item path (subst (StepFact at.item (shown g) at.part) begins at.fact) in
                made.fills c.0 c.1 (subst Its c.2 its_item) (subst Is bare so)
          ]
            where
              bare : (shown g path).value ≡ None
              bare = began_bare e g id path first (is ∙ ap (Step id) begins) (subst (λ d. AtStep e g id d) begins at)

          no_part : IsOff g → (at.part ≡ Some path) ⊎ (did ≡ Began path) → ⊥
          no_part (inl none) (inl stands) = never none (inr (was_named g (at.named path stands)))
          no_part (inl none) (inr begins) = never none (inl (subst (λ w. Among (named_after w (live_parts g) (left_parts g) (named_parts g)) path) (sym (is ∙ ap (Step id) begins)) (inl refl)))
          no_part (inr (some, none)) (inl stands) = none (inl (at.named path stands))
          no_part (inr (some, none)) (inr begins) = not_begun some begins

          change : IsChanged did path
          change = elim (named_how did path named) [
            | inl changed ↦ changed
            | inr part ↦ absurd (no_part off (part_how (shown g) at.part at.item did path at.fact part))
          ]

          known_then : Known (e ∷ g)
          known_then =
              let was_is = ap (λ w. (let s : Spot = earlier_event w (shown g) (earlier_tree opening end g) path in s.value)) is ∙ earlier_changed did (shown g) (earlier_tree opening end g) path change in
              inr (
                made.gives e g id did first is since at its_item change (shown_of g known),
                elim (shown_of g known) [ inl first_is ↦ inl (was_is ∙ first_is) | inr so ↦ inr (subst Is (sym was_is) so) ],
              )

          off_then : IsOff g → IsOff (e ∷ g)
          off_then (inl none) = inl none
          off_then (inr (some, none)) = inr (
            some,
            λ part. apart_then did path (is_part_of_other id (live_parts g)) (left_parts g) (named_parts g) change
                (λ pair moves. made.carries e g id pair first (is ∙ ap (Step id) moves) since (subst (λ d. AtStep e g id d) moves at) (subst (λ (d : Did). (a : AtStep e g id d) → Its a.item) moves (λ a. at_source e g id did since a) (subst (λ d. AtStep e g id d) moves at))
                (subst (λ d. IsChanged d path) moves change) some (shown_of g known))
                none (subst (λ w. Among (named_after w (live_parts g) (left_parts g) (named_parts g)) path ⊎ Among (left_after w (left_parts g)) path) is part),
          )

          pub both_then : Known (e ∷ g) × IsOff (e ∷ g)
          both_then = (known_then, off_then off)

        -- so one entry more
        extended : (e : Entry) (g : List Entry) → IsFirst (e ∷ g) → (names_path e.what path ≡ false) ⊎ IsAtSince begun g → IsNever (e ∷ g) → Known g × IsOff g → Known (e ∷ g) × IsOff (e ∷ g)
        extended e g first how never (known, off) = by (names_path e.what path) refl how
          where
            by : (b : Bool) → names_path e.what path ≡ b → (names_path e.what path ≡ false) ⊎ IsAtSince begun g → Known (e ∷ g) × IsOff (e ∷ g)
            by false unnamed other = (later e g unnamed known, off_unnamed e g unnamed off)
            by true named (inl unnamed) = absurd (both_ways _ unnamed named)
            by true named (inr since) = let n = named_by_step e.what path named in both_then e g n.0 n.1 n.2 first since never n.3 known off

        pub known_since : (g : List Entry) → IsFirst g → LastsSince begun (λ what. names_path what path ≡ false) g → IsNever g → IsOff begun → Known g × IsOff g
        known_since [] first since never off = (inl since, subst (λ xs. IsOff xs) since off)
        known_since (e ∷ g) first (inl since) never off = (inl (inl since), subst (λ xs. IsOff xs) since off)
        known_since (e ∷ g) first (inr (how, since)) never off = extended e g first how never (known_since g (before_newest e g first) since (λ none was. never none (inr was)) off)
