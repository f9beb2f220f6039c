-- What waits for a sync was named by a report: where none named a path nothing of it waits, since nothing did at the opening.
use Rattle.std.proofs.Common.{◌≡◌, ◌⊎◌, ℕ, Bool, true, false, ◌&&◌, ◌||◌, List, [], ◌∷◌, refl, sym, ◌∙◌, ap, subst, inl, inr, Option, Some, None, if◌then◌else◌}
use Rattle.std.specs.Prelude.{◌==◌, map}
use Rattle.std.specs.Option.{option_map_or}
use Rattle.std.proofs.lemmas.Bool.{and_from, both_ways, eq-eqb, false_from_ne_true, or_left, or_right}
use Rattle.mc_text.specs.Routes.{Route}
use Rattle.tree_trait.specs.Shape.{IsTree}
use Rattle.tree_trait.specs.Change.{CallLog, current}
use Rattle.tree_trait.specs.CrashImages.{Among, all_settled}
use Rattle.job_reports.specs.declared.report.Did.{Did}
use Rattle.job_reports.specs.declared.report.Did.TheVariants.{Began, Chunk, Placed, Removed, Made, Set, Kept, Skipped, Cleaned, Barrier, Asked, Merges, Moved, Troubled, Ended}
use Rattle.job_reports.specs.Jobs.{ItemOfJob, item_of}
use Rattle.job_reports.specs.Paths.{folder_of}
use Rattle.job_reports.specs.Reports.{ends}
use Rattle.session_entries.specs.declared.history.Event.{Event}
use Rattle.session_entries.specs.declared.history.Event.TheVariants.{Key, Look, Sought, Order, Step, Next, Closed}
use Rattle.session_entries.specs.declared.history.Event.TheVariants as event
use Rattle.session_entries.specs.declared.history.Entry.{Entry}
use Rattle.session_entries.specs.LiveJobs.{LiveJob, after_event, after_report, live, live_item, live_jobs, turned_live_job}
use Rattle.session_entries.specs.Named.{left_parts, live_parts, named_parts, names, names_path}
use Rattle.copy_move.specs.Jobs.{Running}
use Rattle.laws_sessions.specs.Doubt.{name_waits, node_waits}
use Rattle.laws_sessions.specs.Owed.{IsOwed}
use Rattle.laws_sessions.specs.Owners.{HasOwner, OwnersLaw, ended_after, has_ended}
use Rattle.laws_sessions.specs.OwnPaths.{last_namer, namer_after}
use Rattle.laws_sessions.specs.Traces.{EventLeads, IsJob, IsTraced, Stand}
use Rattle.laws_sessions.proofs.Going.{only_job}
use Rattle.laws_sessions.proofs.Histories.{IsReached, traced_reached}
use Rattle.laws_sessions.proofs.ModesStay.{event_still as mode_still, named_before}
use Rattle.laws_sessions.proofs.OneLive.{one_id}
use Rattle.laws_sessions.proofs.Owing.{owed_modes, owed_names}
use Rattle.laws_sessions.proofs.Prefixes.{told_of}
use Rattle.laws_sessions.proofs.Reports.{HasLive}
use Rattle.laws_sessions.proofs.Sources.{item_in}
use Rattle.laws_sessions.proofs.Staying.{event_still as name_still}

-- a path that is named last by none after an event was so before it, and the event doesn't name it
unnamed_last : (what : Event) (path : Route) (before : Option ℕ) → namer_after path what before ≡ None → (names_path what path ≡ false) × (before ≡ None)
unnamed_last (Step id did) path before h = by (names did path) refl h
  where
    by : (b : Bool) → names did path ≡ b → if◌then◌else◌ b (Some id) before ≡ None → (names did path ≡ false) × (before ≡ None)
    by true is some = absurd (let f : ⊥ = cc in f)
    by false is none = (is, none)
unnamed_last (event.Began id plan background) path before h = (refl, h)
unnamed_last (Next id plan) path before h = (refl, h)
unnamed_last (Order id order) path before h = (refl, h)
unnamed_last (Key key time refusals lost) path before h = (refl, h)
unnamed_last (Look refusals) path before h = (refl, h)
unnamed_last Sought path before h = (refl, h)
unnamed_last Closed path before h = (refl, h)

-- nor was it ever a part
never_part : (g : List Entry) (path : Route) → last_namer path g ≡ None → Among (named_parts g) path → ⊥
never_part [] path none among = among
never_part (e ∷ g) path none among =
    let u = unnamed_last e.what path (last_namer path g) none in
    never_part g path u.1 (named_before e.what (live_parts g) (left_parts g) (named_parts g) path u.0 among)

module _ (opening : CallLog) (tree : IsTree (current opening)) (settled : all_settled opening.changes ≡ true) (path : Route) where
  -- nothing waits at the opening
  none_owed : (stand : Stand) (now : CallLog) → IsTraced opening [] stand now → IsOwed stand.dirty now (folder_of path) → ⊥
  none_owed stand now traced owed = by (subst (λ xs. IsOwed xs now (folder_of path)) (ap (λ (s : Stand). s.dirty) traced.0) owed)
    where
      by : IsOwed [] now (folder_of path) → ⊥
      by (inl none) = none
      by (inr other) = other.1

  no_name : (g : List Entry) (stand : Stand) (now : CallLog) → IsTraced opening g stand now → last_namer path g ≡ None → name_waits now path ≡ false
  no_name [] stand now traced none = false_from_ne_true _ (λ waits. none_owed stand now traced (owed_names opening now [] stand path tree settled traced waits))
  no_name (e ∷ older) stand now (was, before, traced, f) none =
      let u = unnamed_last e.what path (last_namer path older) none in
      let r = traced_reached opening tree settled older was before traced in
      (name_still opening older was before r path (no_name older was before traced u.1)
      (λ is. never_part older path u.1 (r.kept.known.aside path (r.kept.known.part path is).0)) e.what f.after now f.leads u.0).after

  no_mode : (g : List Entry) (stand : Stand) (now : CallLog) → IsTraced opening g stand now → last_namer path g ≡ None → node_waits now path ≡ false
  no_mode [] stand now traced none = false_from_ne_true _ (λ waits.
      subst (λ (s : Stand). Among s.dirty path) traced.0 (owed_modes opening now [] stand path tree settled traced (λ among. among) waits))
  no_mode (e ∷ older) stand now (was, before, traced, f) none =
      let u = unnamed_last e.what path (last_namer path older) none in
      let r = traced_reached opening tree settled older was before traced in
      (mode_still opening older was before r path (no_mode older was before traced u.1) (never_part older path u.1) e.what f.after now f.leads u.0).after

-- a job is live, or its end was reported
abbrev LivesIn : ℕ → List LiveJob → Bool → Type 0
LivesIn id jobs ended = ((item : ItemOfJob) × (live_item id jobs ≡ Some item)) ⊎ (ended ≡ true)

none_live : (id : ℕ) (item : ItemOfJob) → live_item id [] ≡ Some item → ⊥
none_live id item its = let no : ⊥ = cc in no

-- after a report of the one live job
module _ (l : LiveJob) (number : ℕ) (its : l.id ≡ number) where
  stays : (part : Option Route) (b : Bool) → live_item number (if◌then◌else◌ b ((record l { part = part }) ∷ []) (l ∷ [])) ≡ Some l.item
  stays part true = ap (λ c. if◌then◌else◌ c (Some l.item) None) (eq-eqb l.id number its)
  stays part false = ap (λ c. if◌then◌else◌ c (Some l.item) None) (eq-eqb l.id number its)

  reported : (did : Did) → LivesIn number (after_report number did (l ∷ [])) (ends did)
  reported (Ended ending part) = inr refl
  reported (Began part) = inl (l.item, stays (Some part) (l.id == number))
  reported (Placed path) = inl (l.item, stays None (l.id == number))
  reported (Cleaned part) = inl (l.item, stays None (l.id == number))
  reported (Chunk count) = inl (l.item, stays l.part (l.id == number))
  reported (Set path) = inl (l.item, stays l.part (l.id == number))
  reported (Removed path) = inl (l.item, stays l.part (l.id == number))
  reported (Made made) = inl (l.item, stays l.part (l.id == number))
  reported (Kept kept) = inl (l.item, stays l.part (l.id == number))
  reported (Skipped path cause) = inl (l.item, stays l.part (l.id == number))
  reported Barrier = inl (l.item, stays l.part (l.id == number))
  reported (Asked question) = inl (l.item, stays l.part (l.id == number))
  reported (Merges transfer pair names) = inl (l.item, stays l.part (l.id == number))
  reported (Moved pair) = inl (l.item, stays l.part (l.id == number))
  reported (Troubled trouble) = inl (l.item, stays l.part (l.id == number))

  -- and after it has gone on with its next source
  turned : (o : Option ItemOfJob) → (item : ItemOfJob) × (live_item number (option_map_or (λ i. map (turned_live_job number i) (l ∷ [])) o (l ∷ [])) ≡ Some item)
  turned None = (l.item, ap (λ c. if◌then◌else◌ c (Some l.item) None) (eq-eqb l.id number its))
  turned (Some i) = by (l.id == number)
    where
      by : (b : Bool) → (item : ItemOfJob) × (live_item number (if◌then◌else◌ b (live number i) l ∷ []) ≡ Some item)
      by true = (i, ap (λ c. if◌then◌else◌ c (Some i) None) (eq-eqb number number refl))
      by false = (l.item, ap (λ c. if◌then◌else◌ c (Some l.item) None) (eq-eqb l.id number its))

module _ (opening : CallLog) (tree : IsTree (current opening)) (settled : all_settled opening.changes ≡ true) (path : Route) where
  module _ (older : List Entry) (was : Stand) (before : CallLog) (traced : IsTraced opening older was before) (id : ℕ)
      (earlier : last_namer path older ≡ Some id → LivesIn id (live_jobs older) (has_ended id older)) where
    r : IsReached opening older was before
    r = traced_reached opening tree settled older was before traced

    one : (number : ℕ) (job : Running) → IsJob number was.jobs job → (l : LiveJob) × (live_jobs older ≡ l ∷ []) × (l.id ≡ number)
    one number job its =
        let only = only_job number was.jobs job (told_of opening before older r.part) was.dirty r.marks before its r.knows in
        let l : LiveJob = record { id = job.id; item = item_in job.work; part = r.part } in
        (l, subst (λ js. HasLive (live_jobs older) js r.part) only.0 r.live, only.1)

    -- where the one live job is this one, it is live or has ended after its report
    mine : (number : ℕ) (did : Did) (l : LiveJob) → live_jobs older ≡ l ∷ [] → l.id ≡ number → number ≡ id → LivesIn id (after_report number did (live_jobs older)) (has_ended id older || ((number == id) && ends did))
    mine number did l is l_is same = elim (reported l number l_is did) [
      | inl lives ↦ inl (lives.0, subst (λ n. live_item n (after_report number did (live_jobs older)) ≡ Some lives.0) same (subst (λ js. live_item number (after_report number did js) ≡ Some lives.0) (sym is) lives.1))
      | inr over ↦ inr (or_right (has_ended id older) ((number == id) && ends did) (and_from (number == id) (ends did) (eq-eqb number id same) over))
    ]

    stepped : (number : ℕ) (did : Did) (l : LiveJob) → live_jobs older ≡ l ∷ [] → l.id ≡ number → (b : Bool) → if◌then◌else◌ b (Some number) (last_namer path older) ≡ Some id
        → LivesIn id (after_report number did (live_jobs older)) (has_ended id older || ((number == id) && ends did))
    stepped number did l is l_is true named = mine number did l is l_is (let same : number ≡ id = cc in same)
    stepped number did l is l_is false named = elim (earlier named) [
      | inl lives ↦ mine number did l is l_is (sym l_is ∙ one_id l id lives.0 (subst (λ js. live_item id js ≡ Some lives.0) is lives.1))
      | inr over ↦ inr (or_left (has_ended id older) ((number == id) && ends did) over)
    ]

    turned_on : (number : ℕ) (l : LiveJob) → live_jobs older ≡ l ∷ [] → l.id ≡ number → (o : Option ItemOfJob) → last_namer path older ≡ Some id
        → LivesIn id (option_map_or (λ i. map (turned_live_job number i) (live_jobs older)) o (live_jobs older)) (has_ended id older)
    turned_on number l is l_is o named = elim (earlier named) [
      | inl lives ↦
          let same : number ≡ id = sym l_is ∙ one_id l id lives.0 (subst (λ js. live_item id js ≡ Some lives.0) is lives.1) in
          let on = turned l number l_is o in
          inl (
            on.0,
            subst (λ n. live_item n (option_map_or (λ i. map (turned_live_job number i) (live_jobs older)) o (live_jobs older)) ≡ Some on.0) same
                (subst (λ js. live_item number (option_map_or (λ i. map (turned_live_job number i) js) o js) ≡ Some on.0) (sym is) on.1),
          )
      | inr over ↦ inr over
    ]

    by : (what : Event) (after : Stand) (now : CallLog) → EventLeads was what after before now → namer_after path what (last_namer path older) ≡ Some id → LivesIn id (after_event what (live_jobs older)) (ended_after id what (has_ended id older))
    by (Step number did) after now s named = let o = one number s.job s.its in stepped number did o.0 o.1 o.2 (names did path) named
    by (Next number plan) after now s named = let o = one number s.job s.its in turned_on number o.0 o.1 o.2 (item_of plan) named
    by (event.Began number plan background) after now s named = elim (earlier named) [
      | inl lives ↦
          let none : live_jobs older ≡ [] = subst (λ js. HasLive (live_jobs older) js r.part) s.none_live r.live in
          absurd (none_live id lives.0 (subst (λ js. live_item id js ≡ Some lives.0) none lives.1))
      | inr over ↦ inr over
    ]
    by (Key key time refusals lost) after now s named = earlier named
    by (Look refusals) after now s named = earlier named
    by Sought after now s named = earlier named
    by (Order number order) after now s named = earlier named
    by Closed after now s named = earlier named

  lives : (g : List Entry) (stand : Stand) (now : CallLog) → IsTraced opening g stand now → (id : ℕ) → last_namer path g ≡ Some id → LivesIn id (live_jobs g) (has_ended id g)
  lives [] stand now traced id named = absurd (let f : ⊥ = cc in f)
  lives (e ∷ older) stand now (was, before, traced, f) id named = by older was before traced id (lives older was before traced id) e.what f.after now f.leads named

  -- what waits was named by a job
  owner : (g : List Entry) (stand : Stand) (now : CallLog) → IsTraced opening g stand now → (last_namer path g ≡ None → ⊥) → HasOwner g path
  owner g stand now traced some = of_namer (last_namer path g) refl
    where
      of_namer : (o : Option ℕ) → last_namer path g ≡ o → HasOwner g path
      of_namer None is = absurd (some is)
      of_namer (Some id) is = record { id = id; named = is; lives = lives g stand now traced id is }

pub owners_law : OwnersLaw
owners_law = record {
  names = λ opening now newest stand path tree settled traced waits. (
    owner opening tree settled path newest stand now traced (λ none. both_ways _ (no_name opening tree settled path newest stand now traced none) waits),
    owed_names opening now newest stand path tree settled traced waits,
  );
  modes = λ opening now newest stand path tree settled traced unnamed waits. (
    owner opening tree settled path newest stand now traced (λ none. both_ways _ (no_mode opening tree settled path newest stand now traced none) waits),
    owed_modes opening now newest stand path tree settled traced unnamed waits,
  );
}
