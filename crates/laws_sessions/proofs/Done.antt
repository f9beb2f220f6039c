-- What a job did stays done once it is done with a source, in the words of the history: its entry tells of the job that was live then.
use Rattle.std.proofs.Common.{◌≡◌, ◌⊎◌, ℕ, ◌+◌, Bool, true, false, List, [], ◌∷◌, ◌++◌, length, refl, sym, ◌∙◌, ap, subst, inl, inr, Option, Some, None, arith, append-nil, append_assoc}
use Rattle.std.specs.Prelude.{is_some}
use Rattle.mc_text.specs.Routes.{Route}
use Rattle.tree_trait.specs.declared.file_system.FileSystem.{FileSystem}
use Rattle.tree_trait.specs.FileSystem.{Spot, find, value_at}
use Rattle.tree_trait.specs.Shape.{IsTree}
use Rattle.tree_trait.specs.Change.{Change, CallLog, current}
use Rattle.tree_trait.specs.CrashImages.{Among, IsCrashImage, all_settled}
use Rattle.job_reports.specs.declared.report.Ending.TheVariants.{Finished}
use Rattle.job_reports.specs.declared.report.Did.TheVariants.{Ended}
use Rattle.job_reports.specs.declared.job.Job.{Job}
use Rattle.job_reports.specs.Jobs.{ItemOfJob}
use Rattle.session_entries.specs.declared.history.Event.TheVariants.{Next, Step}
use Rattle.session_entries.specs.declared.history.Entry.{Entry}
use Rattle.copy_move.specs.Jobs.{Running}
use Rattle.copy_move.specs.JobStepReports.{SyncsOwed}
use Rattle.laws_sessions.specs.Doubt.{is_unsettled}
use Rattle.laws_sessions.specs.OwnPaths.{IsOwnPath}
use Rattle.session_entries.specs.LiveJobs.{live_item, live_jobs}
use Rattle.session_entries.specs.Sources.{IsDoneWith}
use Rattle.session_entries.specs.Named.{has_changed, left_parts, live_parts, named_after, named_parts, IsUnnamedSince, names_path}
use Rattle.laws_sessions.specs.Replayed.{log_prefix, replayed_tree}
use Rattle.session_entries.specs.Entries.{IsMoment, calls_in}
use Rattle.laws_sessions.specs.Safe.{IsPart}
use Rattle.laws_sessions.specs.Staying.{HasFinished, IsNoMatterOf}
use Rattle.laws_sessions.specs.StayingLaw.{DoneLaw}
use Rattle.laws_sessions.specs.Traces.{EventLeads, IsJob, IsTraced, Stand, StepLeads, WorkLeads}
use Rattle.laws_sessions.proofs.Prefixes.{told_of}
use Rattle.laws_sessions.proofs.Going.{only_job}
use Rattle.laws_sessions.proofs.Histories.{enters, traced_reached}
use Rattle.laws_sessions.proofs.Holding.{holds_since}
use Rattle.laws_sessions.proofs.Lasting.{finished_stays_law}
use Rattle.laws_sessions.proofs.Moments.{log_of, prefix_is, traced_count}
use Rattle.laws_sessions.proofs.Reports.{HasLive, told_item}
use Rattle.laws_sessions.proofs.Sources.{item_in}
use Rattle.laws_sessions.proofs.Stepped.{more}
use Rattle.laws_sessions.proofs.Turns.{done_with}
use Rattle.laws_sessions.proofs.Unnamed.{replayed_since}

-- what is unnamed since an entry is unnamed since those before it, where the entry doesn't name it
since_before : (e : Entry) (older g : List Entry) (path : Route) → names_path e.what path ≡ false → IsUnnamedSince (e ∷ older) path g → IsUnnamedSince older path g
since_before e older [] path unnamed same = absurd (let n = ap (λ (xs : List Entry). length xs) same in omega (arith, n))
since_before e older (x ∷ g) path unnamed (inl same) = subst (IsUnnamedSince older path) same (inr (unnamed, here older))
  where
    here : (xs : List Entry) → IsUnnamedSince xs path xs
    here [] = refl
    here (y ∷ ys) = inl refl
since_before e older (x ∷ g) path unnamed (inr (named, since)) = inr (named, since_before e older g path unnamed since)

module _ (opening : CallLog) (tree : IsTree (current opening)) (settled : all_settled opening.changes ≡ true) (end : CallLog) (e : Entry) (older : List Entry) where
  -- where the older entries ended, and what the entry says
  pub record IsFound : Type 0 where
    pub was : Stand
    pub after : Stand
    pub before : CallLog
    pub now : CallLog
    pub rest : List Change
    pub traced : IsTraced opening older was before
    pub leads : EventLeads was e.what after before now
    pub end_is : end ≡ more before rest
    -- and where it ended
    pub stand : Stand
    pub later : List Change
    pub whole : IsTraced opening (e ∷ older) stand now
    pub later_is : end ≡ more now later
    pub calls : length now.changes ≡ length opening.changes + e.calls

  found_at : (x : Entry) (g : List Entry) (stand : Stand) (now : CallLog) (rest : List Change) → IsTraced opening (x ∷ g) stand now → end ≡ more now rest → e ∷ older ≡ x ∷ g → IsFound
  found_at x g stand now rest (was, before, traced, f) end_is same =
      let first : e ≡ x = cc in
      let others : older ≡ g = cc in
      let n = enters opening g x.calls was before (traced_reached opening tree settled g was before traced) x.what f.after now f.leads f.counts in
      record {
        was = was;
        after = f.after;
        before = before;
        now = now;
        rest = n.made ++ rest;
        traced = subst (λ xs. IsTraced opening xs was before) (sym others) traced;
        leads = subst (λ (y : Entry). EventLeads was y.what f.after before now) (sym first) f.leads;
        end_is = end_is ∙ (ap (λ (l : CallLog). more l rest) n.now_is ∙ ap (log_of before) (append_assoc before.changes n.made rest));
        stand = stand;
        later = rest;
        whole = subst (λ xs. IsTraced opening xs stand now) (sym same) (was, before, traced, f);
        later_is = end_is;
        calls = f.counts ∙ ap (λ (y : Entry). length opening.changes + y.calls) (sym first);
      }

  found_since : (path : Route) (g : List Entry) (stand : Stand) (now : CallLog) (rest : List Change) → IsTraced opening g stand now → end ≡ more now rest → IsUnnamedSince (e ∷ older) path g → IsFound
  found_since path [] stand now rest traced end_is same = absurd (let n = ap (λ (xs : List Entry). length xs) same in omega (arith, n))
  found_since path (x ∷ g) stand now rest traced end_is (inl same) = found_at x g stand now rest traced end_is same
  found_since path (x ∷ g) stand now rest (was, before, traced, f) end_is (inr (unnamed, since)) =
      let n = enters opening g x.calls was before (traced_reached opening tree settled g was before traced) x.what f.after now f.leads f.counts in
      found_since path g was before (n.made ++ rest) traced (end_is ∙ (ap (λ (l : CallLog). more l rest) n.now_is ∙ ap (log_of before) (append_assoc before.changes n.made rest))) since

  pub found_moment : (path : Route) (newest standing coming : List Entry) (stand : Stand) (calls : ℕ) (now : CallLog) (rest : List Change) → IsTraced opening newest stand now → end ≡ more now rest → IsMoment newest standing coming calls
      → IsUnnamedSince (e ∷ older) path standing → IsFound
  found_moment path [] standing coming stand calls now rest traced end_is (standing_is, coming_is, calls_is) since =
      found_since path [] stand now rest traced end_is (subst (IsUnnamedSince (e ∷ older) path) standing_is since)
  found_moment path (x ∷ g) standing coming stand calls now rest traced end_is (inl (standing_is, coming_is, calls_is)) since =
      found_since path (x ∷ g) stand now rest traced end_is (subst (IsUnnamedSince (e ∷ older) path) standing_is since)
  found_moment path (x ∷ g) standing coming stand calls now rest (was, before, traced, f) end_is (inr (inl (standing_is, coming_is, least, most))) since =
      let n = enters opening g x.calls was before (traced_reached opening tree settled g was before traced) x.what f.after now f.leads f.counts in
      found_since path g was before (n.made ++ rest) traced (end_is ∙ (ap (λ (l : CallLog). more l rest) n.now_is ∙ ap (log_of before) (append_assoc before.changes n.made rest)))
      (subst (IsUnnamedSince (e ∷ older) path) standing_is since)
  found_moment path (x ∷ g) standing coming stand calls now rest (was, before, traced, f) end_is (inr (inr earlier)) since =
      let n = enters opening g x.calls was before (traced_reached opening tree settled g was before traced) x.what f.after now f.leads f.counts in
      found_moment path g standing coming was calls before (n.made ++ rest) traced (end_is ∙ (ap (λ (l : CallLog). more l rest) n.now_is ∙ ap (log_of before) (append_assoc before.changes n.made rest))) earlier since

  -- the job that is done with a source
  pub record IsEnder (was after : Stand) (before now : CallLog) (id : ℕ) (item : ItemOfJob) : Type 0 where
    pub part : Option Route
    pub job : Running
    pub new : Running
    pub jobs_is : was.jobs ≡ job ∷ []
    pub id_is : job.id ≡ id
    pub works : WorkLeads job (Ended Finished part) new was.dirty after.dirty before now
    pub same : item_in job.work ≡ item

  pub ender : (id : ℕ) (item : ItemOfJob) → IsDoneWith id e.what → live_item id (live_jobs older) ≡ Some item → (f : IsFound) → IsEnder f.was f.after f.before f.now id item
  ender id item done tells f = by (done_with id e.what done)
    where
      of_job : (part : Option Route) (job new : Running) → WorkLeads job (Ended Finished part) new f.was.dirty f.after.dirty f.before f.now → IsJob id f.was.jobs job → IsEnder f.was f.after f.before f.now id item
      of_job part job new works its =
          let r = traced_reached opening tree settled older f.was f.before f.traced in
          let one = only_job id f.was.jobs job (told_of opening f.before older r.part) f.was.dirty r.marks f.before its r.knows in
          record {
            part = part;
            job = job;
            new = new;
            jobs_is = one.0;
            id_is = one.1;
            works = works;
            same = told_item job (live_jobs older) r.part item (subst (λ js. HasLive (live_jobs older) js r.part) one.0 r.live) (subst (λ n. live_item n (live_jobs older) ≡ Some item) (sym one.1) tells);
          }

      none : (part : Option Route) (job new : Running) (synced : Route) → SyncsOwed job synced (Ended Finished part) new f.was.dirty f.after.dirty (Some f.before) (Some f.now) → ⊥
      none part job new synced (inl s) = let is = s.did_is in let no : ⊥ = cc in no
      none part job new synced (inr s) = let is = s.did_is in let no : ⊥ = cc in no

      of_step : (part : Option Route) (job : Running) (after : Option Running) → IsJob id f.was.jobs job → StepLeads job (Ended Finished part) after f.was.dirty f.after.dirty f.before f.now → IsEnder f.was f.after f.before f.now id item
      of_step part job after its (inl (new, inl works, after_is)) = of_job part job new works its
      of_step part job after its (inl (new, inr syncs, after_is)) = absurd (none part job new syncs.path syncs.synced)
      of_step part job after its (inr (gives, after_is)) = absurd (let is = gives.did_is in let no : ⊥ = cc in no)

      ends : (part : Option Route) → EventLeads f.was (Step id (Ended Finished part)) f.after f.before f.now → IsEnder f.was f.after f.before f.now id item
      ends part s = of_step part s.job s.new s.its s.leads

      turns : (plan : Job) → EventLeads f.was (Next id plan) f.after f.before f.now → IsEnder f.was f.after f.before f.now id item
      turns plan s = of_job None s.job s.over s.done s.its

      by : ((plan : Job) × (e.what ≡ Next id plan)) ⊎ ((part : Option Route) × (e.what ≡ Step id (Ended Finished part))) → IsEnder f.was f.after f.before f.now id item
      by (inl (plan, is)) = turns plan (subst (λ w. EventLeads f.was w f.after f.before f.now) is f.leads)
      by (inr (part, is)) = ends part (subst (λ w. EventLeads f.was w f.after f.before f.now) is f.leads)

module _ (opening now : CallLog) (newest : List Entry) (stand : Stand) (tree : IsTree (current opening)) (settled : all_settled opening.changes ≡ true) (traced : IsTraced opening newest stand now)
    (e : Entry) (older standing coming : List Entry) (calls : ℕ) (path : Route) (image : FileSystem) (h : HasFinished e older path) (bare : names_path e.what path ≡ false) (none : IsNoMatterOf h.item (log_prefix opening (calls_in older) now) path → ⊥)
    (moment : IsMoment newest standing coming calls) (since : IsUnnamedSince (e ∷ older) path standing) (later : IsUnnamedSince (e ∷ older) path coming) (left : IsCrashImage now (length opening.changes + calls) image) where
  abbrev Holds : Type 0
  Holds = value_at image path ≡ (replayed_tree opening now older path).value

  found : IsFound opening tree settled now e older
  found = found_moment opening tree settled now e older path newest standing coming stand calls now [] traced (ap (log_of now) (sym (append-nil now.changes))) moment since

  -- a path that was never named as a part
  of_unnamed : (Among (named_parts older) path → ⊥) → Holds
  of_unnamed unnamed =
      let f = found in
      let by = ender opening tree settled now e older h.id h.item h.ended h.its f in
      let n = traced_count opening f.before older f.was f.traced in
      let at_start : log_prefix opening (calls_in older) now ≡ f.before = prefix_is opening now (calls_in older) f.before f.rest f.end_is (omega (arith, n)) in
      finished_stays_law opening now f.now newest older standing coming f.was stand (let a : Stand = f.after in a.dirty) by.job by.new by.part h.item calls path image tree settled traced
      (subst (λ (l : CallLog). IsTraced opening older f.was l) (sym at_start) f.traced)
      by.jobs_is (subst (λ (l : CallLog). WorkLeads by.job (Ended Finished by.part) by.new (let w : Stand = f.was in w.dirty) (let a : Stand = f.after in a.dirty) l f.now) (sym at_start) by.works)
      (subst (λ i. has_changed i older ≡ true) (sym by.id_is) h.changed) (subst (λ i. live_item i (live_jobs older) ≡ Some h.item) (sym by.id_is) h.its) (subst (λ i. IsOwnPath i h.item older path) (sym by.id_is) h.own) unnamed none moment
      (since_before e older standing path bare since) (since_before e older coming path bare later) left

  told_same : (replayed_tree opening now (e ∷ older) path) ≡ replayed_tree opening now older path
  told_same = replayed_since opening now older (e ∷ older) path (inr (bare, since_self older))
    where
      since_self : (xs : List Entry) → IsUnnamedSince xs path xs
      since_self [] = refl
      since_self (x ∷ xs) = inl refl

  -- a path at which nothing stood when the job had ended, and of which nothing waited
  abbrev at_end : CallLog
  at_end = log_prefix opening e.calls now

  of_gone : is_some (find (current at_end) path) ≡ false → is_unsettled at_end path ≡ false → Holds
  of_gone none sure = holds_since opening now newest (e ∷ older) standing coming stand calls path image tree settled traced moment since later sure (inr none) left ∙ ap (λ (s : Spot). s.value) told_same

  still_named : Among (named_parts older) path → Among (named_parts (e ∷ older)) path
  still_named named = elim (done_with h.id e.what h.ended) [
    | inl turns ↦ subst (λ w. Among (named_after w (live_parts older) (left_parts older) (named_parts older)) path) (sym turns.1) named
    | inr ends ↦ subst (λ w. Among (named_after w (live_parts older) (left_parts older) (named_parts older)) path) (sym ends.1) named
  ]

  by_part : (IsPart (e ∷ older) at_end path → ⊥) → (stands waits : Bool) → is_some (find (current at_end) path) ≡ stands → is_unsettled at_end path ≡ waits → Holds
  by_part no_part true waits stands_is waits_is = of_unnamed (λ named. no_part (record { named = still_named named; stays = inl stands_is }))
  by_part no_part false true stands_is waits_is = of_unnamed (λ named. no_part (record { named = still_named named; stays = inr waits_is }))
  by_part no_part false false stands_is waits_is = of_gone stands_is waits_is

pub done_law : DoneLaw
done_law opening now newest stand tree settled traced e older standing coming calls path image h no_part bare none moment since later left =
    by_part opening now newest stand tree settled traced e older standing coming calls path image h bare none moment since later left no_part (is_some (find (current (log_prefix opening e.calls now)) path)) (is_unsettled (log_prefix opening e.calls now) path)
    refl refl
