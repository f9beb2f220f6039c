-- The same in the words of the history alone: the entry that reports a job's first change is such a step.
use Rattle.std.proofs.Common.{◌≡◌, ◌⊎◌, ℕ, Bool, true, false, not, List, [], ◌∷◌, refl, sym, ◌∙◌, ap, subst, inl, inr, Option, Some, None, arith, append-nil}
use Rattle.std.proofs.lemmas.Bool.{false≢true, true≢false}
use Rattle.mc_text.specs.Routes.{Route}
use Rattle.tree_trait.specs.Shape.{IsTree}
use Rattle.tree_trait.specs.Change.{CallLog, current}
use Rattle.tree_trait.specs.CrashImages.{Among, all_settled}
use Rattle.laws_crash.specs.Guarded.{Marks}
use Rattle.job_answers.specs.declared.replies.Replies.{Replies}
use Rattle.job_reports.specs.declared.report.Did.{Did}
use Rattle.job_reports.specs.declared.report.Did.TheVariants.{Chunk, Placed, Removed, Made, Set, Kept, Skipped, Cleaned, Barrier, Asked, Merges, Moved, Troubled, Ended}
use Rattle.job_reports.specs.Paths.{folder_of}
use Rattle.session_entries.specs.declared.history.Event.TheVariants.{Step}
use Rattle.session_entries.specs.declared.history.Entry.{Entry}
use Rattle.copy_move.specs.declared.run.Course.{Course}
use Rattle.copy_move.specs.declared.run.Course.TheVariants.{GoesOn}
use Rattle.copy_tree.specs.Standing.{is_fresh as is_fresh_tree}
use Rattle.copy_job.specs.Standing.{SubtreeCopying}
use Rattle.copy_move.specs.declared.work.Work.{Work}
use Rattle.copy_move.specs.declared.work.Work.TheVariants.{Copy, Delete, Make, Move, SetMode, RemoveEmptied}
use Rattle.delete_job.specs.declared.deletion.Stage.{Stage}
use Rattle.delete_job.specs.declared.deletion.Stage.TheVariants.{Begin, Going, Sync}
use Rattle.delete_job.specs.Standing.{at_barrier, is_fresh as is_fresh_stage}
use Rattle.make_job.specs.Makings as makings
use Rattle.move_job.specs.Movings as movings
use Rattle.emptied_job.specs.Removals as removals
use Rattle.mode_job.specs.Settings as settings
use Rattle.copy_move.specs.Jobs.{Running, WorkTells, is_fresh}
use Rattle.copy_move.specs.Settling.{changed_folder}
use Rattle.copy_move.specs.JobStepReports.{SyncsOwed}
use Rattle.laws_sessions.specs.Calmed.{HasBegun, changes_name, changes_thing}
use Rattle.laws_sessions.specs.CalmedLaw.{CalmLaw}
use Rattle.laws_sessions.specs.Doubt.{name_waits, node_waits}
use Rattle.session_entries.specs.LiveJobs.{live_jobs, live_item}
use Rattle.laws_sessions.specs.ApartFolders.{IsApart}
use Rattle.session_entries.specs.Named.{begins_change, has_changed, is_part_of_other, left_parts, live_parts, named_after, named_by, named_parts}
use Rattle.laws_sessions.specs.Replayed.{log_prefix}
use Rattle.session_entries.specs.Entries.{IsMoment, calls_in}
use Rattle.laws_sessions.specs.Traces.{EventLeads, IsTraced, Stand, StepLeads, WorkLeads}
use Rattle.laws_sessions.proofs.Beginnings.{goes_then}
use Rattle.job_reports.specs.Jobs.{folder_changed}
use Rattle.laws_sessions.proofs.Sources.{folder_is as item_folder}
use Rattle.laws_sessions.proofs.Done.{IsFound, found_moment}
use Rattle.laws_sessions.proofs.Finished.{AreTidy, IsTidyJob, traced_tidy}
use Rattle.laws_sessions.proofs.Prefixes.{told_of}
use Rattle.laws_sessions.proofs.Going.{only_job}
use Rattle.laws_sessions.proofs.Histories.{traced_reached}
use Rattle.laws_sessions.proofs.JobKnows.{WorkKnows}
use Rattle.laws_sessions.proofs.Knowing.{HistoryFacts}
use Rattle.laws_sessions.proofs.Moments.{prefix_is, log_of, traced_count}
use Rattle.laws_sessions.proofs.FirstChanges.{modes_calm, names_calm}
use Rattle.laws_sessions.proofs.Unchanged.{has_begun, is_going}
use Rattle.laws_sessions.proofs.Reports.{HasLive, JobsKnow, told_item}
use Rattle.laws_sessions.proofs.TreeKnown.{ItemHas, TreeKnown, is_over}

fresh_stage : (stage : Stage) → at_barrier stage ≡ false → is_going stage ≡ false → is_fresh_stage stage ≡ true
fresh_stage Begin going none = refl
fresh_stage Going going none = absurd (false≢true (sym none))
fresh_stage Sync going none = absurd (false≢true (sym going))

-- work that begins a change, and has begun none, has changed nothing yet, and no part of it stands
module _ (told : HistoryFacts) (dirty : List Route) (marks : Marks) (log : CallLog) (course : Course) (going : is_over course ≡ false) where
  abbrev IsStart : Work → Type 0
  IsStart work = (is_fresh work ≡ true) × (told.part ≡ None)

  -- nothing is at work in a copy of folders that has changed nothing
  fresh_copy : (c : SubtreeCopying) → not (is_fresh_tree c.at.stage) ≡ false → TreeKnown told dirty marks log course c → IsStart (Copy c)
  fresh_copy c clean k =
      let fresh = still_fresh (is_fresh_tree c.at.stage) clean in
      let g = k.goes going in
      let s = g.stands in
      let o = s.unbegun fresh in
      (fresh, subst (λ i. ItemHas told dirty marks (current log) course i) o.none k.part)
    where
      still_fresh : (b : Bool) → not b ≡ false → b ≡ true
      still_fresh true h = refl
      still_fresh false h = absurd (true≢false h)

  fresh_then : (replies : Replies) (old new : Work) (did : Did) → WorkTells replies old did new → begins_change did ≡ true → has_begun old ≡ false → WorkKnows told dirty marks log course old → IsStart old
  fresh_then replies (Copy c) (Copy new) did t h clean k = fresh_copy c clean k
  fresh_then replies (Delete d) (Delete new) (Removed path) t h clean (name, none, intact) = (fresh_stage d.stage t.0 clean, none)
  fresh_then replies (Make m) (Make new) (Made path) t h clean (name, none) = (ap makings.is_fresh t.0, none)
  fresh_then replies (Move m) (Move new) (Moved pair) t h clean k = (ap movings.is_fresh t.0, k.none)
  fresh_then replies (SetMode s) (SetMode new) (Set path) t h clean (name, none) = (ap settings.is_fresh t.0, none)
  fresh_then replies (RemoveEmptied r) (RemoveEmptied new) (Removed path) t h clean (name, none) = (ap removals.is_fresh t.0, none)
  fresh_then replies old new (Chunk count) t h clean k = absurd (false≢true h)
  fresh_then replies old new (Placed path) t h clean k = absurd (false≢true h)
  fresh_then replies old new (Kept kept) t h clean k = absurd (false≢true h)
  fresh_then replies old new (Asked question) t h clean k = absurd (false≢true h)
  fresh_then replies old new (Merges transfer pair names) t h clean k = absurd (false≢true h)
  fresh_then replies old new (Skipped path why) t h clean k = absurd (false≢true h)
  fresh_then replies old new (Cleaned part) t h clean k = absurd (false≢true h)
  fresh_then replies old new Barrier t h clean k = absurd (false≢true h)
  fresh_then replies old new (Troubled trouble) t h clean k = absurd (false≢true h)
  fresh_then replies old new (Ended ending part) t h clean k = absurd (false≢true h)
  fresh_then replies old new did t h clean k = absurd t

module _ (opening : CallLog) (tree : IsTree (current opening)) (settled : all_settled opening.changes ≡ true) (end : CallLog) (e : Entry) (older : List Entry) (folder : Route) (h : HasBegun e older folder)
    (f : IsFound opening tree settled end e older) where
  r : Rattle.laws_sessions.proofs.Histories.IsReached opening older f.was f.before
  r = traced_reached opening tree settled older f.was f.before f.traced

  abbrev told : HistoryFacts
  told = told_of opening f.before older r.part

  -- the job whose report it is: it had changed nothing
  record Begins : Type 0 where
    pub job : Running
    pub new : Running
    pub id_is : job.id ≡ h.id
    pub jobs_is : f.was.jobs ≡ job ∷ []
    pub works : WorkLeads job h.did new f.was.dirty f.after.dirty f.before f.now
    pub goes : job.course ≡ GoesOn
    pub fresh : is_fresh job.work ≡ true
    pub folder_is : folder ≡ changed_folder job.work

  of_works : (job new : Running) → f.was.jobs ≡ job ∷ [] → job.id ≡ h.id → WorkLeads job h.did new f.was.dirty f.after.dirty f.before f.now → Begins
  of_works job new jobs_is id_is works = record {
    job = job;
    new = new;
    id_is = id_is;
    jobs_is = jobs_is;
    works = works;
    goes = goes.0;
    fresh = start.0;
    folder_is =
        let same = told_item job (live_jobs older) r.part h.item (subst (λ js. HasLive (live_jobs older) js r.part) jobs_is r.live)
        (subst (λ n. live_item n (live_jobs older) ≡ Some h.item) (sym id_is) h.its) in
        h.within ∙ (ap folder_changed (sym same) ∙ item_folder job.work);
  }
    where
      tidy : IsTidyJob opening older f.was.dirty f.before job
      tidy = subst (λ js. AreTidy opening older f.was.dirty f.before js) jobs_is (traced_tidy opening tree settled older f.was f.before f.traced)

      goes : (job.course ≡ GoesOn) × ((work : Work) × WorkTells job.replies job.work h.did work)
      goes = goes_then job new h.did job.course refl works.tells h.begins

      start : (is_fresh job.work ≡ true) × (r.part ≡ None)
      start = fresh_then (told_of opening f.before older r.part) f.was.dirty r.marks f.before job.course (ap is_over goes.0) job.replies job.work goes.1.0 h.did goes.1.1 h.begins (tidy.clean (ap (λ n. has_changed n older) id_is ∙ h.unchanged))
          (subst (λ js. JobsKnow (told_of opening f.before older r.part) f.was.dirty r.marks f.before js) jobs_is r.knows)

  begins : Begins
  begins = by (subst (λ w. EventLeads f.was w f.after f.before f.now) h.reports f.leads)
    where
      no_sync : (job new : Running) (synced : Route) → SyncsOwed job synced h.did new f.was.dirty f.after.dirty (Some f.before) (Some f.now) → ⊥
      no_sync job new synced (inl s) = false≢true (sym (ap begins_change s.did_is) ∙ h.begins)
      no_sync job new synced (inr s) = false≢true (sym (ap begins_change s.did_is) ∙ h.begins)

      one_of : (job : Running) → Rattle.laws_sessions.specs.Traces.IsJob h.id f.was.jobs job → (f.was.jobs ≡ job ∷ []) × (job.id ≡ h.id)
      one_of job its = only_job h.id f.was.jobs job (told_of opening f.before older r.part) f.was.dirty r.marks f.before its r.knows

      of_step : (job : Running) (after : Option Running) → Rattle.laws_sessions.specs.Traces.IsJob h.id f.was.jobs job → StepLeads job h.did after f.was.dirty f.after.dirty f.before f.now → Begins
      of_step job after its (inl (new, inl works, after_is)) = let one = one_of job its in of_works job new one.0 one.1 works
      of_step job after its (inl (new, inr syncs, after_is)) = absurd (no_sync job new syncs.path syncs.synced)
      of_step job after its (inr (gives, after_is)) = absurd (false≢true (sym (ap begins_change gives.did_is) ∙ h.begins))

      by : EventLeads f.was (Step h.id h.did) f.after f.before f.now → Begins
      by s = of_step s.job s.new s.its s.leads

  pub names_then : (path : Route) → name_waits f.now path ≡ true → (changes_name h.did path ≡ true) ⊎ ((name_waits f.before path ≡ true) × IsApart f.before folder (folder_of path))
  names_then path waits =
      let b = begins in
      subst (λ (p : Route). (changes_name h.did path ≡ true) ⊎ ((name_waits f.before path ≡ true) × IsApart f.before p (folder_of path))) (sym b.folder_is)
      (names_calm opening f.before f.now older f.was f.after.dirty b.job b.new h.did tree settled f.traced b.jobs_is b.works b.goes b.fresh path waits)

  pub modes_then : (path : Route) → (Among (named_parts older) path → ⊥) → node_waits f.now path ≡ true
      → (changes_thing h.did path ≡ true) ⊎ (Among (named_parts (e ∷ older)) path ⊎ ((node_waits f.before path ≡ true) × IsApart f.before folder path))
  modes_then path unnamed waits =
      let b = begins in
      subst (λ what. (changes_thing h.did path ≡ true) ⊎ (Among (named_after what (live_parts older) (left_parts older) (named_parts older)) path ⊎ ((node_waits f.before path ≡ true) × IsApart f.before folder path))) (sym h.reports)
      (subst (λ (p : Route). (changes_thing h.did path ≡ true) ⊎ (Among (named_by h.did (is_part_of_other h.id (live_parts older)) (left_parts older) (named_parts older)) path ⊎ ((node_waits f.before path ≡ true) × IsApart f.before p path))) (sym b.folder_is)
      (subst (λ (n : ℕ). (changes_thing h.did path ≡ true) ⊎ (Among (named_by h.did (is_part_of_other n (live_parts older)) (left_parts older) (named_parts older)) path ⊎ ((node_waits f.before path ≡ true) × IsApart f.before (changed_folder (let j : Running = b.job in j.work)) path))) b.id_is
      (modes_calm opening f.before f.now older f.was f.after.dirty b.job b.new h.did tree settled f.traced b.jobs_is b.works b.goes b.fresh path unnamed waits)))

module _ (opening now : CallLog) (newest : List Entry) (stand : Stand) (tree : IsTree (current opening)) (settled : all_settled opening.changes ≡ true) (traced : IsTraced opening newest stand now)
    (e : Entry) (older : List Entry) (folder path : Route) (h : HasBegun e older folder) (moment : IsMoment newest (e ∷ older) (e ∷ older) e.calls) where
  f : IsFound opening tree settled now e older
  f = found_moment opening tree settled now e older path newest (e ∷ older) (e ∷ older) stand e.calls now [] traced (ap (log_of now) (sym (append-nil now.changes))) moment (inl refl)

  at_end : log_prefix opening e.calls now ≡ f.now
  at_end = let c = f.calls in prefix_is opening now e.calls f.now f.later f.later_is (omega (arith, c))

  at_start : log_prefix opening (calls_in older) now ≡ f.before
  at_start = let n = traced_count opening f.before older f.was f.traced in prefix_is opening now (calls_in older) f.before f.rest f.end_is (omega (arith, n))

  apart_then : (q : Route) → IsApart f.before folder q → IsApart (log_prefix opening (calls_in older) now) folder q
  apart_then q apart = subst (λ (l : CallLog). IsApart l folder q) (sym at_start) apart

  calms_names : name_waits (log_prefix opening e.calls now) path ≡ true → (changes_name h.did path ≡ true) ⊎ ((name_waits (log_prefix opening (calls_in older) now) path ≡ true) × IsApart (log_prefix opening (calls_in older) now) folder (folder_of path))
  calms_names waits = elim (names_then opening tree settled now e older folder h f path (subst (λ (l : CallLog). name_waits l path ≡ true) at_end waits)) [
    | inl changed ↦ inl changed
    | inr (waited, apart) ↦ inr (subst (λ (l : CallLog). name_waits l path ≡ true) (sym at_start) waited, apart_then (folder_of path) apart)
  ]

  calms_modes : (Among (named_parts older) path → ⊥) → node_waits (log_prefix opening e.calls now) path ≡ true
      → (changes_thing h.did path ≡ true) ⊎ (Among (named_parts (e ∷ older)) path ⊎ ((node_waits (log_prefix opening (calls_in older) now) path ≡ true) × IsApart (log_prefix opening (calls_in older) now) folder path))
  calms_modes unnamed waits = elim (modes_then opening tree settled now e older folder h f path unnamed (subst (λ (l : CallLog). node_waits l path ≡ true) at_end waits)) [
    | inl changed ↦ inl changed
    | inr rest ↦ elim rest [ inl part ↦ inr (inl part) | inr (waited, apart) ↦ inr (inr (subst (λ (l : CallLog). node_waits l path ≡ true) (sym at_start) waited, apart_then path apart)) ]
  ]

pub calm_law : CalmLaw
calm_law opening now newest stand tree settled traced = record {
  names = λ e older folder path h moment not_others waits. calms_names opening now newest stand tree settled traced e older folder path h moment waits;
  modes = λ e older folder path h moment not_others unnamed waits. calms_modes opening now newest stand tree settled traced e older folder path h moment unnamed waits;
}
