-- By induction over a history: what is known holds where each entry ends, and before each call of it.
use Rattle.std.proofs.Common.{◌≡◌, ℕ, ◌+◌, Bool, true, false, ◌||◌, List, [], ◌∷◌, length, take, refl, sym, ◌∙◌, ap, subst, inl, Option, Some, None, arith}
use Rattle.std.specs.Prelude.{if◌then◌else◌}
use Rattle.std.specs.Option.{option_map_or}
use Rattle.std.proofs.lemmas.Bool.{false≢true, true≢false, eq-eqb}
use Rattle.std.proofs.Math.Seq.{take-length}
use Rattle.mc_text.specs.Routes.{Route}
use Rattle.tree_trait.specs.Shape.{IsTree}
use Rattle.tree_trait.specs.Change.{Change, CallLog, current}
use Rattle.tree_trait.specs.CrashImages.{Among, all_settled}
use Rattle.laws_crash.specs.Guarded.{Marks}
use Rattle.laws_crash.specs.NameKnowledge.{as_it_stands}
use Rattle.laws_crash.proofs.Others.{opening_law}
use Rattle.laws_crash.proofs.Guarding.{found_there}
use Rattle.job_reports.specs.Jobs.{folder_changed}
use Rattle.job_reports.specs.declared.job.Job.{Job}
use Rattle.job_reports.specs.declared.report.Ending.TheVariants.{Finished}
use Rattle.laws_sessions.specs.Doubt.{is_pending, name_waits, way_waits}
use Rattle.tree_trait.specs.FileSystem.{find}
use Rattle.job_reports.specs.declared.report.Did.{Did}
use Rattle.job_reports.specs.declared.report.Did.TheVariants.{Ended}
use Rattle.job_reports.specs.declared.report.Did.TheVariants as reported
use Rattle.session_entries.specs.declared.history.Event.{Event}
use Rattle.session_entries.specs.declared.history.Event.TheVariants.{Key, Look, Sought, Began, Order, Step, Next, Closed}
use Rattle.session_entries.specs.declared.history.Entry.{Entry}
use Rattle.copy_move.specs.Jobs.{Running}
use Rattle.session_entries.specs.Entries.{is_closed}
use Rattle.session_entries.specs.LiveJobs.{after_event, live_jobs, live_item}
use Rattle.session_entries.specs.Named.{is_part_of_other, left_by, left_parts, live_parts, named_by, named_parts}
use Rattle.laws_sessions.specs.Replayed.{earlier_tree, log_prefix, replayed_event, replayed_step, replayed_tree}
use Rattle.laws_sessions.specs.Traces.{EventLeads, Follows, IsTraced, Stand, if_closed}
use Rattle.laws_sessions.proofs.Prefixes.{AreWithin, calm_event, calm_told, earlier_more, folders_event, folders_told, replayed_more, said_by, told_more, told_of, told_with, within_more}
use Rattle.laws_sessions.proofs.Going.{Goes, closed_know, closed_live, event_goes}
use Rattle.laws_sessions.proofs.Knowing.{any_since, anywhere, HistoryFacts, IsKept}
use Rattle.laws_sessions.proofs.NamedMore.{jobs_naming, kept_naming, naming}
use Rattle.laws_sessions.proofs.Pending.{pending_settled}
use Rattle.laws_sessions.proofs.WaitsAlone.{alone_calm}
use Rattle.laws_sessions.proofs.WaitsFor.{joint_settled, restless_settled}
use Rattle.laws_sessions.proofs.Reports.{HasLive, JobsKnow}
use Rattle.laws_sessions.proofs.Sources.{item_in}
use Rattle.laws_sessions.proofs.StillParts.{named_more}
use Rattle.laws_sessions.proofs.Stepped.{AreMids, calm_by, doubt_by, folders_by, modes_by, more, no_other, part_after, said_after, written_by}

-- what holds after these entries
pub record IsReached (opening : CallLog) (g : List Entry) (stand : Stand) (now : CallLog) : Type 0 where
  pub part : Option Route
  pub marks : Marks
  pub kept : IsKept (told_of opening now g part) stand.dirty marks now
  pub knows : JobsKnow (told_of opening now g part) stand.dirty marks now stand.jobs
  pub live : HasLive (live_jobs g) stand.jobs part
  pub within : AreWithin opening g now

-- a change of any path may wait after a report, where it might before
doubt_anywhere : (did : Did) (part : Option Route) → doubt_by did part any_since ≡ any_since
doubt_anywhere (Ended ending left) part = refl
doubt_anywhere (reported.Began made) part = refl
doubt_anywhere (reported.Placed path) part = refl
doubt_anywhere (reported.Removed path) part = refl
doubt_anywhere (reported.Cleaned gone) part = refl
doubt_anywhere (reported.Chunk count) part = refl
doubt_anywhere (reported.Set path) part = refl
doubt_anywhere (reported.Made made) part = refl
doubt_anywhere (reported.Kept kept) part = refl
doubt_anywhere (reported.Asked question) part = refl
doubt_anywhere (reported.Merges transfer pair names) part = refl
doubt_anywhere (reported.Moved pair) part = refl
doubt_anywhere (reported.Skipped path cause) part = refl
doubt_anywhere reported.Barrier part = refl
doubt_anywhere (reported.Troubled trouble) part = refl

-- nor does it hang on the report where something may have been altered
written_anywhere : (did : Did) → written_by did any_since ≡ any_since
written_anywhere (Ended ending (Some left)) = refl
written_anywhere (Ended ending None) = refl
written_anywhere (reported.Began made) = refl
written_anywhere (reported.Placed path) = refl
written_anywhere (reported.Removed path) = refl
written_anywhere (reported.Cleaned gone) = refl
written_anywhere (reported.Chunk count) = refl
written_anywhere (reported.Set path) = refl
written_anywhere (reported.Made made) = refl
written_anywhere (reported.Kept kept) = refl
written_anywhere (reported.Asked question) = refl
written_anywhere (reported.Merges transfer pair names) = refl
written_anywhere (reported.Moved pair) = refl
written_anywhere (reported.Skipped path cause) = refl
written_anywhere reported.Barrier = refl
written_anywhere (reported.Troubled trouble) = refl

-- nor does it hang on the report of which paths a mode may wait, where it may of any
modes_anywhere : (did : Did) → modes_by did anywhere ≡ anywhere
modes_anywhere (Ended ending left) = refl
modes_anywhere (reported.Began made) = refl
modes_anywhere (reported.Placed path) = refl
modes_anywhere (reported.Removed path) = refl
modes_anywhere (reported.Cleaned gone) = refl
modes_anywhere (reported.Chunk count) = refl
modes_anywhere (reported.Set path) = refl
modes_anywhere (reported.Made made) = refl
modes_anywhere (reported.Kept kept) = refl
modes_anywhere (reported.Asked question) = refl
modes_anywhere (reported.Merges transfer pair names) = refl
modes_anywhere (reported.Moved pair) = refl
modes_anywhere (reported.Skipped path cause) = refl
modes_anywhere reported.Barrier = refl
modes_anywhere (reported.Troubled trouble) = refl

-- what an event makes of it
pub record IsEntered (opening : CallLog) (older : List Entry) (calls : ℕ) (what : Event) (told : HistoryFacts) (before : CallLog) (after : Stand) (now : CallLog) : Type 0 where
  pub made : List Change
  pub now_is : now ≡ more before made
  pub mids : AreMids told before made
  pub part : Option Route
  pub marks : Marks
  pub kept : IsKept (told_with opening now older calls what part) after.dirty marks now
  pub knows : JobsKnow (told_with opening now older calls what part) after.dirty marks now after.jobs
  pub live : HasLive (after_event what (live_jobs older)) after.jobs part

module _ (opening : CallLog) (older : List Entry) (calls : ℕ) (was : Stand) (before : CallLog) (r : IsReached opening older was before) where
  abbrev told : HistoryFacts
  told = told_of opening before older r.part

  abbrev Entered : Event → Stand → CallLog → Type 0
  Entered what after now = IsEntered opening older calls what told before after now

  abbrev Led : Event → Stand → CallLog → Type 0
  Led what after now = Goes told (live_jobs older) was before r.marks r.kept r.knows r.live what after now

  -- where the history says then what is known
  entered : (what : Event) (after : Stand) (now : CallLog) (part : Option Route) → (n : Led what after now) → part ≡ (let x : Led what after now = n in x.said_then.part)
      → told_with opening now older calls what part ≡ (let x : Led what after now = n in x.said_then) → Entered what after now
  entered what after now part n part_is same = record {
    made = n.made;
    now_is = n.now_is;
    mids = n.mids;
    part = part;
    marks = n.marks_then;
    kept = subst (λ t. IsKept t after.dirty n.marks_then now) (sym same) n.kept_then;
    knows = subst (λ t. JobsKnow t after.dirty n.marks_then now after.jobs) (sym same) n.knows_then;
    live = subst (λ p. HasLive (after_event what (live_jobs older)) after.jobs p) (sym part_is) n.live_then;
  }

  -- no call was made
  quiet : (what : Event) (after : Stand) (now : CallLog) → now ≡ before → (n : Led what after now) → (let x : Led what after now = n in x.said_then) ≡ told
      → told_with opening before older calls what r.part ≡ told → Entered what after now
  quiet what after now none n then_is same =
      entered what after now r.part n (sym (ap (λ (s : HistoryFacts). s.part) then_is)) (ap (λ (l : CallLog). told_with opening l older calls what r.part) none ∙ (same ∙ sym then_is))

  -- a job steps
  module _ (now : CallLog) (id : ℕ) (did : Did) (counts : length now.changes ≡ length opening.changes + calls) (job : Running) (jobs_is : was.jobs ≡ job ∷ []) (id_is : job.id ≡ id) where
    at_end : log_prefix opening calls now ≡ now
    at_end = ap (λ xs. (let l : CallLog = record now { changes = xs } in l)) (ap (λ n. take n now.changes) (sym counts) ∙ take-length now.changes)

    job_live : HasLive (live_jobs older) (job ∷ []) r.part
    job_live = subst (λ js. HasLive (live_jobs older) js r.part) jobs_is r.live

    item_is : live_item id (live_jobs older) ≡ Some (item_in job.work)
    item_is = ap (live_item id) job_live ∙ ap (λ b. if◌then◌else◌ b (Some (item_in job.work)) None) (eq-eqb job.id id id_is)

    -- the history's tree with the step
    pub step_view : (made : List Change) → now ≡ more before made
        → replayed_event (log_prefix opening calls now) (Step id did) (live_jobs older) (replayed_tree opening now older) ≡ replayed_step now did (Some (item_in job.work)) (replayed_tree opening before older)
    step_view made now_is =
        let tree : replayed_tree opening now older ≡ replayed_tree opening before older = ap (λ l. replayed_tree opening l older) now_is ∙ replayed_more opening before made older r.within in
        ap (λ l. replayed_step l did (live_item id (live_jobs older)) (replayed_tree opening now older)) at_end
        ∙ (ap (λ w. replayed_step now did w (replayed_tree opening now older)) item_is ∙ ap (replayed_step now did (Some (item_in job.work))) tree)

    -- what the history says then, and what it says where no other job named a part
    abbrev then_told : HistoryFacts
    then_told = told_with opening now older calls (Step id did) (part_after did r.part)

    abbrev alone_told : HistoryFacts
    alone_told = naming (named_by did no_other (left_parts older) (named_parts older)) then_told

    -- that is what the step comes to
    told_is : (made : List Change) → now ≡ more before made → alone_told ≡ said_after now did job.work told
    told_is made now_is =
        let tree : replayed_tree opening now older ≡ replayed_tree opening before older = ap (λ l. replayed_tree opening l older) now_is ∙ replayed_more opening before made older r.within in
        let earlier : earlier_tree opening now older ≡ earlier_tree opening before older = ap (λ l. earlier_tree opening l older) now_is ∙ earlier_more opening before made older r.within in
        ap (λ t. said_by (folders_event (Step id did) (live_jobs older) (folders_told opening older)) (calm_event (Step id did) (live_jobs older) (calm_told older)) t (Rattle.laws_sessions.specs.Replayed.earlier_step did (replayed_tree opening now older) (earlier_tree opening now older)) (named_by did no_other (left_parts older) (named_parts older)) (left_by did (left_parts older)) (part_after did r.part))
        (step_view made now_is)
        ∙ ap (λ t. said_by (folders_event (Step id did) (live_jobs older) (folders_told opening older)) (calm_event (Step id did) (live_jobs older) (calm_told older)) (replayed_step now did (Some (item_in job.work)) (replayed_tree opening before older)) t (named_by did no_other (left_parts older) (named_parts older)) (left_by did (left_parts older)) (part_after did r.part))
        (ap (λ v. Rattle.laws_sessions.specs.Replayed.earlier_step did v (earlier_tree opening now older)) tree
        ∙ ap (Rattle.laws_sessions.specs.Replayed.earlier_step did (replayed_tree opening before older)) earlier)
        ∙ (ap (λ o. said_by (option_map_or (λ item. folders_by did (folder_changed item) (folders_told opening older)) o (folders_told opening older)) (option_map_or (λ item. calm_by did item (calm_told older)) o (calm_told older)) (replayed_step now did (Some (item_in job.work)) (replayed_tree opening before older)) (Rattle.laws_sessions.specs.Replayed.earlier_step did (replayed_tree opening before older) (earlier_tree opening before older)) (named_by did no_other (left_parts older) (named_parts older)) (left_by did (left_parts older)) (part_after did r.part)) item_is
        ∙ (ap (λ d. (let t : HistoryFacts = record (said_after now did job.work told) { doubt = d; written = any_since; modes = anywhere } in t)) (sym (doubt_anywhere did r.part))
        ∙ (ap (λ w. (let t : HistoryFacts = record (said_after now did job.work told) { written = w; modes = anywhere } in t)) (sym (written_anywhere did))
        ∙ ap (λ m. (let t : HistoryFacts = record (said_after now did job.work told) { modes = m } in t)) (sym (modes_anywhere did)))))

    stepped : (after : Stand) (n : Led (Step id did) after now) → (let x : Led (Step id did) after now = n in x.said_then) ≡ said_after now did job.work told → Entered (Step id did) after now
    stepped after n then_is = record {
      made = n.made;
      now_is = n.now_is;
      mids = n.mids;
      part = part_after did r.part;
      marks = n.marks_then;
      kept = kept_naming alone_told then_told.named more_named after.dirty n.marks_then now (subst (λ t. IsKept t after.dirty n.marks_then now) (sym same) n.kept_then);
      knows = jobs_naming alone_told then_told.named after.dirty n.marks_then now after.jobs (subst (λ t. JobsKnow t after.dirty n.marks_then now after.jobs) (sym same) n.knows_then);
      live = subst (λ p. HasLive (after_event (Step id did) (live_jobs older)) after.jobs p) (ap (λ (s : HistoryFacts). s.part) then_is) n.live_then;
    }
      where
        same : alone_told ≡ (let x : Led (Step id did) after now = n in x.said_then)
        same = told_is n.made n.now_is ∙ sym then_is

        more_named : (p : Route) → Among (named_by did no_other (left_parts older) (named_parts older)) p → Among (named_by did (is_part_of_other id (live_parts older)) (left_parts older) (named_parts older)) p
        more_named p among = named_more did (is_part_of_other id (live_parts older)) (left_parts older) (named_parts older) p among

  -- a job goes on with its next source
  turns : (now : CallLog) (id : ℕ) (plan : Job) (job : Running) (after : Stand) (n : Led (Next id plan) after now) → (let x : Led (Next id plan) after now = n in x.said_then) ≡ said_after now (Ended Finished None) job.work told
      → Entered (Next id plan) after now
  turns now id plan job after n then_is =
      entered (Next id plan) after now None n (sym (ap (λ (s : HistoryFacts). s.part) then_is)) ((ap (λ (l : CallLog). told_of opening l older None) n.now_is ∙ told_more opening before n.made older None r.within) ∙ sym then_is)

  pub enters : (what : Event) (after : Stand) (now : CallLog) → EventLeads was what after before now → length now.changes ≡ length opening.changes + calls → Entered what after now
  enters what after now leads counts = by what leads (event_goes told (live_jobs older) was before r.marks r.kept r.knows r.live what after now leads)
    where
      by : (what : Event) → EventLeads was what after before now → Led what after now → Entered what after now
      by (Step id did) s n = let t = n.then_is in stepped now id did counts t.0 t.1 t.2 after n t.3
      by (Began id plan background) s n = quiet (Began id plan background) after now s.now_is n n.then_is refl
      by (Next id plan) s n = let t = n.then_is in turns now id plan t.0 after n t.3
      by (Order id order) s n = quiet (Order id order) after now s.now_is n n.then_is refl
      by (Key key time refusals lost) s n = quiet (Key key time refusals lost) after now s.now_is n n.then_is refl
      by (Look refusals) s n = quiet (Look refusals) after now s.now_is n n.then_is refl
      by Sought s n = quiet Sought after now s.now_is n n.then_is refl
      by Closed s n = quiet Closed after now s.now_is n n.then_is refl

-- a session that is closed
close_reached : (opening : CallLog) (g : List Entry) (b : Bool) (after : Stand) (now : CallLog) → IsReached opening g after now → IsReached opening g (if_closed b after) now
close_reached opening g false after now r = r
close_reached opening g true after now r = record {
  part = r.part;
  marks = r.marks;
  kept = r.kept;
  knows = closed_know (told_of opening now g r.part) after.dirty r.marks now after.jobs r.knows;
  live = closed_live (live_jobs g) r.part after.jobs r.live;
  within = r.within;
}

pub entered_reached : (opening : CallLog) (e : Entry) (older : List Entry) (was : Stand) (before : CallLog) (stand : Stand) (now : CallLog) (r : IsReached opening older was before) → (f : Follows opening e older was before stand now)
    → IsReached opening (e ∷ older) stand now
entered_reached opening e older was before stand now r f =
    let n = enters opening older e.calls was before r e.what f.after now f.leads f.counts in
    subst (λ (x : Stand). IsReached opening (e ∷ older) x now) (sym f.stand_is) (close_reached opening (e ∷ older) (is_closed (e ∷ older)) f.after now (record {
      part = n.part;
      marks = n.marks;
      kept = n.kept;
      knows = n.knows;
      live = n.live;
      within = (let c = f.counts in omega (arith, c), subst (λ (l : CallLog). AreWithin opening older l) (sym n.now_is) (within_more opening before n.made older r.within));
    }))

module _ (opening : CallLog) (tree : IsTree (current opening)) (settled : all_settled opening.changes ≡ true) where
  pub at_opening : IsKept (told_of opening opening [] None) [] (as_it_stands opening) opening
  at_opening = record {
    known = record {
      guarded = opening_law opening tree settled;
      files = record {
        bare = λ i m bare. pending_settled i m opening.changes settled;
        unborn = λ i past. (opening_law opening tree settled).clean i refl;
      };
      moded = λ i before is unclean. absurd (let f : ⊥ = cc in f);
      calm = λ p there. record { mode = λ i at. inl refl; alone = alone_calm opening p (none_named p) };
      folders = λ i folder. (inl refl, refl);
      aside = λ p is. absurd (false≢true is);
      left = λ p is there. absurd (false≢true is);
      was_there = λ p i out is. (found_there (current opening) tree p i is, refl);
      was_shown = λ p out. inl refl;
      shows = λ p other. refl;
      part = λ p is. absurd (let f : ⊥ = cc in f);
      tracked = λ f restless. absurd (false≢true (sym (restless_settled f opening.changes settled) ∙ restless));
      joint = λ f g up joint at. absurd (false≢true (sym (joint_settled f g opening.changes settled) ∙ joint));
      doubts = λ n p waits. refl;
      written = λ n p i other off at. absurd (true≢false off);
      stand = λ p there. record { stands = there; sure = none_unsettled p };
    };
    aside = λ p is. absurd (false≢true is);
    was = λ p out sure. refl;
    modes = λ i clean. refl;
    roams = λ i folder roams. absurd (false≢true roams);
  }
    where
      none_by : (name : List ℕ) (o : Option ℕ) → option_map_or (λ f. is_pending f name opening.changes) o false ≡ false
      none_by name None = refl
      none_by name (Some f) = pending_settled f name opening.changes settled

      none_named : (p : Route) → name_waits opening p ≡ false
      none_named [] = refl
      none_named (name ∷ up) = none_by name (find (current opening) up)

      none_unsettled : (p : Route) → way_waits opening p ≡ false
      none_unsettled [] = refl
      none_unsettled (name ∷ up) = ap (λ b. b || way_waits opening up) (none_by name (find (current opening) up)) ∙ none_unsettled up

  pub traced_reached : (newest : List Entry) (stand : Stand) (now : CallLog) → IsTraced opening newest stand now → IsReached opening newest stand now
  traced_reached [] stand now (stand_is, now_is) =
      subst (λ (l : CallLog). IsReached opening [] stand l) (sym now_is) (subst (λ (x : Stand). IsReached opening [] x opening) (sym stand_is) (record {
        part = None;
        marks = as_it_stands opening;
        kept = at_opening;
        knows = refl;
        live = refl;
        within = tt;
      }))
  traced_reached (e ∷ older) stand now (was, before, traced, f) = entered_reached opening e older was before stand now (traced_reached older was before traced) f
