-- Each step of the setting of a mode keeps what is known.
use Rattle.std.proofs.Common.{◌≡◌, ◌⊎◌, ℕ, Bool, true, false, not, ◌&&◌, ◌||◌, List, [], ◌∷◌, refl, sym, ◌∙◌, ap, subst, inl, inr, Option, Some, None, Ok}
use Rattle.std.specs.Option.{option_map}
use Rattle.std.proofs.lemmas.Bool.{both_ways, false≢true, or_left, or_right, or_parts}
use Rattle.mc_text.specs.Routes.{Route, same_path}
use Rattle.tree_trait.specs.declared.calls.TreeError.{TreeError}
use Rattle.tree_trait.specs.FileSystem.{Spot, find, lookup, node, value}
use Rattle.tree_trait.specs.Calls.{SetMode as Sets_mode}
use Rattle.tree_trait.specs.Change.{Sets, Nothing, CallLog, current, found_node, with_change}
use Rattle.tree_trait.specs.CrashImages.{Among}
use Rattle.tree_trait.proofs.Finding.{and_then-some}
use Rattle.tree_trait.proofs.Visible.{same_path-self, same_path-true}
use Rattle.laws_crash.specs.Guarded.{Marks}
use Rattle.job_answers.specs.declared.replies.Replies.{Replies}
use Rattle.job_reports.specs.declared.report.Cause.{Cause}
use Rattle.job_reports.specs.declared.report.Ending.{Ending}
use Rattle.job_reports.specs.declared.report.Ending.TheVariants.{Finished, Aborted, Killed, NoMemory}
use Rattle.job_reports.specs.declared.report.Did.{Did}
use Rattle.job_reports.specs.declared.report.Did.TheVariants.{Began, Chunk, Placed, Removed, Made, Set, Kept, Skipped, Cleaned, Barrier, Asked, Merges, Moved, Troubled, Ended}
use Rattle.job_reports.specs.CallRuns.{AllDone}
use Rattle.job_reports.specs.Paths.{folder_of, without}
use Rattle.job_reports.proofs.CallAnswers.{IsDoneCall, one_done, some_log}
use Rattle.job_reports.proofs.PermittedCalls.{stat_missing}
use Rattle.job_unsynced.specs.Folders.{joined_folders}
use Rattle.mode_job.specs.declared.setting.Stage.{Stage}
use Rattle.mode_job.specs.declared.setting.Stage.TheVariants as setting
use Rattle.mode_job.specs.Settings.{Setting, Tells, is_dirty, is_fresh}
use Rattle.mode_job.specs.SettingSteps.{SettingCalls, SettingStops, TellsTried, sync_of}
use Rattle.copy_move.specs.declared.work.Work.{Work}
use Rattle.copy_move.specs.declared.work.Work.TheVariants.{SetMode}
use Rattle.copy_move.specs.declared.run.Course.{Course}
use Rattle.copy_move.specs.declared.run.Course.TheVariants.{GoesOn, Ends}
use Rattle.delete_job.specs.DeletionSteps.{after_try}
use Rattle.copy_move.specs.Jobs.{course_after}
use Rattle.mode_job.specs.ModeSettings.{LastSettingCalls, SettingLeaves, Winds}
use Rattle.copy_move.specs.Settling.{NoneOwed, with_change as moves_dirty}
use Rattle.laws_sessions.specs.Replayed.{with_mode as moded_value}
use Rattle.laws_sessions.proofs.Calming.{mode_finds, stopped_is, thing_refused, thing_stopped}
use Rattle.laws_sessions.proofs.Deleted.{comes_refused, either, put_at, put_off}
use Rattle.laws_sessions.proofs.DeletionSteps.{Steps, comes_thing_synced, ends, joined_holds, joined_more, same_dirty}
use Rattle.laws_sessions.proofs.JobKnows.{HasName, KnowsAfter, WorkKnows}
use Rattle.laws_sessions.proofs.Knowing.{IsKept, IsKnown, HistoryFacts, settled_marks}
use Rattle.laws_sessions.proofs.Resting.{IsSureFolder, folder_at_of, settled_unless}
use Rattle.laws_sessions.proofs.SettingModes.{IsMarked, SetsMode, marked, no_mode, no_way, set_known}
use Rattle.laws_sessions.proofs.Stepped.{StepRan, comes_one, said_after}

-- where nothing is owed by a setting, whatever is dirty is gone
pub none_stands : (log : CallLog) (s : Setting) (dirty : List Route) → NoneOwed (current log) (SetMode s) dirty → (q : Route) → Among dirty q → find (current log) q ≡ None
none_stands log s dirty none q among = elim (none q among) [ inl gone ↦ stat_missing (current log) q gone | inr apart ↦ absurd (false≢true (sym apart.0)) ]

both_hold : (a b : Bool) → (a && not b) ≡ true → b ≡ false
both_hold true false h = refl
both_hold true true h = absurd (false≢true h)
both_hold false b h = absurd (false≢true h)

and_first : (a b : Bool) → (a && b) ≡ true → a ≡ true
and_first true b h = refl
and_first false b h = h

-- a mode is given
module _ (told : HistoryFacts) (dirty dirty_after : List Route) (marks : Marks) (log now : CallLog) (kept : IsKept told dirty marks log) (s : Setting) (has : HasName s.path) (none : told.part ≡ None)
    (owed : NoneOwed (current log) (SetMode s) dirty) (routes : dirty_after ≡ joined_folders s.path dirty) (d : IsDoneCall log (Sets_mode s.path s.mode) now) where
  abbrev i : ℕ
  i = found_node (current log) s.path

  abbrev after : HistoryFacts
  after = said_after now (Set s.path) (SetMode s) told

  at : find (current log) s.path ≡ Some i
  at = mode_finds (current log) s.path s.mode d.permits

  gone : (q : Route) → Among dirty q → find (current log) q ≡ None
  gone = none_stands log s dirty owed

  -- the folder that holds it is on the disk
  firm : IsSureFolder log (folder_of s.path)
  firm =
      let h = and_then-some (find (current log) (folder_of s.path)) (λ g. lookup (current log).names g has.name) i (sym (ap (find (current log)) has.is) ∙ at) in
      record {
        stands = folder_at_of (current log) (folder_of s.path) h.0 h.1 (kept.known.guarded.tree.in_folders h.0 has.name i h.2);
        sure = no_way told dirty marks log kept gone (folder_of s.path);
      }

  told_value : (told.tree s.path).value ≡ Some (value (node (current log) i))
  told_value =
      ap (λ (x : Spot). x.value) (sym (kept.known.shows s.path (λ is. let e : (let o : Option Route = None in o) ≡ Some s.path = sym none ∙ is in let x : ⊥ = cc in x)))
      ∙ ap (option_map (λ k. value (node (current log) k))) at

  sets : SetsMode told after dirty dirty_after marks log s.path i s.mode
  sets = record {
    at = at;
    sure = no_way told dirty marks log kept gone s.path;
    no_mode = no_mode told dirty marks log kept gone s.path i at;
    once = λ p out was. settled_unless log p (no_way told dirty marks log kept gone p);
    no_part = none;
    none = none;
    listed = subst (λ xs. Among xs s.path) (sym routes) (joined_holds s.path dirty);
    more = λ q among. subst (λ xs. Among xs q) (sym routes) (joined_more s.path q dirty among);
    lefts = λ p among. among;
    named = kept.known.aside;
    off = λ p off. (put_off told.tree s.path (option_map (moded_value s.mode) (told.tree s.path).value) p off, put_off told.earlier s.path (told.tree s.path).value p off);
    shown = put_at told.tree s.path (option_map (moded_value s.mode) (told.tree s.path).value)
        ∙ ap (λ v. (let t : Spot = record (told.tree s.path) { value = option_map (moded_value s.mode) v } in t)) told_value;
    earlier = ap (λ (x : Spot). x.value) (put_at told.earlier s.path (told.tree s.path).value);
    doubts = λ n p waits. or_left _ _ waits;
    spared = λ n p off. or_parts (told.written n p) (same_path p s.path) off;
    folders = λ p there. elim (either (same_path p (folder_of s.path) || same_path p (folder_of s.path)) (told.folders p) there) [
      | inl here ↦ inr (subst (λ q. IsSureFolder log q) (sym (same_path-true p (folder_of s.path) (elim (either (same_path p (folder_of s.path)) (same_path p (folder_of s.path)) here) [ inl same ↦ same | inr same ↦ same ]))) firm)
      | inr before ↦ inl before
    ];
    modes = or_right _ _ (same_path-self s.path);
    modes_more = λ p waits. or_left _ _ waits;
    calm = λ p calm. (
      kept.known.calm p (and_first (told.calm p) (not (same_path p s.path)) calm),
      λ same. both_ways _ (both_hold (told.calm p) (same_path p s.path) calm) (subst (λ q. same_path q s.path ≡ true) (sym same) (same_path-self s.path)),
    );
  }

  pub mode_given : (knows : Marks → Type 0) → ((m : Marks) → knows m) → StepRan told after dirty_after log now knows
  mode_given knows known_of =
      let m : (new : Marks) × IsMarked marks new log s.path i s.mode = marked told after dirty dirty_after marks log s.path i s.mode kept sets in
      comes_one told after dirty dirty_after marks m.0 log now (Sets i s.mode) knows kept d.is
      (subst (λ (l : CallLog). IsKnown after dirty_after m.0 l) (sym d.is) (set_known told after dirty dirty_after marks log s.path i s.mode kept sets m.0 m.1)) (known_of (settled_marks now m.0))

module _ (told : HistoryFacts) (dirty dirty_after : List Route) (marks : Marks) (log now : CallLog) (kept : IsKept told dirty marks log) where
  abbrev In : Did → Course → Work → Work → Type 0
  In did course work new = Steps told dirty dirty_after marks log now kept did course work new

  -- the thing's sync was tried
  thing_tried : (path : Route) (left : Option TreeError) (course : Course) (work : Work) → ((routes : List Route) → WorkKnows told routes marks log course work)
      → TellsTried path left log (Some now) → dirty_after ≡ after_try Barrier left path dirty → StepRan told told dirty_after log now (λ m. WorkKnows told dirty_after m now course work)
  thing_tried path None course work knows done is =
      subst (λ routes. StepRan told told routes log now (λ m. WorkKnows told routes m now course work)) (sym is) (comes_thing_synced told dirty marks log now path course work kept (knows (without path dirty)) done)
  thing_tried path (Some e) course work knows tried is =
      subst (λ routes. StepRan told told routes log now (λ m. WorkKnows told routes m now course work)) (sym is) (comes_refused told dirty marks log now course work kept (knows dirty) (by tried))
    where
      by : TellsTried path (let o : Option TreeError = Some e in o) log (Some now) → (now ≡ log) ⊎ (now ≡ with_change log Nothing)
      by (inl look) = inl (some_log now log look.0)
      by (inr refused) = thing_refused log now path e refused

  synced_done : (path : Route) → AllDone log (sync_of (current log) path ∷ []) (Some now) → TellsTried path None log (Some now)
  synced_done path (mid, done, is) = subst (λ (l : CallLog). Rattle.tree_trait.specs.Answers.Performs {A = Unit {0}} log (sync_of (current log) path) (Ok tt) (Some l)) (sym (some_log now mid is)) done

  stops : (s : Setting) (why : Cause) (named : Option Route) (stage : Stage) → SettingStops s stage why named log (Some now) → (now ≡ log) ⊎ (now ≡ with_change log Nothing)
  stops s why named setting.Give stop = stopped_is log now (Sets_mode s.path s.mode) why named (λ x left. refl) stop
  stops s why named setting.Sync stop = thing_stopped log now s.path why named stop
  stops s why named setting.Done stop = absurd stop

  abbrev Leaves : Setting → Setting → Type 0
  Leaves s new = dirty_after ≡ moves_dirty (is_dirty s.stage) (is_dirty new.stage) s.path dirty

  leaves_same : (s new : Setting) → new ≡ s → Leaves s new → dirty_after ≡ dirty
  leaves_same s new same leaves = leaves ∙ (ap (λ (x : Setting). moves_dirty (is_dirty s.stage) (is_dirty x.stage) s.path dirty) same ∙ same_dirty (is_dirty s.stage) s.path dirty)

  pub setting_tells : (replies : Replies) (s new : Setting) (did : Did) → WorkKnows told dirty marks log GoesOn (SetMode s) → Tells replies s did new → SettingCalls s did log (Some now)
      → (is_fresh s.stage ≡ true → NoneOwed (current log) (SetMode s) dirty) → Leaves s new → In did (course_after did) (SetMode s) (SetMode new)
  setting_tells replies s new (Set path) (has, none) (stage, path_is, new_is) done settled leaves =
      let routes : dirty_after ≡ joined_folders s.path dirty =
      leaves ∙ (ap (λ x. moves_dirty (is_dirty x) (is_dirty new.stage) s.path dirty) stage ∙ ap (λ (x : Setting). moves_dirty false (is_dirty x.stage) s.path dirty) new_is) in
      subst (λ q. In (Set q) GoesOn (SetMode s) (SetMode new)) (sym path_is)
      (mode_given told dirty dirty_after marks log now kept s has none (settled (ap is_fresh stage)) routes (one_done log (Sets_mode s.path s.mode) now done)
      (KnowsAfter (Set s.path) (said_after now (Set s.path) (SetMode s) told) dirty_after now GoesOn (SetMode new)) (λ m. (subst (λ (x : Setting). HasName x.path) (sym new_is) has, none)))
  setting_tells replies s new Barrier (has, none) (stage, new_is) done settled leaves =
      thing_tried s.path None GoesOn (SetMode new) (λ routes. (subst (λ (x : Setting). HasName x.path) (sym new_is) has, none)) (synced_done s.path done)
      (leaves ∙ (ap (λ x. moves_dirty (is_dirty x) (is_dirty new.stage) s.path dirty) stage ∙ ap (λ (x : Setting). moves_dirty true (is_dirty x.stage) s.path dirty) new_is))
  setting_tells replies s new (Troubled trouble) (has, none) (barrier, why, new_is) stop settled leaves =
      subst (λ (x : Setting). StepRan told told dirty_after log now (λ m. WorkKnows told dirty_after m now (course_after (Troubled trouble)) (SetMode x))) (sym new_is)
      (subst (λ routes. StepRan told told routes log now (λ m. WorkKnows told routes m now (course_after (Troubled trouble)) (SetMode s))) (sym (leaves_same s new new_is leaves))
      (comes_refused told dirty marks log now (course_after (Troubled trouble)) (SetMode s) kept (has, none) (stops s trouble.cause trouble.path s.stage stop)))
  setting_tells replies s new (Skipped path cause) (has, none) (stage, path_is, passes, new_is) (named, stop) settled leaves =
      let same : dirty_after ≡ dirty =
      leaves ∙ (ap (λ x. moves_dirty (is_dirty x) (is_dirty new.stage) s.path dirty) stage ∙ ap (λ (x : Setting). moves_dirty false (is_dirty x.stage) s.path dirty) new_is) in
      subst (λ (x : Setting). StepRan told told dirty_after log now (λ m. WorkKnows told dirty_after m now GoesOn (SetMode x))) (sym new_is)
      (subst (λ routes. StepRan told told routes log now (λ m. WorkKnows told routes m now GoesOn (SetMode (record s { stage = setting.Done })))) (sym same)
      (comes_refused told dirty marks log now GoesOn (SetMode (record s { stage = setting.Done })) kept (has, none) (stops s cause named s.stage stop)))
  setting_tells replies s new (Ended Finished part) (has, none) (stage, part_is, new_is) done settled leaves =
      subst (λ o. In (Ended Finished o) GoesOn (SetMode s) (SetMode new)) (sym part_is) (ends told dirty dirty_after marks log now kept (SetMode s) none (leaves_same s new new_is leaves) (some_log now log done))
  setting_tells replies s new did knows tells done settled leaves = absurd tells

  pub setting_winds : (s new : Setting) (ending : Ending) (did : Did) (left : Option TreeError) → WorkKnows told dirty marks log (Ends ending) (SetMode s) → Winds ending s did new
      → SettingLeaves s did left log (Some now) → LastSettingCalls s did log (Some now) → dirty_after ≡ after_try did left s.path dirty → In did (Ends ending) (SetMode s) (SetMode new)
  setting_winds s new ending Barrier left (has, none) (stage, new_is) tried calls leaves =
      thing_tried s.path left (Ends ending) (SetMode new) (λ routes. (subst (λ (x : Setting). HasName x.path) (sym new_is) has, none)) tried leaves
  setting_winds s new ending (Ended how part) left (has, none) (clean, how_is, part_is, new_is) tried calls leaves =
      subst (λ o. In (Ended how o) (Ends ending) (SetMode s) (SetMode new)) (sym part_is) (ends told dirty dirty_after marks log now kept (SetMode s) none leaves (some_log now log calls))
  setting_winds s new ending did left knows tells tried calls leaves = absurd tells
