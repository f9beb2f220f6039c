-- How a folder is copied that its owner may not change, step by step: it is made, brought onto the disk, given the mode of its source, and synced.
use Rattle.std.proofs.Common.{◌≡◌, ℕ, ◌≤◌, pos, Bool, true, false, List, [], ◌∷◌, refl, sym, ap, subst, inl, inr, Option, Some, None, arith}
use Rattle.std.proofs.lemmas.Bool.{false≢true}
use Rattle.mc_text.specs.Routes.{Route}
use Rattle.mc_text.specs.declared.kind.Kind.TheVariants.{Folder}
use Rattle.tree_trait.specs.declared.calls.Children.{Children}
use Rattle.tree_trait.specs.declared.file_system.FileSystem.{FileSystem}
use Rattle.tree_trait.specs.declared.file_system.Node.{Node}
use Rattle.tree_trait.specs.Answers.{IsListing}
use Rattle.tree_trait.specs.Change.{Change, Makes, Sets, Syncs, CallLog, after_change, current}
use Rattle.tree_trait.specs.CrashImages.{Among}
use Rattle.tree_trait.specs.Shape.{IsTree}
use Rattle.tree_trait.proofs.BareRoot.{bare, bare_tree}
use Rattle.tree_trait.proofs.Kept.{tree_made}
use Rattle.job_reports.specs.declared.report.Transfer.TheVariants.{ByCopy}
use Rattle.job_reports.specs.CallRuns.{HasMore}
use Rattle.job_reports.specs.Reports.{IsFault}
use Rattle.job_reports.specs.declared.report.Cause.{Cause}
use Rattle.job_reports.specs.declared.report.Trouble.{Trouble}
use Rattle.job_reports.specs.declared.job.Pair.{Pair}
use Rattle.job_reports.specs.declared.report.Did.{Did}
use Rattle.job_reports.specs.declared.question.Question.{Question}
use Rattle.job_reports.specs.declared.report.Did.TheVariants.{Made, Set, Asked, Kept, Skipped, Barrier, Merges, Troubled, Ended}
use Rattle.job_reports.specs.declared.report.Ending.TheVariants.{Finished}
use Rattle.copy_folders.specs.FolderCopying.{FolderCopying, copying}
use Rattle.copy_folders.specs.FolderSteps.{FolderCalls}
use Rattle.copy_folders.specs.declared.stage.FolderDid.TheVariants as folder_did
use Rattle.copy_folders.specs.declared.stage.NamesState.TheVariants.{Dirty, Synced}
use Rattle.copy_folders.specs.declared.stage.Stage.TheVariants as folder_stage
use Rattle.copy_folders.specs.Levels.{Levels, levels_closed, level, made_levels, with_copy}
use Rattle.copy_folders.specs.declared.level.Level.{Level}
use Rattle.tree_walk.specs.Places.{opened_folder}
use Rattle.copy_tree.specs.Reports.{changes}
use Rattle.copy_tree.specs.Standing.{Seen, is_fresh}
use Rattle.copy_tree.specs.TreeCopySteps.{Counts, at_end}
use Rattle.copy_tree.specs.Taking.{IsTaken}
use Rattle.copy_tree.specs.declared.copy.Stage.TheVariants.{Going}
use Rattle.copy_tree.specs.declared.looking.Taken.TheVariants as taken
use Rattle.copy_job.specs.Merged.{IsOver, KeepsTop, MergesTop}
use Rattle.copy_job.specs.Reporting.{ChangesOwn, MayTell}
use Rattle.copy_job.specs.Standing.{SubtreeCopying, begun_subtree_copy}
use Rattle.copy_job.specs.SubtreeSteps.{SubtreeSteps, step_result}
use Rattle.copy_job.specs.Told.{IsAfter}
use Rattle.copy_job.specs.Unbegun.{MayBegin}
use Rattle.job_answers.specs.Decisions.{no_replies}
use Rattle.copy_move.specs.Jobs.{Running, course_after}
use Rattle.copy_move.specs.TreeCopies.{Goes}
use Rattle.copy_move.specs.declared.run.Course.TheVariants.{GoesOn}
use Rattle.copy_move.specs.declared.work.Work.TheVariants.{Copy}
use Rattle.laws_sessions.specs.Traces.{IsUnclaimed, WorkLeads}
use Rattle.laws_sessions.proofs.ExampleParts.{known_is, more_known, no_step}

-- the root holds a folder under the name 1, of which its owner may change nothing
abbrev pub shut : Node
shut = record { kind = Folder; bytes = []; mode = 0o555; mtime = pos 0; unnamed = 0 }

abbrev pub small : FileSystem
small = after_change bare (Makes 0 (1 ∷ []) shut)

pub small_tree : IsTree small
small_tree = tree_made bare 0 (1 ∷ []) shut bare_tree refl

abbrev pub source : Route
source = (1 ∷ []) ∷ []

abbrev pub target : Route
target = (2 ∷ []) ∷ []

abbrev pub pair : Pair
pair = record { source = source; target = target }

abbrev pub log : List Change → CallLog
log changes = record { opening = small; changes = changes }

-- it is made with more
abbrev pub made : Node
made = record { kind = Folder; bytes = []; mode = 0o755; mtime = pos 0; unnamed = 0 }

abbrev pub made_log : CallLog
made_log = log (Makes 0 (2 ∷ []) made ∷ [])

abbrev pub stands_log : CallLog
stands_log = log (Makes 0 (2 ∷ []) made ∷ Syncs 0 ∷ [])

abbrev pub given_log : CallLog
given_log = log (Makes 0 (2 ∷ []) made ∷ Syncs 0 ∷ Sets 2 0o555 ∷ [])

abbrev pub synced_log : CallLog
synced_log = log (Makes 0 (2 ∷ []) made ∷ Syncs 0 ∷ Sets 2 0o555 ∷ Syncs 2 ∷ [])

-- how the copy goes on: it begins, has made the folder, has brought it onto the disk, has given it its mode, and has synced it
abbrev pub begins : SubtreeCopying
begins = begun_subtree_copy 1 pair

abbrev pub going : Levels → SubtreeCopying
going levels = record begins { at = (let c : Seen = begins.at in record c { stage = Going; levels = levels }) }

abbrev pub fills : FolderCopying
fills = copying source target (folder_stage.Fill (Some 0o555)) Synced

abbrev pub made_levels_now : Levels
made_levels_now = made_levels (folder_stage.Fill (Some 0o555)) (opened_folder source []) fills begins.at.levels

abbrev pub has_made : SubtreeCopying
has_made = going made_levels_now

abbrev pub outside : Level
outside = level (opened_folder [] []) (copying [] [] (folder_stage.Fill None) Synced)

abbrev pub brought_in : SubtreeCopying
brought_in = going (record made_levels_now { around = outside ∷ [] })

abbrev pub given : SubtreeCopying
given = going (with_copy (copying source target (folder_stage.Close None) Dirty) (levels_closed brought_in.at.levels))

abbrev pub synced : SubtreeCopying
synced = going (with_copy (copying source target (folder_stage.Close None) Synced) (levels_closed brought_in.at.levels))

-- the folder is left
abbrev pub around : SubtreeCopying
around = going (record { inner = outside; around = []; left = 257 })

abbrev pub decided : SubtreeCopying
decided = record around { at = at_end around.at }

abbrev pub job : SubtreeCopying → Running
job c = record { id = 1; work = Copy c; course = GoesOn; replies = no_replies }

-- the folder lists nothing
abbrev pub children : Children
children = record { names = []; unnamed = 0 }

pub lists : IsListing small 1 children
lists = record { names = λ name. (λ among. absurd among, λ leads. absurd (false≢true leads)); unnamed = refl }

-- any path may be a part's
abbrev pub anywhere : Route → Bool
anywhere path = true

pub counts : (did : Did) (calls : ℕ) (before now : CallLog) → HasMore before calls now → calls ≤ 3 → (IsFault did → ⊥)
    → Counts did calls (let o : Option CallLog = Some before in o) (let o : Option CallLog = Some now in o) 0 0
counts did calls before now more few none = record { counted = more_known before now calls more; few = few; unknown = no_step before now; later = omega arith; fault = λ h. absurd (none h) }

-- a step in which no folder is left
abbrev pub IsStep : SubtreeCopying → SubtreeCopying → Did → ℕ → List Route → List Route → CallLog → CallLog → Type 0
IsStep old new did calls dirty dirty_after before now = SubtreeSteps anywhere no_replies old new did calls dirty dirty_after (let o : Option CallLog = Some before in o) (let o : Option CallLog = Some now in o) 0 0

-- the folder is made
pub makes : IsStep begins has_made (Made target) 1 [] ([] ∷ []) (log []) made_log
makes = record {
  mid = begins.at;
  leaves = (0, refl);
  settled = refl;
  worked = step_result (Made target) 1;
  moved = has_made.at;
  works = inr (record {
    steps = record {
      folders = 0;
      mid = begins.at;
      leaves = refl;
      works = inr (
        refl,
        inr (inr (inr (inl (record {
          pair = pair;
          names = [];
          mode = 0o555;
          next = refl;
          reach = (omega arith, omega arith, omega arith);
          is = known_is (log []) (λ l. IsTaken (current l) true no_replies pair (taken.Folder [] 0o555)) ((refl, refl), refl, (refl, lists), refl);
          in_order = tt;
          works = record {
            few = omega arith;
            moved = fills;
            report = folder_did.Made target;
            says = refl;
            tells = (0o555, refl, refl, refl);
            called = known_is (log []) (λ l. FolderCalls (copying source target (folder_stage.Make 0o555) Synced) (folder_did.Made target) l (Some made_log)) (made_log, (refl, (pos 0, refl)), refl);
            stands = refl;
          };
        })))),
      );
      counts = counts (Made target) 1 (log []) made_log refl (omega arith) (λ h. h);
    };
    list = refl;
  });
  going = tt;
  passes = inl (refl, refl, refl);
  stands = refl;
}

-- the folder around it is synced
pub brings_in : IsStep has_made brought_in Barrier 1 ([] ∷ []) [] made_log stands_log
brings_in = record {
  mid = has_made.at;
  leaves = (0, refl);
  settled = refl;
  worked = step_result Barrier 1;
  moved = brought_in.at;
  works = inr (record {
    steps = record {
      folders = 0;
      mid = has_made.at;
      leaves = refl;
      works = inl (record {
        dirty = refl;
        outer = level (opened_folder [] []) (copying [] [] (folder_stage.Fill None) Dirty);
        around = [];
        was = refl;
        names = Synced;
        report = folder_did.Barrier;
        says = refl;
        tells = (refl, refl, refl);
        called = known_is made_log (λ l. FolderCalls (copying [] [] (folder_stage.Close None) Dirty) folder_did.Barrier l (Some stands_log)) (stands_log, (refl, (pos 0, refl)), refl);
        stands = refl;
      });
      counts = counts Barrier 1 made_log stands_log refl (omega arith) (λ h. h);
    };
    list = refl;
  });
  going = tt;
  passes = inl (refl, refl, refl);
  stands = refl;
}

-- it is given its mode
pub gives : IsStep brought_in given (Set target) 1 [] (target ∷ []) stands_log given_log
gives = record {
  mid = brought_in.at;
  leaves = (0, refl);
  settled = refl;
  worked = step_result (Set target) 1;
  moved = given.at;
  works = inr (record {
    steps = record {
      folders = 0;
      mid = brought_in.at;
      leaves = refl;
      works = inr (
        refl,
        inr (inr (inr (inr (inr (inr (inr (
          refl,
          inl (
            refl,
            record {
              moved = copying source target (folder_stage.Close None) Dirty;
              report = folder_did.Set target;
              says = refl;
              tells = (0o555, refl, refl, refl);
              called = known_is stands_log (λ l. FolderCalls (copying source target (folder_stage.Close (Some 0o555)) Synced) (folder_did.Set target) l (Some given_log)) (given_log, (refl, (pos 0, refl)), refl);
              falls = omega arith;
              stands = refl;
            },
          ),
        ))))))),
      );
      counts = counts (Set target) 1 stands_log given_log refl (omega arith) (λ h. h);
    };
    list = refl;
  });
  going = tt;
  passes = inl (refl, refl, refl);
  stands = refl;
}

-- it is synced
pub syncs : IsStep given synced Barrier 1 (target ∷ []) [] given_log synced_log
syncs = record {
  mid = given.at;
  leaves = (0, refl);
  settled = refl;
  worked = step_result Barrier 1;
  moved = synced.at;
  works = inr (record {
    steps = record {
      folders = 0;
      mid = given.at;
      leaves = refl;
      works = inr (
        refl,
        inr (inr (inr (inr (inr (inr (inr (
          refl,
          inl (
            refl,
            record {
              moved = copying source target (folder_stage.Close None) Synced;
              report = folder_did.Barrier;
              says = refl;
              tells = (refl, refl, refl);
              called = known_is given_log (λ l. FolderCalls (copying source target (folder_stage.Close None) Dirty) folder_did.Barrier l (Some synced_log)) (synced_log, (refl, (pos 0, refl)), refl);
              falls = omega arith;
              stands = refl;
            },
          ),
        ))))))),
      );
      counts = counts Barrier 1 given_log synced_log refl (omega arith) (λ h. h);
    };
    list = refl;
  });
  going = tt;
  passes = inl (refl, refl, refl);
  stands = refl;
}

-- it is left, and the copy is finished
pub finishes : IsStep synced decided (Ended Finished None) 0 [] [] synced_log synced_log
finishes = record {
  mid = around.at;
  leaves = (1, (synced.at, refl, refl, record { synced = refl; next = refl; done = refl; returns = record { left = record { was = refl; levels = refl }; stands = refl } }));
  settled = refl;
  worked = step_result (Ended Finished None) 0;
  moved = decided.at;
  works = inr (record {
    steps = record {
      folders = 0;
      mid = around.at;
      leaves = refl;
      works = inr (refl, inr (inr (inr (inr (inr (inr (inr (refl, inr (refl, record { last = refl; says = refl; stands = refl }, refl)))))))));
      counts = counts (Ended Finished None) 0 synced_log synced_log refl (omega arith) (λ h. h);
    };
    list = refl;
  });
  going = tt;
  passes = inl (refl, refl, refl);
  stands = refl;
}

pub goes : (old new : SubtreeCopying) (did : Did) (calls : ℕ) (dirty dirty_after : List Route) (before now : CallLog) → IsStep old new did calls dirty dirty_after before now
    → Goes IsUnclaimed no_replies old new did calls dirty dirty_after (let o : Option CallLog = Some before in o) (let o : Option CallLog = Some now in o) 0 0
goes old new did calls dirty dirty_after before now step = record { free = anywhere; allows = λ path allowed. refl; since = 0; later = omega arith; steps = step }

-- a report of work that was done
pub record IsDone (old new : SubtreeCopying) (did : Did) : Type 0 where
  pub may : MayTell did
  pub after : IsAfter did old new
  pub first : is_fresh old.at.stage ≡ true → MayBegin did
  pub on : course_after did ≡ GoesOn
  pub no_trouble : (trouble : Trouble) → did ≡ Troubled trouble → ⊥
  pub no_skip : (path : Route) (cause : Cause) → did ≡ Skipped path cause → ⊥
  pub merged : (pair : Pair) (names : List (List ℕ)) → did ≡ Merges ByCopy pair names → MergesTop old pair names new
  pub kept : (path : Route) → did ≡ Kept path → KeepsTop old path new
  pub asked : (question : Question) → did ≡ Asked question → ⊥
  pub over : IsOver old.at → IsOver new.at × (changes did ≡ false)

pub works : (old new : SubtreeCopying) (did : Did) (calls : ℕ) (dirty dirty_after : List Route) (before now : CallLog) → IsDone old new did → IsStep old new did calls dirty dirty_after before now
    → (is_fresh old.at.stage ≡ true → dirty ≡ []) → ChangesOwn old did dirty dirty_after → WorkLeads (job old) did (job new) dirty dirty_after before now
works old new did calls dirty dirty_after before now done step clean leaves = record {
  tells = (
    Copy new,
    record {
      may = done.may;
      after = done.after;
      first = done.first;
      barred = λ trouble is. absurd (done.no_trouble trouble is);
      apart = λ trouble is. absurd (done.no_trouble trouble is);
      kinds = λ path cause is. absurd (done.no_skip path cause is);
      merged = done.merged;
      kept = done.kept;
      asked = λ question is. absurd (done.asked question is);
      over = done.over;
    },
    ap (λ course. (let r : Running = record { id = 1; work = Copy new; course = course; replies = no_replies } in r)) (sym done.on),
  );
  called = record { calls = calls; dirty = dirty; dirty_after = dirty_after; faults = 0; faults_after = 0; goes = goes old new did calls dirty dirty_after before now step };
  settled = λ on fresh kept among. absurd (subst (λ xs. Among xs kept) (clean fresh) among);
  cleared = λ on fresh kept among. absurd (subst (λ xs. Among xs kept) (clean fresh) among);
  leaves = leaves;
  walks = (calls, 0, 0, goes old new did calls dirty dirty_after before now step);
}
