-- The steps of a small deletion: in a folder a file is removed, the other can't be and is skipped, so the folder is kept and synced, and the job is finished.
use Rattle.std.proofs.Common.{◌≡◌, ℕ, ◌+◌, ◌*◌, ◌<◌, pos, Bool, true, false, List, [], ◌∷◌, refl, sym, subst, inl, inr, true≢false, Option, Some, None, Ok, arith}
use Rattle.std.specs.Prelude.{IsSome, if◌then◌else◌}
use Rattle.std.specs.Str.{bytes_eq}
use Rattle.mc_text.specs.Routes.{Route}
use Rattle.tree_trait.specs.declared.calls.Children.{Children}
use Rattle.tree_trait.specs.declared.calls.TreeError.TheVariants as refused
use Rattle.tree_trait.specs.declared.file_system.FileSystem.{FileSystem}
use Rattle.tree_trait.specs.Answers.{IsListing, Performs}
use Rattle.tree_trait.specs.Calls.{ListFolder, SyncFolder}
use Rattle.tree_trait.specs.Change.{Change, Nothing, Makes, Removes, Syncs, CallLog, after_change, current, found_node}
use Rattle.tree_trait.specs.CrashImages.{Among}
use Rattle.tree_trait.specs.FileSystem.{lookup}
use Rattle.tree_trait.specs.Refusals.{refusal_of}
use Rattle.tree_trait.specs.Shape.{IsTree}
use Rattle.tree_trait.proofs.BareRoot.{bare, bare_tree}
use Rattle.tree_trait.proofs.Finding.{same_name-true}
use Rattle.tree_trait.proofs.Kept.{tree_made}
use Rattle.job_answers.specs.Decisions.{no_replies}
use Rattle.job_reports.specs.Stops.{cause_of, trouble_at}
use Rattle.job_reports.specs.declared.report.Did.TheVariants.{Removed, Kept, Skipped, Barrier, Troubled, Ended}
use Rattle.job_reports.specs.declared.report.Ending.TheVariants.{Finished}
use Rattle.tree_walk.specs.Places.{Place, unopened_walk}
use Rattle.tree_walk.specs.Ranks.{weight}
use Rattle.delete_job.specs.Descending.{Enters}
use Rattle.delete_job.specs.TreeDeletionSteps.{WorkCalls}
use Rattle.delete_job.specs.declared.deletion.Deletion.{Deletion}
use Rattle.delete_job.specs.declared.deletion.Depth.{Depth}
use Rattle.delete_job.specs.declared.deletion.Depth.TheVariants.{Inside, Top}
use Rattle.delete_job.specs.declared.deletion.Stage.{Stage}
use Rattle.delete_job.specs.declared.deletion.Stage.TheVariants.{Begin, Going, Sync}
use Rattle.delete_job.specs.DeletionSteps.{Goes, Passes}
use Rattle.delete_job.specs.Deletions.{Deleting, machine_of}
use Rattle.copy_move.specs.Jobs.{Running, halt_of}
use Rattle.copy_move.specs.declared.run.Course.{Course}
use Rattle.copy_move.specs.declared.run.Course.TheVariants.{InTrouble, Skips}
use Rattle.laws_sessions.proofs.ExampleParts.{deleting_job, file, folder, known_is, more_known, no_step}

-- the root holds a folder under the name 1
abbrev smallest : FileSystem
smallest = after_change bare (Makes 0 (1 ∷ []) folder)

-- which holds a file under the name 1
abbrev smaller : FileSystem
smaller = after_change smallest (Makes 1 (1 ∷ []) file)

-- and one under the name 2
abbrev small : FileSystem
small = after_change smaller (Makes 1 (2 ∷ []) file)

abbrev pub top : Route
top = (1 ∷ []) ∷ []

abbrev pub first : Route
first = (1 ∷ []) ∷ top

abbrev pub second : Route
second = (2 ∷ []) ∷ top

pub small_tree : IsTree small
small_tree = tree_made smaller 1 (2 ∷ []) file (tree_made smallest 1 (1 ∷ []) file (tree_made bare 0 (1 ∷ []) folder bare_tree refl) refl) refl

abbrev pub log : List Change → CallLog
log changes = record { opening = small; changes = changes }

abbrev removal : Change
removal = Removes 1 (1 ∷ []) 2

-- the walk in the folder, which has these names yet
abbrev in_top : List (List ℕ) → Bool → Place
in_top names spared = record unopened_walk { inner = record { path = top; names = names; spared = spared } }

abbrev deletion : Stage → Depth → Place → Deleting
deletion stage depth place = record { path = top; stage = stage; depth = depth; place = place; tried = 0 }

abbrev machine : Deleting → Deletion
machine d = machine_of d 0

-- how it goes on: it begins, has removed the first file, has left the second, and has decided on all
abbrev pub begins : Deleting
begins = deletion Begin Top unopened_walk

abbrev pub half_way : Deleting
half_way = deletion Going Inside (in_top ((2 ∷ []) ∷ []) false)

abbrev pub left_one : Deleting
left_one = deletion Going Inside (in_top [] true)

abbrev pub decided : Deleting
decided = deletion Sync Inside (in_top [] true)

abbrev pub job : Deleting → Course → Running
job d course = deleting_job 1 d course

abbrev pub trouble : Rattle.job_reports.specs.declared.report.Trouble.Trouble
trouble = trouble_at refused.Fault second false

abbrev pub waits : Running
waits = job half_way (InTrouble (halt_of trouble))

abbrev pub passes : Running
passes = job half_way (Skips (cause_of refused.Fault))

abbrev pub removed_log : CallLog
removed_log = log (removal ∷ [])

abbrev pub refused_log : CallLog
refused_log = log (removal ∷ Nothing ∷ [])

abbrev pub synced_log : CallLog
synced_log = log (removal ∷ Nothing ∷ Syncs 1 ∷ [])

-- the folder lists both names
abbrev children : Children
children = record { names = (1 ∷ []) ∷ (2 ∷ []) ∷ []; unnamed = 0 }

name_is : (m n : List ℕ) → bytes_eq m n ≡ true → n ≡ m
name_is m n h = sym (same_name-true 0 0 m n h).1

listed : (name : List ℕ) (two one : Bool) → bytes_eq (2 ∷ []) name ≡ two → bytes_eq (1 ∷ []) name ≡ one
    → IsSome (let o : Option ℕ = if two then Some 3 else if one then Some 2 else None in o) → Among ((1 ∷ []) ∷ (2 ∷ []) ∷ []) name
listed name true one is_two is_one h = inr (inl (name_is (2 ∷ []) name is_two))
listed name false true is_two is_one h = inl (name_is (1 ∷ []) name is_one)
listed name false false is_two is_one h = absurd (true≢false (sym h))

leads : (name : List ℕ) → Among ((1 ∷ []) ∷ (2 ∷ []) ∷ []) name → IsSome (lookup small.names 1 name)
leads name (inl is) = subst (λ n. IsSome (lookup small.names 1 n)) (sym is) refl
leads name (inr (inl is)) = subst (λ n. IsSome (lookup small.names 1 n)) (sym is) refl
leads name (inr (inr none)) = absurd none

lists : IsListing small 1 children
lists = record { names = λ name. (leads name, listed name (bytes_eq (2 ∷ []) name) (bytes_eq (1 ∷ []) name) refl refl); unnamed = refl }

-- the folder is gone into
enters : Enters (let o : Option CallLog = Some (log []) in o) (machine begins) top (machine (deletion Begin Inside (in_top ((1 ∷ []) ∷ (2 ∷ []) ∷ []) false)))
enters = record {
  children = children;
  takes = refl;
  may = tt;
  lists = known_is (log []) (λ l. (refusal_of (current l) (ListFolder top) ≡ None) × IsListing (current l) (found_node (current l) top) children) (refl, lists);
  all = refl;
  in_order = ((refl, tt), (tt, tt));
  opened_is = record { place = refl; depth_is = refl; stage_is = refl; path_is = refl; folder_is = refl };
}

fewer_left : (n : ℕ) → (1 + 1 * weight n) + 0 < weight (Rattle.std.proofs.Common.suc n) + 0
fewer_left n = omega arith

-- the first file is removed
pub removes_first : Goes no_replies begins half_way (Removed first) 1 [] (top ∷ []) (Some (log [])) (Some removed_log) 0 0
removes_first =
    let less = fewer_left 256 in
    inl (
      Removed first,
      machine half_way,
      0,
      0,
      record {
        entered = top ∷ [];
        mid = machine (deletion Begin Inside (in_top ((1 ∷ []) ∷ (2 ∷ []) ∷ []) false));
        descends = (machine begins, record { place = refl; depth_is = refl; stage_is = refl; path_is = refl; folder_is = refl }, enters);
        working = record {
          works = (refl, tt, record { place = refl; stage_is = refl; path_is = refl; folder_is = refl; depth_is = refl });
          called = known_is (log []) (λ l. WorkCalls (machine (deletion Begin Inside (in_top ((1 ∷ []) ∷ (2 ∷ []) ∷ []) false))) (Removed first) l (Some removed_log)) (((omega arith, omega arith), refl), (refl, (pos 0, refl)));
          leaves = refl;
          counted = more_known (log []) removed_log 1 refl;
          few = omega arith;
          unknown = no_step (log []) removed_log;
          later = omega arith;
          fault = λ h. absurd h;
        };
        falls = λ h. less;
        no_more = omega (arith, less);
      },
      inl (refl, refl, refl),
    )

-- the second can't be
pub refuses_second : Goes no_replies half_way half_way (Troubled trouble) 1 (top ∷ []) (top ∷ []) (Some removed_log) (Some refused_log) 0 1
refuses_second =
    inl (
      Troubled trouble,
      machine half_way,
      0,
      0,
      record {
        entered = [];
        mid = machine half_way;
        descends = record { place = refl; depth_is = refl; stage_is = refl; path_is = refl; folder_is = refl };
        working = record {
          works = (refl, record { place = refl; depth_is = refl; stage_is = refl; path_is = refl; folder_is = refl });
          called = known_is removed_log (λ l. WorkCalls (machine half_way) (Troubled trouble) l (Some refused_log)) (inr (refused.Fault, refl, ((omega arith, omega arith), refl), (refl, ([], refl))));
          leaves = refl;
          counted = more_known removed_log refused_log 1 refl;
          few = omega arith;
          unknown = no_step removed_log refused_log;
          later = omega arith;
          fault = λ h. omega arith;
        };
        falls = λ h. absurd (true≢false (sym h));
        no_more = omega arith;
      },
      inl (refl, refl, refl),
    )

-- and is passed over
pub passes_second : Passes (cause_of refused.Fault) half_way (Skipped second (cause_of refused.Fault)) left_one
passes_second = (0, 0, inl (second, refl, (machine left_one, inl (refl, (refl, record { depth_is = refl; stage_is = refl; path_is = refl; folder_is = refl })), refl)))

some_left : (n : ℕ) → 0 < (1 + 0 * weight n) + 0
some_left n = omega arith

-- so the folder is kept
pub keeps_top : Goes no_replies left_one decided (Kept top) 0 (top ∷ []) (top ∷ []) (Some refused_log) (Some refused_log) 1 1
keeps_top =
    let less = some_left 256 in
    inl (
      Kept top,
      machine decided,
      0,
      0,
      record {
        entered = [];
        mid = machine left_one;
        descends = record { place = refl; depth_is = refl; stage_is = refl; path_is = refl; folder_is = refl };
        working = record {
          works = (refl, refl, record { place = inr (refl, refl); stage_is = refl; path_is = refl; folder_is = refl; depth_is = refl });
          called = known_is refused_log (λ l. WorkCalls (machine left_one) (Kept top) l (Some refused_log)) refl;
          leaves = refl;
          counted = more_known refused_log refused_log 0 refl;
          few = omega arith;
          unknown = no_step refused_log refused_log;
          later = omega arith;
          fault = λ h. absurd h;
        };
        falls = λ h. less;
        no_more = omega arith;
      },
      inl (refl, refl, refl),
    )

-- it is synced, and the job is finished
pub syncs_top : Goes no_replies decided decided Barrier 1 (top ∷ []) [] (Some refused_log) (Some synced_log) 1 1
syncs_top =
    inr (
      0,
      record {
        syncs = (top, record { dirty = inl refl; is = refl }, refl, known_is refused_log (λ l. Performs {A = Unit {0}} l (SyncFolder top) (Ok tt) (Some synced_log)) (refl, (pos 0, refl)));
        counted = more_known refused_log synced_log 1 refl;
        few = omega arith;
        unknown = no_step refused_log synced_log;
        later = omega arith;
        fault = λ h. absurd h;
      },
      refl,
    )

pub finishes : Goes no_replies decided decided (Ended Finished None) 0 [] [] (Some synced_log) (Some synced_log) 1 1
finishes =
    inr (
      0,
      record {
        syncs = (refl, refl, λ kept among. absurd among, refl, refl);
        counted = more_known synced_log synced_log 0 refl;
        few = omega arith;
        unknown = no_step synced_log synced_log;
        later = omega arith;
        fault = λ h. absurd h;
      },
      refl,
    )
