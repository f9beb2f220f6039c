-- A small session in which a folder with a file in it is moved to where a folder stands already, so the premises can be met: the job merges the two, goes on with the file, which is moved, and then with
-- the folder, which is removed. So the file stands in the other folder at its end, and nothing where the folder was.
use Rattle.std.proofs.Common.{◌≡◌, ℕ, pos, Bool, true, false, List, [], ◌∷◌, ◌++◌, refl, sym, ◌∙◌, ap, subst, inl, inr, Option, Some, None, true≢false, arith}
use Rattle.std.specs.Prelude.{IsSome, if◌then◌else◌}
use Rattle.std.specs.Str.{bytes_eq}
use Rattle.std.proofs.lemmas.Bool.{false≢true}
use Rattle.mc_text.specs.Routes.{Route}
use Rattle.mc_text.specs.declared.kind.Kind.{Kind}
use Rattle.mc_text.specs.declared.kind.Kind.TheVariants.{File, Folder}
use Rattle.tree_trait.specs.declared.calls.Children.{Children}
use Rattle.tree_trait.specs.declared.calls.Meta.{Meta}
use Rattle.tree_trait.specs.declared.file_system.FileSystem.{FileSystem}
use Rattle.tree_trait.specs.Answers.{IsListing, mount_number}
use Rattle.tree_trait.specs.Change.{Change, Makes, Moves, Removes, Syncs, CallLog, after_change, current}
use Rattle.tree_trait.specs.CrashImages.{Among}
use Rattle.tree_trait.specs.FileSystem.{Spot, lookup, value, visible_tree}
use Rattle.tree_trait.specs.Refusals.{mount_of}
use Rattle.tree_trait.specs.Shape.{IsTree}
use Rattle.tree_trait.proofs.BareRoot.{bare, bare_tree}
use Rattle.tree_trait.proofs.Finding.{same_name-true}
use Rattle.tree_trait.proofs.Kept.{tree_made}
use Rattle.job_answers.specs.Decisions.{no_replies}
use Rattle.job_reports.specs.declared.job.Job.TheVariants as plan
use Rattle.job_reports.specs.declared.job.Pair.{Pair}
use Rattle.job_reports.specs.declared.report.Did.TheVariants.{Barrier, Ended, Merges, Moved, Removed}
use Rattle.job_reports.specs.declared.report.Ending.TheVariants.{Finished}
use Rattle.job_reports.specs.declared.report.Transfer.TheVariants.{ByMove}
use Rattle.job_reports.specs.Jobs as jobs
use Rattle.session_entries.specs.SourcesLeft.{AreInTurn}
use Rattle.session_entries.specs.declared.history.Event.TheVariants.{Began, Next, Step}
use Rattle.session_entries.specs.declared.history.Entry.{Entry}
use Rattle.copy_tree.specs.Taking.{AreShort, IsShort}
use Rattle.move_job.specs.declared.moving.MovingStage.{MovingStage}
use Rattle.move_job.specs.declared.moving.MovingStage.TheVariants as moving
use Rattle.move_job.specs.Movings.{MayMerge}
use Rattle.move_job.specs.Takings.{IsMerged, MayMove, Stands}
use Rattle.emptied_job.specs.declared.removal.RemovalStage.{RemovalStage}
use Rattle.emptied_job.specs.declared.removal.RemovalStage.TheVariants as removal
use Rattle.copy_move.specs.declared.run.Course.TheVariants.{GoesOn}
use Rattle.copy_move.specs.declared.work.Work.{Work}
use Rattle.copy_move.specs.declared.work.Work.TheVariants.{Move, RemoveEmptied}
use Rattle.copy_move.specs.Jobs.{Running}
use Rattle.laws_sessions.specs.Replayed.{replayed_tree}
use Rattle.laws_sessions.specs.Traces.{IsTraced, nothing_live}
use Rattle.laws_sessions.proofs.ExampleParts.{entry, file, folder, own_step, stand}
use Rattle.laws_outcomes.specs.Answered.{HoldsSome, IsMergedWhole}
use Rattle.laws_outcomes.proofs.AnswersLaw.{answered_law}
use Rattle.laws_outcomes.proofs.UntouchedSteps.{untouched_law}
use Rattle.laws_outcomes.proofs.Outcome.{outcome_law}

-- the root holds two folders, under the names 1 and 2, and in the first stands a file under the name 3
abbrev pub with_from : FileSystem
with_from = after_change bare (Makes 0 (1 ∷ []) folder)

abbrev pub with_both : FileSystem
with_both = after_change with_from (Makes 0 (2 ∷ []) folder)

abbrev pub small : FileSystem
small = after_change with_both (Makes 1 (3 ∷ []) file)

pub small_tree : IsTree small
small_tree = tree_made with_both 1 (3 ∷ []) file (tree_made with_from 0 (2 ∷ []) folder (tree_made bare 0 (1 ∷ []) folder bare_tree refl) refl) refl

abbrev pub name : List ℕ
name = 3 ∷ []

abbrev pub outer : Pair
outer = record { source = (1 ∷ []) ∷ []; target = (2 ∷ []) ∷ [] }

abbrev pub inner : Pair
inner = record { source = name ∷ outer.source; target = name ∷ outer.target }

abbrev pub root : Route
root = []

abbrev pub log : List Change → CallLog
log changes = record { opening = small; changes = changes }

abbrev job : Work → Running
job work = record { id = 1; work = work; course = GoesOn; replies = no_replies }

abbrev moves : Pair → MovingStage → Work
moves pair stage = Move (record { pair = pair; stage = stage })

abbrev removes : RemovalStage → Work
removes stage = RemoveEmptied (record { path = outer.source; stage = stage })

-- the job begins
abbrev pub begun_entries : List Entry
begun_entries = entry 0 (Began 1 (plan.Move (outer ∷ [])) false) ∷ []

begun_traced : IsTraced (log []) begun_entries (stand (job (moves outer moving.Take) ∷ []) []) (log [])
begun_traced =
    (nothing_live, log [], (refl, refl), record { after = stand (job (moves outer moving.Take) ∷ []) []; leads = record { none_live = refl; after_is = refl; now_is = refl }; stand_is = refl; counts = refl })

-- a folder comes onto a folder, and the file is all that is listed
abbrev meta : Route → Kind → ℕ → ℕ → Meta
meta path kind size mode = (let s = current (log []) in record { kind = kind; size = size; mode = mode; mtime = pos 0; mount = mount_number s.mounts (mount_of s path) })

from_stands : Stands small outer.source (meta outer.source Folder 0 0o755)
from_stands = record { there = refl; is = record { kind = refl; size = refl; mode = refl; mtime = refl; mount = refl } }

to_stands : Stands small outer.target (meta outer.target Folder 0 0o755)
to_stands = record { there = refl; is = record { kind = refl; size = refl; mode = refl; mtime = refl; mount = refl } }

abbrev children : Children
children = record { names = name ∷ []; unnamed = 0 }

listed : (n : List ℕ) (b : Bool) → bytes_eq name n ≡ b → IsSome (let o : Option ℕ = if b then Some 3 else None in o) → Among (name ∷ []) n
listed n true is h = inl (sym (same_name-true 0 0 name n is).1)
listed n false is h = absurd (false≢true h)

leads : (n : List ℕ) → Among (name ∷ []) n → IsSome (lookup small.names 1 n)
leads n (inl is) = subst (λ x. IsSome (lookup small.names 1 x)) (sym is) refl
leads n (inr none) = absurd none

lists : IsListing small 1 children
lists = record { names = λ n. (leads n, listed n (bytes_eq name n) refl); unnamed = refl }

is_merged : IsMerged small outer (name ∷ [])
is_merged = record {
  meets = record { source = meta outer.source Folder 0 0o755; target = meta outer.target Folder 0 0o755; of_source = from_stands; of_target = to_stands; meets = refl; together = refl };
  lists = (refl, lists);
}

short : AreShort outer (name ∷ [])
short n (inl is) = subst (λ x. IsShort (x ∷ outer.source) × IsShort (x ∷ outer.target)) (sym is) (omega arith, omega arith)
short n (inr none) = absurd none

may_merge : MayMerge outer ByMove outer (name ∷ [])
may_merge = record { by_move = refl; its = refl; held = refl; apart = refl; short = short; in_order = (tt, tt); few = omega arith }

abbrev pub merged_entries : List Entry
merged_entries = entry 0 (Step 1 (Merges ByMove outer (name ∷ []))) ∷ begun_entries

merged_traced : IsTraced (log []) merged_entries (stand (job (moves outer moving.PassedOver) ∷ []) []) (log [])
merged_traced =
    own_step (log []) 1 0 (Merges ByMove outer (name ∷ [])) begun_entries (stand (job (moves outer moving.Take) ∷ []) []) (stand (job (moves outer moving.PassedOver) ∷ []) []) (log []) (log [])
    (job (moves outer moving.Take)) (job (moves outer moving.PassedOver)) begun_traced (inl (refl, refl))
    (record {
      tells = (moves outer moving.PassedOver, (refl, may_merge, refl), refl);
      called = (is_merged, refl);
      settled = λ goes fresh kept among. absurd among;
      cleared = λ goes fresh kept among. absurd among;
      leaves = refl;
      walks = (0, 0, 0, tt);
    }) refl refl refl

-- it goes on with the file
abbrev pub turn : Entry
turn = entry 0 (Next 1 (plan.Move (inner ∷ [])))

abbrev pub turned_entries : List Entry
turned_entries = turn ∷ merged_entries

turned_traced : IsTraced (log []) turned_entries (stand (job (moves inner moving.Take) ∷ []) []) (log [])
turned_traced = (
  stand (job (moves outer moving.PassedOver) ∷ []) [],
  log [],
  merged_traced,
  record {
    after = stand (job (moves inner moving.Take) ∷ []) [];
    leads = record {
      job = job (moves outer moving.PassedOver);
      its = inl (refl, refl);
      over = job (moves outer moving.PassedOver);
      done = record {
        tells = (moves outer moving.PassedOver, (refl, refl, refl), refl);
        called = refl;
        settled = λ goes fresh. absurd (true≢false (sym fresh));
        cleared = λ goes fresh. absurd (true≢false (sym fresh));
        leaves = refl;
        walks = (0, 0, 0, tt);
      };
      next = job (moves inner moving.Take);
      next_is = refl;
      jobs_is = refl;
    };
    stand_is = refl;
    counts = refl;
  },
)

-- which is renamed
abbrev pub renamed : Change
renamed = Moves 1 name 2 name 3 None

abbrev moved_log : CallLog
moved_log = log (renamed ∷ [])

may_move : MayMove small inner no_replies
may_move = record {
  can = record { source = meta inner.source File 1 0o644; stands = record { there = refl; is = record { kind = refl; size = refl; mode = refl; mtime = refl; mount = refl } } };
  free = inl refl;
}

abbrev pub moved_entries : List Entry
moved_entries = entry 1 (Step 1 (Moved inner)) ∷ turned_entries

moved_traced : IsTraced (log []) moved_entries (stand (job (moves inner moving.SyncTarget) ∷ []) (outer.target ∷ outer.source ∷ [])) moved_log
moved_traced =
    own_step (log []) 1 1 (Moved inner) turned_entries (stand (job (moves inner moving.Take) ∷ []) []) (stand (job (moves inner moving.SyncTarget) ∷ []) (outer.target ∷ outer.source ∷ [])) (log []) moved_log
    (job (moves inner moving.Take)) (job (moves inner moving.SyncTarget)) turned_traced (inl (refl, refl))
    (record {
      tells = (moves inner moving.SyncTarget, (refl, refl, refl), refl);
      called = (may_move, (refl, (pos 0, refl)));
      settled = λ goes fresh kept among. absurd among;
      cleared = λ goes fresh kept among. absurd among;
      leaves = refl;
      walks = (1, 0, 0, tt);
    }) refl refl refl

-- and both folders are synced
abbrev target_log : CallLog
target_log = log (renamed ∷ Syncs 2 ∷ [])

abbrev pub target_entries : List Entry
target_entries = entry 2 (Step 1 Barrier) ∷ moved_entries

target_traced : IsTraced (log []) target_entries (stand (job (moves inner moving.SyncSource) ∷ []) (outer.source ∷ [])) target_log
target_traced =
    own_step (log []) 1 2 Barrier moved_entries (stand (job (moves inner moving.SyncTarget) ∷ []) (outer.target ∷ outer.source ∷ [])) (stand (job (moves inner moving.SyncSource) ∷ []) (outer.source ∷ [])) moved_log target_log
    (job (moves inner moving.SyncTarget)) (job (moves inner moving.SyncSource)) moved_traced (inl (refl, refl))
    (record {
      tells = (moves inner moving.SyncSource, (refl, refl), refl);
      called = (refl, (pos 0, refl));
      settled = λ goes fresh. absurd (true≢false (sym fresh));
      cleared = λ goes fresh. absurd (true≢false (sym fresh));
      leaves = refl;
      walks = (1, 0, 0, tt);
    }) refl refl refl

abbrev source_log : CallLog
source_log = log (renamed ∷ Syncs 2 ∷ Syncs 1 ∷ [])

abbrev pub source_entries : List Entry
source_entries = entry 3 (Step 1 Barrier) ∷ target_entries

source_traced : IsTraced (log []) source_entries (stand (job (moves inner moving.Finish) ∷ []) []) source_log
source_traced =
    own_step (log []) 1 3 Barrier target_entries (stand (job (moves inner moving.SyncSource) ∷ []) (outer.source ∷ [])) (stand (job (moves inner moving.Finish) ∷ []) []) target_log source_log
    (job (moves inner moving.SyncSource)) (job (moves inner moving.Finish)) target_traced (inl (refl, refl))
    (record {
      tells = (moves inner moving.Finish, (refl, refl), refl);
      called = (refl, (pos 0, refl));
      settled = λ goes fresh. absurd (true≢false (sym fresh));
      cleared = λ goes fresh. absurd (true≢false (sym fresh));
      leaves = refl;
      walks = (1, 0, 0, tt);
    }) refl refl refl

-- it goes on with the emptied folder
abbrev pub last_turn : Entry
last_turn = entry 3 (Next 1 (plan.RemoveEmptied outer.source))

abbrev pub emptied_entries : List Entry
emptied_entries = last_turn ∷ source_entries

emptied_traced : IsTraced (log []) emptied_entries (stand (job (removes removal.Remove) ∷ []) []) source_log
emptied_traced = (
  stand (job (moves inner moving.Finish) ∷ []) [],
  source_log,
  source_traced,
  record {
    after = stand (job (removes removal.Remove) ∷ []) [];
    leads = record {
      job = job (moves inner moving.Finish);
      its = inl (refl, refl);
      over = job (moves inner moving.Finish);
      done = record {
        tells = (moves inner moving.Finish, (refl, refl, refl), refl);
        called = refl;
        settled = λ goes fresh. absurd (true≢false (sym fresh));
        cleared = λ goes fresh. absurd (true≢false (sym fresh));
        leaves = refl;
        walks = (0, 0, 0, tt);
      };
      next = job (removes removal.Remove);
      next_is = refl;
      jobs_is = refl;
    };
    stand_is = refl;
    counts = refl;
  },
)

-- which is removed, and the folder around it is synced
abbrev removed_log : CallLog
removed_log = log (renamed ∷ Syncs 2 ∷ Syncs 1 ∷ Removes 0 (1 ∷ []) 1 ∷ [])

abbrev pub removed_entries : List Entry
removed_entries = entry 4 (Step 1 (Removed outer.source)) ∷ emptied_entries

removed_traced : IsTraced (log []) removed_entries (stand (job (removes removal.Sync) ∷ []) (root ∷ [])) removed_log
removed_traced =
    own_step (log []) 1 4 (Removed outer.source) emptied_entries (stand (job (removes removal.Remove) ∷ []) []) (stand (job (removes removal.Sync) ∷ []) (root ∷ [])) source_log removed_log
    (job (removes removal.Remove)) (job (removes removal.Sync)) emptied_traced (inl (refl, refl))
    (record {
      tells = (removes removal.Sync, (refl, refl, refl), refl);
      called = (refl, (pos 0, refl));
      settled = λ goes fresh kept among. absurd among;
      cleared = λ goes fresh kept among. absurd among;
      leaves = refl;
      walks = (1, 0, 0, tt);
    }) refl refl refl

abbrev pub last_log : CallLog
last_log = log (renamed ∷ Syncs 2 ∷ Syncs 1 ∷ Removes 0 (1 ∷ []) 1 ∷ Syncs 0 ∷ [])

abbrev pub last_entries : List Entry
last_entries = entry 5 (Step 1 Barrier) ∷ removed_entries

last_traced : IsTraced (log []) last_entries (stand (job (removes removal.Finish) ∷ []) []) last_log
last_traced =
    own_step (log []) 1 5 Barrier removed_entries (stand (job (removes removal.Sync) ∷ []) (root ∷ [])) (stand (job (removes removal.Finish) ∷ []) []) removed_log last_log
    (job (removes removal.Sync)) (job (removes removal.Finish)) removed_traced (inl (refl, refl))
    (record {
      tells = (removes removal.Finish, (refl, refl), refl);
      called = (refl, (pos 0, refl));
      settled = λ goes fresh. absurd (true≢false (sym fresh));
      cleared = λ goes fresh. absurd (true≢false (sym fresh));
      leaves = refl;
      walks = (1, 0, 0, tt);
    }) refl refl refl

abbrev pub end : Entry
end = entry 5 (Step 1 (Ended Finished None))

pub ended_traced : IsTraced (log []) (end ∷ last_entries) (stand [] []) last_log
ended_traced =
    own_step (log []) 1 5 (Ended Finished None) last_entries (stand (job (removes removal.Finish) ∷ []) []) (stand [] []) last_log last_log (job (removes removal.Finish)) (job (removes removal.Finish)) last_traced (inl (refl, refl))
    (record {
      tells = (removes removal.Finish, (refl, refl, refl), refl);
      called = refl;
      settled = λ goes fresh. absurd (true≢false (sym fresh));
      cleared = λ goes fresh. absurd (true≢false (sym fresh));
      leaves = refl;
      walks = (0, 0, 0, tt);
    }) refl refl refl

-- what it goes on with is what the merge told, and behind that the folder, and at its end nothing is left
pub in_turn : AreInTurn (end ∷ last_entries)
in_turn = (refl, (tt, (tt, (([], refl), (tt, (tt, (tt, ((plan.RemoveEmptied outer.source ∷ [], refl), (tt, (tt, tt))))))))))

-- The file is all that stands in the folder, and the merge leaves it as it is.
pub is_whole : IsMergedWhole (visible_tree small) outer (name ∷ [])
is_whole =
    let law = answered_law (log []) (log []) merged_entries (stand (job (moves outer moving.PassedOver) ∷ []) []) small_tree refl merged_traced in
    (law.moves (entry 0 (Step 1 (Merges ByMove outer (name ∷ [])))) begun_entries 1 (Merges ByMove outer (name ∷ [])) outer.source outer.target refl refl (inl (refl, refl, refl))).2

pub outer_stays : (rest : Route) → replayed_tree (log []) last_log merged_entries (rest ++ outer.source) ≡ visible_tree small (rest ++ outer.source)
outer_stays rest =
    let law = outcome_law (log []) last_log (end ∷ last_entries) (stand [] []) small_tree refl ended_traced turn merged_entries 1 (jobs.Moves outer.source outer.target) (record { ended = refl; its = refl })
    (inr (inr (inr (inr (inr (inr (inr (inr (inr (inr (inr (inr (inr (inr (inl (refl, refl, refl)))))))))))))))) in
    (law.stays (inl refl) rest).0

-- the file has moved
inner_moved : (replayed_tree (log []) last_log source_entries inner.target).value ≡ Some (value file)
inner_moved =
    let law = outcome_law (log []) last_log (end ∷ last_entries) (stand [] []) small_tree refl ended_traced last_turn source_entries 1 (jobs.Moves inner.source inner.target) (record { ended = refl; its = refl })
    (inr (inr (inr (inr (inr (inr (inl (refl, refl, refl)))))))) in
    ap (λ (s : Spot). s.value) (law.went (λ among. absurd among) []).1

-- nothing lies in the folder where it is removed
pub is_empty : HoldsSome (replayed_tree (log []) removed_log emptied_entries) outer.source → ⊥
is_empty =
    let law = answered_law (log []) removed_log removed_entries (stand (job (removes removal.Sync) ∷ []) (root ∷ [])) small_tree refl removed_traced in
    (law.emptied (entry 4 (Step 1 (Removed outer.source))) emptied_entries 1 (Removed outer.source) outer.source refl refl (inl (refl, refl, refl))).1

-- so nothing stands where the folder was, and the file in the other one
pub folder_gone : (replayed_tree (log []) last_log last_entries outer.source).value ≡ None
folder_gone =
    let law = outcome_law (log []) last_log (end ∷ last_entries) (stand [] []) small_tree refl ended_traced end last_entries 1 (jobs.RemovesEmptied outer.source) (record { ended = refl; its = refl }) (inl (refl, refl, refl)) in
    law.gone (λ among. absurd among)

pub file_moved : (replayed_tree (log []) last_log last_entries inner.target).value ≡ Some (value file)
file_moved =
    ap (λ (s : Spot). s.value)
    (let law = untouched_law (log []) last_log (end ∷ last_entries) (stand [] []) small_tree refl ended_traced in law.since end last_entries 1 (jobs.RemovesEmptied outer.source) inner.target (record { ended = refl; its = refl }) (inl (refl, refl, refl)) refl refl)
    ∙ inner_moved
