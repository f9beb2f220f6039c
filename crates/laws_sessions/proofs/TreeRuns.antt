-- The calls of a copy's step, one after the other, in the folders that it has open.
use Rattle.std.proofs.Common.{◌≡◌, ◌⊎◌, ℕ, ◌<◌, Bool, true, false, List, [], ◌∷◌, ◌++◌, length, refl, sym, ◌∙◌, ap, subst, inl, inr, Some, None, Result, Ok, arith}
use Rattle.std.specs.Prelude.{if◌then◌else◌, ◌==◌}
use Rattle.mc_text.specs.Routes.{Route}
use Rattle.tree_trait.specs.declared.calls.TreeError.{TreeError}
use Rattle.tree_trait.specs.declared.file_system.FileSystem.{FileSystem}
use Rattle.tree_trait.specs.Answers.{Performs}
use Rattle.tree_trait.specs.Calls.{Call, Rename, SetMode, SyncFile}
use Rattle.tree_trait.specs.Change.{Change, Sets, Syncs, CallLog, current, found_node, with_change}
use Rattle.tree_trait.specs.CrashImages.{Among, says}
use Rattle.tree_trait.specs.FileSystem.{find, node}
use Rattle.tree_trait.specs.Refusals.{is_folder}
use Rattle.tree_trait.specs.Shape.{IsTree}
use Rattle.laws_crash.proofs.Guarding.{folder_kept, found_there, same_quiet}
use Rattle.laws_crash.proofs.Leading.{current_more}
use Rattle.job_reports.specs.CallRuns.{AllDone}
use Rattle.job_reports.proofs.CallAnswers.{done_call}
use Rattle.copy_file.specs.CopyCalls.{part_mode, placing}
use Rattle.copy_folders.specs.declared.level.Level.{Level}
use Rattle.copy_folders.specs.Levels.{Levels, coming, is_around_dirty, passed_levels}
use Rattle.laws_sessions.proofs.FilledCalls.{IsNoneOf, MayFill, PlacesBeside}
use Rattle.laws_sessions.proofs.AtWork.{HasItem, IsAtWork}
use Rattle.laws_sessions.proofs.OpenFolders.{LevelsKnow}
use Rattle.laws_sessions.proofs.FoldersLie.{AreNested}
use Rattle.laws_sessions.proofs.QuietRuns.{row_done, tree_moded, tree_synced}
use Rattle.laws_sessions.proofs.TreeKnows.{MayFillAround, levels_call, levels_quiet}

-- what may be done in each folder that lies higher may be done around
pub around_may : (s : FileSystem) (name : List ℕ) (call : Call) (up : Route) (around : List Level) → AreNested up around → ((q : Route) (names : List (List ℕ)) → length q < length up → MayFill s q names call) → MayFillAround s name around call
around_may s name call up [] nested may = tt
around_may s name call up (outer ∷ around) nested may =
    let less : length outer.copy.target < length up = (let e = ap (λ (r : Route). length r) nested.0.1 in omega (arith, e)) in (
      may outer.copy.target (coming name outer.names around) less,
      around_may s name call outer.copy.target around nested.1 (λ q names lower. may q names (omega (arith, less, lower))),
    )

-- a name in a folder is none of those in a higher one
pub higher_off : (q up : Route) (k : List ℕ) (names : List (List ℕ)) → length q < length up → IsNoneOf q names (k ∷ up)
higher_off q up k names less other same among = let e = ap (λ (r : Route). length r) same in absurd (omega (arith, e, less))

off_in : (up : Route) (k : List ℕ) (rest : List (List ℕ)) → (Among rest k → ⊥) → IsNoneOf up rest (k ∷ up)
off_in up k rest off other same among = off (let e : k ≡ other = cc in subst (λ m. Among rest m) (sym e) among)

-- so it may be placed, as for each open folder
pub placing_may : (s : FileSystem) (up q : Route) (rest names : List (List ℕ)) (part target : Route) → IsAtWork s up rest part target → (q ≡ up × (names ≡ rest)) ⊎ (length q < length up) → PlacesBeside s q names part target
placing_may s up q rest names part target w where_is = record {
  folder = up;
  part = w.k;
  target = w.n;
  i = w.i;
  from_is = w.part_is;
  to_is = w.target_is;
  apart = w.apart;
  leads = subst (λ r. find s r ≡ Some w.i) w.part_is w.leads;
  file = w.file;
  bare = subst (λ r. (j : ℕ) → find s r ≡ Some j → is_folder (node s j) ≡ false) w.target_is w.bare;
  part_off = subst (λ r. IsNoneOf q names r) (sym w.part_is) (off w.k w.part_off);
  target_off = subst (λ r. IsNoneOf q names r) (sym w.target_is) (off w.n w.target_off);
}
  where
    off : (k : List ℕ) → (Among rest k → ⊥) → IsNoneOf q names (k ∷ up)
    off k none = elim where_is [
      | inl same ↦ subst (λ r. IsNoneOf r names (k ∷ up)) (sym same.0) (subst (λ xs. IsNoneOf up xs (k ∷ up)) (sym same.1) (off_in up k rest none))
      | inr less ↦ higher_off q up k names less
    ]

-- it stays so while no name changes
at_work_quiet : (log : CallLog) (c : Change) (up : Route) (rest : List (List ℕ)) (part target : Route) → IsTree (current log) → ((n g : ℕ) (m : List ℕ) → says c n g m ≡ None) → IsAtWork (current log) up rest part target
    → IsAtWork (current (with_change log c)) up rest part target
at_work_quiet log c up rest part target tree none w = record {
  k = w.k;
  n = w.n;
  i = w.i;
  part_is = w.part_is;
  target_is = w.target_is;
  apart = w.apart;
  leads = same_quiet log c (none (length (current log).nodes)) part ∙ w.leads;
  file = ap (λ (s : FileSystem). is_folder (node s w.i)) (current_more log c) ∙ (folder_kept (current log) c w.i (found_there (current log) tree part w.i w.leads) ∙ w.file);
  bare = λ j at.
      let before = sym (same_quiet log c (none (length (current log).nodes)) target) ∙ at in
      ap (λ (s : FileSystem). is_folder (node s j)) (current_more log c) ∙ (folder_kept (current log) c j (found_there (current log) tree target j before) ∙ w.bare j before);
  part_off = w.part_off;
  target_off = w.target_off;
}

pub has_quiet : (name : List ℕ) (l : Levels) (part target : Route) (log : CallLog) (c : Change) → IsTree (current log) → ((n g : ℕ) (m : List ℕ) → says c n g m ≡ None) → HasItem log name l part target
    → HasItem (with_change log c) name l part target
unfolding at_work_quiet
has_quiet name l part target log c tree none h = record {
  work = at_work_quiet log c l.inner.copy.target (let p : Levels = passed_levels false l in coming name p.inner.names p.around) part target tree none h.work;
  off = h.off;
  free = elim h.free [ inl free ↦ inl (same_quiet log c (none (length (current log).nodes)) target ∙ free) | inr outermost ↦ inr outermost ];
}

-- What is known of open folders, in which a file or a link is at work.
module _ (name : List ℕ) (l : Levels) (clean : is_around_dirty l.around ≡ false) (nested : AreNested l.inner.copy.target l.around) where
  abbrev up : Route
  up = l.inner.copy.target

  abbrev names : List (List ℕ)
  names = coming name l.inner.names l.around

  -- a call that names nothing, or was refused
  pub row_quiet : (log now : CallLog) (call : Call) (answer : Result (Unit {0}) TreeError) → IsTree (current log) → Performs {A = Unit {0}} log call answer (Some now) → ((q : Route) (ns : List (List ℕ)) → MayFill (current log) q ns call)
      → LevelsKnow log name l → LevelsKnow now name l
  row_quiet log now call answer tree done may known =
      levels_call log now tree call answer done name l clean (may up names) (around_may (current log) name call up l.around nested (λ q ns less. may q ns)) known

  -- a thing is made in the innermost folder, with a name that is not met later; whatever is answered
  pub row_named : (log now : CallLog) (call : Call) (k : List ℕ) (answer : Result (Unit {0}) TreeError) → IsTree (current log) → Performs {A = Unit {0}} log call answer (Some now)
      → ((q : Route) (ns : List (List ℕ)) → IsNoneOf q ns (k ∷ up) → MayFill (current log) q ns call) → (Among names k → ⊥) → LevelsKnow log name l → LevelsKnow now name l
  row_named log now call k answer tree done may off known =
      levels_call log now tree call answer done name l clean (may up names (off_in up k names off))
      (around_may (current log) name call up l.around nested (λ q ns less. may q ns (higher_off q up k ns less))) known

  -- the part is renamed to the target, whatever is answered
  pub row_renamed : (log now : CallLog) (part target : Route) (answer : Result (Unit {0}) TreeError) → IsTree (current log) → Performs {A = Unit {0}} log (Rename part target) answer (Some now)
      → IsAtWork (current log) up names part target → LevelsKnow log name l → LevelsKnow now name l
  row_renamed log now part target answer tree done w known =
      levels_call log now tree (Rename part target) answer done name l clean (placing_may (current log) up up names names part target w (inl (refl, refl)))
      (around_may (current log) name (Rename part target) up l.around nested (λ q ns less. placing_may (current log) up q names ns part target w (inr less))) known

  -- what is known before a part is placed: that, and what is at work
  pub record Ready (log : CallLog) (part target : Route) : Type 0 where
    pub tree : IsTree (current log)
    pub known : LevelsKnow log name l
    pub work : IsAtWork (current log) up names part target

  ready_synced : (log now : CallLog) (part target : Route) → Ready log part target → Performs {A = Unit {0}} log (SyncFile part) (Ok tt) (Some now) → Ready now part target
  ready_synced log now part target r h =
      let d = done_call log (SyncFile part) now h in
      subst (λ (x : CallLog). Ready x part target) (sym d.is) (record {
        tree = tree_synced log (found_node (current log) part) r.tree;
        known = levels_quiet log (Syncs (found_node (current log) part)) r.tree (λ n g m. refl) name l r.known;
        work = at_work_quiet log (Syncs (found_node (current log) part)) up names part target r.tree (λ n g m. refl) r.work;
      })

  ready_moded : (log now : CallLog) (part target : Route) (mode : ℕ) → Ready log part target → Performs {A = Unit {0}} log (SetMode part mode) (Ok tt) (Some now) → Ready now part target
  ready_moded log now part target mode r h =
      let d = done_call log (SetMode part mode) now h in
      subst (λ (x : CallLog). Ready x part target) (sym d.is) (record {
        tree = tree_moded log (found_node (current log) part) mode r.tree;
        known = levels_quiet log (Sets (found_node (current log) part) mode) r.tree (λ n g m. refl) name l r.known;
        work = at_work_quiet log (Sets (found_node (current log) part) mode) up names part target r.tree (λ n g m. refl) r.work;
      })

  -- a full part is placed
  pub part_placed : (log now : CallLog) (mode : ℕ) (part target : Route) → Ready log part target → AllDone log (placing mode part target) (Some now) → LevelsKnow now name l
  part_placed log now mode part target ready rows = by (part_mode mode == mode) refl rows
    where
      tail : (from : CallLog) → Ready from part target → AllDone from (SyncFile part ∷ Rename part target ∷ []) (Some now) → LevelsKnow now name l
      tail from r (mid, synced, moved) = let m = ready_synced from mid part target r synced in row_renamed mid now part target (Ok tt) m.tree (row_done mid now (Rename part target) moved) m.work m.known

      by : (b : Bool) → (part_mode mode == mode) ≡ b → AllDone log (if◌then◌else◌ b [] (SetMode part mode ∷ []) ++ SyncFile part ∷ Rename part target ∷ []) (Some now) → LevelsKnow now name l
      by true is rows = tail log ready rows
      by false is (mid, set, later) = tail mid (ready_moded log mid part target mode ready set) later
