-- A thing that was moved, a folder with all that lies in it, and what is known of it from then on: calls that meet neither path keep it, and each image shows it.
use Rattle.std.proofs.Common.{◌≡◌, ◌⊎◌, ℕ, ◌≤◌, true, false, List, [], ◌∷◌, ◌++◌, length, refl, sym, ◌∙◌, ap, subst, inl, inr, Option, Some, None, arith, append-nil, length-append, take}
use Rattle.std.specs.Prelude.{is_some}
use Rattle.std.specs.Option.{option_map}
use Rattle.std.proofs.lemmas.Bool.{cases_lt}
use Rattle.std.proofs.Math.Seq.{take-append_seam, take-length}
use Rattle.mc_text.specs.Routes.{Route}
use Rattle.tree_trait.specs.declared.file_system.FileSystem.{FileSystem}
use Rattle.tree_trait.specs.FileSystem.{Value, View, find, node, value, value_at}
use Rattle.tree_trait.specs.Change.{Change, CallLog, current, with_change}
use Rattle.tree_trait.specs.CrashImages.{Among, alters, is_clean}
use Rattle.tree_trait.proofs.Steady.{node_law}
use Rattle.laws_crash.specs.Guarded.{IsUnder}
use Rattle.laws_crash.specs.Moved.{IsMoved, Lies, Meets}
use Rattle.laws_crash.specs.Possible.{IsImage}
use Rattle.laws_crash.proofs.Guarding.{found_there}
use Rattle.laws_crash.proofs.Leading.{clean_more}
use Rattle.laws_crash.proofs.Moved.{moved_law}
use Rattle.laws_crash.proofs.Syncing.{unaltered_law}
use Rattle.job_reports.specs.declared.job.Pair.{Pair}
use Rattle.laws_sessions.specs.Whole.{IsWholeAt, StandsAllAt}
use Rattle.laws_sessions.proofs.Moments.{log_of}
use Rattle.laws_sessions.proofs.MovingThings.{pair_of}
use Rattle.laws_sessions.proofs.Spared.{AreOff, IsOff, off_spares}
use Rattle.laws_sessions.proofs.Stepped.{cut, more, more_one}

-- Of a thing that was moved: what lay at its source stands now at its target, and in each image at the one or at the other; no mode or bytes of it wait, but of parts.
pub record IsKeptWhole (pair : Pair) (parts : List Route) (stood : View) (log : CallLog) : Type 0 where
  pub first : CallLog
  pub old : List ℕ
  pub from : Route
  pub new : List ℕ
  pub to : Route
  pub pair_is : pair ≡ pair_of (old ∷ from) (new ∷ to)
  pub some : is_some (stood (old ∷ from)).value ≡ true
  pub shown : (rest : Route) → value_at (current first) (rest ++ old ∷ from) ≡ (stood (rest ++ old ∷ from)).value
  pub moved : IsMoved log old from new to (λ rest. find (current first) (rest ++ old ∷ from))
  pub clean : (rest : Route) (i : ℕ) → (Among parts (rest ++ old ∷ from) → ⊥) → find (current first) (rest ++ old ∷ from) ≡ Some i
      → (is_clean i log.changes ≡ true) × (node (current log) i ≡ node (current first) i)

module _ (pair : Pair) (parts : List Route) (stood : View) where
  abbrev Kept : CallLog → Type 0
  Kept log = IsKeptWhole pair parts stood log

  -- a call that meets neither path keeps it
  module _ (log : CallLog) (c : Change) (kept : Kept log) (off : IsOff pair log c) where
    abbrev source : Route
    source = kept.old ∷ kept.from

    abbrev target : Route
    target = kept.new ∷ kept.to

    spares_source : (path : Route) → Meets source path → IsUnder log c path → ⊥
    spares_source path on = off_spares pair log c off path (inl (subst (λ (p : Pair). Meets p.source path) (sym kept.pair_is) on))

    spares_target : (path : Route) → Meets target path → IsUnder log c path → ⊥
    spares_target path on = off_spares pair log c off path (inr (subst (λ (p : Pair). Meets p.target path) (sym kept.pair_is) on))

    moved_on : IsMoved (with_change log c) kept.old kept.from kept.new kept.to (λ rest. find (current kept.first) (rest ++ source))
    moved_on = moved_law log c kept.old kept.from kept.new kept.to (λ rest. find (current kept.first) (rest ++ source)) spares_source spares_target kept.moved

    unaltered : (rest : Route) (i : ℕ) → find (current kept.first) (rest ++ source) ≡ Some i → alters i c ≡ false
    unaltered rest i at =
        off.nodes (rest ++ target) i (inr (subst (λ (p : Pair). Meets p.target (rest ++ target)) (sym kept.pair_is) (inl (rest, refl)))) ((let m = moved_on in m.there rest) ∙ at)

    clean_on : (rest : Route) (i : ℕ) → (Among parts (rest ++ source) → ⊥) → find (current kept.first) (rest ++ source) ≡ Some i
        → (is_clean i (with_change log c).changes ≡ true) × (node (current (with_change log c)) i ≡ node (current kept.first) i)
    clean_on rest i out at =
        let before = kept.clean rest i out at in
        let still = unaltered rest i at in
        (clean_more i log.changes c still before.0, unaltered_law log c i still (found_there (current log) off.tree (rest ++ target) i ((let m = kept.moved in m.there rest) ∙ at)) ∙ before.1)

    pub kept_on : Kept (with_change log c)
    kept_on = record {
      first = kept.first;
      old = kept.old;
      from = kept.from;
      new = kept.new;
      to = kept.to;
      pair_is = kept.pair_is;
      some = kept.some;
      shown = kept.shown;
      moved = moved_on;
      clean = clean_on;
    }

  -- and so do more of them
  pub kept_more : (cs : List Change) (log : CallLog) → Kept log → AreOff pair log cs → Kept (more log cs)
  kept_more [] log kept off = subst Kept (sym (ap (log_of log) (append-nil log.changes))) kept
  kept_more (c ∷ cs) log kept off = subst Kept (sym (more_one log c cs)) (kept_more cs (with_change log c) (kept_on log c kept off.0) off.1)

  -- within them, too
  pub kept_cut : (cs : List Change) (log : CallLog) (count : ℕ) → Kept log → AreOff pair log cs → length log.changes ≤ count → count ≤ length (log.changes ++ cs) → Kept (cut (more log cs) count)
  kept_cut [] log count kept off least most =
      let same : count ≡ length (log.changes ++ []) = (let n = length-append log.changes [] in omega (arith, least, most, n)) in
      subst Kept (sym (ap (log_of log) (ap (λ n. take n (log.changes ++ [])) same ∙ (take-length (log.changes ++ []) ∙ append-nil log.changes)))) kept
  kept_cut (c ∷ cs) log count kept off least most = elim (cases_lt (length log.changes) count) [
    | inl later ↦
        let n = length-append log.changes (c ∷ []) in
        let least_on : length (with_change log c).changes ≤ count = omega (arith, later, n) in
        let most_on = subst (λ (l : CallLog). count ≤ length l.changes) (more_one log c cs) most in
        subst (λ (l : CallLog). Kept (cut l count)) (sym (more_one log c cs)) (kept_cut cs (with_change log c) count (kept_on log c kept off.0) off.1 least_on most_on)
    | inr here ↦
        let same : count ≡ length log.changes = omega (arith, least, here) in
        subst Kept (sym (ap (log_of log) (ap (λ n. take n (log.changes ++ c ∷ cs)) same ∙ take-append_seam log.changes (c ∷ cs)))) kept
  ]

  -- It is whole in each image.
  module _ (log : CallLog) (kept : Kept log) (image : FileSystem) (left : IsImage log image) where
    stands_by : (name : List ℕ) (folder : Route) → Lies log image name folder (λ rest. find (current kept.first) (rest ++ kept.old ∷ kept.from)) → StandsAllAt image (name ∷ folder) parts stood (kept.old ∷ kept.from)
    stands_by name folder lies rest out = ap (option_map (λ i. value (node image i))) (lies.all rest) ∙ (by (find (current kept.first) (rest ++ kept.old ∷ kept.from)) refl ∙ kept.shown rest)
      where
        by : (o : Option ℕ) → find (current kept.first) (rest ++ kept.old ∷ kept.from) ≡ o → option_map (λ i. value (node image i)) o ≡ option_map (λ i. value (node (current kept.first) i)) o
        by None at = refl
        by (Some i) at =
            let k = kept.clean rest i out at in
            ap (λ n. (let v : Option Value = Some (value n) in v)) (node_law i log.opening log.opening image log.changes refl refl k.0 left ∙ k.1)

    pub whole_here : IsWholeAt image pair parts stood
    whole_here = subst (λ (p : Pair). IsWholeAt image p parts stood) (sym kept.pair_is) (record {
      some = kept.some;
      stands = elim ((let m = kept.moved in m.images image left)) [
        | inl here ↦ inl (stands_by kept.old kept.from here)
        | inr there ↦ inr (stands_by kept.new kept.to there)
      ];
    })
