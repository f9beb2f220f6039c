-- What a crash leaves of a mode that is set, and what is known of a tree in which one waits.
use Rattle.std.proofs.Common.{◌≡◌, ◌⊎◌, ℕ, ◌<◌, Bool, true, false, length, refl, sym, ◌∙◌, ap, subst, inl, inr, Option, Some, None, cond}
use Rattle.std.specs.Prelude.{◌==◌}
use Rattle.std.specs.Option.{option_map}
use Rattle.std.proofs.lemmas.Bool.{both_ways, eq-eqb, eqb-true, false_from_ne_true}
use Rattle.std.proofs.lemmas.List.{length-set}
use Rattle.mc_text.specs.Routes.{Route}
use Rattle.tree_trait.specs.declared.file_system.FileSystem.{FileSystem}
use Rattle.tree_trait.specs.FileSystem.{Value, find, node, value, value_at}
use Rattle.tree_trait.specs.Shape.{IsTree}
use Rattle.tree_trait.specs.Change.{Sets, Syncs, CallLog, current, with_change}
use Rattle.tree_trait.proofs.Kept.{tree_set}
use Rattle.tree_trait.proofs.Steady.{node_law}
use Rattle.laws_crash.specs.Guarded.{Marks, IsGuarded, IsOnDisk, IsSettledAt, MayHaveMode, with_mode}
use Rattle.laws_crash.specs.Modes.{ModesLaw, SettingLaw, marks_with_mode, marks_without_mode}
use Rattle.laws_crash.specs.Possible.{IsImage}
use Rattle.laws_crash.proofs.Guarding.{unnamed_kept}
use Rattle.laws_crash.proofs.Leading.{current_more, find_law}
use Rattle.laws_crash.proofs.NodeModes.{on_disk_more, others, set}
use Rattle.laws_crash.proofs.Syncing.{firm_law}

synced : (log : CallLog) (i : ℕ) (image : FileSystem) → IsImage (with_change log (Syncs i)) image → node image i ≡ node (current log) i
synced log i image left =
    node_law i log.opening log.opening image (with_change log (Syncs i)).changes refl refl (firm_law log i) left ∙ ap (λ (s : FileSystem). node s i) (current_more log (Syncs i))

shown : (log : CallLog) (image : FileSystem) (p : Route) (i before : ℕ) → IsImage log image → IsSettledAt log p → find (current log) p ≡ Some i → MayHaveMode log i before
    → (value_at image p ≡ value_at (current log) p) ⊎ (value_at image p ≡ (let v : Option Value = Some (value (with_mode before (node (current log) i))) in v))
shown log image p i before left settled at may =
    let there : find image p ≡ Some i = settled (find image p) (find_law log image p left) ∙ at in
    let of_node : value_at image p ≡ (let v : Option Value = Some (value (node image i)) in v) = ap (option_map (λ k. value (node image k))) there in
    elim (may image left) [
      | inl stands ↦ inl (of_node ∙ (ap (λ n. (let v : Option Value = Some (value n) in v)) stands ∙ sym (ap (option_map (λ k. value (node (current log) k))) at)))
      | inr old ↦ inr (of_node ∙ ap (λ n. (let v : Option Value = Some (value n) in v)) old)
    ]

pub modes_law : ModesLaw
modes_law = record { set = set; others = others; synced = synced; shown = shown }

module _ (marks : Marks) (log : CallLog) (i : ℕ) (guarded : IsGuarded marks log) where
  set_on_disk : (mode : ℕ) → i < length (current log).nodes → marks.loose i ≡ false → marks.modes i ≡ None → (k : ℕ) (b : Bool) → (k == i) ≡ b → marks.loose k ≡ false
      → IsOnDisk (with_change log (Sets i mode)) k (cond b (Some (node (current log) i).mode) (marks.modes k))
  set_on_disk mode there firm none k true is loose =
      let clean = subst (IsOnDisk log i) none (guarded.clean i firm) in
      let more : length (current (with_change log (Sets i mode))).nodes ≡ length (current log).nodes = ap (λ (s : FileSystem). length s.nodes) (current_more log (Sets i mode)) ∙ length-set (current log).nodes i _ in
      subst (λ j. IsOnDisk (with_change log (Sets i mode)) j (Some (node (current log) i).mode)) (sym (eqb-true k i is)) (subst (λ n. i < n) (sym more) there, set log i mode there clean)
  set_on_disk mode there firm none k false is loose =
      on_disk_more log (Sets i mode) k (marks.modes k) (false_from_ne_true (i == k) (λ same. both_ways _ is (eq-eqb k i (sym (eqb-true i k same))))) (guarded.clean k loose)

  pub mode_kept : (mode : ℕ) → i < length (current log).nodes → marks.loose i ≡ false → marks.modes i ≡ None → IsGuarded (marks_with_mode i (node (current log) i).mode marks) (with_change log (Sets i mode))
  mode_kept mode there firm none =
      unnamed_kept marks (let m = marks_with_mode i (node (current log) i).mode marks in m.modes) log (Sets i mode) guarded (subst IsTree (sym (current_more log (Sets i mode))) (tree_set (current log) i _ guarded.tree refl))
      (λ g m. refl) (ap (λ (s : FileSystem). length s.nodes) (current_more log (Sets i mode)) ∙ length-set (current log).nodes i _)
      (λ k loose. set_on_disk mode there firm none k (k == i) refl loose)

  synced_on_disk : (k : ℕ) (b : Bool) → (k == i) ≡ b → marks.loose k ≡ false → IsOnDisk (with_change log (Syncs i)) k (cond b None (marks.modes k))
  synced_on_disk k true is loose = subst (λ j. IsOnDisk (with_change log (Syncs i)) j None) (sym (eqb-true k i is)) (firm_law log i)
  synced_on_disk k false is loose = on_disk_more log (Syncs i) k (marks.modes k) refl (guarded.clean k loose)

  pub sync_kept : IsGuarded (marks_without_mode i marks) (with_change log (Syncs i))
  sync_kept =
      unnamed_kept marks (let m = marks_without_mode i marks in m.modes) log (Syncs i) guarded (subst IsTree (sym (current_more log (Syncs i))) guarded.tree)
      (λ g m. refl) (ap (λ (s : FileSystem). length s.nodes) (current_more log (Syncs i)))
      (λ k loose. synced_on_disk k (k == i) refl loose)

pub setting_law : SettingLaw
setting_law = record {
  sets = λ marks log i mode guarded there firm none. mode_kept marks log i guarded mode there firm none;
  synced = λ marks log i guarded. sync_kept marks log i guarded;
}
