-- A call that is refused or fails.
use Rattle.std.proofs.Common.{◌≡◌, ℕ, List, length, pos, refl, sym, ◌∙◌, ap, subst, inl, inr, Some, Err}
use Rattle.std.specs.Prelude.{unwrap_or}
use Rattle.mc_text.specs.Routes.{Route}
use Rattle.tree_trait.specs.declared.calls.TreeError.{TreeError}
use Rattle.tree_trait.specs.declared.calls.TreeError.TheVariants.{Fault, Memory}
use Rattle.tree_trait.specs.declared.file_system.FileSystem.{FileSystem}
use Rattle.tree_trait.specs.Answers.{Performs}
use Rattle.tree_trait.specs.Calls.{Call, Stat, ListFolder, ReadAt, ReadLink, MakeFile, WriteAt, SetMode, MakeFolder, MakeLink, Rename, RemoveFile, RemoveFolder, SyncFile, SyncFolder}
use Rattle.tree_trait.specs.Change.{Nothing, Writes, CallLog, current, with_change}
use Rattle.tree_trait.specs.FileSystem.{find}
use Rattle.tree_trait.specs.Shape.{IsTree}
use Rattle.tree_trait.proofs.Ending.{Performs-err}
use Rattle.laws_crash.specs.Guarded.{IsGuarded, Marks}
use Rattle.laws_crash.proofs.Guarding.{quiet_law, same_quiet}
use Rattle.laws_crash.proofs.Leading.{current_more}
use Rattle.laws_crash.proofs.Syncing.{write_law}
use Rattle.job_reports.proofs.CallAnswers.{IsCalm, some_log}
use Rattle.save_file.specs.Safe.{HasPart}
use Rattle.save_file.specs.SaveLaws.{Keeps, RefusedLaw}

same_keeps : (marks : Marks) (log now : CallLog) → IsGuarded marks log → now ≡ log → Keeps marks log now
same_keeps marks log now guarded same = (subst (λ (l : CallLog). IsGuarded marks l) (sym same) guarded, λ path. ap (λ (l : CallLog). find (current l) path) same)

nothing_keeps : (marks : Marks) (log now : CallLog) → IsGuarded marks log → now ≡ with_change log Nothing → Keeps marks log now
nothing_keeps marks log now guarded is =
    let after : IsGuarded marks (with_change log Nothing) = quiet_law marks log Nothing guarded (record {
      tree = subst IsTree (sym (current_more log Nothing)) guarded.tree;
      names = λ g m. refl;
      count = ap (λ (s : FileSystem). length s.nodes) (current_more log Nothing);
      others = λ i firm. refl;
    }) in
    (subst (λ (l : CallLog). IsGuarded marks l) (sym is) after, λ path. ap (λ (l : CallLog). find (current l) path) is ∙ same_quiet log Nothing (λ g m. refl) path)

-- one that writes nothing
calm_keeps : (marks : Marks) (log now : CallLog) (call : Call) (e : TreeError) → IsGuarded marks log → IsCalm call → Performs {A = Unit {0}} log call (Err e) (Some now) → Keeps marks log now
calm_keeps marks log now call e guarded calm h =
    let q = Performs-err (Unit {0}) log call (Some now) calm e h in
    let is = some_log now q.after q.tells in
    elim q.how [ inl same ↦ same_keeps marks log now guarded (is ∙ same) | inr more ↦ nothing_keeps marks log now guarded (is ∙ more) ]

-- a write to the part
write_keeps : (marks : Marks) (log now : CallLog) (path : Route) (offset : ℕ) (bytes : List ℕ) (e : TreeError) (i : ℕ) → IsGuarded marks log → HasPart marks log path i
    → Performs {A = Unit {0}} log (WriteAt path offset bytes) (Err e) (Some now) → Keeps marks log now
write_keeps marks log now path offset bytes Fault i guarded has h =
    let is : now ≡ with_change log (Writes i h.1.0 (pos 0)) = some_log now _ h.1.1 ∙ ap (λ j. with_change log (Writes j h.1.0 (pos 0))) (ap (λ o. unwrap_or o 0) has.leads) in (
      subst (λ (l : CallLog). IsGuarded marks l) (sym is) (write_law marks log i h.1.0 (pos 0) has.loose guarded),
      λ place. ap (λ (l : CallLog). find (current l) place) is ∙ same_quiet log (Writes i h.1.0 (pos 0)) (λ g m. refl) place,
    )
write_keeps marks log now path offset bytes Memory i guarded has h = same_keeps marks log now guarded (some_log now log h)
write_keeps marks log now path offset bytes e i guarded has h = nothing_keeps marks log now guarded (some_log now _ h.1)

pub refused_law : RefusedLaw
refused_law marks log now (WriteAt path offset bytes) e guarded may h = write_keeps marks log now path offset bytes e may.0 guarded may.1 h
refused_law marks log now (Stat path) e guarded may h = calm_keeps marks log now (Stat path) e guarded (λ x left. refl) h
refused_law marks log now (ListFolder path) e guarded may h = calm_keeps marks log now (ListFolder path) e guarded (λ x left. refl) h
refused_law marks log now (ReadAt path offset count) e guarded may h = calm_keeps marks log now (ReadAt path offset count) e guarded (λ x left. refl) h
refused_law marks log now (ReadLink path) e guarded may h = calm_keeps marks log now (ReadLink path) e guarded (λ x left. refl) h
refused_law marks log now (MakeFile path mode) e guarded may h = calm_keeps marks log now (MakeFile path mode) e guarded (λ x left. refl) h
refused_law marks log now (SetMode path mode) e guarded may h = calm_keeps marks log now (SetMode path mode) e guarded (λ x left. refl) h
refused_law marks log now (MakeFolder path mode) e guarded may h = calm_keeps marks log now (MakeFolder path mode) e guarded (λ x left. refl) h
refused_law marks log now (MakeLink path text) e guarded may h = calm_keeps marks log now (MakeLink path text) e guarded (λ x left. refl) h
refused_law marks log now (Rename from to) e guarded may h = calm_keeps marks log now (Rename from to) e guarded (λ x left. refl) h
refused_law marks log now (RemoveFile path) e guarded may h = calm_keeps marks log now (RemoveFile path) e guarded (λ x left. refl) h
refused_law marks log now (RemoveFolder path) e guarded may h = calm_keeps marks log now (RemoveFolder path) e guarded (λ x left. refl) h
refused_law marks log now (SyncFile path) e guarded may h = calm_keeps marks log now (SyncFile path) e guarded (λ x left. refl) h
refused_law marks log now (SyncFolder path) e guarded may h = calm_keeps marks log now (SyncFolder path) e guarded (λ x left. refl) h
