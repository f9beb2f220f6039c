-- A last step counts its calls, and tells a fault only where the tree's count has risen.
use Rattle.std.proofs.Common.{◌≡◌, ℕ, ◌+◌, ◌≤◌, refl, sym, ◌∙◌, ap, subst, inl, inr, arith, Option, Some, None}
use Rattle.std.specs.Prelude.{◌⊎◌}
use Rattle.mc_text.specs.Routes.{Route}
use Rattle.tree_trait.specs.Calls.{RemoveFile, SyncFolder}
use Rattle.tree_trait.specs.Change.{CallLog}
use Rattle.tree_trait.specs.Answers.{IfKnown}
use Rattle.job_reports.specs.CallRuns.{HasMore}
use Rattle.job_reports.specs.declared.report.Ending.{Ending}
use Rattle.job_reports.specs.declared.report.LastStepResult.{LastStepResult}
use Rattle.job_reports.proofs.Runs.{risen_before}
use Rattle.job_reports.proofs.Tried.{counts_try, tries_few}
use Rattle.copy_link.specs.LastTries.{RemovalTried, answer_in}
use Rattle.copy_link.specs.LinkCopying.{LinkCopying}
use Rattle.copy_link.specs.declared.removal.RemovalStep.{RemovalStep}
use Rattle.copy_tree.specs.declared.item.ItemAtWork.{ItemAtWork}
use Rattle.copy_tree.specs.declared.item.ItemAtWork.TheVariants.{Next, File, Link, Stays}
use Rattle.copy_tree.specs.Ending.{EndsAll, FoldersWind, TriesFolder, WindsAt}
use Rattle.copy_tree.specs.Standing.{Seen}
use Rattle.copy_tree.specs.TreeCopySteps.{idle}
use Rattle.copy_job.specs.Counted.{LastCountLaw, LastStepCounts}
use Rattle.copy_job.proofs.Counts.{none_made}

-- the folders make one call at most
folders_count : (ending : Ending) (part : Option Route) (old new : Seen) (last : LastStepResult) (before after : Option CallLog) (f0 f1 : ℕ) → FoldersWind ending part old new last before after f0 f1
    → LastStepCounts last before after f0 f1 × (last.calls ≤ 1)
folders_count ending part old new last before after f0 f1 w = by w.winds
  where
    by : TriesFolder part w.mid old new last before after f0 f1 ⊎ EndsAll ending part w.mid old new last before after f0 f1 → LastStepCounts last before after f0 f1 × (last.calls ≤ 1)
    by (inl t) =
        let tried = t.tried in
        let a = tried.answered in
        let few = tries_few a.0 in
        let calls = a.1 in (
          record {
            counted = λ log known now is. subst (λ n. HasMore log n now) (sym a.1) (counts_try (SyncFolder (let mid = w.mid in mid.inner.copy.target)) a.0 log now after (a.3 log known) is);
            few = omega (arith, few, calls);
            unknown = tried.unknown;
            later = tried.later;
            fault = tried.fault;
          },
          omega (arith, few, calls),
        )
    by (inr e) =
        let calls : last.calls ≡ 0 = ap (λ (r : LastStepResult). r.calls) e.says in
        let same = e.later in (
          record {
            counted = subst (λ n. IfKnown before (λ log. IfKnown after (HasMore log n))) (sym calls) (none_made before after e.same);
            few = omega (arith, calls);
            unknown = λ none. e.same ∙ none;
            later = omega (arith, same);
            fault = λ h. absurd (let left = sym (ap (λ (r : LastStepResult). r.left) e.says) ∙ h in let f : ⊥ = cc in f);
          },
          omega (arith, calls),
        )

-- the removal of a link's part
removal_counts : (l moved : LinkCopying) (tried : RemovalStep) (before after : Option CallLog) (f0 f1 : ℕ) → RemovalTried l tried moved before after f0 f1 → IfKnown before (λ log. IfKnown after (HasMore log tried.calls)) × (tried.calls ≤ 1)
removal_counts l moved tried before after f0 f1 r =
    let few = tries_few (answer_in tried.removal) in
    let calls = r.counted in
    (λ log known now is. subst (λ n. HasMore log n now) (sym r.counted) (counts_try (RemoveFile l.part) (answer_in tried.removal) log now after (r.answered log known) is), omega (arith, few, calls))

-- both
both_count : (before mid after : Option CallLog) (n m : ℕ) → IfKnown before (λ log. IfKnown mid (HasMore log n)) → IfKnown mid (λ log. IfKnown after (HasMore log m)) → (mid ≡ None → after ≡ None)
    → IfKnown before (λ log. IfKnown after (HasMore log (n + m)))
both_count before None after n m first second unknown log known now is = absurd (let none = sym (unknown refl) ∙ is in let f : ⊥ = cc in f)
both_count before (Some middle) after n m first second unknown log known now is =
    let a = first log known middle refl in
    let b = second middle refl now is in
    omega (arith, a, b)

winds_count : (item : ItemAtWork) (ending : Ending) (old new : Seen) (last : LastStepResult) (before after : Option CallLog) (f0 f1 : ℕ) → WindsAt item ending old new last before after f0 f1 → LastStepCounts last before after f0 f1
winds_count Next ending old new last before after f0 f1 w = (folders_count ending None old new last before after f0 f1 w).0
winds_count (File f) ending old new last before after f0 f1 w =
    let on = w.winds in record { counted = on.counted; few = on.few; unknown = on.unknown; later = on.later; fault = on.fault }
winds_count (Link l) ending old new last before after f0 f1 (inl c) =
    let r = c.removed in
    let n = removal_counts l c.moved c.tried before after f0 f1 r in
    let few = n.1 in
    let calls : last.calls ≡ (let t = c.tried in t.calls) = ap (λ (x : LastStepResult). x.calls) c.says in record {
      counted = subst (λ k. IfKnown before (λ log. IfKnown after (HasMore log k))) (sym calls) n.0;
      few = omega (arith, few, calls);
      unknown = r.unknown;
      later = r.later;
      fault = λ h. absurd (let left = sym (ap (λ (x : LastStepResult). x.left) c.says) ∙ h in let f : ⊥ = cc in f);
    }
winds_count (Link l) ending old new last before after f0 f1 (inr s) =
    let r = s.removed in
    let n = removal_counts l s.moved s.tried before s.mid f0 s.since r in
    let later = s.winds in
    let next = folders_count ending (Some l.part) (idle old) new later.next s.mid after s.since f1 later.winds in
    let counts = next.0 in
    let few = n.1 in
    let more = next.1 in
    let calls : last.calls ≡ (let t = s.tried in t.calls) + (let x = later.next in x.calls) = ap (λ (x : LastStepResult). x.calls) later.says in
    let left : last.left ≡ (let x = later.next in x.left) = ap (λ (x : LastStepResult). x.left) later.says in
    let first = r.later in
    let second = counts.later in record {
      counted = subst (λ k. IfKnown before (λ log. IfKnown after (HasMore log k))) (sym calls) (both_count before s.mid after (let t = s.tried in t.calls) (let x = later.next in x.calls) n.0 counts.counted counts.unknown);
      few = omega (arith, few, more, calls);
      unknown = λ none. counts.unknown (r.unknown none);
      later = omega (arith, first, second);
      fault = λ h. risen_before f0 s.since f1 r.later (counts.fault (sym left ∙ h));
    }
winds_count (Stays part) ending old new last before after f0 f1 w = (folders_count ending (Some part) (idle old) new last before after f0 f1 w).0

pub last_count_law : LastCountLaw
last_count_law ending old new last dirty dirty_after before after f0 f1 s = winds_count old.at.item ending old.at new.at last before after f0 f1 s.winds
