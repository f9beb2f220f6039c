-- The calls that a step made, counted.
use Rattle.std.proofs.Common.{◌≡◌, ℕ, ◌≤◌, subst, arith, Option}
use Rattle.mc_text.specs.Routes.{Route}
use Rattle.tree_trait.specs.Change.{CallLog}
use Rattle.job_reports.specs.declared.report.Did.{Did}
use Rattle.job_reports.proofs.Runs.{risen_before}
use Rattle.copy_file.specs.Copying.{Copying}
use Rattle.copy_file.specs.CopySteps as file
use Rattle.copy_link.specs.LinkCopying.{LinkCopying}
use Rattle.copy_link.specs.LinkSteps as link
use Rattle.copy_tree.specs.TreeCopySteps.{Counts}

-- a step that comes after looks, which may have failed
pub counts_later : (did : Did) (calls : ℕ) (before mid after : Option CallLog) (f0 f1 f2 : ℕ) → mid ≡ before → f0 ≤ f1 → Counts did calls mid after f1 f2 → Counts did calls before after f0 f2
counts_later did calls before mid after f0 f1 f2 same later c =
    let k = subst (λ (x : Option CallLog). Counts did calls x after f1 f2) same c in
    record {
      counted = k.counted;
      few = k.few;
      unknown = k.unknown;
      later = (let l = k.later in omega (arith, later, l));
      fault = λ h. risen_before f0 f1 f2 later (k.fault h);
    }

pub file_counts : (unclaimed : Route → Type 0) (old new : Copying) (did : Did) (calls : ℕ) (before after : Option CallLog) (f0 f1 : ℕ) → file.StepsOn unclaimed old new did calls before after f0 f1
    → Counts did calls before after f0 f1
file_counts unclaimed old new did calls before after f0 f1 s = record { counted = s.counted; few = s.few; unknown = s.unknown; later = s.later; fault = s.fault }

pub link_counts : (old new : LinkCopying) (did : Did) (calls : ℕ) (before after : Option CallLog) (f0 f1 : ℕ) → link.StepsOn old new did calls before after f0 f1 → Counts did calls before after f0 f1
link_counts old new did calls before after f0 f1 s = record { counted = s.counted; few = (let f = s.few in omega (arith, f)); unknown = s.unknown; later = s.later; fault = s.fault }
