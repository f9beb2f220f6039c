-- The part of a link at work is made whole: it is a link with the text that its source has.
use Rattle.std.specs.Prelude.{◌≡◌, ℕ, ⊤, Bool, true, Some}
use Rattle.mc_text.specs.Routes.{Route}
use Rattle.mc_text.specs.declared.kind.Kind.TheVariants as kind
use Rattle.tree_trait.specs.declared.file_system.FileSystem.{FileSystem}
use Rattle.tree_trait.specs.Change.{CallLog, current}
use Rattle.tree_trait.specs.FileSystem.{find, node}
use Rattle.tree_trait.specs.Shape.{IsTree}
use Rattle.job_answers.specs.declared.replies.Replies.{Replies}
use Rattle.job_reports.specs.declared.report.Cause.{Cause}
use Rattle.job_reports.specs.declared.report.Did.{Did}
use Rattle.copy_link.specs.LinkCopying.{has_part}
use Rattle.copy_link.specs.LinkSteps.{link_text}
use Rattle.copy_tree.specs.declared.item.ItemAtWork.{ItemAtWork}
use Rattle.copy_tree.specs.declared.item.ItemAtWork.TheVariants.{Next, File, Link, Stays}
use Rattle.copy_tree.specs.Skipping.{Skips, retried_copy}
use Rattle.copy_tree.specs.Standing.{Seen}
use Rattle.copy_tree.specs.TreeCopySteps.{CopySteps}

pub record IsLinkAs (s : FileSystem) (part source : Route) : Type 0 where
  pub i : ℕ
  pub leads : find s part ≡ Some i
  pub link : (let n = node s i in n.kind) ≡ kind.Link
  pub text : (let n = node s i in n.bytes) ≡ link_text s source

abbrev pub TextKnown : CallLog → ItemAtWork → Type 0
TextKnown log Next = ⊤
TextKnown log (File f) = ⊤
TextKnown log (Link l) = has_part l.stage ≡ true → IsLinkAs (current log) l.part l.source
TextKnown log (Stays part) = ⊤

-- Each step, skip and retry keeps it so, whatever the calls are answered; at its begin a copy has no part.
pub record TextLaw : Type 0 where
  pub step : (free : Route → Bool) (replies : Replies) (old new : Seen) (did : Did) (calls : ℕ) (log now : CallLog) (faults faults_after : ℕ)
      → CopySteps free replies old new did calls (Some log) (Some now) faults faults_after → IsTree (current log) → TextKnown log old.item → TextKnown now new.item
  pub skip : (log : CallLog) (cause : Cause) (old new : Seen) (did : Did) → Skips cause old did new → TextKnown log old.item → TextKnown log new.item
  pub retry : (log : CallLog) (c : Seen) → TextKnown log c.item → (let again : Seen = retried_copy c in TextKnown log again.item)
