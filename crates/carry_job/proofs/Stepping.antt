-- Which copy is at work, and what a step makes of it.
use Rattle.std.proofs.Common.{◌≡◌, ◌⊎◌, ℕ, ◌≤◌, true, false, refl, sym, ◌∙◌, ap, subst, inl, inr, Option, None}
use Rattle.std.proofs.lemmas.Bool.{false≢true}
use Rattle.mc_text.specs.Routes.{Route}
use Rattle.tree_trait.specs.Change.{CallLog, current}
use Rattle.tree_trait.specs.Answers.{IfKnown, HasRisen}
use Rattle.tree_trait.specs.declared.calls.TreeError.TheVariants as refused
use Rattle.job_reports.specs.declared.report.Cause.TheVariants.{Tree}
use Rattle.job_reports.specs.declared.report.Did.{Did}
use Rattle.job_reports.specs.declared.report.Did.TheVariants as did
use Rattle.job_reports.specs.declared.report.Ending.TheVariants as ending
use Rattle.job_reports.specs.declared.report.Trouble.{Trouble}
use Rattle.job_answers.specs.declared.replies.Replies.{Replies}
use Rattle.copy_file.specs.Copying as file
use Rattle.copy_file.specs.Copying.{Copying, Places, begun_copy}
use Rattle.copy_file.specs.CopySteps as file_steps
use Rattle.copy_file.specs.LastSteps as file_last
use Rattle.copy_file.specs.PartNames.{IsChosen, NameStops}
use Rattle.copy_file.specs.PartSteps.{MakesPart, TellsMade}
use Rattle.copy_file.specs.declared.stage.FolderState.{FolderState}
use Rattle.copy_file.specs.declared.stage.SourceFacts.{SourceFacts}
use Rattle.copy_file.specs.declared.stage.Stage.{Stage as FileStage}
use Rattle.copy_file.specs.declared.stage.Stage.TheVariants as file_stage
use Rattle.copy_link.specs.LinkCopying as link
use Rattle.copy_link.specs.LinkCopying.{LinkCopying, is_removable}
use Rattle.copy_link.specs.LinkSteps as link_steps
use Rattle.copy_link.specs.declared.stage.Stage.{Stage as LinkStage}
use Rattle.copy_link.specs.declared.stage.Stage.TheVariants as link_stage
use Rattle.carry_job.specs.declared.stage.AfterStep.{AfterStep}
use Rattle.carry_job.specs.declared.stage.CarryStage.{CarryStage}
use Rattle.carry_job.specs.declared.stage.CarryStage.TheVariants.{Take, File, Link, SyncTarget, Remove, SyncSource, Finish, Settle, PassedOver, Stays}
use Rattle.carry_job.specs.declared.taking.Taken.{Taken}
use Rattle.carry_job.specs.Carryings.{Carrying, IsFileOf, IsGoing, IsLinkOf, IsOwn, after_beginning, after_cleaning, after_file, after_link, after_link_beginning, after_link_cleaning, carrying, has_part, left_at}
use Rattle.carry_job.specs.CarrySteps.{Begins, CarryStep, FileBegins, FileWorks, LinkBegins, IsLinkBegun, Nameless, Works, after_step}
use Rattle.carry_job.specs.Taking.{LooksStop, Takes}
use Rattle.carry_job.proofs.Counting.{works_counts}

-- a step that can be made keeps the thing's own copy
pub going_own : (p : Places) (stage : CarryStage) → IsGoing p stage → IsOwn p stage
going_own p (File f) h = h
going_own p (Link l) h = h
going_own p (Take folder) h = tt
going_own p SyncTarget h = tt
going_own p Remove h = tt
going_own p SyncSource h = tt
going_own p Finish h = tt
going_own p Settle h = tt
going_own p PassedOver h = tt
going_own p (Stays part) h = absurd h

pub going_left : (p : Places) (stage : CarryStage) → IsGoing p stage → left_at stage ≡ None
going_left p (File f) h = refl
going_left p (Link l) h = refl
going_left p (Take folder) h = refl
going_left p SyncTarget h = refl
going_left p Remove h = refl
going_left p SyncSource h = refl
going_left p Finish h = refl
going_left p Settle h = refl
going_left p PassedOver h = refl
going_left p (Stays part) h = absurd h

pub own_going : (p : Places) (stage : CarryStage) → IsOwn p stage → left_at stage ≡ None → IsGoing p stage
own_going p (File f) h left = h
own_going p (Link l) h left = h
own_going p (Take folder) h left = tt
own_going p SyncTarget h left = tt
own_going p Remove h left = tt
own_going p SyncSource h left = tt
own_going p Finish h left = tt
own_going p Settle h left = tt
own_going p PassedOver h left = tt
own_going p (Stays part) h left = absurd cc

-- the copy of a file begins
pub file_begins : (unclaimed : Route → Type 0) (facts : SourceFacts) (p : Places) (folder : FolderState) (copy new : Copying) (report : Did) (calls : ℕ) (stage : CarryStage)
    (before after : Option CallLog) (f0 f1 : ℕ) → copy ≡ begun_copy p.job p.source p.target → MakesPart unclaimed facts copy new report calls before after f0 f1 → stage ≡ after_beginning report new folder
    → FileBegins unclaimed facts p folder (after_step report calls stage) before after f0 f1
file_begins unclaimed facts p folder copy new report calls stage before after f0 f1 is makes stands = record {
  begun = new;
  makes = subst (λ (c : Copying). MakesPart unclaimed facts c new report calls before after f0 f1) is makes;
  stands = stands;
}

-- and is of these paths
pub begun_of : (facts : SourceFacts) (p : Places) (folder : FolderState) (new : Copying) (report : Did) → TellsMade facts (begun_copy p.job p.source p.target) report new
    → IsGoing p (after_beginning report new folder)
begun_of facts p folder new (did.Began part) is = record {
  job = ap (λ (c : Copying). c.job) is;
  source = ap (λ (c : Copying). c.source) is;
  target = ap (λ (c : Copying). c.target) is;
  part = ap (λ (c : Copying). has_part c.stage) is;
}
begun_of facts p folder new (did.Troubled trouble) h = tt
begun_of facts p folder new report h = absurd h

pub file_begins_going : (unclaimed : Route → Type 0) (facts : SourceFacts) (p : Places) (folder : FolderState) (copy new : Copying) (report : Did) (calls : ℕ) (stage : CarryStage)
    (before after : Option CallLog) (f0 f1 : ℕ) → copy ≡ begun_copy p.job p.source p.target → MakesPart unclaimed facts copy new report calls before after f0 f1 → stage ≡ after_beginning report new folder
    → IsGoing p stage
file_begins_going unclaimed facts p folder copy new report calls stage before after f0 f1 is makes stands =
    subst (IsGoing p) (sym stands) (begun_of facts p folder new report (subst (λ (c : Copying). TellsMade facts c report new) is makes.tells))

-- a step of the copy of a file keeps it of these paths, with its part, or is done with it
module _ (p : Places) (old new : Copying) (own : IsFileOf p old) where
  kept : (stage : FileStage) → new ≡ record old { stage = stage } → has_part stage ≡ true → IsFileOf p new
  kept stage is part = record {
    job = ap (λ (c : Copying). c.job) is ∙ own.job;
    source = ap (λ (c : Copying). c.source) is ∙ own.source;
    target = ap (λ (c : Copying). c.target) is ∙ own.target;
    part = ap (λ (c : Copying). has_part c.stage) is ∙ part;
  }

  cleaned_going : (stage : FileStage) → IsGoing p (after_cleaning stage)
  cleaned_going file_stage.Begin = tt
  cleaned_going (file_stage.Fill part facts done) = tt
  cleaned_going (file_stage.Clean part follows) = tt
  cleaned_going (file_stage.Left part) = tt
  cleaned_going file_stage.Decided = tt

  no_part : (stage : FileStage) → has_part stage ≡ false → old.stage ≡ stage → ⊥
  no_part stage none at = false≢true (sym none ∙ (sym (ap has_part at) ∙ own.part))

  pub file_going : (report : Did) → file.Tells old report new → IsGoing p (after_file report new)
  file_going (did.Placed path) h = tt
  file_going (did.Cleaned part) h = cleaned_going new.stage
  file_going (did.Chunk count) (part, facts, done, at, some, few, within, is) = kept (file_stage.Fill part facts _) is refl
  file_going (did.Troubled trouble) (barrier, is) = subst (IsFileOf p) (sym is) own
  file_going (did.Began part) (at, h) = absurd (no_part file_stage.Begin refl at)
  file_going did.Barrier (at, dirty, is) = absurd (no_part file_stage.Decided refl at)
  file_going (did.Ended ending.Finished part) (at, synced, none, is) = absurd (no_part file_stage.Decided refl at)
  file_going (did.Ended ending.Aborted part) h = absurd h
  file_going (did.Ended ending.Killed part) h = absurd h
  file_going (did.Ended ending.NoMemory part) h = absurd h
  file_going report h = absurd h

module _ (p : Places) (old new : LinkCopying) (own : IsLinkOf p old) where
  link_kept : (stage : LinkStage) (folder : FolderState) → new ≡ record old { stage = stage; folder = folder } → is_removable stage ≡ true → IsLinkOf p new
  link_kept stage folder is part = record {
    source = ap (λ (c : LinkCopying). c.source) is ∙ own.source;
    target = ap (λ (c : LinkCopying). c.target) is ∙ own.target;
    part = ap (λ (c : LinkCopying). is_removable c.stage) is ∙ part;
  }

  link_cleaned_going : (stage : LinkStage) → IsGoing p (after_link_cleaning stage)
  link_cleaned_going link_stage.Again = tt
  link_cleaned_going link_stage.Make = tt
  link_cleaned_going link_stage.Place = tt
  link_cleaned_going (link_stage.Clean follows) = tt
  link_cleaned_going link_stage.Left = tt
  link_cleaned_going link_stage.Decided = tt

  no_link_part : (stage : LinkStage) → is_removable stage ≡ false → old.stage ≡ stage → ⊥
  no_link_part stage none at = false≢true (sym none ∙ (sym (ap is_removable at) ∙ own.part))

  pub link_going : (report : Did) → link.Tells old report new → IsGoing p (after_link report new)
  link_going (did.Placed path) h = tt
  link_going (did.Cleaned part) h = link_cleaned_going new.stage
  link_going (did.Troubled trouble) (barrier, is) = subst (IsLinkOf p) (sym is) own
  link_going (did.Began part) (at, named, is) = absurd (no_link_part link_stage.Make refl at)
  link_going did.Barrier (at, dirty, is) = absurd (no_link_part link_stage.Decided refl at)
  link_going report h = absurd h

-- the part of a link was made
pub link_begun_going : (p : Places) (folder : FolderState) (old new : LinkCopying) → old.source ≡ p.source → old.target ≡ p.target → (report : Did) → link.Tells old report new
    → IsGoing p (after_link_beginning report new folder)
link_begun_going p folder old new source target (did.Began part) (at, named, is) = record {
  source = ap (λ (c : LinkCopying). c.source) is ∙ source;
  target = ap (λ (c : LinkCopying). c.target) is ∙ target;
  part = ap (λ (c : LinkCopying). is_removable c.stage) is;
}
link_begun_going p folder old new source target (did.Placed path) h = tt
link_begun_going p folder old new source target (did.Cleaned part) h = tt
link_begun_going p folder old new source target did.Barrier h = tt
link_begun_going p folder old new source target (did.Troubled trouble) h = tt
link_begun_going p folder old new source target report h = absurd h

pub link_begins_going : (p : Places) (folder : FolderState) (old new : LinkCopying) (report : Did) (calls : ℕ) (stage : CarryStage) (before after : Option CallLog) (f0 f1 : ℕ)
    → old.source ≡ p.source → old.target ≡ p.target → link_steps.StepsOn old new report calls before after f0 f1 → stage ≡ after_link_beginning report new folder → IsGoing p stage
link_begins_going p folder old new report calls stage before after f0 f1 source target steps stands =
    subst (IsGoing p) (sym stands) (link_begun_going p folder old new source target report steps.tells)

-- a step of a copy, and where the carrying stands then
pub file_works : (unclaimed : Route → Type 0) (old new : Copying) (report : Did) (calls : ℕ) (stage : CarryStage) (before after : Option CallLog) (f0 f1 : ℕ)
    → file_steps.StepsOn unclaimed old new report calls before after f0 f1 → file.IsSound new.stage new.folder → stage ≡ after_file report new
    → FileWorks unclaimed old (after_step report calls stage) before after f0 f1
file_works unclaimed old new report calls stage before after f0 f1 steps sound stands = record { copied = new; steps = steps; sound = sound; stands = stands }

pub file_works_going : (unclaimed : Route → Type 0) (p : Places) (old new : Copying) (report : Did) (calls : ℕ) (stage : CarryStage) (before after : Option CallLog) (f0 f1 : ℕ)
    → IsFileOf p old → file_steps.StepsOn unclaimed old new report calls before after f0 f1 → stage ≡ after_file report new → IsGoing p stage
file_works_going unclaimed p old new report calls stage before after f0 f1 own steps stands = subst (IsGoing p) (sym stands) (file_going p old new own report steps.tells)

pub link_works_going : (p : Places) (old new : LinkCopying) (report : Did) (calls : ℕ) (stage : CarryStage) (before after : Option CallLog) (f0 f1 : ℕ)
    → IsLinkOf p old → link_steps.StepsOn old new report calls before after f0 f1 → stage ≡ after_link report new → IsGoing p stage
link_works_going p old new report calls stage before after f0 f1 own steps stands = subst (IsGoing p) (sym stands) (link_going p old new own report steps.tells)

-- a copy whose part stands has no part that could not be removed
pub file_ready : (stage : FileStage) → has_part stage ≡ true → file_last.left_at stage ≡ None
file_ready (file_stage.Fill part facts done) h = refl
file_ready (file_stage.Clean part follows) h = refl
file_ready file_stage.Begin h = absurd (false≢true h)
file_ready (file_stage.Left part) h = absurd (false≢true h)
file_ready file_stage.Decided h = absurd (false≢true h)

module _ (unclaimed : Route → Type 0) (replies : Replies) (p : Places) (folder : FolderState) (moved : AfterStep) (before after : Option CallLog) (f0 f1 : ℕ) where
  -- what was looked at is begun
  pub taken_up : (what : Taken) (mid : Option CallLog) (since : ℕ) → IfKnown before (λ log. Takes (current log) p replies what) → mid ≡ before → f0 ≤ since
      → Begins unclaimed p folder what moved mid after since f1 → Works unclaimed replies p (Take folder) moved before after f0 f1
  taken_up what mid since is same looked begins = inr (record {
    what = what;
    is = is;
    since = since;
    looked = looked;
    begins = subst (λ (x : Option CallLog). Begins unclaimed p folder what moved x after since f1) same begins;
  })

  -- a look stopped it
  pub stopped : (trouble : Trouble) → IfKnown before (λ log. LooksStop (current log) p trouble.cause trouble.path) → trouble.barrier ≡ false → after ≡ before → f0 ≤ f1
      → (trouble.cause ≡ Tree refused.Fault → HasRisen f0 f1) → moved ≡ after_step (did.Troubled trouble) 0 (Take folder) → Works unclaimed replies p (Take folder) moved before after f0 f1
  stopped trouble why apart same later fault says = inl (record {
    trouble = trouble;
    why = why;
    apart = apart;
    says = record { says = says; same = same; later = later };
    fault = fault;
  })

module _ (unclaimed : Route → Type 0) (p : Places) (folder : FolderState) (moved : AfterStep) (before after : Option CallLog) (f0 f1 : ℕ) where
  -- the name of a link's part could be had, or it couldn't
  pub link_begins : (part : Route) (mid : Option CallLog) (since : ℕ) → IfKnown before (λ log. IsChosen (current log) unclaimed p part) → mid ≡ before → f0 ≤ since
      → IsLinkBegun p part folder moved mid after since f1
      → Nameless unclaimed p folder moved before after f0 f1 ⊎ LinkBegins unclaimed p folder moved before after f0 f1
  link_begins part mid since chosen same looked begins = inr (record {
    part = part;
    chosen = chosen;
    since = since;
    looked = looked;
    begins = subst (λ (x : Option CallLog). IsLinkBegun p part folder moved x after since f1) same begins;
  })

  pub link_nameless : (trouble : Trouble) → IfKnown before (λ log. NameStops (current log) unclaimed p trouble.cause trouble.path) → trouble.barrier ≡ false → after ≡ before → f0 ≤ f1
      → (trouble.cause ≡ Tree refused.Fault → HasRisen f0 f1) → moved ≡ after_step (did.Troubled trouble) 0 (Take folder)
      → Nameless unclaimed p folder moved before after f0 f1 ⊎ LinkBegins unclaimed p folder moved before after f0 f1
  link_nameless trouble why apart same later fault says = inl (record {
    trouble = trouble;
    why = why;
    apart = apart;
    says = record { says = says; same = same; later = later };
    fault = fault;
  })

-- the step where the carrying stands
pub works_at : (unclaimed : Route → Type 0) (replies : Replies) (p : Places) (stage at : CarryStage) (moved : AfterStep) (before after : Option CallLog) (f0 f1 : ℕ) → stage ≡ at
    → Works unclaimed replies p at moved before after f0 f1 → Works unclaimed replies p stage moved before after f0 f1
works_at unclaimed replies p stage at moved before after f0 f1 is h = subst (λ s. Works unclaimed replies p s moved before after f0 f1) (sym is) h

-- the step of a carrying that is seen so
pub step_from : (unclaimed : Route → Type 0) (replies : Replies) (old : Carrying) (p : Places) (stage out : CarryStage) (moved : AfterStep) (before after : Option CallLog) (f0 f1 : ℕ)
    → out ≡ stage → carrying p stage ≡ old → Works unclaimed replies p out moved before after f0 f1
    → CarryStep unclaimed replies old (carrying p moved.stage) moved.did moved.calls before after f0 f1
step_from unclaimed replies old p stage out moved before after f0 f1 is view works =
    subst (λ (c : Carrying). CarryStep unclaimed replies c (carrying p moved.stage) moved.did moved.calls before after f0 f1) view (record {
      works = subst (λ s. Works unclaimed replies p s moved before after f0 f1) is works;
      places = refl;
      counts = works_counts unclaimed replies p moved before after f0 f1 out works;
    })

-- a link's copy whose part stands has a next step
pub link_ready : (stage : LinkStage) (folder : FolderState) → is_removable stage ≡ true → link.is_ready stage folder ≡ true
link_ready link_stage.Place folder h = refl
link_ready (link_stage.Clean follows) folder h = refl
link_ready link_stage.Make folder h = refl
link_ready link_stage.Left folder h = absurd (false≢true h)
link_ready link_stage.Again folder h = absurd (false≢true h)
link_ready link_stage.Decided folder h = absurd (false≢true h)
