-- As a copy of folders ends nothing waits at or below its target: no name in its folders, and no change of what stands there.
use Rattle.std.proofs.Common.{◌≡◌, ◌⊎◌, ℕ, true, false, List, [], ◌∷◌, ◌++◌, sym, ◌∙◌, ap, subst, inl, inr, Option, Some, None}
use Rattle.std.proofs.lemmas.Bool.{both_ways, false_from_ne_true, false≢true}
use Rattle.mc_text.specs.Routes.{Route}
use Rattle.tree_trait.specs.FileSystem.{find, node}
use Rattle.tree_trait.specs.Change.{CallLog, current}
use Rattle.tree_trait.specs.CrashImages.{is_clean}
use Rattle.job_reports.specs.declared.report.Transfer.TheVariants.{ByCopy}
use Rattle.job_reports.specs.declared.job.Pair.{Pair}
use Rattle.job_reports.specs.declared.report.Did.TheVariants as common
use Rattle.job_reports.specs.declared.report.Ending.TheVariants.{Finished}
use Rattle.copy_folders.specs.FolderCopying.{is_dirty}
use Rattle.copy_folders.specs.declared.stage.FolderDid.{FolderDid}
use Rattle.copy_folders.specs.declared.stage.FolderDid.TheVariants as folder_did
use Rattle.copy_folders.specs.declared.stage.NamesState.{NamesState}
use Rattle.copy_folders.specs.declared.stage.Stage.{Stage}
use Rattle.copy_folders.specs.declared.stage.Stage.TheVariants as at
use Rattle.copy_folders.specs.declared.level.Level.{Level}
use Rattle.copy_tree.specs.Reports.{IsToldAs}
use Rattle.copy_tree.specs.Standing.{Seen}
use Rattle.copy_tree.specs.TreeCopySteps.{TakesNext, WorksOn}
use Rattle.copy_tree.specs.declared.item.ItemAtWork.{ItemAtWork}
use Rattle.copy_tree.specs.declared.item.ItemAtWork.TheVariants.{Next, File, Link, Stays}
use Rattle.laws_sessions.specs.Doubt.{name_waits}
use Rattle.tree_trait.specs.Refusals.{is_folder}
use Rattle.job_answers.specs.declared.replies.Replies.{Replies}
use Rattle.laws_sessions.proofs.BareTargets.{IsCalmFrom}
use Rattle.laws_sessions.proofs.AtWork.{ItemKnown}
use Rattle.laws_sessions.proofs.Calm.{IsSetIn, filled_part, was_set, MayWait}
use Rattle.laws_sessions.proofs.CopySteps.{not_decided}
use Rattle.laws_sessions.proofs.NameMarks.{not_owing}
use Rattle.laws_sessions.proofs.Names.{IsMarkedIn}
use Rattle.laws_sessions.proofs.OwnNames.{IsOwnName}
use Rattle.laws_sessions.proofs.TreeGoing.{LogHas}

-- nothing is at work, the outermost folder is worked, and it owes nothing
pub record IsAtEnd (c : Seen) : Type 0 where
  pub none : c.item ≡ Next
  pub outermost : c.levels.around ≡ []
  pub clean : is_dirty c.levels.inner.copy.names ≡ false

-- a folder reports no end of the job
no_end : {A : Type 0} (report : FolderDid) (part : Option Route) → IsToldAs report (common.Ended Finished part) → A
no_end (folder_did.Made path) part is = absurd (let e : common.Ended Finished part ≡ common.Made path = is in let f : ⊥ = cc in f)
no_end (folder_did.Set path) part is = absurd (let e : common.Ended Finished part ≡ common.Set path = is in let f : ⊥ = cc in f)
no_end folder_did.Barrier part is = absurd (let e : common.Ended Finished part ≡ common.Barrier = is in let f : ⊥ = cc in f)
no_end folder_did.Closed part is = absurd is
no_end (folder_did.Troubled trouble) part is = absurd (let e : common.Ended Finished part ≡ common.Troubled trouble = is in let f : ⊥ = cc in f)

module _ (top : Pair) (job : ℕ) (log : CallLog) (c : Seen) (h : LogHas top job log c) where
  -- where the machine tells its end
  module _ (unclaimed : Route → Type 0) (replies : Replies) (new : Seen) (part : Option Route) (before after : Option CallLog) where
    ends_next : c.item ≡ Next → TakesNext unclaimed replies c new (common.Ended Finished part) before after → IsAtEnd c
    ends_next none (inl s) = absurd (let e : common.Ended Finished part ≡ common.Troubled s.trouble = s.says in let f : ⊥ = cc in f)
    ends_next none (inr (inl t)) = (let w = t.works in absurd w.tells)
    ends_next none (inr (inr (inl t))) = (let w = t.works in absurd w.tells)
    ends_next none (inr (inr (inr (inl t)))) = (let w = t.works in no_end w.report part w.says)
    ends_next none (inr (inr (inr (inr (inl t))))) = absurd (let e : common.Ended Finished part ≡ common.Merges ByCopy t.pair t.names = t.says in let f : ⊥ = cc in f)
    ends_next none (inr (inr (inr (inr (inr (inl t)))))) = absurd (let e : common.Ended Finished part ≡ common.Kept t.pair.target = t.says in let f : ⊥ = cc in f)
    ends_next none (inr (inr (inr (inr (inr (inr (inl t))))))) = absurd (let e : common.Ended Finished part ≡ common.Asked t.question = t.says in let f : ⊥ = cc in f)
    ends_next none (inr (inr (inr (inr (inr (inr (inr (due, inl (debt, e))))))))) = no_end e.report part e.says
    ends_next none (inr (inr (inr (inr (inr (inr (inr (due, inr (debt, f, same))))))))) = record {
      none = none;
      outermost = f.last;
      clean = false_from_ne_true _ (λ dirty. let ends = h.ends in not_owing c.levels.inner.copy.stage c.levels.inner.copy.names ends.open_still debt dirty);
    }

    pub ends_here : (item : ItemAtWork) → c.item ≡ item → WorksOn item unclaimed replies c new (common.Ended Finished part) before after → IsAtEnd c
    ends_here Next is (inl s) = no_end s.report part s.says
    ends_here Next is (inr (clean, takes)) = ends_next is takes
    ends_here (File f) is w =
        let copy = h.copy in
        let known = subst (λ i. ItemKnown log c i) is copy.1 in
        (let tells = w.tells in not_decided f.stage known.1 tells.0)
    ends_here (Link l) is w = absurd w.tells
    ends_here (Stays left) is w = absurd w

  -- no name waits in a folder of its own
  pub ended_names : IsAtEnd c → (name : List ℕ) (up : Route) → IsOwnName job top (name ∷ up) → name_waits log (name ∷ up) ≡ false
  ended_names end name up own = false_from_ne_true _ (λ waits.
      let marked = subst (λ (around : List Level). IsMarkedIn up c.levels.inner around) end.outermost ((h.names name up own).0 waits) in
      both_ways _ end.clean marked.1)

  none_set : (stage : Stage) (names : NamesState) → is_dirty names ≡ false → was_set stage names ≡ true → ⊥
  none_set (at.Close None) names clean set = both_ways _ clean set
  none_set (at.Close (Some mode)) names clean set = false≢true set
  none_set (at.Make mode) names clean set = false≢true set
  none_set (at.Fill owed) names clean set = false≢true set
  none_set at.Done names clean set = false≢true set

  no_part : (item : ItemAtWork) (path : Route) → item ≡ Next → filled_part item ≡ Some path → ⊥
  no_part item path none is = (let e : (let o : Option Route = None in o) ≡ Some path = sym (ap filled_part none) ∙ is in let f : ⊥ = cc in f)

  -- nor does a change of what stands at or below the target, but of a file or a link at the target that stood there before
  pub ended_calm : IsAtEnd c → (rest : Route) (i : ℕ) → find (current log) (rest ++ top.target) ≡ Some i → (is_clean i log.changes ≡ true) ⊎ ((rest ≡ []) × (is_folder (node (current log) i) ≡ false))
  ended_calm end rest i leads = by (h.calm rest)
    where
      clean : (is_clean i log.changes ≡ true) ⊎ MayWait c (rest ++ top.target) → is_clean i log.changes ≡ true
      clean (inl still) = still
      clean (inr (inl part)) = absurd (no_part c.item (rest ++ top.target) end.none part)
      clean (inr (inr set)) =
          let at_top = subst (λ (around : List Level). IsSetIn (rest ++ top.target) c.levels.inner around) end.outermost set in
          absurd (none_set c.levels.inner.copy.stage c.levels.inner.copy.names end.clean at_top.1)

      same_node : (j : ℕ) → rest ≡ [] → find (current log) top.target ≡ Some j → j ≡ i
      same_node j is stood = (let e : Some j ≡ Some i = sym stood ∙ (ap (find (current log)) (sym (ap (λ q. q ++ top.target) is)) ∙ leads) in cc)

      by : IsCalmFrom log c top.target rest → (is_clean i log.changes ≡ true) ⊎ ((rest ≡ []) × (is_folder (node (current log) i) ≡ false))
      by (inl calm) = inl (clean (calm i leads))
      by (inr (is, stood, apart)) = inr (is, subst (λ j. is_folder (node (current log) j) ≡ false) (same_node stood.i is stood.leads) stood.bare)
