-- What a step of a copy reports: what is placed is a file or a link, whose part stands, what is made a folder, where the source is one and nothing stood; a mode is given only to a folder that was made; and what is
-- cleaned is the part that stands.
use Rattle.std.proofs.Common.{◌≡◌, ◌⊎◌, ℕ, Bool, true, false, List, [], ◌∷◌, refl, sym, ◌∙◌, ap, subst, inl, inr, Option, Some, None}
use Rattle.std.specs.Prelude.{⊤, is_some}
use Rattle.std.specs.Option.{option_map}
use Rattle.mc_text.specs.Routes.{Route, is_prefix}
use Rattle.mc_text.specs.declared.kind.Kind.TheVariants as kind
use Rattle.tree_trait.specs.Change.{CallLog, current}
use Rattle.tree_trait.specs.FileSystem.{Spot, Value, View, find, node, value}
use Rattle.tree_trait.specs.Shape.{IsTree}
use Rattle.laws_crash.specs.Guarded.{Marks}
use Rattle.job_answers.specs.declared.replies.Replies.{Replies}
use Rattle.job_reports.proofs.PermittedCalls.{stat_missing}
use Rattle.job_reports.specs.declared.job.Pair.{Pair}
use Rattle.job_reports.specs.declared.report.Did.{Did}
use Rattle.job_reports.specs.declared.report.Did.TheVariants as common
use Rattle.job_reports.specs.declared.report.Ending.TheVariants.{Finished, Aborted, Killed, NoMemory}
use Rattle.job_reports.specs.declared.report.StepResult.{StepResult}
use Rattle.job_reports.specs.declared.report.Transfer.TheVariants.{ByCopy}
use Rattle.copy_file.specs.Copying as file
use Rattle.copy_file.specs.Copying.{Copying}
use Rattle.copy_file.specs.PartSteps.{TellsMade}
use Rattle.copy_file.specs.declared.stage.SourceFacts.{SourceFacts}
use Rattle.copy_file.specs.declared.stage.Stage.TheVariants as file_stage
use Rattle.copy_link.specs.LinkCopying as link
use Rattle.copy_link.specs.LinkCopying.{LinkCopying}
use Rattle.copy_link.specs.declared.stage.Stage.TheVariants as link_stage
use Rattle.copy_folders.specs.FolderCopying.{FolderCopying, Tells, copying}
use Rattle.copy_folders.specs.FolderSteps.{at_sync}
use Rattle.copy_folders.specs.declared.level.Level.{Level}
use Rattle.copy_folders.specs.declared.stage.FolderDid.{FolderDid}
use Rattle.copy_folders.specs.declared.stage.FolderDid.TheVariants as folder_did
use Rattle.copy_folders.specs.declared.stage.NamesState.TheVariants.{Synced}
use Rattle.copy_folders.specs.declared.stage.Stage.TheVariants as at
use Rattle.copy_tree.specs.InPlace.{AreMoved, IsInPlace, IsMoved, ItemMoved, owed_of}
use Rattle.copy_tree.specs.Reports.{IsToldAs}
use Rattle.copy_tree.specs.Standing.{Seen}
use Rattle.copy_tree.specs.Parts.{IsPartPlace}
use Rattle.copy_tree.specs.TreeCopySteps.{CopySteps, FolderEnds, SyncsAround, TakesNext, WorksOn, at_end, is_top, link_begun}
use Rattle.copy_tree.specs.declared.item.ItemAtWork.{ItemAtWork}
use Rattle.copy_tree.specs.declared.item.ItemAtWork.TheVariants.{Next, File, Link, Stays}
use Rattle.copy_tree.proofs.InPlaces.{closed_in_place, leaves_all, pair_moved}
use Rattle.copy_job.specs.Passing.{OrPassedOver}
use Rattle.copy_job.specs.Standing.{SubtreeCopying}
use Rattle.copy_job.specs.SubtreeSteps.{ListSteps, SubtreeSteps, step_result}
use Rattle.copy_move.specs.declared.run.Course.TheVariants.{GoesOn}
use Rattle.laws_sessions.proofs.JobKnows.{StageKnows}
use Rattle.laws_sessions.proofs.Knowing.{IsKept, HistoryFacts}
use Rattle.laws_sessions.proofs.OwedModes.{ShowsTree}
use Rattle.laws_sessions.proofs.TreeCalls.{left_item}
use Rattle.laws_sessions.proofs.TreeKnown.{ItemHas}
use Rattle.laws_sessions.proofs.TreeMachine.{SaysPassed, skip_says}
use Rattle.laws_outcomes.proofs.Accounts.{AreOpened, IsOpened, IsShown, TreeDone}
use Rattle.laws_outcomes.proofs.CopyOutcome.{TreeAccounts, shows_all}
use Rattle.laws_outcomes.proofs.FileWork.{none_shown, some_shown}
use Rattle.laws_outcomes.proofs.TreeClosings.{not_made}
use Rattle.laws_outcomes.proofs.TreeLevels.{closed_done, leaves_done}

-- a file or a link
abbrev pub IsSingle : Value → Type 0
IsSingle x = (x.kind ≡ kind.File) ⊎ (x.kind ≡ kind.Link)

-- such a thing stands at the source of this target
abbrev pub ComesFrom : Pair → View → (Value → Type 0) → Route → Type 0
ComesFrom top v Is target = (source : Route) × IsMoved top source target × ((x : Value) × ((v source).value ≡ Some x) × Is x)

-- a folder was made at this target for the one that stands at its source
abbrev pub WasMade : Pair → View → Route → Type 0
WasMade top v target = (source : Route) × IsMoved top source target × (is_prefix top.target source ≡ false → IsShown v source target)

abbrev pub CopyFact : Pair → View → Option Route → Did → Type 0
CopyFact top v stands (common.Placed path) = (is_some stands ≡ true) × ComesFrom top v IsSingle path
CopyFact top v stands (common.Made path) = ((v path).value ≡ None) × ComesFrom top v (λ x. x.kind ≡ kind.Folder) path
CopyFact top v stands (common.Set path) = WasMade top v path
CopyFact top v stands (common.Cleaned part) = stands ≡ Some part
CopyFact top v stands (common.Removed path) = ⊥
CopyFact top v stands (common.Moved pair) = ⊥
CopyFact top v stands (common.Began part) = ⊤
CopyFact top v stands (common.Chunk count) = ⊤
CopyFact top v stands (common.Kept path) = ⊤
CopyFact top v stands (common.Asked question) = ⊤
CopyFact top v stands (common.Merges transfer pair names) = ⊤
CopyFact top v stands (common.Skipped path cause) = ⊤
CopyFact top v stands common.Barrier = ⊤
CopyFact top v stands (common.Troubled trouble) = ⊤
CopyFact top v stands (common.Ended ending part) = ⊤

some_route : (a b : Route) → (let o : Option Route = Some a in o) ≡ Some b → a ≡ b
some_route a b is = cc

module _ (told : HistoryFacts) (dirty dirty_after : List Route) (marks : Marks) (log now : CallLog) (kept : IsKept told dirty marks log) (top : Pair) where
  abbrev Fact : Did → Type 0
  Fact did = CopyFact top told.tree told.part did

  -- what stands at a path that is no part's
  stands_at : (p part : Route) (i : ℕ) → told.part ≡ Some part → (p ≡ part → ⊥) → find (current log) p ≡ Some i → (told.tree p).value ≡ Some (value (node (current log) i))
  stands_at p part i part_is apart leads =
      sym (ap (λ (s : Spot). s.value) (kept.known.shows p (λ is. apart (some_route p part (sym is ∙ part_is))))) ∙ ap (option_map (λ j. value (node (current log) j))) leads

  file_stage_fact : (f moved : Copying) (did : Did) → StageKnows told marks (current log) GoesOn f f.stage → IsMoved top f.source f.target → file.Tells f did moved → Fact did
  file_stage_fact f moved (common.Placed path) k m (part, facts, stage, path_is, new_is) =
      let h = (subst (StageKnows told marks (current log) GoesOn f) stage k).1 in
      let has = h.1 in
      let fill = h.2 refl in
      subst (λ p. Fact (common.Placed p)) (sym path_is)
      (ap is_some has.part_is, (f.source, m, (value (node (current log) fill.n), stands_at f.source part fill.n has.part_is fill.apart fill.source_leads, inl fill.file)))
  file_stage_fact f moved (common.Cleaned part) k m (follows, stage, new_is) = (let h = (subst (StageKnows told marks (current log) GoesOn f) stage k).1 in let has = h.1 in has.part_is)
  file_stage_fact f moved (common.Began part) k m t = tt
  file_stage_fact f moved (common.Chunk count) k m t = tt
  file_stage_fact f moved common.Barrier k m t = tt
  file_stage_fact f moved (common.Troubled trouble) k m t = tt
  file_stage_fact f moved (common.Ended ending part) k m t = tt
  file_stage_fact f moved (common.Kept path) k m t = tt
  file_stage_fact f moved (common.Asked question) k m t = tt
  file_stage_fact f moved (common.Merges transfer pair names) k m t = tt
  file_stage_fact f moved (common.Skipped path cause) k m t = tt
  file_stage_fact f moved (common.Removed path) k m t = absurd t
  file_stage_fact f moved (common.Made path) k m t = absurd t
  file_stage_fact f moved (common.Set path) k m t = absurd t
  file_stage_fact f moved (common.Moved pair) k m t = absurd t

  link_fact : (l moved : LinkCopying) (did : Did) → ItemHas told dirty marks (current log) GoesOn (Link l) → IsMoved top l.source l.target → link.Tells l did moved → Fact did
  link_fact l moved (common.Placed path) (stands, k) m (stage, path_is, new_is) =
      let has = k.has in
      let copies = k.copies in
      subst (λ p. Fact (common.Placed p)) (sym path_is)
      (ap is_some has.part_is, (l.source, m, (value (node (current log) copies.n), stands_at l.source l.part copies.n has.part_is copies.apart copies.source_leads, inr copies.link)))
  link_fact l moved (common.Cleaned part) (stands, k) m (follows, stage, part_is, new_is) = (let has = k.has in has.part_is ∙ ap (λ p. (let o : Option Route = Some p in o)) (sym part_is))
  link_fact l moved (common.Began part) h m t = tt
  link_fact l moved (common.Chunk count) h m t = tt
  link_fact l moved common.Barrier h m t = tt
  link_fact l moved (common.Troubled trouble) h m t = tt
  link_fact l moved (common.Ended ending part) h m t = tt
  link_fact l moved (common.Kept path) h m t = tt
  link_fact l moved (common.Asked question) h m t = tt
  link_fact l moved (common.Merges transfer pair names) h m t = tt
  link_fact l moved (common.Skipped path cause) h m t = tt
  link_fact l moved (common.Removed path) h m t = absurd t
  link_fact l moved (common.Made path) h m t = absurd t
  link_fact l moved (common.Set path) h m t = absurd t
  link_fact l moved (common.Moved pair) h m t = absurd t

  -- the first step at a file, or at a link
  made_fact : (facts : SourceFacts) (f moved : Copying) (did : Did) → TellsMade facts f did moved → Fact did
  made_fact facts f moved (common.Began part) t = tt
  made_fact facts f moved (common.Troubled trouble) t = tt
  made_fact facts f moved did t = absurd t

  first_fact : (pair : Pair) (part : Route) (moved : LinkCopying) (did : Did) → link.Tells (link_begun pair part) did moved → Fact did
  first_fact pair part moved (common.Placed path) (stage, path_is, new_is) = absurd (let f : ⊥ = cc in f)
  first_fact pair part moved (common.Cleaned cleaned) (follows, stage, part_is, new_is) = absurd (let f : ⊥ = cc in f)
  first_fact pair part moved (common.Began made) t = tt
  first_fact pair part moved common.Barrier t = tt
  first_fact pair part moved (common.Troubled trouble) t = tt
  first_fact pair part moved did t = absurd t

  -- a folder is made
  folder_fact : (pair : Pair) (mode : ℕ) (moved : FolderCopying) (report : FolderDid) (did : Did) → IsToldAs report did → Tells (copying pair.source pair.target (at.Make mode) Synced) report moved
      → IsMoved top pair.source pair.target → (told.tree pair.target).value ≡ None → (x : Value) → (told.tree pair.source).value ≡ Some x → x.kind ≡ kind.Folder → Fact did
  folder_fact pair mode moved (folder_did.Made path) did says (other, stage, path_is, new_is) m free x stands folder =
      subst Fact (sym (says ∙ ap common.Made path_is)) (free, (pair.source, m, (x, stands, folder)))
  folder_fact pair mode moved (folder_did.Set path) did says (other, stage, path_is, new_is) m free x stands folder = absurd (let f : ⊥ = cc in f)
  folder_fact pair mode moved folder_did.Barrier did says t m free x stands folder = subst Fact (sym says) tt
  folder_fact pair mode moved folder_did.Closed did says t m free x stands folder = absurd says
  folder_fact pair mode moved (folder_did.Troubled trouble) did says t m free x stands folder = subst Fact (sym says) tt

  -- a folder is synced
  sync_fact : (c moved : FolderCopying) (report : FolderDid) (did : Did) → IsToldAs report did → Tells (at_sync c) report moved → Fact did
  sync_fact c moved (folder_did.Made path) did says (mode, stage, path_is, new_is) = absurd (let f : ⊥ = cc in f)
  sync_fact c moved (folder_did.Set path) did says (mode, stage, path_is, new_is) = absurd (let f : ⊥ = cc in f)
  sync_fact c moved folder_did.Barrier did says t = subst Fact (sym says) tt
  sync_fact c moved folder_did.Closed did says t = absurd says
  sync_fact c moved (folder_did.Troubled trouble) did says t = subst Fact (sym says) tt

  -- a folder that is at its end
  given_fact : (inner : Level) (around : List Level) (mode : ℕ) → inner.copy.stage ≡ at.Close (Some mode) → AreMoved top inner around → AreOpened told.tree top.target inner around → WasMade top told.tree inner.copy.target
  given_fact inner [] mode stage moved opened = absurd (let e : (let o : Option ℕ = Some mode in o) ≡ None = sym (ap owed_of stage) ∙ moved.keeps in let f : ⊥ = cc in f)
  given_fact inner (outer ∷ around) mode stage moved opened = (let o : IsOpened told.tree top.target inner = opened.0 in (inner.copy.source, moved.0, o.shown))

  end_fact : (c : Seen) (moved : FolderCopying) (report : FolderDid) (did : Did) → IsToldAs report did → Tells c.levels.inner.copy report moved → AreMoved top c.levels.inner c.levels.around → AreOpened told.tree top.target c.levels.inner c.levels.around
      → Fact did
  end_fact c moved (folder_did.Made path) did says (mode, stage, path_is, new_is) are opened = absurd (not_made told.tree top c.levels.inner c.levels.around are opened mode stage)
  end_fact c moved (folder_did.Set path) did says (mode, stage, path_is, new_is) are opened =
      subst Fact (sym (says ∙ ap common.Set path_is)) (given_fact c.levels.inner c.levels.around mode stage are opened)
  end_fact c moved folder_did.Barrier did says t are opened = subst Fact (sym says) tt
  end_fact c moved folder_did.Closed did says t are opened = absurd says
  end_fact c moved (folder_did.Troubled trouble) did says t are opened = subst Fact (sym says) tt

  module _ (passed : List Route) (unclaimed : Route → Type 0) (replies : Replies) (old new : Seen) (did : Did) (h : TreeDone told.tree passed top old) (place : IsInPlace top old) where
    takes_fact : old.item ≡ Next → ShowsTree told.tree log → TakesNext unclaimed replies old new did (Some log) (Some now) → Fact did
    takes_fact none shows (inl s) = subst Fact (sym s.says) tt
    takes_fact none shows (inr (inl t)) = (let w = t.works in made_fact t.facts (file.begun_copy old.job t.pair.source t.pair.target) w.moved did w.tells)
    takes_fact none shows (inr (inr (inl t))) = (let w = t.works in first_fact t.pair t.part w.moved did w.tells)
    takes_fact none shows (inr (inr (inr (inl t)))) =
        let is = t.is log refl in
        let w = t.works in
        folder_fact t.pair t.mode w.moved w.report did w.says w.tells (pair_moved top old.levels.inner.names.names old t.pair refl t.next place)
        (none_shown told.tree log kept.known.guarded.tree shows (let p : Pair = t.pair in p.target) (stat_missing (current log) (let p : Pair = t.pair in p.target) is.1)) _
        (some_shown told.tree log kept.known.guarded.tree shows (let p : Pair = t.pair in p.source) is.0.0) is.0.1
    takes_fact none shows (inr (inr (inr (inr (inl t))))) = subst Fact (sym t.says) tt
    takes_fact none shows (inr (inr (inr (inr (inr (inl t)))))) = subst Fact (sym t.says) tt
    takes_fact none shows (inr (inr (inr (inr (inr (inr (inl t))))))) = subst Fact (sym t.says) tt
    takes_fact none shows (inr (inr (inr (inr (inr (inr (inr (next, inl (debt, e))))))))) =
        let closed = closed_in_place top old place in
        let done = closed_done told.tree passed top old none h in
        end_fact (at_end old) e.moved e.report did e.says e.tells closed.levels done.folders
    takes_fact none shows (inr (inr (inr (inr (inr (inr (inr (next, inr (debt, f, same))))))))) = subst Fact (sym f.says) tt

    works_fact : (item : ItemAtWork) → old.item ≡ item → ItemHas told dirty marks (current log) GoesOn item → ItemMoved top item → WorksOn item unclaimed replies old new did (Some log) (Some now) → Fact did
    works_fact Next is has m (inl s) = sync_fact (let l : Level = s.outer in l.copy) (record (at_sync (let l : Level = s.outer in l.copy)) { names = s.names }) s.report did s.says s.tells
    works_fact Next is has m (inr (clean, takes)) = takes_fact is (shows_all told dirty marks log kept has) takes
    works_fact (File f) is (name, listed, k) m w = file_stage_fact f w.moved did k m w.tells
    works_fact (Link l) is has m w = link_fact l w.moved did has m w.tells
    works_fact (Stays part) is has m w = absurd w

  -- so it is of a step of the copy, as a job works it
  pub copy_fact : (c new : SubtreeCopying) (did : Did) (passed : List Route) (free : Route → Bool) (replies : Replies) (count f0 f1 : ℕ) → c.top ≡ top → ItemHas told dirty marks (current log) GoesOn c.at.item
      → SubtreeSteps free replies c new did count dirty dirty_after (Some log) (Some now) f0 f1 → TreeAccounts passed told.tree c → Fact did
  copy_fact c new did passed free replies count f0 f1 top_is part s a = by s.passes
    where
      r : StepResult
      r = s.worked

      before : TreeDone told.tree passed top s.mid
      before = leaves_done told.tree passed top s.leaves.0 c.at s.mid s.leaves.1 (subst (λ (t : Pair). TreeDone told.tree passed t c.at) top_is a.done)

      place : IsInPlace top s.mid
      place = leaves_all top s.leaves.0 c.at s.mid s.leaves.1 (subst (λ (t : Pair). IsInPlace t c.at) top_is a.in_place)

      stepped : CopySteps free replies s.mid s.moved r.did r.calls (Some log) (Some now) f0 f1 → Fact r.did
      stepped m =
          let deep = m.mid in
          let done = leaves_done told.tree passed top m.folders s.mid deep m.leaves before in
          let here = leaves_all top m.folders s.mid deep m.leaves place in
          let item_is = left_item m.folders s.mid deep m.leaves ∙ left_item s.leaves.0 c.at s.mid s.leaves.1 in
          works_fact passed (IsPartPlace free deep) replies deep s.moved r.did done here deep.item refl (subst (ItemHas told dirty marks (current log) GoesOn) (sym item_is) part) here.item m.works

      worked : ListSteps free replies s.mid s.moved r dirty dirty_after (Some log) (Some now) f0 f1 → Fact r.did
      worked (inl out) = subst Fact (sym (ap (λ (x : StepResult). x.did) out.says)) tt
      worked (inr m) = stepped m.steps

      passed_fact : SaysPassed did → Fact did
      passed_fact (inl (path, cause, is)) = subst Fact (sym is) tt
      passed_fact (inr (trouble, is)) = subst Fact (sym is) tt

      by : OrPassedOver replies.skips r s.moved new.at (step_result did count) → Fact did
      by (inl (none, same, at)) = subst Fact (sym (ap (λ (x : StepResult). x.did) same)) (worked s.works)
      by (inr (cause, is, calls, skips)) = (let moved : Seen = s.moved in passed_fact (skip_says moved.item cause moved new.at did skips))
