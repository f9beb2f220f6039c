-- A step of a copy asks, keeps what stands at its target, or begins a part beside it as was answered.
use Rattle.std.proofs.Common.{◌≡◌, ℕ, Bool, true, List, [], ◌∷◌, ◌++◌, length, refl, sym, ◌∙◌, ap, subst, inl, inr, Option, Some, None, arith}
use Rattle.std.specs.Prelude.{⊤, is_some}
use Rattle.std.proofs.lemmas.List.{length-append}
use Rattle.mc_text.specs.Routes.{Route}
use Rattle.tree_trait.specs.declared.calls.Meta.{Meta}
use Rattle.tree_trait.specs.Answers.{IsMeta}
use Rattle.tree_trait.specs.Calls.{Stat}
use Rattle.tree_trait.specs.Change.{CallLog, current, found_node}
use Rattle.tree_trait.specs.FileSystem.{Value, View, node, value}
use Rattle.tree_trait.specs.Refusals.{refusal_of}
use Rattle.tree_trait.specs.Shape.{IsTree}
use Rattle.laws_crash.specs.Guarded.{Marks}
use Rattle.job_reports.proofs.PermittedCalls.{stat_missing}
use Rattle.job_reports.specs.Paths.{folder_of}
use Rattle.job_reports.specs.declared.job.Pair.{Pair}
use Rattle.job_reports.specs.declared.question.Question.{Question}
use Rattle.job_reports.specs.declared.report.Did.{Did}
use Rattle.job_reports.specs.declared.report.Did.TheVariants.{Began, Chunk, Placed, Removed, Made, Set, Kept, Skipped, Cleaned, Barrier, Asked, Merges, Moved, Troubled, Ended}
use Rattle.job_reports.specs.declared.report.StepResult.{StepResult}
use Rattle.job_reports.specs.declared.report.Transfer.TheVariants.{ByCopy}
use Rattle.job_answers.specs.declared.replies.Decision.{Decision}
use Rattle.job_answers.specs.declared.replies.Decision.TheVariants.{Ask, Keep, Replace}
use Rattle.job_answers.specs.declared.replies.Replies.{Replies}
use Rattle.job_answers.specs.Decisions.{decision_on}
use Rattle.copy_file.specs.Copying as file
use Rattle.copy_file.specs.Copying.{Copying, places}
use Rattle.copy_file.specs.PartNames.{part_path}
use Rattle.copy_file.specs.PartSteps.{MadeCalls, TellsMade}
use Rattle.copy_file.specs.declared.stage.SourceFacts.{SourceFacts}
use Rattle.copy_file.specs.declared.stage.Stage.TheVariants as file_stage
use Rattle.copy_folders.specs.declared.stage.FolderDid.{FolderDid}
use Rattle.copy_folders.specs.declared.stage.FolderDid.TheVariants as folder_did
use Rattle.copy_link.specs.LinkCopying as link
use Rattle.copy_link.specs.LinkCopying.{LinkCopying}
use Rattle.copy_link.specs.declared.stage.Stage.TheVariants as link_stage
use Rattle.copy_tree.specs.Asking as tops
use Rattle.copy_tree.specs.Asking.{IsOpen}
use Rattle.copy_tree.specs.Replaceable.{IsReplaceable}
use Rattle.copy_tree.specs.InPlace.{IsInPlace, IsMoved}
use Rattle.copy_tree.specs.Parts.{IsPartPlace}
use Rattle.copy_tree.specs.Progress.{link_progress}
use Rattle.copy_tree.specs.Reports.{IsToldAs}
use Rattle.copy_tree.specs.Standing.{Seen, due}
use Rattle.copy_tree.specs.declared.due.Due.TheVariants.{Thing}
use Rattle.copy_tree.specs.TreeCopySteps.{CopySteps, TakesNext, WorksOn, is_top, link_begun}
use Rattle.copy_tree.specs.declared.item.ItemAtWork.{ItemAtWork}
use Rattle.copy_tree.specs.declared.item.ItemAtWork.TheVariants.{Next, File, Link, Stays}
use Rattle.copy_tree.specs.declared.progress.Progress.TheVariants.{Anew, UnderWay}
use Rattle.copy_tree.proofs.InPlaces.{leaves_all, pair_moved}
use Rattle.copy_job.specs.Passing.{OrPassedOver}
use Rattle.copy_job.specs.Standing.{SubtreeCopying}
use Rattle.copy_job.specs.SubtreeSteps.{ListSteps, SubtreeSteps, step_result}
use Rattle.copy_move.specs.declared.run.Course.{Course}
use Rattle.laws_sessions.proofs.Knowing.{IsKept, HistoryFacts}
use Rattle.laws_sessions.proofs.OwedModes.{ShowsTree}
use Rattle.laws_sessions.proofs.TreeCalls.{left_item}
use Rattle.laws_sessions.proofs.TreeKnown.{ItemHas}
use Rattle.laws_sessions.proofs.TreeMachine.{SaysPassed, skip_says}
use Rattle.laws_outcomes.specs.Answered.{IsAsAnswered, IsQuestionOf, IsSized}
use Rattle.laws_outcomes.proofs.Accounts.{ItemDone}
use Rattle.laws_outcomes.proofs.CopyOutcome.{TreeAccounts, next_of, not_begun, shows_all, top_alone, top_source}
use Rattle.laws_outcomes.proofs.FileWork.{none_shown, some_shown}
use Rattle.laws_outcomes.proofs.MergedNames.{merged_whole}
use Rattle.laws_outcomes.proofs.TreeLevels.{leaves_done}

-- a report that asks nothing, keeps nothing, merges nothing and begins no part
abbrev pub IsOther : Did → Type 0
IsOther (Asked question) = ⊥
IsOther (Kept path) = ⊥
IsOther (Began part) = ⊥
IsOther (Merges transfer pair names) = ⊥
IsOther did = ⊤

pub other_as : (replies : Replies) (source target : Route) (v : View) (did : Did) → IsOther did → IsAsAnswered replies source target v did
other_as replies source target v (Asked question) h = absurd h
other_as replies source target v (Kept path) h = absurd h
other_as replies source target v (Began part) h = absurd h
other_as replies source target v (Merges transfer pair names) h = absurd h
other_as replies source target v did h = tt

pub passed_other : (did : Did) → SaysPassed did → IsOther did
passed_other did (inl (path, cause, is)) = subst IsOther (sym is) tt
passed_other did (inr (trouble, is)) = subst IsOther (sym is) tt

told_other : (report : FolderDid) (did : Did) → IsToldAs report did → IsOther did
told_other (folder_did.Made path) did is = subst IsOther (sym is) tt
told_other (folder_did.Set path) did is = subst IsOther (sym is) tt
told_other folder_did.Barrier did is = subst IsOther (sym is) tt
told_other (folder_did.Troubled trouble) did is = subst IsOther (sym is) tt
told_other folder_did.Closed did is = absurd is

file_other : (f moved : Copying) (did : Did) → file.Tells f did moved → (f.stage ≡ file_stage.Begin → ⊥) → IsOther did
file_other f moved (Began part) t begun = absurd (begun t.0)
file_other f moved (Asked question) t begun = absurd t
file_other f moved (Kept path) t begun = absurd t
file_other f moved (Merges transfer pair names) t begun = absurd t
file_other f moved did t begun = tt

link_other : (l moved : LinkCopying) (did : Did) → link.Tells l did moved → (l.stage ≡ link_stage.Make → ⊥) → IsOther did
link_other l moved (Began part) t begun = absurd (begun t.0)
link_other l moved (Asked question) t begun = absurd t
link_other l moved (Kept path) t begun = absurd t
link_other l moved (Merges transfer pair names) t begun = absurd t
link_other l moved did t begun = tt

-- nothing stands there, so nothing is replaced
pub none_there : {A : Type 0} (o : Option Value) → o ≡ None → is_some o ≡ true → A
none_there None none some = absurd (let f : ⊥ = cc in f)
none_there (Some x) none some = absurd (let f : ⊥ = cc in f)

-- where the history shows the tree, a question is on what stands there
module _ (v : View) (log : CallLog) (tree : IsTree (current log)) (shows : ShowsTree v log) where
  sized : (path : Route) (meta : Meta) → refusal_of (current log) (Stat path) ≡ None → IsMeta (current log) path meta → IsReplaceable meta.kind → IsSized v path meta.size
  sized path meta there is kind = (value (node (current log) (found_node (current log) path)), some_shown v log tree shows path there, subst IsReplaceable is.kind kind, is.size)

  tree_question : (pair : Pair) (replies : Replies) (question : Question) (decision : Decision) → tops.IsDecided (current log) pair replies question decision → IsQuestionOf v pair.source pair.target question
  tree_question pair replies question decision d =
      let b = d.both in
      record {
        from = ap (λ (q : Question). q.source) d.asks;
        to = ap (λ (q : Question). q.target) d.asks;
        source_is = subst (IsSized v pair.source) (sym (ap (λ (q : Question). q.source_size) d.asks)) (sized pair.source b.source b.there b.of_source b.replacing);
        target_is = subst (IsSized v pair.target) (sym (ap (λ (q : Question). q.target_size) d.asks)) (sized pair.target b.target b.stands b.of_target b.replaceable);
      }

-- paths as far below the source as below the target
above_none : (rest base : Route) → rest ++ base ≡ base → rest ≡ []
above_none [] base is = refl
above_none (name ∷ rest) base is = absurd (let l = ap (λ (p : Route). length p) is in let k = length-append rest base in omega (arith, l, k))

at_top : (top : Pair) (source target : Route) → IsMoved top source target → source ≡ top.source → target ≡ top.target
at_top top source target m is = m.to ∙ ap (λ r. r ++ top.target) (above_none m.rest top.source (sym m.from ∙ is))

-- what comes into the folder of the target is what is copied itself
beside : (top : Pair) (name : List ℕ) (source target : Route) → name ∷ folder_of top.target ≡ top.target → IsMoved top source target → folder_of target ≡ folder_of top.target → (source ≡ top.source) × (target ≡ top.target)
beside top name source target named m is = by m.rest m.from m.to
  where
    by : (rest : Route) → source ≡ rest ++ top.source → target ≡ rest ++ top.target → (source ≡ top.source) × (target ≡ top.target)
    by [] from to = (from, to)
    by (first ∷ rest) from to =
        absurd (let deep = ap (λ (p : Route). length (folder_of p)) to in let same = ap (λ (p : Route). length p) is in let whole = ap (λ (p : Route). length p) named in let sum = length-append rest top.target in omega (arith, deep, same, whole, sum))

-- a step of the machine
module _ (log : CallLog) (v : View) (top : Pair) (unclaimed : Route → Type 0) (replies : Replies) (old new : Seen) (did : Did) (after : Option CallLog) (place : IsInPlace top old) (tree : IsTree (current log))
    (merges : (pair : Pair) (names : List (List ℕ)) → did ≡ Merges ByCopy pair names → pair ≡ top) where
  abbrev As : Did → Type 0
  As d = IsAsAnswered replies top.source top.target v d

  -- what is taken up begins its part here
  begins_as : (pair : Pair) (k : ℕ) (part : Route) → part ≡ part_path (places old.job pair.source pair.target) k → IsMoved top pair.source pair.target → IsOpen (current log) (is_top old) replies pair → ShowsTree v log → As (Began part)
  begins_as pair k part part_is m onto shows near some = by onto
    where
      same : (pair.source ≡ top.source) × (pair.target ≡ top.target)
      same = beside top old.name pair.source pair.target place.name m (sym (ap folder_of part_is) ∙ near)

      by : IsOpen (current log) (is_top old) replies pair → (question : Question) × IsQuestionOf v top.source top.target question × (decision_on replies question ≡ Replace)
      by (inl free) = none_there (v top.target).value (ap (λ p. (v p).value) (sym same.1) ∙ none_shown v log tree shows pair.target (stat_missing (current log) pair.target free)) some
      by (inr (alone, (question, d))) = (
        question,
        subst (λ p. IsQuestionOf v p top.target question) same.0 (subst (λ p. IsQuestionOf v pair.source p question) same.1 (tree_question v log tree shows pair replies question Replace d)),
        d.decides,
      )

  file_as : (pair : Pair) (facts : SourceFacts) (moved : Copying) → IsMoved top pair.source pair.target → IsOpen (current log) (is_top old) replies pair → ShowsTree v log → (d : Did) → TellsMade facts (file.begun_copy old.job pair.source pair.target) d moved
      → MadeCalls unclaimed facts (file.begun_copy old.job pair.source pair.target) d log after → As d
  file_as pair facts moved m onto shows (Began part) t called = begins_as pair called.0 part called.1 m onto shows
  file_as pair facts moved m onto shows (Asked question) t called = absurd t
  file_as pair facts moved m onto shows (Kept path) t called = absurd t
  file_as pair facts moved m onto shows (Merges transfer told names) t called = absurd t
  file_as pair facts moved m onto shows did t called = tt

  link_as : (pair : Pair) (k : ℕ) (part : Route) (moved : LinkCopying) → part ≡ part_path (places old.job pair.source pair.target) k → IsMoved top pair.source pair.target → IsOpen (current log) (is_top old) replies pair → ShowsTree v log
      → (d : Did) → link.Tells (link_begun pair part) d moved → As d
  link_as pair k part moved part_is m onto shows (Began made) (stage, made_is, new_is) = begins_as pair k made (made_is ∙ part_is) m onto shows
  link_as pair k part moved part_is m onto shows (Asked question) t = absurd t
  link_as pair k part moved part_is m onto shows (Kept path) t = absurd t
  link_as pair k part moved part_is m onto shows (Merges transfer told names) t = absurd t
  link_as pair k part moved part_is m onto shows did t = tt

  moved_as : (pair : Pair) → due old ≡ Thing pair → IsMoved top pair.source pair.target
  moved_as pair next = pair_moved top old.levels.inner.names.names old pair refl next place

  -- a question about what is taken up, where no folder is open around
  top_question : (pair : Pair) (question : Question) (decision : Decision) → due old ≡ Thing pair → is_top old ≡ true → ShowsTree v log
      → tops.IsDecided (current log) pair replies question decision → (pair.target ≡ top.target) × (IsQuestionOf v top.source top.target question × (decision_on replies question ≡ decision))
  top_question pair question decision next alone shows d =
      let from = top_source top old pair.source (top_alone old alone) (next_of old old.levels.inner.names.names pair refl next) place in
      let to = at_top top pair.source pair.target (moved_as pair next) from in (
        to,
        (subst (λ p. IsQuestionOf v p top.target question) from (subst (λ p. IsQuestionOf v pair.source p question) to (tree_question v log tree shows pair replies question decision d)), d.decides),
      )

  takes_as : ShowsTree v log → TakesNext unclaimed replies old new did (Some log) after → As did
  takes_as shows (inl s) = subst As (sym s.says) tt
  takes_as shows (inr (inl t)) =
      let is = t.is log refl in
      let w = t.works in
      file_as t.pair t.facts w.moved (moved_as t.pair t.next) is.2 shows did w.tells (w.called log refl)
  takes_as shows (inr (inr (inl t))) =
      let is = t.is log refl in
      let chosen = t.chosen log refl in
      let w = t.works in
      link_as t.pair chosen.0 t.part w.moved chosen.1 (moved_as t.pair t.next) is.1 shows did w.tells
  takes_as shows (inr (inr (inr (inl t)))) = (let w = t.works in other_as replies top.source top.target v did (told_other w.report did w.says))
  takes_as shows (inr (inr (inr (inr (inl t))))) =
      let is = t.is log refl in
      subst As (sym t.says) (refl, merges t.pair t.names t.says, merged_whole v log shows t.pair t.names is.0.0 is.2 t.in_order)
  takes_as shows (inr (inr (inr (inr (inr (inl t)))))) =
      let is = t.is log refl in
      let q = top_question t.pair is.0 Keep t.next t.top shows is.1 in
      subst As (sym t.says) (q.0, (is.0, q.1.0, q.1.1))
  takes_as shows (inr (inr (inr (inr (inr (inr (inl t))))))) = subst As (sym t.says) (top_question t.pair t.question Ask t.next t.top shows (t.is log refl)).1
  takes_as shows (inr (inr (inr (inr (inr (inr (inr (next, inl (debt, e))))))))) = other_as replies top.source top.target v did (told_other e.report did e.says)
  takes_as shows (inr (inr (inr (inr (inr (inr (inr (next, inr (debt, f, same))))))))) = subst As (sym f.says) tt

  link_made : (l : LinkCopying) → link_progress l.stage ≡ UnderWay → l.stage ≡ link_stage.Make → ⊥
  link_made l under is = (let e : Anew ≡ UnderWay = sym (ap link_progress is) ∙ under in let f : ⊥ = cc in f)

  pub works_as : (passed : List Route) (item : ItemAtWork) → ItemDone v passed top.target old.levels.inner old.levels.around item → (item ≡ Next → ShowsTree v log) → WorksOn item unclaimed replies old new did (Some log) after → As did
  works_as passed Next d shows (inl w) = other_as replies top.source top.target v did (told_other w.report did w.says)
  works_as passed Next d shows (inr (clean, takes)) = takes_as (shows refl) takes
  works_as passed (File f) d shows w = other_as replies top.source top.target v did (file_other f w.moved did w.tells (not_begun f.stage d.0))
  works_as passed (Link l) d shows w = other_as replies top.source top.target v did (link_other l w.moved did w.tells (link_made l d.0))
  works_as passed (Stays part) d shows w = absurd w

-- a step of the copy of a thing with all that lies in it
module _ (told : HistoryFacts) (dirty dirty_after : List Route) (marks : Marks) (log now : CallLog) (kept : IsKept told dirty marks log) (c new : SubtreeCopying) (did : Did)
    (merges : (pair : Pair) (names : List (List ℕ)) → did ≡ Merges ByCopy pair names → pair ≡ c.top) (passed : List Route) (course : Course) (free : Route → Bool) (replies : Replies) (count f0 f1 : ℕ)
    (part : ItemHas told dirty marks (current log) course c.at.item) (s : SubtreeSteps free replies c new did count dirty dirty_after (Some log) (Some now) f0 f1) (a : TreeAccounts passed told.tree c) where
  abbrev Here : Did → Type 0
  Here d = IsAsAnswered replies c.top.source c.top.target told.tree d

  abbrev r : StepResult
  r = s.worked

  abbrev mid : Seen
  mid = s.mid

  machine : (r.did ≡ did) → CopySteps free replies mid s.moved r.did r.calls (Some log) (Some now) f0 f1 → Here r.did
  machine same m =
      let last = m.mid in
      let first = leaves_done told.tree passed c.top s.leaves.0 c.at mid s.leaves.1 a.done in
      let done = leaves_done told.tree passed c.top m.folders mid last m.leaves first in
      let place = leaves_all c.top m.folders mid last m.leaves (leaves_all c.top s.leaves.0 c.at mid s.leaves.1 a.in_place) in
      works_as log told.tree c.top (IsPartPlace free last) replies last s.moved r.did (Some now) place kept.known.guarded.tree (λ pair names is. merges pair names (sym same ∙ is)) passed last.item done.item
      (λ none. shows_all told dirty marks log kept (subst (ItemHas told dirty marks (current log) course) (sym (left_item s.leaves.0 c.at mid s.leaves.1) ∙ (sym (left_item m.folders mid last m.leaves) ∙ none)) part)) m.works

  worked : (r.did ≡ did) → ListSteps free replies mid s.moved r dirty dirty_after (Some log) (Some now) f0 f1 → Here r.did
  worked said (inl out) = subst Here (sym (ap (λ (x : StepResult). x.did) out.says)) tt
  worked said (inr m) = machine said m.steps

  pub tree_as : Here did
  tree_as = by s.passes
    where
      by : OrPassedOver replies.skips r s.moved new.at (step_result did count) → Here did
      by (inl (none, same, at)) = (let said = sym (ap (λ (x : StepResult). x.did) same) in subst Here said (worked said s.works))
      by (inr (cause, is, calls, skips)) = (let moved = s.moved in other_as replies c.top.source c.top.target told.tree did (passed_other did (skip_says moved.item cause moved new.at did skips)))
