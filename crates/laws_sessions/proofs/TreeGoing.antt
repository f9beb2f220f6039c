-- What a step of a copy of folders makes of what is known of the machine, the list and the log: folders that owe nothing are left, the machine makes
-- a step, and what it is in trouble with may be passed over.
use Rattle.std.proofs.Common.{Bool, List, Option, Some, ap, false, inl, inr, refl, subst, suc, sym, true, zero, ℕ, ◌++◌, ◌∙◌, ◌∷◌, ◌≡◌}
use Rattle.std.specs.Prelude.{if◌then◌else◌}
use Rattle.std.proofs.lemmas.Bool.{false≢true}
use Rattle.mc_text.specs.Routes.{Route}
use Rattle.tree_trait.specs.Change.{CallLog, current}
use Rattle.tree_trait.specs.Shape.{IsTree}
use Rattle.job_answers.specs.declared.replies.Replies.{Replies}
use Rattle.job_reports.specs.declared.job.Pair.{Pair}
use Rattle.job_reports.specs.declared.report.Cause.{Cause}
use Rattle.job_reports.specs.declared.report.Did.{Did}
use Rattle.job_reports.proofs.CallAnswers.{some_log}
use Rattle.copy_folders.specs.Levels.{levels_closed}
use Rattle.copy_tree.specs.InPlace.{IsInPlace}
use Rattle.copy_tree.specs.Parts.{IsPartPlace}
use Rattle.copy_tree.specs.Reports.{changes}
use Rattle.copy_tree.specs.Skipping as machine
use Rattle.copy_tree.specs.Standing.{Seen, after_report, is_fresh}
use Rattle.copy_tree.specs.TreeCopySteps.{CopySteps, IsWorkable, LeavesAll}
use Rattle.copy_tree.specs.declared.copy.Stage.{Stage}
use Rattle.copy_tree.specs.declared.copy.Stage.TheVariants.{Going}
use Rattle.copy_tree.proofs.InPlaces as places
use Rattle.copy_tree.proofs.InPlaces.{place_law}
use Rattle.copy_tree.proofs.Staying.{staying_law}
use Rattle.copy_job.specs.Standing.{SubtreeCopying}
use Rattle.copy_job.specs.SubtreeSteps.{ListSteps, SubtreeSteps, step_result}
use Rattle.copy_job.specs.Passing.{OrPassedOver}
use Rattle.copy_job.proofs.Unbegun.{unbegun_law}
use Rattle.laws_sessions.proofs.BareTargets.{IsCalmFrom}
use Rattle.laws_sessions.proofs.BareSteps.{left_apart, skip_bare, step_bare}
use Rattle.laws_sessions.proofs.Calm.{MayWait, PartCalm}
use Rattle.laws_sessions.proofs.CalmChanges.{calm_map}
use Rattle.laws_sessions.proofs.CalmLaws.{calm_law, left_calm}
use Rattle.laws_sessions.proofs.CalmSteps.{leaves_wait}
use Rattle.laws_sessions.proofs.CopyLaws.{CopyKnown}
use Rattle.laws_sessions.proofs.EndSteps.{end_law, leaves_end}
use Rattle.laws_sessions.proofs.FoldersEnd.{EndsLast}
use Rattle.laws_sessions.proofs.FoldersLie.{AreLaid}
use Rattle.laws_sessions.proofs.ListSteps.{list_law}
use Rattle.laws_sessions.proofs.NameChanges.{waits_map}
use Rattle.laws_sessions.proofs.NameLaws.{left_marked, names_law}
use Rattle.laws_sessions.proofs.NameMarks.{Marked}
use Rattle.laws_sessions.proofs.NameSteps.{leaves_marks}
use Rattle.laws_sessions.proofs.Names.{IsMarked, WaitsMarked}
use Rattle.laws_sessions.proofs.OwnNames.{IsOwnName}
use Rattle.laws_sessions.proofs.PartTexts.{TextKnown}
use Rattle.laws_sessions.proofs.Resting.{IsOfFiles}
use Rattle.laws_sessions.proofs.SameNumbers.{leaves_number, skips_number, step_number}
use Rattle.laws_sessions.proofs.StepsKnown.{item_left, leaves_all, step_law, works_name}
use Rattle.laws_sessions.proofs.TextSteps.{text_law, text_left}
use Rattle.laws_sessions.proofs.TreeKnown.{TreeStands}
use Rattle.laws_sessions.proofs.TreePlaces.{laid_closed, laid_left, laid_works, nested_of}
use Rattle.laws_sessions.proofs.TreeSkips.{LaidIn, skip_law, skips_laid}

-- What is known of the log, and of the machine: of the open folders, of the file or link at work, and of what lies at and below the target.
pub record LogHas (top : Pair) (job : ℕ) (log : CallLog) (c : Seen) : Type 0 where
  pub copy : CopyKnown log c
  pub ends : EndsLast c
  pub marked : IsMarked c
  pub text : TextKnown log c.item
  pub whole : PartCalm log c.item
  pub calm : (rest : Route) → IsCalmFrom log c top.target rest
  pub names : (name : List ℕ) (up : Route) → IsOwnName job top (name ∷ up) → WaitsMarked log c name up

-- Folders that owe nothing are left.
pub leaves_has : (top : Pair) (job : ℕ) (log : CallLog) (n : ℕ) (old mid : Seen) → LeavesAll n old mid → LogHas top job log old → LogHas top job log mid
leaves_has top job log n old mid l h = record {
  copy = (let copy = h.copy in (leaves_all n log old mid l copy.0, item_left n log old mid l copy.1));
  ends = leaves_end n old mid l h.ends;
  marked = left_marked n old mid l h.marked;
  text = text_left n log old mid l h.text;
  whole = left_calm n log old mid l h.whole;
  calm = λ rest. elim (h.calm rest) [
    | inl calm ↦ inl (calm_map (rest ++ top.target) log (MayWait old (rest ++ top.target)) (MayWait mid (rest ++ top.target)) (leaves_wait (rest ++ top.target) n old mid l) calm)
    | inr b ↦ inr (b.0, b.1, left_apart n old mid top.target l b.2)
  ];
  names = λ name up own. waits_map name up log (Marked up old.levels) (Marked up mid.levels) (leaves_marks name up n old mid l h.ends) (h.names name up own);
}

-- The machine makes a step.
step_has : (top : Pair) (job : ℕ) (log now : CallLog) → IsTree (current log) → IsOfFiles log → (free : Route → Bool) (replies : Replies) (old new : Seen) (did : Did) (count f0 f1 : ℕ) → CopySteps free replies old new did count (Some log) (Some now) f0 f1 → LogHas top job log old
    → LogHas top job now new
step_has top job log now tree files free replies old new did count f0 f1 s h =
    let calm = (let law = calm_law in law.step free replies old new did count log now f0 f1 s tree files h.copy h.whole) in
    let names = (let law = names_law in law.step free replies old new did count log now f0 f1 s tree files h.copy h.ends h.marked) in
    record {
      copy = step_law free replies old new did count log now f0 f1 s tree files h.copy;
      ends = (let law = end_law in law.step free replies old new did count (Some log) (Some now) f0 f1 s h.ends);
      marked = names.0;
      text = (let law = text_law in law.step free replies old new did count log now f0 f1 s tree h.text);
      whole = calm.0;
      calm = λ rest. elim (h.calm rest) [
        | inl still ↦ inl (calm.1 (rest ++ top.target) still)
        | inr b ↦ (let stood = step_bare free replies old new did count log now f0 f1 s tree files h.copy top.target b.1 b.2 in inr (b.0, stood.0, stood.1))
      ];
      names = λ name up own. names.1 name up (h.names name up own);
    }

-- What is in trouble is passed over.
skip_has : (top : Pair) (job : ℕ) (log : CallLog) (cause : Cause) (old new : Seen) (did : Did) → machine.Skips cause old did new → LogHas top job log old → LogHas top job log new
skip_has top job log cause old new did s h =
    let calm = (let law = calm_law in law.skip log cause old new did s h.whole) in
    let names = (let law = names_law in law.skip log cause old new did s h.marked) in
    record {
      copy = (let law = skip_law in law.skip log cause old new did s h.copy);
      ends = (let law = end_law in law.skip cause old new did s h.ends);
      marked = names.0;
      text = (let law = text_law in law.skip log cause old new did s h.text);
      whole = calm.0;
      calm = λ rest. elim (h.calm rest) [ inl still ↦ inl (calm.1 (rest ++ top.target) still) | inr b ↦ inr (b.0, b.1, skip_bare top.target cause old new did s b.2) ];
      names = λ name up own. names.1 name up (h.names name up own);
    }

-- How the folders lie is kept by the machine alone.
pub leaves_laid : (n : ℕ) (old mid : Seen) → LeavesAll n old mid → LaidIn old → LaidIn mid
leaves_laid zero old mid is h = subst LaidIn (sym is) h
leaves_laid (suc n) old mid (last, all, none, one) h =
    let r = one.returns in
    let same : mid.name ≡ last.name = ap (λ (c : Seen). c.name) r.stands in
    subst (λ name. AreLaid name mid.levels.inner mid.levels.around) (sym same)
    (laid_left last.name (levels_closed last.levels) mid.levels r.left (laid_closed last.name last.levels (leaves_laid n old last all h)))

step_laid : (free : Route → Bool) (replies : Replies) (old new : Seen) (did : Did) (count : ℕ) (before after : Option CallLog) (f0 f1 : ℕ) → CopySteps free replies old new did count before after f0 f1 → LaidIn old → LaidIn new
step_laid free replies old new did count before after f0 f1 s h =
    let mid = s.mid in
    subst (λ name. AreLaid name new.levels.inner new.levels.around)
    (sym (works_name (IsPartPlace free mid) replies mid new did before after mid.item s.works))
    (laid_works (IsPartPlace free mid) replies mid new did before after (leaves_laid s.folders old mid s.leaves h) mid.item s.works)

-- a report makes nothing fresh again
pub fresh_before : (did : Did) (stage : Stage) → is_fresh (after_report did stage) ≡ true → is_fresh stage ≡ true
fresh_before did stage fresh = by (changes did) fresh
  where
    by : (b : Bool) → is_fresh (if b then Going else stage) ≡ true → is_fresh stage ≡ true
    by true h = absurd (false≢true h)
    by false h = h

module _ (free : Route → Bool) (replies : Replies) (c new : SubtreeCopying) (did : Did) (count : ℕ) (dirty dirty_after : List Route) (log now : CallLog) (f0 f1 : ℕ) (s : SubtreeSteps free replies c new did count dirty dirty_after (Some log) (Some now) f0 f1) where
  -- what all three keep a step keeps
  through : (P : CallLog → Seen → Type 0) → ((n : ℕ) (old mid : Seen) → LeavesAll n old mid → P log old → P log mid)
      → ((old moved : Seen) (d : Did) (k : ℕ) → CopySteps free replies old moved d k (Some log) (Some now) f0 f1 → P log old → P now moved)
      → ((cause : Cause) (old next : Seen) (d : Did) → machine.Skips cause old d next → P now old → P now next) → P log c.at → P now new.at
  through P leaves steps skips h = passed s.passes
    where
      mid : P log s.mid
      mid = (let l = s.leaves in leaves l.0 c.at s.mid l.1 h)

      worked : ListSteps free replies s.mid s.moved s.worked dirty dirty_after (Some log) (Some now) f0 f1 → P now s.moved
      worked (inl short) = subst (λ (x : CallLog). P x s.moved) (sym (some_log now log short.same)) (subst (P log) (sym short.stays) mid)
      worked (inr m) = (let w = s.worked in steps s.mid s.moved w.did w.calls m.steps mid)

      passed : OrPassedOver replies.skips s.worked s.moved new.at (step_result did count) → P now new.at
      passed (inl same) = subst (P now) (sym same.2) (worked s.works)
      passed (inr p) = skips p.0 s.moved new.at did p.3 (worked s.works)

  -- so what is known of the log
  pub log_goes : IsTree (current log) → IsOfFiles log → LogHas c.top c.at.job log c.at → LogHas c.top c.at.job now new.at
  log_goes tree files h =
      through (λ l x. LogHas c.top c.at.job l x) (leaves_has c.top c.at.job log) (λ old moved d k steps has. step_has c.top c.at.job log now tree files free replies old moved d k f0 f1 steps has) (λ cause old next d skips has. skip_has c.top c.at.job now cause old next d skips has) h

  -- the copy is that of the same job
  pub number_goes : new.at.job ≡ c.at.job
  number_goes = through (λ l x. x.job ≡ c.at.job) (λ n old mid l h. leaves_number n old mid l ∙ h) (λ old moved d k steps h. step_number free replies old moved d k (Some log) (Some now) f0 f1 steps ∙ h)
      (λ cause old next d skips h. skips_number old.item cause old next d skips ∙ h) refl

  -- and how the copy stands, with its marks
  pub steps_stand : new.at.stage ≡ after_report did c.at.stage → IsMarked new.at → TreeStands dirty c → TreeStands dirty_after new
  steps_stand stage marked h = record {
    in_place = subst (λ (top : Pair). IsInPlace top new.at) (sym (ap (λ (x : SubtreeCopying). x.top) s.stands))
        (through (λ l x. IsInPlace c.top x) (λ n old mid l is. places.leaves_all c.top n old mid l is) (λ old moved d k steps is. (place_law free replies c.top old moved d k (Some log) (Some now) f0 f1 steps is).0)
        (λ cause old next d skips is. let law = staying_law in law.skip c.top cause old next d skips is) h.in_place);
    laid = through (λ l x. LaidIn x) leaves_laid (λ old moved d k steps is. step_laid free replies old moved d k (Some log) (Some now) f0 f1 steps is) (λ cause old next d skips is. skips_laid old.item cause old next d skips is) h.laid;
    ends = through (λ l x. EndsLast x) leaves_end (λ old moved d k steps is. let law = end_law in law.step free replies old moved d k (Some log) (Some now) f0 f1 steps is)
        (λ cause old next d skips is. let law = end_law in law.skip cause old next d skips is) h.ends;
    unbegun = λ fresh.
        let was = fresh_before did c.at.stage (sym (ap is_fresh stage) ∙ fresh) in
        let law = unbegun_law in
        let outside = h.unbegun was in
        law.step free replies c new did count dirty dirty_after (Some log) (Some now) f0 f1 s (subst IsWorkable (sym outside.none) tt) h.unbegun fresh;
    marked = marked;
    listed = (let law = list_law in law.step free replies c new did count dirty dirty_after (Some log) (Some now) f0 f1 s (nested_of c.at.name c.at.levels.inner c.at.levels.around h.laid) h.listed);
  }
