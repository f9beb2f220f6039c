-- A copy that merges: what is merged is what it copies itself, and then it is over; and a copy that is over stays so.
use Rattle.std.proofs.Common.{◌≡◌, ◌≤◌, ℕ, suc, zero, refl, sym, ◌∙◌, ap, subst, inl, inr, Bool, true, false, List, [], ◌∷◌, length, arith, Option}
use Rattle.std.specs.Prelude.{drop, if◌then◌else◌}
use Rattle.std.proofs.lemmas.Bool.{false≢true}
use Rattle.mc_text.specs.Routes.{Route}
use Rattle.tree_trait.specs.Change.{CallLog}
use Rattle.tree_trait.specs.CrashImages.{Among}
use Rattle.job_answers.specs.declared.replies.Replies.{Replies}
use Rattle.job_reports.specs.declared.job.Pair.{Pair}
use Rattle.job_reports.specs.declared.question.Question.{Question}
use Rattle.job_reports.specs.declared.report.Cause.{Cause}
use Rattle.job_reports.specs.declared.report.Did.{Did}
use Rattle.job_reports.specs.declared.report.Did.TheVariants.{Asked, Kept, Merges}
use Rattle.job_reports.specs.declared.report.StepResult.{StepResult}
use Rattle.job_reports.specs.declared.report.Transfer.TheVariants.{ByCopy}
use Rattle.copy_folders.specs.FolderCopying.{FolderCopying, closing, is_dirty}
use Rattle.copy_folders.specs.declared.stage.FolderDid.{FolderDid}
use Rattle.copy_folders.specs.declared.stage.FolderDid.TheVariants as folder_did
use Rattle.tree_walk.specs.Places.{is_empty}
use Rattle.copy_folders.specs.declared.level.Level.{Level}
use Rattle.copy_folders.specs.Levels.{is_around_dirty, owed_at}
use Rattle.copy_tree.specs.declared.due.Due.TheVariants.{Thing}
use Rattle.copy_tree.specs.declared.item.ItemAtWork.{ItemAtWork}
use Rattle.copy_tree.specs.declared.item.ItemAtWork.TheVariants.{Next, File, Link, Stays}
use Rattle.copy_tree.specs.InPlace.{AreMoved, HoldsTop, IsInPlace, NoneBeside}
use Rattle.copy_tree.specs.Parts.{IsPartPlace}
use Rattle.copy_tree.specs.Reports.{IsToldAs, changes}
use Rattle.copy_tree.specs.Skipping as machine
use Rattle.copy_tree.specs.Taking.{AreShort}
use Rattle.copy_tree.specs.Standing.{Seen, due, due_at, is_fresh, pair_of}
use Rattle.copy_tree.specs.TreeCopySteps.{LeavesAll, TakesMerged, TakesNext, WorksOn, at_end, has_debt}
use Rattle.copy_tree.proofs.InPlaces.{leaves_all}
use Rattle.copy_job.specs.Leaving.{may_leave, owes_at_end}
use Rattle.copy_job.specs.Merged.{AsksTop, IsOver, IsPassed, KeepsTop, MergedLaw, MergesTop}
use Rattle.copy_job.specs.Passing.{OrPassedOver}
use Rattle.copy_job.specs.Standing.{SubtreeCopying}
use Rattle.copy_job.specs.SubtreeSteps.{ListSteps, SubtreeSteps, step_result}
use Rattle.copy_job.specs.Unbegun.{IsOutside, IsUnbegun}
use Rattle.copy_job.proofs.AskedOnes.{list_asked, list_kept, skip_no_ask, skip_no_keep}
use Rattle.copy_job.proofs.Fewer.{some_name}
use Rattle.copy_job.proofs.Targets.{works_at_once}
use Rattle.copy_job.proofs.Tellings.{leaves_item}
use Rattle.copy_job.proofs.Unbegun.{closes, left_outside, skips_end}

-- A copy that is over leaves no folder, and takes up nothing.
abbrev IsStill : Seen → Did → Type 0
IsStill new did = IsOver new × (changes did ≡ false)

left_over : (n : ℕ) (old mid : Seen) → LeavesAll n old mid → IsOver old → IsOver mid
left_over zero old mid is o = subst IsOver (sym is) o
left_over (suc n) old mid (last, all, none, one) o =
    let k = left_over n old last all o in
    let r = one.returns in
    let left = r.left in
    absurd (let e = sym k.around ∙ left.was in let g : ⊥ = cc in g)

none_due : (old : Seen) (pair : Pair) → IsOver old → due old ≡ Thing pair → ⊥
none_due old pair o next =
    let some = some_name old.levels.inner.names.names old pair next in
    let none : length old.levels.inner.names.names ≡ 0 = ap (λ (xs : List (List ℕ)). length xs) o.names in
    omega (arith, some, none)

no_debt : (old : Seen) → IsOver old → has_debt (at_end old) ≡ true → ⊥
no_debt old o debt = false≢true (sym (ap (λ b. owed_at (closing old.levels.inner.copy.stage) b) o.clean ∙ o.owes) ∙ debt)

takes_over : (unclaimed : Route → Type 0) (replies : Replies) (old new : Seen) (did : Did) (before after : Option CallLog) → TakesNext unclaimed replies old new did before after → IsOver old → IsStill new did
takes_over unclaimed replies old new did before after (inl s) o = (subst IsOver (sym s.stands) o, ap changes s.says)
takes_over unclaimed replies old new did before after (inr (inl t)) o = absurd (none_due old t.pair o t.next)
takes_over unclaimed replies old new did before after (inr (inr (inl t))) o = absurd (none_due old t.pair o t.next)
takes_over unclaimed replies old new did before after (inr (inr (inr (inl t)))) o = absurd (none_due old t.pair o t.next)
takes_over unclaimed replies old new did before after (inr (inr (inr (inr (inl t))))) o = absurd (none_due old t.pair o t.next)
takes_over unclaimed replies old new did before after (inr (inr (inr (inr (inr (inl t)))))) o = absurd (none_due old t.pair o t.next)
takes_over unclaimed replies old new did before after (inr (inr (inr (inr (inr (inr (inl t))))))) o = absurd (none_due old t.pair o t.next)
takes_over unclaimed replies old new did before after (inr (inr (inr (inr (inr (inr (inr (next, inl (debt, e))))))))) o = absurd (no_debt old o debt)
takes_over unclaimed replies old new did before after (inr (inr (inr (inr (inr (inr (inr (next, inr (debt, f, same))))))))) o = (
  subst IsOver (sym f.stands) record { none = o.none; around = o.around; names = o.names; owes = closes old.levels.inner.copy.stage o.owes; clean = o.clean },
  ap changes f.says,
)

works_over : (unclaimed : Route → Type 0) (replies : Replies) (item : ItemAtWork) (old new : Seen) (did : Did) (before after : Option CallLog) → old.item ≡ item → WorksOn item unclaimed replies old new did before after → IsOver old → IsStill new did
works_over unclaimed replies Next old new did before after is (inl s) o = absurd (false≢true (sym (ap is_around_dirty o.around) ∙ s.dirty))
works_over unclaimed replies Next old new did before after is (inr t) o = takes_over unclaimed replies old new did before after t.1 o
works_over unclaimed replies (File f) old new did before after is w o = absurd (let e = sym o.none ∙ is in let g : ⊥ = cc in g)
works_over unclaimed replies (Link l) old new did before after is w o = absurd (let e = sym o.none ∙ is in let g : ⊥ = cc in g)
works_over unclaimed replies (Stays part) old new did before after is w o = absurd w

list_over : (free : Route → Bool) (replies : Replies) (old new : Seen) (worked : StepResult) (dirty dirty_after : List Route) (before after : Option CallLog) (f0 f1 : ℕ) → ListSteps free replies old new worked dirty dirty_after before after f0 f1
    → may_leave old ≡ false → IsOver old → IsStill new worked.did
list_over free replies old new worked dirty dirty_after before after f0 f1 (inl s) settled o = (subst IsOver (sym s.stays) o, ap (λ (r : StepResult). changes r.did) s.says)
list_over free replies old new worked dirty dirty_after before after f0 f1 (inr s) settled o =
    works_over (IsPartPlace free old) replies old.item old new worked.did before after refl (works_at_once free replies old new worked.did worked.calls before after f0 f1 s.steps settled) o

-- a folder's end that is skipped
end_over : (old new : Seen) (moved : FolderCopying) → new ≡ record old { levels = (let l = old.levels in record l { inner = (let i : Level = record { names = l.inner.names; copy = moved } in i) }) }
    → owes_at_end moved.stage false ≡ false → is_dirty moved.names ≡ false → IsOver old → IsOver new
end_over old new moved stands owes clean o = subst IsOver (sym stands) record { none = o.none; around = o.around; names = o.names; owes = owes; clean = clean }

skips_over : (cause : Cause) (old new : Seen) (did : Did) → machine.SkipsEnd cause old did new → IsOver old → IsStill new did
skips_over cause old new did (moved, inl s, stands) o = (
  end_over old new moved stands (ap (λ (c : FolderCopying). owes_at_end c.stage false) s.1 ∙ skips_end old.levels.inner.copy.stage o.owes) (ap (λ (c : FolderCopying). is_dirty c.names) s.1 ∙ o.clean) o,
  ap changes s.0,
)
skips_over cause old new did (moved, inr room, stands) o = (
  end_over old new moved stands (ap (λ (c : FolderCopying). owes_at_end c.stage false) room.1 ∙ o.owes) (ap (λ (c : FolderCopying). is_dirty c.names) room.1 ∙ o.clean) o,
  ap changes room.0,
)

skip_over : (cause : Cause) (old new : Seen) (did : Did) → machine.Skips cause old did new → IsOver old → IsStill new did
skip_over cause old new did s o =
    let next : machine.SkipsNext cause old did new = subst (λ (i : ItemAtWork). machine.SkipsAt i cause old did new) o.none s in
    skips_over cause old new did (subst (λ (names : List (List ℕ)). machine.SkipsNamed names cause old did new) o.names next) o

pub step_over : (free : Route → Bool) (replies : Replies) (old new : SubtreeCopying) (did : Did) (calls : ℕ) (dirty dirty_after : List Route) (before after : Option CallLog) (f0 f1 : ℕ)
    → SubtreeSteps free replies old new did calls dirty dirty_after before after f0 f1 → IsOver old.at → IsOver new.at × (changes did ≡ false)
step_over free replies old new did calls dirty dirty_after before after f0 f1 s o = by s.passes
  where
    moved : IsStill s.moved (let w = s.worked in w.did)
    moved = (let l = s.leaves in list_over free replies s.mid s.moved s.worked dirty dirty_after before after f0 f1 s.works s.settled (left_over l.0 old.at s.mid l.1 o))

    by : OrPassedOver replies.skips s.worked s.moved new.at (step_result did calls) → IsOver new.at × (changes did ≡ false)
    by (inl p) = (subst IsOver (sym p.2) moved.0, ap (λ (r : StepResult). changes r.did) p.1 ∙ moved.1)
    by (inr p) = skip_over p.0 s.moved new.at did p.3 moved.0

-- Nothing else reports that it merges.
folder_no_merge : (report : FolderDid) (pair : Pair) (names : List (List ℕ)) → IsToldAs report (Merges ByCopy pair names) → ⊥
folder_no_merge (folder_did.Made path) pair names told = let g : ⊥ = cc in g
folder_no_merge (folder_did.Set path) pair names told = let g : ⊥ = cc in g
folder_no_merge folder_did.Barrier pair names told = let g : ⊥ = cc in g
folder_no_merge folder_did.Closed pair names told = told
folder_no_merge (folder_did.Troubled trouble) pair names told = let g : ⊥ = cc in g

module _ (unclaimed : Route → Type 0) (replies : Replies) (old new : Seen) (pair : Pair) (names : List (List ℕ)) (before after : Option CallLog) where
  abbrev Merged : Type 0
  Merged = TakesMerged replies old new (Merges ByCopy pair names) before after

  takes_merged : TakesNext unclaimed replies old new (Merges ByCopy pair names) before after → Merged
  takes_merged (inl s) = absurd (let e = s.says in let g : ⊥ = cc in g)
  takes_merged (inr (inl t)) = (let w = t.works in absurd w.tells)
  takes_merged (inr (inr (inl t))) = (let w = t.works in absurd w.tells)
  takes_merged (inr (inr (inr (inl t)))) = (let w = t.works in absurd (folder_no_merge w.report pair names w.says))
  takes_merged (inr (inr (inr (inr (inl t))))) = t
  takes_merged (inr (inr (inr (inr (inr (inl t)))))) = absurd (let e = t.says in let g : ⊥ = cc in g)
  takes_merged (inr (inr (inr (inr (inr (inr (inl t))))))) = absurd (let e = t.says in let g : ⊥ = cc in g)
  takes_merged (inr (inr (inr (inr (inr (inr (inr (next, inl (debt, e))))))))) = absurd (folder_no_merge e.report pair names e.says)
  takes_merged (inr (inr (inr (inr (inr (inr (inr (next, inr (debt, f, same))))))))) = absurd (let e = f.says in let g : ⊥ = cc in g)

  works_merged : (item : ItemAtWork) → WorksOn item unclaimed replies old new (Merges ByCopy pair names) before after → Merged
  works_merged Next (inl s) = absurd (folder_no_merge s.report pair names s.says)
  works_merged Next (inr t) = takes_merged t.1
  works_merged (File f) w = absurd w.tells
  works_merged (Link l) w = absurd w.tells
  works_merged (Stays part) w = absurd w

pub list_merged : (free : Route → Bool) (replies : Replies) (old new : Seen) (worked : StepResult) (pair : Pair) (names : List (List ℕ)) (dirty dirty_after : List Route) (before after : Option CallLog) (f0 f1 : ℕ)
    → ListSteps free replies old new worked dirty dirty_after before after f0 f1 → may_leave old ≡ false → worked.did ≡ Merges ByCopy pair names → TakesMerged replies old new (Merges ByCopy pair names) before after
list_merged free replies old new worked pair names dirty dirty_after before after f0 f1 (inl s) settled is = absurd (let e = sym is ∙ ap (λ (r : StepResult). r.did) s.says in let g : ⊥ = cc in g)
list_merged free replies old new worked pair names dirty dirty_after before after f0 f1 (inr s) settled is =
    works_merged (IsPartPlace free old) replies old new pair names before after old.item
    (subst (λ (d : Did). WorksOn old.item (IsPartPlace free old) replies old new d before after) is (works_at_once free replies old new worked.did worked.calls before after f0 f1 s.steps settled))

-- nor is it told of what is passed over
named_no_merge : (names : List (List ℕ)) (cause : Cause) (old new : Seen) (pair : Pair) (met : List (List ℕ)) → machine.SkipsNamed names cause old (Merges ByCopy pair met) new → ⊥
named_no_merge [] cause old new pair met (moved, inl s, stands) = let e = s.0 in let g : ⊥ = cc in g
named_no_merge [] cause old new pair met (moved, inr s, stands) = let e = s.0 in let g : ⊥ = cc in g
named_no_merge (name ∷ names) cause old new pair met (inl s) = let e = s.0 in let g : ⊥ = cc in g
named_no_merge (name ∷ names) cause old new pair met (inr (inl (long, inl s))) = let e = s.0 in let g : ⊥ = cc in g
named_no_merge (name ∷ names) cause old new pair met (inr (inl (long, inr s))) = let e = s.0 in let g : ⊥ = cc in g
named_no_merge (name ∷ names) cause old new pair met (inr (inr s)) = let e = s.0 in let g : ⊥ = cc in g

pub skip_no_merge : (item : ItemAtWork) (cause : Cause) (old new : Seen) (pair : Pair) (names : List (List ℕ)) → machine.SkipsAt item cause old (Merges ByCopy pair names) new → ⊥
skip_no_merge Next cause old new pair names s = named_no_merge old.levels.inner.names.names cause old new pair names s
skip_no_merge (File f) cause old new pair names (moved, inl s, stands) = let e = s.0 in let g : ⊥ = cc in g
skip_no_merge (File f) cause old new pair names (moved, inr s, stands) = let e = s.0 in let g : ⊥ = cc in g
skip_no_merge (Link l) cause old new pair names (moved, inl s, stands) = let e = s.0 in let g : ⊥ = cc in g
skip_no_merge (Link l) cause old new pair names (moved, inr s, stands) = let e = s.0 in let g : ⊥ = cc in g
skip_no_merge (Stays part) cause old new pair names s = s

-- what is taken up in the folder of the source is what is copied
pair_parts : (pair top : Pair) → pair.source ≡ top.source → pair.target ≡ top.target → pair ≡ top
pair_parts pair top source target =
    ap (λ (s : Route). (let p : Pair = record { source = s; target = pair.target } in p)) source
    ∙ ap (λ (t : Route). (let p : Pair = record { source = top.source; target = t } in p)) target

pair_top : (top : Pair) (c : Seen) (pair : Pair) (names : List (List ℕ)) → c.levels.inner.names.names ≡ names → due_at names c ≡ Thing pair → c.levels.around ≡ [] → IsInPlace top c → pair ≡ top
pair_top top c pair [] is next around h = absurd (let g : ⊥ = cc in g)
pair_top top c pair (name ∷ names) is next around h =
    let same : pair_of c name ≡ pair = cc in
    let holds : HoldsTop top c.levels.inner = subst (λ (xs : List Level). AreMoved top c.levels.inner xs) around h.levels in
    let source : name ∷ c.levels.inner.copy.source ≡ top.source = ap (λ (f : Route). name ∷ f) holds.from ∙ holds.only name (subst (λ (ns : List (List ℕ)). Among ns name) (sym is) (inl refl)) in
    let target : (if is_empty c.levels.around then c.name else name) ∷ c.levels.inner.copy.target ≡ top.target =
    ap (λ (xs : List Level). (if is_empty xs then c.name else name) ∷ c.levels.inner.copy.target) around ∙ (ap (λ (f : Route). c.name ∷ f) holds.to ∙ h.name) in
    sym same ∙ pair_parts (pair_of c name) top source target

none_more : (names : List (List ℕ)) → length names ≤ 1 → drop 1 names ≡ []
none_more [] one = refl
none_more (name ∷ []) one = refl
none_more (name ∷ next ∷ names) one = absurd (omega (arith, one))

merges_top : (free : Route → Bool) (replies : Replies) (old new : SubtreeCopying) (pair : Pair) (names : List (List ℕ)) (calls : ℕ) (dirty dirty_after : List Route) (before after : Option CallLog) (f0 f1 : ℕ)
    → SubtreeSteps free replies old new (Merges ByCopy pair names) calls dirty dirty_after before after f0 f1 → IsInPlace old.top old.at → IsUnbegun old.at → MergesTop old pair names new
merges_top free replies old new pair names calls dirty dirty_after before after f0 f1 s place unbegun = by s.passes
  where
    merged : (let w = s.worked in w.did) ≡ Merges ByCopy pair names → new.at ≡ s.moved → MergesTop old pair names new
    merged is stays =
        let l = s.leaves in
        let t = list_merged free replies s.mid s.moved s.worked pair names dirty dirty_after before after f0 f1 s.works s.settled is in
        let told : (t.pair ≡ pair) × (t.names ≡ names) = (let e = sym t.says in (cc, cc)) in
        let fresh : is_fresh (let m = s.mid in m.stage) ≡ true = ap is_fresh t.fresh in
        let o : IsOutside s.mid = left_outside l.0 old.at s.mid l.1 unbegun fresh in
        let there = leaves_all old.top l.0 old.at s.mid l.1 place in
        record {
          fresh = sym (ap is_fresh (leaves_item l.0 old.at s.mid l.1).1) ∙ fresh;
          top = sym told.0 ∙ pair_top old.top s.mid t.pair (let m = s.mid in m.levels.inner.names.names) refl t.next o.around there;
          short = subst (λ (p : Pair). AreShort p names) told.0 (subst (λ (ns : List (List ℕ)). AreShort t.pair ns) told.1 t.short);
          few = (let f = t.few in let e = ap (λ (ns : List (List ℕ)). length ns) told.1 in omega (arith, f, e));
          begins = λ over. none_due s.mid t.pair (left_over l.0 old.at s.mid l.1 over) t.next;
          over = subst IsOver (sym (stays ∙ t.stands)) record { none = o.none; around = o.around; names = none_more (let m = s.mid in m.levels.inner.names.names) o.one; owes = o.owes; clean = o.clean };
        }

    by : OrPassedOver replies.skips s.worked s.moved new.at (step_result (Merges ByCopy pair names) calls) → MergesTop old pair names new
    by (inl p) = merged (ap (λ (r : StepResult). r.did) (sym p.1)) p.2
    by (inr p) = (let m : Seen = s.moved in absurd (skip_no_merge m.item p.0 m new.at pair names p.3))

-- What is kept is met once, in the folder that holds it, and no folder was left before.
no_levels : (around : List Level) → is_empty around ≡ true → around ≡ []
no_levels [] is = refl
no_levels (outer ∷ around) is = absurd (false≢true is)

not_passed : (old : Seen) (pair : Pair) → old.levels.inner.names.names ≡ [] → due old ≡ Thing pair → ⊥
not_passed old pair none next =
    let some = some_name old.levels.inner.names.names old pair next in
    let e : length old.levels.inner.names.names ≡ 0 = ap (λ (xs : List (List ℕ)). length xs) none in
    omega (arith, some, e)

left_same : (n : ℕ) (old mid : Seen) → LeavesAll n old mid → old.levels.around ≡ [] → mid ≡ old
left_same zero old mid is around = is
left_same (suc n) old mid (last, all, none, one) around =
    let r = one.returns in
    let left = r.left in
    let here : last.levels.around ≡ [] = ap (λ (c : Seen). c.levels.around) (left_same n old last all around) ∙ around in
    absurd (let e = sym here ∙ left.was in let g : ⊥ = cc in g)

left_alone : (top : Pair) (n : ℕ) (old mid : Seen) (pair : Pair) → LeavesAll n old mid → IsInPlace top old → due mid ≡ Thing pair → mid.levels.around ≡ [] → old.levels.around ≡ []
left_alone top zero old mid pair is place next around = sym (ap (λ (c : Seen). c.levels.around) is) ∙ around
left_alone top (suc n) old mid pair (last, all, none, one) place next around =
    let r = one.returns in
    let left = r.left in
    let there = leaves_all top n old last all place in
    let was : last.levels.around ≡ mid.levels.inner ∷ [] = left.was ∙ ap (λ (xs : List Level). mid.levels.inner ∷ xs) around in
    absurd (not_passed mid pair (subst NoneBeside was there.alone) next)

keeps_top : (free : Route → Bool) (replies : Replies) (old new : SubtreeCopying) (path : Route) (calls : ℕ) (dirty dirty_after : List Route) (before after : Option CallLog) (f0 f1 : ℕ)
    → SubtreeSteps free replies old new (Kept path) calls dirty dirty_after before after f0 f1 → IsInPlace old.top old.at → IsUnbegun old.at → KeepsTop old path new
keeps_top free replies old new path calls dirty dirty_after before after f0 f1 s place unbegun = by s.passes
  where
    kept : (let w = s.worked in w.did) ≡ Kept path → new.at ≡ s.moved → KeepsTop old path new
    kept is stays =
        let l = s.leaves in
        let mid : Seen = s.mid in
        let found = list_kept free replies mid s.moved s.worked path dirty dirty_after before after f0 f1 s.works s.settled is in
        let t = found.1 in
        let there = leaves_all old.top l.0 old.at mid l.1 place in
        let around : mid.levels.around ≡ [] = no_levels mid.levels.around t.top in
        let none : old.at.item ≡ Next = sym (leaves_item l.0 old.at mid l.1).0 ∙ found.0 in
        let holds : HoldsTop old.top mid.levels.inner = subst (λ (xs : List Level). AreMoved old.top mid.levels.inner xs) around there.levels in
        let names : drop 1 mid.levels.inner.names.names ≡ [] = none_more mid.levels.inner.names.names holds.one in
        record {
          target = (let e : path ≡ t.pair.target = (let says = t.says in cc) in e ∙ ap (λ (p : Pair). p.target) (pair_top old.top mid t.pair mid.levels.inner.names.names refl t.next around there));
          none = none;
          around = left_alone old.top l.0 old.at mid t.pair l.1 place t.next around;
          begins = λ passed. not_passed mid t.pair (ap (λ (c : Seen). c.levels.inner.names.names) (left_same l.0 old.at mid l.1 passed.around) ∙ passed.names) t.next;
          passed = subst IsPassed (sym (stays ∙ t.stands)) record { none = found.0; around = around; names = names };
          over = λ fresh.
              let o : IsOutside mid = left_outside l.0 old.at mid l.1 unbegun (ap is_fresh (leaves_item l.0 old.at mid l.1).1 ∙ fresh) in
              subst IsOver (sym (stays ∙ t.stands)) record { none = o.none; around = o.around; names = names; owes = o.owes; clean = o.clean };
        }

    by : OrPassedOver replies.skips s.worked s.moved new.at (step_result (Kept path) calls) → KeepsTop old path new
    by (inl p) = kept (ap (λ (r : StepResult). r.did) (sym p.1)) p.2
    by (inr p) = (let m : Seen = s.moved in absurd (skip_no_keep m.item p.0 m new.at path p.3))

asks_top : (free : Route → Bool) (replies : Replies) (old new : SubtreeCopying) (question : Question) (calls : ℕ) (dirty dirty_after : List Route) (before after : Option CallLog) (f0 f1 : ℕ)
    → SubtreeSteps free replies old new (Asked question) calls dirty dirty_after before after f0 f1 → IsInPlace old.top old.at → AsksTop old new
asks_top free replies old new question calls dirty dirty_after before after f0 f1 s place = by s.passes
  where
    asked : (let w = s.worked in w.did) ≡ Asked question → new.at ≡ s.moved → AsksTop old new
    asked is stays =
        let l = s.leaves in
        let mid : Seen = s.mid in
        let found = list_asked free replies mid s.moved s.worked question dirty dirty_after before after f0 f1 s.works s.settled is in
        let t = found.1 in
        let around = left_alone old.top l.0 old.at mid t.pair l.1 place t.next (no_levels mid.levels.around t.top) in
        let same : mid ≡ old.at = left_same l.0 old.at mid l.1 around in
        record {
          none = sym (leaves_item l.0 old.at mid l.1).0 ∙ found.0;
          around = around;
          begins = λ passed. not_passed mid t.pair (ap (λ (c : Seen). c.levels.inner.names.names) same ∙ passed.names) t.next;
          same = s.stands ∙ ap (λ (c : Seen). (let n : SubtreeCopying = record old { at = c } in n)) (stays ∙ (t.stands ∙ same));
        }

    by : OrPassedOver replies.skips s.worked s.moved new.at (step_result (Asked question) calls) → AsksTop old new
    by (inl p) = asked (ap (λ (r : StepResult). r.did) (sym p.1)) p.2
    by (inr p) = (let m : Seen = s.moved in absurd (skip_no_ask m.item p.0 m new.at question p.3))

retry_over : (c : Seen) → IsOver c → IsOver (machine.retried_copy c)
retry_over c o = subst (λ (i : ItemAtWork). IsOver (machine.retried_at i c)) (sym o.none) o

pub merged_law : MergedLaw
merged_law = record {
  merges = λ free replies old new pair names calls dirty dirty_after before after f0 f1 s place unbegun. merges_top free replies old new pair names calls dirty dirty_after before after f0 f1 s place unbegun;
  keeps = λ free replies old new path calls dirty dirty_after before after f0 f1 s place unbegun. keeps_top free replies old new path calls dirty dirty_after before after f0 f1 s place unbegun;
  asks = λ free replies old new question calls dirty dirty_after before after f0 f1 s place. asks_top free replies old new question calls dirty dirty_after before after f0 f1 s place;
  step = λ free replies old new did calls dirty dirty_after before after f0 f1 s o. step_over free replies old new did calls dirty dirty_after before after f0 f1 s o;
  skip = λ cause old new did s o. (skip_over cause old.at new.at did s.skips o).0;
  retry = λ c o. retry_over c.at o;
}
