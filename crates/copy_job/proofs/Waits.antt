-- A copy that came into a trouble, and one of which something is skipped.
use Rattle.std.proofs.Common.{◌≡◌, ℕ, ◌+◌, ◌^◌, ◌≤◌, refl, sym, ◌∙◌, ap, subst, inl, inr, Bool, true, false, List, [], ◌∷◌, arith, Option, Some, None}
use Rattle.std.proofs.lemmas.Bool.{true≢false}
use Rattle.std.specs.Prelude.{◌⊎◌, ◌||◌}
use Rattle.mc_text.specs.Routes.{Route}
use Rattle.tree_trait.specs.Change.{CallLog}
use Rattle.job_answers.specs.declared.replies.Replies.{Replies}
use Rattle.job_reports.specs.declared.question.Question.{Question}
use Rattle.job_reports.specs.declared.report.Cause.{Cause}
use Rattle.job_reports.specs.declared.report.Did.{Did}
use Rattle.job_reports.specs.declared.report.Did.TheVariants.{Asked, Skipped, Troubled}
use Rattle.job_reports.specs.declared.report.StepResult.{StepResult}
use Rattle.job_reports.specs.declared.report.Trouble.{Trouble}
use Rattle.job_reports.specs.Stops.{out_of_memory_at}
use Rattle.copy_file.specs.Copying.{Copying}
use Rattle.copy_folders.specs.FolderCopying as folder
use Rattle.copy_folders.specs.FolderCopying.{FolderCopying}
use Rattle.copy_folders.specs.declared.stage.Stage.{Stage}
use Rattle.copy_folders.specs.declared.stage.Stage.TheVariants.{Make, Fill, Close, Done}
use Rattle.copy_link.specs.LinkCopying.{LinkCopying}
use Rattle.copy_folders.specs.Levels.{is_around_dirty, with_copy}
use Rattle.copy_tree.specs.declared.item.ItemAtWork.{ItemAtWork}
use Rattle.copy_tree.specs.declared.item.ItemAtWork.TheVariants.{Next, File, Link, Stays}
use Rattle.copy_tree.specs.declared.progress.Progress.{Progress}
use Rattle.copy_tree.specs.declared.progress.Progress.TheVariants.{UnderWay}
use Rattle.copy_tree.specs.Falling.{IsSteady}
use Rattle.copy_tree.specs.Progress.{link_progress, progress}
use Rattle.copy_tree.specs.Skipping as machine
use Rattle.copy_tree.specs.Standing.{Seen}
use Rattle.copy_tree.specs.TreeCopySteps.{IsWorkable, idle, copy_after_progress}
use Rattle.copy_job.specs.Passing.{OrPassedOver}
use Rattle.copy_job.specs.Ranks.{last_rank, rank}
use Rattle.copy_job.specs.Standing.{IsGoing, SubtreeCopying, barrier_at, barrier_at_end, barrier_at_name}
use Rattle.copy_job.specs.SubtreeSteps.{SubtreeSteps, step_result}
use Rattle.copy_job.specs.Troubles.{TroubleLaw}
use Rattle.copy_job.proofs.Answered.{waiting_law}
use Rattle.copy_job.proofs.AskedOnes.{list_asked, skip_no_ask}
use Rattle.copy_job.proofs.Barred.{left_workable, list_barred, passed_trouble}
use Rattle.copy_job.proofs.Fewer.{same_things}
use Rattle.copy_job.proofs.Ranked.{left_lower, list_troubled}

-- What a skip comes to: it tells a path, or there is no memory to tell it, and all stays.
abbrev pub SkipsOrStops : Bool → Cause → Seen → Did → Seen → Type 0
SkipsOrStops barrier cause old did new = ((path : Route) × (did ≡ Skipped path cause)) ⊎ ((did ≡ Troubled (out_of_memory_at barrier)) × (new ≡ old))

rest_comes : (cause : Cause) (old new : Seen) (did : Did) → machine.SkipsRest cause old did new → SkipsOrStops false cause old did new
rest_comes cause old new did (inl s) = inl (_, s.0)
rest_comes cause old new did (inr room) = inr room

named_comes : (names : List (List ℕ)) (cause : Cause) (old new : Seen) (did : Did) → machine.SkipsNamed names cause old did new → barrier_at_name names old.levels.inner.copy.stage ≡ false → SkipsOrStops false cause old did new
named_comes [] cause old new did (moved, inl s, stands) apart = inl (_, s.0)
named_comes [] cause old new did (moved, inr room, stands) apart = inr (
  room.0 ∙ ap (λ b. Troubled (out_of_memory_at b)) (at_end old.levels.inner.copy.stage apart),
  stands ∙ ap (λ (m : FolderCopying). (let s : Seen = record old { levels = with_copy m old.levels } in s)) room.1,
)
  where
    at_end : (stage : Stage) → barrier_at_end stage ≡ false → folder.at_barrier stage ≡ false
    at_end (Close (Some mode)) apart = refl
    at_end (Close None) apart = absurd (true≢false apart)
    at_end (Fill owed) apart = refl
    at_end (Make mode) apart = refl
    at_end Done apart = refl
named_comes (name ∷ names) cause old new did (inl s) apart = inl (_, s.0)
named_comes (name ∷ names) cause old new did (inr (inl s)) apart = rest_comes cause old new did s.1
named_comes (name ∷ names) cause old new did (inr (inr room)) apart = inr room

second_false : (a b : Bool) → (a || b) ≡ false → b ≡ false
second_false true b is = absurd (true≢false is)
second_false false b is = is

-- a file or a link that is at work stays at work
file_stays : (f moved : Copying) (old new : Seen) → old.item ≡ File f → progress f.stage ≡ UnderWay → moved ≡ f → new ≡ copy_after_progress (progress moved.stage) (File moved) (idle old) → new ≡ old
file_stays f moved old new is under same stands =
    stands
    ∙ (ap (λ (m : Copying). copy_after_progress (progress m.stage) (File m) (idle old)) same
    ∙ (ap (λ (p : Progress). copy_after_progress p (File f) (idle old)) under ∙ ap (λ (i : ItemAtWork). (let s : Seen = record old { item = i } in s)) (sym is)))

link_stays : (l moved : LinkCopying) (old new : Seen) → old.item ≡ Link l → link_progress l.stage ≡ UnderWay → moved ≡ l → new ≡ copy_after_progress (link_progress moved.stage) (Link moved) (idle old) → new ≡ old
link_stays l moved old new is under same stands =
    stands
    ∙ (ap (λ (m : LinkCopying). copy_after_progress (link_progress m.stage) (Link m) (idle old)) same
    ∙ (ap (λ (p : Progress). copy_after_progress p (Link l) (idle old)) under ∙ ap (λ (i : ItemAtWork). (let s : Seen = record old { item = i } in s)) (sym is)))

pub skip_comes : (item : ItemAtWork) (cause : Cause) (old new : Seen) (did : Did) → old.item ≡ item → machine.SkipsAt item cause old did new → IsWorkable item → barrier_at item old.levels ≡ false → SkipsOrStops false cause old did new
skip_comes Next cause old new did is s can apart =
    named_comes old.levels.inner.names.names cause old new did s (second_false (is_around_dirty old.levels.around) (barrier_at_name old.levels.inner.names.names old.levels.inner.copy.stage) apart)
skip_comes (File f) cause old new did is (moved, inl s, stands) can apart = inl (_, s.0)
skip_comes (File f) cause old new did is (moved, inr room, stands) can apart =
    inr (room.0 ∙ ap (λ b. Troubled (out_of_memory_at b)) apart, file_stays f moved old new is can.0 room.1 stands)
skip_comes (Link l) cause old new did is (moved, inl s, stands) can apart = inl (_, s.0)
skip_comes (Link l) cause old new did is (moved, inr room, stands) can apart =
    inr (room.0 ∙ ap (λ b. Troubled (out_of_memory_at b)) apart, link_stays l moved old new is can.0 room.1 stands)
skip_comes (Stays part) cause old new did is s can apart = absurd can

-- A skip within a step that still ends in a trouble changed nothing.
still : (barrier : Bool) (cause : Cause) (old new : Seen) (t : Trouble) → SkipsOrStops barrier cause old (Troubled t) new → new ≡ old
still barrier cause old new t (inl (path, says)) = (let f : ⊥ = cc in absurd f)
still barrier cause old new t (inr room) = room.1

module _ (free : Route → Bool) (replies : Replies) (old new : SubtreeCopying) (t : Trouble) (calls : ℕ) (dirty dirty_after : List Route) (before after : Option CallLog) (f0 f1 : ℕ)
    (s : SubtreeSteps free replies old new (Troubled t) calls dirty dirty_after before after f0 f1) (steady : IsSteady old.at) where
  one_more : (u : Trouble) → s.worked.did ≡ Troubled u → new.at ≡ s.moved → IsSteady s.mid → rank s.mid ≤ rank old.at → rank new.at ≤ rank old.at + 1
  one_more u says same there lower =
      let more = list_troubled (2 ^ 64) (same_things (2 ^ 64)) free replies s.mid s.moved s.worked dirty dirty_after before after f0 f1 s.works s.settled there u says in
      let one = more.0 in
      let now : rank new.at ≡ rank s.moved = ap rank same in
      omega (arith, one, now, lower)

  going_on : new.at ≡ s.moved → IsGoing new
  going_on same = subst (λ (c : Seen). IsWorkable c.item) (sym same) s.going

  fewer : (u : Trouble) → s.worked.did ≡ Troubled u → new.at ≡ s.moved → last_rank new.at ≤ rank old.at
  fewer u says same =
      let l = s.leaves in
      let there = left_lower (2 ^ 64) l.0 old.at s.mid l.1 steady in
      let more = one_more u says same there.1 there.0 in
      let waits = waiting_law new (going_on same) in
      omega (arith, more, waits)

  step_waits : IsGoing old → last_rank new.at ≤ rank old.at
  step_waits can = by s.passes
    where
      by : OrPassedOver replies.skips s.worked s.moved new.at (step_result (Troubled t) calls) → last_rank new.at ≤ rank old.at
      by (inl p) = fewer t (sym (ap (λ (r : StepResult). r.did) p.1)) p.2
      by (inr p) =
          let l = s.leaves in
          let there = left_lower (2 ^ 64) l.0 old.at s.mid l.1 steady in
          let u = passed_trouble replies.skips s.worked.did p.0 p.1 in
          let barred = list_barred free replies s.mid s.moved s.worked dirty dirty_after before after f0 f1 u.0 s.works u.1 s.settled there.1 (left_workable l.0 old.at s.mid l.1 can) in
          fewer u.0 u.1 (still false p.0 s.moved new.at t (skip_comes s.moved.item p.0 s.moved new.at (Troubled t) refl p.3 s.going (sym barred ∙ u.2)))

-- one that asks
step_asks : (free : Route → Bool) (replies : Replies) (old new : SubtreeCopying) (question : Question) (calls : ℕ) (dirty dirty_after : List Route) (before after : Option CallLog) (f0 f1 : ℕ)
    → SubtreeSteps free replies old new (Asked question) calls dirty dirty_after before after f0 f1 → IsSteady old.at → (new.at.item ≡ Next) × (last_rank new.at ≤ rank old.at)
step_asks free replies old new question calls dirty dirty_after before after f0 f1 s steady = by s.passes
  where
    by : OrPassedOver replies.skips s.worked s.moved new.at (step_result (Asked question) calls) → (new.at.item ≡ Next) × (last_rank new.at ≤ rank old.at)
    by (inl p) =
        let l = s.leaves in
        let there = left_lower (2 ^ 64) l.0 old.at s.mid l.1 steady in
        let lower = there.0 in
        let t = list_asked free replies s.mid s.moved s.worked question dirty dirty_after before after f0 f1 s.works s.settled (ap (λ (r : StepResult). r.did) (sym p.1)) in
        let asks = t.1 in
        let same : new.at ≡ s.mid = p.2 ∙ asks.stands in
        let item : new.at.item ≡ Next = ap (λ (c : Seen). c.item) same ∙ t.0 in
        let now : rank new.at ≡ rank s.mid = ap rank same in
        let waits = waiting_law new (subst IsWorkable (sym item) tt) in
        (item, omega (arith, lower, now, waits))
    by (inr p) = (let m : Seen = s.moved in absurd (skip_no_ask m.item p.0 m new.at question p.3))

pub trouble_law : TroubleLaw
trouble_law = record {
  step = λ free replies old new t calls dirty dirty_after before after f0 f1 s steady can. step_waits free replies old new t calls dirty dirty_after before after f0 f1 s steady can;
  ask = λ free replies old new question calls dirty dirty_after before after f0 f1 s steady. step_asks free replies old new question calls dirty dirty_after before after f0 f1 s steady;
  skip = λ cause old new did s can apart. by cause old new did s.stands (skip_comes old.at.item cause old.at new.at did refl s.skips can apart);
}
  where
    by : (cause : Cause) (old new : SubtreeCopying) (did : Did) → new ≡ record old { at = new.at } → SkipsOrStops false cause old.at did new.at → ((path : Route) × (did ≡ Skipped path cause)) ⊎ ((did ≡ Troubled (out_of_memory_at false)) × (new ≡ old))
    by cause old new did stands (inl s) = inl s
    by cause old new did stands (inr room) = inr (room.0, stands ∙ ap (λ (c : Seen). (let x : SubtreeCopying = record old { at = c } in x)) room.1)
