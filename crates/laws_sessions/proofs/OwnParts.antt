-- The parts that a job named, of the source at which it is, have names of the copy's own, and are parts still, or their paths are touched by the source.
use Rattle.std.proofs.Common.{◌≡◌, ◌⊎◌, ℕ, Bool, true, false, List, [], ◌∷◌, refl, sym, ◌∙◌, ap, subst, inl, inr, Option, Some, None}
use Rattle.std.specs.Prelude.{◌==◌, ◌&&◌, if◌then◌else◌, map}
use Rattle.std.specs.Option.{option_map_or}
use Rattle.std.proofs.lemmas.Bool.{and_parts, both_ways, eq-eqb, false≢true}
use Rattle.mc_text.specs.Routes.{Route}
use Rattle.tree_trait.specs.Shape.{IsTree}
use Rattle.tree_trait.specs.Change.{CallLog, current}
use Rattle.tree_trait.specs.CrashImages.{all_settled, Among}
use Rattle.tree_trait.proofs.Visible.{same_path-true}
use Rattle.job_reports.specs.declared.report.Did.{Did}
use Rattle.job_reports.specs.declared.report.Did.TheVariants.{Began, Chunk, Placed, Removed, Made, Set, Kept, Skipped, Cleaned, Barrier, Asked, Merges, Moved, Troubled, Ended}
use Rattle.job_reports.specs.Reports.{ends}
use Rattle.copy_tree.specs.declared.item.ItemAtWork.TheVariants.{Next, File, Link, Stays}
use Rattle.copy_move.specs.declared.work.Work.{Work}
use Rattle.copy_move.specs.Jobs.{Running, answered_job, begun_work, closed_job}
use Rattle.copy_move.specs.JobStepReports.{SyncsOwed}
use Rattle.copy_move.specs.Told.{running}
use Rattle.session_entries.specs.declared.history.Event.{Event}
use Rattle.session_entries.specs.declared.history.Event.TheVariants.{Key, Look, Sought, Order, Step, Next, Closed}
use Rattle.session_entries.specs.declared.history.Event.TheVariants as event
use Rattle.session_entries.specs.declared.history.Entry.{Entry}
use Rattle.session_entries.specs.declared.history.JobOrder.{JobOrder}
use Rattle.session_entries.specs.declared.history.JobOrder.TheVariants.{Answered}
use Rattle.session_entries.specs.Entries.{is_closed}
use Rattle.session_entries.specs.Named.{is_part_of_other, left_parts, live_parts, named_after, named_by, named_parts}
use Rattle.session_entries.specs.Sources.{sources_of}
use Rattle.laws_sessions.specs.OwnPaths.{begins_part, has_named_part, named_part_after}
use Rattle.laws_sessions.specs.Touched.{touches}
use Rattle.laws_sessions.specs.Traces.{EventLeads, IsTraced, Stand, SyncLeads, WorkLeads, before_others, if_closed, ordered_job, with_job}
use Rattle.laws_sessions.proofs.Going.{only_job}
use Rattle.laws_sessions.proofs.HeldParts.{answered_holds, answered_over, began_own, closed_over, holder_touches, over_before, part_stays, stays_held}
use Rattle.laws_sessions.proofs.Histories.{IsReached, traced_reached}
use Rattle.laws_sessions.proofs.JobKnows.{WorkKnows}
use Rattle.laws_sessions.proofs.OwnNames.{HoldsPart}
use Rattle.laws_sessions.proofs.Prefixes.{told_of}
use Rattle.laws_sessions.proofs.Reports.{JobsKnow, with_one}
use Rattle.laws_sessions.proofs.Sources.{IsSame, answer_same, item_in, tells_same}
use Rattle.laws_sessions.proofs.Tidy.{changed_by}
use Rattle.laws_sessions.proofs.TreeKnown.{is_over}
use Rattle.laws_sessions.proofs.Turns.{one_turned, turned_id, turned_to}

-- what is reported names a part only where one is begun
begun_as : (did : Did) (path : Route) → begins_part did path ≡ true → did ≡ Began path
begun_as (Began part) path h = ap Began (sym (same_path-true path part h))
begun_as did path h = absurd (false≢true h)

-- its name is one of the copy's own, and it is a part still, or its path is one that the source touches
abbrev pub IsOwnPart : List Entry → Running → Route → Type 0
IsOwnPart g job path = HoldsPart job.work path × ((touches (item_in job.work) path ≡ true) ⊎ Among (named_parts g) path)

-- the parts of the live job, until its last steps
abbrev pub AreOwn : List Entry → List Running → Type 0
AreOwn g [] = Unit {0}
AreOwn g (job ∷ jobs) = is_over job.course ≡ false → (path : Route) → has_named_part job.id path g ≡ true → IsOwnPart g job path

own_of : (g : List Entry) (job new : Running) (path : Route) → item_in job.work ≡ item_in new.work → (HoldsPart job.work path → HoldsPart new.work path) → IsOwnPart g job path → IsOwnPart g new path
own_of g job new path same holds own = (holds own.0, elim own.1 [ inl touched ↦ inl (subst (λ i. touches i path ≡ true) same touched) | inr among ↦ inr among ])

own_after : (g : List Entry) (new : Running) (b : Bool) → (b ≡ false → AreOwn g (new ∷ [])) → AreOwn g (before_others (if◌then◌else◌ b None (Some new)) [])
own_after g new true t = tt
own_after g new false t = t refl

own_ordered : (g : List Entry) (id : ℕ) (order : JobOrder) (jobs : List Running) → AreOwn g jobs → AreOwn g (map (ordered_job id order) jobs)
own_ordered g id order [] own = tt
own_ordered g id (Answered answer) (job ∷ jobs) own = by (job.id == id)
  where
    same : IsSame job (answered_job answer job)
    same = answer_same answer job

    by : (b : Bool) → AreOwn g ((if◌then◌else◌ b (answered_job answer job) job) ∷ [])
    by true = λ over path named.
        own_of g job (answered_job answer job) path (sym same.1) (answered_holds job.course answer job path)
        (own (answered_over job.course answer job refl over) path (ap (λ n. has_named_part n path g) (sym same.0) ∙ named))
    by false = own

own_closing : (g : List Entry) (b : Bool) (stand : Stand) → AreOwn g stand.jobs → AreOwn g (let s : Stand = if_closed b stand in s.jobs)
own_closing g false stand own = own
own_closing g true stand own = by stand.jobs own
  where
    by : (jobs : List Running) → AreOwn g jobs → AreOwn g (map closed_job jobs)
    by [] own = tt
    by (job ∷ jobs) own = λ over. own (closed_over job.course over)

-- an event that begins no part, and no job
own_same : (e : Entry) (older : List Entry) (jobs : List Running) → ((id : ℕ) (path : Route) → has_named_part id path (e ∷ older) ≡ has_named_part id path older) → named_parts (e ∷ older) ≡ named_parts older → AreOwn older jobs → AreOwn (e ∷ older) jobs
own_same e older [] same still own = tt
own_same e older (job ∷ jobs) same still own = λ over path named.
    let was = own over path (sym (same job.id path) ∙ named) in
    (was.0, elim was.1 [ inl touched ↦ inl touched | inr among ↦ inr (subst (λ xs. Among xs path) (sym still) among) ])

own_begun : (g : List Entry) (id : ℕ) (o : Option Work) → ((path : Route) → has_named_part id path g ≡ false) → AreOwn g (option_map_or (λ w. running id w ∷ []) o [])
own_begun g id None none = tt
own_begun g id (Some w) none = λ over path named. absurd (both_ways _ (none path) named)

module _ (opening : CallLog) (tree : IsTree (current opening)) (settled : all_settled opening.changes ≡ true) where
  own_step : (e : Entry) (older : List Entry) (id : ℕ) (did : Did) (was : Stand) (job new : Running) (dirty_after : List Route) (before now : CallLog) (r : IsReached opening older was before)
      → WorkKnows (told_of opening before older (let x : IsReached opening older was before = r in x.part)) was.dirty (let x : IsReached opening older was before = r in x.marks) before job.course job.work
      → e.what ≡ Step id did → AreOwn older (job ∷ []) → WorkLeads job did new was.dirty dirty_after before now ⊎ SyncLeads job did new was.dirty dirty_after before now → AreOwn (e ∷ older) (new ∷ [])
  own_step e older id did was job new dirty_after before now r knows what_is own (inl works) =
      λ over path named.
      let same = tells_same job new did works.tells in
      elim (changed_by (has_named_part new.id path older) ((id == new.id) && begins_part did path) (sym (ap (λ w. named_part_after new.id path w (has_named_part new.id path older)) what_is) ∙ named)) [
        | inl old ↦
            let w = works.walks in
            own_of (e ∷ older) job new path (sym same.1) (λ held. stays_held (told_of opening before older r.part) was.dirty dirty_after r.marks before now job new did path job.course refl knows works.tells w.0 w.1 w.2 w.3 over held)
            (was_own path (own (over_before job new did job.course refl works.tells over) path (ap (λ n. has_named_part n path older) (sym same.0) ∙ old)))
        | inr now_named ↦
            let begun = begun_as did path (and_parts (id == new.id) (begins_part did path) now_named).1 in (
              began_own (told_of opening before older r.part) was.dirty dirty_after r.marks before now r.kept job new path knows (subst (λ d. WorkLeads job d new was.dirty dirty_after before now) begun works),
              inr (subst (λ xs. Among xs path) (sym named_is) (subst (λ d. Among (named_by d (is_part_of_other id (live_parts older)) (left_parts older) (named_parts older)) path) (sym begun) (inl refl))),
            )
      ]
    where
      named_is : named_parts (e ∷ older) ≡ named_by did (is_part_of_other id (live_parts older)) (left_parts older) (named_parts older)
      named_is = ap (λ w. named_after w (live_parts older) (left_parts older) (named_parts older)) what_is

      was_own : (path : Route) → IsOwnPart older job path → IsOwnPart (e ∷ older) job path
      was_own path (holds, inl touched) = (holds, inl touched)
      was_own path (holds, inr among) = (
        holds,
        elim (part_stays (is_part_of_other id (live_parts older)) (left_parts older) (named_parts older) path among did) [
          | inl changed ↦
              let w = works.walks in
              inl (holder_touches (told_of opening before older r.part) was.dirty dirty_after r.marks before now job new did path path changed job.course refl knows holds works.tells w.0 w.1 w.2 w.3)
          | inr still ↦ inr (subst (λ xs. Among xs path) (sym named_is) still)
        ],
      )
  own_step e older id did was job new dirty_after before now r knows what_is own (inr syncs) = by syncs.synced
    where
      kept : (d : Did) → did ≡ d → (path : Route) → begins_part d path ≡ false → named_by d (is_part_of_other id (live_parts older)) (left_parts older) (named_parts older) ≡ named_parts older → has_named_part job.id path (e ∷ older) ≡ true → IsOwnPart (e ∷ older) job path
      kept d did_is path none same named =
          let still : named_parts (e ∷ older) ≡ named_parts older =
          ap (λ w. named_after w (live_parts older) (left_parts older) (named_parts older)) what_is
          ∙ (ap (λ x. named_by x (is_part_of_other id (live_parts older)) (left_parts older) (named_parts older)) did_is ∙ same) in
          elim (changed_by (has_named_part job.id path older) ((id == job.id) && begins_part did path) (sym (ap (λ w. named_part_after job.id path w (has_named_part job.id path older)) what_is) ∙ named)) [
            | inl old ↦ (let was_own = own (ap is_over syncs.goes) path old in (was_own.0, elim was_own.1 [ inl touched ↦ inl touched | inr among ↦ inr (subst (λ xs. Among xs path) (sym still) among) ]))
            | inr h ↦ absurd (both_ways _ (ap (λ x. begins_part x path) did_is ∙ none) (and_parts (id == job.id) (begins_part did path) h).1)
          ]

      by : SyncsOwed job syncs.path did new was.dirty dirty_after (Some before) (Some now) → AreOwn (e ∷ older) (new ∷ [])
      by (inl s) = subst (λ (x : Running). AreOwn (e ∷ older) (x ∷ [])) (sym s.new_is) (λ over path named. kept Barrier s.did_is path refl refl named)
      by (inr s) = subst (λ (x : Running). AreOwn (e ∷ older) (x ∷ [])) (sym s.new_is) (λ over path named. kept (Troubled s.trouble) s.did_is path refl refl named)

  pub parts_own : (newest : List Entry) (stand : Stand) (now : CallLog) → IsTraced opening newest stand now → AreOwn newest stand.jobs
  parts_own [] stand now (stand_is, now_is) = subst (λ (x : Stand). AreOwn [] x.jobs) (sym stand_is) tt
  parts_own (e ∷ older) stand now (was, before, traced, f) =
      subst (λ (x : Stand). AreOwn (e ∷ older) x.jobs) (sym f.stand_is)
      (own_closing (e ∷ older) (is_closed (e ∷ older)) f.after (by e.what refl f.leads (parts_own older was before traced) (traced_reached opening tree settled older was before traced)))
    where
      still : (what : Event) → e.what ≡ what → ((id : ℕ) (path : Route) (b : Bool) → named_part_after id path what b ≡ b) → named_after what (live_parts older) (left_parts older) (named_parts older) ≡ named_parts older → (jobs : List Running)
          → AreOwn older jobs → AreOwn (e ∷ older) jobs
      still what is same none jobs own =
          own_same e older jobs (λ id path. ap (λ w. named_part_after id path w (has_named_part id path older)) is ∙ same id path (has_named_part id path older))
          (ap (λ w. named_after w (live_parts older) (left_parts older) (named_parts older)) is ∙ none) own

      by : (what : Event) → e.what ≡ what → EventLeads was what f.after before now → AreOwn older was.jobs → IsReached opening older was before → AreOwn (e ∷ older) (let a : Stand = f.after in a.jobs)
      by (Step id did) is s own r =
          let one = only_job id was.jobs s.job (told_of opening before older (let x : IsReached opening older was before = r in x.part)) was.dirty r.marks before s.its r.knows in
          let knows = subst (λ js. JobsKnow (told_of opening before older (let x : IsReached opening older was before = r in x.part)) was.dirty r.marks before js) one.0 r.knows in
          let a : Stand = f.after in
          let jobs_then : a.jobs ≡ before_others s.new [] = s.jobs_is ∙ (ap (with_job id s.new) one.0 ∙ (ap (λ n. with_job n s.new (s.job ∷ [])) (sym one.1) ∙ with_one s.job s.new)) in
          subst (λ js. AreOwn (e ∷ older) js) (sym jobs_then) (elim s.leads [
            | inl stepped ↦ subst (λ o. AreOwn (e ∷ older) (before_others o [])) (sym stepped.2)
                (own_after (e ∷ older) stepped.0 (ends did) (λ on. own_step e older id did was s.job stepped.0 a.dirty before now r knows is (subst (λ js. AreOwn older js) one.0 own) stepped.1))
            | inr gives ↦ subst (λ o. AreOwn (e ∷ older) (before_others o [])) (sym gives.1) tt
          ])
      by (event.Began id plan background) is s own r =
          subst (λ (x : Stand). AreOwn (e ∷ older) x.jobs) (sym s.after_is)
          (own_begun (e ∷ older) id (begun_work id (sources_of plan)) (λ path. ap (λ w. named_part_after id path w (has_named_part id path older)) is ∙ ap (λ b. if◌then◌else◌ b false (has_named_part id path older)) (eq-eqb id id refl)))
      by (Next id plan) is s own r =
          let one = only_job id was.jobs s.job (told_of opening before older (let x : IsReached opening older was before = r in x.part)) was.dirty r.marks before s.its r.knows in
          let a : Stand = f.after in
          let turned = turned_to plan s.job s.next s.next_is in
          subst (λ js. AreOwn (e ∷ older) js) (sym (one_turned id was.jobs s.job s.next a.jobs one.0 one.1 s.jobs_is))
          (λ over path named. absurd (both_ways _
          (ap (λ w. named_part_after (let n : Running = s.next in n.id) path w (has_named_part (let n : Running = s.next in n.id) path older)) is
          ∙ ap (λ b. if◌then◌else◌ b false (has_named_part (let n : Running = s.next in n.id) path older)) (eq-eqb id (let n : Running = s.next in n.id) (sym (turned_id plan s.job s.next turned ∙ one.1))))
          named))
      by (Order id order) is s own r = subst (λ (x : Stand). AreOwn (e ∷ older) x.jobs) (sym s.after_is) (own_ordered (e ∷ older) id order was.jobs (still (Order id order) is (λ i p b. refl) refl was.jobs own))
      by (Key key time refusals lost) is s own r = subst (λ (x : Stand). AreOwn (e ∷ older) x.jobs) (sym s.after_is) (still (Key key time refusals lost) is (λ i p b. refl) refl was.jobs own)
      by (Look refusals) is s own r = subst (λ (x : Stand). AreOwn (e ∷ older) x.jobs) (sym s.after_is) (still (Look refusals) is (λ i p b. refl) refl was.jobs own)
      by Sought is s own r = subst (λ (x : Stand). AreOwn (e ∷ older) x.jobs) (sym s.after_is) (still Sought is (λ i p b. refl) refl was.jobs own)
      by Closed is s own r = subst (λ (x : Stand). AreOwn (e ∷ older) x.jobs) (sym s.after_is) (still Closed is (λ i p b. refl) refl was.jobs own)
