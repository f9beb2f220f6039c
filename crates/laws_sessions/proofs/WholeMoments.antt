-- A thing that was moved is whole in each image at each moment, with all that lies in it, until an entry names a path that meets its two.
use Rattle.std.proofs.Common.{◌≡◌, ◌⊎◌, ℕ, ◌+◌, ◌≤◌, Bool, true, false, List, [], ◌∷◌, ◌++◌, length, sym, ◌∙◌, ap, subst, inl, inr, Option, Some, None, arith, append_assoc, append-nil, length-append, take}
use Rattle.std.specs.Prelude.{◌==◌, if◌then◌else◌}
use Rattle.std.proofs.lemmas.Bool.{cases_lt}
use Rattle.std.proofs.Math.Seq.{take-append_seam, take-length}
use Rattle.tree_trait.specs.declared.file_system.FileSystem.{FileSystem}
use Rattle.tree_trait.specs.FileSystem.{View}
use Rattle.tree_trait.specs.Shape.{IsTree}
use Rattle.tree_trait.specs.Change.{Change, CallLog, current, with_change}
use Rattle.tree_trait.specs.CrashImages.{all_settled}
use Rattle.laws_crash.specs.Possible.{IsImage}
use Rattle.mc_text.specs.Routes.{Route}
use Rattle.job_reports.specs.declared.job.Pair.{Pair}
use Rattle.job_reports.specs.declared.report.Did.TheVariants.{Moved}
use Rattle.session_entries.specs.declared.history.Event.{Event}
use Rattle.session_entries.specs.declared.history.Event.TheVariants.{Step}
use Rattle.session_entries.specs.declared.history.Entry.{Entry}
use Rattle.session_entries.specs.Entries.{IsMoment}
use Rattle.session_entries.specs.LiveJobs.{IsLivePart, LiveJob, after_event, live_jobs}
use Rattle.session_entries.specs.Named.{named_parts}
use Rattle.copy_move.specs.Jobs.{Running}
use Rattle.laws_sessions.specs.Replayed.{log_prefix, replayed_tree}
use Rattle.laws_sessions.specs.Traces.{EventLeads, Follows, IsTraced, JobSteps, Stand}
use Rattle.laws_sessions.specs.Whole.{AreSparedSince, IsWholeAt, Spares}
use Rattle.laws_sessions.specs.WholeLaw.{WholeLaw}
use Rattle.laws_sessions.proofs.Going.{only_job}
use Rattle.laws_sessions.proofs.Histories.{IsReached, enters, traced_reached}
use Rattle.laws_sessions.proofs.Moments.{live_part, log_of, prefix_cut, prefix_is, traced_count}
use Rattle.laws_sessions.proofs.Prefixes.{replayed_more, told_of}
use Rattle.laws_sessions.proofs.Reports.{HasLive, JobsKnow}
use Rattle.laws_sessions.proofs.Sources.{item_in}
use Rattle.laws_sessions.proofs.Spared.{EventOff, IsOn, event_off, on_meets}
use Rattle.laws_sessions.proofs.Staying.{event_part}
use Rattle.laws_sessions.proofs.Stepped.{cut, more}
use Rattle.laws_sessions.proofs.WholeSteps.{IsWholly, step_whole}
use Rattle.laws_sessions.proofs.WholeThings.{IsKeptWhole, kept_cut, kept_more, whole_here}

-- within one call the log is the one before it, or the one behind it
cut_at : (before now : CallLog) (c : Change) (count : ℕ) → now ≡ with_change before c → length before.changes ≤ count → count ≤ length now.changes → (cut now count ≡ before) ⊎ (cut now count ≡ now)
cut_at before now c count is least most =
    let n = ap (λ (l : CallLog). length l.changes) is in
    let one = length-append before.changes (c ∷ []) in
    elim (cases_lt (length before.changes) count) [
      | inl later ↦
          let all : count ≡ length now.changes = omega (arith, later, most, n, one) in
          inr (ap (log_of now) (ap (λ k. take k now.changes) all ∙ take-length now.changes))
      | inr here ↦
          let none : count ≡ length before.changes = omega (arith, least, here) in
          inl (ap (λ (l : CallLog). cut l count) is ∙ ap (log_of before) (ap (λ k. take k (before.changes ++ c ∷ [])) none ∙ take-append_seam before.changes (c ∷ [])))
    ]

-- where no part stood, none does after a move
no_part : (l : LiveJob) (part : Option Route) (path : Route) → part ≡ None → l.part ≡ part → l.part ≡ Some path → ⊥
no_part l part path none same is = let e : (let o : Option Route = None in o) ≡ Some path = sym none ∙ (sym same ∙ is) in cc

bare_then : (l : LiveJob) (path : Route) (b : Bool) → l.part ≡ None → IsLivePart (if◌then◌else◌ b ((record l { part = l.part }) ∷ []) (l ∷ [])) path → ⊥
bare_then l path true none (job, inl same, is) = no_part job l.part path none (ap (λ (x : LiveJob). x.part) same) is
bare_then l path true none (job, inr among, is) = among
bare_then l path false none (job, inl same, is) = no_part job l.part path none (ap (λ (x : LiveJob). x.part) same) is
bare_then l path false none (job, inr among, is) = among

moved_bare : (live : List LiveJob) (jobs : List Running) (job : Running) (part : Option Route) (id : ℕ) (pair : Pair) (path : Route) → HasLive live jobs part → jobs ≡ job ∷ [] → part ≡ None
    → IsLivePart (after_event (Step id (Moved pair)) live) path → ⊥
moved_bare live jobs job part id pair path has jobs_is none is =
    let l : LiveJob = record { id = job.id; item = item_in job.work; part = part } in
    let one : live ≡ l ∷ [] = subst (λ js. HasLive live js part) jobs_is has in
    bare_then l path (l.id == id) none (subst (λ ls. IsLivePart (after_event (Step id (Moved pair)) ls) path) one is)

module _ (opening : CallLog) (tree : IsTree (current opening)) (settled : all_settled opening.changes ≡ true) (end : CallLog) (e : Entry) (older : List Entry) (id : ℕ) (pair : Pair)
    (moved : e.what ≡ Step id (Moved pair)) where
  abbrev parts : List Route
  parts = named_parts older

  abbrev stood : View
  stood = replayed_tree opening end older

  abbrev Kept : CallLog → Type 0
  Kept log = IsKeptWhole pair parts stood log

  -- No part of a live job meets the two paths.
  abbrev IsBare : List Entry → Type 0
  IsBare g = (path : Route) → IsOn pair path → IsLivePart (live_jobs g) path → ⊥

  -- what came before an entry, in the log of the whole
  earlier : (before now : CallLog) (made rest : List Change) → now ≡ more before made → end ≡ more now rest → end ≡ more before (made ++ rest)
  earlier before now made rest now_is end_is = end_is ∙ (ap (λ (l : CallLog). more l rest) now_is ∙ ap (log_of before) (append_assoc before.changes made rest))

  -- the entry that tells of the move
  module _ (was : Stand) (before : CallLog) (r : IsReached opening older was before) (after : Stand) (now : CallLog) (rest : List Change) (end_is : end ≡ more before rest) (s : JobSteps was id (Moved pair) after before now) where
    only : (was.jobs ≡ s.job ∷ []) × (s.job.id ≡ id)
    only = only_job id was.jobs s.job (told_of opening before older r.part) was.dirty r.marks before s.its r.knows

    tree_same : replayed_tree opening before older ≡ stood
    tree_same = sym (ap (λ (l : CallLog). replayed_tree opening l older) end_is ∙ replayed_more opening before rest older r.within)

    renaming : IsWholly before now pair r.part parts stood
    renaming = subst (λ (v : View). IsWholly before now pair r.part parts v) tree_same
        (step_whole (told_of opening before older r.part) was.dirty r.marks before now r.kept s.job s.new after.dirty pair (subst (λ js. JobsKnow (told_of opening before older r.part) was.dirty r.marks before js) only.0 r.knows) s.leads)

    bare_moved : IsBare (e ∷ older)
    bare_moved path on is =
        moved_bare (live_jobs older) was.jobs s.job r.part id pair path r.live only.0 (let w = renaming in w.none) (subst (λ what. IsLivePart (after_event what (live_jobs older)) path) moved is)

  -- an entry after it
  module _ (g : List Entry) (was : Stand) (before : CallLog) (r : IsReached opening g was before) (bare : IsBare g) where
    no_live : (path : Route) → IsOn pair path → r.part ≡ Some path → ⊥
    no_live path on is = bare path on (live_part was.jobs (told_of opening before g r.part) was.dirty r.marks before (live_jobs g) path r.knows r.live is)

    off_entry : (what : Event) (after : Stand) (now : CallLog) → EventLeads was what after before now → Spares pair.source pair.target what → EventOff pair before now
    off_entry what after now leads spares = event_off opening g was before r pair no_live what after now leads (λ path on. spares path (on_meets pair path on))

  bare_on : (x : Entry) (g : List Entry) → Spares pair.source pair.target x.what → IsBare g → IsBare (x ∷ g)
  bare_on x g spares bare path on is = bare path on (event_part path x.what (live_jobs g) (spares path (on_meets pair path on)) is)

  -- the log goes on from before an entry
  from_before : (x : Entry) (g : List Entry) (was : Stand) (before : CallLog) (stand : Stand) (now : CallLog) (rest : List Change) → IsTraced opening g was before → Follows opening x g was before stand now → end ≡ more now rest
      → (made : List Change) × (end ≡ more before made)
  from_before x g was before stand now rest traced f end_is =
      let n = enters opening g x.calls was before (traced_reached opening tree settled g was before traced) x.what f.after now f.leads f.counts in
      (n.made ++ rest, earlier before now n.made rest n.now_is end_is)

  -- the entry that tells of the move, on top
  record IsMoving (x : Entry) (g : List Entry) (before now : CallLog) : Type 0 where
    part : Option Route
    whole : IsWholly before now pair part parts stood
    bare : IsBare (x ∷ g)

  at_move : (x : Entry) (g : List Entry) (was : Stand) (before : CallLog) (stand : Stand) (now : CallLog) (rest : List Change) → IsTraced opening g was before → Follows opening x g was before stand now → end ≡ more now rest
      → e ∷ older ≡ x ∷ g → IsMoving x g before now
  at_move x g was before stand now rest traced f end_is same =
      let first : e ≡ x = cc in
      let others : older ≡ g = cc in
      let on = from_before x g was before stand now rest traced f end_is in
      let r = traced_reached opening tree settled older was before (subst (λ xs. IsTraced opening xs was before) (sym others) traced) in
      let s : JobSteps was id (Moved pair) f.after before now = subst (λ w. EventLeads was w f.after before now) (ap (λ (y : Entry). y.what) (sym first) ∙ moved) f.leads in
      record { part = r.part; whole = renaming was before r f.after now on.0 on.1 s; bare = subst IsBare same (bare_moved was before r f.after now on.0 on.1 s) }

  -- and those after it
  abbrev IsSince : List Entry → CallLog → Type 0
  IsSince g now = Kept now × IsBare g

  at_once : (x : Entry) (g : List Entry) (was : Stand) (before : CallLog) (stand : Stand) (now : CallLog) (rest : List Change) → IsTraced opening g was before → Follows opening x g was before stand now → end ≡ more now rest
      → e ∷ older ≡ x ∷ g → IsSince (x ∷ g) now
  at_once x g was before stand now rest traced f end_is same = let m = at_move x g was before stand now rest traced f end_is same in ((let w = m.whole in w.kept), m.bare)

  by_entry : (x : Entry) (g : List Entry) (was : Stand) (before : CallLog) (stand : Stand) (now : CallLog) (rest : List Change) → IsTraced opening g was before → Follows opening x g was before stand now → end ≡ more now rest
      → AreSparedSince pair (e ∷ older) (x ∷ g) → IsSince (x ∷ g) now
  by_entry x [] was before stand now rest traced f end_is (inl same) = at_once x [] was before stand now rest traced f end_is same
  by_entry x [] was before stand now rest traced f end_is (inr (spares, none)) = absurd (let n = ap (λ (xs : List Entry). length xs) none in omega (arith, n))
  by_entry x (y ∷ g) was before stand now rest traced f end_is (inl same) = at_once x (y ∷ g) was before stand now rest traced f end_is same
  by_entry x (y ∷ g) was before stand now rest (was0, before0, traced0, f0) f end_is (inr (spares, since)) =
      let traced : IsTraced opening (y ∷ g) was before = (was0, before0, traced0, f0) in
      let on = from_before x (y ∷ g) was before stand now rest traced f end_is in
      let h = by_entry y g was0 before0 was before on.0 traced0 f0 on.1 since in
      let off = off_entry (y ∷ g) was before (traced_reached opening tree settled (y ∷ g) was before traced) h.1 x.what f.after now f.leads spares in
      (subst Kept (sym off.now_is) (kept_more pair parts stood off.made before h.0 off.off), bare_on x (y ∷ g) spares h.1)

  -- what holds before an entry that isn't the move
  before_entry : (g : List Entry) (stand : Stand) (now : CallLog) (rest : List Change) → IsTraced opening g stand now → end ≡ more now rest → AreSparedSince pair (e ∷ older) g → IsSince g now
  before_entry [] stand now rest traced end_is none = absurd (let n = ap (λ (xs : List Entry). length xs) none in omega (arith, n))
  before_entry (x ∷ g) stand now rest (was, before, traced, f) end_is since = by_entry x g was before stand now rest traced f end_is since

  module _ (calls : ℕ) (image : FileSystem) (left : IsImage (log_prefix opening calls end) image) where
    at_log : (log : CallLog) → Kept log → log_prefix opening calls end ≡ log → IsWholeAt image pair parts stood
    at_log log kept is = whole_here pair parts stood log kept image (subst (λ (l : CallLog). IsImage l image) is left)

    -- before the renaming
    at_first : (before now : CallLog) (part : Option Route) → IsWholly before now pair part parts stood → log_prefix opening calls end ≡ before → IsWholeAt image pair parts stood
    at_first before now part w is = record { some = w.some; stands = inl (w.before image (subst (λ (l : CallLog). IsImage l image) is left)) }

    -- within an entry
    within : (x : Entry) (g : List Entry) (was : Stand) (before : CallLog) (stand : Stand) (now : CallLog) (rest : List Change) → IsTraced opening g was before → Follows opening x g was before stand now → end ≡ more now rest
        → length before.changes ≤ length opening.changes + calls → length opening.changes + calls ≤ length now.changes → AreSparedSince pair (e ∷ older) (x ∷ g) → IsWholeAt image pair parts stood
    within x g was before stand now rest traced f end_is least most (inl same) =
        let m = at_move x g was before stand now rest traced f end_is same in
        let w = m.whole in
        let at = prefix_cut opening end calls now rest end_is most in
        elim (cut_at before now w.change (length opening.changes + calls) w.is least most) [
          | inl first ↦ at_first before now m.part w (at ∙ first)
          | inr last ↦ at_log now w.kept (at ∙ last)
        ]
    within x g was before stand now rest traced f end_is least most (inr (spares, since)) =
        let on = from_before x g was before stand now rest traced f end_is in
        let h = before_entry g was before on.0 traced on.1 since in
        let off = off_entry g was before (traced_reached opening tree settled g was before traced) h.1 x.what f.after now f.leads spares in
        let count : ℕ = length opening.changes + calls in
        at_log (cut (more before off.made) count) (kept_cut pair parts stood off.made before count h.0 off.off least (subst (λ (l : CallLog). count ≤ length l.changes) off.now_is most))
        (prefix_cut opening end calls now rest end_is most ∙ ap (λ (l : CallLog). cut l count) off.now_is)

    whole_moment : (newest standing coming : List Entry) (stand : Stand) (now : CallLog) (rest : List Change) → IsTraced opening newest stand now → end ≡ more now rest → IsMoment newest standing coming calls
        → AreSparedSince pair (e ∷ older) coming → IsWholeAt image pair parts stood
    whole_moment [] standing coming stand now rest traced end_is (standing_is, coming_is, calls_is) since =
        let none : e ∷ older ≡ [] = subst (AreSparedSince pair (e ∷ older)) coming_is since in absurd (let n = ap (λ (xs : List Entry). length xs) none in omega (arith, n))
    whole_moment (x ∷ g) standing coming stand now rest (was, before, traced, f) end_is (inl (standing_is, coming_is, calls_is)) since =
        let n = f.counts in
        at_log now (by_entry x g was before stand now rest traced f end_is (subst (AreSparedSince pair (e ∷ older)) coming_is since)).0 (prefix_is opening end calls now rest end_is (omega (arith, n, calls_is)))
    whole_moment (x ∷ g) standing coming stand now rest (was, before, traced, f) end_is (inr (inl (standing_is, coming_is, least, most))) since =
        let b = traced_count opening before g was traced in
        let c = f.counts in
        within x g was before stand now rest traced f end_is (omega (arith, b, least)) (omega (arith, c, most)) (subst (AreSparedSince pair (e ∷ older)) coming_is since)
    whole_moment (x ∷ g) standing coming stand now rest (was, before, traced, f) end_is (inr (inr before_that)) since =
        let on = from_before x g was before stand now rest traced f end_is in whole_moment g standing coming was before on.0 traced on.1 before_that since

pub whole_law : WholeLaw
whole_law opening now newest stand tree settled traced older standing coming e id pair calls image moved moment since left =
    whole_moment opening tree settled now e older id pair moved calls image left newest standing coming stand now [] traced (ap (log_of now) (sym (append-nil now.changes))) moment since
