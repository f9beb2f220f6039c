-- A path that is on the disk holds in each later image what it held then, until an entry names it; also where its folder goes. Each step
-- is asked with what the path held as what it held before, too: so it holds that whichever of the two an image has.
use Rattle.std.proofs.Common.{◌≡◌, ◌⊎◌, ℕ, ◌+◌, ◌≤◌, Bool, true, false, ◌||◌, List, [], ◌∷◌, ◌++◌, length, refl, sym, ◌∙◌, ap, subst, inl, inr, Option, Some, arith, append_assoc, append-nil}
use Rattle.std.specs.Prelude.{is_some}
use Rattle.std.proofs.lemmas.Bool.{both_ways, false_from_ne_true, true≢false}
use Rattle.mc_text.specs.Routes.{Route, same_path}
use Rattle.tree_trait.specs.declared.file_system.FileSystem.{FileSystem}
use Rattle.tree_trait.specs.FileSystem.{Spot, Value, find, view_with, value_at}
use Rattle.tree_trait.specs.Shape.{IsTree}
use Rattle.tree_trait.specs.Change.{Change, CallLog, current}
use Rattle.tree_trait.specs.CrashImages.{Among, IsCrashImage, all_settled, is_clean}
use Rattle.tree_trait.proofs.Visible.{same_path-true}
use Rattle.laws_crash.specs.Guarded.{Marks}
use Rattle.laws_crash.specs.Possible.{IsImage}
use Rattle.session_entries.specs.declared.history.Event.{Event}
use Rattle.session_entries.specs.declared.history.Event.TheVariants.{Key, Look, Sought, Order, Step, Next, Closed}
use Rattle.session_entries.specs.declared.history.Event.TheVariants as event
use Rattle.session_entries.specs.declared.history.Entry.{Entry}
use Rattle.session_entries.specs.Entries.{IsMoment, calls_in, is_closed}
use Rattle.session_entries.specs.LiveJobs.{LiveJob, after_event, live_jobs}
use Rattle.session_entries.specs.Named.{IsUnnamedSince, named_parts, names_path}
use Rattle.job_reports.specs.Paths.{without}
use Rattle.copy_move.specs.declared.run.Course.{Course}
use Rattle.copy_move.specs.declared.work.Work.{Work}
use Rattle.copy_move.specs.Jobs.{Running}
use Rattle.laws_sessions.specs.Doubt.{is_unsettled, node_waits, way_waits}
use Rattle.laws_sessions.specs.Replayed.{log_prefix, replayed_tree}
use Rattle.laws_sessions.specs.Safe.{IsSafe}
use Rattle.laws_sessions.specs.Traces.{EventLeads, Follows, IsTraced, Stand, if_closed}
use Rattle.laws_sessions.proofs.Calming.{still_listed}
use Rattle.laws_sessions.proofs.Deleted.{put_at, put_off}
use Rattle.laws_sessions.proofs.Tidy.{not_listed}
use Rattle.laws_sessions.proofs.Going.{Goes, SaidThen, closed_know, closed_live, event_goes}
use Rattle.laws_sessions.proofs.Histories.{IsReached, enters, traced_reached}
use Rattle.laws_sessions.proofs.JobKnows.{WorkKnows, work_said}
use Rattle.laws_sessions.proofs.Knowing.{HasMode, HasNoMode, IsKept, HistoryFacts, held, safe_path, waits_there}
use Rattle.laws_sessions.proofs.Moments.{log_of, prefix_cut, prefix_is, traced_count}
use Rattle.laws_sessions.proofs.Prefixes.{replayed_more, told_more, told_of}
use Rattle.laws_sessions.proofs.Reports.{HasLive, JobsKnow}
use Rattle.laws_sessions.proofs.Staying.{since_longer}
use Rattle.laws_sessions.proofs.Stepped.{AreMids, cut, mid_at, more, no_other}
use Rattle.laws_sessions.proofs.Unnamed.{earlier_unnamed, named_step, step_unnamed}

neither : (a b : Bool) → (a || b) ≡ false → (a ≡ false) × (b ≡ false)
neither true b h = absurd (true≢false h)
neither false b h = (refl, h)

-- what a history says, where a path held this before, too, and was no part
abbrev holding : Route → Option Value → HistoryFacts → HistoryFacts
holding path v told = record told { earlier = view_with told.earlier path v; named = without path told.named }

-- a path shows this, showed it before, and was no part
abbrev Keeps : Route → Option Value → HistoryFacts → Type 0
Keeps path v said = ((said.tree path).value ≡ v) × ((said.earlier path).value ≡ v) × (Among said.named path → ⊥)

-- so much is known of a path that holds this, whichever way a crash leaves it
pub record IsHeld (listed : List LiveJob) (stand : Stand) (now : CallLog) (path : Route) (v : Option Value) : Type 0 where
  pub said : HistoryFacts
  pub marks : Marks
  pub kept : IsKept said stand.dirty marks now
  pub knows : JobsKnow said stand.dirty marks now stand.jobs
  pub live : HasLive listed stand.jobs said.part
  pub keeps : Keeps path v said

-- and so each image has it
held_image : (said : HistoryFacts) (dirty : List Route) (marks : Marks) (log : CallLog) (path : Route) (v : Option Value) (image : FileSystem) → Keeps path v said → IsKept said dirty marks log → IsImage log image → value_at image path ≡ v
held_image said dirty marks log path v image (shows, before, unnamed) kept left = elim (safe_path said dirty marks log kept image left path (λ named stays. unnamed named)) [
  | inl told ↦ told ∙ shows
  | inr doubt ↦ doubt.1 ∙ before
]

module _ (path : Route) (v : Option Value) (told : HistoryFacts) where
  work_holding : (dirty : List Route) (marks : Marks) (log : CallLog) (course : Course) (work : Work) → WorkKnows told dirty marks log course work → WorkKnows (holding path v told) dirty marks log course work
  work_holding dirty marks log course work k = work_said told (holding path v told) refl refl refl refl dirty marks log course work k

  jobs_holding : (dirty : List Route) (marks : Marks) (log : CallLog) (jobs : List Running) → JobsKnow told dirty marks log jobs → JobsKnow (holding path v told) dirty marks log jobs
  jobs_holding dirty marks log [] k = k
  jobs_holding dirty marks log (job ∷ []) k = work_holding dirty marks log job.course job.work k
  jobs_holding dirty marks log (job ∷ other ∷ jobs) k = absurd k

  -- where it isn't in doubt it held before what it holds
  kept_holding : (dirty : List Route) (marks : Marks) (log : CallLog) → IsKept told dirty marks log → is_unsettled log path ≡ false → marks.aside path ≡ false → IsKept (holding path v told) dirty marks log
  kept_holding dirty marks log kept sure out = record {
    known = record {
      guarded = kept.known.guarded;
      files = kept.known.files;
      moded = λ i before is unclean. moded i before unclean (kept.known.moded i before is unclean);
      calm = kept.known.calm;
      folders = kept.known.folders;
      aside = λ p is. still_listed path p told.named (kept.known.aside p is) (false_from_ne_true _ (λ same. both_ways _ out (subst (λ q. marks.aside q ≡ true) (same_path-true p path same) is)));
      left = kept.known.left;
      was_there = kept.known.was_there;
      was_shown = λ p out_p. shown p out_p (same_path p path) refl;
      shows = kept.known.shows;
      part = kept.known.part;
      tracked = kept.known.tracked;
      joint = kept.known.joint;
      doubts = kept.known.doubts;
      written = kept.known.written;
      stand = kept.known.stand;
    };
    aside = kept.aside;
    was = kept.was;
    modes = kept.modes;
    roams = kept.roams;
  }
    where
      moded : (i before : ℕ) → is_clean i log.changes ≡ false → HasMode told dirty marks log i before → HasMode (holding path v told) dirty marks log i before
      moded i before unclean h = record {
        path = h.path;
        leads = h.leads;
        out = h.out;
        listed = h.listed;
        told = h.told;
        shown = ap (λ (s : Spot). s.value) (put_off told.earlier path v h.path (false_from_ne_true _ (λ same.
            both_ways _ (neither (way_waits log path) (node_waits log path) sure).1 (subst (λ q. node_waits log q ≡ true) (same_path-true h.path path same) (waits_there log h.path i h.leads unclean))))) ∙ h.shown;
      }

      shown : (p : Route) → marks.aside p ≡ false → (b : Bool) → same_path p path ≡ b
          → (marks.was p ≡ find (current log) p) ⊎ ((held (current log) (marks.was p) ≡ (let t : HistoryFacts = holding path v told in t.earlier p).value) × HasNoMode marks (marks.was p))
      shown p out_p true same = inl (subst (λ q. marks.was q ≡ find (current log) q) (sym (same_path-true p path same)) (kept.was path out (neither (way_waits log path) (node_waits log path) sure).0))
      shown p out_p false off = elim (kept.known.was_shown p out_p) [
        | inl now ↦ inl now
        | inr old ↦ inr (old.0 ∙ sym (ap (λ (s : Spot). s.value) (put_off told.earlier path v p off)), old.1)
      ]

-- where a path isn't in doubt, and isn't a part that stands, it is held
held_here : (opening : CallLog) (g : List Entry) (stand : Stand) (now : CallLog) (path : Route) → IsReached opening g stand now → is_unsettled now path ≡ false
    → (Among (named_parts g) path → ⊥) ⊎ (is_some (find (current now) path) ≡ false) → IsHeld (live_jobs g) stand now path (replayed_tree opening now g path).value
held_here opening g stand now path r sure bare = record {
  said = holding path v told;
  marks = r.marks;
  kept = kept_holding path v told stand.dirty r.marks now r.kept sure (out (r.marks.aside path) refl bare);
  knows = jobs_holding path v told stand.dirty r.marks now stand.jobs r.knows;
  live = r.live;
  keeps = (refl, ap (λ (s : Spot). s.value) (put_at told.earlier path v), not_listed path told.named);
}
  where
    told : HistoryFacts
    told = told_of opening now g r.part

    v : Option Value
    v = (replayed_tree opening now g path).value

    out : (a : Bool) → r.marks.aside path ≡ a → (Among (named_parts g) path → ⊥) ⊎ (is_some (find (current now) path) ≡ false) → r.marks.aside path ≡ false
    out false is bare = is
    out true is (inl unnamed) = absurd (unnamed (r.kept.known.aside path is))
    out true is (inr gone) = elim (r.kept.aside path is) [ inl waits ↦ absurd (both_ways _ (neither (way_waits now path) (node_waits now path) sure).0 waits) | inr stands ↦ absurd (both_ways _ gone stands) ]

-- an event that doesn't name it
module _ (listed : List LiveJob) (was : Stand) (before : CallLog) (path : Route) (v : Option Value) (h : IsHeld listed was before path v) where
  abbrev said : HistoryFacts
  said = h.said

  abbrev Led : Event → Stand → CallLog → Type 0
  Led what after now = Goes said listed was before h.marks h.kept h.knows h.live what after now

  abbrev Then : Event → CallLog → HistoryFacts → Type 0
  Then what now said_then = SaidThen said listed was before h.marks h.kept h.knows h.live what now said_then

  keeps_then : (what : Event) (now : CallLog) (said_then : HistoryFacts) → names_path what path ≡ false → Then what now said_then → Keeps path v said_then
  keeps_then (Step id did) now said_then unnamed (job, jobs_is, id_is, is) = let k = h.keeps in subst (Keeps path v) (sym is) (
    ap (λ (s : Spot). s.value) (step_unnamed now did (Some (Rattle.laws_sessions.proofs.Sources.item_in job.work)) said.tree path unnamed) ∙ k.0,
    ap (λ (s : Spot). s.value) (earlier_unnamed did said.tree said.earlier path unnamed) ∙ k.1,
    λ among. k.2 (named_step did no_other said.left said.named path unnamed among),
  )
  keeps_then (Next id plan) now said_then unnamed (job, jobs_is, id_is, is) = subst (Keeps path v) (sym is) h.keeps
  keeps_then (event.Began id plan background) now said_then unnamed is = subst (Keeps path v) (sym is) h.keeps
  keeps_then (Order id order) now said_then unnamed is = subst (Keeps path v) (sym is) h.keeps
  keeps_then (Key key time refusals lost) now said_then unnamed is = subst (Keeps path v) (sym is) h.keeps
  keeps_then (Look refusals) now said_then unnamed is = subst (Keeps path v) (sym is) h.keeps
  keeps_then Sought now said_then unnamed is = subst (Keeps path v) (sym is) h.keeps
  keeps_then Closed now said_then unnamed is = subst (Keeps path v) (sym is) h.keeps

  -- what is known at each call of it, and at its end
  pub record HeldOn (what : Event) (after : Stand) (now : CallLog) : Type 0 where
    pub made : List Change
    pub now_is : now ≡ more before made
    pub mids : AreMids said before made
    pub held : IsHeld (after_event what listed) after now path v

  pub held_event : (what : Event) (after : Stand) (now : CallLog) → EventLeads was what after before now → names_path what path ≡ false → HeldOn what after now
  held_event what after now leads unnamed =
      let n : Led what after now = event_goes said listed was before h.marks h.kept h.knows h.live what after now leads in
      record {
        made = n.made;
        now_is = n.now_is;
        mids = n.mids;
        held = record {
          said = n.said_then;
          marks = n.marks_then;
          kept = n.kept_then;
          knows = n.knows_then;
          live = n.live_then;
          keeps = keeps_then what now n.said_then unnamed n.then_is;
        };
      }

close_held : (listed : List LiveJob) (b : Bool) (after : Stand) (now : CallLog) (path : Route) (v : Option Value) → IsHeld listed after now path v → IsHeld listed (if_closed b after) now path v
close_held listed false after now path v h = h
close_held listed true after now path v h = record {
  said = h.said;
  marks = h.marks;
  kept = h.kept;
  knows = closed_know h.said after.dirty h.marks now after.jobs h.knows;
  live = closed_live listed h.said.part after.jobs h.live;
  keeps = h.keeps;
}

module _ (opening : CallLog) (tree : IsTree (current opening)) (settled : all_settled opening.changes ≡ true) (end : CallLog) (older : List Entry) (path : Route)
    (sure : is_unsettled (log_prefix opening (calls_in older) end) path ≡ false)
    (bare : (Among (named_parts older) path → ⊥) ⊎ (is_some (find (current (log_prefix opening (calls_in older) end)) path) ≡ false)) where
  abbrev v : Option Value
  v = (replayed_tree opening end older path).value

  held_older : (g : List Entry) (stand : Stand) (now : CallLog) (rest : List Change) → older ≡ g → IsTraced opening g stand now → end ≡ more now rest → IsHeld (live_jobs g) stand now path v
  held_older g stand now rest same traced end_is =
      let n = traced_count opening now g stand traced in
      let calls : calls_in older ≡ calls_in g = ap calls_in same in
      let at : log_prefix opening (calls_in older) end ≡ now = prefix_is opening end (calls_in older) now rest end_is (omega (arith, n, calls)) in
      let r = traced_reached opening tree settled g stand now traced in
      let told : replayed_tree opening now g path ≡ replayed_tree opening end older path =
      sym (ap (λ (l : CallLog). replayed_tree opening l older path) end_is ∙ (ap (λ x. replayed_tree opening (more now rest) x path) same ∙ ap (λ t. t path) (replayed_more opening now rest g r.within))) in
      subst (IsHeld (live_jobs g) stand now path) (ap (λ (s : Spot). s.value) told)
      (held_here opening g stand now path r (subst (λ (l : CallLog). is_unsettled l path ≡ false) at sure)
      (subst (λ (l : CallLog). (Among (named_parts g) path → ⊥) ⊎ (is_some (find (current l) path) ≡ false)) at
      (subst (λ x. (Among (named_parts x) path → ⊥) ⊎ (is_some (find (current (log_prefix opening (calls_in older) end)) path) ≡ false)) same bare)))

  -- what came before an entry, in the log of the whole
  earlier : (before now : CallLog) (made rest : List Change) → now ≡ more before made → end ≡ more now rest → end ≡ more before (made ++ rest)
  earlier before now made rest now_is end_is = end_is ∙ (ap (λ (l : CallLog). more l rest) now_is ∙ ap (log_of before) (append_assoc before.changes made rest))

  held_since : (g : List Entry) (stand : Stand) (now : CallLog) (rest : List Change) → IsTraced opening g stand now → end ≡ more now rest → IsUnnamedSince older path g → IsHeld (live_jobs g) stand now path v
  held_since [] stand now rest traced end_is same = held_older [] stand now rest same traced end_is
  held_since (e ∷ g) stand now rest traced end_is (inl same) = held_older (e ∷ g) stand now rest same traced end_is
  held_since (e ∷ g) stand now rest (was, before, traced, f) end_is (inr (unnamed, since)) =
      let n = enters opening g e.calls was before (traced_reached opening tree settled g was before traced) e.what f.after now f.leads f.counts in
      let h = held_since g was before (n.made ++ rest) traced (earlier before now n.made rest n.now_is end_is) since in
      let on = held_event (live_jobs g) was before path v h e.what f.after now f.leads unnamed in
      subst (λ (x : Stand). IsHeld (live_jobs (e ∷ g)) x now path v) (sym f.stand_is) (close_held (live_jobs (e ∷ g)) (is_closed (e ∷ g)) f.after now path v on.held)

  module _ (calls : ℕ) (image : FileSystem) (left : IsImage (log_prefix opening calls end) image) where
    abbrev Holds : Type 0
    Holds = value_at image path ≡ v

    -- where an entry ends
    holds_end : (g : List Entry) (stand : Stand) (now : CallLog) → IsHeld (live_jobs g) stand now path v → log_prefix opening calls end ≡ now → Holds
    holds_end g stand now h at = held_image h.said stand.dirty h.marks now path v image h.keeps h.kept (subst (λ (l : CallLog). IsImage l image) at left)

    -- within one
    holds_within : (listed : List LiveJob) (was : Stand) (before now : CallLog) (rest : List Change) (h : IsHeld listed was before path v) (what : Event) (after : Stand) → HeldOn listed was before path v h what after now → end ≡ more now rest
        → length before.changes ≤ length opening.changes + calls → length opening.changes + calls ≤ length now.changes → Holds
    holds_within listed was before now rest h what after on end_is least most =
        let count : ℕ = length opening.changes + calls in
        let at : log_prefix opening calls end ≡ cut (more before on.made) count = prefix_cut opening end calls now rest end_is most ∙ ap (λ (l : CallLog). cut l count) on.now_is in
        elim (mid_at h.said on.made before count on.mids least (subst (λ (l : CallLog). count ≤ length l.changes) on.now_is most)) [
          | inl whole ↦ (let held_then : IsHeld _ after now path v = on.held in held_image held_then.said after.dirty held_then.marks now path v image held_then.keeps held_then.kept (subst (λ (l : CallLog). IsImage l image) (at ∙ (whole ∙ sym on.now_is)) left))
          | inr mid ↦ held_image h.said mid.0 mid.1 (cut (more before on.made) count) path v image h.keeps mid.2 (subst (λ (l : CallLog). IsImage l image) at left)
        ]

    holds_moment : (newest standing coming : List Entry) (stand : Stand) (now : CallLog) (rest : List Change) → IsTraced opening newest stand now → end ≡ more now rest → IsMoment newest standing coming calls
        → IsUnnamedSince older path standing → IsUnnamedSince older path coming → Holds
    holds_moment [] standing coming stand now rest traced end_is (standing_is, coming_is, calls_is) since later =
        let n = traced_count opening now [] stand traced in
        holds_end [] stand now (held_since [] stand now rest traced end_is (subst (IsUnnamedSince older path) standing_is since)) (prefix_is opening end calls now rest end_is (omega (arith, n, calls_is)))
    holds_moment (e ∷ g) standing coming stand now rest traced end_is (inl (standing_is, coming_is, calls_is)) since later =
        let n = traced_count opening now (e ∷ g) stand traced in
        holds_end (e ∷ g) stand now (held_since (e ∷ g) stand now rest traced end_is (subst (IsUnnamedSince older path) standing_is since)) (prefix_is opening end calls now rest end_is (omega (arith, n, calls_is)))
    holds_moment (e ∷ g) standing coming stand now rest (was, before, traced, f) end_is (inr (inl (standing_is, coming_is, least, most))) since later =
        by (subst (IsUnnamedSince older path) coming_is later)
      where
        by : IsUnnamedSince older path (e ∷ g) → Holds
        by (inl same) =
            let longer = since_longer older g path (subst (IsUnnamedSince older path) standing_is since) in
            let n = ap (λ (xs : List Entry). length xs) same in
            absurd (omega (arith, longer, n))
        by (inr (unnamed, more_since)) =
            let n = enters opening g e.calls was before (traced_reached opening tree settled g was before traced) e.what f.after now f.leads f.counts in
            let h = held_since g was before (n.made ++ rest) traced (earlier before now n.made rest n.now_is end_is) more_since in
            let b = traced_count opening before g was traced in
            let c = f.counts in
            holds_within (live_jobs g) was before now rest h e.what f.after (held_event (live_jobs g) was before path v h e.what f.after now f.leads unnamed) end_is (omega (arith, b, least)) (omega (arith, c, most))
    holds_moment (e ∷ g) standing coming stand now rest (was, before, traced, f) end_is (inr (inr before_that)) since later =
        let n = enters opening g e.calls was before (traced_reached opening tree settled g was before traced) e.what f.after now f.leads f.counts in
        holds_moment g standing coming was before (n.made ++ rest) traced (earlier before now n.made rest n.now_is end_is) before_that since later

    -- where an entry ends, all is safe as of it
    safe_end : (g : List Entry) (stand : Stand) (now : CallLog) (rest : List Change) → IsReached opening g stand now → end ≡ more now rest → log_prefix opening calls end ≡ now → IsSafe opening end g (log_prefix opening calls end) image
    safe_end g stand now rest r end_is at p apart =
        safe_path (told_of opening end g r.part) stand.dirty r.marks (log_prefix opening calls end) kept image left p (λ named stays. apart (record { named = named; stays = stays }))
      where
        kept : IsKept (told_of opening end g r.part) stand.dirty r.marks (log_prefix opening calls end)
        kept =
            subst (λ (l : CallLog). IsKept (told_of opening end g r.part) stand.dirty r.marks l) (sym at)
            (subst (λ t. IsKept t stand.dirty r.marks now) (sym (ap (λ (l : CallLog). told_of opening l g r.part) end_is ∙ told_more opening now rest g r.part r.within)) r.kept)

    -- within one, before which none named the path, it holds what it held, or all is safe as of that entry
    comes_within : (e : Entry) (g : List Entry) (was : Stand) (before : CallLog) (stand : Stand) (now : CallLog) (rest : List Change) (h : IsHeld (live_jobs g) was before path v) → IsTraced opening g was before
        → Follows opening e g was before stand now → end ≡ more now rest → length before.changes ≤ length opening.changes + calls → length opening.changes + calls ≤ length now.changes
        → Holds ⊎ IsSafe opening end (e ∷ g) (log_prefix opening calls end) image
    comes_within e g was before stand now rest h traced f end_is least most =
        let n : Goes h.said (live_jobs g) was before h.marks h.kept h.knows h.live e.what f.after now = event_goes h.said (live_jobs g) was before h.marks h.kept h.knows h.live e.what f.after now f.leads in
        let count : ℕ = length opening.changes + calls in
        let at : log_prefix opening calls end ≡ cut (more before n.made) count = prefix_cut opening end calls now rest end_is most ∙ ap (λ (l : CallLog). cut l count) n.now_is in
        elim (mid_at h.said n.made before count n.mids least (subst (λ (l : CallLog). count ≤ length l.changes) n.now_is most)) [
          | inl whole ↦ inr (safe_end (e ∷ g) stand now rest (traced_reached opening tree settled (e ∷ g) stand now (was, before, traced, f)) end_is (at ∙ (whole ∙ sym n.now_is)))
          | inr mid ↦ inl (held_image h.said mid.0 mid.1 (cut (more before n.made) count) path v image h.keeps mid.2 (subst (λ (l : CallLog). IsImage l image) at left))
        ]

    comes_moment : (newest standing coming : List Entry) (stand : Stand) (now : CallLog) (rest : List Change) → IsTraced opening newest stand now → end ≡ more now rest → IsMoment newest standing coming calls → IsUnnamedSince older path standing
        → Holds ⊎ IsSafe opening end coming (log_prefix opening calls end) image
    comes_moment [] standing coming stand now rest traced end_is (standing_is, coming_is, calls_is) since =
        let n = traced_count opening now [] stand traced in
        inl (holds_end [] stand now (held_since [] stand now rest traced end_is (subst (IsUnnamedSince older path) standing_is since)) (prefix_is opening end calls now rest end_is (omega (arith, n, calls_is))))
    comes_moment (e ∷ g) standing coming stand now rest traced end_is (inl (standing_is, coming_is, calls_is)) since =
        let n = traced_count opening now (e ∷ g) stand traced in
        inl (holds_end (e ∷ g) stand now (held_since (e ∷ g) stand now rest traced end_is (subst (IsUnnamedSince older path) standing_is since)) (prefix_is opening end calls now rest end_is (omega (arith, n, calls_is))))
    comes_moment (e ∷ g) standing coming stand now rest (was, before, traced, f) end_is (inr (inl (standing_is, coming_is, least, most))) since =
        let n = enters opening g e.calls was before (traced_reached opening tree settled g was before traced) e.what f.after now f.leads f.counts in
        let h = held_since g was before (n.made ++ rest) traced (earlier before now n.made rest n.now_is end_is) (subst (IsUnnamedSince older path) standing_is since) in
        let b = traced_count opening before g was traced in
        let c = f.counts in
        subst (λ x. Holds ⊎ IsSafe opening end x (log_prefix opening calls end) image) (sym coming_is)
        (comes_within e g was before stand now rest h traced f end_is (omega (arith, b, least)) (omega (arith, c, most)))
    comes_moment (e ∷ g) standing coming stand now rest (was, before, traced, f) end_is (inr (inr before_that)) since =
        let n = enters opening g e.calls was before (traced_reached opening tree settled g was before traced) e.what f.after now f.leads f.counts in
        comes_moment g standing coming was before (n.made ++ rest) traced (earlier before now n.made rest n.now_is end_is) before_that since

-- what is on the disk holds in each image at each later moment
pub holds_since : (opening now : CallLog) (newest older standing coming : List Entry) (stand : Stand) (calls : ℕ) (path : Route) (image : FileSystem) → IsTree (current opening) → all_settled opening.changes ≡ true
    → IsTraced opening newest stand now → IsMoment newest standing coming calls → IsUnnamedSince older path standing → IsUnnamedSince older path coming → is_unsettled (log_prefix opening (calls_in older) now) path ≡ false
    → (Among (named_parts older) path → ⊥) ⊎ (is_some (find (current (log_prefix opening (calls_in older) now)) path) ≡ false) → IsCrashImage now (length opening.changes + calls) image
    → value_at image path ≡ (replayed_tree opening now older path).value
holds_since opening now newest older standing coming stand calls path image tree settled traced moment since later sure bare left =
    holds_moment opening tree settled now older path sure bare calls image left newest standing coming stand now [] traced (ap (log_of now) (sym (append-nil now.changes))) moment since later

-- and where the entry under way names it, it holds that, or each path holds what the history says with that entry
pub holds_or_comes : (opening now : CallLog) (newest older standing coming : List Entry) (stand : Stand) (calls : ℕ) (path : Route) (image : FileSystem) → IsTree (current opening) → all_settled opening.changes ≡ true
    → IsTraced opening newest stand now → IsMoment newest standing coming calls → IsUnnamedSince older path standing → is_unsettled (log_prefix opening (calls_in older) now) path ≡ false
    → (Among (named_parts older) path → ⊥) ⊎ (is_some (find (current (log_prefix opening (calls_in older) now)) path) ≡ false) → IsCrashImage now (length opening.changes + calls) image
    → (value_at image path ≡ (replayed_tree opening now older path).value) ⊎ IsSafe opening now coming (log_prefix opening calls now) image
holds_or_comes opening now newest older standing coming stand calls path image tree settled traced moment since sure bare left =
    comes_moment opening tree settled now older path sure bare calls image left newest standing coming stand now [] traced (ap (log_of now) (sym (append-nil now.changes))) moment since
