-- Each moment of a session is safe.
use Rattle.std.proofs.Common.{◌≡◌, ◌⊎◌, ℕ, ◌+◌, ◌≤◌, true, false, List, [], ◌∷◌, ◌++◌, length, take, refl, sym, ◌∙◌, ap, subst, inl, inr, Option, Some, None, arith, append_assoc}
use Rattle.std.proofs.Math.Seq.{take-append_seam}
use Rattle.std.proofs.lemmas.List.{take-append-le}
use Rattle.mc_text.specs.Routes.{Route}
use Rattle.tree_trait.specs.declared.file_system.FileSystem.{FileSystem}
use Rattle.tree_trait.specs.FileSystem.{visible_tree}
use Rattle.tree_trait.specs.Shape.{IsTree}
use Rattle.tree_trait.specs.Change.{Change, CallLog, current}
use Rattle.tree_trait.specs.CrashImages.{all_settled}
use Rattle.laws_crash.specs.Guarded.{Marks}
use Rattle.laws_crash.specs.Possible.{IsImage}
use Rattle.session_entries.specs.declared.history.Entry.{Entry}
use Rattle.job_reports.specs.Paths.{folder_of}
use Rattle.copy_move.specs.Jobs.{Running}
use Rattle.laws_sessions.specs.Doubt.{way_waits, name_waits}
use Rattle.session_entries.specs.LiveJobs.{LiveJob, IsLivePart, live_jobs}
use Rattle.laws_sessions.specs.Replayed.{log_prefix, replayed_tree}
use Rattle.session_entries.specs.Entries.{IsMoment, calls_in}
use Rattle.laws_sessions.specs.Safe.{IsSafe}
use Rattle.laws_sessions.specs.SafeLaw.{ReplayLaw, SessionLaw}
use Rattle.laws_sessions.specs.Traces.{Follows, IsTraced, Stand}
use Rattle.laws_sessions.proofs.Prefixes.{folders_told, told_more, told_of, within_more}
use Rattle.laws_sessions.proofs.Histories.{IsEntered, IsReached, enters, traced_reached}
use Rattle.laws_sessions.proofs.Knowing.{IsKept, HistoryFacts, safe_path}
use Rattle.laws_sessions.proofs.Reports.{HasLive, JobsKnow}
use Rattle.laws_sessions.proofs.Resting.{sure_path}
use Rattle.laws_sessions.proofs.Stepped.{cut, mid_at, more}
use Rattle.laws_sessions.proofs.Sources.{item_in}

abbrev pub log_of : CallLog → List Change → CallLog
log_of now xs = record now { changes = xs }

-- what is known makes each image safe
safe_told : (opening end : CallLog) (g : List Entry) (part : Option Route) (dirty : List Route) (marks : Marks) (log : CallLog) (image : FileSystem) → IsKept (told_of opening end g part) dirty marks log → IsImage log image
    → IsSafe opening end g log image
safe_told opening end g part dirty marks log image kept left path apart =
    safe_path (told_of opening end g part) dirty marks log kept image left path (λ named stays. apart (record { named = named; stays = stays }))

-- the part that is known is that of a live job
pub live_part : (jobs : List Running) (told : HistoryFacts) (dirty : List Route) (marks : Marks) (log : CallLog) (live : List LiveJob) (path : Route) → JobsKnow told dirty marks log jobs → HasLive live jobs told.part → told.part ≡ Some path → IsLivePart live path
live_part [] told dirty marks log live path knows is part = absurd (let e : (let o : Option Route = None in o) ≡ Some path = sym knows ∙ part in cc)
live_part (job ∷ []) told dirty marks log live path knows is part = subst (λ l. IsLivePart l path) (sym is) ((let l : LiveJob = record { id = job.id; item = item_in job.work; part = told.part } in l), inl refl, part)
live_part (job ∷ other ∷ jobs) told dirty marks log live path knows is part = absurd knows

-- so many calls were made
pub traced_count : (opening now : CallLog) (newest : List Entry) (stand : Stand) → IsTraced opening newest stand now → length now.changes ≡ length opening.changes + calls_in newest
traced_count opening now [] stand traced = let same = ap (λ (l : CallLog). length l.changes) traced.1 in omega (arith, same)
traced_count opening now (e ∷ older) stand traced = traced.3.counts

-- the prefix at the end of these entries is the log then
pub prefix_is : (opening end : CallLog) (calls : ℕ) (now : CallLog) (rest : List Change) → end ≡ more now rest → length opening.changes + calls ≡ length now.changes → log_prefix opening calls end ≡ now
prefix_is opening end calls now rest end_is count =
    ap (λ (l : CallLog). log_of l (take (length opening.changes + calls) l.changes)) end_is
    ∙ ap (log_of now) (ap (λ n. take n (now.changes ++ rest)) count ∙ take-append_seam now.changes rest)

-- and before it a prefix of that log
pub prefix_cut : (opening end : CallLog) (calls : ℕ) (now : CallLog) (rest : List Change) → end ≡ more now rest → length opening.changes + calls ≤ length now.changes
    → log_prefix opening calls end ≡ cut now (length opening.changes + calls)
prefix_cut opening end calls now rest end_is few =
    ap (λ (l : CallLog). log_of l (take (length opening.changes + calls) l.changes)) end_is
    ∙ ap (log_of now) (take-append-le (length opening.changes + calls) now.changes rest few)

-- what is known when the tree has this log, as of these entries, of which no other part stands than that of a live job
abbrev pub KnownGives : CallLog → CallLog → CallLog → (List Entry → Type 0) → Type 0
KnownGives opening end log Is =
    (g : List Entry) (part : Option Route) (dirty : List Route) (marks : Marks) → ((q : Route) → part ≡ Some q → IsLivePart (live_jobs g) q) → IsKept (told_of opening end g part) dirty marks log → Is g

-- What is known gives this, as of some entries: so it holds at each moment, as of those that stand or with the one under way.
module _ (opening : CallLog) (tree : IsTree (current opening)) (settled : all_settled opening.changes ≡ true) (end : CallLog) (calls : ℕ) (Is : List Entry → Type 0) (gives : KnownGives opening end (log_prefix opening calls end) Is)
    (standing coming : List Entry) where
  abbrev log : CallLog
  log = log_prefix opening calls end

  part_of : (g : List Entry) (stand : Stand) (now : CallLog) (r : IsReached opening g stand now) → (q : Route) → r.part ≡ Some q → IsLivePart (live_jobs g) q
  part_of g stand now r q is = live_part stand.jobs (told_of opening now g r.part) stand.dirty r.marks now (live_jobs g) q r.knows r.live is

  -- after these entries, whose calls were made
  known_here : (g : List Entry) (stand : Stand) (now : CallLog) (rest : List Change) → IsReached opening g stand now → end ≡ more now rest → log ≡ now → Is g
  known_here g stand now rest r end_is log_is =
      gives g r.part stand.dirty r.marks (part_of g stand now r)
      (subst (λ (l : CallLog). IsKept (told_of opening end g r.part) stand.dirty r.marks l) (sym log_is)
      (subst (λ t. IsKept t stand.dirty r.marks now) (sym (ap (λ (l : CallLog). told_of opening l g r.part) end_is ∙ told_more opening now rest g r.part r.within)) r.kept))

  -- within an entry
  within_entry : (e : Entry) (older : List Entry) (was : Stand) (before : CallLog) (stand : Stand) (now : CallLog) (rest : List Change) (r : IsReached opening older was before)
      → (n : IsEntered opening older e.calls e.what (told_of opening before older r.part) before stand now) → IsReached opening (e ∷ older) stand now → end ≡ more now rest
      → length before.changes ≤ length opening.changes + calls → length opening.changes + calls ≤ length now.changes → Is older ⊎ Is (e ∷ older)
  within_entry e older was before stand now rest r n later end_is least most =
      elim (mid_at (told_of opening before older r.part) n.made before (length opening.changes + calls) n.mids least (subst (λ (l : CallLog). length opening.changes + calls ≤ length l.changes) n.now_is most)) [
        | inl whole ↦ inr (known_here (e ∷ older) stand now rest later end_is (prefix_cut opening end calls now rest end_is most ∙ (ap (λ (l : CallLog). cut l (length opening.changes + calls)) n.now_is ∙ (whole ∙ sym n.now_is))))
        | inr mid ↦ inl (gives older r.part mid.0 mid.1 (part_of older was before r)
            (subst (λ (l : CallLog). IsKept (told_of opening end older r.part) mid.0 mid.1 l) (sym (prefix_cut opening end calls now rest end_is most ∙ ap (λ (l : CallLog). cut l (length opening.changes + calls)) n.now_is))
            (subst (λ t. IsKept t mid.0 mid.1 (cut (more before n.made) (length opening.changes + calls)))
            (sym (ap (λ (l : CallLog). told_of opening l older r.part) (end_before n.made n.now_is) ∙ told_more opening before (n.made ++ rest) older r.part r.within)) mid.2)))
      ]
    where
      end_before : (made : List Change) → now ≡ more before made → end ≡ more before (made ++ rest)
      end_before made is = end_is ∙ (ap (λ (l : CallLog). more l rest) is ∙ ap (log_of before) (append_assoc before.changes made rest))

  pub known_moment : (newest : List Entry) (stand : Stand) (now : CallLog) (rest : List Change) → IsTraced opening newest stand now → end ≡ more now rest → IsMoment newest standing coming calls → Is standing ⊎ Is coming
  known_moment [] stand now rest traced end_is (standing_is, coming_is, calls_is) =
      let r = traced_reached opening tree settled [] stand now traced in
      let count : length opening.changes + calls ≡ length now.changes = (let n = traced_count opening now [] stand traced in omega (arith, n, calls_is)) in
      inl (subst Is (sym standing_is) (known_here [] stand now rest r end_is (prefix_is opening end calls now rest end_is count)))
  known_moment (e ∷ older) stand now rest traced end_is (inl (standing_is, coming_is, calls_is)) =
      let r = traced_reached opening tree settled (e ∷ older) stand now traced in
      let count : length opening.changes + calls ≡ length now.changes = (let n = traced_count opening now (e ∷ older) stand traced in omega (arith, n, calls_is)) in
      inl (subst Is (sym standing_is) (known_here (e ∷ older) stand now rest r end_is (prefix_is opening end calls now rest end_is count)))
  known_moment (e ∷ older) stand now rest (was, before, traced, f) end_is (inr (inl (standing_is, coming_is, least, most))) =
      let r = traced_reached opening tree settled older was before traced in
      let n = enters opening older e.calls was before r e.what f.after now f.leads f.counts in
      let whole = traced_reached opening tree settled (e ∷ older) stand now (was, before, traced, f) in
      let b = traced_count opening before older was traced in
      let c = f.counts in
      elim (within_entry e older was before f.after now rest r n (open_reached e older was before traced stand now f n) end_is (omega (arith, b, least)) (omega (arith, c, most))) [
        | inl stands ↦ inl (subst Is (sym standing_is) stands)
        | inr comes ↦ inr (subst Is (sym coming_is) comes)
      ]
    where
      open_reached : (e : Entry) (older : List Entry) (was : Stand) (before : CallLog) (traced : IsTraced opening older was before) (stand : Stand) (now : CallLog) (f : Follows opening e older was before stand now)
          → (n : IsEntered opening older e.calls e.what (told_of opening before older (traced_reached opening tree settled older was before traced).part) before f.after now) → IsReached opening (e ∷ older) f.after now
      open_reached e older was before traced stand now f n = record {
        part = n.part;
        marks = n.marks;
        kept = n.kept;
        knows = n.knows;
        live = n.live;
        within = (
          let c = f.counts in omega (arith, c),
          subst (λ (l : CallLog). Rattle.laws_sessions.proofs.Prefixes.AreWithin opening older l) (sym n.now_is) (within_more opening before n.made older (traced_reached opening tree settled older was before traced).within),
        );
      }
  known_moment (e ∷ older) stand now rest (was, before, traced, f) end_is (inr (inr earlier)) =
      let r = traced_reached opening tree settled older was before traced in
      let n = enters opening older e.calls was before r e.what f.after now f.leads f.counts in
      known_moment older was before (n.made ++ rest) traced (end_is ∙ (ap (λ (l : CallLog). more l rest) n.now_is ∙ ap (log_of before) (append_assoc before.changes n.made rest))) earlier

pub session_law : SessionLaw
session_law opening now newest standing coming stand calls image tree settled traced moment left =
    known_moment opening tree settled now calls (λ g. IsSafe opening now g (log_prefix opening calls now) image)
    (λ g part dirty marks live kept. safe_told opening now g part dirty marks (log_prefix opening calls now) image kept left)
    standing coming newest stand now [] traced (ap (log_of now) (sym (Rattle.std.proofs.Common.append-nil now.changes))) moment

-- what can be seen in this log is what the history makes of the opening, but for the parts of live jobs
abbrev pub IsShown : CallLog → CallLog → CallLog → List Entry → Type 0
IsShown opening end log g = (path : Route) → (IsLivePart (live_jobs g) path → ⊥) → visible_tree (current log) path ≡ replayed_tree opening end g path

-- at each moment, inside a call too
pub shown_moment : (opening now : CallLog) (newest standing coming : List Entry) (stand : Stand) (calls : ℕ) → IsTree (current opening) → all_settled opening.changes ≡ true → IsTraced opening newest stand now
    → IsMoment newest standing coming calls → IsShown opening now (log_prefix opening calls now) standing ⊎ IsShown opening now (log_prefix opening calls now) coming
shown_moment opening now newest standing coming stand calls tree settled traced moment =
    known_moment opening tree settled now calls (IsShown opening now (log_prefix opening calls now))
    (λ g part dirty marks live kept path other. kept.known.shows path (λ is. other (live path is)))
    standing coming newest stand now [] traced (ap (log_of now) (sym (Rattle.std.proofs.Common.append-nil now.changes))) moment

-- in a folder that is known to be on the disk a path is in doubt only where its own name waits
pub sure_moment : (opening now : CallLog) (newest standing coming : List Entry) (stand : Stand) (calls : ℕ) (path : Route) → IsTree (current opening) → all_settled opening.changes ≡ true → IsTraced opening newest stand now
    → IsMoment newest standing coming calls → folders_told opening standing (folder_of path) ≡ true → folders_told opening coming (folder_of path) ≡ true → name_waits (log_prefix opening calls now) path ≡ false → way_waits (log_prefix opening calls now) path ≡ false
sure_moment opening now newest standing coming stand calls path tree settled traced moment stands comes none = elim (known_moment opening tree settled now calls
    (λ g. folders_told opening g (folder_of path) ≡ true → way_waits (log_prefix opening calls now) path ≡ false)
    (λ g part dirty marks live kept known. let firm = kept.known.stand (folder_of path) known in sure_path (log_prefix opening calls now) path firm.sure none)
    standing coming newest stand now [] traced (ap (log_of now) (sym (Rattle.std.proofs.Common.append-nil now.changes))) moment) [ inl sure ↦ sure stands | inr sure ↦ sure comes ]

-- a session adds calls to the log
pub same_base : (opening : CallLog) (tree : IsTree (current opening)) (settled : all_settled opening.changes ≡ true) (newest : List Entry) (stand : Stand) (now : CallLog) → IsTraced opening newest stand now
    → now.opening ≡ opening.opening
same_base opening tree settled [] stand now traced = ap (λ (l : CallLog). l.opening) traced.1
same_base opening tree settled (e ∷ older) stand now (was, before, traced, f) =
    let n = enters opening older e.calls was before (traced_reached opening tree settled older was before traced) e.what f.after now f.leads f.counts in
    ap (λ (l : CallLog). l.opening) n.now_is ∙ same_base opening tree settled older was before traced

pub replay_law : ReplayLaw
replay_law opening now newest stand tree settled traced =
    let r = traced_reached opening tree settled newest stand now traced in
    record {
      base = same_base opening tree settled newest stand now traced;
      tree = r.kept.known.guarded.tree;
      shows = λ path other. r.kept.known.shows path (λ part. other (live_part stand.jobs (told_of opening now newest r.part) stand.dirty r.marks now (live_jobs newest) path r.knows r.live part));
    }
