-- With one job live at a time each part of a live job is that one's.
use Rattle.std.proofs.Common.{◌≡◌, ℕ, Bool, true, false, not, ◌&&◌, ◌||◌, List, [], ◌∷◌, refl, sym, ◌∙◌, ap, subst, inl, inr, Option, Some, None, if◌then◌else◌}
use Rattle.std.specs.Prelude.{◌==◌, map}
use Rattle.std.specs.Option.{option_map_or}
use Rattle.std.proofs.lemmas.Bool.{eq-eqb}
use Rattle.mc_text.specs.Routes.{Route, same_path}
use Rattle.tree_trait.specs.Shape.{IsTree}
use Rattle.tree_trait.specs.Change.{CallLog, current}
use Rattle.tree_trait.specs.CrashImages.{Among, all_settled}
use Rattle.job_reports.specs.declared.report.Did.{Did}
use Rattle.job_reports.specs.declared.report.Did.TheVariants.{Began, Chunk, Placed, Removed, Made, Set, Kept, Skipped, Cleaned, Barrier, Asked, Merges, Moved, Troubled, Ended}
use Rattle.job_reports.specs.Jobs.{ItemOfJob, item_of}
use Rattle.session_entries.specs.declared.history.Event.{Event}
use Rattle.session_entries.specs.declared.history.Event.TheVariants.{Key, Look, Sought, Order, Step, Next, Closed}
use Rattle.session_entries.specs.declared.history.Event.TheVariants as event
use Rattle.session_entries.specs.declared.history.Entry.{Entry}
use Rattle.session_entries.specs.LiveJobs.{LiveJob, after_event, after_report, live, live_item, live_jobs, turned_live_job}
use Rattle.session_entries.specs.Named.{NamedPart, is_part_of_other, live_parts, live_parts_after, live_parts_by}
use Rattle.copy_move.specs.Jobs.{Running}
use Rattle.laws_sessions.specs.LiveParts.{NoOtherPartsLaw}
use Rattle.laws_sessions.specs.Traces.{EventLeads, IsJob, IsTraced, Stand}
use Rattle.laws_sessions.proofs.Going.{only_job}
use Rattle.laws_sessions.proofs.Histories.{IsReached, traced_reached}
use Rattle.laws_sessions.proofs.OneLive.{one_id}
use Rattle.laws_sessions.proofs.Prefixes.{told_of}
use Rattle.laws_sessions.proofs.Reports.{HasLive}
use Rattle.laws_sessions.proofs.Sources.{item_in}

-- each of these parts was named by one of these jobs
abbrev AreOwned : List LiveJob → List NamedPart → Type 0
AreOwned jobs parts = (part : NamedPart) → Among parts part → (job : LiveJob) × Among jobs job × (part.id ≡ job.id)

-- none of those that pass a test that none passes
none_passes : (test : NamedPart → Bool) (parts : List NamedPart) → ((part : NamedPart) → Among parts part → test part ≡ false) → (part : NamedPart) → Among (Rattle.std.specs.Prelude.filter test parts) part → ⊥
none_passes test [] none part among = among
none_passes test (first ∷ rest) none part among = by (test first) (none first (inl refl)) among (none_passes test rest (λ p in_rest. none p (inr in_rest)) part)
  where
    by : (b : Bool) → b ≡ false → Among (if◌then◌else◌ b (first ∷ Rattle.std.specs.Prelude.filter test rest) (Rattle.std.specs.Prelude.filter test rest)) part → (Among (Rattle.std.specs.Prelude.filter test rest) part → ⊥) → ⊥
    by true is more none_of = absurd (let f : ⊥ = cc in f)
    by false is more none_of = none_of more

-- after a report of the one live job
module _ (l : LiveJob) (id : ℕ) (its : l.id ≡ id) (parts : List NamedPart) (owned : (part : NamedPart) → Among parts part → part.id ≡ l.id) where
  stays : (part : Option Route) (b : Bool) → AreOwned (if◌then◌else◌ b ((record l { part = part }) ∷ []) (l ∷ [])) parts
  stays part true p among = (record l { part = part }, inl refl, owned p among)
  stays part false p among = (l, inl refl, owned p among)

  begins : (path : Route) (b : Bool) → AreOwned (if◌then◌else◌ b ((record l { part = Some path }) ∷ []) (l ∷ [])) ((let n : NamedPart = record { id = id; path = path } in n) ∷ parts)
  begins path true p (inl same) = (record l { part = Some path }, inl refl, ap (λ (n : NamedPart). n.id) same ∙ sym its)
  begins path true p (inr among) = (record l { part = Some path }, inl refl, owned p among)
  begins path false p (inl same) = (l, inl refl, ap (λ (n : NamedPart). n.id) same ∙ sym its)
  begins path false p (inr among) = (l, inl refl, owned p among)

  reported : (did : Did) → AreOwned (after_report id did (l ∷ [])) (live_parts_by id did parts)
  reported (Ended ending part) = λ p among.
      absurd (none_passes (λ (named : NamedPart). not (named.id == id)) parts (λ q is. ap not (eq-eqb q.id id (owned q is ∙ its))) p among)
  reported (Began part) = begins part (l.id == id)
  reported (Placed path) = stays None (l.id == id)
  reported (Cleaned part) = stays None (l.id == id)
  reported (Chunk count) = stays l.part (l.id == id)
  reported (Set path) = stays l.part (l.id == id)
  reported (Removed path) = stays l.part (l.id == id)
  reported (Made made) = stays l.part (l.id == id)
  reported (Kept kept) = stays l.part (l.id == id)
  reported (Skipped path cause) = stays l.part (l.id == id)
  reported Barrier = stays l.part (l.id == id)
  reported (Asked question) = stays l.part (l.id == id)
  reported (Merges transfer pair names) = stays l.part (l.id == id)
  reported (Moved pair) = stays l.part (l.id == id)
  reported (Troubled trouble) = stays l.part (l.id == id)

  -- and after it has gone on with its next source
  turned : (o : Option ItemOfJob) → AreOwned (option_map_or (λ item. map (turned_live_job id item) (l ∷ [])) o (l ∷ [])) parts
  turned None p among = (l, inl refl, owned p among)
  turned (Some item) p among = by (l.id == id)
    where
      by : (b : Bool) → (job : LiveJob) × Among (if◌then◌else◌ b (live id item) l ∷ []) job × (p.id ≡ job.id)
      by true = (live id item, inl refl, owned p among ∙ its)
      by false = (l, inl refl, owned p among)

one_owned : (l : LiveJob) (parts : List NamedPart) → AreOwned (l ∷ []) parts → (part : NamedPart) → Among parts part → part.id ≡ l.id
one_owned l parts owned part among = let o = owned part among in by o.0 o.1 o.2
  where
    by : (job : LiveJob) → Among (l ∷ []) job → part.id ≡ job.id → part.id ≡ l.id
    by job (inl same) is = is ∙ ap (λ (j : LiveJob). j.id) same
    by job (inr none) is = absurd none

module _ (opening : CallLog) (tree : IsTree (current opening)) (settled : all_settled opening.changes ≡ true) where
  module _ (older : List Entry) (was : Stand) (before : CallLog) (traced : IsTraced opening older was before) (owned : AreOwned (live_jobs older) (live_parts older)) where
    r : IsReached opening older was before
    r = traced_reached opening tree settled older was before traced

    one : (id : ℕ) (job : Running) → IsJob id was.jobs job → (l : LiveJob) × (live_jobs older ≡ l ∷ []) × (l.id ≡ id)
    one id job its =
        let only = only_job id was.jobs job (told_of opening before older r.part) was.dirty r.marks before its r.knows in
        let l : LiveJob = record { id = job.id; item = item_in job.work; part = r.part } in
        (l, subst (λ js. HasLive (live_jobs older) js r.part) only.0 r.live, only.1)

    of_one : (l : LiveJob) → live_jobs older ≡ l ∷ [] → (part : NamedPart) → Among (live_parts older) part → part.id ≡ l.id
    of_one l is = one_owned l (live_parts older) (subst (λ js. AreOwned js (live_parts older)) is owned)

    by : (what : Event) (after : Stand) (now : CallLog) → EventLeads was what after before now → AreOwned (after_event what (live_jobs older)) (live_parts_after what (live_parts older))
    by (Step id did) after now s =
        let o = one id s.job s.its in
        subst (λ js. AreOwned (after_report id did js) (live_parts_by id did (live_parts older))) (sym o.1) (reported o.0 id o.2 (live_parts older) (of_one o.0 o.1) did)
    by (Next id plan) after now s =
        let o = one id s.job s.its in
        subst (λ js. AreOwned (option_map_or (λ item. map (turned_live_job id item) js) (item_of plan) js) (live_parts older)) (sym o.1) (turned o.0 id o.2 (live_parts older) (of_one o.0 o.1) (item_of plan))
    by (event.Began id plan background) after now s = λ part among.
        let none : live_jobs older ≡ [] = subst (λ js. HasLive (live_jobs older) js r.part) s.none_live r.live in
        let o = subst (λ js. AreOwned js (live_parts older)) none owned part among in absurd o.1
    by (Key key time refusals lost) after now s = owned
    by (Look refusals) after now s = owned
    by Sought after now s = owned
    by (Order id order) after now s = owned
    by Closed after now s = owned

  all_owned : (g : List Entry) (stand : Stand) (now : CallLog) → IsTraced opening g stand now → AreOwned (live_jobs g) (live_parts g)
  all_owned [] stand now traced = λ part among. absurd among
  all_owned (e ∷ older) stand now (was, before, traced, f) = by older was before traced (all_owned older was before traced) e.what f.after now f.leads

-- a part of the job isn't another one's
none_other : (id : ℕ) (parts : List NamedPart) (path : Route) → ((part : NamedPart) → Among parts part → part.id ≡ id) → is_part_of_other id parts path ≡ false
none_other id [] path own = refl
none_other id (first ∷ rest) path own =
    ap (λ b. (not b && same_path path first.path) || is_part_of_other id rest path) (eq-eqb first.id id (own first (inl refl))) ∙ none_other id rest path (λ part among. own part (inr among))

pub no_other_parts : NoOtherPartsLaw
no_other_parts opening now newest stand id item path tree settled traced its =
    none_other id (live_parts newest) path (of_shape stand.jobs (all_owned opening tree settled newest stand now traced) r.live)
  where
    r : IsReached opening newest stand now
    r = traced_reached opening tree settled newest stand now traced

    of_shape : (jobs : List Running) → AreOwned (live_jobs newest) (live_parts newest) → HasLive (live_jobs newest) jobs r.part → (part : NamedPart) → Among (live_parts newest) part → part.id ≡ id
    of_shape [] owned is part among = let o = subst (λ js. AreOwned js (live_parts newest)) is owned part among in absurd o.1
    of_shape (job ∷ []) owned is part among =
        let l : LiveJob = record { id = job.id; item = item_in job.work; part = r.part } in
        one_owned l (live_parts newest) (subst (λ js. AreOwned js (live_parts newest)) is owned) part among ∙ one_id l id item (subst (λ js. live_item id js ≡ Some item) is its)
    of_shape (job ∷ other ∷ jobs) owned is part among = absurd is
