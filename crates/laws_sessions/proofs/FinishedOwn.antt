-- A finished job has left no path of its own in doubt: neither what it touches nor the parts that it named.
use Rattle.std.proofs.Common.{◌≡◌, true, sym, subst, inl, inr, ◌⊎◌, ap}
use Rattle.mc_text.specs.Routes.{Route}
use Rattle.tree_trait.specs.Change.{CallLog}
use Rattle.make_job.specs.declared.new_thing.NewThing.{NewThing}
use Rattle.make_job.specs.declared.new_thing.NewThing.TheVariants as thing
use Rattle.session_entries.specs.LiveJobs.{live_jobs}
use Rattle.copy_move.specs.declared.work.Work.{Work}
use Rattle.copy_move.specs.declared.work.Work.TheVariants.{Copy, Delete, Make, Move, SetMode, RemoveEmptied}
use Rattle.laws_sessions.specs.Owed.{FinishedLaw}
use Rattle.laws_sessions.specs.OwnPaths.{IsOwnPath, has_named_part}
use Rattle.laws_sessions.specs.Staying.{IsNoMatterOf}
use Rattle.laws_sessions.specs.Touched.{touches}
use Rattle.laws_sessions.proofs.FinishedPaths.{IsNoMatter, IsPartStill, finished_goes, paths_left}
use Rattle.laws_sessions.proofs.Histories.{traced_reached}
use Rattle.laws_sessions.proofs.OwnParts.{AreOwn, IsOwnPart, parts_own}
use Rattle.laws_sessions.proofs.Reports.{HasLive, told_item}
use Rattle.laws_sessions.proofs.Sources.{item_in, making_item}
use Rattle.laws_sessions.proofs.TreeKnown.{is_over}

-- what is no matter of the work
no_matter : (work : Work) (log : CallLog) (path : Route) → IsNoMatter work log path → IsNoMatterOf (item_in work) log path
no_matter (Copy c) log path h = h
no_matter (Delete d) log path h = h
no_matter (Make m) log path h = by m.thing
  where
    by : (new : NewThing) → IsNoMatterOf (making_item new m.path) log path
    by thing.Folder = h
    by (thing.Link text) = h
no_matter (Move m) log path h = h
no_matter (SetMode s) log path h = absurd h
no_matter (RemoveEmptied r) log path h = h

pub finished_law : FinishedLaw
finished_law opening now after newest stand dirty job new part item path tree settled traced jobs_is works changed its own =
    let left = paths_left opening now after newest stand dirty job new part path tree settled traced jobs_is works changed (of_work own) in
    (left.0, λ unnamed none. left.1 unnamed (λ matter. none (subst (λ i. IsNoMatterOf i now path) same (no_matter job.work now path matter))))
  where
    same : item_in job.work ≡ item
    same = let r = traced_reached opening tree settled newest stand now traced in told_item job (live_jobs newest) r.part item (subst (λ js. HasLive (live_jobs newest) js r.part) jobs_is r.live) its

    parts : (p : Route) → has_named_part job.id p newest ≡ true → IsOwnPart newest job p
    parts =
        let goes = finished_goes opening now after newest stand dirty job new part tree settled traced jobs_is works changed in
        subst (λ js. AreOwn newest js) jobs_is (parts_own opening tree settled newest stand now traced) (ap is_over goes)

    of_work : IsOwnPath job.id item newest path → (touches (item_in job.work) path ≡ true) ⊎ IsPartStill newest job path
    of_work (inl touched) = inl (subst (λ i. touches i path ≡ true) (sym same) touched)
    of_work (inr named) = let part = parts path named.0 in elim part.1 [ inl touched ↦ inl touched | inr among ↦ inr (part.0, among) ]
