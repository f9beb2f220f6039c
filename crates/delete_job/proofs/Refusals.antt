-- What looks and listings come to.
use Rattle.std.proofs.Common.{◌≡◌, true, refl, sym, subst, inl, inr, Option, Err}
use Rattle.mc_text.specs.Routes.{Route}
use Rattle.tree_trait.specs.declared.file_system.FileSystem.{FileSystem}
use Rattle.tree_trait.specs.declared.calls.TreeError.{TreeError}
use Rattle.tree_trait.specs.declared.calls.TreeError.TheVariants as refused
use Rattle.tree_trait.specs.Calls.{Call, Stat, ListFolder}
use Rattle.tree_trait.specs.FileSystem.{node}
use Rattle.tree_trait.specs.Refusals.{is_folder}
use Rattle.tree_trait.specs.Change.{CallLog, current, found_node}
use Rattle.tree_trait.specs.Answers.{Reads}
use Rattle.job_reports.specs.declared.report.Cause.{Cause}
use Rattle.job_reports.specs.declared.report.Cause.TheVariants.{Tree, TargetKind, SpecialSource, TooDeep, PartTaken, TooLong, Unnamed, Changed, Memory}
use Rattle.job_reports.specs.declared.report.Trouble.{Trouble}
use Rattle.job_reports.specs.Stops.{IsReadingTrouble}
use Rattle.job_reports.proofs.Reading.{told}
use Rattle.delete_job.specs.Descending.{CallStops, LookStops}

-- the refusal of a call that only looks
pub call_stops : {A : Type 0} (P : A → Type 0) (log : CallLog) (call : Call) (look : Route) (e : TreeError) (t : Trouble)
    → Reads {A = A} log call (Err e) P → IsReadingTrouble e look t → CallStops (current log) call look t.cause t.path
call_stops P log call look refused.Memory t h is = subst (λ (u : Trouble). CallStops (current log) call look u.cause u.path) (sym is) refl
call_stops P log call look e t h is = told (λ u. CallStops (current log) call look u.cause u.path) (Tree e) look t is (refl, h) refl

-- a look or a listing of a thing that is refused
pub look_stops : (s : FileSystem) (path : Route) (cause : Cause) (named : Option Route) → CallStops s (Stat path) path cause named → LookStops s path cause named
look_stops s path (Tree e) named h = (h.0, inl h.1)
look_stops s path Memory named h = h
look_stops s path (TargetKind kind) named h = absurd h
look_stops s path SpecialSource named h = absurd h
look_stops s path TooDeep named h = absurd h
look_stops s path PartTaken named h = absurd h
look_stops s path TooLong named h = absurd h
look_stops s path (Unnamed count) named h = absurd h
look_stops s path (Changed said got) named h = absurd h

pub listing_stops : (s : FileSystem) (path : Route) (cause : Cause) (named : Option Route) → is_folder (node s (found_node s path)) ≡ true → CallStops s (ListFolder path) path cause named → LookStops s path cause named
listing_stops s path (Tree e) named folder h = (h.0, inr (folder, h.1))
listing_stops s path Memory named folder h = h
listing_stops s path (TargetKind kind) named folder h = absurd h
listing_stops s path SpecialSource named folder h = absurd h
listing_stops s path TooDeep named folder h = absurd h
listing_stops s path PartTaken named folder h = absurd h
listing_stops s path TooLong named folder h = absurd h
listing_stops s path (Unnamed count) named folder h = absurd h
listing_stops s path (Changed said got) named folder h = absurd h
