-- What the entries of a history say of a path that they don't name: what it shows, what it showed before, and whether it was a part.
use Rattle.std.proofs.Common.{◌≡◌, ◌||◌, Bool, true, false, not, List, [], ◌∷◌, refl, sym, ◌∙◌, ap, subst, inl, inr, Option, Some, None}
use Rattle.std.proofs.lemmas.Bool.{both_ways}
use Rattle.mc_text.specs.Routes.{Route, same_path}
use Rattle.tree_trait.specs.FileSystem.{View, value_at}
use Rattle.tree_trait.specs.Change.{CallLog, current}
use Rattle.tree_trait.specs.CrashImages.{Among}
use Rattle.tree_trait.proofs.Visible.{same_path-self}
use Rattle.job_reports.specs.declared.report.Did.{Did}
use Rattle.job_reports.specs.declared.report.Did.TheVariants.{Began, Chunk, Placed, Removed, Made, Set, Kept, Skipped, Cleaned, Barrier, Asked, Merges, Moved, Troubled, Ended}
use Rattle.job_reports.specs.Jobs.{ItemOfJob, Copies, Moves, Removes, Makes, MakesLink, Sets, RemovesEmptied}
use Rattle.session_entries.specs.declared.history.Event.{Event}
use Rattle.session_entries.specs.declared.history.Event.TheVariants.{Key, Look, Sought, Order, Step, Next, Closed}
use Rattle.session_entries.specs.declared.history.Event.TheVariants as event
use Rattle.session_entries.specs.declared.history.Entry.{Entry}
use Rattle.session_entries.specs.LiveJobs.{LiveJob, live_jobs, live_item}
use Rattle.session_entries.specs.Named.{IsUnnamedSince, named_by, names, names_path, still_parts}
use Rattle.session_entries.specs.Moves.{moved_from}
use Rattle.laws_sessions.specs.Replayed.{earlier_step, log_prefix, made_by, placed_by, placed_copy, replayed_event, replayed_step, replayed_tree, set_by, with_mode, with_mode_of}
use Rattle.laws_sessions.proofs.AmongParts.{if_among_other}
use Rattle.laws_sessions.proofs.Deleted.{put_off}
use Rattle.laws_sessions.proofs.MovedPaths.{kept_off, moved_off, named_off}
use Rattle.laws_sessions.proofs.Owing.{in_filter}

-- a path that an entry doesn't name has what it had
placed_unnamed : (item : Option ItemOfJob) (target : Route) (v : View) (path : Route) → same_path path target ≡ false → placed_by item target v path ≡ v path
placed_unnamed (Some (Copies source to)) target v path unnamed = put_off v target (Rattle.std.specs.Option.option_map placed_copy (v (moved_from source to target)).value) path unnamed
placed_unnamed (Some (Moves source to)) target v path unnamed = refl
placed_unnamed (Some (Removes file)) target v path unnamed = refl
placed_unnamed (Some (Makes folder)) target v path unnamed = refl
placed_unnamed (Some (MakesLink link text)) target v path unnamed = refl
placed_unnamed (Some (Sets thing mode)) target v path unnamed = refl
placed_unnamed (Some (RemovesEmptied folder)) target v path unnamed = refl
placed_unnamed None target v path unnamed = refl

set_unnamed : (item : Option ItemOfJob) (changed : Route) (v : View) (path : Route) → same_path path changed ≡ false → set_by item changed v path ≡ v path
set_unnamed (Some (Copies source target)) changed v path unnamed = put_off v changed (Rattle.std.specs.Option.option_map (with_mode_of (v (moved_from source target changed)).value) (v changed).value) path unnamed
set_unnamed (Some (Moves source target)) changed v path unnamed = refl
set_unnamed (Some (Removes file)) changed v path unnamed = refl
set_unnamed (Some (Makes folder)) changed v path unnamed = refl
set_unnamed (Some (MakesLink link text)) changed v path unnamed = refl
set_unnamed (Some (Sets thing mode)) changed v path unnamed = put_off v changed (Rattle.std.specs.Option.option_map (with_mode mode) (v changed).value) path unnamed
set_unnamed (Some (RemovesEmptied folder)) changed v path unnamed = refl
set_unnamed None changed v path unnamed = refl

pub step_unnamed : (log : CallLog) (did : Did) (item : Option ItemOfJob) (v : View) (path : Route) → names did path ≡ false → replayed_step log did item v path ≡ v path
step_unnamed log (Removed file) item v path unnamed = put_off v file None path unnamed
step_unnamed log (Placed target) item v path unnamed = placed_unnamed item target v path unnamed
step_unnamed log (Ended ending (Some part)) item v path unnamed = put_off v part (value_at (current log) part) path unnamed
step_unnamed log (Set changed) item v path unnamed = set_unnamed item changed v path unnamed
step_unnamed log (Made folder) item v path unnamed = put_off v folder (Some (made_by item folder v)) path unnamed
step_unnamed log (Moved pair) item v path unnamed = moved_off pair v path unnamed
step_unnamed log did item v path unnamed = refl

event_unnamed : (log : CallLog) (what : Event) (jobs : List LiveJob) (v : View) (path : Route) → names_path what path ≡ false → replayed_event log what jobs v path ≡ v path
event_unnamed log (Step id did) jobs v path unnamed = step_unnamed log did (live_item id jobs) v path unnamed
event_unnamed log (event.Began id plan background) jobs v path unnamed = refl
event_unnamed log (Order id order) jobs v path unnamed = refl
event_unnamed log (Next id plan) jobs v path unnamed = refl
event_unnamed log (Key key time refusals lost) jobs v path unnamed = refl
event_unnamed log (Look refusals) jobs v path unnamed = refl
event_unnamed log Sought jobs v path unnamed = refl
event_unnamed log Closed jobs v path unnamed = refl

pub replayed_since : (opening end : CallLog) (older g : List Entry) (path : Route) → IsUnnamedSince older path g → replayed_tree opening end g path ≡ replayed_tree opening end older path
replayed_since opening end older [] path same = ap (λ x. replayed_tree opening end x path) (sym same)
replayed_since opening end older (e ∷ g) path (inl same) = ap (λ x. replayed_tree opening end x path) (sym same)
replayed_since opening end older (e ∷ g) path (inr (unnamed, since)) =
    event_unnamed (log_prefix opening e.calls end) e.what (live_jobs g) (replayed_tree opening end g) path unnamed ∙ replayed_since opening end older g path since

-- a path that no entry names is a named part only if it was one
pub named_step : (did : Did) (is_other : Route → Bool) (left parts : List Route) (path : Route) → names did path ≡ false → Among (named_by did is_other left parts) path → Among parts path
named_step (Began part) is_other left parts path unnamed (inl same) = absurd (both_ways _ unnamed (subst (λ q. same_path path q ≡ true) same (same_path-self path)))
named_step (Began part) is_other left parts path unnamed (inr among) = among
named_step (Placed target) is_other left parts path unnamed among =
    in_filter (λ kept. is_other kept || not (same_path kept target)) path parts (if_among_other target path left (still_parts is_other (λ part. same_path part target) parts) unnamed among)
named_step (Made folder) is_other left parts path unnamed among = in_filter (λ kept. is_other kept || not (same_path kept folder)) path parts among
named_step (Moved pair) is_other left parts path unnamed among = named_off pair is_other left parts path unnamed among
named_step did is_other left parts path unnamed among = among

-- what it showed before its last change stays so, too
pub earlier_unnamed : (did : Did) (v before : View) (path : Route) → names did path ≡ false → earlier_step did v before path ≡ before path
earlier_unnamed (Placed target) v before path unnamed = put_off before target (v target).value path unnamed
earlier_unnamed (Removed file) v before path unnamed = put_off before file (v file).value path unnamed
earlier_unnamed (Made folder) v before path unnamed = put_off before folder (v folder).value path unnamed
earlier_unnamed (Set changed) v before path unnamed = put_off before changed (v changed).value path unnamed
earlier_unnamed (Moved pair) v before path unnamed = kept_off pair v before path unnamed
earlier_unnamed did v before path unnamed = refl
