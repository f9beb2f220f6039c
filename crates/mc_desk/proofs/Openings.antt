-- How a session's screen opens, and why it doesn't.
use Rattle.std.proofs.Common.{◌≡◌, ◌≢◌, ℕ, true, [], IfOk, IfErr, refl, sym, ◌∙◌, ap, subst, Option, Some, None, Result, Ok, Err}
use Rattle.std.specs.Option.{option_map}
use Rattle.std.proofs.lemmas.Bool.{false≢true}
use Rattle.mc_text.specs.Routes.{Route, path_text}
use Rattle.mc_text.specs.declared.error.NoMemory.{NoMemory}
use Rattle.tree_trait.specs.declared.calls.TreeError.{TreeError}
use Rattle.tree_trait.specs.declared.calls.TreeError.TheVariants as tree
use Rattle.tree_trait.specs.declared.file_system.FileSystem.{FileSystem}
use Rattle.tree_trait.specs.Calls.{ReadAt}
use Rattle.tree_trait.specs.Refusals.{refusal_of}
use Rattle.tree_trait.specs.Change.{CallLog, current}
use Rattle.tree_trait.specs.Answers.{HasRisen, IfKnown}
use Rattle.resolving.specs.declared.error.ResolveError.{ResolveError}
use Rattle.resolving.specs.declared.error.ResolveError.TheVariants.{Tree, TooManyLinks, TooLong, BadName, Fault, Memory}
use Rattle.resolving.specs.declared.walking.Wanted.TheVariants.{AnyThing, FolderAlone}
use Rattle.resolving.specs.Errors.{Answers}
use Rattle.resolving.specs.Resolution.{resolved_path}
use Rattle.panel_state.specs.Panels.{PanelState}
use Rattle.panel_state.specs.Goings.{ShowsResolved}
use Rattle.panel_pair.specs.declared.side.Side.{Side}
use Rattle.panel_pair.specs.declared.side.Side.TheVariants.{Left, Right}
use Rattle.panel_pair.specs.Openings.{OpensBoth, RefusesSide, ShowsPath}
use Rattle.panel_pair.specs.Pairs.{PairState}
use Rattle.mc_viewer.specs.Viewing.{IsReadable, IsRefused}
use Rattle.ui_viewer.specs.declared.opening.Opening.TheVariants.{Viewed, NoWay, Unread}
use Rattle.ui_viewer.specs.declared.opening.Opening.{Opening}
use Rattle.ui_viewer.specs.Openings.{OpensThing, ReadsToOpen}
use Rattle.ui_viewer.specs.ViewerScreens.{ViewerScreen}
use Rattle.mc_ui.specs.Screens.{Screen, opened_screen}
use Rattle.mc_desk.specs.Sessions.{OpensPanels, OpensViewer, just_opened}
use Rattle.mc_desk.specs.declared.starts.StartError.{StartError}
use Rattle.mc_desk.specs.declared.starts.StartMode.TheVariants.{Panels, View}
use Rattle.mc_desk.specs.declared.starts.StartPlace.TheVariants as place
use Rattle.mc_desk.specs.Starts.{CanStart, IsRefusal, IsStartCause, file_refusal, is_start_fault, path_refusal, refusal_at_end, unread_at_end}
use Rattle.mc_desk.specs.StartedDesks.{Starts, place_of, start_error, unread_error, viewed_alone}

-- panels that were just opened make a screen as it opens
pub opens : (contents : Option CallLog) (left right : Route) (home : Option Route) (lines columns : ℕ) (pair : PairState) (now : ℕ) (screen : Screen) → pair ≡ just_opened pair → screen ≡ opened_screen pair home lines columns now
    → IfKnown contents (λ known. OpensBoth known left right (Ok pair)) → OpensPanels contents left right home lines columns screen
opens contents left right home lines columns pair now screen fresh is shows =
    subst (λ s. OpensPanels contents left right home lines columns s) (sym is) (record { shows = shows; opened = ap (λ p. opened_screen p home lines columns now) fresh })

-- a path whose folder is shown leads to one that can be listed
shown_leads : (log : CallLog) (found : Result Route ResolveError) (panel : PanelState) → ShowsResolved log found (Ok panel) → refusal_at_end (current log) found ≡ None
shown_leads log (Ok folder) panel h = ap (option_map (λ (e : TreeError). Tree folder e)) h.1.0
shown_leads log (Err e) panel h = absurd cc

pub path_shown : (log : CallLog) (path : Route) (panel : PanelState) → ShowsPath log path (Ok panel) → path_refusal (current log) path ≡ None
path_shown log path panel h = shown_leads log (resolved_path (current log) FolderAlone [] (path_text path)) panel h

-- why a folder isn't shown is why the path leads to none that can be listed
tree_refuses : (log : CallLog) (found : Result Route ResolveError) (at : Route) (cause : TreeError) → ShowsResolved log found (Err (Tree at cause)) → refusal_at_end (current log) found ≡ Some (Tree at cause)
tree_refuses log (Ok folder) at cause h = ap (option_map (λ (e : TreeError). Tree folder e)) h.1 ∙ ap (λ f. Some (Tree f cause)) (sym h.0)
tree_refuses log (Err e) at cause h = cc

many_links : (log : CallLog) (found : Result Route ResolveError) → ShowsResolved log found (Err TooManyLinks) → refusal_at_end (current log) found ≡ Some TooManyLinks
many_links log (Ok folder) h = absurd h
many_links log (Err e) h = cc

too_long : (log : CallLog) (found : Result Route ResolveError) → ShowsResolved log found (Err TooLong) → refusal_at_end (current log) found ≡ Some TooLong
too_long log (Ok folder) h = absurd h
too_long log (Err e) h = cc

bad_name : (log : CallLog) (found : Result Route ResolveError) → ShowsResolved log found (Err BadName) → refusal_at_end (current log) found ≡ Some BadName
bad_name log (Ok folder) h = absurd h
bad_name log (Err e) h = cc

abbrev found_at : CallLog → Route → Result Route ResolveError
found_at log path = resolved_path (current log) FolderAlone [] (path_text path)

-- a path that was refused is why the session doesn't start
pub start_refused : (log : CallLog) (left right : Route) (side : Side) (e : ResolveError) → RefusesSide log left right side e → IsStartCause (current log) (Panels left right) (start_error (place_of side) e)
start_refused log left right Left Memory h = tt
start_refused log left right Right Memory h = tt
start_refused log left right Left Fault h = tt
start_refused log left right Left (Tree at cause) h = tree_refuses log (found_at log left) at cause h
start_refused log left right Left TooManyLinks h = many_links log (found_at log left) h
start_refused log left right Left TooLong h = too_long log (found_at log left) h
start_refused log left right Left BadName h = bad_name log (found_at log left) h
start_refused log left right Right Fault h = (path_shown log left h.0.0 h.0.1, tt)
start_refused log left right Right (Tree at cause) h = (path_shown log left h.0.0 h.0.1, tree_refuses log (found_at log right) at cause h.1)
start_refused log left right Right TooManyLinks h = (path_shown log left h.0.0 h.0.1, many_links log (found_at log right) h.1)
start_refused log left right Right TooLong h = (path_shown log left h.0.0 h.0.1, too_long log (found_at log right) h.1)
start_refused log left right Right BadName h = (path_shown log left h.0.0 h.0.1, bad_name log (found_at log right) h.1)

-- where both panels show their folders, both paths lead to folders that can be listed
pub both_lead : (log : CallLog) (left right : Route) (pair : PairState) → OpensBoth log left right (Ok pair) → CanStart (current log) (Panels left right)
both_lead log left right pair h = (path_shown log left pair.current h.0, path_shown log right pair.other h.1)

-- THE VIEWER

-- a file that is viewed can be read where its path leads
file_leads : (contents : Option CallLog) (path : Route) (lines columns : ℕ) (viewer : ViewerScreen) → OpensThing contents [] (path_text path) lines columns (Viewed viewer) → IfKnown contents (λ log. CanStart (current log) (View path))
unfolding IsReadable
file_leads contents path lines columns viewer (at, leads, opened) log known =
    ap (unread_at_end (current log)) (leads log known) ∙ ap (option_map (λ (e : TreeError). Tree at e)) (opened.readable log known)

-- a way that was refused is why it isn't
way_refuses : (s : FileSystem) (found : Result Route ResolveError) (e : ResolveError) → e ≢ Memory → Answers {A = Route} found (Err e) → IsRefusal (unread_at_end s found) e
way_refuses s found Fault some answers = tt
way_refuses s found Memory some answers = absurd (some refl)
way_refuses s found (Tree at e) some answers = ap (unread_at_end s) answers
way_refuses s found TooManyLinks some answers = ap (unread_at_end s) answers
way_refuses s found TooLong some answers = ap (unread_at_end s) answers
way_refuses s found BadName some answers = ap (unread_at_end s) answers

no_memory : (s : FileSystem) (path : Route) (e : ResolveError) → e ≢ Memory → IsRefusal (file_refusal s path) e → IsStartCause s (View path) (start_error place.File e)
no_memory s path Fault some h = tt
no_memory s path Memory some h = tt
no_memory s path (Tree at e) some h = h
no_memory s path TooManyLinks some h = h
no_memory s path TooLong some h = h
no_memory s path BadName some h = h

no_way : (contents : Option CallLog) (path : Route) (lines columns : ℕ) (e : ResolveError) → OpensThing contents [] (path_text path) lines columns (NoWay e)
    → IfKnown contents (λ log. IsStartCause (current log) (View path) (start_error place.File e))
no_way contents path lines columns e (some, answers) log known =
    no_memory (current log) path e some (way_refuses (current log) (resolved_path (current log) AnyThing [] (path_text path)) e some (answers log known))

-- and so is a file that can't be read
at_end : (s : FileSystem) (path at file : Route) (e : TreeError) → at ≡ file → resolved_path s AnyThing [] (path_text path) ≡ Ok file → refusal_of s (ReadAt file 0 0) ≡ Some e → file_refusal s path ≡ Some (Tree at e)
at_end s path at file e same leads refused =
    ap (unread_at_end s) leads ∙ (ap (option_map (λ (e : TreeError). Tree file e)) refused ∙ ap (λ (p : Route). Some (Tree p e)) (sym same))

unread : (contents : Option CallLog) (path : Route) (lines columns : ℕ) (at : Route) (e : TreeError) → OpensThing contents [] (path_text path) lines columns (Unread at e)
    → IfKnown contents (λ log. IsStartCause (current log) (View path) (unread_error at e))
unfolding IsRefused
unread contents path lines columns at tree.Missing (file, leads, (same, some, refused)) log known = at_end (current log) path at file tree.Missing same (leads log known) (refused log known)
unread contents path lines columns at tree.NotFolder (file, leads, (same, some, refused)) log known = at_end (current log) path at file tree.NotFolder same (leads log known) (refused log known)
unread contents path lines columns at tree.Denied (file, leads, (same, some, refused)) log known = at_end (current log) path at file tree.Denied same (leads log known) (refused log known)
unread contents path lines columns at tree.Exists (file, leads, (same, some, refused)) log known = at_end (current log) path at file tree.Exists same (leads log known) (refused log known)
unread contents path lines columns at tree.IsFolder (file, leads, (same, some, refused)) log known = at_end (current log) path at file tree.IsFolder same (leads log known) (refused log known)
unread contents path lines columns at tree.NotEmpty (file, leads, (same, some, refused)) log known = at_end (current log) path at file tree.NotEmpty same (leads log known) (refused log known)
unread contents path lines columns at tree.IntoItself (file, leads, (same, some, refused)) log known = at_end (current log) path at file tree.IntoItself same (leads log known) (refused log known)
unread contents path lines columns at tree.Mounted (file, leads, (same, some, refused)) log known = at_end (current log) path at file tree.Mounted same (leads log known) (refused log known)
unread contents path lines columns at tree.CrossMount (file, leads, (same, some, refused)) log known = at_end (current log) path at file tree.CrossMount same (leads log known) (refused log known)
unread contents path lines columns at tree.NoSpace (file, leads, (same, some, refused)) log known = at_end (current log) path at file tree.NoSpace same (leads log known) (refused log known)
unread contents path lines columns at tree.Special (file, leads, (same, some, refused)) log known = at_end (current log) path at file tree.Special same (leads log known) (refused log known)
unread contents path lines columns at tree.Fault h log known = tt
unread contents path lines columns at tree.Memory h log known = tt

-- the screen on which a file is viewed alone, as the session opens
pub viewer_opens : (contents : Option CallLog) (path : Route) (home : Option Route) (lines columns now : ℕ) (opening : Opening) (result : Result Screen StartError) → OpensThing contents [] (path_text path) lines columns opening
    → result ≡ viewed_alone opening home lines columns now → IfOk result (OpensViewer contents path home lines columns)
viewer_opens contents path home lines columns now (Viewed viewer) result opens is =
    subst (λ r. IfOk r (OpensViewer contents path home lines columns)) (sym is) (record { viewer = viewer; shows = opens; opened = refl })
viewer_opens contents path home lines columns now (NoWay e) result opens is = subst (λ r. IfOk r (OpensViewer contents path home lines columns)) (sym is) tt
viewer_opens contents path home lines columns now (Unread at e) result opens is = subst (λ r. IfOk r (OpensViewer contents path home lines columns)) (sym is) tt

-- or why it doesn't
pub viewer_starts : (contents : Option CallLog) (path : Route) (home : Option Route) (lines columns now : ℕ) (opening : Opening) (result : Result Screen StartError) → OpensThing contents [] (path_text path) lines columns opening
    → result ≡ viewed_alone opening home lines columns now → IfKnown contents (λ log. Starts (current log) (View path) result)
viewer_starts contents path home lines columns now (Viewed viewer) result opens is log known =
    subst (λ (r : Result Screen StartError). Starts (current log) (View path) r) (sym is) (file_leads contents path lines columns viewer opens log known)
viewer_starts contents path home lines columns now (NoWay e) result opens is log known =
    subst (λ (r : Result Screen StartError). Starts (current log) (View path) r) (sym is) (no_way contents path lines columns e opens log known)
viewer_starts contents path home lines columns now (Unread at e) result opens is log known =
    subst (λ (r : Result Screen StartError). Starts (current log) (View path) r) (sym is) (unread contents path lines columns at e opens log known)

-- a fault that is told was counted
way_fault : (e : ResolveError) → is_start_fault (start_error place.File e) ≡ true → e ≡ Fault
way_fault Fault told = refl
way_fault Memory told = absurd (false≢true told)
way_fault (Tree at e) told = absurd (false≢true told)
way_fault TooManyLinks told = absurd (false≢true told)
way_fault TooLong told = absurd (false≢true told)
way_fault BadName told = absurd (false≢true told)

read_fault : (at : Route) (e : TreeError) → is_start_fault (unread_error at e) ≡ true → e ≡ tree.Fault
read_fault at tree.Missing told = absurd (false≢true told)
read_fault at tree.NotFolder told = absurd (false≢true told)
read_fault at tree.Denied told = absurd (false≢true told)
read_fault at tree.Exists told = absurd (false≢true told)
read_fault at tree.IsFolder told = absurd (false≢true told)
read_fault at tree.NotEmpty told = absurd (false≢true told)
read_fault at tree.IntoItself told = absurd (false≢true told)
read_fault at tree.Mounted told = absurd (false≢true told)
read_fault at tree.CrossMount told = absurd (false≢true told)
read_fault at tree.NoSpace told = absurd (false≢true told)
read_fault at tree.Special told = absurd (false≢true told)
read_fault at tree.Fault told = refl
read_fault at tree.Memory told = absurd (false≢true told)

pub viewer_fault : (before after : Option CallLog) (faults faults_after : ℕ) (home : Option Route) (lines columns now : ℕ) (r : Result Opening NoMemory) (opening : Opening) (result : Result Screen StartError) → r ≡ Ok opening
    → ReadsToOpen r before after faults faults_after → result ≡ viewed_alone opening home lines columns now → IfErr result (λ e. is_start_fault e ≡ true → HasRisen faults faults_after)
viewer_fault before after faults faults_after home lines columns now r (Viewed viewer) result same reads is =
    subst (λ (x : Result Screen StartError). IfErr x (λ e. is_start_fault e ≡ true → HasRisen faults faults_after)) (sym is) tt
viewer_fault before after faults faults_after home lines columns now r (NoWay e) result same reads is =
    let told = subst (λ (x : Result Opening NoMemory). ReadsToOpen x before after faults faults_after) same reads in
    subst (λ (x : Result Screen StartError). IfErr x (λ e. is_start_fault e ≡ true → HasRisen faults faults_after)) (sym is) (λ fault. told.way_fault (ap (λ (w : ResolveError). NoWay w) (way_fault e fault)))
viewer_fault before after faults faults_after home lines columns now r (Unread at e) result same reads is =
    let told = subst (λ (x : Result Opening NoMemory). ReadsToOpen x before after faults faults_after) same reads in
    subst (λ (x : Result Screen StartError). IfErr x (λ e. is_start_fault e ≡ true → HasRisen faults faults_after)) (sym is) (λ fault. told.read_fault at (ap (λ (w : TreeError). Unread at w) (read_fault at e fault)))
