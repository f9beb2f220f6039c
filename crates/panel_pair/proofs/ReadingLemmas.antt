-- What was refused has its cause in the tree.
use Rattle.std.proofs.Common.{◌≡◌, ℕ, ◌≤◌, inl, inr, List, [], ◌∷◌, Option, Result, Ok, Err, refl, sym, subst, ap, ◌∙◌, arith}
use Rattle.mc_text.specs.Routes.{Route, path_text}
use Rattle.tree_trait.specs.Refusals.{holder}
use Rattle.tree_trait.specs.Change.{CallLog, current}
use Rattle.tree_trait.specs.Answers.{IfKnown, HasCause}
use Rattle.resolving.specs.declared.error.ResolveError.{ResolveError}
use Rattle.resolving.specs.declared.error.ResolveError.TheVariants.{Tree, TooManyLinks, TooLong, BadName, Fault, Memory}
use Rattle.resolving.specs.declared.walking.Wanted.TheVariants.{FolderAlone}
use Rattle.resolving.specs.Errors.{Answers}
use Rattle.resolving.specs.Resolution.{resolved_path}
use Rattle.panel_state.specs.declared.going.Way.{Way}
use Rattle.panel_state.specs.declared.going.Way.TheVariants.{Nowhere, Up, Into}
use Rattle.panel_state.specs.Panels.{PanelState, current_text}
use Rattle.panel_state.specs.Goings.{way_of, Reads, ShowsNext, ShowsResolved}
use Rattle.panel_pair.specs.declared.command.PanelCommand.{PanelCommand}
use Rattle.panel_pair.specs.declared.command.PanelCommand.TheVariants.{Move, SwitchPanel, SwapPanels, Enter, ReadAgain, Back, Forward, GoTo, Toggle, Invert, Select, Unselect, Compare, Arrange, ShowColumns, ShowBrief, ToggleHidden, SwitchPatterns}
use Rattle.panel_pair.specs.Commands.{CommandReads}
use Rattle.panel_pair.specs.Openings.{ShowsPath}
use Rattle.panel_pair.specs.Readings.{HasReadCause, ReadsTree}

-- want of memory needs none
memory_cause : (log : CallLog) (e : ResolveError) → e ≡ Memory → HasReadCause log e
memory_cause log e is = subst (HasReadCause log) (sym is) (inl ([], tt))

abbrev refused_of : (A : Type 0) → ResolveError → Result A ResolveError
refused_of A e = Err e

-- an answer that is refused is refused whatever is wanted
answers_any : (why e : ResolveError) → Answers {A = PanelState} (Err why) (Err e) → Answers {A = Route} (Err why) (Err e)
answers_any why (Tree path x) is = let same : why ≡ Tree path x = cc in ap (refused_of Route) same
answers_any why TooManyLinks is = let same : why ≡ TooManyLinks = cc in ap (refused_of Route) same
answers_any why TooLong is = let same : why ≡ TooLong = cc in ap (refused_of Route) same
answers_any why BadName is = let same : why ≡ BadName = cc in ap (refused_of Route) same
answers_any why Fault is = tt
answers_any why Memory is = tt

-- that of Enter
resolved_cause : (log : CallLog) (from : Route) (typed : List ℕ) (r : Result Route ResolveError) (e : ResolveError)
    → resolved_path (current log) FolderAlone from typed ≡ r → ShowsResolved log r (Err e) → HasReadCause log e
resolved_cause log from typed (Ok folder) Fault is shows = inr (from, (typed, tt))
resolved_cause log from typed (Ok folder) (Tree path e) is shows = inl (folder, shows)
resolved_cause log from typed (Ok folder) TooManyLinks is shows = absurd shows
resolved_cause log from typed (Ok folder) TooLong is shows = absurd shows
resolved_cause log from typed (Ok folder) BadName is shows = absurd shows
resolved_cause log from typed (Ok folder) Memory is shows = inl (folder, shows)
resolved_cause log from typed (Err why) e is answers =
    inr (from, (typed, subst (λ (r : Result Route ResolveError). Answers r (Err e)) (sym is) (answers_any why e answers)))

enter_cause : (way : Way) (log : CallLog) (p : PanelState) (e : ResolveError) → Reads way log p (Err e) → HasReadCause log e
enter_cause Nowhere log p e h = absurd h
enter_cause Up log p e shows = inl (holder p.folder, shows)
enter_cause Into log p e shows =
    resolved_cause log p.folder (current_text p) (resolved_path (current log) FolderAlone p.folder (current_text p)) e refl shows

-- that of going back and forward
next_cause : (log : CallLog) (folders : List Route) (e : ResolveError) → ShowsNext log folders (Err e) → HasReadCause log e
next_cause log [] e h = absurd h
next_cause log (folder ∷ folders) e shows = inl (folder, shows)

-- that of each command
pub command_cause : (command : PanelCommand) (log : CallLog) (p : PanelState) (e : ResolveError)
    → CommandReads command log p (Err e) → HasReadCause log e
command_cause Enter log p e h = enter_cause (way_of p) log p e h
command_cause ReadAgain log p e h = inl (p.folder, h)
command_cause Back log p e h = next_cause log p.visits.behind e h
command_cause Forward log p e h = next_cause log p.visits.ahead e h
command_cause (GoTo path) log p e h = inl (holder path, h)
command_cause (Move base) log p e h = memory_cause log e h
command_cause SwitchPanel log p e h = memory_cause log e h
command_cause SwapPanels log p e h = memory_cause log e h
command_cause Toggle log p e h = memory_cause log e h
command_cause Invert log p e h = memory_cause log e h
command_cause (Select pattern) log p e h = memory_cause log e h
command_cause (Unselect pattern) log p e h = memory_cause log e h
command_cause Compare log p e h = memory_cause log e h
command_cause (Arrange arrangement) log p e h = memory_cause log e h
command_cause (ShowColumns format) log p e h = memory_cause log e h
command_cause ShowBrief log p e h = memory_cause log e h
command_cause ToggleHidden log p e h = memory_cause log e h
command_cause SwitchPatterns log p e h = memory_cause log e h

-- that of a path to begin with
pub path_cause : (log : CallLog) (path : Route) (e : ResolveError) → ShowsPath log path (Err e) → HasReadCause log e
path_cause log path e shows =
    resolved_cause log [] (path_text path) (resolved_path (current log) FolderAlone [] (path_text path)) e refl shows

-- what a call behind another one was refused
pub reads_later : (A : Type 0) (told e : ResolveError) (before between after : Option CallLog) (faults faults_between faults_after : ℕ)
    → told ≡ e → between ≡ before → after ≡ between → faults ≤ faults_between → HasCause {T = A} Fault faults_between faults_after (Err e)
    → IfKnown between (λ log. HasReadCause log e) → ReadsTree (told ∷ []) before after faults faults_after
reads_later A told e before between after faults faults_between faults_after told_is same again later cause known =
    record {
      same = again ∙ same;
      later = omega (arith, later, cause.later);
      causes = (λ log is. (subst (HasReadCause log) (sym told_is) (known log (same ∙ is)), tt));
      fault = ((λ fault. let risen = cause.risen (ap (refused_of A) (sym told_is ∙ fault)) in omega (arith, later, risen)), tt);
    }
