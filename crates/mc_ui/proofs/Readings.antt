-- What the viewer, a command of the panels, or a look at them was refused has its cause in the tree, and tells of a fault only where the tree's count has risen.
use Rattle.std.proofs.Common.{◌≡◌, ◌≢◌, inl, inr, ℕ, Bool, true, false, List, [], ◌∷◌, refl, sym, ap, subst, Option, Some, None, Result, Ok, Err}
use Rattle.std.specs.Prelude.{◌||◌, is_some, map, IfOk, MatchBool}
use Rattle.std.proofs.lemmas.Bool.{false≢true}
use Rattle.mc_text.specs.declared.error.NoMemory.{NoMemory}
use Rattle.mc_text.specs.Routes.{Route}
use Rattle.tree_trait.specs.declared.calls.TreeError.{TreeError}
use Rattle.tree_trait.specs.declared.calls.TreeError.TheVariants.{Missing, NotFolder, Denied, Exists, IsFolder, NotEmpty, IntoItself, Mounted, CrossMount, NoSpace, Special, Fault, Memory}
use Rattle.tree_trait.specs.Change.{CallLog}
use Rattle.tree_trait.specs.Answers.{IfKnown, HasRisen}
use Rattle.resolving.specs.declared.error.ResolveError.{ResolveError}
use Rattle.resolving.specs.declared.error.ResolveError.TheVariants as resolve
use Rattle.key_screen.specs.declared.keys.Key.{Key}
use Rattle.mc_dialogs.specs.InputKeys.{InputState, input_after, input_shut}
use Rattle.ui_words.specs.declared.replies.LineReply.{LineReply}
use Rattle.ui_words.specs.declared.replies.LineReply.TheVariants as line
use Rattle.ui_words.specs.BoxKeys.{line_reply}
use Rattle.session_entries.specs.declared.refusal.Refusal.{Refusal}
use Rattle.session_entries.specs.declared.refusal.Refusal.TheVariants.{Read, Resolve}
use Rattle.session_entries.specs.Refusals.{AreRefused, IsListRefused, IsReadRefused, IsResolveRefused}
use Rattle.panel_state.specs.Readings.{ListsFolder}
use Rattle.panel_pair.specs.Readings.{HasReadCause}
use Rattle.panel_pair.specs.Readings as pair
use Rattle.ui_plans.specs.Refused.{has_fault, is_fault, is_resolve_fault}
use Rattle.ui_plans.specs.Reading.{ReadsTree}
use Rattle.mc_viewer.specs.declared.error.ViewError.TheVariants as error
use Rattle.mc_viewer.specs.declared.subject.Subject.{Subject}
use Rattle.mc_viewer.specs.declared.subject.Subject.TheVariants.{File, Output}
use Rattle.mc_viewer.specs.Viewing.{IsRefused}
use Rattle.ui_viewer.specs.declared.act.ViewerAct.{ViewerAct}
use Rattle.ui_viewer.specs.declared.act.ViewerAct.TheVariants.{Stays, Refused, Leaves}
use Rattle.ui_viewer.specs.declared.asking.Asking.{Asking}
use Rattle.ui_viewer.specs.declared.asking.Question.{Question}
use Rattle.ui_viewer.specs.declared.command.ViewerCommand.{ViewerCommand}
use Rattle.ui_viewer.specs.declared.command.ViewerCommand.TheVariants as command
use Rattle.ui_viewer.specs.declared.motion.Motion.{Motion}
use Rattle.ui_viewer.specs.declared.motion.Motion.TheVariants as motion
use Rattle.ui_viewer.specs.declared.opening.Opening.{Opening}
use Rattle.ui_viewer.specs.declared.opening.Opening.TheVariants.{Viewed, NoWay, Unread}
use Rattle.ui_viewer.specs.Motions.{motion_of}
use Rattle.ui_viewer.specs.Openings.{OpensThing, ReadsToOpen}
use Rattle.ui_viewer.specs.ViewerKeys.{viewer_command}
use Rattle.ui_viewer.specs.ViewerScreens.{AnswerLeads, ByAsking, CommandLeads, KeyLeads, LineLeads, ViewerScreen, after_message}
use Rattle.ui_viewer.specs.ViewerScreens as screens
use Rattle.mc_ui.specs.declared.asks.Ask.TheVariants.{Nothing}
use Rattle.mc_ui.specs.declared.asks.KeyAct.{KeyAct}
use Rattle.mc_ui.specs.Viewings.{opening_refusals, told_by, viewed_path}
use Rattle.mc_ui.proofs.NoWays.{leads_nowhere}

-- a fault is the only error that tells of one
is_a_fault : (e : TreeError) → (is_fault e || false) ≡ true → e ≡ Fault
is_a_fault Fault h = refl
is_a_fault Missing h = absurd (false≢true h)
is_a_fault NotFolder h = absurd (false≢true h)
is_a_fault Denied h = absurd (false≢true h)
is_a_fault Exists h = absurd (false≢true h)
is_a_fault IsFolder h = absurd (false≢true h)
is_a_fault NotEmpty h = absurd (false≢true h)
is_a_fault IntoItself h = absurd (false≢true h)
is_a_fault Mounted h = absurd (false≢true h)
is_a_fault CrossMount h = absurd (false≢true h)
is_a_fault NoSpace h = absurd (false≢true h)
is_a_fault Special h = absurd (false≢true h)
is_a_fault Memory h = absurd (false≢true h)

-- a file is refused as the viewer says
read_refused : (log : CallLog) (path : Route) (e : TreeError) → e ≢ Memory → IsRefused log (File path) e → IsReadRefused log path e
unfolding IsRefused
read_refused log path Fault other h = tt
read_refused log path Memory other h = absurd (other refl)
read_refused log path Missing other h = h
read_refused log path NotFolder other h = h
read_refused log path Denied other h = h
read_refused log path Exists other h = h
read_refused log path IsFolder other h = h
read_refused log path NotEmpty other h = h
read_refused log path IntoItself other h = h
read_refused log path Mounted other h = h
read_refused log path CrossMount other h = h
read_refused log path NoSpace other h = h
read_refused log path Special other h = h

-- OPENING

module _ (log : CallLog) (folder : Route) (name : List ℕ) (lines columns : ℕ) where
  opening_cause : (opening : Opening) → OpensThing (Some log) folder name lines columns opening → AreRefused log (opening_refusals opening)
  opening_cause (Viewed page) h = tt
  opening_cause (NoWay why) h = (inr (folder, (name, leads_nowhere log folder name why (h.1 log refl))), tt)
  opening_cause (Unread at why) h =
      (subst (λ path. IsReadRefused log path why) (sym h.2.0) (read_refused log h.0 why h.2.1 (h.2.2 log refl)), tt)

opening_fault : (opening : Opening) (f0 f1 : ℕ) → (opening ≡ NoWay resolve.Fault → HasRisen f0 f1) → ((at : Route) → opening ≡ Unread at Fault → HasRisen f0 f1)
    → has_fault (opening_refusals opening) ≡ true → HasRisen f0 f1
opening_fault (Viewed page) f0 f1 way read h = absurd (false≢true h)
opening_fault (NoWay resolve.Fault) f0 f1 way read h = way refl
opening_fault (NoWay (resolve.Tree path e)) f0 f1 way read h = absurd (false≢true h)
opening_fault (NoWay resolve.TooManyLinks) f0 f1 way read h = absurd (false≢true h)
opening_fault (NoWay resolve.TooLong) f0 f1 way read h = absurd (false≢true h)
opening_fault (NoWay resolve.BadName) f0 f1 way read h = absurd (false≢true h)
opening_fault (NoWay resolve.Memory) f0 f1 way read h = absurd (false≢true h)
opening_fault (Unread at why) f0 f1 way read h = read at (ap (λ e. Unread at e) (is_a_fault why h))

pub opened_reads : (contents after : Option CallLog) (folder : Route) (name : List ℕ) (lines columns f0 f1 : ℕ) (result : Result Opening NoMemory)
    → IfOk result (OpensThing contents folder name lines columns) → ReadsToOpen result contents after f0 f1 → ReadsTree opening_refusals result contents after f0 f1
opened_reads contents after folder name lines columns f0 f1 (Err e) opens reads =
    record { same = reads.same; later = reads.later; called = λ log is. tt; fault = tt }
opened_reads contents after folder name lines columns f0 f1 (Ok opening) opens reads = record {
  same = reads.same;
  later = reads.later;
  called = λ log is. opening_cause log folder name lines columns opening (subst (λ (c : Option CallLog). OpensThing c folder name lines columns opening) is opens);
  fault = opening_fault opening f0 f1 reads.way_fault reads.read_fault;
}

-- KEYS

-- the tree refuses what is viewed
abbrev Cause : Option CallLog → Subject → TreeError → Type 0
Cause contents subject e = (e ≢ Memory) × IfKnown contents (λ log. IsRefused log subject e)

module _ (contents : Option CallLog) (key : Key) (e : TreeError) (before after : ViewerScreen) where
  by_motion : (motion : Motion) → screens.IsRefused motion contents (error.Tree e) before after → Cause contents before.viewer.subject e
  by_motion (motion.Step step) h = (h.kind, h.as_told)
  by_motion (motion.Search what) h = (h.kind, h.as_told)
  by_motion motion.SearchNext h = (h.kind, h.as_told)

  by_command : (command : ViewerCommand) → CommandLeads command contents (Refused (error.Tree e)) before after → Cause contents before.viewer.subject e
  by_command (command.Step step) h = by_motion (motion.Step step) h
  by_command command.AskPlace h = let none = h.0 in absurd cc
  by_command (command.Ask question) h = let none = h.0 in absurd cc
  by_command command.SearchNext h = by_motion motion.SearchNext h
  by_command command.Leave h = let none = h.0 in absurd cc
  by_command command.Nothing h = let none = h.0 in absurd cc

  by_answer : (motion : Option Motion) → AnswerLeads motion contents (Refused (error.Tree e)) before after → Cause contents before.viewer.subject e
  by_answer (Some motion) h = by_motion motion h
  by_answer None h = let none = h.0 in absurd cc

  by_reply : (reply : LineReply) (question : Question) (typed : InputState) → LineLeads reply question typed contents (Refused (error.Tree e)) before after
      → Cause contents before.viewer.subject e
  by_reply line.Stays question typed h = let none = h.0 in absurd cc
  by_reply line.Shuts question typed h = let none = h.0 in absurd cc
  by_reply (line.Takes text) question typed h = by_answer (motion_of question text) h

  by_asking : (asking : Option Asking) → ByAsking asking contents key (Refused (error.Tree e)) before after → Cause contents before.viewer.subject e
  by_asking None h = by_command (viewer_command key) h
  by_asking (Some asking) h = by_reply (line_reply (input_shut asking.line key)) asking.question (input_after asking.line key) h

  by_message : (shown : Bool)
      → MatchBool shown ((Refused (error.Tree e) ≡ Stays) × (after ≡ after_message key before)) (ByAsking before.asking contents key (Refused (error.Tree e)) before after)
      → Cause contents before.viewer.subject e
  by_message true h = let none = h.0 in absurd cc
  by_message false h = by_asking before.asking h

module _ (contents : Option CallLog) (key : Key) (before page : ViewerScreen) where
  told_file : (path : Route) (e : TreeError) → before.viewer.subject ≡ File path → KeyLeads contents key (Refused (error.Tree e)) before page
      → IfKnown contents (λ log. AreRefused log (Read path e ∷ []))
  told_file path e is leads =
      let cause = by_message contents key e before page (is_some before.refused) leads in
      λ log known. (read_refused log path e cause.0 (subst (λ s. IsRefused log s e) is (cause.1 log known)), tt)

  told_cause : (act : ViewerAct) (subject : Subject) → before.viewer.subject ≡ subject → KeyLeads contents key act before page
      → IfKnown contents (λ log. AreRefused log (told_by act (viewed_path subject)))
  told_cause Stays subject is leads = λ log known. tt
  told_cause Leaves subject is leads = λ log known. tt
  told_cause (Refused (error.Tree e)) (File path) is leads = told_file path e is leads
  told_cause (Refused (error.Tree e)) (Output bytes) is leads = λ log known. tt
  told_cause (Refused error.NotFound) subject is leads = λ log known. tt
  told_cause (Refused error.BadPattern) subject is leads = λ log known. tt
  told_cause (Refused (error.LineTooLong line)) subject is leads = λ log known. tt
  told_cause (Refused error.Memory) subject is leads = λ log known. tt

told_fault : (act : ViewerAct) (subject : Subject) (f0 f1 : ℕ) → (act ≡ Refused (error.Tree Fault) → HasRisen f0 f1)
    → has_fault (told_by act (viewed_path subject)) ≡ true → HasRisen f0 f1
told_fault Stays subject f0 f1 risen h = absurd (false≢true h)
told_fault Leaves subject f0 f1 risen h = absurd (false≢true h)
told_fault (Refused (error.Tree e)) (File path) f0 f1 risen h = risen (ap (λ e. Refused (error.Tree e)) (is_a_fault e h))
told_fault (Refused (error.Tree e)) (Output bytes) f0 f1 risen h = absurd (false≢true h)
told_fault (Refused error.NotFound) subject f0 f1 risen h = absurd (false≢true h)
told_fault (Refused error.BadPattern) subject f0 f1 risen h = absurd (false≢true h)
told_fault (Refused (error.LineTooLong line)) subject f0 f1 risen h = absurd (false≢true h)
told_fault (Refused error.Memory) subject f0 f1 risen h = absurd (false≢true h)

-- what is told of a key of the viewer, told of what it is part of
pub told_reads : {D : Type 0} (refusals : D → List Refusal) (contents after : Option CallLog) (key : Key) (before page : ViewerScreen) (act : ViewerAct) (f0 f1 : ℕ) (deed : D)
    → refusals deed ≡ told_by act (viewed_path before.viewer.subject) → KeyLeads contents key act before page
    → screens.ReadsTree {A = ViewerAct} {E = NoMemory} (λ act. act) (Ok act) contents after f0 f1 → ReadsTree {A = D} {E = NoMemory} refusals (Ok deed) contents after f0 f1
told_reads refusals contents after key before page act f0 f1 deed is leads reads = record {
  same = reads.same;
  later = reads.later;
  called = λ log known. subst (λ told. AreRefused log told) (sym is) (told_cause contents key before page act before.viewer.subject refl leads log known);
  fault = λ h. told_fault act before.viewer.subject f0 f1 reads.fault (subst (λ told. has_fault told ≡ true) is h);
}

-- the same refusals, told of another answer
pub reads_on : {A B : Type 0} (told : A → List Refusal) (told_on : B → List Refusal) (x : A) (y : B) (before after : Option CallLog) (f0 f1 : ℕ)
    → told_on y ≡ told x → ReadsTree {A = A} {E = NoMemory} told (Ok x) before after f0 f1 → ReadsTree {A = B} {E = NoMemory} told_on (Ok y) before after f0 f1
reads_on told told_on x y before after f0 f1 is reads = record {
  same = reads.same;
  later = reads.later;
  called = λ log known. subst (λ told. AreRefused log told) (sym is) (reads.called log known);
  fault = λ h. reads.fault (subst (λ told. has_fault told ≡ true) is h);
}

-- COMMANDS OF THE PANELS

is_way_fault : (e : ResolveError) → (is_resolve_fault e || false) ≡ true → e ≡ resolve.Fault
is_way_fault resolve.Fault h = refl
is_way_fault (resolve.Tree path e) h = absurd (false≢true h)
is_way_fault resolve.TooManyLinks h = absurd (false≢true h)
is_way_fault resolve.TooLong h = absurd (false≢true h)
is_way_fault resolve.BadName h = absurd (false≢true h)
is_way_fault resolve.Memory h = absurd (false≢true h)

list_refused : (log : CallLog) (folder : Route) (e : ResolveError) → ListsFolder log folder (Err e) → IsListRefused log folder e
list_refused log folder (resolve.Tree path e) h = h
list_refused log folder resolve.Fault h = tt
list_refused log folder resolve.Memory h = tt
list_refused log folder resolve.TooManyLinks h = h
list_refused log folder resolve.TooLong h = h
list_refused log folder resolve.BadName h = h

way_refused : (log : CallLog) (e : ResolveError) → HasReadCause log e → IsResolveRefused log e
way_refused log e (inl at) = inl (at.0, list_refused log at.0 e at.1)
way_refused log e (inr way) = inr way

abbrev refused_act : ResolveError → KeyAct
refused_act e = record { ask = Nothing; refusals = Resolve e ∷ [] }

-- what a refused command read is what the key that asked for it did
pub command_reads : (error : ResolveError) (contents after : Option CallLog) (f0 f1 : ℕ) (told : Result KeyAct NoMemory)
    → pair.ReadsTree (error ∷ []) contents after f0 f1 → IfOk told (λ act. act ≡ refused_act error) → ReadsTree (λ (act : KeyAct). act.refusals) told contents after f0 f1
command_reads error contents after f0 f1 (Err e) reads is = record { same = reads.same; later = reads.later; called = λ log known. tt; fault = tt }
command_reads error contents after f0 f1 (Ok act) reads is = record {
  same = reads.same;
  later = reads.later;
  called = λ log known. subst (λ (act : KeyAct). AreRefused log act.refusals) (sym is) (way_refused log error (reads.causes log known).0, tt);
  fault = λ h. reads.fault.0 (is_way_fault error (subst (λ (act : KeyAct). has_fault act.refusals ≡ true) is h));
}

-- LOOKS AT BOTH PANELS

ways_refused : (log : CallLog) (errors : List ResolveError) → pair.Each (HasReadCause log) errors → AreRefused log (map Resolve errors)
ways_refused log [] h = tt
ways_refused log (e ∷ more) h = (way_refused log e h.0, ways_refused log more h.1)

fault_rises : (errors : List ResolveError) (f0 f1 : ℕ) → pair.Each (λ e. e ≡ resolve.Fault → HasRisen f0 f1) errors
    → has_fault (map Resolve errors) ≡ true → HasRisen f0 f1
fault_rises [] f0 f1 h is = absurd (false≢true is)
fault_rises (resolve.Fault ∷ more) f0 f1 h is = h.0 refl
fault_rises (resolve.Tree path e ∷ more) f0 f1 h is = fault_rises more f0 f1 h.1 is
fault_rises (resolve.TooManyLinks ∷ more) f0 f1 h is = fault_rises more f0 f1 h.1 is
fault_rises (resolve.TooLong ∷ more) f0 f1 h is = fault_rises more f0 f1 h.1 is
fault_rises (resolve.BadName ∷ more) f0 f1 h is = fault_rises more f0 f1 h.1 is
fault_rises (resolve.Memory ∷ more) f0 f1 h is = fault_rises more f0 f1 h.1 is

-- what was refused to reading both panels is what the look tells
pub panels_read : (errors : List ResolveError) (contents after : Option CallLog) (f0 f1 : ℕ) (told : List Refusal)
    → pair.ReadsTree errors contents after f0 f1 → told ≡ map Resolve errors
    → ReadsTree {A = List Refusal} {E = NoMemory} (λ (refusals : List Refusal). refusals) (Ok told) contents after f0 f1
panels_read errors contents after f0 f1 told reads is = record {
  same = reads.same;
  later = reads.later;
  called = λ log known. subst (λ (refusals : List Refusal). AreRefused log refusals) (sym is) (ways_refused log errors (reads.causes log known));
  fault = λ h. fault_rises errors f0 f1 reads.fault (subst (λ (refusals : List Refusal). has_fault refusals ≡ true) is h);
}
