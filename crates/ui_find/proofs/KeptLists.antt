-- A step of a search leaves what the list comes to, and fewer steps.
use Rattle.std.proofs.Common.{◌≡◌, Bool, true, false, if◌then◌else◌, List, ◌∷◌, refl, sym, ap, ◌∙◌, ◌<◌, arith, subst}
use Rattle.std.specs.Prelude.{ℕ, Option, Some, None, Result, Ok, IfOk}
use Rattle.mc_text.specs.declared.error.NoMemory.{NoMemory}
use Rattle.tree_trait.specs.declared.file_system.FileSystem.{FileSystem}
use Rattle.tree_trait.specs.declared.calls.TreeError.TheVariants.{Missing, NotFolder, Denied, Exists, IsFolder, NotEmpty, IntoItself, Mounted, CrossMount, NoSpace, Special, Fault, Memory}
use Rattle.tree_trait.specs.Change.{CallLog, current}
use Rattle.tree_trait.specs.Answers.{HasRisen, IfKnown}
use Rattle.find_file.specs.declared.found.Found.{Found}
use Rattle.find_file.specs.declared.found.Found.TheVariants.{Path, Skipped, End}
use Rattle.find_file.specs.declared.finder.Finder.{Finder}
use Rattle.find_file.specs.Walks.{steps_left, yet_to_find}
use Rattle.find_file.specs.Telling.{HasReason, IsNext, cause_at}
use Rattle.ui_find.specs.declared.findings.Course.{Course}
use Rattle.ui_find.specs.declared.findings.Course.TheVariants.{GoesOn, Ends}
use Rattle.ui_find.specs.Tellings.{FindingsState}
use Rattle.ui_find.specs.Listings.{IsTold, after_telling, by_more, comes_to_by, course_after, left_by, steps_by, told_all, told_to}

-- what comes of what is yet to be found, behind a step that leaves this course
abbrev on : Course → List Found → FindingsState → FindingsState
on GoesOn rest f = told_all rest f
on Ends rest f = f

on_more : (more : Bool) (rest : List Found) (f : FindingsState) → on (by_more more) rest f ≡ (if more then f else told_all rest f)
on_more true rest f = refl
on_more false rest f = refl

-- something is told that is the first of what is yet to be found
joined : (found : Found) (rest whole : List Found) (f : FindingsState) → whole ≡ found ∷ rest
    → on (by_more (told_to found f).has_more) rest (told_to found f) ≡ told_all whole f
unfolding told_all
joined found rest whole f is = on_more (told_to found f).has_more rest (told_to found f) ∙ ap (λ l. told_all l f) (sym is)

-- a path is skipped, but for a fault
unrisen : {A : Type 0} (faults faults_after : ℕ) → (HasRisen faults faults_after → ⊥) → HasReason faults faults_after (Some Fault) → A
unrisen faults faults_after steady reason = absurd (steady (reason.risen refl))

told_on : (faults faults_after : ℕ) (told : Option Found) (whole rest : List Found) (f : FindingsState) → IsNext whole told rest
    → HasReason faults faults_after (cause_at (Ok told)) → (HasRisen faults faults_after → ⊥)
    → on (course_after told (after_telling told f)) rest (after_telling told f) ≡ told_all whole f
unfolding told_all
told_on faults faults_after None whole rest f next reason steady = ap (λ l. told_all l f) (sym next)
told_on faults faults_after (Some End) whole rest f next reason steady = ap (λ l. told_all l f) (sym next.0)
told_on faults faults_after (Some (Path path)) whole rest f next reason steady = joined (Path path) rest whole f next
told_on faults faults_after (Some (Skipped path Fault)) whole rest f next reason steady = unrisen faults faults_after steady reason
told_on faults faults_after (Some (Skipped path Memory)) whole rest f next reason steady = joined (Skipped path Memory) rest whole f next
told_on faults faults_after (Some (Skipped path Missing)) whole rest f next reason steady = joined (Skipped path Missing) rest whole f next
told_on faults faults_after (Some (Skipped path NotFolder)) whole rest f next reason steady = joined (Skipped path NotFolder) rest whole f next
told_on faults faults_after (Some (Skipped path Denied)) whole rest f next reason steady = joined (Skipped path Denied) rest whole f next
told_on faults faults_after (Some (Skipped path Exists)) whole rest f next reason steady = joined (Skipped path Exists) rest whole f next
told_on faults faults_after (Some (Skipped path IsFolder)) whole rest f next reason steady = joined (Skipped path IsFolder) rest whole f next
told_on faults faults_after (Some (Skipped path NotEmpty)) whole rest f next reason steady = joined (Skipped path NotEmpty) rest whole f next
told_on faults faults_after (Some (Skipped path IntoItself)) whole rest f next reason steady = joined (Skipped path IntoItself) rest whole f next
told_on faults faults_after (Some (Skipped path Mounted)) whole rest f next reason steady = joined (Skipped path Mounted) rest whole f next
told_on faults faults_after (Some (Skipped path CrossMount)) whole rest f next reason steady = joined (Skipped path CrossMount) rest whole f next
told_on faults faults_after (Some (Skipped path NoSpace)) whole rest f next reason steady = joined (Skipped path NoSpace) rest whole f next
told_on faults faults_after (Some (Skipped path Special)) whole rest f next reason steady = joined (Skipped path Special) rest whole f next

module _ (contents : Option CallLog) (faults faults_after : ℕ) (finder left : Finder) (before after : FindingsState) where
  by_left : (s : FileSystem) (course : Course) → comes_to_by s (left_by course left) after ≡ on course (yet_to_find s left) after
  by_left s GoesOn = refl
  by_left s Ends = refl

  pub kept_by : (course : Course) → IsTold contents faults faults_after finder left before after course
      → IfKnown contents (λ log. (HasRisen faults faults_after → ⊥)
      → comes_to_by (current log) (left_by course left) after ≡ told_all (yet_to_find (current log) finder) before)
  kept_by course told = λ log tells steady.
      let rest = yet_to_find (current log) left in
      let whole = yet_to_find (current log) finder in
      let same : on course rest after ≡ on (course_after told.told (after_telling told.told before)) rest (after_telling told.told before) =
      ap (λ c. on c rest after) told.course_is ∙ ap (λ f. on (course_after told.told f) rest f) told.findings in
      by_left (current log) course ∙ same
      ∙ told_on faults faults_after told.told whole rest before (told.step.next log tells) told.step.reason steady

  -- fewer steps are left
  pub fewer_by : (course : Course) → IsTold contents faults faults_after finder left before after course
      → steps_by (left_by course left) < steps_by (Some finder)
  fewer_by Ends told = omega arith
  fewer_by GoesOn told =
      let fewer : steps_left left < steps_left finder =
      told.step.falls (λ end. let ends : GoesOn ≡ Ends = told.course_is ∙ ap (λ t. course_after t after) end in absurd (cc)) in
      omega (arith, fewer)

  -- the same of the answer of a call, over what was told before it
  pub kept_on : (r : Result Course NoMemory) (answer course : Course) (told_before : FindingsState) → r ≡ Ok answer → answer ≡ course → before ≡ told_before
      → IfOk r (IsTold contents faults faults_after finder left before after)
      → IfKnown contents (λ log. (HasRisen faults faults_after → ⊥)
      → comes_to_by (current log) (left_by course left) after ≡ told_all (yet_to_find (current log) finder) told_before)
  kept_on r answer course told_before is answer_is before_is told = λ log tells steady.
      let at_answer : IsTold contents faults faults_after finder left before after answer =
      subst (λ q. IfOk q (IsTold contents faults faults_after finder left before after)) is told in
      let at_course : IsTold contents faults faults_after finder left before after course =
      subst (λ a. IsTold contents faults faults_after finder left before after a) answer_is at_answer in
      kept_by course at_course log tells steady ∙ ap (λ f. told_all (yet_to_find (current log) finder) f) before_is

  pub fewer_on : (r : Result Course NoMemory) (course : Course) → r ≡ Ok course → IfOk r (IsTold contents faults faults_after finder left before after)
      → steps_by (left_by course left) < steps_by (Some finder)
  fewer_on r course is told = fewer_by course (subst (λ q. IfOk q (IsTold contents faults faults_after finder left before after)) is told)
