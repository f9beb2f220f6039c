-- What the path for a new thing says of the tree.
use Rattle.std.proofs.Common.{◌≡◌, inl, inr, ℕ, Bool, true, false, List, [], ◌∷◌, refl, ap, subst, Option, Some, None, Result, Ok, Err}
use Rattle.std.specs.Prelude.{if◌then◌else◌, is_some, IfOk}
use Rattle.std.specs.Option.{option_map}
use Rattle.mc_text.specs.declared.error.NoMemory.{NoMemory}
use Rattle.mc_text.specs.Routes.{Route, last_of, parent_of}
use Rattle.tree_trait.specs.declared.calls.TreeError.{TreeError}
use Rattle.tree_trait.specs.declared.calls.TreeError.TheVariants.{Missing, NotFolder, Denied, Exists, IsFolder, NotEmpty, IntoItself, Mounted, CrossMount, NoSpace, Special, Fault, Memory}
use Rattle.tree_trait.specs.Calls.{Stat}
use Rattle.tree_trait.specs.FileSystem.{node, value, View, visible_tree}
use Rattle.tree_trait.specs.Refusals.{refusal_of}
use Rattle.tree_trait.specs.Change.{CallLog, current}
use Rattle.tree_trait.specs.Answers.{IfKnown, HasRisen}
use Rattle.resolving.specs.declared.error.ResolveError.{ResolveError}
use Rattle.resolving.specs.declared.error.ResolveError.TheVariants as resolve
use Rattle.resolving.specs.declared.walking.Wanted.TheVariants.{FolderAlone}
use Rattle.resolving.specs.Errors.{Answers}
use Rattle.resolving.specs.Resolution.{resolved_path}
use Rattle.job_reports.proofs.PermittedCalls.{stat_missing}
use Rattle.op_plan.specs.declared.error.PlanError.{PlanError}
use Rattle.op_plan.specs.declared.error.PlanError.TheVariants as place
use Rattle.op_plan.specs.Answering.{HasPlanCause, IsPlaceError, Plans, and_then, is_fault, or_bad_mask}
use Rattle.op_plan.specs.Checks.{is_too_long, target_in}
use Rattle.op_plan.specs.Destinations.{folder_at, folder_prefix, in_target, last_part}
use Rattle.op_plan.specs.Naming.{checked_name}
use Rattle.op_plan.specs.Planning.{nothing_there, place_of}
use Rattle.session_entries.specs.declared.refusal.Refusal.{Refusal}
use Rattle.session_entries.specs.declared.refusal.Refusal.TheVariants.{Plan, Typed}
use Rattle.session_entries.specs.declared.refusal.PlanError.TheVariants.{TargetThere, Target}
use Rattle.session_entries.specs.declared.refusal.TypedError.TheVariants.{BadName}
use Rattle.session_entries.specs.Refusals.{AreRefused, HasCause, IsTargetRefused}
use Rattle.ui_plans.specs.declared.new_place.NewPlace.{NewPlace}
use Rattle.ui_plans.specs.declared.new_place.NewPlace.TheVariants.{At, Refused}
use Rattle.ui_plans.specs.Plans.{IsVacant}
use Rattle.ui_plans.specs.Places.{IsPlace, IsToldOfPlace, PlaceLeads, PlaceRefused, is_below_home, place_refusals, told_of_place}
use Rattle.ui_plans.specs.Reading.{ReadsTree, sight}
use Rattle.ui_plans.specs.Refused.{has_fault}
use Rattle.ui_plans.proofs.Refusing.{HasTreeCause, after, no_fault, refused_in, target_fault}

abbrev in_folder : CallLog → List ℕ → Route → Result Route PlanError
in_folder log name folder = and_then (target_in folder name) (λ target. nothing_there (refusal_of (current log) (Stat target)) target)

abbrev at_front : CallLog → Route → List ℕ → List ℕ → Result Route PlanError
at_front log from typed name = and_then (folder_at (current log) from (folder_prefix typed)) (λ folder. in_folder log name folder)

-- nothing stands where a new thing may be
there : (told : Option TreeError) (target path : Route) → nothing_there told target ≡ Ok path → (told ≡ Some Missing) × (target ≡ path)
there None target path h = absurd cc
there (Some Missing) target path h = (refl, cc)
there (Some NotFolder) target path h = absurd cc
there (Some Denied) target path h = absurd cc
there (Some Exists) target path h = absurd cc
there (Some IsFolder) target path h = absurd cc
there (Some NotEmpty) target path h = absurd cc
there (Some IntoItself) target path h = absurd cc
there (Some Mounted) target path h = absurd cc
there (Some CrossMount) target path h = absurd cc
there (Some NoSpace) target path h = absurd cc
there (Some Special) target path h = absurd cc
there (Some Fault) target path h = absurd cc
there (Some Memory) target path h = absurd cc

seen_missing : (log : CallLog) (from : Route) (typed : List ℕ) (path : Route) → place_of (current log) from typed ≡ Ok path → refusal_of (current log) (Stat path) ≡ Some Missing
seen_missing log from typed path h =
    let named = after (or_bad_mask (checked_name (last_part typed))) (at_front log from typed) path h in
    let held = after (folder_at (current log) from (folder_prefix typed)) (in_folder log named.0) path named.2 in
    let at = after (target_in held.0 named.0) (λ target. nothing_there (refusal_of (current log) (Stat target)) target) path held.2 in
    let is = there (refusal_of (current log) (Stat at.0)) at.0 path at.2 in
    subst (λ p. refusal_of (current log) (Stat p) ≡ Some Missing) is.1 is.0

module _ (log : CallLog) (from : Route) (typed : List ℕ) where
  bad_mask : (o : Option (List ℕ)) (e : PlanError) → or_bad_mask o ≡ Err e → HasTreeCause log e
  bad_mask (Some x) e h = absurd cc
  bad_mask None e h = let is : place.BadMask ≡ e = cc in subst (λ e. HasTreeCause log e) is tt

  answers : (why : ResolveError) → resolved_path (current log) FolderAlone from (folder_prefix typed) ≡ Err why
      → Answers {A = Route} (resolved_path (current log) FolderAlone from (folder_prefix typed)) (Err why)
  answers (resolve.Tree path e) is = is
  answers resolve.TooManyLinks is = is
  answers resolve.TooLong is = is
  answers resolve.BadName is = is
  answers resolve.Fault is = tt
  answers resolve.Memory is = tt

  nowhere : (r : Result Route ResolveError) (e : PlanError) → resolved_path (current log) FolderAlone from (folder_prefix typed) ≡ r → in_target r ≡ Err e → HasTreeCause log e
  nowhere (Ok folder) e is h = absurd cc
  nowhere (Err why) e is h = let same : place.Target why ≡ e = cc in subst (λ e. HasTreeCause log e) same (inl (from, (folder_prefix typed, answers why is)))

  too_long : (long : Bool) (target : Route) (e : PlanError) → (let r : Result Route PlanError = if long then Err (place.Target resolve.TooLong) else Ok target in r) ≡ Err e → HasTreeCause log e
  too_long true target e h = let is : place.Target resolve.TooLong ≡ e = cc in subst (λ e. HasTreeCause log e) is (inr (inr refl))
  too_long false target e h = absurd cc

  unseen : (cause : TreeError) (target : Route) (e : PlanError) → refusal_of (current log) (Stat target) ≡ Some cause → place.Target (resolve.Tree target cause) ≡ e → HasTreeCause log e
  unseen cause target e is h = subst (λ e. HasTreeCause log e) h (inr (inl (target, (cause, refl, is))))

  not_there : (told : Option TreeError) (target : Route) (error : PlanError) → refusal_of (current log) (Stat target) ≡ told → nothing_there told target ≡ Err error → HasTreeCause log error
  not_there None target error is h = let same : place.TargetThere target ≡ error = cc in subst (λ e. HasTreeCause log e) same is
  not_there (Some Missing) target error is h = absurd cc
  not_there (Some NotFolder) target error is h = unseen NotFolder target error is cc
  not_there (Some Denied) target error is h = unseen Denied target error is cc
  not_there (Some Exists) target error is h = unseen Exists target error is cc
  not_there (Some IsFolder) target error is h = unseen IsFolder target error is cc
  not_there (Some NotEmpty) target error is h = unseen NotEmpty target error is cc
  not_there (Some IntoItself) target error is h = unseen IntoItself target error is cc
  not_there (Some Mounted) target error is h = unseen Mounted target error is cc
  not_there (Some CrossMount) target error is h = unseen CrossMount target error is cc
  not_there (Some NoSpace) target error is h = unseen NoSpace target error is cc
  not_there (Some Special) target error is h = unseen Special target error is cc
  not_there (Some Fault) target error is h = unseen Fault target error is cc
  not_there (Some Memory) target error is h = unseen Memory target error is cc

  place_cause : (e : PlanError) → place_of (current log) from typed ≡ Err e → HasTreeCause log e
  place_cause e h =
      refused_in (HasTreeCause log e) (or_bad_mask (checked_name (last_part typed))) (at_front log from typed) e h
      (λ bad. bad_mask (checked_name (last_part typed)) e bad)
      (λ name is h. refused_in (HasTreeCause log e) (folder_at (current log) from (folder_prefix typed)) (in_folder log name) e h
      (λ lost. nowhere (resolved_path (current log) FolderAlone from (folder_prefix typed)) e refl lost)
      (λ folder is h. refused_in (HasTreeCause log e) (target_in folder name) (λ target. nothing_there (refusal_of (current log) (Stat target)) target) e h
      (λ long. too_long (is_too_long folder name) (name ∷ folder) e long)
      (λ target is h. not_there (refusal_of (current log) (Stat target)) target e refl h)))

-- a path with a name has a folder
pub has_folder : (path : Route) (name : List ℕ) → last_of path ≡ Some name → is_some (parent_of path) ≡ true
has_folder [] name h = absurd cc
has_folder (name ∷ folder) other h = refl

is_vacant : (contents : Option CallLog) (from : Route) (typed : List ℕ) (path : Route) → IsPlace contents from typed (Ok path) → IsVacant (sight contents) path
is_vacant None from typed path place = λ view is. absurd cc
is_vacant (Some log) from typed path place = λ view is.
    let seen : visible_tree (current log) ≡ view = cc in
    subst (λ (v : View). (v path).value ≡ None) seen
    (ap (option_map (λ i. value (node (current log) i))) (stat_missing (current log) path (seen_missing log from typed path (place log refl))))

module _ (contents : Option CallLog) (from : Route) (typed : List ℕ) where
  pub stands : (path : Route) → is_below_home typed ≡ false → last_of path ≡ Some (last_part typed) → IsPlace contents from typed (Ok path)
      → PlaceLeads contents from typed (At path)
  stands path not_home named place = record { not_home = not_home; named = named; place = place; vacant = is_vacant contents from typed path place }

  refuses : (error : PlanError) (found : NewPlace) → is_below_home typed ≡ false → IsPlaceError error → IsPlace contents from typed (Err error)
      → IsToldOfPlace error found → PlaceLeads contents from typed found
  refuses error (At path) not_home allowed known told = absurd told
  refuses (place.TargetThere path) (Refused refusal) not_home allowed known told =
      let is : Plan (TargetThere path) ≡ refusal = cc in subst (λ r. PlaceRefused contents from typed r) is (not_home, known)
  refuses (place.Target e) (Refused refusal) not_home allowed known told =
      let is : Plan (Target e) ≡ refusal = cc in subst (λ r. PlaceRefused contents from typed r) is (not_home, known)
  refuses place.BadMask (Refused refusal) not_home allowed known told =
      let is : Typed BadName ≡ refusal = cc in subst (λ r. PlaceRefused contents from typed r) is (inr known)
  refuses place.NoSelection (Refused refusal) not_home allowed known told = absurd allowed
  refuses (place.Nested one second) (Refused refusal) not_home allowed known told = absurd allowed
  refuses (place.Source path e) (Refused refusal) not_home allowed known told = absurd allowed
  refuses (place.SameFile path) (Refused refusal) not_home allowed known told = absurd allowed
  refuses (place.IntoItself source target) (Refused refusal) not_home allowed known told = absurd allowed
  refuses (place.TwoToOne one second) (Refused refusal) not_home allowed known told = absurd allowed
  refuses place.BadLinkText (Refused refusal) not_home allowed known told = absurd allowed
  refuses place.Memory (Refused refusal) not_home allowed known told = absurd cc

  -- what a refused path comes to
  pub refused_leads : (error : PlanError) (result : Result NewPlace NoMemory) → is_below_home typed ≡ false → IsPlaceError error
      → IsPlace contents from typed (Err error) → IfOk result (IsToldOfPlace error) → IfOk result (PlaceLeads contents from typed)
  refused_leads error (Err e) not_home allowed known told = tt
  refused_leads error (Ok found) not_home allowed known told = refuses error found not_home allowed known told

  target_cause : (log : CallLog) (e : ResolveError) → Plans {A = Route} (place_of (current log) from typed) (Err (place.Target e)) → IsTargetRefused log e
  target_cause log resolve.Fault known = inl (from, (typed, tt))
  target_cause log (resolve.Tree path cause) known = place_cause log from typed (place.Target (resolve.Tree path cause)) (known refl)
  target_cause log resolve.TooManyLinks known = place_cause log from typed (place.Target resolve.TooManyLinks) (known refl)
  target_cause log resolve.TooLong known = place_cause log from typed (place.Target resolve.TooLong) (known refl)
  target_cause log resolve.BadName known = place_cause log from typed (place.Target resolve.BadName) (known refl)
  target_cause log resolve.Memory known = place_cause log from typed (place.Target resolve.Memory) (known refl)

  place_error_cause : (log : CallLog) (error : PlanError) → IsPlaceError error → Plans {A = Route} (place_of (current log) from typed) (Err error)
      → HasTreeCause log error
  place_error_cause log (place.TargetThere path) allowed known = place_cause log from typed (place.TargetThere path) (known refl)
  place_error_cause log (place.Target e) allowed known = target_cause log e known
  place_error_cause log place.BadMask allowed known = tt
  place_error_cause log place.Memory allowed known = tt
  place_error_cause log place.NoSelection allowed known = absurd allowed
  place_error_cause log (place.Nested one second) allowed known = absurd allowed
  place_error_cause log (place.Source path e) allowed known = absurd allowed
  place_error_cause log (place.SameFile path) allowed known = absurd allowed
  place_error_cause log (place.IntoItself source target) allowed known = absurd allowed
  place_error_cause log (place.TwoToOne one second) allowed known = absurd allowed
  place_error_cause log place.BadLinkText allowed known = absurd allowed

  -- what was refused has its cause in the tree
  pub place_causes : (error : PlanError) → IsPlaceError error → IsPlace contents from typed (Err error)
      → IfKnown contents (λ log. HasTreeCause log error)
  place_causes error allowed known = λ log is. place_error_cause log error allowed (known log is)

-- what a refused path tells of the tree
told_cause : (log : CallLog) (error : PlanError) (refusal : Refusal) → HasTreeCause log error → told_of_place error ≡ Some refusal → HasCause log refusal
told_cause log place.BadMask refusal cause told = let is : Typed BadName ≡ refusal = cc in subst (HasCause log) is tt
told_cause log (place.Target e) refusal cause told = let is : Plan (Target e) ≡ refusal = cc in subst (HasCause log) is cause
told_cause log (place.TargetThere path) refusal cause told = let is : Plan (TargetThere path) ≡ refusal = cc in subst (HasCause log) is cause
told_cause log place.NoSelection refusal cause told = absurd cc
told_cause log (place.Nested one second) refusal cause told = absurd cc
told_cause log (place.Source path e) refusal cause told = absurd cc
told_cause log (place.SameFile path) refusal cause told = absurd cc
told_cause log (place.IntoItself source target) refusal cause told = absurd cc
told_cause log (place.TwoToOne one second) refusal cause told = absurd cc
told_cause log place.BadLinkText refusal cause told = absurd cc
told_cause log place.Memory refusal cause told = absurd cc

told_called : (log : CallLog) (error : PlanError) (found : NewPlace) → HasTreeCause log error → IsToldOfPlace error found → AreRefused log (place_refusals found)
told_called log error (At path) cause told = absurd told
told_called log error (Refused refusal) cause told = (told_cause log error refusal cause told, tt)

told_fault : (error : PlanError) (refusal : Refusal) → told_of_place error ≡ Some refusal → has_fault (refusal ∷ []) ≡ true → is_fault error ≡ true
told_fault place.BadMask refusal told h =
    let none : has_fault (Typed BadName ∷ []) ≡ false = refl in no_fault place.BadMask (Typed BadName) refusal none h cc
told_fault (place.Target e) refusal told h = let is : refusal ≡ Plan (Target e) = cc in target_fault e (subst (λ r. has_fault (r ∷ []) ≡ true) is h)
told_fault (place.TargetThere path) refusal told h =
    let none : has_fault (Plan (TargetThere path) ∷ []) ≡ false = refl in no_fault (place.TargetThere path) (Plan (TargetThere path)) refusal none h cc
told_fault place.NoSelection refusal told h = absurd cc
told_fault (place.Nested one second) refusal told h = absurd cc
told_fault (place.Source path e) refusal told h = absurd cc
told_fault (place.SameFile path) refusal told h = absurd cc
told_fault (place.IntoItself source target) refusal told h = absurd cc
told_fault (place.TwoToOne one second) refusal told h = absurd cc
told_fault place.BadLinkText refusal told h = absurd cc
told_fault place.Memory refusal told h = absurd cc

risen : {A : Type 0} (f0 f1 : ℕ) (error : PlanError) (found : NewPlace) → HasPlanCause {A = A} f0 f1 (Err error) → IsToldOfPlace error found
    → has_fault (place_refusals found) ≡ true → HasRisen f0 f1
risen f0 f1 error (At path) cause told h = absurd told
risen f0 f1 error (Refused refusal) cause told h = cause.risen (told_fault error refusal told h)

pub refused_reads : {A : Type 0} (contents after : Option CallLog) (f0 f1 : ℕ) (error : PlanError) (result : Result NewPlace NoMemory) → after ≡ contents
    → IfKnown contents (λ log. HasTreeCause log error) → HasPlanCause {A = A} f0 f1 (Err error) → IfOk result (IsToldOfPlace error)
    → ReadsTree place_refusals result contents after f0 f1
refused_reads contents after f0 f1 error (Err e) same known cause told = record { same = same; later = cause.later; called = λ log is. tt; fault = tt }
refused_reads contents after f0 f1 error (Ok found) same known cause told = record {
  same = same;
  later = cause.later;
  called = λ log is. told_called log error found (known log is) told;
  fault = risen f0 f1 error found cause told;
}
