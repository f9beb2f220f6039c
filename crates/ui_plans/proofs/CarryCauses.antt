-- What a plan of things that are copied or moved says of the tree where it is refused.
use Rattle.std.proofs.Common.{◌≡◌, ◌≢◌, inl, inr, ℕ, Bool, true, false, List, [], ◌∷◌, map, refl, subst, Option, Some, None, Result, Ok, Err}
use Rattle.std.specs.Prelude.{if◌then◌else◌, chars, option_map}
use Rattle.std.specs.List.{find, list_any}
use Rattle.std.specs.Option.{option_map_or}
use Rattle.mc_text.specs.Routes.{Route, same_path}
use Rattle.tree_trait.specs.declared.calls.TreeError.{TreeError}
use Rattle.tree_trait.specs.declared.calls.TreeError.TheVariants as tree
use Rattle.tree_trait.specs.Calls.{Stat}
use Rattle.tree_trait.specs.Refusals.{refusal_of}
use Rattle.tree_trait.specs.Change.{CallLog, current}
use Rattle.tree_trait.specs.Answers.{IfKnown}
use Rattle.resolving.specs.declared.error.ResolveError.{ResolveError}
use Rattle.resolving.specs.declared.error.ResolveError.TheVariants as resolve
use Rattle.resolving.specs.declared.walking.Wanted.TheVariants.{FolderAlone}
use Rattle.resolving.specs.Errors.{Answers}
use Rattle.resolving.specs.Resolution.{resolved_path}
use Rattle.tagging.specs.declared.glob.GlobPart.{GlobPart}
use Rattle.job_reports.specs.declared.job.Pair.{Pair}
use Rattle.op_plan.specs.declared.mask.MaskPiece.{MaskPiece}
use Rattle.op_plan.specs.declared.mask.MaskPiece.TheVariants.{Star}
use Rattle.op_plan.specs.declared.error.PlanError.{PlanError}
use Rattle.op_plan.specs.declared.error.PlanError.TheVariants as place
use Rattle.op_plan.specs.declared.job.Job.TheVariants as planned
use Rattle.op_plan.specs.Answering.{CarriesPlanCause, Plans, and_then, or_bad_mask, unless}
use Rattle.op_plan.specs.Checks.{all_there, into_itself, is_too_long, nested_error, none_across, none_into, none_nested, none_same, none_twice, paired_sources, some_source, sources_in, targets_from, targets_in, there_or, two_to_one}
use Rattle.op_plan.specs.Destinations.{folder_at, folder_prefix, in_target, last_part}
use Rattle.op_plan.specs.Masks.{pieces_of}
use Rattle.op_plan.specs.Meeting.{first_across, first_two, meet}
use Rattle.op_plan.specs.Naming.{chosen_sources, names_for, pattern_in}
use Rattle.op_plan.specs.Planning.{apart, folder_for, pairs_into, pairs_of, placed_masked, placed_there, plan_of, sources_of}
use Rattle.session_entries.specs.Refusals.{IsSourceRefused, IsTargetRefused}
use Rattle.ui_words.specs.declared.carry.Carry.{Carry}
use Rattle.ui_words.specs.declared.carry.Carry.TheVariants as carry
use Rattle.ui_plans.specs.Carrying.{IsPlanned, carry_request}
use Rattle.ui_plans.proofs.Firsts.{Each, across, each, each_of, each_paired, found, two}
use Rattle.ui_plans.proofs.Refusing.{HasTreeCause, after, refused_in}

-- what an equation of a refused plan says: of a source what its look is refused as
abbrev HasOwnCause : CallLog → PlanError → Type 0
HasOwnCause log (place.Source path e) = refusal_of (current log) (Stat path) ≡ Some e
HasOwnCause log place.NoSelection = HasTreeCause log place.NoSelection
HasOwnCause log (place.Nested one second) = HasTreeCause log (place.Nested one second)
HasOwnCause log place.BadMask = HasTreeCause log place.BadMask
HasOwnCause log (place.Target e) = HasTreeCause log (place.Target e)
HasOwnCause log (place.TargetThere path) = HasTreeCause log (place.TargetThere path)
HasOwnCause log (place.SameFile path) = HasTreeCause log (place.SameFile path)
HasOwnCause log (place.IntoItself source target) = HasTreeCause log (place.IntoItself source target)
HasOwnCause log (place.TwoToOne one second) = HasTreeCause log (place.TwoToOne one second)
HasOwnCause log place.BadLinkText = HasTreeCause log place.BadLinkText
HasOwnCause log place.Memory = HasTreeCause log place.Memory

-- a source is there
abbrev IsThere : CallLog → Route → Type 0
IsThere log path = refusal_of (current log) (Stat path) ≡ None

-- sources that pass the checks are there
module _ (log : CallLog) where
  looked_there : (told : Option TreeError) (source : Route) (rest : Result (Unit {0}) PlanError) (x : Unit {0}) → there_or told source rest ≡ Ok x → (told ≡ None) × (rest ≡ Ok x)
  looked_there (Some e) source rest x h = absurd cc
  looked_there None source rest x h = (refl, h)

  all_are : (sources : List Route) (x : Unit {0}) → all_there (current log) sources ≡ Ok x → Each (IsThere log) sources
  all_are [] x h = tt
  all_are (source ∷ sources) x h =
      let at = looked_there (refusal_of (current log) (Stat source)) source (all_there (current log) sources) x h in (at.0, all_are sources x at.1)

  are_there : (sources left : List Route) → sources_of (current log) sources ≡ Ok left → Each (IsThere log) left
  are_there sources left h =
      let rest : Result (List Route) PlanError = and_then (none_nested sources) (λ _. and_then (all_there (current log) sources) (λ _. Ok sources)) in
      let some = after (some_source sources) (λ _. rest) left h in
      let apart = after (none_nested sources) (λ _. and_then (all_there (current log) sources) (λ _. Ok sources)) left some.2 in
      let there = after (all_there (current log) sources) (λ _. Ok sources) left apart.2 in
      let same : sources ≡ left = cc in
      subst (λ (l : List Route). Each (IsThere log) l) same (all_are sources there.0 there.1)

module _ (log : CallLog) (error : PlanError) where
  by_error : (other : PlanError) → HasOwnCause log other → other ≡ error → HasOwnCause log error
  by_error other cause is = subst (λ e. HasOwnCause log e) is cause

  -- THE SOURCES

  some_cause : (sources : List Route) → some_source sources ≡ Err error → HasOwnCause log error
  some_cause [] h = by_error place.NoSelection tt cc
  some_cause (source ∷ sources) h = absurd cc

  met : (sources : List Route) (o : Option (Route × Route)) → first_two meet [] sources ≡ o → unless (option_map nested_error o) ≡ Err error → HasOwnCause log error
  met sources None is h = absurd cc
  met sources (Some (one, second)) is h =
      by_error (place.Nested one second) (two (λ path. Unit {0}) meet [] sources one second is tt (each (λ path. Unit {0}) (λ path. tt) sources)).1 cc

  looked : (told : Option TreeError) (source : Route) (sources : List Route) → refusal_of (current log) (Stat source) ≡ told
      → there_or told source (all_there (current log) sources) ≡ Err error → (all_there (current log) sources ≡ Err error → HasOwnCause log error)
      → HasOwnCause log error
  looked (Some e) source sources is h later = by_error (place.Source source e) is cc
  looked None source sources is h later = later h

  there_cause : (sources : List Route) → all_there (current log) sources ≡ Err error → HasOwnCause log error
  there_cause [] h = absurd cc
  there_cause (source ∷ sources) h = looked (refusal_of (current log) (Stat source)) source sources refl h (λ bad. there_cause sources bad)

  source_cause : (sources : List Route) → sources_of (current log) sources ≡ Err error → HasOwnCause log error
  source_cause sources h =
      refused_in (HasOwnCause log error) (some_source sources)
      (λ _. and_then (none_nested sources) (λ _. and_then (all_there (current log) sources) (λ _. Ok sources))) error h
      (λ bad. some_cause sources bad)
      (λ _ is h. refused_in (HasOwnCause log error) (none_nested sources) (λ _. and_then (all_there (current log) sources) (λ _. Ok sources)) error h
      (λ bad. met sources (first_two meet [] sources) refl bad)
      (λ _ is h. refused_in (HasOwnCause log error) (all_there (current log) sources) (λ _. Ok sources) error h
      (λ bad. there_cause sources bad)
      (λ _ is h. absurd cc)))

  -- THE TARGETS

  -- no source is its own target
  same_cause : (pairs : List Pair) (o : Option Pair) → find (λ (pair : Pair). same_path pair.source pair.target) pairs ≡ o
      → unless (option_map (λ (pair : Pair). place.SameFile pair.source) o) ≡ Err error → Each (λ (pair : Pair). IsThere log pair.source) pairs → HasOwnCause log error
  same_cause pairs None is h there = absurd cc
  same_cause pairs (Some pair) is h there =
      by_error (place.SameFile pair.source) (found (λ (pair : Pair). IsThere log pair.source) (λ (pair : Pair). same_path pair.source pair.target) pairs pair is there).0 cc

  across_cause : (pairs : List Pair) (o : Option (Route × Route)) → first_across meet (sources_in pairs) (targets_from pairs) ≡ o
      → unless (option_map into_itself o) ≡ Err error → Each (λ (pair : Pair). IsThere log pair.source) pairs → HasOwnCause log error
  across_cause pairs None is h there = absurd cc
  across_cause pairs (Some (source, target)) is h there =
      by_error (place.IntoItself source target)
      (across (IsThere log) meet (sources_in pairs) (targets_from pairs) source target is (each_of (IsThere log) (λ (pair : Pair). pair.source) pairs there)) cc

  into_self_cause : (pairs : List Pair) → none_into pairs ≡ Err error → Each (λ (pair : Pair). IsThere log pair.source) pairs → HasOwnCause log error
  into_self_cause pairs h there =
      refused_in (HasOwnCause log error) (none_same pairs) (λ _. none_across pairs) error h
      (λ bad. same_cause pairs (find (λ (pair : Pair). same_path pair.source pair.target) pairs) refl bad there)
      (λ _ is h. across_cause pairs (first_across meet (sources_in pairs) (targets_from pairs)) refl h there)

  twice_cause : (pairs : List Pair) (o : Option (Pair × Pair)) → first_two (λ (a b : Pair). meet a.target b.target) [] pairs ≡ o
      → unless (option_map two_to_one o) ≡ Err error → Each (λ (pair : Pair). IsThere log pair.source) pairs → HasOwnCause log error
  twice_cause pairs None is h there = absurd cc
  twice_cause pairs (Some (one, second)) is h there =
      by_error (place.TwoToOne one.source second.source)
      (two (λ (pair : Pair). IsThere log pair.source) (λ (a b : Pair). meet a.target b.target) [] pairs one second is tt there).0 cc

  apart_cause : (pairs : List Pair) → apart pairs ≡ Err error → Each (λ (pair : Pair). IsThere log pair.source) pairs → HasOwnCause log error
  apart_cause pairs h there =
      refused_in (HasOwnCause log error) (none_into pairs) (λ _. and_then (none_twice pairs) (λ _. Ok pairs)) error h
      (λ bad. into_self_cause pairs bad there)
      (λ _ is h. refused_in (HasOwnCause log error) (none_twice pairs) (λ _. Ok pairs) error h
      (λ bad. twice_cause pairs (first_two (λ (a b : Pair). meet a.target b.target) [] pairs) refl bad there)
      (λ _ is h. absurd cc))

  -- the sources are there
  module _ (paths : List Route) (there : Each (IsThere log) paths) where
    long_cause : (long : Bool) (targets : List Route)
        → (let r : Result (List Route) PlanError = if long then Err (place.Target resolve.TooLong) else Ok targets in r) ≡ Err error → HasOwnCause log error
    long_cause true targets h = by_error (place.Target resolve.TooLong) (inr (inr refl)) cc
    long_cause false targets h = absurd cc

    into_cause : (folder : Route) (names : List (List ℕ)) → pairs_into folder paths names ≡ Err error → HasOwnCause log error
    into_cause folder names h =
        refused_in (HasOwnCause log error) (targets_in folder names) (λ targets. apart (paired_sources paths targets)) error h
        (λ long. long_cause (list_any (is_too_long folder) names) (map (λ name. name ∷ folder) names) long)
        (λ targets is h. apart_cause (paired_sources paths targets) h (each_paired (IsThere log) paths targets there))

    mask_cause : (o : Option (List (List ℕ))) → or_bad_mask o ≡ Err error → HasOwnCause log error
    mask_cause (Some names) h = absurd cc
    mask_cause None h = by_error place.BadMask tt cc

    placed_cause : (pattern : Option (List GlobPart)) (folder : Route) → placed_there pattern paths folder ≡ Err error → HasOwnCause log error
    placed_cause pattern folder h =
        refused_in (HasOwnCause log error) (or_bad_mask (names_for pattern (Star ∷ []) paths)) (λ names. pairs_into folder paths names) error h
        (λ bad. mask_cause (names_for pattern (Star ∷ []) paths) bad)
        (λ names is h. into_cause folder names h)

    answers : (from : Route) (prefix : List ℕ) (why : ResolveError) → resolved_path (current log) FolderAlone from prefix ≡ Err why
        → Answers {A = Route} (resolved_path (current log) FolderAlone from prefix) (Err why)
    answers from prefix (resolve.Tree path e) is = is
    answers from prefix resolve.TooManyLinks is = is
    answers from prefix resolve.TooLong is = is
    answers from prefix resolve.BadName is = is
    answers from prefix resolve.Fault is = tt
    answers from prefix resolve.Memory is = tt

    nowhere : (from : Route) (prefix : List ℕ) (r : Result Route ResolveError) → resolved_path (current log) FolderAlone from prefix ≡ r → in_target r ≡ Err error
        → HasOwnCause log error
    nowhere from prefix (Ok folder) is h = absurd cc
    nowhere from prefix (Err why) is h = by_error (place.Target why) (inl (from, (prefix, answers from prefix why is))) cc

    masked_cause : (pattern : Option (List GlobPart)) (mask : List MaskPiece) (from : Route) (prefix : List ℕ)
        → placed_masked (current log) pattern paths mask from prefix ≡ Err error → HasOwnCause log error
    masked_cause pattern mask from prefix h =
        refused_in (HasOwnCause log error) (folder_at (current log) from prefix)
        (λ folder. and_then (or_bad_mask (names_for pattern mask paths)) (λ names. pairs_into folder paths names)) error h
        (λ lost. nowhere from prefix (resolved_path (current log) FolderAlone from prefix) refl lost)
        (λ folder is h. refused_in (HasOwnCause log error) (or_bad_mask (names_for pattern mask paths)) (λ names. pairs_into folder paths names) error h
        (λ bad. mask_cause (names_for pattern mask paths) bad)
        (λ names is h. into_cause folder names h))

    target_cause : (pattern : Option (List GlobPart)) (mask : List MaskPiece) (from : Route) (prefix : List ℕ) (folder : Option Route)
        → option_map_or (placed_there pattern paths) folder (placed_masked (current log) pattern paths mask from prefix) ≡ Err error
        → HasOwnCause log error
    target_cause pattern mask from prefix (Some folder) h = placed_cause pattern folder h
    target_cause pattern mask from prefix None h = masked_cause pattern mask from prefix h

  -- THE PLAN

  own_cause : (paths : List Route) (mask : List ℕ) (from : Route) (typed : List ℕ) → pairs_of (current log) paths mask from typed ≡ Err error → HasOwnCause log error
  own_cause paths mask from typed h =
      let pattern : Option (List GlobPart) = pattern_in mask in
      let pieces : List MaskPiece = pieces_of (chars (last_part typed)) in
      let rest : List Route → Result (List Pair) PlanError = λ left. option_map_or (placed_there pattern left)
      (folder_for (current log) pieces from typed) (placed_masked (current log) pattern left pieces from (folder_prefix typed)) in
      refused_in (HasOwnCause log error) (sources_of (current log) (chosen_sources pattern paths)) rest error h
      (λ bad. source_cause (chosen_sources pattern paths) bad)
      (λ left is h. let at = are_there log (chosen_sources pattern paths) left is in
      target_cause left at pattern pieces from (folder_prefix typed) (folder_for (current log) pieces from typed) h)

  plan_cause : (how : Carry) (paths : List Route) (mask : List ℕ) (from : Route) (typed : List ℕ)
      → plan_of (current log) (carry_request how paths mask from typed) ≡ Err error → HasOwnCause log error
  plan_cause carry.Copy paths mask from typed h =
      refused_in (HasOwnCause log error) (pairs_of (current log) paths mask from typed) (λ pairs. Ok (planned.Copy pairs)) error h
      (λ bad. own_cause paths mask from typed bad)
      (λ pairs is h. absurd cc)
  plan_cause carry.Move paths mask from typed h =
      refused_in (HasOwnCause log error) (pairs_of (current log) paths mask from typed) (λ pairs. Ok (planned.Move pairs)) error h
      (λ bad. own_cause paths mask from typed bad)
      (λ pairs is h. absurd cc)

module _ (log : CallLog) (how : Carry) (paths : List Route) (mask : List ℕ) (from : Route) (typed : List ℕ) where
  abbrev GivesError : PlanError → Type 0
  GivesError error = Plans (plan_of (current log) (carry_request how paths mask from typed)) (Err error)

  own : (error : PlanError) → plan_of (current log) (carry_request how paths mask from typed) ≡ Err error → HasOwnCause log error
  own error h = plan_cause log error how paths mask from typed h

  of_source : (at : Route) (e : TreeError) → GivesError (place.Source at e) → e ≢ tree.Memory → IsSourceRefused log at e
  of_source at tree.Fault known some = tt
  of_source at tree.Memory known some = absurd (some refl)
  of_source at tree.Missing known some = own (place.Source at tree.Missing) (known refl)
  of_source at tree.NotFolder known some = own (place.Source at tree.NotFolder) (known refl)
  of_source at tree.Denied known some = own (place.Source at tree.Denied) (known refl)
  of_source at tree.Exists known some = own (place.Source at tree.Exists) (known refl)
  of_source at tree.IsFolder known some = own (place.Source at tree.IsFolder) (known refl)
  of_source at tree.NotEmpty known some = own (place.Source at tree.NotEmpty) (known refl)
  of_source at tree.IntoItself known some = own (place.Source at tree.IntoItself) (known refl)
  of_source at tree.Mounted known some = own (place.Source at tree.Mounted) (known refl)
  of_source at tree.CrossMount known some = own (place.Source at tree.CrossMount) (known refl)
  of_source at tree.NoSpace known some = own (place.Source at tree.NoSpace) (known refl)
  of_source at tree.Special known some = own (place.Source at tree.Special) (known refl)

  of_target : (e : ResolveError) → GivesError (place.Target e) → IsTargetRefused log e
  of_target resolve.Fault known = inl (from, (typed, tt))
  of_target (resolve.Tree at e) known = own (place.Target (resolve.Tree at e)) (known refl)
  of_target resolve.TooManyLinks known = own (place.Target resolve.TooManyLinks) (known refl)
  of_target resolve.TooLong known = own (place.Target resolve.TooLong) (known refl)
  of_target resolve.BadName known = own (place.Target resolve.BadName) (known refl)
  of_target resolve.Memory known = own (place.Target resolve.Memory) (known refl)

  carry_cause : (error : PlanError) → GivesError error → CarriesPlanCause error → HasTreeCause log error
  carry_cause place.NoSelection known carried = tt
  carry_cause (place.Nested one second) known carried = own (place.Nested one second) (known refl)
  carry_cause (place.Source at e) known carried = of_source at e known carried
  carry_cause place.BadMask known carried = tt
  carry_cause (place.Target e) known carried = of_target e known
  carry_cause (place.TargetThere at) known carried = own (place.TargetThere at) (known refl)
  carry_cause (place.SameFile at) known carried = own (place.SameFile at) (known refl)
  carry_cause (place.IntoItself source target) known carried = own (place.IntoItself source target) (known refl)
  carry_cause (place.TwoToOne one second) known carried = own (place.TwoToOne one second) (known refl)
  carry_cause place.BadLinkText known carried = tt
  carry_cause place.Memory known carried = tt

-- what was refused has its cause in the tree
pub carry_causes : (contents : Option CallLog) (how : Carry) (paths : List Route) (mask : List ℕ) (from : Route) (typed : List ℕ) (error : PlanError)
    → IsPlanned contents (carry_request how paths mask from typed) (Err error) → CarriesPlanCause error → IfKnown contents (λ log. HasTreeCause log error)
carry_causes contents how paths mask from typed error known carried = λ log is. carry_cause log how paths mask from typed error (known log is) carried
