-- Which starts are refused, and how a run with a session ends, by the paths that are asked for.
use Rattle.std.proofs.Common.{◌≡◌, ◌≢◌, ◌⊎◌, ◌≤◌, ℕ, zero, suc, true, refl, sym, subst, inl, inr, Option, Some, None, IsSome, arith}
use Rattle.tree_trait.specs.declared.file_system.FileSystem.{FileSystem}
use Rattle.tree_trait.specs.Change.{CallLog, current}
use Rattle.tree_trait.specs.Answers.{HasRisen}
use Rattle.resolving.specs.declared.error.ResolveError.{ResolveError}
use Rattle.resolving.specs.declared.error.ResolveError.TheVariants as resolve
use Rattle.mc_desk.specs.declared.starts.StartError.{StartError}
use Rattle.mc_desk.specs.declared.starts.StartError.TheVariants.{Resolve, Memory}
use Rattle.mc_desk.specs.declared.starts.Start.{Start}
use Rattle.mc_desk.specs.declared.starts.StartMode.{StartMode}
use Rattle.mc_desk.specs.declared.starts.StartMode.TheVariants.{Panels, View}
use Rattle.mc_desk.specs.declared.starts.StartPlace.{StartPlace}
use Rattle.mc_desk.specs.declared.starts.StartPlace.TheVariants as place
use Rattle.mc_desk.specs.Starts.{CanStart, IsRefusal, IsStartCause, file_refusal, is_start_fault, path_refusal}
use Rattle.mc_main.specs.StartRefusals.{CantRead, IsComplete, MayRefuseStart, RefusesStart}
use Rattle.mc_main.specs.Statuses.{IsStatusOr}

some_of : {A : Type 0} (x : Option A) (a : A) → x ≡ Some a → IsSome x
some_of x a is = subst (λ (o : Option _). IsSome o) (sym is) refl

none_some : {A : Type 0} (x : Option A) → x ≡ None → IsSome x → ⊥
none_some x none some = cc

-- a path that is refused leads to nothing that can be read, or the tree failed
fails : (refusal : Option ResolveError) (at : StartPlace) (e : ResolveError) (faults after : ℕ) → IsRefusal refusal e → (is_start_fault (Resolve at e) ≡ true → HasRisen faults after) → IsSome refusal ⊎ HasRisen faults after
fails refusal at resolve.Fault faults after cause risen = inr (risen refl)
fails refusal at resolve.Memory faults after cause risen = absurd cause
fails refusal at (resolve.Tree path e) faults after cause risen = inl (some_of refusal (resolve.Tree path e) cause)
fails refusal at resolve.TooManyLinks faults after cause risen = inl (some_of refusal resolve.TooManyLinks cause)
fails refusal at resolve.TooLong faults after cause risen = inl (some_of refusal resolve.TooLong cause)
fails refusal at resolve.BadName faults after cause risen = inl (some_of refusal resolve.BadName cause)

-- the cause for which a session doesn't start
why : (s : FileSystem) (start : StartMode) (error : StartError) (faults after : ℕ) → error ≢ Memory → IsStartCause s start error → (is_start_fault error ≡ true → HasRisen faults after) → CantRead s start ⊎ HasRisen faults after
why s start Memory faults after some cause risen = absurd (some refl)
why s (Panels left right) (Resolve place.Left e) faults after some cause risen = elim (fails (path_refusal s left) place.Left e faults after cause risen) [ inl cant ↦ inl (inl cant) | inr failed ↦ inr failed ]
why s (Panels left right) (Resolve place.Right e) faults after some cause risen = elim (fails (path_refusal s right) place.Right e faults after cause.1 risen) [ inl cant ↦ inl (inr cant) | inr failed ↦ inr failed ]
why s (Panels left right) (Resolve place.File e) faults after some cause risen = absurd cause
why s (View path) (Resolve place.Left e) faults after some cause risen = absurd cause
why s (View path) (Resolve place.Right e) faults after some cause risen = absurd cause
why s (View path) (Resolve place.File e) faults after some cause risen = fails (file_refusal s path) place.File e faults after cause risen

pub may_refuse : (log : CallLog) (o : Option Start) (start : Start) (error : StartError) (faults after : ℕ) → o ≡ Some start → error ≢ Memory → IsStartCause (current log) start.mode error
    → (is_start_fault error ≡ true → HasRisen faults after) → MayRefuseStart log o faults after
may_refuse log o start error faults after is some cause risen = subst (λ x. MayRefuseStart log x faults after) (sym is) (why (current log) start.mode error faults after some cause risen)

-- a run that ends so has refused what it had to
pub refuses_by : (log : CallLog) (o : Option Start) (status : ℕ) → IsStatusOr 2 status → RefusesStart log o status
refuses_by log None status is = tt
refuses_by log (Some start) status is = λ cant. is

-- what can be started can be read
pub can_read : (s : FileSystem) (start : StartMode) → CanStart s start → CantRead s start → ⊥
can_read s (Panels left right) can (inl at_left) = none_some (path_refusal s left) can.0 at_left
can_read s (Panels left right) can (inr at_right) = none_some (path_refusal s right) can.1 at_right
can_read s (View path) can cant = none_some (file_refusal s path) can cant

pub refuses_listed : (log : CallLog) (o : Option Start) (start : Start) (status : ℕ) → o ≡ Some start → CanStart (current log) start.mode → RefusesStart log o status
refuses_listed log o start status is can = subst (λ x. RefusesStart log x status) (sym is) (λ cant. absurd (can_read (current log) start.mode can cant))

-- memory ran out before a session
pub completes_by_five : (log : CallLog) (o : Option Start) (status : ℕ) (failed : Type 0) → status ≡ 5 → IsComplete log o status failed
completes_by_five log None status failed five = tt
completes_by_five log (Some start) status failed five = λ can none_failed. inr five

-- a session in which no device failed
ended : (status : ℕ) (tree keys screen : Type 0) → status ≤ 5 → status ≢ 1 → status ≢ 2 → (status ≡ 3 → keys) → (status ≡ 4 → screen) → (tree ⊎ (keys ⊎ screen) → ⊥) → (status ≡ 0) ⊎ (status ≡ 5)
ended zero tree keys screen most not_usage not_start by_keys by_screen fine = inl refl
ended (suc zero) tree keys screen most not_usage not_start by_keys by_screen fine = absurd (not_usage refl)
ended (suc (suc zero)) tree keys screen most not_usage not_start by_keys by_screen fine = absurd (not_start refl)
ended (suc (suc (suc zero))) tree keys screen most not_usage not_start by_keys by_screen fine = absurd (fine (inr (inl (by_keys refl))))
ended (suc (suc (suc (suc zero)))) tree keys screen most not_usage not_start by_keys by_screen fine = absurd (fine (inr (inr (by_screen refl))))
ended (suc (suc (suc (suc (suc zero))))) tree keys screen most not_usage not_start by_keys by_screen fine = inr refl
ended (suc (suc (suc (suc (suc (suc more)))))) tree keys screen most not_usage not_start by_keys by_screen fine = absurd (omega (arith, most))

pub completes : (log : CallLog) (o : Option Start) (status : ℕ) (tree keys screen : Type 0) → status ≤ 5 → status ≢ 1 → status ≢ 2 → (status ≡ 3 → keys) → (status ≡ 4 → screen)
    → IsComplete log o status (tree ⊎ (keys ⊎ screen))
completes log None status tree keys screen most not_usage not_start by_keys by_screen = tt
completes log (Some start) status tree keys screen most not_usage not_start by_keys by_screen = λ can fine. ended status tree keys screen most not_usage not_start by_keys by_screen fine
