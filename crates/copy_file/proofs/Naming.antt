-- Which path a part may take.
use Rattle.std.proofs.Common.{◌≡◌, ℕ, ◌<◌, ◌||◌, not, Bool, true, false, refl, sym, ◌∙◌, ap, subst, inl, inr, ◌⊎◌, Option, Some}
use Rattle.std.proofs.lemmas.Bool.{false≢true, true≢false}
use Rattle.mc_text.specs.Routes.{Route, same_path}
use Rattle.tree_trait.specs.declared.file_system.FileSystem.{FileSystem}
use Rattle.tree_trait.specs.declared.calls.TreeError.TheVariants as refused
use Rattle.tree_trait.specs.Calls.{Stat}
use Rattle.tree_trait.specs.Refusals.{refusal_of}
use Rattle.tree_trait.proofs.Visible.{same_path-true, same_path-self}
use Rattle.job_reports.specs.declared.report.Cause.{Cause}
use Rattle.job_reports.specs.declared.report.Cause.TheVariants.{Tree, TargetKind, SpecialSource, TooDeep, PartTaken, TooLong, Unnamed, Changed, Memory}
use Rattle.job_reports.specs.declared.report.Trouble.{Trouble}
use Rattle.copy_file.specs.Copying.{Places}
use Rattle.copy_file.specs.PartNames.{IsFree, IsShort, NameStops, NoneFree, TryStops, part_path}
use Rattle.job_reports.specs.Stops.{IsTroubleWithPath}

one_of : (a b f : Bool) → (a || b || not f) ≡ true → (a ≡ true) ⊎ ((b ≡ true) ⊎ (f ≡ false))
one_of true b f h = inl refl
one_of false true f h = inr (inl refl)
one_of false false true h = absurd (false≢true h)
one_of false false false h = inr (inr refl)

none_of : (a b f : Bool) → (a || b || not f) ≡ false → (a ≡ false) × (b ≡ false) × (f ≡ true)
none_of true b f h = absurd (true≢false h)
none_of false true f h = absurd (true≢false h)
none_of false false true h = (refl, refl, refl)
none_of false false false h = absurd (true≢false h)

apart : (p q : Route) → same_path p q ≡ false → p ≡ q → ⊥
apart p q h same = true≢false (sym (subst (λ r. same_path p r ≡ true) same (same_path-self p)) ∙ h)

module _ (s : FileSystem) (is_free : Route → Bool) (p : Places) (path : Route) where
  -- a path that is barred may not be taken
  pub barred : IsShort path → (same_path path p.target || same_path path p.source || not (is_free path)) ≡ true → IsFree s (λ q. is_free q ≡ true) p path → ⊥
  barred short h free =
      elim (one_of (same_path path p.target) (same_path path p.source) (is_free path) h) [
        | inl target ↦ free.apart (same_path-true path p.target target)
        | inr rest ↦ elim rest [
          | inl source ↦ free.unread (same_path-true path p.source source)
          | inr claimed ↦ false≢true (sym claimed ∙ free.unclaimed short)
        ]
      ]

  -- a path that isn't barred and at which nothing stands may be taken
  pub open_path : (same_path path p.target || same_path path p.source || not (is_free path)) ≡ false → refusal_of s (Stat path) ≡ Some refused.Missing → IsFree s (λ q. is_free q ≡ true) p path
  open_path h missing =
      let parts = none_of (same_path path p.target) (same_path path p.source) (is_free path) h in
      record {
        apart = apart path p.target parts.0;
        unread = apart path p.source parts.1;
        unclaimed = λ short. parts.2;
        missing = λ short. missing;
      }

module _ (s : FileSystem) (claims_none : Route → Type 0) (p : Places) (k : ℕ) where
  -- a path that is too long may be taken, but for its length
  pub long_stops : (t : Trouble) → IsTroubleWithPath TooLong p.source t → IsShort p.source → IsShort p.target → (IsShort (part_path p k) → ⊥) → TryStops s claims_none p k t.cause t.path
  long_stops t (inl is) source target long =
      subst (λ (u : Trouble). TryStops s claims_none p k u.cause u.path) (sym is) (
        refl,
        record {
          apart = λ same. long (subst IsShort (sym same) target);
          unread = λ same. long (subst IsShort (sym same) source);
          unclaimed = λ short. absurd (long short);
          missing = λ short. absurd (long short);
        },
        long,
      )
  long_stops t (inr is) source target long = subst (λ (u : Trouble). TryStops s claims_none p k u.cause u.path) (sym is) refl

  -- the trouble of the first number that is no taken one is that of all
  pub try_stops : k < 1000 → NoneFree s claims_none p k → (cause : Cause) (path : Option Route) → TryStops s claims_none p k cause path → NameStops s claims_none p cause path
  try_stops few none (Tree e) path h = (k, few, none, h.0.0, h.0.1, (λ is. h.1 (ap Tree is)))
  try_stops few none TooLong path h = (h.0, (k, record { few = few; free = h.1; first = none }, h.2))
  try_stops few none Memory path h = h
  try_stops few none (TargetKind kind) path h = absurd h
  try_stops few none SpecialSource path h = absurd h
  try_stops few none TooDeep path h = absurd h
  try_stops few none (Unnamed count) path h = absurd h
  try_stops few none PartTaken path h = absurd h
  try_stops few none (Changed said got) path h = absurd h

-- all names are taken
pub all_taken : (s : FileSystem) (claims_none : Route → Type 0) (p : Places) (target : Route) (t : Trouble) → target ≡ p.target → NoneFree s claims_none p 1000 → IsTroubleWithPath PartTaken target t → NameStops s claims_none p t.cause t.path
all_taken s claims_none p target t is none (inl told) = subst (λ (u : Trouble). NameStops s claims_none p u.cause u.path) (sym told) (ap Some is, none)
all_taken s claims_none p target t is none (inr told) = subst (λ (u : Trouble). NameStops s claims_none p u.cause u.path) (sym told) refl
