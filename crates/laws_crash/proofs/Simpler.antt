-- Simple sessions.
use Rattle.std.proofs.Common.{◌≡◌, ◌≢◌, ℕ, Bool, true, false, ◌||◌, [], ◌∷◌, refl, ◌∙◌, ap, subst, inl, inr, ◌⊎◌, Option, None}
use Rattle.std.specs.Option.{option_map}
use Rattle.mc_text.specs.Routes.{Route}
use Rattle.tree_trait.specs.declared.file_system.FileSystem.{FileSystem}
use Rattle.tree_trait.specs.FileSystem.{find, node, value, value_at}
use Rattle.tree_trait.specs.Change.{CallLog, current}
use Rattle.laws_crash.specs.Guarded.{Marks, Holds}
use Rattle.laws_crash.specs.Table.{IsSafe}
use Rattle.laws_crash.specs.Simple.{PlainLaw, IdleLaw, DeletionLaw}
use Rattle.laws_crash.proofs.Leading.{find_law}
use Rattle.laws_crash.proofs.Guarding.{guard_law}
use Rattle.laws_crash.proofs.Tables.{safe_law}

pub idle_law : IdleLaw
idle_law marks log image p table left out = (safe_law [] (λ q. false) marks log image table left).outside p out refl refl

pub plain_law : PlainLaw
plain_law job marks log image target table only mine left = (
  λ p out other. either p out other (job.writes p) refl,
  λ out. safe.written job target (inl refl) out refl mine,
)
  where
    safe : IsSafe (job ∷ []) (λ q. false) marks log image
    safe = safe_law (job ∷ []) (λ q. false) marks log image table left

    either : (p : Route) → marks.aside p ≡ false → p ≢ target → (b : Bool) → job.writes p ≡ b → Holds marks (current log) (value_at image p) (job.start p)
    either p out other true is =
        elim (safe.written job p (inl refl) out refl is) [
          | inl now ↦ subst (λ o. Holds marks (current log) (value_at image p) o) (only p other) now
          | inr before ↦ before
        ]
    either p out other false is =
        subst (λ o. Holds marks (current log) (value_at image p) o) (only p other) (safe.outside p out refl (ap (λ b. b || false) is))

none_holds : (marks : Marks) (log : CallLog) (image : FileSystem) (p : Route) (o opened : Option ℕ) → Holds marks (current log) (value_at image p) o → (o ≡ opened) ⊎ (o ≡ None)
    → Holds marks (current log) (value_at image p) opened ⊎ (value_at image p ≡ None)
none_holds marks log image p o opened holds (inl same) = inl (subst (λ x. Holds marks (current log) (value_at image p) x) same holds)
none_holds marks log image p o opened holds (inr none) = inr (subst (λ x. Holds marks (current log) (value_at image p) x) none holds)

pub deletion_law : DeletionLaw
deletion_law opening marks log image p guarded left out now before = (
  elim (guard_law marks log image p guarded left out) [
    | inl holds ↦ none_holds marks log image p (find (current log) p) (opening p) holds now
    | inr holds ↦ none_holds marks log image p (marks.was p) (opening p) holds before
  ],
  λ settled gone. ap (option_map (λ i. value (node image i))) (settled (find image p) (find_law log image p left) ∙ gone),
)
