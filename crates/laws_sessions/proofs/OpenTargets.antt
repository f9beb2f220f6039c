-- Targets at which nothing stands, or what a copy replaces: no folder stands at any of them.
use Rattle.std.proofs.Common.{◌≡◌, ◌⊎◌, Bool, true, false, List, [], ◌∷◌, refl, sym, ◌∙◌, ap, inl, inr, None}
use Rattle.std.specs.Prelude.{unwrap_or}
use Rattle.mc_text.specs.Routes.{Route}
use Rattle.mc_text.specs.declared.kind.Kind.{Kind}
use Rattle.mc_text.specs.declared.kind.Kind.TheVariants.{File}
use Rattle.mc_text.specs.declared.kind.Kind.TheVariants as kind
use Rattle.tree_trait.specs.declared.calls.Meta.{Meta}
use Rattle.tree_trait.specs.declared.file_system.FileSystem.{FileSystem}
use Rattle.tree_trait.specs.Answers.{IsMeta}
use Rattle.tree_trait.specs.Calls.{Stat}
use Rattle.tree_trait.specs.FileSystem.{find, node}
use Rattle.tree_trait.specs.Refusals.{folder_kind, is_folder, refusal_of}
use Rattle.job_reports.proofs.PermittedCalls.{stat_missing}
use Rattle.job_reports.specs.declared.job.Pair.{Pair}
use Rattle.job_answers.specs.declared.replies.Replies.{Replies}
use Rattle.copy_file.specs.Copying.{Places}
use Rattle.copy_file.specs.Looking.{IsReady, file_at}
use Rattle.tree_walk.specs.Places.{is_empty}
use Rattle.copy_tree.specs.Asking as asking
use Rattle.copy_tree.specs.Replaceable.{IsReplaceable}
use Rattle.laws_sessions.proofs.Untouched.{IsBare, bare_free}

-- a file stands at the source, and at the target nothing, or no folder
pub record IsOpen (s : FileSystem) (p : Places) : Type 0 where
  pub source : refusal_of s (Stat p.source) ≡ None
  pub file : (file_at s p.source).kind ≡ File
  pub bare : IsBare s p.target

-- so it is where nothing stands at the target
pub open_free : (s : FileSystem) (p : Places) → IsReady s p → IsOpen s p
open_free s p ready = record { source = ready.source; file = ready.file; bare = bare_free s p.target (stat_missing s p.target ready.target) }

no_folder : (k : Kind) → IsReplaceable k → folder_kind k ≡ false
no_folder kind.File h = refl
no_folder kind.Link h = refl
no_folder kind.Folder h = absurd h
no_folder kind.Other h = absurd h

-- what may be replaced is no folder
bare_single : (s : FileSystem) (path : Route) (meta : Meta) → IsMeta s path meta → IsReplaceable meta.kind → IsBare s path
bare_single s path meta is replaceable i at = ap (λ j. is_folder (node s j)) (sym (ap (λ o. unwrap_or o 0) at)) ∙ (ap folder_kind (sym is.kind) ∙ no_folder meta.kind replaceable)

-- So it is of what is taken up by the copy of a tree: something stands at its target only where that is what is copied itself.
pub taken_bare : (s : FileSystem) (top : Bool) (replies : Replies) (pair : Pair) → asking.IsOpen s top replies pair → IsBare s pair.target
taken_bare s top replies pair (inl free) = bare_free s pair.target (stat_missing s pair.target free)
taken_bare s top replies pair (inr (is_top, (question, decided))) = (let both = decided.both in bare_single s pair.target both.target both.of_target both.replaceable)

none_in : {A : Type 0} (xs : List A) → is_empty xs ≡ true → xs ≡ []
none_in [] is = refl
none_in (x ∷ xs) is = (let f : ⊥ = cc in absurd f)

pub taken_free : {A : Type 0} (s : FileSystem) (around : List A) (replies : Replies) (pair : Pair) → asking.IsOpen s (is_empty around) replies pair → (find s pair.target ≡ None) ⊎ (around ≡ [])
taken_free s around replies pair (inl free) = inl (stat_missing s pair.target free)
taken_free s around replies pair (inr (is_top, (question, decided))) = inr (none_in around is_top)
