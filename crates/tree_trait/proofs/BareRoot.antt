-- A tree of a root alone, for examples: one folder, which a mount begins at.
use Rattle.std.proofs.Common.{◌≡◌, ℕ, true, false, [], ◌∷◌, refl, ap, subst, inl, inr}
use Rattle.std.specs.Prelude.{pos, ◌==◌, ◌||◌}
use Rattle.std.proofs.lemmas.Bool.{cases_Bool, eqb-true, both_ways}
use Rattle.mc_text.specs.declared.kind.Kind.TheVariants.{Folder}
use Rattle.tree_trait.specs.declared.file_system.Node.{Node}
use Rattle.tree_trait.specs.declared.file_system.Mount.{Mount}
use Rattle.tree_trait.specs.declared.file_system.FileSystem.{FileSystem}
use Rattle.tree_trait.specs.FileSystem.{node, starts_mount}
use Rattle.tree_trait.specs.Refusals.{is_folder}
use Rattle.tree_trait.specs.Shape.{IsTree}

abbrev pub root : Node
root = record { kind = Folder; bytes = []; mode = 0o755; mtime = pos 0; unnamed = 0 }

abbrev pub bare : FileSystem
bare = record { nodes = root ∷ []; names = []; mounts = (let m : Mount = record { folder = 0; capacity = 100 } in m) ∷ [] }

at_folders : (i : ℕ) → starts_mount bare i ≡ true → is_folder (node bare i) ≡ true
at_folders i h =
    elim (cases_Bool (0 == i)) [
      | inl on ↦ subst (λ j. is_folder (node bare j) ≡ true) (eqb-true 0 i on) refl
      | inr off ↦ absurd (both_ways _ (ap (λ b. b || false) off) h)
    ]

pub bare_tree : IsTree bare
bare_tree = record {
  one_name = λ f g m n i a b. absurd cc;
  no_name = λ f m a. cc;
  in_folders = λ f m i a. absurd cc;
  there = λ f m i a. absurd cc;
  root = refl;
  mounts = at_folders;
  mounted = refl;
}
