-- A part that was made stands, and what stands beside it stays, or is free still.
use Rattle.std.proofs.Common.{◌≡◌, ℕ, false, List, [], ◌∷◌, ◌++◌, length, refl, sym, ◌∙◌, ap, inl, inr, Option, Some, None, cond}
use Rattle.mc_text.specs.Routes.{Route}
use Rattle.tree_trait.specs.declared.file_system.FileSystem.{FileSystem}
use Rattle.tree_trait.specs.declared.file_system.Node.{Node}
use Rattle.tree_trait.specs.Change.{Change, Makes, CallLog, current, found_node, with_change}
use Rattle.tree_trait.specs.FileSystem.{find, node}
use Rattle.tree_trait.specs.Refusals.{is_folder}
use Rattle.tree_trait.specs.Shape.{IsTree}
use Rattle.tree_trait.proofs.Finding.{same_name-self}
use Rattle.tree_trait.proofs.Steady.{at as node_at}
use Rattle.laws_crash.specs.Guarded.{IsUnder}
use Rattle.laws_crash.proofs.Guarding.{find_same, folder_kept, found_there, said}
use Rattle.laws_crash.proofs.Leading.{current_more}
use Rattle.laws_crash.proofs.Tops.{not_longer, under_made}
use Rattle.job_reports.proofs.PermittedCalls.{IsMaking}

module _ (log : CallLog) (tree : IsTree (current log)) (k : List ℕ) (up : Route) (made : Node) (making : IsMaking (current log) k up) where
  abbrev f : ℕ
  f = found_node (current log) up

  abbrev makes : Change
  makes = Makes f k made

  abbrev after : CallLog
  after = with_change log makes

  abbrev new : ℕ
  new = length (current log).nodes

  not_up : IsUnder log makes up → ⊥
  not_up under = let u = under_made log tree up f making.folder k made up under in not_longer u.0 k up u.1

  way : find (current after) up ≡ Some f
  way = elim (find_same log makes up) [ inl same ↦ same ∙ making.folder | inr under ↦ absurd (not_up under) ]

  pub made_leads : find (current after) (k ∷ up) ≡ Some new
  made_leads = rw way (said log makes f k (Some new) (ap (λ b. (let o : Option (Option ℕ) = cond b (Some (Some new)) None in o)) (same_name-self f k)))

  last_node : (xs : List Node) → node_at (xs ++ made ∷ []) (length xs) ≡ made
  last_node [] = refl
  last_node (x ∷ xs) = last_node xs

  pub made_is : node (current after) new ≡ made
  made_is = ap (λ (s : FileSystem). node s new) (current_more log makes) ∙ last_node (current log).nodes

  beside : (n : List ℕ) (rest : Route) → (k ≡ n → ⊥) → n ∷ up ≡ rest ++ k ∷ up → ⊥
  beside n [] apart is = apart (let e : n ≡ k = cc in sym e)
  beside n (name ∷ rest) apart is = not_longer rest k up (let e : up ≡ rest ++ k ∷ up = cc in e)

  pub made_beside : (n : List ℕ) → (k ≡ n → ⊥) → find (current after) (n ∷ up) ≡ find (current log) (n ∷ up)
  made_beside n apart = elim (find_same log makes (n ∷ up)) [
    | inl same ↦ same
    | inr under ↦ let u = under_made log tree up f making.folder k made (n ∷ up) under in absurd (beside n u.0 apart u.1)
  ]

  -- and no folder stands there where none did
  pub made_bare : (n : List ℕ) → (k ≡ n → ⊥) → ((j : ℕ) → find (current log) (n ∷ up) ≡ Some j → is_folder (node (current log) j) ≡ false)
      → (j : ℕ) → find (current after) (n ∷ up) ≡ Some j → is_folder (node (current after) j) ≡ false
  made_bare n apart bare j at =
      let before = sym (made_beside n apart) ∙ at in
      ap (λ (s : FileSystem). is_folder (node s j)) (current_more log makes) ∙ (folder_kept (current log) makes j (found_there (current log) tree (n ∷ up) j before) ∙ bare j before)
