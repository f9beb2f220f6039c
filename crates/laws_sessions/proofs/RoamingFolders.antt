-- A folder that was renamed stays one that was while other calls are made; and a call that gives it no name doesn't rename it.
use Rattle.std.proofs.Common.{◌≡◌, ◌⊎◌, ℕ, Bool, false, true, List, sym, ◌∙◌, ap, inl, inr, Option, Some, None, cond}
use Rattle.std.proofs.lemmas.Bool.{eqb-true, false_from_ne_true, false≢true}
use Rattle.tree_trait.specs.Change.{Change, Nothing, Makes, Moves, Removes, Sets, Writes, Syncs, CallLog, with_change}
use Rattle.tree_trait.specs.CrashImages.{says, same_name}
use Rattle.tree_trait.proofs.Finding.{same_name-self}
use Rattle.laws_sessions.proofs.InTransit.{WasRenamed, renames, still_renamed}

-- what is renamed gets a name
pub renaming_says : (i : ℕ) (c : Change) (n : ℕ) → renames i c ≡ true → (g : ℕ) × (m : List ℕ) × (says c n g m ≡ Some (Some i))
renaming_says i Nothing n h = absurd (false≢true h)
renaming_says i (Makes f name made) n h = absurd (false≢true h)
renaming_says i (Moves f old g new j r) n h =
    (g, new, ap (λ b. (let o : Option (Option ℕ) = cond b (Some (Some j)) (cond (same_name f old g new) (Some None) None) in o)) (same_name-self g new) ∙ ap (λ k. Some (Some k)) (eqb-true j i h))
renaming_says i (Removes f name j) n h = absurd (false≢true h)
renaming_says i (Sets j mode) n h = absurd (false≢true h)
renaming_says i (Writes j bytes time) n h = absurd (false≢true h)
renaming_says i (Syncs j) n h = absurd (false≢true h)

none_some : (x : Option ℕ) → (let o : Option (Option ℕ) = None in o) ≡ Some x → ⊥
none_some x h = cc

-- so a call that changes no name renames nothing
pub renames_none : (i : ℕ) (c : Change) (n : ℕ) → ((g : ℕ) (m : List ℕ) → says c n g m ≡ None) → renames i c ≡ false
renames_none i c n none = false_from_ne_true _ (λ h. let s = renaming_says i c n h in none_some (Some i) (sym (none s.0 s.1) ∙ s.2))

-- what doesn't roam, or was renamed, is so after a call that doesn't rename it
pub roaming_still : (log : CallLog) (c : Change) (i : ℕ) (roams : Bool) → renames i c ≡ false → (roams ≡ false) ⊎ WasRenamed log i → (roams ≡ false) ⊎ WasRenamed (with_change log c) i
roaming_still log c i roams other (inl stays) = inl stays
roaming_still log c i roams other (inr renamed) = inr (still_renamed log c i renamed other)
