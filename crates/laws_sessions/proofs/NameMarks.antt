-- Open folders that are marked as dirty, and what a step of the copy makes of the marks.
use Rattle.std.proofs.Common.{◌≡◌, ◌⊎◌, Bool, true, false, List, [], ◌∷◌, refl, sym, inl, inr, Some, None}
use Rattle.std.proofs.lemmas.Bool.{both_ways, false≢true, true≢false}
use Rattle.mc_text.specs.Routes.{Route}
use Rattle.copy_folders.specs.FolderCopying.{FolderCopying, closing, is_dirty}
use Rattle.copy_folders.specs.declared.stage.NamesState.{NamesState}
use Rattle.copy_folders.specs.declared.stage.Stage.{Stage}
use Rattle.copy_folders.specs.declared.stage.Stage.TheVariants as at
use Rattle.tree_walk.specs.Places.{OpenFolder}
use Rattle.copy_folders.specs.declared.level.Level.{Level}
use Rattle.copy_folders.specs.Levels.{Levels, levels_closed, dirtied_levels, made_levels, owes, passed_levels}
use Rattle.laws_sessions.proofs.FoldersEnd.{is_open}
use Rattle.laws_sessions.proofs.Names.{IsMarkedAt, IsMarkedIn}

module _ (up : Route) where
  abbrev pub Marked : Levels → Type 0
  Marked l = IsMarkedIn up l.inner l.around

  pub mark_split : (inner : Level) (around : List Level) → IsMarkedIn up inner around → IsMarkedAt up inner ⊎ ((new : Level) → IsMarkedIn up new around)
  mark_split inner [] h = inl h
  mark_split inner (outer ∷ around) (inl h) = inl h
  mark_split inner (outer ∷ around) (inr h) = inr (λ new. inr h)

  pub mark_head : (inner : Level) (around : List Level) → IsMarkedAt up inner → IsMarkedIn up inner around
  mark_head inner [] h = h
  mark_head inner (outer ∷ around) h = inl h

  pub mark_inner : (old new : Level) (around : List Level) → (IsMarkedAt up old → IsMarkedAt up new) → IsMarkedIn up old around → IsMarkedIn up new around
  mark_inner old new around goes h = elim (mark_split old around h) [ inl is ↦ mark_head new around (goes is) | inr other ↦ other new ]

  pub marked_dirtied : (changed : Bool) (l : Levels) → Marked l → Marked (dirtied_levels changed l)
  marked_dirtied true l h = mark_inner l.inner _ l.around (λ is. (is.0, refl)) h
  marked_dirtied false l h = mark_inner l.inner _ l.around (λ is. is) h

  pub marked_passed : (left : Bool) (l : Levels) → Marked l → Marked (passed_levels left l)
  marked_passed left l h = mark_inner l.inner _ l.around (λ is. is) h

  pub marked_closed : (l : Levels) → Marked l → Marked (levels_closed l)
  marked_closed l h = mark_inner l.inner _ l.around (λ is. is) h

  -- the folder that is worked is marked, once a name in it was changed
  pub dirtied_here : (l : Levels) → up ≡ l.inner.copy.target → Marked (dirtied_levels true l)
  dirtied_here l same = mark_head _ l.around (sym same, refl)

  pub worked_here : (changed : Bool) (l : Levels) → is_dirty l.inner.copy.names ≡ true → up ≡ l.inner.copy.target → Marked (dirtied_levels changed l)
  worked_here changed l dirty same = marked_dirtied changed l (mark_head l.inner l.around (sym same, dirty))

  pub marked_made : (stage : Stage) (names : OpenFolder) (copy : FolderCopying) (l : Levels) → Marked l → Marked (made_levels stage names copy l)
  marked_made (at.Fill owed) names copy l h = inr (mark_inner l.inner _ l.around (λ is. (is.0, refl)) h)
  marked_made (at.Make mode) names copy l h = h
  marked_made (at.Close owed) names copy l h = h
  marked_made at.Done names copy l h = h

  pub made_here : (stage : Stage) (names : OpenFolder) (copy : FolderCopying) (l : Levels) (owed : _) → stage ≡ at.Fill owed → up ≡ l.inner.copy.target → Marked (made_levels stage names copy l)
  made_here (at.Fill owed) names copy l other is same = inr (mark_head _ l.around (sym same, refl))
  made_here (at.Make mode) names copy l other is same = absurd (let f : ⊥ = cc in f)
  made_here (at.Close owed) names copy l other is same = absurd (let f : ⊥ = cc in f)
  made_here at.Done names copy l other is same = absurd (let f : ⊥ = cc in f)

-- what is open and owes nothing at its end isn't marked
pub not_owing : (stage : Stage) (names : NamesState) → is_open stage ≡ true → owes (closing stage) names ≡ false → is_dirty names ≡ true → ⊥
not_owing (at.Fill (Some mode)) names still none dirty = true≢false none
not_owing (at.Fill None) names still none dirty = both_ways _ none dirty
not_owing (at.Close (Some mode)) names still none dirty = true≢false none
not_owing (at.Close None) names still none dirty = both_ways _ none dirty
not_owing (at.Make mode) names still none dirty = false≢true still
not_owing at.Done names still none dirty = false≢true still

-- a folder that is marked stays so
pub dirty_stays : (changed : Bool) (l : Levels) → is_dirty l.inner.copy.names ≡ true → (let d : Levels = dirtied_levels changed l in is_dirty d.inner.copy.names) ≡ true
dirty_stays true l dirty = refl
dirty_stays false l dirty = dirty

pub dirty_if : (changed : Bool) (l : Levels) → changed ≡ true → (let d : Levels = dirtied_levels changed l in is_dirty d.inner.copy.names) ≡ true
dirty_if true l is = refl
dirty_if false l is = absurd (false≢true is)
