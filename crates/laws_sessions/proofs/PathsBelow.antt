-- The paths at or below one.
use Rattle.std.proofs.Common.{◌≡◌, ◌⊎◌, true, false, [], ◌∷◌, ◌++◌, refl, sym, ◌∙◌, ap, inl, inr, ◌||◌, subst}
use Rattle.std.proofs.lemmas.Bool.{false≢true, false_from_ne_true, or_cases, or_left, or_right}
use Rattle.std.proofs.lemmas.List.{append_cancel_right}
use Rattle.mc_text.specs.Routes.{Route, is_prefix, same_path}
use Rattle.tree_trait.proofs.Visible.{same_path-self, same_path-true}
use Rattle.job_reports.specs.Paths.{folder_of}

-- such a path has more names than the one, or none
pub below_way : (top p : Route) → is_prefix top p ≡ true → (rest : Route) × (p ≡ rest ++ top)
below_way top [] h = ([], sym (same_path-true top [] h))
below_way top (name ∷ p) h = elim (or_cases (same_path top (name ∷ p)) (is_prefix top p) h) [
  | inl here ↦ ([], sym (same_path-true top (name ∷ p) here))
  | inr above ↦ let w = below_way top p above in (name ∷ w.0, ap (λ (r : Route). name ∷ r) w.1)
]

pub is_below : (top rest : Route) → is_prefix top (rest ++ top) ≡ true
is_below [] [] = refl
is_below (name ∷ top) [] = or_left (same_path (name ∷ top) (name ∷ top)) (is_prefix (name ∷ top) top) (same_path-self (name ∷ top))
is_below top (name ∷ rest) = or_right (same_path top (name ∷ rest ++ top)) (is_prefix top (rest ++ top)) (is_below top rest)

-- it lies in the folder that holds that one, or in one at or below it
pub in_or_below : (top path : Route) → is_prefix top path ≡ true → (same_path (folder_of path) (folder_of top) || is_prefix top (folder_of path)) ≡ true
in_or_below top path h = let w = below_way top path h in by w.0 w.1
  where
    by : (rest : Route) → path ≡ rest ++ top → (same_path (folder_of path) (folder_of top) || is_prefix top (folder_of path)) ≡ true
    by [] is = or_left _ _ (subst (λ q. same_path (folder_of q) (folder_of top) ≡ true) (sym is) (same_path-self (folder_of top)))
    by (name ∷ rest) is = or_right _ _ (subst (λ q. is_prefix top (folder_of q) ≡ true) (sym is) (is_below top rest))

-- what isn't below it has no such names
pub not_below : (top p rest : Route) → is_prefix top p ≡ false → p ≡ rest ++ top → ⊥
not_below top p rest off e = false≢true (sym off ∙ (ap (is_prefix top) e ∙ is_below top rest))

pub off_below : (top p : Route) → ((rest : Route) → p ≡ rest ++ top → ⊥) → is_prefix top p ≡ false
off_below top p none = false_from_ne_true (is_prefix top p) (λ h. let w = below_way top p h in none w.0 w.1)

-- the folder of a path that isn't below it is not either, and the path is another one
pub off_above : (top : Route) (name : _) (p : Route) → is_prefix top (name ∷ p) ≡ false → is_prefix top p ≡ false
off_above top name p off = false_from_ne_true (is_prefix top p) (λ h. false≢true (sym off ∙ or_right (same_path top (name ∷ p)) (is_prefix top p) h))

-- it is one path that lies so far below it
pub same_rest : (rest more top : Route) → rest ++ top ≡ more ++ top → rest ≡ more
same_rest rest more top e = append_cancel_right rest more top e

-- of two paths with one path below both one is below the other
pub one_below : (rest more one two : Route) → rest ++ one ≡ more ++ two → (is_prefix one two ≡ true) ⊎ (is_prefix two one ≡ true)
one_below [] more one two e = inr (ap (is_prefix two) e ∙ is_below two more)
one_below (name ∷ rest) [] one two e = inl (ap (is_prefix one) (sym e) ∙ is_below one (name ∷ rest))
one_below (name ∷ rest) (other ∷ more) one two e = (let same : rest ++ one ≡ more ++ two = cc in one_below rest more one two same)

pub none_below_both : (one two p : Route) → is_prefix one two ≡ false → is_prefix two one ≡ false → is_prefix one p ≡ true → is_prefix two p ≡ false
none_below_both one two p of_one of_two h = off_below two p (λ more e.
    let w = below_way one p h in
    elim (one_below w.0 more one two (sym w.1 ∙ e)) [ inl below ↦ false≢true (sym of_one ∙ below) | inr below ↦ false≢true (sym of_two ∙ below) ])
