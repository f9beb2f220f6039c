-- A prefix is what is left of a route, the last name first, once the names that it has more are dropped.
use Rattle.std.proofs.Common.{◌≡◌, ◌≢◌, ℕ, ◌-◌, ◌<◌, ◌≤◌, suc, false, [], ◌∷◌, length, take, drop, reverse, ◌++◌, refl, sym, ap, ◌∙◌, arith, ⊎_elim}
use Rattle.std.proofs.Math.Seq.{drop-append_seam}
use Rattle.std.proofs.lemmas.List.{reverse-append, length-reverse, length-drop, take-append-drop}
use Rattle.std.proofs.lemmas.Bool.{cases_lt}
use Rattle.std.proofs.lemmas.Grind.{common_steps}
use Rattle.mc_text.specs.Routes.{Route, same_path, is_prefix}

-- routes of different length differ
pub same_path-lengths : (a b : Route) → length a ≢ length b → same_path a b ≡ false
same_path-lengths [] [] h = absurd (h refl)
same_path-lengths [] (n ∷ b) h = refl
same_path-lengths (m ∷ a) [] h = refl
same_path-lengths (m ∷ a) (n ∷ b) h = rw (same_path-lengths a b (λ e. h (ap suc e))) (grind (arith, common_steps))

-- no longer route is a prefix
pub is_prefix-long : (prefix route : Route) → length route < length prefix → is_prefix prefix route ≡ false
is_prefix-long prefix [] h = same_path-lengths prefix [] (omega arith)
is_prefix-long prefix (n ∷ route) h =
    rw (same_path-lengths prefix (n ∷ route) (omega arith), is_prefix-long prefix route (omega arith)) refl

pub is_prefix-drop : (prefix route : Route) → length prefix ≤ length route
    → is_prefix prefix route ≡ same_path prefix (drop (length route - length prefix) route)
is_prefix-drop [] [] h = refl
is_prefix-drop (m ∷ prefix) [] h = absurd (omega arith)
is_prefix-drop prefix (n ∷ route) h =
    ⊎_elim
    (λ (lt : length route < length prefix).
    let all : length (n ∷ route) - length prefix ≡ 0 = omega arith in
    rw (all, is_prefix-long prefix route lt) (grind (arith, common_steps)))
    (λ (le : length prefix ≤ length route).
    let more : length (n ∷ route) - length prefix ≡ suc (length route - length prefix) = omega arith in
    rw (more, same_path-lengths prefix (n ∷ route) (omega arith)) (is_prefix-drop prefix route le))
    (cases_lt (length route) (length prefix))

-- the first names of a path, the last one first, are what is left of its route
reverse-take : (n : ℕ) (names : Route) → n ≤ length names
    → drop (length names - n) (reverse names) ≡ reverse (take n names)
reverse-take n names h =
    let parts : reverse names ≡ reverse (drop n names) ++ reverse (take n names) =
    ap reverse (sym (take-append-drop n names)) ∙ reverse-append (take n names) (drop n names) in
    let size : length names - n ≡ length (reverse (drop n names)) =
    sym (length-reverse (drop n names) ∙ length-drop n names) in
    rw (parts, size) (drop-append_seam (reverse (drop n names)) (reverse (take n names)))

-- a test of the first names tells whether a path begins with others
pub begins-within : (prefix names : Route) → length prefix ≤ length names
    → is_prefix (reverse prefix) (reverse names) ≡ same_path (reverse prefix) (reverse (take (length prefix) names))
begins-within prefix names h =
    let shorter : length (reverse prefix) ≤ length (reverse names) =
    omega (arith, length-reverse prefix, length-reverse names) in
    is_prefix-drop (reverse prefix) (reverse names) shorter
    ∙ rw (length-reverse prefix, length-reverse names, reverse-take (length prefix) names h) refl

pub begins-longer : (prefix names : Route) → length names < length prefix
    → is_prefix (reverse prefix) (reverse names) ≡ false
begins-longer prefix names h =
    is_prefix-long (reverse prefix) (reverse names) (omega (arith, length-reverse prefix, length-reverse names))
