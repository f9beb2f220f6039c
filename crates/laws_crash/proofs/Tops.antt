-- Paths that go through a name that is changed.
use Rattle.std.proofs.Common.{◌++◌, ◌≡◌, ℕ, Bool, true, false, List, [], ◌∷◌, ◌++◌, length, refl, sym, ◌∙◌, ap, inl, inr, ◌⊎◌, Option, Some, None, cond, arith, length-append, subst}
use Rattle.std.specs.Prelude.{option_and_then, is_some}
use Rattle.std.proofs.lemmas.Bool.{false≢true}
use Rattle.mc_text.specs.Routes.{Route}
use Rattle.tree_trait.specs.declared.file_system.FileSystem.{FileSystem}
use Rattle.tree_trait.specs.FileSystem.{lookup, find}
use Rattle.tree_trait.specs.Shape.{IsTree}
use Rattle.tree_trait.specs.Change.{Change, Makes, Moves, Removes, CallLog, current}
use Rattle.tree_trait.specs.CrashImages.{same_name, says}
use Rattle.tree_trait.proofs.Finding.{and_then-some, find-once, same_name-true}
use Rattle.laws_crash.specs.Possible.{MayLead, MayFind, Leads, IsSettledBelow, find_from, MayFindFrom}
use Rattle.laws_crash.specs.Guarded.{Marks, IsGuarded, Touches, IsUnder}
use Rattle.laws_crash.specs.NameKnowledge.{IsAnchored}
use Rattle.laws_crash.proofs.Leading.{leads_now}

-- it goes through such a name
pub record GoesThrough (log : CallLog) (c : Change) (p : Route) : Type 0 where
  pub rest : Route
  pub name : List ℕ
  pub folder : Route
  pub g : ℕ
  pub is : p ≡ rest ++ name ∷ folder
  pub at : find (current log) folder ≡ Some g
  pub says_so : is_some (says c (length (current log).nodes) g name) ≡ true

pub goes_through : (log : CallLog) (c : Change) (p : Route) → IsUnder log c p → GoesThrough log c p
goes_through log c [] under = absurd under
goes_through log c (name ∷ folder) (inl under) =
    let t = goes_through log c folder under in
    record { rest = name ∷ t.rest; name = t.name; folder = t.folder; g = t.g; is = ap (λ q. name ∷ q) t.is; at = t.at; says_so = t.says_so }
goes_through log c (name ∷ folder) (inr touches) = at (find (current log) folder) refl touches
  where
    at : (o : Option ℕ) → find (current log) folder ≡ o → Touches log c o name → GoesThrough log c (name ∷ folder)
    at None is h = absurd h
    at (Some g) is h = record { rest = []; name = name; folder = folder; g = g; is = refl; at = is; says_so = h }

-- a path isn't below one of its own names
pub not_longer : (rest : Route) (name : List ℕ) (up : Route) → up ≡ rest ++ name ∷ up → ⊥
not_longer rest name up e =
    let l = ap (λ (q : Route). length q) e in
    let n = length-append rest (name ∷ up) in
    absurd (omega (arith, l, n))

-- where nothing stands, nothing stands below
pub none_below : (log : CallLog) (rest top : Route) → find (current log) top ≡ None → find (current log) (rest ++ top) ≡ None
none_below log [] top h = h
none_below log (name ∷ rest) top h = rw (none_below log rest top h) refl

some_if : (b : Bool) (to : Option ℕ) → is_some (let o : Option (Option ℕ) = cond b (Some to) None in o) ≡ true → b ≡ true
some_if true to h = refl
some_if false to h = absurd (false≢true h)

pub some_of_two : (a b : Bool) (x y : Option ℕ) → is_some (let o : Option (Option ℕ) = cond a (Some x) (cond b (Some y) None) in o) ≡ true → (a ≡ true) ⊎ (b ≡ true)
some_of_two true b x y h = inl refl
some_of_two false b x y h = inr (some_if b y h)

pub some_said : (o : Option (Option ℕ)) (to : Option ℕ) → o ≡ Some to → is_some o ≡ true
some_said o to h = ap is_some h

module _ (log : CallLog) (tree : IsTree (current log)) (up : Route) (f : ℕ) (at : find (current log) up ≡ Some f) where
  -- the folder's path is the one, and so is the name
  pub top_is : (m name : List ℕ) (folder : Route) (g : ℕ) → find (current log) folder ≡ Some g → same_name f m g name ≡ true → (name ∷ folder) ≡ (m ∷ up)
  top_is m name folder g there same =
      let e = same_name-true f g m name same in
      let route : folder ≡ up = find-once (current log) tree folder up f (there ∙ ap (λ k. Some k) (sym e.0)) at in
      ap (λ n. n ∷ folder) (sym e.1) ∙ ap (λ q. m ∷ q) route

  pub under_removed : (m : List ℕ) (i : ℕ) (p : Route) → IsUnder log (Removes f m i) p → (rest : Route) × (p ≡ rest ++ m ∷ up)
  under_removed m i p under =
      let t = goes_through log (Removes f m i) p under in
      (t.rest, t.is ∙ ap (λ q. t.rest ++ q) (top_is m t.name t.folder t.g t.at (some_if _ _ t.says_so)))

  pub under_made : (m : List ℕ) (made : _) (p : Route) → IsUnder log (Makes f m made) p → (rest : Route) × (p ≡ rest ++ m ∷ up)
  under_made m made p under =
      let t = goes_through log (Makes f m made) p under in
      (t.rest, t.is ∙ ap (λ q. t.rest ++ q) (top_is m t.name t.folder t.g t.at (some_if _ _ t.says_so)))

  pub under_moved : (a b : List ℕ) (i : ℕ) (r : Option ℕ) (p : Route) → IsUnder log (Moves f a f b i r) p
      → ((rest : Route) × (p ≡ rest ++ b ∷ up)) ⊎ ((rest : Route) × (p ≡ rest ++ a ∷ up))
  under_moved a b i r p under =
      let t = goes_through log (Moves f a f b i r) p under in
      elim (some_of_two (same_name f b t.g t.name) (same_name f a t.g t.name) (Some i) None t.says_so) [
        | inl h ↦ inl (t.rest, t.is ∙ ap (λ q. t.rest ++ q) (top_is b t.name t.folder t.g t.at h))
        | inr h ↦ inr (t.rest, t.is ∙ ap (λ q. t.rest ++ q) (top_is a t.name t.folder t.g t.at h))
      ]

none_some : (x : ℕ) → (let o : Option ℕ = Some x in o) ≡ None → ⊥
none_some x h = cc

-- After any crash an anchored folder is found at its path or nowhere.
pub path_once : (marks : Marks) (log : CallLog) → IsGuarded marks log → (up q : Route) (f : ℕ) → IsAnchored marks log up → find (current log) up ≡ Some f → MayFind log q (Some f) → q ≡ up
path_once marks log guarded [] [] f anchored at found = refl
path_once marks log guarded [] (n ∷ q) f anchored at (None, found, leads) = absurd (none_some f leads)
path_once marks log guarded [] (n ∷ q) f anchored at (Some h, found, leads) = absurd (guarded.no_root h n (subst (λ o. MayLead log h n o) (sym at) leads))
path_once marks log guarded (m ∷ up) [] f anchored at found =
    let p = and_then-some (find (current log) up) (λ g. lookup (current log).names g m) f at in
    absurd (guarded.no_root p.0 m (subst (λ o. MayLead log p.0 m o) (p.2 ∙ found) (leads_now p.0 m [] log.opening log.changes)))
path_once marks log guarded (m ∷ up) (n ∷ q) f anchored at (None, found, leads) = absurd (none_some f leads)
path_once marks log guarded (m ∷ up) (n ∷ q) f anchored at (Some h, found, leads) =
    let p = and_then-some (find (current log) up) (λ g. lookup (current log).names g m) f at in
    let same = guarded.once f h p.0 n m (anchored.1 f at) leads (subst (λ o. MayLead log p.0 m o) p.2 (leads_now p.0 m [] log.opening log.changes)) in
    let rest = path_once marks log guarded up q p.0 anchored.0 p.1 (subst (λ k. MayFind log q (Some k)) same.0 found) in
    ap (λ r. n ∷ r) rest ∙ ap (λ k. k ∷ up) same.1

-- Of a node that can hold no names nothing is below.
pub bare_below : (log : CallLog) (i : ℕ) → ((m : List ℕ) (y : Option ℕ) → MayLead log i m y → y ≡ None) → IsSettledBelow log i
bare_below log i bare [] x found = found
bare_below log i bare (name ∷ []) x (y, found, leads) =
    bare name x (subst (λ o. Leads log o name x) found leads) ∙ sym (bare name (lookup (current log).names i name) (leads_now i name [] log.opening log.changes))
bare_below log i bare (name ∷ more ∷ rest) x (y, found, leads) =
    let none = from_bare log i bare more rest in
    let y_none : y ≡ None = bare_below log i bare (more ∷ rest) y found ∙ none in
    subst (λ o. Leads log o name x) y_none leads ∙ sym (ap (option_and_then (λ f. lookup (current log).names f name)) none)
  where
    from_bare : (log : CallLog) (i : ℕ) → ((m : List ℕ) (y : Option ℕ) → MayLead log i m y → y ≡ None) → (name : List ℕ) (rest : Route) → find_from (current log) i (name ∷ rest) ≡ None
    from_bare log i bare name [] = bare name (lookup (current log).names i name) (leads_now i name [] log.opening log.changes)
    from_bare log i bare name (more ∷ rest) = ap (option_and_then (λ f. lookup (current log).names f name)) (from_bare log i bare more rest)

-- a path below another leads on from there
pub find_below : (s : FileSystem) (top : Route) (i : ℕ) (rest : Route) → find s top ≡ Some i → find s (rest ++ top) ≡ find_from s i rest
find_below s top i [] at = at
find_below s top i (name ∷ rest) at = ap (option_and_then (λ f. lookup s.names f name)) (find_below s top i rest at)

-- from a node down a path may lead where it leads
pub found_from : (log : CallLog) (i : ℕ) (rest : Route) → MayFindFrom log i rest (find_from (current log) i rest)
found_from log i [] = refl
found_from log i (name ∷ rest) = (find_from (current log) i rest, found_from log i rest, at (find_from (current log) i rest) refl)
  where
    at : (o : Option ℕ) → find_from (current log) i rest ≡ o → Leads log o name (find_from (current log) i (name ∷ rest))
    at None is = ap (option_and_then (λ f. lookup (current log).names f name)) is
    at (Some f) is = subst (λ x. MayLead log f name x) (sym (ap (option_and_then (λ g. lookup (current log).names g name)) is)) (leads_now f name [] log.opening log.changes)
