-- The mode that a copied folder is to be given is that of its source, as the history shows it once a step is told: no step changes what stands at the
-- source of a folder that is owed one.
use Rattle.std.proofs.Common.{◌≡◌, ℕ, ◌<◌, Bool, true, false, List, [], ◌∷◌, ◌++◌, length, refl, sym, ◌∙◌, ap, Option, Some, None, arith}
use Rattle.std.proofs.lemmas.List.{length-append}
use Rattle.mc_text.specs.Routes.{Route, same_path}
use Rattle.tree_trait.specs.FileSystem.{Value, View}
use Rattle.tree_trait.proofs.Visible.{same_path-true}
use Rattle.job_reports.specs.declared.job.Pair.{Pair}
use Rattle.copy_folders.specs.declared.level.Level.{Level}
use Rattle.copy_tree.specs.InPlace.{AreMoved, owed_of}
use Rattle.laws_sessions.proofs.TreeKnown.{LiesOutside}
use Rattle.laws_sessions.proofs.FoldersLie.{AreNested}
use Rattle.laws_sessions.proofs.OwedModes.{AllOwe, OwesSource}

-- A path is said to be below both: so the higher of them lies below the other.
below_longer : (less more source target : Route) → less ++ source ≡ more ++ target → length less < length more → (name : List ℕ) × (rest : Route) × (source ≡ name ∷ rest ++ target)
below_longer [] [] source target same few = absurd (omega (arith, few))
below_longer [] (name ∷ more) source target same few = (name, more, same)
below_longer (name ∷ less) [] source target same few = absurd (omega (arith, few))
below_longer (name ∷ less) (other ∷ more) source target same few = below_longer less more source target (let e : less ++ source ≡ more ++ target = cc in e) (omega (arith, few))

module _ (v w : View) (path : Route) (off : (p : Route) → same_path p path ≡ false → w p ≡ v p) where
  -- what is owed holds of a view that shows the same but at this path, which isn't the source
  still_owes : (l : Level) → ((mode : ℕ) → owed_of l.copy.stage ≡ Some mode → same_path l.copy.source path ≡ false) → OwesSource v l → OwesSource w l
  still_owes l apart owes mode is = let o = owes mode is in (o.0, ap (λ s. s.value) (off l.copy.source (apart mode is)) ∙ o.1, o.2)

  -- nothing stood there
  module _ (free : (v path).value ≡ None) where
    some_value : {A : Type 0} (x : Value) → (let o : Option Value = None in o) ≡ Some x → A
    some_value x is = absurd (let f : ⊥ = cc in f)

    not_there : (l : Level) → OwesSource v l → (mode : ℕ) → owed_of l.copy.stage ≡ Some mode → same_path l.copy.source path ≡ false
    not_there l owes mode is = by (same_path l.copy.source path) refl
      where
        by : (b : Bool) → same_path l.copy.source path ≡ b → same_path l.copy.source path ≡ false
        by false apart = apart
        by true same = let o = owes mode is in some_value o.0 (sym free ∙ (ap (λ p. (v p).value) (sym (same_path-true l.copy.source path same)) ∙ o.1))

    pub free_owes : (inner : Level) (around : List Level) → AllOwe v inner around → AllOwe w inner around
    free_owes inner [] h = still_owes inner (not_there inner h) h
    free_owes inner (outer ∷ around) h = (still_owes inner (not_there inner h.0) h.0, free_owes outer around h.1)

  -- it lies deeper below the target than these folders
  module _ (top : Pair) (outside : LiesOutside top) (rest : Route) (path_is : path ≡ rest ++ top.target) where
    lower : (l : Level) (m : Route) → l.copy.source ≡ m ++ top.source → l.copy.target ≡ m ++ top.target → length l.copy.target < length path → same_path l.copy.source path ≡ false
    lower l m from to less = by (same_path l.copy.source path) refl
      where
        by : (b : Bool) → same_path l.copy.source path ≡ b → same_path l.copy.source path ≡ false
        by false apart = apart
        by true same =
            let there : m ++ top.source ≡ rest ++ top.target = sym from ∙ (same_path-true l.copy.source path same ∙ path_is) in
            let a = ap (λ (q : Route). length q) path_is in
            let b = ap (λ (q : Route). length q) to in
            let c = length-append rest top.target in
            let d = length-append m top.target in
            let under = below_longer m rest top.source top.target there (omega (arith, less, a, b, c, d)) in
            absurd (outside under.0 under.1 under.2)

    pub lower_owes : (l : Level) (around : List Level) → AreNested l.copy.target around → length l.copy.target < length path → AreMoved top l around → AllOwe v l around → AllOwe w l around
    lower_owes l [] nested less moved h = λ mode is. absurd (let e : (let o : Option ℕ = None in o) ≡ Some mode = sym moved.keeps ∙ is in let f : ⊥ = cc in f)
    lower_owes l (outer ∷ around) nested less moved h = (
      (let m = moved.0 in still_owes l (λ mode is. lower l m.rest m.from m.to less) h.0),
      lower_owes outer around nested.1 (let e = ap (λ (q : Route). length q) nested.0.1 in omega (arith, less, e)) moved.1 h.1,
    )
