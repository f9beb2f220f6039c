-- A path that is put before others only where it is one of some.
use Rattle.std.proofs.Common.{◌≡◌, Bool, true, false, List, [], ◌∷◌, refl, subst, inl, inr}
use Rattle.std.specs.Prelude.{if◌then◌else◌}
use Rattle.std.proofs.lemmas.Bool.{both_ways}
use Rattle.mc_text.specs.Routes.{Route, same_path}
use Rattle.tree_trait.specs.CrashImages.{Among}
use Rattle.tree_trait.proofs.Visible.{same_path-self}
use Rattle.session_entries.specs.Named.{if_among}

-- it is one then
pub if_among_in : (path : Route) (some others : List Route) → Among some path → Among (if_among path some others) path
if_among_in path (first ∷ rest) others (inl same) = by (same_path path first) (subst (λ q. same_path path q ≡ true) same (same_path-self path))
  where
    by : (b : Bool) → b ≡ true → Among (if◌then◌else◌ b (path ∷ others) (if_among path rest others)) path
    by true is = inl refl
    by false is = absurd (let f : ⊥ = cc in f)
if_among_in path (first ∷ rest) others (inr more) = by (same_path path first) (if_among_in path rest others more)
  where
    by : (b : Bool) → Among (if_among path rest others) path → Among (if◌then◌else◌ b (path ∷ others) (if_among path rest others)) path
    by true among = inl refl
    by false among = among
if_among_in path [] others none = absurd none

-- and so are the others
pub if_among_more : (path q : Route) (some others : List Route) → Among others q → Among (if_among path some others) q
if_among_more path q [] others among = among
if_among_more path q (first ∷ rest) others among = by (same_path path first) (if_among_more path q rest others among)
  where
    by : (b : Bool) → Among (if_among path rest others) q → Among (if◌then◌else◌ b (path ∷ others) (if_among path rest others)) q
    by true more = inr among
    by false more = more

-- any other is one of those
pub if_among_other : (path q : Route) (some others : List Route) → same_path q path ≡ false → Among (if_among path some others) q → Among others q
if_among_other path q [] others off among = among
if_among_other path q (first ∷ rest) others off among = by (same_path path first) (if_among_other path q rest others off) among
  where
    by : (b : Bool) → (Among (if_among path rest others) q → Among others q) → Among (if◌then◌else◌ b (path ∷ others) (if_among path rest others)) q → Among others q
    by true down (inl same) = absurd (both_ways _ off (subst (λ p. same_path q p ≡ true) same (same_path-self q)))
    by true down (inr more) = more
    by false down more = down more
