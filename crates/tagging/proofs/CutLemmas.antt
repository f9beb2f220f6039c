-- The cut that is found part by part is a cut, and its first wildcard takes the longest text, then the second, and so on.
use Rattle.std.proofs.Common.{◌≡◌, ℕ, suc, Bool, true, false, cond, List, [], ◌∷◌, ◌++◌, map, Option, Some, None, is_some, option_map, encode_utf8_all, refl, sym, subst, ap, ◌∙◌, inl, inr, arith}
use mathlib.Core.Bool.{true≢false}
use Rattle.std.specs.List.{concat}
use Rattle.tagging.specs.Globs.{stands_for, is_wild, is_match, cut_of, captures_of, after_text, longer_or, longest_prefix, one_in_front, nothing_in_front, Takes, TakesOne, TakeAll, IsCut, MatchesGlob, wild_texts, AreLongerFirst, AreCaptures}
use Rattle.tagging.specs.declared.glob.GlobPart.{GlobPart}
use Rattle.tagging.specs.declared.glob.GlobPart.TheVariants.{Plain, AnyOne, AnyText, OneOf}

-- the cut that an answer gives, if it gives one, is a cut
abbrev GivesCut : List GlobPart → List ℕ → Option (List (List ℕ)) → Type 0
GivesCut parts name None = Unit {0}
GivesCut parts name (Some cut) = IsCut parts name cut

-- an answer that is at least as good as a cut
abbrev IsBetter : List GlobPart → List (List ℕ) → Option (List (List ℕ)) → Type 0
IsBetter parts other None = ⊥
IsBetter parts other (Some cut) = AreLongerFirst (wild_texts parts cut) (wild_texts parts other)

-- what a way to cut the rest keeps to
record Cuts (parts : List GlobPart) (cut_rest : List ℕ → Option (List (List ℕ))) : Type 0 where
  gives : (name : List ℕ) → GivesCut parts name (cut_rest name)
  better : (name : List ℕ) (other : List (List ℕ)) → IsCut parts name other → IsBetter parts other (cut_rest name)

front_cut : (parts : List GlobPart) (text name : List ℕ) (answer : Option (List (List ℕ))) → GivesCut parts name answer → GivesCut (AnyText ∷ parts) (text ++ name) (after_text text answer)
front_cut parts text name None gives = tt
front_cut parts text name (Some cut) gives = record { whole = ap (λ rest. text ++ rest) gives.whole; takes = (tt, gives.takes) }

longer_cut : (parts : List GlobPart) (c : ℕ) (name : List ℕ) (longer other : Option (List (List ℕ)))
    → GivesCut (AnyText ∷ parts) name longer → GivesCut (AnyText ∷ parts) (c ∷ name) other → GivesCut (AnyText ∷ parts) (c ∷ name) (longer_or c longer other)
longer_cut parts c name None other long here = here
longer_cut parts c name (Some []) other long here = here
longer_cut parts c name (Some (text ∷ cut)) other long here = record { whole = ap (λ rest. c ∷ rest) long.whole; takes = (tt, long.takes.1) }

star_gives : (parts : List GlobPart) (cut_rest : List ℕ → Option (List (List ℕ))) → Cuts parts cut_rest
    → (name : List ℕ) → GivesCut (AnyText ∷ parts) name (longest_prefix cut_rest name)
star_gives parts cut_rest cuts [] = front_cut parts [] [] (cut_rest []) (cuts.gives [])
star_gives parts cut_rest cuts (c ∷ name) =
    longer_cut parts c name (longest_prefix cut_rest name) (after_text [] (cut_rest (c ∷ name))) (star_gives parts cut_rest cuts name)
    (front_cut parts [] (c ∷ name) (cut_rest (c ∷ name)) (cuts.gives (c ∷ name)))

-- a list in two parts that has a first member
head_of : (c d : ℕ) (xs ys : List ℕ) → c ∷ xs ≡ d ∷ ys → c ≡ d
head_of c d xs ys e = cc

tail_of : (c d : ℕ) (xs ys : List ℕ) → c ∷ xs ≡ d ∷ ys → xs ≡ ys
tail_of c d xs ys e = cc

no_text : (c : ℕ) (xs : List ℕ) → c ∷ xs ≡ [] → ⊥
no_text c xs e = cc

-- an empty front is as long as an empty front
here_better : (parts : List GlobPart) (rest : List (List ℕ)) (answer : Option (List (List ℕ)))
    → IsBetter parts rest answer → IsBetter (AnyText ∷ parts) ([] ∷ rest) (after_text [] answer)
here_better parts rest None better = better
here_better parts rest (Some cut) better = inr (refl, better)

-- any front that is longer is better than an empty one
longer_better : (parts : List GlobPart) (c : ℕ) (rest : List (List ℕ)) (longer here : Option (List (List ℕ)))
    → IsBetter (AnyText ∷ parts) ([] ∷ rest) here → IsBetter (AnyText ∷ parts) ([] ∷ rest) (longer_or c longer here)
longer_better parts c rest None here better = better
longer_better parts c rest (Some []) here better = better
longer_better parts c rest (Some (text ∷ cut)) here better = inl (omega arith)

-- a front made longer by a character is better than another made longer by one
both_longer : (parts : List GlobPart) (c d : ℕ) (text : List ℕ) (rest : List (List ℕ)) (longer here : Option (List (List ℕ)))
    → IsBetter (AnyText ∷ parts) (text ∷ rest) longer → IsBetter (AnyText ∷ parts) ((d ∷ text) ∷ rest) (longer_or c longer here)
both_longer parts c d text rest None here better = absurd better
both_longer parts c d text rest (Some []) here better = absurd better
both_longer parts c d text rest (Some (prefix ∷ cut)) here (inl longer) = inl (omega arith)
both_longer parts c d text rest (Some (prefix ∷ cut)) here (inr same) = inr (ap suc same.0, same.1)

star_better : (parts : List GlobPart) (cut_rest : List ℕ → Option (List (List ℕ))) → Cuts parts cut_rest
    → (name text : List ℕ) (rest : List (List ℕ)) → text ++ concat rest ≡ name → TakeAll parts rest → IsBetter (AnyText ∷ parts) (text ∷ rest) (longest_prefix cut_rest name)
star_better parts cut_rest cuts [] [] rest whole takes = here_better parts rest (cut_rest []) (cuts.better [] rest (record { whole = whole; takes = takes }))
star_better parts cut_rest cuts [] (d ∷ text) rest whole takes = absurd (no_text d (text ++ concat rest) whole)
star_better parts cut_rest cuts (c ∷ name) [] rest whole takes =
    longer_better parts c rest (longest_prefix cut_rest name) (after_text [] (cut_rest (c ∷ name)))
    (here_better parts rest (cut_rest (c ∷ name)) (cuts.better (c ∷ name) rest (record { whole = whole; takes = takes })))
star_better parts cut_rest cuts (c ∷ name) (d ∷ text) rest whole takes =
    both_longer parts c d text rest (longest_prefix cut_rest name) (after_text [] (cut_rest (c ∷ name)))
    (star_better parts cut_rest cuts name text rest (tail_of d c (text ++ concat rest) name whole) takes)

star_cuts : (parts : List GlobPart) (cut_rest : List ℕ → Option (List (List ℕ))) → Cuts parts cut_rest → Cuts (AnyText ∷ parts) (longest_prefix cut_rest)
star_cuts parts cut_rest cuts = record { gives = star_gives parts cut_rest cuts; better = better }
  where
    better : (name : List ℕ) (other : List (List ℕ)) → IsCut (AnyText ∷ parts) name other → IsBetter (AnyText ∷ parts) other (longest_prefix cut_rest name)
    better name [] cut = absurd cut.takes
    better name (text ∷ rest) cut = star_better parts cut_rest cuts name text rest cut.whole cut.takes.1

-- a part that takes one character
record IsOne (part : GlobPart) : Type 0 where
  to : (text : List ℕ) → Takes part text → TakesOne part text
  from : (text : List ℕ) → TakesOne part text → Takes part text

one_front : (part : GlobPart) (parts : List GlobPart) (c : ℕ) (name : List ℕ) (answer : Option (List (List ℕ))) → IsOne part → stands_for part c ≡ true
    → GivesCut parts name answer → GivesCut (part ∷ parts) (c ∷ name) (after_text (c ∷ []) answer)
one_front part parts c name None one takes gives = tt
one_front part parts c name (Some cut) one takes gives = record { whole = ap (λ rest. c ∷ rest) gives.whole; takes = (one.from (c ∷ []) (c, refl, takes), gives.takes) }

-- a wildcard's text of one character is as long as another
one_better : (part : GlobPart) (parts : List GlobPart) (c d : ℕ) (rest : List (List ℕ)) (answer : Option (List (List ℕ)))
    → IsBetter parts rest answer → IsBetter (part ∷ parts) ((d ∷ []) ∷ rest) (after_text (c ∷ []) answer)
one_better part parts c d rest None better = better
one_better part parts c d rest (Some cut) better = go (is_wild part)
  where
    go : (wild : Bool) → AreLongerFirst (cond wild ((c ∷ []) ∷ wild_texts parts cut) (wild_texts parts cut)) (cond wild ((d ∷ []) ∷ wild_texts parts rest) (wild_texts parts rest))
    go true = inr (refl, better)
    go false = better

one_cuts : (part : GlobPart) (parts : List GlobPart) (cut_rest : List ℕ → Option (List (List ℕ))) → IsOne part → Cuts parts cut_rest → Cuts (part ∷ parts) (one_in_front part cut_rest)
one_cuts part parts cut_rest one cuts = record { gives = gives; better = better }
  where
    gives : (name : List ℕ) → GivesCut (part ∷ parts) name (one_in_front part cut_rest name)
    gives [] = tt
    gives (c ∷ name) = elim (stands_for part c) as (λ b. stands_for part c ≡ b → GivesCut (part ∷ parts) (c ∷ name) (cond b (after_text (c ∷ []) (cut_rest name)) None)) [
      | true ↦ λ takes. one_front part parts c name (cut_rest name) one takes (cuts.gives name)
      | false ↦ λ _. tt
    ] refl

    found : (name : List ℕ) (rest : List (List ℕ)) (d : ℕ) → stands_for part d ≡ true → d ∷ concat rest ≡ name → TakeAll parts rest
        → IsBetter (part ∷ parts) ((d ∷ []) ∷ rest) (one_in_front part cut_rest name)
    found [] rest d takes whole all = absurd (no_text d (concat rest) whole)
    found (c ∷ name) rest d takes whole all =
        let same : stands_for part c ≡ true = ap (stands_for part) (sym (head_of d c (concat rest) name whole)) ∙ takes in
        rw same (one_better part parts c d rest (cut_rest name) (cuts.better name rest (record { whole = tail_of d c (concat rest) name whole; takes = all })))

    taken : (name text : List ℕ) (rest : List (List ℕ)) (d : ℕ) → text ≡ d ∷ [] → stands_for part d ≡ true → text ++ concat rest ≡ name → TakeAll parts rest
        → IsBetter (part ∷ parts) (text ∷ rest) (one_in_front part cut_rest name)
    taken name text rest d is takes whole all =
        subst (λ t. IsBetter (part ∷ parts) (t ∷ rest) (one_in_front part cut_rest name)) (sym is) (found name rest d takes (rw is at whole) all)

    better : (name : List ℕ) (other : List (List ℕ)) → IsCut (part ∷ parts) name other → IsBetter (part ∷ parts) other (one_in_front part cut_rest name)
    better name [] cut = absurd cut.takes
    better name (text ∷ rest) cut = let taking = one.to text cut.takes.0 in taken name text rest taking.0 taking.1 taking.2 cut.whole cut.takes.1

nothing_cuts : Cuts [] nothing_in_front
nothing_cuts = record { gives = gives; better = better }
  where
    gives : (name : List ℕ) → GivesCut [] name (nothing_in_front name)
    gives [] = record { whole = refl; takes = tt }
    gives (c ∷ name) = tt

    better : (name : List ℕ) (other : List (List ℕ)) → IsCut [] name other → IsBetter [] other (nothing_in_front name)
    better [] [] cut = tt
    better [] (text ∷ other) cut = absurd cut.takes
    better (c ∷ name) [] cut = absurd (no_text c name (sym cut.whole))
    better (c ∷ name) (text ∷ other) cut = absurd cut.takes

all_cuts : (parts : List GlobPart) → Cuts parts (cut_of parts)
all_cuts [] = nothing_cuts
all_cuts (AnyText ∷ parts) = star_cuts parts (cut_of parts) (all_cuts parts)
all_cuts (Plain plain ∷ parts) = one_cuts (Plain plain) parts (cut_of parts) (record { to = λ _ h. h; from = λ _ h. h }) (all_cuts parts)
all_cuts (AnyOne ∷ parts) = one_cuts AnyOne parts (cut_of parts) (record { to = λ _ h. h; from = λ _ h. h }) (all_cuts parts)
all_cuts (OneOf bracket ∷ parts) = one_cuts (OneOf bracket) parts (cut_of parts) (record { to = λ _ h. h; from = λ _ h. h }) (all_cuts parts)

-- a pattern matches exactly where there is a cut
pub MatchesGlob-from_is_match : (parts : List GlobPart) (name : List ℕ) → is_match parts name ≡ true → MatchesGlob parts name
unfolding is_match
MatchesGlob-from_is_match parts name matches = go (cut_of parts name) ((all_cuts parts).gives name) matches
  where
    go : (answer : Option (List (List ℕ))) → GivesCut parts name answer → is_some answer ≡ true → MatchesGlob parts name
    go None gives matches = absurd (true≢false (sym matches))
    go (Some cut) gives matches = (cut, gives)

pub is_match-from_MatchesGlob : (parts : List GlobPart) (name : List ℕ) → MatchesGlob parts name → is_match parts name ≡ true
unfolding is_match
is_match-from_MatchesGlob parts name (other, is_cut) = go (cut_of parts name) ((all_cuts parts).better name other is_cut)
  where
    go : (answer : Option (List (List ℕ))) → IsBetter parts other answer → is_some answer ≡ true
    go None better = absurd better
    go (Some cut) better = refl

-- the captures are those of the longest cut
pub AreCaptures-captures_of : (parts : List GlobPart) (name : List ℕ) (texts : List (List ℕ)) → captures_of parts name ≡ Some texts → AreCaptures parts name texts
unfolding captures_of
AreCaptures-captures_of parts name texts captured = go (cut_of parts name) ((all_cuts parts).gives name) ((all_cuts parts).better name) captured
  where
    go : (answer : Option (List (List ℕ))) → GivesCut parts name answer → ((other : List (List ℕ)) → IsCut parts name other → IsBetter parts other answer)
        → option_map (λ cut. map encode_utf8_all (wild_texts parts cut)) answer ≡ Some texts → AreCaptures parts name texts
    go None gives better captured = cc
    go (Some cut) gives better captured = (cut, record { is_cut = gives; longest = better }, cc)
