-- The longest front of a `*` is the first that is tried, from the whole text down, whose rest the parts behind match.
use Rattle.std.proofs.Common.{◌≡◌, ◌≢◌, ℕ, ◌-◌, ◌≤◌, arith, length, take, Bool, true, false, cond, if◌then◌else◌, ◌&&◌, List, [], ◌∷◌, ◌++◌, map, Option, Some, None, is_some, option_map, encode_utf8, encode_utf8_all, refl, sym, ap, subst, ◌∙◌, append_assoc}
use mathlib.Core.Bool.{true≢false}
use lib.Utf8.{scalars, scalar}
use Rattle.std.specs.Str.{chars, IsUtf8, IsCharBoundary}
use Rattle.std.proofs.lemmas.Str.{chars_past_char, chars-append, chars-nil, IsUtf8-append, IsUtf8-nil, encodes-chars, cons_from_encodes, IsUtf8-drop, IsCharBoundary-from_take, IsCharBoundary-at_seam}
use Rattle.std.proofs.lemmas.List.{append-nil, length-append}
use Rattle.std.proofs.Math.Seq.{drop-append_seam, take-append_seam}
use Rattle.tagging.proofs.WalkLemmas.{AnyText-or_single}
use Rattle.tagging.specs.Globs.{stands_for, is_wild, is_match, cut_of, captures_of, after_text, longest_prefix, wild_texts}
use Rattle.tagging.specs.Fronts.{LeavesCut, IsPrefixTaken, LosesLast}
use Rattle.tagging.specs.declared.glob.GlobPart.{GlobPart}
use Rattle.tagging.specs.declared.glob.GlobPart.TheVariants.{AnyText}

-- captures before others
abbrev pub after_captures : List (List ℕ) → Option (List (List ℕ)) → Option (List (List ℕ))
after_captures front None = None
after_captures front (Some captured) = Some (front ++ captured)

-- no end of a text is cut but perhaps the text itself
abbrev NoShorterEnd : (List ℕ → Option (List (List ℕ))) → List ℕ → Type 0
NoShorterEnd cut_rest [] = Unit {0}
NoShorterEnd cut_rest (c ∷ text) = longest_prefix cut_rest text ≡ None

-- the fronts of a text that are longer than this one leave a rest that the parts don't match
pub record HasTried (parts : List GlobPart) (text front : List ℕ) : Type 0 where
  pub back : List ℕ
  pub is_text : IsUtf8 back
  pub joins : front ++ back ≡ text
  pub no_shorter : NoShorterEnd (cut_of parts) (chars back)

-- the text itself isn't cut, and no end is
nothing_here : (cut_rest : List ℕ → Option (List (List ℕ))) (text : List ℕ) → cut_rest text ≡ None → NoShorterEnd cut_rest text → longest_prefix cut_rest text ≡ None
nothing_here cut_rest [] none shorter = ap (after_text []) none
nothing_here cut_rest (c ∷ text) none shorter = rw (shorter, none) refl

not_matched : (parts : List GlobPart) (text : List ℕ) → is_match parts text ≡ false → cut_of parts text ≡ None
unfolding is_match
not_matched parts text differs = go (cut_of parts text) differs
  where
    go : (answer : Option (List (List ℕ))) → is_some answer ≡ false → answer ≡ None
    go None differs = refl
    go (Some cut) differs = absurd (true≢false differs)

-- the front before an end that is cut, where no shorter end is
longest_before : (cut_rest : List ℕ → Option (List (List ℕ))) (front back : List ℕ) (cut : List (List ℕ)) → cut_rest back ≡ Some cut → NoShorterEnd cut_rest back
    → longest_prefix cut_rest (front ++ back) ≡ Some (front ∷ cut)
longest_before cut_rest [] [] cut is shorter = ap (after_text []) is
longest_before cut_rest [] (c ∷ back) cut is shorter = rw (shorter, is) refl
longest_before cut_rest (c ∷ front) back cut is shorter = rw (longest_before cut_rest front back cut is shorter) refl

-- what is behind a text in a text is a text
utf8_behind : (front back : List ℕ) → IsUtf8 (front ++ back) → IsUtf8 front → IsUtf8 back
utf8_behind front back whole is_text =
    let fits : length front ≤ length (front ++ back) = omega (arith, length-append front back) in
    let cut = IsCharBoundary-from_take (front ++ back) (length front) whole fits (subst IsUtf8 (sym (take-append_seam front back)) is_text) in
    subst IsUtf8 (drop-append_seam front back) (IsUtf8-drop (front ++ back) (length front) whole cut)

pub tried_nothing : (parts : List GlobPart) (text : List ℕ) → HasTried parts text text
tried_nothing parts text = record { back = []; is_text = IsUtf8-nil; joins = append-nil text; no_shorter = rw chars-nil tt }

pub tried_more : (parts : List GlobPart) (text front shorter : List ℕ) → IsUtf8 front → IsUtf8 shorter → LosesLast front shorter
    → (tried : HasTried parts text front) → is_match parts (chars tried.back) ≡ false → HasTried parts text shorter
tried_more parts text front shorter is_text is_shorter loses tried differs =
    let one : IsUtf8 (encode_utf8 loses.last) = utf8_behind shorter (encode_utf8 loses.last) (subst IsUtf8 loses.joins is_text) is_shorter in
    let back : IsUtf8 (encode_utf8 loses.last ++ tried.back) = IsUtf8-append (encode_utf8 loses.last) tried.back one tried.is_text in
    record {
      back = encode_utf8 loses.last ++ tried.back;
      is_text = back;
      joins = sym (append_assoc shorter (encode_utf8 loses.last) tried.back) ∙ ap (λ bytes. bytes ++ tried.back) (sym loses.joins) ∙ tried.joins;
      no_shorter = rw (chars_past_char _ tried.back loses.last back refl)
          (nothing_here (cut_of parts) (chars tried.back) (not_matched parts (chars tried.back) differs) tried.no_shorter);
    }

-- where every front has been tried, there is no cut
pub tried_all : (parts : List GlobPart) (text front : List ℕ) → front ≡ [] → (tried : HasTried parts text front) → is_match parts (chars tried.back) ≡ false
    → cut_of (AnyText ∷ parts) (chars text) ≡ None
tried_all parts text front empty tried differs =
    ap (λ bytes. cut_of (AnyText ∷ parts) (chars bytes)) (sym tried.joins ∙ ap (λ bytes. bytes ++ tried.back) empty)
    ∙ nothing_here (cut_of parts) (chars tried.back) (not_matched parts (chars tried.back) differs) tried.no_shorter

-- the first front whose rest is matched is the longest
pub tried_last : (parts : List GlobPart) (text front : List ℕ) → IsUtf8 front → (tried : HasTried parts text front) → is_match parts (chars tried.back) ≡ true
    → LeavesCut AnyText parts text tried.back
unfolding is_match
tried_last parts text front is_text tried matches = record {
  front = front;
  is_text = is_text;
  joins = tried.joins;
  cut = ap (λ bytes. longest_prefix (cut_of parts) (chars bytes)) (sym tried.joins)
      ∙ ap (longest_prefix (cut_of parts)) (chars-append front tried.back is_text)
      ∙ go (cut_of parts (chars tried.back)) refl matches;
}
  where
    go : (answer : Option (List (List ℕ))) → cut_of parts (chars tried.back) ≡ answer → is_some answer ≡ true
        → longest_prefix (cut_of parts) (chars front ++ chars tried.back) ≡ after_text (chars front) (cut_of parts (chars tried.back))
    go None is matches = absurd (true≢false (sym matches))
    go (Some cut) is matches = longest_before (cut_of parts) (chars front) (chars tried.back) cut is tried.no_shorter ∙ ap (after_text (chars front)) (sym is)

first_scalar : (c : ℕ) (es : List ℕ) → scalars (c ∷ es) ≡ true → scalars (c ∷ []) ≡ true
first_scalar c es h = go (scalar c) (scalars es) h
  where
    go : (a b : Bool) → (a && b) ≡ true → (a && true) ≡ true
    go true b h = refl
    go false b h = h

utf8_first : (c : ℕ) (more : List ℕ) → IsUtf8 (encode_utf8 c ++ more) → IsUtf8 (encode_utf8 c)
utf8_first c more (cs, (ok, is)) =
    let split = cons_from_encodes cs more c is in
    (c ∷ [], (first_scalar c split.0 (rw split.1 at ok), append-nil (encode_utf8 c)))

-- a part that takes one character
pub one_taken : (part : GlobPart) (behind : List GlobPart) (text more : List ℕ) (c : ℕ) → part ≢ AnyText → IsUtf8 text
    → text ≡ encode_utf8 c ++ more → stands_for part c ≡ true → LeavesCut part behind text more
one_taken part behind text more c ne is_text joins takes =
    let one : IsUtf8 (encode_utf8 c) = utf8_first c more (subst IsUtf8 joins is_text) in
    let alone : chars (encode_utf8 c) ≡ c ∷ [] = chars_past_char (encode_utf8 c) [] c one (sym (append-nil (encode_utf8 c))) ∙ ap (λ cs. c ∷ cs) chars-nil in
    record {
      front = encode_utf8 c;
      is_text = one;
      joins = sym joins;
      cut = ap (cut_of (part ∷ behind)) (chars_past_char text more c is_text joins)
          ∙ (AnyText-or_single part ne).is behind (c ∷ chars more)
          ∙ ap (λ b. cond b (after_text (c ∷ []) (cut_of behind (chars more))) None) takes
          ∙ ap (λ front. after_text front (cut_of behind (chars more))) (sym alone);
    }

pub one_not_taken : (part : GlobPart) (behind : List GlobPart) (text : List ℕ) (c : ℕ) (rest : List ℕ) → part ≢ AnyText → text ≡ c ∷ rest
    → stands_for part c ≡ false → cut_of (part ∷ behind) text ≡ None
one_not_taken part behind text c rest ne is differs =
    ap (cut_of (part ∷ behind)) is
    ∙ (AnyText-or_single part ne).is behind (c ∷ rest)
    ∙ ap (λ b. cond b (after_text (c ∷ []) (cut_of behind rest)) None) differs

pub one_at_end : (part : GlobPart) (behind : List GlobPart) (text : List ℕ) → part ≢ AnyText → text ≡ [] → cut_of (part ∷ behind) text ≡ None
one_at_end part behind text ne is = ap (cut_of (part ∷ behind)) is ∙ (AnyText-or_single part ne).is behind []

front_length : (part : GlobPart) (behind : List GlobPart) (text more : List ℕ) → (leaves : LeavesCut part behind text more) → length text - length more ≡ length leaves.front
front_length part behind text more leaves = omega (arith, ap length leaves.joins, length-append leaves.front more)

-- where a text is cut
pub seam : (part : GlobPart) (behind : List GlobPart) (text more : List ℕ) → IsUtf8 text → LeavesCut part behind text more → IsCharBoundary text (length text - length more)
seam part behind text more is_text leaves =
    subst (IsCharBoundary text) (sym (front_length part behind text more leaves)) (IsCharBoundary-at_seam text leaves.front more (sym leaves.joins)
    (utf8_behind leaves.front more (subst IsUtf8 (sym leaves.joins) is_text) leaves.is_text))

pub fits : (part : GlobPart) (behind : List GlobPart) (text more : List ℕ) → LeavesCut part behind text more → length more ≤ length text
fits part behind text more leaves = omega (arith, ap length leaves.joins, length-append leaves.front more)

pub front_is : (part : GlobPart) (behind : List GlobPart) (text more : List ℕ) → LeavesCut part behind text more
    → IsPrefixTaken part behind text (take (length text - length more) text) more
front_is part behind text more leaves =
    let is : take (length text - length more) text ≡ leaves.front =
    ap (λ n. take n text) (front_length part behind text more leaves)
    ∙ ap (take (length leaves.front)) (sym leaves.joins) ∙ take-append_seam leaves.front more in
    subst (λ front. IsPrefixTaken part behind text front more) (sym is) (record { is_text = leaves.is_text; joins = leaves.joins; cut = leaves.cut })

-- what a wildcard takes is captured
pub captures_of-front : (part : GlobPart) (behind : List GlobPart) (text front more : List ℕ) → IsPrefixTaken part behind text front more
    → captures_of (part ∷ behind) (chars text) ≡ after_captures (if is_wild part then front ∷ [] else []) (captures_of behind (chars more))
unfolding captures_of
captures_of-front part behind text front more taken =
    ap (option_map (λ cut. map encode_utf8_all (wild_texts (part ∷ behind) cut))) taken.cut ∙ go (cut_of behind (chars more))
  where
    kept : (wild : Bool) (texts : List (List ℕ)) → map encode_utf8_all (cond wild (chars front ∷ texts) texts) ≡ cond wild (front ∷ []) [] ++ map encode_utf8_all texts
    kept true texts = ap (λ bytes. bytes ∷ map encode_utf8_all texts) (encodes-chars front taken.is_text)
    kept false texts = refl

    go : (answer : Option (List (List ℕ)))
        → option_map (λ cut. map encode_utf8_all (wild_texts (part ∷ behind) cut)) (after_text (chars front) answer)
        ≡ after_captures (cond (is_wild part) (front ∷ []) []) (option_map (λ cut. map encode_utf8_all (wild_texts behind cut)) answer)
    go None = refl
    go (Some cut) = ap Some (kept (is_wild part) (wild_texts behind cut))

pub captures_of-none : (part : GlobPart) (behind : List GlobPart) (name : List ℕ) → cut_of (part ∷ behind) name ≡ None → captures_of (part ∷ behind) name ≡ None
unfolding captures_of
captures_of-none part behind name none = ap (option_map (λ cut. map encode_utf8_all (wild_texts (part ∷ behind) cut))) none

pub captures_of-unmatched : (parts : List GlobPart) (name : List ℕ) → is_match parts name ≡ false → captures_of parts name ≡ None
unfolding captures_of
captures_of-unmatched parts name differs =
    ap (option_map (λ cut. map encode_utf8_all (wild_texts parts cut))) (not_matched parts name differs)

pub captures_of-past : (c : ℕ) (text : List ℕ) → captures_of [] (c ∷ text) ≡ None
unfolding captures_of
captures_of-past c text = refl

pub captures_of-end : (captured : List (List ℕ)) → after_captures captured (captures_of [] []) ≡ Some captured
unfolding captures_of
captures_of-end captured = ap Some (append-nil captured)

pub after_captures-append : (front next : List (List ℕ)) (rest : Option (List (List ℕ))) → after_captures (front ++ next) rest ≡ after_captures front (after_captures next rest)
after_captures-append front next None = refl
after_captures-append front next (Some captured) = ap Some (append_assoc front next captured)
