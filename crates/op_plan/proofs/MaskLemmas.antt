-- Masks, read character by character, and filled piece by piece.
use Rattle.std.proofs.Common.{◌≡◌, ◌≢◌, ℕ, ◌+◌, ◌<◌, ◌≤◌, suc, Bool, true, false, List, [], ◌∷◌, ◌++◌, length, drop, get_or, Option, Some, None, cond, refl, sym, ap, ◌∙◌, subst, append_assoc, arith}
use Rattle.std.specs.Prelude.{◌==◌, option_and_then, encode_utf8, slice_get}
use Rattle.std.proofs.Math.Seq.{drop-cons}
use Rattle.std.proofs.lemmas.List.{drop_all, append-nil, length-drop}
use Rattle.std.proofs.lemmas.Option.{slice_get_past, slice_get-get_or}
use Rattle.std.proofs.lemmas.Bool.Decides.{nat_tests}
use Rattle.op_plan.specs.declared.mask.MaskPiece.{MaskPiece}
use Rattle.op_plan.specs.declared.mask.MaskPiece.TheVariants.{Plain, Star, WholeName, Capture, OpenBackslash}
use Rattle.op_plan.specs.Masks.{pieces_behind, quoted_piece, plain_piece, before, numbered_pieces, pieces_text, filled_mask}
use Rattle.op_plan.specs.Filling.{leaving, with_rest, filled_with}

next-drop : {A : Type 0} (xs : List A) (n : ℕ) (x : A) → n < length xs → x ≡ get_or xs n x → drop n xs ≡ x ∷ drop (n + 1) xs
next-drop {A} xs n x within is_x =
    drop-cons xs n x within ∙ (ap (λ (y : A). y ∷ drop (suc n) xs) (sym is_x) ∙ ap (λ (k : ℕ). x ∷ drop k xs) (next n))
  where
    next : (k : ℕ) → suc k ≡ k + 1
    next k = omega arith

pub behind-quoted : (prefix : List MaskPiece) (text : List ℕ) (n c : ℕ) → n < length text → c ≡ get_or text n c
    → (prefix ++ quoted_piece c ∷ []) ++ pieces_behind false (drop (n + 1) text) ≡ prefix ++ pieces_behind true (drop n text)
behind-quoted prefix text n c within is_c =
    append_assoc prefix (quoted_piece c ∷ []) (pieces_behind false (drop (n + 1) text))
    ∙ ap (λ (rest : List ℕ). prefix ++ pieces_behind true rest) (sym (next-drop text n c within is_c))

pub behind-backslash : (prefix : List MaskPiece) (text : List ℕ) (n c : ℕ) → n < length text → c ≡ get_or text n c → c ≡ 92
    → prefix ++ pieces_behind true (drop (n + 1) text) ≡ prefix ++ pieces_behind false (drop n text)
behind-backslash prefix text n c within is_c slash =
    let P : ℕ → Type 0 = λ k. prefix ++ pieces_behind true (drop (n + 1) text) ≡ prefix ++ pieces_behind false (k ∷ drop (n + 1) text) in
    subst P (sym slash) refl
    ∙ ap (λ (rest : List ℕ). prefix ++ pieces_behind false rest) (sym (next-drop text n c within is_c))

pub behind-plain : (prefix : List MaskPiece) (text : List ℕ) (n c : ℕ) → n < length text → c ≡ get_or text n c → c ≢ 92
    → (prefix ++ plain_piece c ∷ []) ++ pieces_behind false (drop (n + 1) text) ≡ prefix ++ pieces_behind false (drop n text)
behind-plain prefix text n c within is_c differs =
    let other : (c == 92) ≡ false = grind (arith, nat_tests) in
    append_assoc prefix (plain_piece c ∷ []) (pieces_behind false (drop (n + 1) text))
    ∙ (ap (λ (pieces : List MaskPiece). prefix ++ pieces) (sym (ap (λ (b : Bool). cond b (pieces_behind true (drop (n + 1) text)) (plain_piece c ∷ pieces_behind false (drop (n + 1) text))) other))
    ∙ ap (λ (rest : List ℕ). prefix ++ pieces_behind false rest) (sym (next-drop text n c within is_c)))

pub behind-end : (prefix : List MaskPiece) (text : List ℕ) (n : ℕ) → length text ≤ n → prefix ++ pieces_behind false (drop n text) ≡ prefix
behind-end prefix text n all = ap (λ (l : List ℕ). prefix ++ pieces_behind false l) (drop_all n text all) ∙ append-nil prefix

pub behind-end_open : (prefix : List MaskPiece) (text : List ℕ) (n : ℕ) → length text ≤ n → prefix ++ pieces_behind true (drop n text) ≡ prefix ++ OpenBackslash ∷ []
behind-end_open prefix text n all = ap (λ (l : List ℕ). prefix ++ pieces_behind true l) (drop_all n text all)

-- ---- the star of a number takes what the wildcard of this number took

numbered_from : (name : List ℕ) (captures : List (List ℕ)) (n : ℕ) (stars : List (List ℕ)) (pieces : List MaskPiece) → stars ≡ drop n captures
    → filled_with name captures stars pieces ≡ pieces_text name captures (numbered_pieces n pieces)
numbered_from name captures n stars [] h = refl
numbered_from name captures n stars (Plain c ∷ pieces) h = ap (before (encode_utf8 c)) (numbered_from name captures n stars pieces h)
numbered_from name captures n [] (Star ∷ pieces) h =
    let size = length-drop n captures in
    let none : length captures ≤ n = (let same = ap length h in omega (arith, same, size)) in
    sym (ap (option_and_then (λ text. before text (pieces_text name captures (numbered_pieces (n + 1) pieces)))) (slice_get_past captures n none))
numbered_from name captures n (capture ∷ stars) (Star ∷ pieces) h =
    let size = length-drop n captures in
    let within : n < length captures = (let same = ap length h in omega (arith, same, size)) in
    let cut : capture ∷ stars ≡ get_or captures n capture ∷ drop (suc n) captures = h ∙ drop-cons captures n capture within in
    let here : get_or captures n capture ≡ capture = cc in
    let later : stars ≡ drop (suc n) captures = cc in
    let next : suc n ≡ n + 1 = omega arith in
    ap (before capture) (numbered_from name captures (n + 1) stars pieces (later ∙ ap (λ (k : ℕ). drop k captures) next))
    ∙ sym (ap (option_and_then (λ text. before text (pieces_text name captures (numbered_pieces (n + 1) pieces))))
    (slice_get-get_or captures n capture within ∙ ap (λ (x : List ℕ). Some x) here))
numbered_from name captures n stars (WholeName ∷ pieces) h = ap (before name) (numbered_from name captures n stars pieces h)
numbered_from name captures n stars (Capture place ∷ pieces) h = captured (slice_get captures place) (numbered_from name captures n stars pieces h)
  where
    captured : (o : Option (List ℕ)) → filled_with name captures stars pieces ≡ pieces_text name captures (numbered_pieces n pieces)
        → with_rest (leaving stars o) (λ left. filled_with name captures left pieces) ≡ option_and_then (λ text. before text (pieces_text name captures (numbered_pieces n pieces))) o
    captured None same = refl
    captured (Some text) same = ap (before text) same
numbered_from name captures n stars (OpenBackslash ∷ pieces) h = refl

pub stars_numbered : (name : List ℕ) (captures : List (List ℕ)) (pieces : List MaskPiece) → filled_with name captures captures pieces ≡ filled_mask name captures pieces
stars_numbered name captures pieces = numbered_from name captures 0 captures pieces refl
