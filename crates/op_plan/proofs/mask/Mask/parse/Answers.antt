-- The character at hand comes first among those that are left.
use Rattle.std.proofs.Common.{◌≡◌, ◌+◌, ◌++◌, [], ◌∷◌, ◌∙◌, sym, ap, true, false, length, drop, arith, ℕ, Bool, List}
use Rattle.std.specs.Str.{chars}
use Rattle.std.proofs.lemmas.List.{length_push}
use Rattle.std.proofs.lemmas.Iterator.{YieldsList-from_chars}
use Rattle.std.proofs.lemmas.Iterator.Consumers.{YieldsList-turn, YieldsList-end}
use Rattle.op_plan.specs.declared.mask.MaskPiece.{MaskPiece}
use Rattle.op_plan.specs.Masks.{pieces_behind, quoted_piece, plain_piece}
use Rattle.op_plan.proofs.MaskLemmas.{behind-quoted, behind-backslash, behind-plain, behind-end, behind-end_open}
use Rattle.op_plan.proofs.mask.Mask.parse.Goals as goal

pub loop-character-preserved-then-quoted : goal.loop-character-preserved-then-quoted
loop-character-preserved-then-quoted c =
    let text = chars c.args.text.now in
    let turn = YieldsList-turn (YieldsList-from_chars c.args.text.now c.utf8.text cc) c.loop-character.yielded _ c.loop-character.yielded_by _ _ c.in-Some.character c.in-Some.is c.next.ensures.steps in
    let prefix = c.loop-character.pieces.items in
    let n = length c.loop-character.yielded in
    let pushed : c.push.new.self.items ≡ prefix ++ quoted_piece c.in-Some.character ∷ [] =
    c.in_ok-push.ensures.items ∙ ap (λ (p : MaskPiece). prefix ++ p ∷ []) c.quoted_piece.ensures in
    let size : length (c.loop-character.yielded ++ c.in-Some.character ∷ []) ≡ n + 1 = length_push c.loop-character.yielded c.in-Some.character in
    ap (λ (pieces : List MaskPiece). pieces ++ pieces_behind false (drop (length (c.loop-character.yielded ++ c.in-Some.character ∷ [])) text)) pushed
    ∙ (ap (λ (k : ℕ). (prefix ++ quoted_piece c.in-Some.character ∷ []) ++ pieces_behind false (drop k text)) size
    ∙ (behind-quoted prefix text n c.in-Some.character turn.0 turn.1
    ∙ (ap (λ (q : Bool). prefix ++ pieces_behind q (drop n text)) (sym c.if-quoted.true) ∙ c.loop-character.invariant)))

pub loop-character-preserved-then-character-eq92 : goal.loop-character-preserved-then-character-eq92
loop-character-preserved-then-character-eq92 c =
    let text = chars c.args.text.now in
    let turn = YieldsList-turn (YieldsList-from_chars c.args.text.now c.utf8.text cc) c.loop-character.yielded _ c.loop-character.yielded_by _ _ c.in-Some.character c.in-Some.is c.next.ensures.steps in
    let prefix = c.loop-character.pieces.items in
    let n = length c.loop-character.yielded in
    let size : length (c.loop-character.yielded ++ c.in-Some.character ∷ []) ≡ n + 1 = length_push c.loop-character.yielded c.in-Some.character in
    ap (λ (k : ℕ). prefix ++ pieces_behind true (drop k text)) size
    ∙ (behind-backslash prefix text n c.in-Some.character turn.0 turn.1 c.if-character-eq92.true
    ∙ (ap (λ (q : Bool). prefix ++ pieces_behind q (drop n text)) (sym c.if-quoted.false) ∙ c.loop-character.invariant))

pub loop-character-preserved : goal.loop-character-preserved
loop-character-preserved c =
    let text = chars c.args.text.now in
    let turn = YieldsList-turn (YieldsList-from_chars c.args.text.now c.utf8.text cc) c.loop-character.yielded _ c.loop-character.yielded_by _ _ c.in-Some.character c.in-Some.is c.next.ensures.steps in
    let prefix = c.loop-character.pieces.items in
    let n = length c.loop-character.yielded in
    let pushed : c.push-else-character-eq92.new.self.items ≡ prefix ++ plain_piece c.in-Some.character ∷ [] =
    c.in_ok-push-2.ensures.items ∙ ap (λ (p : MaskPiece). prefix ++ p ∷ []) c.plain_piece.ensures in
    let size : length (c.loop-character.yielded ++ c.in-Some.character ∷ []) ≡ n + 1 = length_push c.loop-character.yielded c.in-Some.character in
    ap (λ (pieces : List MaskPiece). pieces ++ pieces_behind c.loop-character.quoted (drop (length (c.loop-character.yielded ++ c.in-Some.character ∷ [])) text)) pushed
    ∙ (ap (λ (k : ℕ). (prefix ++ plain_piece c.in-Some.character ∷ []) ++ pieces_behind c.loop-character.quoted (drop k text)) size
    ∙ (ap (λ (q : Bool). (prefix ++ plain_piece c.in-Some.character ∷ []) ++ pieces_behind q (drop (n + 1) text)) c.if-quoted.false
    ∙ (behind-plain prefix text n c.in-Some.character turn.0 turn.1 c.if-character-eq92.false
    ∙ (ap (λ (q : Bool). prefix ++ pieces_behind q (drop n text)) (sym c.if-quoted.false) ∙ c.loop-character.invariant))))

pub returns : goal.returns
returns c =
    let text = chars c.args.text.now in
    let end = YieldsList-end (YieldsList-from_chars c.args.text.now c.utf8.text cc) c.loop-character.yielded _ c.loop-character.yielded_by _ _ c.in-None.is c.next.ensures.steps in
    let prefix = c.loop-character.pieces.items in
    let n = length c.loop-character.yielded in
    sym (behind-end prefix text n (omega (arith, end.1)))
    ∙ (ap (λ (q : Bool). prefix ++ pieces_behind q (drop n text)) (sym c.if-quoted-2.false) ∙ c.loop-character.invariant)

pub returns-then-quoted-2 : goal.returns-then-quoted-2
returns-then-quoted-2 c =
    let text = chars c.args.text.now in
    let end = YieldsList-end (YieldsList-from_chars c.args.text.now c.utf8.text cc) c.loop-character.yielded _ c.loop-character.yielded_by _ _ c.in-None.is c.next.ensures.steps in
    let prefix = c.loop-character.pieces.items in
    let n = length c.loop-character.yielded in
    c.in_ok-push-3.ensures.items
    ∙ (sym (behind-end_open prefix text n (omega (arith, end.1)))
    ∙ (ap (λ (q : Bool). prefix ++ pieces_behind q (drop n text)) (sym c.if-quoted-2.true) ∙ c.loop-character.invariant))
