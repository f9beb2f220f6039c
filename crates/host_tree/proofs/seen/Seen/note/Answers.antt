-- where there is room a push is not refused
use Rattle.std.proofs.Common.{◌≡◌, List, [], ◌∷◌, ◌++◌, Result, IsOk, is_ok, if◌then◌else◌, ◌∙◌, ap, arith}
use Rattle.host_tree.specs.Seen.{forgetting, newest}
use Rattle.host_tree.proofs.seen.Seen.note.Goals as goal

pushed : {A E X : Type 0} (r : Result A E) (old new : List X) (x : X) → IsOk r → new ≡ (if is_ok r then old ++ x ∷ [] else old) → new ≡ old ++ x ∷ []
pushed r old new x ok e = e ∙ ap (λ b. if b then old ++ x ∷ [] else old) ok

pub returns : goal.returns
returns c =
    pushed _ _ _ _ (c.push-noted.ensures.succeeds
    (omega (arith, c.requires, c.forget.ensures.fewer, c.forget.ensures.room, c.forget_oldest.ensures.fewer, c.forget_oldest.ensures.room)))
    c.push-noted.ensures.items
    ∙ ap (λ folders. folders ++ c.args.folder ∷ []) (c.forget_oldest.ensures.folders
    ∙ ap (λ folders. newest folders) (c.forget.ensures.folders ∙ ap (λ text. forgetting c.args.self.now.folders.items text) c.as_str.ensures.value))
