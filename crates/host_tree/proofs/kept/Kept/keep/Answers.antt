-- where there is room a push is not refused
use Rattle.std.proofs.Common.{◌≡◌, List, [], ◌∷◌, ◌++◌, Result, IsOk, is_ok, if◌then◌else◌, ◌∙◌, ap, arith}
use Rattle.host_tree.specs.Kept.{newest}
use Rattle.host_tree.proofs.kept.Kept.keep.Goals as goal

pushed : {A E X : Type 0} (r : Result A E) (old new : List X) (x : X) → IsOk r → new ≡ (if is_ok r then old ++ x ∷ [] else old) → new ≡ old ++ x ∷ []
pushed r old new x ok e = e ∙ ap (λ b. if b then old ++ x ∷ [] else old) ok

pub returns : goal.returns
returns g c =
    pushed _ _ _ _ (c.push-kept.ensures.succeeds
    (omega (arith, c.requires, c.forget.ensures.fewer, c.forget.ensures.room, c.close_oldest.ensures.fewer, c.close_oldest.ensures.room)))
    c.push-kept.ensures.items
    ∙ ap (λ files. files ++ c.args.file ∷ []) (c.close_oldest.ensures.files ∙ ap (λ files. newest files) c.forget.ensures.files)
