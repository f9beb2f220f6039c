-- the names from the root on are the path's, turned round
use Rattle.std.proofs.Common.{◌≡◌, ◌<◌, ◌∙◌, sym, ap, ℕ, List, Some, length, reverse, get_or, arith}
use Rattle.std.proofs.lemmas.List.{length-reverse, reverse-reverse}
use Rattle.mc_text.specs.Routes.{Route}
use Rattle.op_plan.proofs.ChildLemmas.{child-at, child-outside, child-short}
use Rattle.op_plan.proofs.apart.child_above.Goals as goal
use Rattle.op_plan.proofs.apart.child_above.Goals.{else-is_prefix_of-via-then-is_prefix_of+else-depth-names, else-is_prefix_of-via-else-is_prefix_of}

pub returns-then-depth-names : goal.returns-then-depth-names
returns-then-depth-names c =
    let folder = c.args.folder.now in
    let path = c.args.path.now in
    let names = c.names-names.result.now in
    let own = c.names-depth.result.now in
    let turned : names ≡ reverse path = sym (reverse-reverse names) ∙ ap reverse c.names-names.ensures.names in
    let depth : length own ≡ length folder = sym (length-reverse own) ∙ ap length c.names-depth.ensures.names in
    let size : length names ≡ length path = ap length turned ∙ length-reverse path in
    let below : length folder < length path = omega (arith, c.if-depth-names.true, depth, size) in
    sym (child-at folder path c.index-names-depth.result (sym c.is_prefix_of.ensures ∙ c.if-is_prefix_of.true) below
    ∙ (ap (λ (l : Route). Some (get_or l (length folder) c.index-names-depth.result)) (sym turned)
    ∙ (ap (λ (n : ℕ). Some (get_or names n c.index-names-depth.result)) (sym depth)
    ∙ (ap (λ (x : List ℕ). Some x) (sym c.index-names-depth.is) ∙ ap (λ (x : List ℕ). Some x) (sym c.text.ensures.text)))))

pub returns-else-is_prefix_of : goal.returns-else-is_prefix_of
returns-else-is_prefix_of c =
    let folder = c.args.folder.now in
    let path = c.args.path.now in
    elim c.else-is_prefix_of.branch [
      | else-is_prefix_of-via-then-is_prefix_of+else-depth-names w ↦
          let size : length c.names-names.result.now ≡ length path = sym (length-reverse c.names-names.result.now) ∙ ap length c.names-names.ensures.names in
          let depth : length c.names-depth.result.now ≡ length folder = sym (length-reverse c.names-depth.result.now) ∙ ap length c.names-depth.ensures.names in
          sym (child-short folder path (omega (arith, w.if-depth-names.false, size, depth)))
      | else-is_prefix_of-via-else-is_prefix_of w ↦ sym (child-outside folder path (sym c.is_prefix_of.ensures ∙ w.if-is_prefix_of.false))
    ]
