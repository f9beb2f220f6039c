use Rattle.std.proofs.Common.{◌≡◌, ℕ, List, sym, ◌∙◌, ap, subst, None, [], reverse}
use Rattle.std.specs.Prelude.{unwrap_or}
use Rattle.tree_trait.specs.declared.file_system.NameEdit.{NameEdit}
use Rattle.tree_trait.specs.declared.file_system.FileSystem.{FileSystem}
use Rattle.tree_trait.specs.FileSystem.{lookup}
use Rattle.tree_trait.specs.Change.{Makes, after_change, found_node}
use Rattle.tree_trait.proofs.Walking.{reached-find}
use Rattle.mem_tree.specs.Held.{IsKept}
use Rattle.mem_tree.specs.Puts.{unlocked_system}
use Rattle.mem_tree.proofs.Puts.{find-unlocked, may_put, none_of, kept_put}
use Rattle.mem_tree.proofs.make.put_in.Goals as goal
use Rattle.mem_tree.proofs.make.put_in.Goals.{In-Ok}

free : (c : In-Ok) → lookup c.args.opening.now.names c.args.folder c.args.name.now ≡ None
free c = subst (λ (es : List NameEdit). lookup es c.args.folder c.args.name.now ≡ None) c.as_slice.ensures (sym c.lookup.ensures ∙ none_of c.lookup.result (sym c.is_some.ensures ∙ c.if-is_some.false))

pub returns-in-Ok-clause-made : goal.returns-in-Ok-clause-made
returns-in-Ok-clause-made c =
    let s = c.args.opening.now in
    let up = reverse c.args.front.now in
    let at : found_node s up ≡ c.args.folder = ap (λ o. unwrap_or o 0) (sym (find-unlocked s up) ∙ reached-find (unlocked_system s) up c.args.folder c.requires.at) in
    c.in-Ok.ensures.made ∙ ap (λ f. after_change s (Makes f c.args.name.now c.args.node)) (sym at)

pub returns-in-Ok-clause-refusal : goal.returns-in-Ok-clause-refusal
returns-in-Ok-clause-refusal c =
    may_put c.args.opening.now c.args.name.now (reverse c.args.front.now) c.args.folder c.requires.at (sym c.folder_at.ensures ∙ c.if-not-folder_at.false) (free c)

pub returns-in-Ok-clause-kept : goal.returns-in-Ok-clause-kept
returns-in-Ok-clause-kept c =
    subst (λ (x : FileSystem). IsKept x [] c.place_both.new.stands) (sym c.in-Ok.ensures.made)
    (subst (λ (x : FileSystem). IsKept (after_change c.args.opening.now (Makes c.args.folder c.args.name.now c.args.node)) [] x) (sym c.in-Ok.ensures.stands)
    (kept_put c.args.opening.now c.args.stands.now c.args.folder c.args.name.now c.args.node c.requires.kept c.requires.fits (free c)))
