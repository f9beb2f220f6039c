-- The lines of a list are those of its items in their order.
use Rattle.std.proofs.Common.{◌≡◌, ℕ, ◌⊎◌, List, [], ◌∷◌, ◌++◌, Option, Some, None, option_map, refl, ap, ◌∙◌, sym, subst, inl, inr, ⊎_elim, append_assoc}
use Rattle.std.proofs.lemmas.List.{append-nil}
use Rattle.hotlist.specs.declared.items.HotItem.{HotItem}
use Rattle.hotlist.specs.declared.items.HotItem.TheOpen.{HotItem-F, Entry, Group}
use Rattle.hotlist.specs.declared.items.HotItem.TheFolds.{fold-HotItem, fold_out-HotItem}
use Rattle.hotlist.specs.HotLists.{HotList, NoMore, AnEntry, AGroup, in_row, layer_before, before, list_of}
use Rattle.hotlist.specs.HotLines.{ParsedLine, EntryLine, GroupLine, EndLine}
use Rattle.hotlist.specs.HotFiles.{lines_that_say}
use Rattle.hotlist.specs.Drafts.{with_said}

-- an item is an entry or a group before others
abbrev pub IsItem : (HotList → HotList) → Type 0
IsItem item =
    ((label : List ℕ) × (path : List ℕ) × ((others : HotList) → item others ≡ AnEntry label path others))
    ⊎ ((label : List ℕ) × (items : HotList) × ((others : HotList) → item others ≡ AGroup label items others))

layer_is : (layer : HotItem-F (HotList → HotList)) → IsItem (layer_before layer)
layer_is (Entry label path) = inl (label, path, λ others. refl)
layer_is (Group label items) = inr (label, in_row items.items, λ others. refl)

pub item_is : (item : HotItem) → IsItem (before item)
item_is item = subst IsItem (sym (fold_out-HotItem (HotList → HotList) layer_before item)) (layer_is _)

pub lines-before : (item : HotItem) (others : HotList)
    → lines_that_say (before item others) ≡ lines_that_say (before item NoMore) ++ lines_that_say others
lines-before item others =
    ⊎_elim
    (λ (entry : (label : List ℕ) × (path : List ℕ) × ((others : HotList) → before item others ≡ AnEntry label path others)).
    ap lines_that_say (entry.2 others) ∙ ap (λ list. lines_that_say list ++ lines_that_say others) (sym (entry.2 NoMore)))
    (λ (group : (label : List ℕ) × (items : HotList) × ((others : HotList) → before item others ≡ AGroup label items others)).
    ap lines_that_say (group.2 others)
    ∙ ap (λ lines. GroupLine group.0 ∷ lines) (sym (append_assoc (lines_that_say group.1) (EndLine ∷ []) (lines_that_say others)))
    ∙ ap (λ list. lines_that_say list ++ lines_that_say others) (sym (group.2 NoMore)))
    (item_is item)

pub lines-push : (items : List HotItem) (item : HotItem)
    → lines_that_say (list_of (items ++ item ∷ [])) ≡ lines_that_say (list_of items) ++ lines_that_say (before item NoMore)
lines-push [] item = refl
lines-push (first ∷ items) item =
    lines-before first (list_of (items ++ item ∷ []))
    ∙ ap (λ lines. lines_that_say (before first NoMore) ++ lines) (lines-push items item)
    ∙ sym (append_assoc (lines_that_say (before first NoMore)) (lines_that_say (list_of items)) (lines_that_say (before item NoMore)))
    ∙ ap (λ lines. lines ++ lines_that_say (before item NoMore)) (sym (lines-before first (list_of items)))

-- one line more in front of others
pub with_said-push : (old new : List ParsedLine) (line : ParsedLine) (others : Option (List ParsedLine)) → new ≡ old ++ line ∷ []
    → with_said new others ≡ with_said old (option_map (λ lines. line ∷ lines) others)
with_said-push old new line None is = refl
with_said-push old new line (Some lines) is = ap (λ prefix. Some (prefix ++ lines)) is ∙ ap Some (append_assoc old (line ∷ []) lines)

-- a group that ends is an item of the list around it
pub group-ends : (groups items_before items : List ParsedLine) (label : List ℕ)
    → groups ++ (items_before ++ (GroupLine label ∷ (items ++ EndLine ∷ [])))
    ≡ ((groups ++ (items_before ++ GroupLine label ∷ [])) ++ items) ++ EndLine ∷ []
group-ends groups items_before items label = simp append_assoc
