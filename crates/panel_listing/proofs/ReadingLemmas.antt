-- Names that are taken off the end, and what is made of each behind what was made before.
use Rattle.std.proofs.Common.{◌≡◌, ℕ, List, [], ◌∷◌, ◌++◌, map, reverse, sym, ap, ◌∙◌, append_assoc}
use Rattle.std.proofs.lemmas.List.{map-append, reverse-append}
use Rattle.panel_listing.specs.Arranging.{names_of}
use Rattle.panel_listing.specs.declared.item.Item.{Item}

pub popped-more : {A B : Type 0} (f : A → B) (all left : List A) (x : A) (done more : List B) (y : B) (whole : List B) → all ≡ left ++ x ∷ []
    → more ≡ done ++ y ∷ [] → y ≡ f x → map f all ++ reverse done ≡ whole → map f left ++ reverse more ≡ whole
popped-more f all left x done more y whole popped pushed is before =
    ap (λ l. map f left ++ reverse l) (pushed ∙ ap (λ z. done ++ z ∷ []) is)
    ∙ ap (λ l. map f left ++ l) (reverse-append done (f x ∷ []))
    ∙ sym (append_assoc (map f left) (f x ∷ []) (reverse done))
    ∙ ap (λ l. l ++ reverse done) (sym (map-append f left (x ∷ [])))
    ∙ ap (λ l. map f l ++ reverse done) (sym popped)
    ∙ before

pub names-popped : (all left : List (List ℕ)) (name : List ℕ) (done more : List Item) (item : Item) (whole : List (List ℕ)) → all ≡ left ++ name ∷ []
    → more ≡ done ++ item ∷ [] → item.name ≡ name → all ++ names_of (reverse done) ≡ whole → left ++ names_of (reverse more) ≡ whole
names-popped all left name done more item whole popped pushed named before =
    ap (λ l. left ++ names_of (reverse l)) pushed
    ∙ ap (λ l. left ++ names_of l) (reverse-append done (item ∷ []))
    ∙ ap (λ n. left ++ n ∷ names_of (reverse done)) named
    ∙ sym (append_assoc left (name ∷ []) (names_of (reverse done)))
    ∙ ap (λ l. l ++ names_of (reverse done)) (sym popped)
    ∙ before
