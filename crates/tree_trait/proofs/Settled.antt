-- What is on the disk stays there as calls go on, so a crash leaves it.
use Rattle.std.proofs.Common.{◌≡◌, ℕ, Bool, true, false, not, ◌&&◌, ◌||◌, List, [], ◌∷◌, ◌++◌, refl, inl, inr, Some, None}
use Rattle.std.proofs.lemmas.Bool.{true≢false, false≢true, and_parts, and_from, or_left, or_right, not_from_true, not-true, both_ways}
use Rattle.tree_trait.specs.declared.file_system.FileSystem.{FileSystem}
use Rattle.tree_trait.specs.Change.{Change, Nothing, Makes, Moves, Removes, Sets, Writes, Syncs, after_change, after_changes}
use Rattle.tree_trait.specs.CrashImages.{is_settled, is_unsynced, all_settled, MayLeave}

pub or_follows : (a b c d : Bool) → (a ≡ true → c ≡ true) → (b ≡ true → d ≡ true) → (a || b) ≡ true → (c || d) ≡ true
or_follows true b c d f g h = or_left c d (f refl)
or_follows false b c d f g h = or_right c d (g h)

pub and_follows : (a b c d : Bool) → (a ≡ true → c ≡ true) → (b ≡ true → d ≡ true) → (a && b) ≡ true → (c && d) ≡ true
and_follows true b c d f g h = and_from c d (f refl) (g h)
and_follows false b c d f g h = absurd (false≢true h)

pub not_follows : (a b : Bool) → (a ≡ true → b ≡ true) → not a ≡ false → not b ≡ false
not_follows true b f h = not_from_true b (f refl)
not_follows false b f h = absurd (true≢false h)

pub is_settled-more : (i : ℕ) (later more : List Change) → is_settled i later ≡ true → is_settled i (later ++ more) ≡ true
is_settled-more i [] more h = absurd (false≢true h)
is_settled-more i (Syncs j ∷ later) more h = or_follows _ _ _ _ (λ e. e) (is_settled-more i later more) h
is_settled-more i (Removes f name j ∷ later) more h =
    or_follows _ _ _ _ (and_follows _ _ _ _ (λ e. e) (is_settled-more f later more)) (is_settled-more i later more) h
is_settled-more i (Moves f old g new k (Some j) ∷ later) more h =
    or_follows _ _ _ _ (and_follows _ _ _ _ (λ e. e) (and_follows _ _ _ _ (is_settled-more f later more) (is_settled-more g later more))) (is_settled-more i later more) h
is_settled-more i (Moves f old g new k None ∷ later) more h = is_settled-more i later more h
is_settled-more i (Nothing ∷ later) more h = is_settled-more i later more h
is_settled-more i (Makes f name made ∷ later) more h = is_settled-more i later more h
is_settled-more i (Sets j mode ∷ later) more h = is_settled-more i later more h
is_settled-more i (Writes j bytes mtime ∷ later) more h = is_settled-more i later more h

-- what is pending no more stays so
pub is_unsynced-more : (c : Change) (later more : List Change) → is_unsynced c later ≡ false → is_unsynced c (later ++ more) ≡ false
is_unsynced-more Nothing later more h = refl
is_unsynced-more (Makes f name made) later more h = not_follows _ _ (is_settled-more f later more) h
is_unsynced-more (Moves f old g new i r) later more h =
    not_follows _ _ (and_follows _ _ _ _ (is_settled-more f later more) (is_settled-more g later more)) h
is_unsynced-more (Removes f name i) later more h = not_follows _ _ (is_settled-more f later more) h
is_unsynced-more (Sets i mode) later more h = not_follows _ _ (is_settled-more i later more) h
is_unsynced-more (Writes i bytes mtime) later more h = not_follows _ _ (is_settled-more i later more) h
is_unsynced-more (Syncs i) later more h = refl

-- changes that are on the disk are in each image of what follows them
pub MayLeave-is_settled : (s : FileSystem) (cs more : List Change) (image : FileSystem) → all_settled cs ≡ true → MayLeave s (cs ++ more) image → MayLeave (after_changes s cs) more image
MayLeave-is_settled s [] more image h left = left
MayLeave-is_settled s (c ∷ cs) more image h (inl there) = MayLeave-is_settled (after_change s c) cs more image (and_parts _ _ h).1 there
MayLeave-is_settled s (c ∷ cs) more image h (inr lost) =
    absurd (both_ways _ (is_unsynced-more c cs more (not-true _ (and_parts _ _ h).0)) lost.0)

pub after_changes-append : (s : FileSystem) (xs ys : List Change) → after_changes s (xs ++ ys) ≡ after_changes (after_changes s xs) ys
after_changes-append s [] ys = refl
after_changes-append s (x ∷ xs) ys = after_changes-append (after_change s x) xs ys
