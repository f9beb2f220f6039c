-- A change that is none makes no difference.
use Rattle.std.proofs.Common.{◌≡◌, ℕ, not, ◌&&◌, List, [], ◌∷◌, ◌++◌, refl, ap, Some, None}
use Rattle.tree_trait.specs.declared.file_system.FileSystem.{FileSystem}
use Rattle.tree_trait.specs.Change.{Change, Nothing, Makes, Moves, Removes, Sets, Writes, Syncs, after_change, after_changes, real, CallLog, current}
use Rattle.tree_trait.specs.CrashImages.{is_settled, is_unsynced, all_settled}
use Rattle.tree_trait.proofs.Settled.{after_changes-append}

pub real-append : (xs ys : List Change) → real (xs ++ ys) ≡ real xs ++ real ys
real-append [] ys = refl
real-append (Nothing ∷ xs) ys = real-append xs ys
real-append (c ∷ xs) ys = ap (λ cs. c ∷ cs) (real-append xs ys)

pub after_changes-real : (s : FileSystem) (cs : List Change) → after_changes s (real cs) ≡ after_changes s cs
after_changes-real s [] = refl
after_changes-real s (Nothing ∷ cs) = after_changes-real s cs
after_changes-real s (c ∷ cs) = after_changes-real (after_change s c) cs

pub is_settled-real : (i : ℕ) (cs : List Change) → is_settled i (real cs) ≡ is_settled i cs
is_settled-real i [] = refl
is_settled-real i (Nothing ∷ cs) = is_settled-real i cs
is_settled-real i (Syncs j ∷ cs) = rw (is_settled-real i cs) refl
is_settled-real i (Removes f name j ∷ cs) = rw (is_settled-real i cs, is_settled-real f cs) refl
is_settled-real i (Moves f old g new k (Some j) ∷ cs) = rw (is_settled-real i cs, is_settled-real f cs, is_settled-real g cs) refl
is_settled-real i (Moves f old g new k None ∷ cs) = is_settled-real i cs
is_settled-real i (Makes f name made ∷ cs) = is_settled-real i cs
is_settled-real i (Sets j mode ∷ cs) = is_settled-real i cs
is_settled-real i (Writes j bytes mtime ∷ cs) = is_settled-real i cs

pub is_unsynced-real : (c : Change) (cs : List Change) → is_unsynced c (real cs) ≡ is_unsynced c cs
is_unsynced-real Nothing cs = refl
is_unsynced-real (Makes f name made) cs = ap not (is_settled-real f cs)
is_unsynced-real (Moves f old g new i r) cs = rw (is_settled-real f cs, is_settled-real g cs) refl
is_unsynced-real (Removes f name i) cs = ap not (is_settled-real f cs)
is_unsynced-real (Sets i mode) cs = ap not (is_settled-real i cs)
is_unsynced-real (Writes i bytes mtime) cs = ap not (is_settled-real i cs)
is_unsynced-real (Syncs i) cs = refl

both_settled : (c : Change) (cs : List Change) → all_settled (real cs) ≡ all_settled cs → (not (is_unsynced c (real cs)) && all_settled (real cs)) ≡ (not (is_unsynced c cs) && all_settled cs)
both_settled c cs h = rw (is_unsynced-real c cs, h) refl

pub all_settled-real : (cs : List Change) → all_settled (real cs) ≡ all_settled cs
all_settled-real [] = refl
all_settled-real (Nothing ∷ cs) = all_settled-real cs
all_settled-real (c ∷ cs) = both_settled c cs (all_settled-real cs)

-- after changes that follow those of a trace
pub now_after : (before t : CallLog) (news : List Change) → t.opening ≡ before.opening → t.changes ≡ before.changes ++ news
    → current t ≡ after_changes (current before) news
now_after before t news o c = rw (o, c, after_changes-append before.opening before.changes news) refl
