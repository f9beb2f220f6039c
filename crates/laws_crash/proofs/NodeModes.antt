-- A node in the images of a crash: what keeps it as it is, and a mode that is set.
use Rattle.std.proofs.Common.{◌≡◌, ◌⊎◌, ℕ, zero, suc, ◌<◌, ◌≤◌, true, false, List, [], ◌∷◌, ◌++◌, length, refl, sym, ◌∙◌, ap, subst, inl, inr, Option, Some, None, arith}
use Rattle.std.specs.Prelude.{unwrap_or, slice_get, slice_set, ◌==◌}
use Rattle.std.proofs.lemmas.Bool.{both_ways, eq-eqb}
use Rattle.tree_trait.specs.declared.file_system.Node.{Node}
use Rattle.tree_trait.specs.declared.file_system.FileSystem.{FileSystem}
use Rattle.tree_trait.specs.FileSystem.{no_node, node}
use Rattle.tree_trait.specs.Change.{Change, Nothing, Makes, Moves, Removes, Sets, Writes, Syncs, CallLog, after_change, after_changes, current, with_change}
use Rattle.tree_trait.specs.CrashImages.{Lost, MayLeave, alters, is_clean}
use Rattle.tree_trait.proofs.Kept.{at_more}
use Rattle.tree_trait.proofs.Names.{count-after_change, count-lost, count_after, grows_law}
use Rattle.tree_trait.proofs.Steady.{node_law, set_other}
use Rattle.laws_crash.specs.Guarded.{IsOnDisk, MayHaveMode, with_mode}
use Rattle.laws_crash.specs.Possible.{IsImage}
use Rattle.laws_crash.proofs.Leading.{clean_more, current_more}

-- each image has as many nodes
count_law : (s mid image : FileSystem) (cs : List Change) → length mid.nodes ≡ length s.nodes → MayLeave mid cs image → length image.nodes ≡ length (after_changes s cs).nodes
count_law s mid image [] l left = ap (λ (x : FileSystem). length x.nodes) left ∙ l
count_law s mid image (c ∷ cs) l (inl left) =
    count_law (after_change s c) (after_change mid c) image cs (count-after_change mid c ∙ (ap (count_after c) l ∙ sym (count-after_change s c))) left
count_law s mid image (c ∷ cs) l (inr lost) =
    count_law (after_change s c) lost.1.0 image cs (count-lost mid lost.1.0 c lost.1.1 ∙ (ap (count_after c) l ∙ sym (count-after_change s c))) lost.1.2

set_here : (xs : List Node) (i : ℕ) (a : Node) → i < length xs → unwrap_or (slice_get (slice_set xs i a) i) no_node ≡ a
set_here [] i a there = absurd (omega (arith, there))
set_here (x ∷ xs) zero a there = refl
set_here (x ∷ xs) (suc i) a there = set_here xs i a (omega (arith, there))

module _ (i : ℕ) where
  apart : (k : ℕ) → (k == i) ≡ false → i ≡ k → ⊥
  apart k off e = both_ways (k == i) off (eq-eqb k i (sym e))

  -- a change that doesn't alter the node leaves it, whether it is there or lost
  there_same : (s : FileSystem) (c : Change) → i < length s.nodes → alters i c ≡ false → node (after_change s c) i ≡ node s i
  there_same s Nothing there h = refl
  there_same s (Makes f name made) there h = at_more s.nodes made i there
  there_same s (Moves f old g new k r) there h = refl
  there_same s (Removes f name k) there h = refl
  there_same s (Sets k mode) there h = set_other s.nodes i k _ (apart k h)
  there_same s (Writes k bytes time) there h = set_other s.nodes i k _ (apart k h)
  there_same s (Syncs k) there h = refl

  lost_same : (s image : FileSystem) (c : Change) → i < length s.nodes → alters i c ≡ false → Lost s c image → node image i ≡ node s i
  lost_same s image Nothing there h lost = ap (λ (x : FileSystem). node x i) lost
  lost_same s image (Makes f name made) there h lost = ap (λ (x : FileSystem). node x i) lost ∙ at_more s.nodes made i there
  lost_same s image (Moves f old g new k r) there h lost = ap (λ (x : FileSystem). node x i) lost
  lost_same s image (Removes f name k) there h lost = ap (λ (x : FileSystem). node x i) lost
  lost_same s image (Sets k mode) there h lost = ap (λ (x : FileSystem). node x i) lost
  lost_same s image (Writes k bytes time) there h lost = ap (λ (x : FileSystem). node x i) lost.1 ∙ set_other s.nodes i k _ (apart k h)
  lost_same s image (Syncs k) there h lost = ap (λ (x : FileSystem). node x i) lost

mode_set : (s : FileSystem) (i mode : ℕ) → i < length s.nodes → node (after_change s (Sets i mode)) i ≡ with_mode mode (node s i)
mode_set s i mode there = set_here s.nodes i (with_mode mode (node s i)) there

was_there : (log : CallLog) (image : FileSystem) (i : ℕ) → IsImage log image → i < length (current log).nodes → i < length image.nodes
was_there log image i left there = subst (λ n. i < n) (sym (count_law log.opening log.opening image log.changes refl left)) there

pub set : (log : CallLog) (i mode : ℕ) → i < length (current log).nodes → is_clean i log.changes ≡ true → MayHaveMode (with_change log (Sets i mode)) i (node (current log) i).mode
set log i mode there clean image left =
    let grown = grows_law log.opening image log.changes (Sets i mode) left in
    let mid : FileSystem = grown.0 in
    let before : node mid i ≡ node (current log) i = node_law i log.opening log.opening mid log.changes refl refl clean grown.1 in
    let now : node (current (with_change log (Sets i mode))) i ≡ with_mode mode (node (current log) i) = ap (λ (s : FileSystem). node s i) (current_more log (Sets i mode)) ∙ mode_set (current log) i mode there in
    elim grown.2 [
      | inl is ↦ inl (ap (λ (s : FileSystem). node s i) is ∙ (mode_set mid i mode (was_there log mid i grown.1 there) ∙ (ap (with_mode mode) before ∙ sym now)))
      | inr lost ↦ inr (ap (λ (s : FileSystem). node s i) lost.1 ∙ (before ∙ sym (ap (with_mode (node (current log) i).mode) now)))
    ]

pub others : (log : CallLog) (c : Change) (i before : ℕ) → i < length (current log).nodes → alters i c ≡ false → MayHaveMode log i before → MayHaveMode (with_change log c) i before
others log c i before there same may image left =
    let grown = grows_law log.opening image log.changes c left in
    let mid : FileSystem = grown.0 in
    let here = was_there log mid i grown.1 there in
    let now : node (current (with_change log c)) i ≡ node (current log) i = ap (λ (s : FileSystem). node s i) (current_more log c) ∙ there_same i (current log) c there same in
    let is_mid : node image i ≡ node mid i = elim grown.2 [ inl is ↦ ap (λ (s : FileSystem). node s i) is ∙ there_same i mid c here same | inr lost ↦ lost_same i mid image c here same lost.1 ] in
    elim (may mid grown.1) [
      | inl stands ↦ inl (is_mid ∙ (stands ∙ sym now))
      | inr old ↦ inr (is_mid ∙ (old ∙ sym (ap (with_mode before) now)))
    ]

more_nodes : (c : Change) (n : ℕ) → n ≤ count_after c n
more_nodes Nothing n = omega arith
more_nodes (Makes f name made) n = omega arith
more_nodes (Moves f old g new k r) n = omega arith
more_nodes (Removes f name k) n = omega arith
more_nodes (Sets k mode) n = omega arith
more_nodes (Writes k bytes time) n = omega arith
more_nodes (Syncs k) n = omega arith

-- what is on the disk stays so, but for the mode that waits
pub on_disk_more : (log : CallLog) (c : Change) (i : ℕ) (before : Option ℕ) → alters i c ≡ false → IsOnDisk log i before → IsOnDisk (with_change log c) i before
on_disk_more log c i None same clean = clean_more i log.changes c same clean
on_disk_more log c i (Some before) same (there, may) =
    let most = more_nodes c (length (current log).nodes) in
    let count : length (current (with_change log c)).nodes ≡ count_after c (length (current log).nodes) = ap (λ (s : FileSystem). length s.nodes) (current_more log c) ∙ count-after_change (current log) c in
    (omega (arith, there, most, count), others log c i before there same may)
