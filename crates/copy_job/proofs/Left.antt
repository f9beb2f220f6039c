-- Folders that owe nothing are left, as long as there are any.
use Rattle.std.proofs.Common.{◌≡◌, ℕ, zero, suc, ◌<◌, ◌||◌, not, refl, sym, ◌∙◌, ap, subst, Bool, true, false, List, [], ◌∷◌, length, arith}
use Rattle.std.specs.Prelude.{if◌then◌else◌}
use Rattle.std.proofs.lemmas.Bool.{false≢true, true≢false}
use Rattle.copy_folders.specs.FolderCopying.{is_dirty}
use Rattle.tree_walk.specs.Places.{is_empty}
use Rattle.copy_tree.specs.declared.due.Due.TheVariants.{End}
use Rattle.copy_tree.specs.declared.item.ItemAtWork.{ItemAtWork}
use Rattle.copy_tree.specs.declared.item.ItemAtWork.TheVariants.{Next, File, Link, Stays}
use Rattle.copy_folders.specs.declared.level.Level.{Level}
use Rattle.copy_folders.specs.Levels.{Levels, is_around_dirty}
use Rattle.copy_tree.specs.Standing.{Seen, due_at}
use Rattle.copy_tree.specs.TreeCopySteps.{Leaves, LeavesAll}
use Rattle.copy_job.specs.Leaving.{LeavesSettled, may_leave, may_leave_in, owes_at_end}

-- nothing is at work where a folder may be left
pub nothing_at_work : (item : ItemAtWork) (l : Levels) → may_leave_in item l ≡ true → item ≡ Next
nothing_at_work Next l may = refl
nothing_at_work (File f) l may = absurd (false≢true may)
nothing_at_work (Link k) l may = absurd (false≢true may)
nothing_at_work (Stays part) l may = absurd (false≢true may)

-- no name is next at the end of a folder
pub none_next : (names : List (List ℕ)) (c : Seen) → due_at names c ≡ End → is_empty names ≡ true
none_next [] c is = refl
none_next (name ∷ names) c is = absurd (let f : ⊥ = cc in f)

some_around : (was around : List Level) (outer : Level) → was ≡ outer ∷ around → is_empty was ≡ false
some_around was around outer is = ap (λ (xs : List Level). is_empty xs) is

may_so : (none dirty last owes : Bool) → none ≡ true → dirty ≡ false → last ≡ false → owes ≡ false → (if dirty || last then false else (if none then not owes else false)) ≡ true
may_so true false false false a b c d = refl
may_so true false false true a b c d = absurd (true≢false d)
may_so true false true owes a b c d = absurd (true≢false c)
may_so true true last owes a b c d = absurd (true≢false b)
may_so false dirty last owes a b c d = absurd (false≢true a)

-- what is left may be left
left_may : (c new : Seen) → c.item ≡ Next → Leaves c new → may_leave c ≡ true
left_may c new free l =
    let r = l.returns in
    let left = r.left in
    ap (λ (i : ItemAtWork). may_leave_in i c.levels) free
    ∙ may_so (is_empty c.levels.inner.names.names) (is_around_dirty c.levels.around) (is_empty c.levels.around) (owes_at_end c.levels.inner.copy.stage (is_dirty c.levels.inner.copy.names))
    (none_next c.levels.inner.names.names c l.next) l.synced (some_around c.levels.around new.levels.around new.levels.inner left.was) l.done

-- where no folder may be left, none is
pub settled_stays : (n : ℕ) (old mid : Seen) → may_leave old ≡ false → LeavesAll n old mid → mid ≡ old
settled_stays zero old mid settled is = is
settled_stays (suc n) old mid settled l =
    let same = settled_stays n old l.0 settled l.1 in
    absurd (false≢true (sym settled ∙ left_may old mid (ap (λ (s : Seen). s.item) (sym same) ∙ l.2) (subst (λ (s : Seen). Leaves s mid) same l.3)))

-- one more is left
pub left_more : (old mid new : Seen) → LeavesSettled old mid → may_leave mid ≡ true → Leaves mid new → LeavesSettled old new
left_more old mid new l may more = (suc l.0, (mid, l.1, nothing_at_work mid.item mid.levels may, more))

-- and fewer are open then
pub fewer_open : (mid new : Seen) → Leaves mid new → length new.levels.around < length mid.levels.around
fewer_open mid new l =
    let r = l.returns in
    let left = r.left in
    let same = ap (λ (xs : List Level). length xs) left.was in
    omega (arith, same)

-- folders are left one after the other
pub left_all : (m n : ℕ) (old mid new : Seen) → LeavesAll n old mid → LeavesAll m mid new → LeavesSettled old new
left_all zero n old mid new first is = (n, subst (λ (s : Seen). LeavesAll n old s) (sym is) first)
left_all (suc m) n old mid new first l = let before = left_all m n old mid l.0 first l.1 in (suc before.0, (l.0, before.1, l.2, l.3))
