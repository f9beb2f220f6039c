-- Folders that join a list, or leave it, and those of open folders that are in it.
use Rattle.std.proofs.Common.{◌≡◌, ◌<◌, Bool, true, false, not, List, [], ◌∷◌, ◌++◌, length, refl, sym, ◌∙◌, ap, subst, inl, inr, arith}
use Rattle.std.specs.Prelude.{◌||◌, if◌then◌else◌}
use Rattle.std.proofs.lemmas.Bool.{true≢false}
use Rattle.mc_text.specs.Routes.{Route, same_path}
use Rattle.tree_trait.specs.CrashImages.{Among}
use Rattle.tree_trait.proofs.Visible.{same_path-true}
use Rattle.job_reports.specs.Paths.{without}
use Rattle.copy_folders.specs.FolderCopying.{is_dirty}
use Rattle.job_unsynced.specs.Folders.{is_one_of, joined_folders, with_change}
use Rattle.copy_folders.specs.declared.level.Level.{Level}
use Rattle.laws_sessions.proofs.FoldersLie.{AreNested}
use Rattle.laws_sessions.proofs.DirtyListed.{AreListed, IsListed}

last_among : (dirty : List Route) (q : Route) → Among (dirty ++ q ∷ []) q
last_among [] q = inl refl
last_among (first ∷ dirty) q = inr (last_among dirty q)

more_among : (dirty : List Route) (p q : Route) → Among dirty q → Among (dirty ++ p ∷ []) q
more_among [] p q among = absurd among
more_among (first ∷ dirty) p q (inl same) = inl same
more_among (first ∷ dirty) p q (inr later) = inr (more_among dirty p q later)

one_among : (folder : Route) (dirty : List Route) → is_one_of folder dirty ≡ true → Among dirty folder
one_among folder [] is = absurd (true≢false (sym is))
one_among folder (first ∷ dirty) is = by (same_path first folder) refl is (λ h. one_among folder dirty h)
  where
    by : (b : Bool) → same_path first folder ≡ b → (b || is_one_of folder dirty) ≡ true → (is_one_of folder dirty ≡ true → Among dirty folder) → Among (first ∷ dirty) folder
    by true same is later = inl (sym (same_path-true first folder same))
    by false other is later = inr (later is)

joined_has : (folder : Route) (dirty : List Route) → Among (joined_folders folder dirty) folder
joined_has folder dirty = by (is_one_of folder dirty) refl
  where
    by : (b : Bool) → is_one_of folder dirty ≡ b → Among (if b then dirty else dirty ++ folder ∷ []) folder
    by true is = one_among folder dirty is
    by false is = last_among dirty folder

joined_keeps : (folder : Route) (dirty : List Route) (q : Route) → Among dirty q → Among (joined_folders folder dirty) q
joined_keeps folder dirty q among = by (is_one_of folder dirty)
  where
    by : (b : Bool) → Among (if b then dirty else dirty ++ folder ∷ []) q
    by true = among
    by false = more_among dirty folder q among

without_keeps : (folder : Route) (dirty : List Route) (q : Route) → (q ≡ folder → ⊥) → Among dirty q → Among (without folder dirty) q
without_keeps folder [] q other among = absurd among
without_keeps folder (first ∷ dirty) q other among = by (same_path first folder) refl among (λ h. without_keeps folder dirty q other h)
  where
    by : (b : Bool) → same_path first folder ≡ b → Among (first ∷ dirty) q → (Among dirty q → Among (without folder dirty) q) → Among (if not b then first ∷ without folder dirty else without folder dirty) q
    by true same (inl is) keeps = absurd (other (is ∙ same_path-true first folder same))
    by true same (inr later) keeps = keeps later
    by false apart (inl is) keeps = inl is
    by false apart (inr later) keeps = inr (keeps later)

-- another folder stays in the list
change_keeps : (was now : Bool) (folder : Route) (dirty : List Route) (q : Route) → (q ≡ folder → ⊥) → Among dirty q → Among (with_change was now folder dirty) q
change_keeps false true folder dirty q other among = joined_keeps folder dirty q among
change_keeps true false folder dirty q other among = without_keeps folder dirty q other among
change_keeps false false folder dirty q other among = among
change_keeps true true folder dirty q other among = among

-- and one that is dirty after the step is in it
change_lists : (was now : Bool) (folder : Route) (dirty : List Route) → now ≡ true → (was ≡ true → Among dirty folder) → Among (with_change was now folder dirty) folder
change_lists false true folder dirty is there = joined_has folder dirty
change_lists true true folder dirty is there = there refl
change_lists false false folder dirty is there = absurd (true≢false (sym is))
change_lists true false folder dirty is there = absurd (true≢false (sym is))

module _ (was now : Bool) (folder : Route) (dirty : List Route) where
  abbrev after : List Route
  after = with_change was now folder dirty

  -- a folder that lies higher is another
  other_kept : (l : Level) → length l.copy.target < length folder → IsListed dirty l → IsListed after l
  other_kept l less listed marked = change_keeps was now folder dirty l.copy.target (λ same. let e = ap (λ (r : Route). length r) same in absurd (omega (arith, e, less))) (listed marked)

  around_kept : (outer : Level) (around : List Level) → length outer.copy.target < length folder → AreNested outer.copy.target around → AreListed dirty outer around → AreListed after outer around
  around_kept outer [] less nested listed = other_kept outer less listed
  around_kept outer (next ∷ around) less nested listed =
      let higher : length next.copy.target < length folder = (let e = ap (λ (r : Route). length r) nested.0.1 in omega (arith, e, less)) in
      (other_kept outer less listed.0, around_kept next around higher nested.1 listed.1)

  -- the folder that was worked, and those around it
  pub worked_listed : (l : Level) (around : List Level) → l.copy.target ≡ folder → (is_dirty l.copy.names ≡ true → now ≡ true) → (was ≡ true → Among dirty folder) → AreNested folder around
      → ((outer : Level) (rest : List Level) → around ≡ outer ∷ rest → AreListed dirty outer rest) → AreListed after l around
  worked_listed l [] same marks there nested listed = λ marked. subst (λ q. Among after q) (sym same) (change_lists was now folder dirty (marks marked) there)
  worked_listed l (outer ∷ around) same marks there nested listed = (
    λ marked. subst (λ q. Among after q) (sym same) (change_lists was now folder dirty (marks marked) there),
    around_kept outer around (let e = ap (λ (r : Route). length r) nested.0.1 in omega (arith, e)) nested.1 (listed outer around refl),
  )

  -- a folder below the one that was worked
  pub below_listed : (l : Level) → length folder < length l.copy.target → IsListed dirty l → IsListed after l
  below_listed l less listed marked = change_keeps was now folder dirty l.copy.target (λ same. let e = ap (λ (r : Route). length r) same in absurd (omega (arith, e, less))) (listed marked)
