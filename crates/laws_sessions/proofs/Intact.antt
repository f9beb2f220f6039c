-- What a deletion knows of the thing that it deletes, and of what lies in it: nothing was done there yet but its own removals.
use Rattle.std.proofs.Common.{◌≡◌, ℕ, ◌≤◌, true, false, List, [], ◌∷◌, ◌++◌, length, length-append, arith, sym, ◌∙◌, ap, subst, inl, inr, Option, Some, None, refl}
use Rattle.std.proofs.lemmas.Bool.{or_left, or_right}
use Rattle.mc_text.specs.Routes.{Route, is_prefix, same_path}
use Rattle.mc_text.proofs.Prefixes.{same_path-lengths}
use Rattle.tree_trait.specs.declared.file_system.FileSystem.{FileSystem}
use Rattle.tree_trait.specs.FileSystem.{find, lookup}
use Rattle.tree_trait.specs.Shape.{IsTree}
use Rattle.tree_trait.specs.Change.{CallLog, current, Removes}
use Rattle.tree_trait.proofs.Finding.{and_then-some}
use Rattle.tree_trait.proofs.Visible.{same_path-self}
use Rattle.laws_crash.specs.Guarded.{Marks}
use Rattle.laws_crash.proofs.Unworked.{unworked_law}
use Rattle.job_reports.specs.Paths.{folder_of}
use Rattle.copy_move.specs.declared.work.Work.TheVariants.{Delete}
use Rattle.delete_job.specs.Deletions.{Deleting}
use Rattle.copy_move.specs.Settling.{NoneOwed, is_own}
use Rattle.laws_sessions.specs.Doubt.{way_waits}
use Rattle.laws_sessions.proofs.Changing.{folder_anchored}
use Rattle.laws_sessions.proofs.Deleted.{IsRemoval, removal_leads}
use Rattle.laws_sessions.proofs.HollowThings.{folder_stood, found_or_gone, sure_elsewhere}
use Rattle.laws_sessions.proofs.JobKnows.{AreSureWithin, AreUnjoinedWithin, HasName, IsIntact, intact_settled}
use Rattle.laws_sessions.proofs.Knowing.{IsCalmPath, IsKept, HistoryFacts, settled_marks}
use Rattle.laws_sessions.proofs.Resting.{IsSureFolder, folder_at, folder_at_of, name_sure, unjoined_at}
use Rattle.laws_sessions.proofs.Restless.{IsUnjoined}
use Rattle.laws_sessions.proofs.ThingRests.{NoneWithin, around_sure, modes_within, none_in_deleted, sure_within, unjoined}
use Rattle.laws_sessions.proofs.WaitsAlone.{alone_calm}
pub use Rattle.laws_sessions.proofs.ThingRests.{prefix_append, prefix_way}

-- the folder of what a deletion removes is its own
pub own_folder : (d : Deleting) (path q : Route) → is_prefix d.path path ≡ true → q ≡ folder_of path → is_own (Delete d) q ≡ true
own_folder d path q within same = let w = prefix_way d.path path within in by w.0 (same ∙ ap folder_of w.1)
  where
    by : (rest : Route) → q ≡ folder_of (rest ++ d.path) → is_own (Delete d) q ≡ true
    by [] e = or_left (same_path q (folder_of d.path)) (is_prefix d.path q) (subst (λ p. same_path p (folder_of d.path) ≡ true) (sym e) (same_path-self (folder_of d.path)))
    by (name ∷ rest) e = or_right (same_path q (folder_of d.path)) (is_prefix d.path q) (subst (λ p. is_prefix d.path p ≡ true) (sym e) (prefix_append d.path rest))

module _ (told : HistoryFacts) (dirty : List Route) (marks : Marks) (log : CallLog) (kept : IsKept told dirty marks log) (d : Deleting) (has : HasName d.path) (none : NoneOwed (current log) (Delete d) dirty) where
  none_in : NoneWithin (current log) d.path dirty
  none_in = none_in_deleted (current log) d dirty none

  -- no renaming waits for one of its folders and another one
  pub apart_begins : AreUnjoinedWithin log d.path
  apart_begins rest = unjoined told dirty marks log kept d.path has none_in rest

  -- nor is the folder that holds the thing in doubt
  pub folder_firm : folder_at (current log) (folder_of d.path) ≡ true → IsSureFolder log (folder_of d.path)
  folder_firm stands = record { stands = stands; sure = around_sure told dirty marks log kept d.path has none_in }

  -- nor any folder that stands at or below it
  pub within_begins : AreSureWithin log d.path
  within_begins rest stands = record { stands = stands; sure = sure_within told dirty marks log kept d.path has none_in rest }

  -- and all is calm
  pub calm_begins : (p : Route) → is_prefix d.path p ≡ true → IsCalmPath marks log p
  calm_begins p own =
      let way = prefix_way d.path p own in
      record {
        mode = λ i at. inl (modes_within told dirty marks log kept d.path has none_in way.0 i (ap (find (current log)) (sym way.1) ∙ at));
        alone = alone_calm log p (name_sure log p (ap (way_waits log) way.1 ∙ sure_within told dirty marks log kept d.path has none_in way.0));
      }

  -- before the first change nothing waits there, so all is as it was found
  pub intact_begins : IsIntact marks (current log) d.path
  intact_begins rest out = inl (sym (kept.was (rest ++ d.path) out (sure_within told dirty marks log kept d.path has none_in rest)))

-- where something stands at or below a path the folder that holds the path stands
held_above : (s : FileSystem) (rest top : Route) (i : ℕ) → IsTree s → find s (rest ++ top) ≡ Some i → folder_at s (folder_of top) ≡ true
held_above s [] [] i tree at = tree.root
held_above s [] (name ∷ up) i tree at =
    let h = and_then-some (find s up) (λ g. lookup s.names g name) i at in folder_at_of s up h.0 h.1 (tree.in_folders h.0 name i h.2)
held_above s (name ∷ rest) top i tree at = let h = and_then-some (find s (rest ++ top)) (λ g. lookup s.names g name) i at in held_above s rest top h.0 tree h.1

-- where something was removed there the folder that holds the path stands
pub removed_in : (log now : CallLog) (top path : Route) → IsTree (current log) → is_prefix top path ≡ true → IsRemoval log now path → folder_at (current log) (folder_of top) ≡ true
removed_in log now top path tree within it =
    let w = prefix_way top path within in
    held_above (current log) w.0 top it.r.i tree (ap (find (current log)) (sym w.1) ∙ removal_leads log now path it)

not_above : (top path rest : Route) → path ≡ rest ++ top → 1 ≤ length path → same_path (folder_of top) path ≡ false
not_above [] path rest e some = same_path-lengths [] path (λ same. absurd (omega (arith, same, some)))
not_above (name ∷ up) path rest e some = same_path-lengths up path (λ same. let l = ap (λ (q : Route). length q) e in let n = length-append rest (name ∷ up) in absurd (omega (arith, same, l, n)))

removal_some : (log now : CallLog) (path : Route) → IsRemoval log now path → 1 ≤ length path
removal_some log now path it = subst (λ (q : Route). 1 ≤ length q) (sym it.r.path_is) (omega arith)

-- and what is removed isn't that folder
pub folder_apart : (log now : CallLog) (top path : Route) → is_prefix top path ≡ true → IsRemoval log now path → same_path (folder_of top) path ≡ false
folder_apart log now top path within it = let w = prefix_way top path within in not_above top path w.0 w.1 (removal_some log now path it)

-- what is removed next is as it was found
pub intact_was : (marks : Marks) (s : FileSystem) (top path : Route) (i : ℕ) → IsIntact marks s top → is_prefix top path ≡ true → find s path ≡ Some i → marks.aside path ≡ false → marks.was path ≡ find s path
intact_was marks s top path i intact within at out =
    let w = prefix_way top path within in
    elim (intact w.0 (subst (λ (q : Route). marks.aside q ≡ false) w.1 out)) [
      | inl same ↦ sym (subst (λ (q : Route). find s q ≡ marks.was q) (sym w.1) same)
      | inr gone ↦ absurd (let e : (let o : Option ℕ = Some i in o) ≡ None = sym at ∙ (ap (find s) w.1 ∙ gone) in let f : ⊥ = cc in f)
    ]

-- the folder in which something is removed at or below a path stands there, or it holds that path; so it isn't in doubt
pub removed_sure : (log now : CallLog) (top path : Route) → IsTree (current log) → is_prefix top path ≡ true → AreSureWithin log top → IsSureFolder log (folder_of top) → IsRemoval log now path → IsSureFolder log (folder_of path)
removed_sure log now top path tree within sure firm it = let w = prefix_way top path within in by w.0 w.1
  where
    stands : folder_at (current log) (folder_of path) ≡ true
    stands = folder_at_of (current log) (folder_of path) it.r.f (ap (λ q. find (current log) (folder_of q)) it.r.path_is ∙ it.r.folder) (tree.in_folders it.r.f it.r.name it.r.i it.r.leads)

    by : (rest : Route) → path ≡ rest ++ top → IsSureFolder log (folder_of path)
    by [] e = subst (λ q. IsSureFolder log (folder_of q)) (sym e) firm
    by (name ∷ rest) e =
        let above : folder_of path ≡ rest ++ top = ap folder_of e in
        subst (IsSureFolder log) (sym above) (sure rest (ap (folder_at (current log)) (sym above) ∙ stands))

-- and after a removal it is so too
pub within_after : (log now : CallLog) (path top : Route) → IsTree (current log) → IsRemoval log now path → AreSureWithin log top → AreSureWithin now top
within_after log now path top tree it sure = subst (λ (l : CallLog). AreSureWithin l top) (sym it.now_is) (λ rest stands.
    let before = folder_stood log tree path it.r it.k (rest ++ top) stands in sure_elsewhere log tree path it.r it.k (rest ++ top) before.0 (sure rest before.1))

-- nor is a folder joined that wasn't
pub apart_after : (log now : CallLog) (path top : Route) → IsTree (current log) → IsRemoval log now path → AreUnjoinedWithin log top → AreUnjoinedWithin now top
apart_after log now path top tree it apart rest = subst (λ (l : CallLog). IsUnjoined l (rest ++ top)) (sym it.now_is)
    (unjoined_at log (Removes it.r.f it.r.name it.k) (rest ++ top) refl (λ f at. elim (found_or_gone log tree path it.r it.k (rest ++ top)) [
      | inl same ↦ sym same ∙ at
      | inr gone ↦ absurd (let e : (let o : Option ℕ = None in o) ≡ Some f = sym gone ∙ at in let x : ⊥ = cc in x)
    ]) (apart rest))

pub intact_after : (told : HistoryFacts) (dirty : List Route) (marks : Marks) (log now : CallLog) (path top : Route) → IsKept told dirty marks log → (it : IsRemoval log now path) → way_waits log (folder_of path) ≡ false → IsIntact marks (current log) top
    → IsIntact (settled_marks now marks) (current now) top
intact_after told dirty marks log now path top kept it sure intact =
    intact_settled now marks top (subst (λ (l : CallLog). IsIntact marks (current l) top) (sym it.now_is)
    (unworked_law.removed marks log top it.r.up it.r.name it.r.f it.k kept.known.guarded (record {
      at = it.r.folder;
      anchored = folder_anchored told dirty marks log kept.known kept.roams it.r.up it.r.f it.r.folder (kept.known.guarded.tree.in_folders it.r.f it.r.name it.r.i it.r.leads) (ap (λ q. way_waits log (folder_of q)) (sym it.r.path_is) ∙ sure);
    }) intact))
