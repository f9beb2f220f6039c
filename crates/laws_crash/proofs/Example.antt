-- The premises can be met: over a folder with two files one job copies the first to a new name, by a part, while another removes
-- the second; and a job sets the mode of the second.
use Rattle.std.proofs.Common.{◌≡◌, ℕ, Bool, true, false, List, [], ◌∷◌, ◌++◌, refl, sym, subst, inl, inr, ◌⊎◌, Some, None, ◌<◌, arith, Option}
use Rattle.std.specs.Prelude.{pos, ◌==◌}
use Rattle.std.proofs.lemmas.Bool.{false≢true, eqb-true, true≢false}
use Rattle.mc_text.specs.declared.kind.Kind.TheVariants.{File}
use Rattle.mc_text.specs.Routes.{Route, same_path}
use Rattle.tree_trait.specs.declared.file_system.Node.{Node}
use Rattle.tree_trait.specs.declared.file_system.FileSystem.{FileSystem}
use Rattle.tree_trait.specs.FileSystem.{Value, find, node, value, value_at}
use Rattle.tree_trait.specs.Refusals.{is_folder}
use Rattle.tree_trait.specs.Shape.{IsTree}
use Rattle.tree_trait.specs.Change.{Change, Makes, Moves, Removes, Sets, Writes, Syncs, CallLog, current, with_change, after_change}
use Rattle.tree_trait.specs.CrashImages.{is_clean}
use Rattle.tree_trait.proofs.BareRoot.{bare, bare_tree}
use Rattle.tree_trait.proofs.Kept.{tree_made}
use Rattle.laws_crash.specs.Possible.{IsImage, MayFind}
use Rattle.laws_crash.specs.Guarded.{Marks, IsGuarded, IsUnder, Touches}
use Rattle.laws_crash.specs.Modes.{marks_with_mode, marks_without_mode}
use Rattle.laws_crash.specs.NameKnowledge.{Meanwhile, as_it_stands}
use Rattle.laws_crash.proofs.Guarding.{guard_law, settle_law, naming_law, found_there}
use Rattle.laws_crash.proofs.Making.{making_law}
use Rattle.laws_crash.proofs.ModeLaws.{setting_law}
use Rattle.laws_crash.proofs.Syncing.{sync_law, write_law, firm_law}
use Rattle.laws_crash.proofs.Others.{opening_law}
use Rattle.laws_crash.proofs.Between.{meanwhile_law}
use Rattle.laws_crash.proofs.Leading.{find_law}
use Rattle.laws_crash.proofs.Tops.{none_below}

abbrev file : List ℕ → Node
file bytes = record { kind = File; bytes = bytes; mode = 0o644; mtime = pos 0; unnamed = 0 }

-- the root holds the files 1 and 2
abbrev one : FileSystem
one = after_change bare (Makes 0 (1 ∷ []) (file (7 ∷ [])))

abbrev small : FileSystem
small = after_change one (Makes 0 (2 ∷ []) (file (8 ∷ [])))

small_tree : IsTree small
small_tree = tree_made one 0 (2 ∷ []) (file (8 ∷ [])) (tree_made bare 0 (1 ∷ []) (file (7 ∷ [])) bare_tree refl) refl

-- the part 9 is made and filled with what the file 1 holds, and then synced
abbrev opening : CallLog
opening = record { opening = small; changes = [] }

abbrev made : CallLog
made = with_change opening (Makes 0 (9 ∷ []) (file []))

abbrev full : CallLog
full = with_change made (Writes 3 (7 ∷ []) (pos 0))

abbrev synced : CallLog
synced = with_change full (Syncs 3)

-- it stands aside, its node is loose until its sync, and is to be renamed
abbrev filling : Marks
filling = record { was = λ p. find small p; aside = λ p. same_path p ((9 ∷ []) ∷ []); loose = λ i. i == 3; roams = λ i. i == 3; modes = λ i. None }

abbrev filled : Marks
filled = record { was = λ p. find small p; aside = λ p. same_path p ((9 ∷ []) ∷ []); loose = λ i. false; roams = λ i. i == 3; modes = λ i. None }

-- no path leads to the part's node yet
found_opening : (p : Route) (x : Option ℕ) → MayFind opening p x → x ≡ find small p
found_opening p x found = elim ((opening_law opening small_tree refl).twofold p x refl found) [ inl now ↦ now | inr before ↦ before ]

at_start : (p : Route) (i : ℕ) → (let o : Option ℕ = Some i in o) ≡ find small p → ((i == 3) ≡ false) ⊎ (is_folder (node small i) ≡ true)
at_start p i is = below (i == 3) refl (found_there small small_tree p i (sym is))
  where
    below : (b : Bool) → (i == 3) ≡ b → i < 3 → ((i == 3) ≡ false) ⊎ (is_folder (node small i) ≡ true)
    below true e less = let three = eqb-true i 3 e in absurd (omega (arith, three, less))
    below false e less = inl e

at_opening : IsGuarded filling opening
at_opening = settle_law (as_it_stands opening) filling opening (opening_law opening small_tree refl) (record {
  paths = λ p out. inl (refl, refl);
  nodes = λ i firm. inl (refl, refl);
  firm = λ p i out found. at_start p i (found_opening p (Some i) found);
  places = λ i stays. inl refl;
})

as_made : IsGuarded filling made
as_made = naming_law filling opening (Makes 0 (9 ∷ []) (file [])) at_opening (making_law filling opening [] (9 ∷ []) 0 (file []) at_opening (record {
  stands = record { at = refl; anchored = tt };
  folder = refl;
  free = refl;
  was = λ out. refl;
  solid = λ out. absurd (true≢false out);
}))

only_three : (b : Bool) → (i : ℕ) → (i == 3) ≡ b → is_clean i synced.changes ≡ true
only_three true i is = subst (λ k. is_clean k synced.changes ≡ true) (sym (eqb-true i 3 is)) (firm_law full 3)
only_three false i is = at_filling.clean i is
  where
    at_filling : IsGuarded filling synced
    at_filling = sync_law filling full 3 (write_law filling made 3 (7 ∷ []) (pos 0) refl as_made)

as_synced : IsGuarded filled synced
as_synced = settle_law filling filled synced (sync_law filling full 3 (write_law filling made 3 (7 ∷ []) (pos 0) refl as_made)) (record {
  paths = λ p out. inl (out, refl);
  nodes = λ i firm. inr (only_three (i == 3) i refl, refl);
  firm = λ p i out found. inl refl;
  places = λ i stays. inl stays;
})

-- the file 2 has nothing below it
below_two : (rest : Route) (name : List ℕ) → find (current synced) (name ∷ rest ++ (2 ∷ []) ∷ []) ≡ None
below_two [] name = refl
below_two (more ∷ rest) name = rw (below_two rest more) refl

abbrev placing : Change
placing = Moves 0 (9 ∷ []) 0 (3 ∷ []) 3 None

-- no path to it or below it is one of the other job's
apart : (rest : Route) → IsUnder synced placing (rest ++ (2 ∷ []) ∷ []) → ⊥
apart [] (inl under) = under
apart [] (inr touches) = false≢true touches
apart (name ∷ rest) (inl under) = apart rest under
apart (name ∷ []) (inr touches) = false≢true touches
apart (name ∷ more ∷ rest) (inr touches) = subst (λ o. Touches synced placing o name) (below_two rest more) touches

ready : Meanwhile filled synced [] (9 ∷ []) (3 ∷ []) 0 3 None [] (2 ∷ []) 0 2
ready = record {
  guarded = as_synced;
  place = record {
    stands = record { at = refl; anchored = tt };
    folder = refl;
    leads = refl;
    other = refl;
    is_aside = refl;
    moves = refl;
    firm = refl;
    file = λ m y lead. elim lead [ inl none ↦ none | inr never ↦ absurd never ];
    found = λ out. refl;
    under = λ rest out. inr (none_below synced rest ((3 ∷ []) ∷ []) refl);
  };
  remove = record {
    stands = record { at = refl; anchored = tt };
    unworked = λ rest out. unworked rest;
  };
  way = λ x found. found;
  near = refl;
  not_there = λ under. under;
  not_it = apart;
  not_here = λ under. under;
}
  where
    unworked : (rest : Route) → (find (current synced) (rest ++ (2 ∷ []) ∷ []) ≡ find small (rest ++ (2 ∷ []) ∷ [])) ⊎ (find (current synced) (rest ++ (2 ∷ []) ∷ []) ≡ None)
    unworked [] = inl refl
    unworked (name ∷ rest) = inr (below_two rest name)

abbrev at_end : CallLog
at_end = with_change (with_change (with_change synced placing) (Removes 0 (2 ∷ []) 2)) (Syncs 0)

-- Before the folder's sync the new name leads, in each image, to nothing or to a file with the byte 7.
halfway : (image : FileSystem) → IsImage (with_change (with_change synced placing) (Removes 0 (2 ∷ []) 2)) image
    → (value_at image ((3 ∷ []) ∷ []) ≡ None) ⊎ (value_at image ((3 ∷ []) ∷ []) ≡ Some (value (file (7 ∷ []))))
halfway image left =
    let all = meanwhile_law filled synced [] (9 ∷ []) (3 ∷ []) 0 3 None [] (2 ∷ []) 0 2 ready in
    elim (guard_law filled (with_change (with_change synced placing) (Removes 0 (2 ∷ []) 2)) image ((3 ∷ []) ∷ []) all.1 left refl) [
      | inl now ↦ inr (now.1 refl)
      | inr before ↦ inl before
    ]

-- after it, to that file
whole : (image : FileSystem) → IsImage at_end image → find image ((3 ∷ []) ∷ []) ≡ Some 3
whole image left =
    let all = meanwhile_law filled synced [] (9 ∷ []) (3 ∷ []) 0 3 None [] (2 ∷ []) 0 2 ready in
    all.3 (find image ((3 ∷ []) ∷ [])) (find_law at_end image ((3 ∷ []) ∷ []) left)

-- the second file, with this mode
abbrev second : ℕ → Option Value
second mode = Some (value (record (file (8 ∷ [])) { mode = mode }))

abbrev mode_set : CallLog
mode_set = with_change opening (Sets 2 0o600)

at_setting : IsGuarded (marks_with_mode 2 0o644 (as_it_stands opening)) mode_set
at_setting = setting_law.sets (as_it_stands opening) opening 2 0o600 (opening_law opening small_tree refl) (omega arith) refl refl

-- Until its sync a crash leaves the file with the one mode or the other.
either_mode : (image : FileSystem) → IsImage mode_set image → (value_at image ((2 ∷ []) ∷ []) ≡ second 0o600) ⊎ (value_at image ((2 ∷ []) ∷ []) ≡ second 0o644)
either_mode image left =
    elim (guard_law (marks_with_mode 2 0o644 (as_it_stands opening)) mode_set image ((2 ∷ []) ∷ []) at_setting left refl) [ inl now ↦ now.1 refl | inr before ↦ before.1 refl ]

-- after it, with the new one
new_mode : (image : FileSystem) → IsImage (with_change mode_set (Syncs 2)) image → value_at image ((2 ∷ []) ∷ []) ≡ second 0o600
new_mode image left =
    elim (guard_law (marks_without_mode 2 (marks_with_mode 2 0o644 (as_it_stands opening))) (with_change mode_set (Syncs 2)) image ((2 ∷ []) ∷ []) (setting_law.synced (marks_with_mode 2 0o644 (as_it_stands opening)) mode_set 2 at_setting) left refl) [
      | inl now ↦ now.1 refl
      | inr before ↦ before.1 refl
    ]
