-- The definitions at small values, as a reader works them out by hand.
use Rattle.std.proofs.Common.{◌≡◌, [], ◌∷◌, Some, None, refl}
use Rattle.std.specs.Prelude.{codes}
use Rattle.gap_text.specs.declared.change.Change.{Change}
use Rattle.gap_text.specs.UndoHistory.{no_changes, noted_history, undone_history}
use Rattle.gap_text.specs.PointedText.{moved_to, inserted_text, deleted_text}
use Rattle.gap_text.specs.Places.{place_in, first_place}
use Rattle.gap_text.proofs.GapLemmas.{text_with}

inserted-in_abc : inserted_text (text_with (codes "abc") 2) (codes "xy") ≡ text_with (codes "abxyc") 4
inserted-in_abc = refl

deleted-in_abc : deleted_text (text_with (codes "abc") 1) 1 ≡ text_with (codes "ac") 1
deleted-in_abc = refl

moved_to-in_abc : moved_to (text_with (codes "abc") 1) 3 ≡ text_with (codes "abc") 3
moved_to-in_abc = refl

first_place-at_from : first_place (codes "abab") (codes "ab") 0 ≡ Some 0
unfolding place_in
first_place-at_from = refl

first_place-after_from : first_place (codes "abab") (codes "ab") 1 ≡ Some 2
unfolding place_in
first_place-after_from = refl

first_place-cut_off : first_place (codes "abab") (codes "ab") 3 ≡ None
unfolding place_in
first_place-cut_off = refl

first_place-past_the_end : first_place (codes "abab") (codes "b") 4 ≡ None
unfolding place_in
first_place-past_the_end = refl

first_place-no_bytes : first_place (codes "abab") [] 0 ≡ None
first_place-no_bytes = refl

-- a history of depth 1 keeps the second of two changes: one undo gives it, and the next gives none
undone-depth_one : (first second : Change)
    → undone_history (noted_history (noted_history (no_changes 1) first) second) ≡ record { past = []; future = second ∷ []; depth = 1 }
undone-depth_one first second = refl
