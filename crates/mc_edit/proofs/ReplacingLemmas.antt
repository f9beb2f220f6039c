-- Places in the rest of a text, and the run that is built place by place.
use Rattle.std.proofs.Common.{◌≡◌, ℕ, ◌+◌, ◌-◌, ◌<◌, ◌≤◌, List, [], ◌∷◌, ◌++◌, length, drop, get_or, refl, sym, ap, ◌∙◌, arith, length-drop, length-append, length-take-le, slice_range, append_assoc, append-nil, Some, None}
use Rattle.std.proofs.lemmas.List.{get_or-drop}
use Rattle.memchr.specs.Find.{OccursAt, FindsNeedle, matches, match_len}
use Rattle.memchr.proofs.lemmas.MatchLemmas.{matches-none, matches-first}
use Rattle.std.proofs.Common.{Err}
use Rattle.std.proofs.Common.{false}
use Rattle.std.proofs.lemmas.Bool.{cond-false, ne_eqb, false_from_ne_true}
use Rattle.std.specs.Str.{bytes_eq}
use Rattle.std.proofs.lemmas.Slice.Eq.{bytes_eq-Decides}
use Rattle.mc_edit.specs.declared.error.EditError.TheVariants.{NotFound, TooLarge}
use Rattle.mc_edit.specs.Edits.{EditedText, spliced_bytes, largest_text}
use Rattle.mc_edit.proofs.SpliceLemmas.{length-spliced}
use Rattle.mc_edit.proofs.ChangeLemmas.{settled-large}
use Rattle.mc_edit.specs.Commands.{places_replaced, all_replaced}
use Rattle.mc_edit.specs.Replacing.{replaced_run, last_end}

module _ (text what : List ℕ) (from : ℕ) (inside : from ≤ length text) where
  OccursAt-further : (at : ℕ) → OccursAt (drop from text) what at → OccursAt text what (from + at)
  OccursAt-further at occurs =
      record {
        fits = omega (arith, occurs.fits, length-drop from text);
        reads = λ j below.
            let place : from + at + j ≡ from + (at + j) = omega arith in
            ap (λ n. get_or text n 0) place ∙ sym (get_or-drop from text (at + j) 0) ∙ occurs.reads j below;
      }

  OccursAt-rest : (at : ℕ) → from ≤ at → OccursAt text what at → OccursAt (drop from text) what (at - from)
  OccursAt-rest at low occurs =
      record {
        fits = omega (arith, occurs.fits, length-drop from text);
        reads = λ j below.
            let place : from + (at - from + j) ≡ at + j = omega arith in
            get_or-drop from text (at - from + j) 0 ∙ ap (λ n. get_or text n 0) place ∙ occurs.reads j below;
      }

  -- the first place of the rest is the first of the text from there on
  pub FindsNeedle-some : (at : ℕ) → FindsNeedle (drop from text) what 0 (Some at) → FindsNeedle text what from (Some (from + at))
  FindsNeedle-some at finds = (
    record {
      low = omega arith;
      high = omega (arith, finds.0.high, length-drop from text);
      before = λ k low below occurs. finds.0.before (k - from) (omega arith) (omega arith) (OccursAt-rest k low occurs);
    },
    OccursAt-further at finds.1,
  )

  pub FindsNeedle-none : FindsNeedle (drop from text) what 0 None → FindsNeedle text what from None
  FindsNeedle-none nowhere k low below occurs =
      nowhere (k - from) (omega arith) (omega (arith, length-drop from text)) (OccursAt-rest k low occurs)

module _ (text what : List ℕ) (some : 0 < length what) (from : ℕ) where
  -- the places from one on, when the next is found
  pub matches-next : (at : ℕ) → FindsNeedle text what from (Some at) → matches text what from ≡ at ∷ matches text what (at + length what)
  matches-next at finds =
      let wide : match_len what ≡ length what = omega arith in
      matches-first text what from at finds.0 finds.1 ∙ ap (λ n. at ∷ matches text what (at + n)) wide

  pub matches-over : FindsNeedle text what from None → matches text what from ≡ []
  matches-over nowhere = matches-none text what from nowhere

  module _ (new so_far : List ℕ) where
    -- a place leads the run on
    pub run-next : (at : ℕ) → FindsNeedle text what from (Some at)
        → ((so_far ++ slice_range text from at) ++ new)
        ++ replaced_run text what new (at + length what) (matches text what (at + length what))
        ≡ so_far ++ replaced_run text what new from (matches text what from)
    run-next at finds =
        let left = replaced_run text what new (at + length what) (matches text what (at + length what)) in
        let part = slice_range text from at in
        append_assoc (so_far ++ part) new left
        ∙ append_assoc so_far part (new ++ left)
        ∙ ap (λ places. so_far ++ replaced_run text what new from places) (sym (matches-next at finds))

    -- without a further place the run is whole
    pub run-over : FindsNeedle text what from None → so_far ≡ so_far ++ replaced_run text what new from (matches text what from)
    run-over nowhere =
        sym (append-nil so_far) ∙ ap (λ places. so_far ++ replaced_run text what new from places) (sym (matches-over nowhere))

  pub end-next : (at : ℕ) → FindsNeedle text what from (Some at)
      → last_end what (at + length what) (matches text what (at + length what)) ≡ last_end what from (matches text what from)
  end-next at finds = ap (λ places. last_end what from places) (sym (matches-next at finds))

  pub end-over : FindsNeedle text what from None → from ≡ last_end what from (matches text what from)
  end-over nowhere = ap (λ places. last_end what from places) (sym (matches-over nowhere))

-- the size of a run, place by place
module _ (text what : List ℕ) (some : 0 < length what) (from : ℕ) (new : List ℕ) where
  pub size-next : (at : ℕ) → from ≤ at → at ≤ length text → FindsNeedle text what from (Some at)
      → (at - from) + length new + length (replaced_run text what new (at + length what) (matches text what (at + length what)))
      ≡ length (replaced_run text what new from (matches text what from))
  size-next at low within finds =
      let part = slice_range text from at in
      let left = replaced_run text what new (at + length what) (matches text what (at + length what)) in
      omega (
        arith,
        ap length (run-next text what some from new [] at finds),
        length-append (part ++ new) left,
        length-append part new,
        length-take-le (at - from) (drop from text) (omega (arith, length-drop from text)),
      )

  pub size-over : FindsNeedle text what from None → length (replaced_run text what new from (matches text what from)) ≡ 0
  size-over nowhere = sym (ap length (run-over text what some from new [] nowhere))

last_end-low : (what : List ℕ) (from : ℕ) (places : List ℕ) → (low : ℕ) → low ≤ from → ((place : ℕ) → low ≤ place + length what) → low ≤ last_end what from places
last_end-low what from [] low below each = below
last_end-low what from (place ∷ places) low below each = last_end-low what (place + length what) places low (each place) each

-- where the last place ends at the start there is none
none-ends : (what places : List ℕ) → 0 < length what → last_end what 0 places ≡ 0 → places ≡ []
none-ends what [] some ends = refl
none-ends what (place ∷ places) some ends =
    absurd (omega (arith, last_end-low what (place + length what) places 1 (omega arith) (λ at. omega arith)))

module _ (what new rest : List ℕ) (some : 0 < length what) (e : EditedText) (is_rest : rest ≡ drop e.text.point e.text.bytes) where
  shown : all_replaced what new e ≡ places_replaced (matches rest what 0) what new e
  shown =
      cond-false _ _ _ (ne_eqb _ _ (λ (none : length what ≡ 0). omega arith))
      ∙ ap (λ l. places_replaced (matches l what 0) what new e) (sym is_rest)

  -- without a place nothing is found
  pub all_replaced-none : (end : ℕ) → end ≡ last_end what 0 (matches rest what 0) → end ≡ 0 → all_replaced what new e ≡ Err NotFound
  all_replaced-none end is_end zero_end =
      shown ∙ ap (λ places. places_replaced places what new e) (none-ends what (matches rest what 0) some (sym is_end ∙ zero_end))

  -- a text that becomes too large is refused with its size
  large_places : (size : ℕ) → (places : List ℕ) → (last_end what 0 places ≡ 0 → ⊥) → last_end what 0 places ≤ length rest
      → e.text.point ≤ length e.text.bytes → length e.text.bytes ≤ largest_text → largest_text < size
      → size ≡ length (replaced_run rest what new 0 places) + (length e.text.bytes - last_end what 0 places)
      → places_replaced places what new e ≡ Err (TooLarge size)
  large_places size [] found within point_in small large is_size = absurd (found refl)
  large_places size (place ∷ places) found within point_in small large is_size =
      let bytes = e.text.bytes in
      let point = e.text.point in
      let end = point + last_end what 0 (place ∷ places) in
      let run = replaced_run (drop point bytes) what new 0 (place ∷ places) in
      let same_run : length (replaced_run rest what new 0 (place ∷ places)) ≡ length run =
      ap (λ l. length (replaced_run l what new 0 (place ∷ places))) is_rest in
      let inside : end ≤ length bytes = omega (arith, within, point_in, ap length is_rest, length-drop point bytes) in
      let long : length (spliced_bytes bytes point end run) ≡ size =
      omega (arith, length-spliced bytes point end (omega arith) inside run, is_size, same_run, inside) in
      let differs : bytes_eq (spliced_bytes bytes point end run) bytes ≡ false =
      false_from_ne_true _
      (λ same. omega (arith, ap length ((bytes_eq-Decides (spliced_bytes bytes point end run) bytes).0 same), long, small, large)) in
      settled-large (record { bytes = spliced_bytes bytes point end run; point = point + length run }) e differs (omega (arith, long, large))
      ∙ ap (λ (n : ℕ). Err (TooLarge n)) long

  pub all_replaced-large : (end run size : ℕ) → end ≡ last_end what 0 (matches rest what 0) → (end ≡ 0 → ⊥) → end ≤ length rest
      → e.text.point ≤ length e.text.bytes → length e.text.bytes ≤ largest_text → largest_text < size
      → run ≡ length (replaced_run rest what new 0 (matches rest what 0)) → size ≡ run + (length e.text.bytes - end)
      → all_replaced what new e ≡ Err (TooLarge size)
  all_replaced-large end run size is_end found within point_in small large is_run is_size =
      shown
      ∙ large_places size (matches rest what 0) (λ none. found (is_end ∙ none)) (omega (arith, is_end, within)) point_in small large
      (omega (arith, is_size, is_run, is_end))
