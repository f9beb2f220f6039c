-- Changes read as texts, when one is made, taken back, or made again.
use Rattle.std.proofs.Common.{◌≡◌, ℕ, zero, suc, ◌+◌, ◌-◌, ◌≤◌, ◌<◌, Bool, true, false, List, [], ◌∷◌, length, take, slice_range, refl, sym, ap, ◌∙◌, arith, subst, Ok, Err, Some, None, slice_get}
use Rattle.std.proofs.lemmas.Bool.{cond-true, cond-false, lt-ltb, le-ltb}
use Rattle.std.specs.Str.{bytes_eq}
use Rattle.std.proofs.lemmas.Slice.Eq.{bytes_eq-Decides}
use Rattle.gap_text.specs.PointedText.{PointedText}
use Rattle.gap_text.specs.UndoHistory.{UndoHistory, noted_history, undone_history, redone_history}
use Rattle.gap_text.specs.declared.change.Change.{Change}
use Rattle.mc_edit.specs.declared.error.EditError.TheVariants.{TooLarge, NothingToUndo, NothingToRedo}
use Rattle.mc_edit.specs.declared.block.Block.{Block}
use Rattle.mc_edit.specs.declared.block.Block.TheVariants.{Absent}
use Rattle.mc_edit.specs.Edits.{Edit, EditedText, spliced_bytes, largest_text, undo_depth, after_edit, requested_text, undone_by, redone_by}
use Rattle.mc_edit.specs.Commands.{replaced_text}
use Rattle.mc_edit.specs.Changes.{text_before_change, text_after_change, edit_between, edits_back, edits_on, Leads, LeadHere, LeadOn, IsEditor}
use Rattle.mc_edit.proofs.SpliceLemmas.{length-between, length-spliced, spliced-back, bytes_eq-spliced}

-- a value that an editor shows
abbrev pub edited : Bool → List ℕ → ℕ → Block → List Change → List Change → EditedText
edited is_changed bytes point block past future =
    record {
      text = record { bytes = bytes; point = point };
      block = block;
      past = edits_back bytes past;
      future = edits_on bytes future;
      is_changed = is_changed;
    }

-- changes that are dropped leave the newer ones
edits_back-take : (n : ℕ) (bytes : List ℕ) (changes : List Change) → edits_back bytes (take n changes) ≡ take n (edits_back bytes changes)
edits_back-take zero bytes [] = refl
edits_back-take zero bytes (change ∷ older) = refl
edits_back-take (suc n) bytes [] = refl
edits_back-take (suc n) bytes (change ∷ older) =
    ap (λ edits. edit_between change (text_before_change change bytes) bytes ∷ edits) (edits_back-take n (text_before_change change bytes) older)

LeadHere-take : (n : ℕ) (bytes : List ℕ) (changes : List Change) → LeadHere bytes changes → LeadHere bytes (take n changes)
LeadHere-take zero bytes [] lead = tt
LeadHere-take zero bytes (change ∷ older) lead = tt
LeadHere-take (suc n) bytes [] lead = tt
LeadHere-take (suc n) bytes (change ∷ older) lead = (lead.0, LeadHere-take n (text_before_change change bytes) older lead.1)

-- the bytes from `from` up to `to` gave way to new ones
abbrev pub splice_change : List ℕ → ℕ → ℕ → List ℕ → ℕ → ℕ → Change
splice_change bytes from to new before after =
    record { at = from; removed = slice_range bytes from to; inserted = new; before = before; after = after }

module _ (bytes : List ℕ) (from to : ℕ) (ordered : from ≤ to) (within : to ≤ length bytes) (new : List ℕ) (before after : ℕ) where
  spliced-unmade : text_before_change (splice_change bytes from to new before after) (spliced_bytes bytes from to new) ≡ bytes
  unfolding text_before_change
  spliced-unmade = spliced-back bytes from to ordered within new

  spliced-made : text_after_change (splice_change bytes from to new before after) bytes ≡ spliced_bytes bytes from to new
  unfolding text_after_change
  spliced-made =
      let place : from + length (slice_range bytes from to) ≡ to = omega (arith, length-between bytes from to ordered within) in
      ap (λ n. spliced_bytes bytes from n new) place

  spliced-leads : before ≤ length bytes → after ≤ length (spliced_bytes bytes from to new) → length bytes ≤ largest_text
      → length (spliced_bytes bytes from to new) ≤ largest_text
      → Leads (splice_change bytes from to new before after) bytes (spliced_bytes bytes from to new)
  spliced-leads before_within after_within old_small new_small =
      record {
        old_fits = omega (arith, length-between bytes from to ordered within);
        new_fits = omega (arith, length-spliced bytes from to ordered within new);
        forth = spliced-made;
        back = spliced-unmade;
        point_before = before_within;
        point_after = after_within;
        old_small = old_small;
        new_small = new_small;
      }

  -- an editor after a splice
  pub IsEditor-spliced : (block : Block) (history : UndoHistory) → IsEditor bytes before block history
      → after ≤ length (spliced_bytes bytes from to new) → length (spliced_bytes bytes from to new) ≤ largest_text
      → IsEditor (spliced_bytes bytes from to new) after Absent (noted_history history (splice_change bytes from to new before after))
  IsEditor-spliced block history editor after_within new_small =
      let change = splice_change bytes from to new before after in
      let whole = spliced_bytes bytes from to new in
      let leads : Leads change (text_before_change change whole) whole =
      subst (λ (old : List ℕ). Leads change old whole) (sym spliced-unmade)
      (spliced-leads editor.point_within after_within editor.small new_small) in
      let older : LeadHere (text_before_change change whole) history.past =
      subst (λ (old : List ℕ). LeadHere old history.past) (sym spliced-unmade) editor.leads_here in
      record {
        small = new_small;
        point_within = after_within;
        block_within = tt;
        depth = editor.depth;
        leads_here = LeadHere-take history.depth whole (change ∷ history.past) (leads, older);
        leads_on = tt;
      }

  -- and what it shows
  pub changed-spliced : (was_changed : Bool) (block : Block) (past future : List Change) (depth : ℕ) → depth ≡ undo_depth
      → after_edit (record { bytes = spliced_bytes bytes from to new; point = after }) (edited was_changed bytes before block past future)
      ≡ edited true (spliced_bytes bytes from to new) after Absent (take depth (splice_change bytes from to new before after ∷ past)) []
  changed-spliced was_changed block past future depth deep =
      let change = splice_change bytes from to new before after in
      let whole = spliced_bytes bytes from to new in
      let shown : edits_back whole (take depth (change ∷ past)) ≡ take undo_depth (edit_between change bytes whole ∷ edits_back bytes past) =
      edits_back-take depth whole (change ∷ past)
      ∙ ap (λ old. take depth (edit_between change old whole ∷ edits_back old past)) spliced-unmade
      ∙ ap (λ n. take n (edit_between change bytes whole ∷ edits_back bytes past)) deep in
      ap (λ (edits : List Edit). record { text = record { bytes = whole; point = after }; block = Absent; past = edits; future = []; is_changed = true }) (sym shown)

-- what is asked for, by its bytes
module _ (new : PointedText) (old : EditedText) where
  pub settled-same : bytes_eq new.bytes old.text.bytes ≡ true
      → requested_text new old ≡ Ok (record old { text = record { bytes = old.text.bytes; point = new.point } })
  settled-same is_same =
      cond-true _ _ _ is_same
      ∙ ap (λ bytes. Ok (record old { text = record { bytes = bytes; point = new.point } })) ((bytes_eq-Decides new.bytes old.text.bytes).0 is_same)

  pub settled-large : bytes_eq new.bytes old.text.bytes ≡ false → largest_text < length new.bytes → requested_text new old ≡ Err (TooLarge (length new.bytes))
  settled-large differs large = cond-false _ _ _ differs ∙ cond-true _ _ _ (lt-ltb _ _ large)

  pub settled-changed : bytes_eq new.bytes old.text.bytes ≡ false → length new.bytes ≤ largest_text → requested_text new old ≡ Ok (after_edit new old)
  settled-changed differs small = cond-false _ _ _ differs ∙ cond-false _ _ _ (le-ltb _ _ small)

-- a change that is taken back
module _ (bytes : List ℕ) (change : Change) (older later : List Change) where
  pub LeadOn-back : Leads change (text_before_change change bytes) bytes → LeadOn bytes later → LeadOn (text_before_change change bytes) (change ∷ later)
  LeadOn-back leads on = (
    subst (λ (new : List ℕ). Leads change (text_before_change change bytes) new) (sym leads.forth) leads,
    subst (λ (new : List ℕ). LeadOn new later) (sym leads.forth) on,
  )

  pub undone-back : (was_changed : Bool) (point : ℕ) (block : Block) → Leads change (text_before_change change bytes) bytes
      → undone_by (edits_back bytes (change ∷ older)) (edited was_changed bytes point block (change ∷ older) later)
      ≡ Ok (edited true (text_before_change change bytes) change.before Absent older (change ∷ later))
  undone-back was_changed point block leads =
      ap (λ (new : List ℕ). Ok (record {
        text = record { bytes = text_before_change change bytes; point = change.before };
        block = Absent;
        past = edits_back (text_before_change change bytes) older;
        future = edit_between change (text_before_change change bytes) new ∷ edits_on new later;
        is_changed = true;
      })) (sym leads.forth)

  -- a change that is made again
  pub LeadHere-on : Leads change bytes (text_after_change change bytes) → LeadHere bytes older → LeadHere (text_after_change change bytes) (change ∷ older)
  LeadHere-on leads here = (
    subst (λ (old : List ℕ). Leads change old (text_after_change change bytes)) (sym leads.back) leads,
    subst (λ (old : List ℕ). LeadHere old older) (sym leads.back) here,
  )

  pub redone-on : (was_changed : Bool) (point : ℕ) (block : Block) → Leads change bytes (text_after_change change bytes)
      → redone_by (edits_on bytes (change ∷ later)) (edited was_changed bytes point block older (change ∷ later))
      ≡ Ok (edited true (text_after_change change bytes) change.after Absent (change ∷ older) later)
  redone-on was_changed point block leads =
      ap (λ (old : List ℕ). Ok (record {
        text = record { bytes = text_after_change change bytes; point = change.after };
        block = Absent;
        past = edit_between change old (text_after_change change bytes) ∷ edits_back old older;
        future = edits_on (text_after_change change bytes) later;
        is_changed = true;
      })) (sym leads.back)

-- a splice, by what it finds
module _ (bytes : List ℕ) (from to : ℕ) (ordered : from ≤ to) (within : to ≤ length bytes) (new removed : List ℕ)
    (is_removed : removed ≡ slice_range bytes from to) (was_changed : Bool) (at point : ℕ) (block : Block) (past future : List Change) where
  still : bytes_eq new removed ≡ bytes_eq (spliced_bytes bytes from to new) bytes
  still = ap (bytes_eq new) is_removed ∙ bytes_eq-spliced bytes from to ordered within new

  pub splice-same : true ≡ bytes_eq new removed
      → replaced_text (edited was_changed bytes at block past future) from to new point ≡ Ok (edited was_changed bytes point block past future)
  splice-same is_same =
      settled-same (record { bytes = spliced_bytes bytes from to new; point = point }) (edited was_changed bytes at block past future) (sym still ∙ sym is_same)

  pub splice-large : bytes_eq new removed ≡ false → (size : ℕ) → size ≡ from + (length new + (length bytes - to)) → largest_text < size
      → replaced_text (edited was_changed bytes at block past future) from to new point ≡ Err (TooLarge size)
  splice-large differs size is_size large =
      let long : length (spliced_bytes bytes from to new) ≡ size = length-spliced bytes from to ordered within new ∙ sym is_size in
      settled-large (record { bytes = spliced_bytes bytes from to new; point = point }) (edited was_changed bytes at block past future) (sym still ∙ differs) (omega arith)
      ∙ ap (λ (n : ℕ). Err (TooLarge n)) long

  pub splice-changed : bytes_eq new removed ≡ false → length (spliced_bytes bytes from to new) ≤ largest_text → (depth : ℕ) → depth ≡ undo_depth
      → replaced_text (edited was_changed bytes at block past future) from to new point
      ≡ Ok (edited true (spliced_bytes bytes from to new) point Absent (take depth (splice_change bytes from to new at point ∷ past)) [])
  splice-changed differs small depth deep =
      settled-changed (record { bytes = spliced_bytes bytes from to new; point = point }) (edited was_changed bytes at block past future) (sym still ∙ differs) small
      ∙ ap (λ (e : EditedText). Ok e) (changed-spliced bytes from to ordered within new at point was_changed block past future depth deep)

-- an undo and a redo, by the change that stands first
module _ (bytes new : List ℕ) (point : ℕ) (block : Block) (change : Change) (history : UndoHistory) where
  IsEditor-back : (past : List Change) → Some change ≡ slice_get past 0
      → IsEditor bytes point block (record { past = past; future = history.future; depth = history.depth })
      → IsEditor (text_before_change change bytes) change.before Absent (undone_history (record { past = past; future = history.future; depth = history.depth }))
  IsEditor-back [] first editor = cc
  IsEditor-back (other ∷ older) first editor =
      let is_other : other ≡ change = cc in
      let leads = editor.leads_here.0 in
      subst (λ (c : Change). IsEditor (text_before_change c bytes) c.before Absent (record { past = older; future = other ∷ history.future; depth = history.depth })) is_other
      (record {
        small = leads.old_small;
        point_within = leads.point_before;
        block_within = tt;
        depth = editor.depth;
        leads_here = editor.leads_here.1;
        leads_on = LeadOn-back bytes other older history.future leads editor.leads_on;
      })

  pub IsEditor-undone : Some change ≡ slice_get history.past 0 → new ≡ text_before_change change bytes → IsEditor bytes point block history
      → IsEditor new change.before Absent (undone_history history)
  IsEditor-undone first is_new editor =
      subst (λ (b : List ℕ). IsEditor b change.before Absent (undone_history history)) (sym is_new) (IsEditor-back history.past first editor)

  undone-first : (was_changed : Bool) (past : List Change) → Some change ≡ slice_get past 0 → LeadHere bytes past
      → undone_by (edits_back bytes past) (edited was_changed bytes point block past history.future)
      ≡ Ok (edited true (text_before_change change bytes) change.before Absent
      (undone_history (record { past = past; future = history.future; depth = history.depth })).past
      (undone_history (record { past = past; future = history.future; depth = history.depth })).future)
  undone-first was_changed [] first here = cc
  undone-first was_changed (other ∷ older) first here =
      let is_other : other ≡ change = cc in
      undone-back bytes other older history.future was_changed point block here.0
      ∙ ap (λ (c : Change). Ok (edited true (text_before_change c bytes) c.before Absent older (other ∷ history.future))) is_other

  pub undone-is : (was_changed : Bool) → Some change ≡ slice_get history.past 0 → new ≡ text_before_change change bytes → IsEditor bytes point block history
      → undone_by (edits_back bytes history.past) (edited was_changed bytes point block history.past history.future)
      ≡ Ok (edited true new change.before Absent (undone_history history).past (undone_history history).future)
  undone-is was_changed first is_new editor =
      undone-first was_changed history.past first editor.leads_here
      ∙ ap (λ (b : List ℕ). Ok (edited true b change.before Absent (undone_history history).past (undone_history history).future)) (sym is_new)

  IsEditor-on : (future : List Change) → Some change ≡ slice_get future 0
      → IsEditor bytes point block (record { past = history.past; future = future; depth = history.depth })
      → IsEditor (text_after_change change bytes) change.after Absent (redone_history (record { past = history.past; future = future; depth = history.depth }))
  IsEditor-on [] first editor = cc
  IsEditor-on (other ∷ later) first editor =
      let is_other : other ≡ change = cc in
      let leads = editor.leads_on.0 in
      subst (λ (c : Change). IsEditor (text_after_change c bytes) c.after Absent (record { past = other ∷ history.past; future = later; depth = history.depth })) is_other
      (record {
        small = leads.new_small;
        point_within = leads.point_after;
        block_within = tt;
        depth = editor.depth;
        leads_here = LeadHere-on bytes other history.past later leads editor.leads_here;
        leads_on = editor.leads_on.1;
      })

  pub IsEditor-redone : Some change ≡ slice_get history.future 0 → new ≡ text_after_change change bytes → IsEditor bytes point block history
      → IsEditor new change.after Absent (redone_history history)
  IsEditor-redone first is_new editor =
      subst (λ (b : List ℕ). IsEditor b change.after Absent (redone_history history)) (sym is_new) (IsEditor-on history.future first editor)

  redone-first : (was_changed : Bool) (future : List Change) → Some change ≡ slice_get future 0 → LeadOn bytes future
      → redone_by (edits_on bytes future) (edited was_changed bytes point block history.past future)
      ≡ Ok (edited true (text_after_change change bytes) change.after Absent
      (redone_history (record { past = history.past; future = future; depth = history.depth })).past
      (redone_history (record { past = history.past; future = future; depth = history.depth })).future)
  redone-first was_changed [] first on = cc
  redone-first was_changed (other ∷ later) first on =
      let is_other : other ≡ change = cc in
      redone-on bytes other history.past later was_changed point block on.0
      ∙ ap (λ (c : Change). Ok (edited true (text_after_change c bytes) c.after Absent (other ∷ history.past) later)) is_other

  pub redone-is : (was_changed : Bool) → Some change ≡ slice_get history.future 0 → new ≡ text_after_change change bytes → IsEditor bytes point block history
      → redone_by (edits_on bytes history.future) (edited was_changed bytes point block history.past history.future)
      ≡ Ok (edited true new change.after Absent (redone_history history).past (redone_history history).future)
  redone-is was_changed first is_new editor =
      redone-first was_changed history.future first editor.leads_on
      ∙ ap (λ (b : List ℕ). Ok (edited true b change.after Absent (redone_history history).past (redone_history history).future)) (sym is_new)

-- the change that stands first leads
module _ (bytes : List ℕ) (change : Change) where
  pub first_leads_here : (past : List Change) → Some change ≡ slice_get past 0 → LeadHere bytes past → Leads change (text_before_change change bytes) bytes
  first_leads_here [] first here = cc
  first_leads_here (other ∷ older) first here =
      let is_other : other ≡ change = cc in
      subst (λ (c : Change). Leads c (text_before_change c bytes) bytes) is_other here.0

  pub first_leads_on : (future : List Change) → Some change ≡ slice_get future 0 → LeadOn bytes future → Leads change bytes (text_after_change change bytes)
  first_leads_on [] first on = cc
  first_leads_on (other ∷ later) first on =
      let is_other : other ≡ change = cc in
      subst (λ (c : Change). Leads c bytes (text_after_change c bytes)) is_other on.0

-- without a change there is nothing to undo or to redo
pub undone-none : (bytes : List ℕ) (past : List Change) (e : EditedText) → None ≡ slice_get past 0 → undone_by (edits_back bytes past) e ≡ Err NothingToUndo
undone-none bytes [] e none = refl
undone-none bytes (change ∷ past) e none = cc

pub redone-none : (bytes : List ℕ) (future : List Change) (e : EditedText) → None ≡ slice_get future 0 → redone_by (edits_on bytes future) e ≡ Err NothingToRedo
redone-none bytes [] e none = refl
redone-none bytes (change ∷ future) e none = cc

-- the largest text, as the code spells it
pub largest_is : largest_text ≡ 16777216
unfolding largest_text
largest_is = refl
