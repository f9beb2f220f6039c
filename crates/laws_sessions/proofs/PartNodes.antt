-- The node of a part, as it is written and given its mode, and what is known of the part meanwhile.
use Rattle.std.proofs.Common.{◌≡◌, ℕ, ℤ, ◌<◌, zero, suc, false, List, [], ◌∷◌, length, refl, sym, ◌∙◌, ap, Some, None, arith}
use Rattle.std.specs.Prelude.{is_some, unwrap_or, slice_get, slice_set, ◌==◌}
use Rattle.std.proofs.lemmas.Bool.{false_from_ne_true, eqb-true}
use Rattle.mc_text.specs.Routes.{Route}
use Rattle.tree_trait.specs.declared.file_system.Node.{Node}
use Rattle.tree_trait.specs.declared.file_system.FileSystem.{FileSystem}
use Rattle.tree_trait.specs.FileSystem.{find, node, no_node}
use Rattle.tree_trait.specs.Change.{Change, Sets, Writes, CallLog, current, with_change}
use Rattle.tree_trait.specs.CrashImages.{says}
use Rattle.tree_trait.proofs.Finding.{find-once}
use Rattle.laws_crash.specs.Guarded.{Marks}
use Rattle.laws_crash.proofs.Guarding.{same_quiet, found_at}
use Rattle.laws_crash.proofs.Leading.{current_more}
use Rattle.laws_sessions.proofs.Knowing.{HistoryFacts, IsKnown}
use Rattle.laws_sessions.proofs.JobKnows.{HasPart, IsBare}
use Rattle.laws_sessions.proofs.Quiet.{kind_same}

set_here : (xs : List Node) (i : ℕ) (n : Node) → i < length xs → unwrap_or (slice_get (slice_set xs i n) i) no_node ≡ n
set_here [] i n there = absurd (omega (arith, there))
set_here (x ∷ xs) zero n there = refl
set_here (x ∷ xs) (suc i) n there = set_here xs i n (omega (arith, there))

pub written_node : (log : CallLog) (i : ℕ) (bytes : List ℕ) (time : ℤ) → i < length (current log).nodes
    → node (current (with_change log (Writes i bytes time))) i ≡ record (node (current log) i) { bytes = bytes; mtime = time }
written_node log i bytes time there = ap (λ (s : FileSystem). node s i) (current_more log (Writes i bytes time)) ∙ set_here (current log).nodes i _ there

pub moded_node : (log : CallLog) (i mode : ℕ) → i < length (current log).nodes → node (current (with_change log (Sets i mode))) i ≡ record (node (current log) i) { mode = mode }
moded_node log i mode there = ap (λ (s : FileSystem). node s i) (current_more log (Sets i mode)) ∙ set_here (current log).nodes i _ there

module _ (told : HistoryFacts) (dirty : List Route) (marks : Marks) (log : CallLog) (known : IsKnown told dirty marks log) (target part : Route) (i : ℕ) (has : HasPart told marks (current log) target part i) where
  pub part_there : i < length (current log).nodes
  part_there = known.guarded.there part i (found_at log part (Some i) has.leads)

  -- another path leads to another node
  pub other_node : (p : Route) (n : ℕ) → (p ≡ part → ⊥) → find (current log) p ≡ Some n → (i == n) ≡ false
  other_node p n apart at = false_from_ne_true _ (λ same. apart (find-once (current log) known.guarded.tree p part i (at ∙ ap (λ k. Some k) (sym (eqb-true i n same))) has.leads))

  -- a call that says nothing of names and leaves the part a file
  pub part_on : (c : Change) → ((g : ℕ) (m : List ℕ) → says c (length (current log).nodes) g m ≡ None) → (node (current (with_change log c)) i).kind ≡ (node (current log) i).kind
      → (node (current (with_change log c)) i).unnamed ≡ (node (current log) i).unnamed → HasPart told marks (current (with_change log c)) target part i
  part_on c none kind unnamed = record {
    part_is = has.part_is;
    leads = same_quiet log c none part ∙ has.leads;
    loose = has.loose;
    moves = has.moves;
    file = kind ∙ has.file;
    unnamed = unnamed ∙ has.unnamed;
    name = has.name;
    beside = has.beside;
    apart = has.apart;
    found = let u = has.found in record { bare = still_bare u.bare; was = λ out. u.was out ∙ sym (same_quiet log c none target); stood = λ is. ap is_some (same_quiet log c none target) ∙ u.stood is; calm = λ j at. u.calm j (sym (same_quiet log c none target) ∙ at) };
  }
    where
      still_bare : IsBare (current log) target → IsBare (current (with_change log c)) target
      still_bare bare j at =
          let before = sym (same_quiet log c none target) ∙ at in
          kind_same log c j (known.guarded.there target j (found_at log target (Some j) before)) ∙ bare j before
