-- The part of a link is whole as it is made: of its node nothing waits, so it isn't loose.
use Rattle.std.proofs.Common.{◌≡◌, ℕ, Bool, true, false, not, ◌&&◌, ◌||◌, List, ◌∷◌, refl, sym, ◌∙◌, ap, None, arith}
use Rattle.std.specs.Prelude.{◌==◌, is_some}
use Rattle.std.proofs.lemmas.Bool.{true≢false, eq-eqb, false_from_ne_true, or_left}
use Rattle.mc_text.specs.Routes.{Route, same_path}
use Rattle.mc_text.specs.declared.kind.Kind.TheVariants.{Link}
use Rattle.tree_trait.specs.declared.file_system.Node.{Node}
use Rattle.tree_trait.specs.FileSystem.{node, find}
use Rattle.tree_trait.specs.Refusals.{folder_kind, is_folder}
use Rattle.tree_trait.specs.Change.{Makes, CallLog, current, with_change}
use Rattle.tree_trait.specs.CrashImages.{Among, is_clean}
use Rattle.tree_trait.proofs.Visible.{same_path-true}
use Rattle.laws_crash.specs.Guarded.{Marks}
use Rattle.laws_crash.proofs.Leading.{clean_more}
use Rattle.job_reports.specs.Paths.{folder_of}
use Rattle.laws_crash.proofs.Guarding.{found_there}
use Rattle.laws_sessions.proofs.Untouched.{IsAsFound}
use Rattle.laws_sessions.proofs.Quiet.{kind_same}
pub use Rattle.laws_sessions.proofs.KnownParts.{HasLink, link_settled}
use Rattle.laws_sessions.proofs.Knowing.{IsCalmPath, IsKept, IsKnown, HistoryFacts}
use Rattle.laws_sessions.proofs.MakingParts.{MakesPart, made_known, marks_new, new_node, off_part, part_leads, part_node, with_part}
use Rattle.laws_sessions.proofs.PlacingParts.{firm_known, marks_firm}
use Rattle.laws_sessions.proofs.PlacingSteps.{IsWhole}
use Rattle.laws_sessions.proofs.Resting.{IsSureFolder}

-- so it may be placed, without a sync
pub whole_link : (told : HistoryFacts) (marks : Marks) (log : CallLog) (target part : Route) (text : List ℕ) (i : ℕ) → HasLink told marks (current log) target part text i → is_clean i log.changes ≡ true → IsWhole told marks log target part i
whole_link told marks log target part text i has clean = record {
  part_is = has.part_is;
  leads = has.leads;
  moves = has.moves;
  bare = ap folder_kind has.link;
  clean = clean;
  name = has.name;
  beside = has.beside;
  apart = has.apart;
  found = has.found;
}

no_more : (a b : Bool) → b ≡ true → (a && not b) ≡ false
no_more true true h = refl
no_more true false h = absurd (true≢false (sym h))
no_more false b h = refl

-- a link is made beside its target, by a job whose item is in this folder, and that may change these folders
module _ (told : HistoryFacts) (dirty dirty_after : List Route) (marks : Marks) (log : CallLog) (kept : IsKept told dirty marks log) (folder : Route) (own : Route → Bool) (target : Route) (name : List ℕ) (f : ℕ) (made : Node)
    (m : MakesPart told log name (folder_of target) f) (link : made.kind ≡ Link) (apart : (name ∷ folder_of target) ≡ target → ⊥) (as_it_was : IsAsFound marks (current log) target) where
  abbrev up : Route
  up = folder_of target

  abbrev part : Route
  part = name ∷ up

  abbrev n : ℕ
  n = new_node log

  abbrev after : CallLog
  after = with_change log (Makes f name made)

  abbrev marks_then : Marks
  marks_then = marks_firm (marks_new marks part n) n

  -- of what isn't made yet nothing waits
  unborn : is_clean n log.changes ≡ true
  unborn = kept.known.files.unborn n (omega arith)

  new_mode : marks.modes n ≡ None
  new_mode = kept.modes n unborn

  -- nor once it is
  pub link_clean : is_clean n after.changes ≡ true
  link_clean = clean_more n log.changes (Makes f name made) refl unborn

  bare : is_folder made ≡ false
  bare = ap folder_kind link

  pub link_known : IsSureFolder log folder → IsSureFolder log up → ((p : Route) → own p ≡ true → IsCalmPath marks log p) → Among dirty_after up → ((q : Route) → Among dirty q → Among dirty_after q) → IsKnown (with_part told folder own part) dirty_after marks_then after
  link_known around firm calm listed more =
      firm_known (with_part told folder own part) dirty_after (marks_new marks part n) after n link_clean new_mode
      (made_known told dirty dirty_after marks log kept.known name up f made kept.roams m bare new_mode folder own around firm calm listed more)

  apart_of : same_path target part ≡ false
  apart_of = false_from_ne_true _ (λ same. apart (sym (same_path-true target part same)))

  off : find (current after) target ≡ find (current log) target
  off = off_part told dirty dirty_after marks log kept.known name up f made kept.roams m bare new_mode target apart_of

  node_made : node (current after) n ≡ made
  node_made = part_node told dirty dirty_after marks log kept.known name up f made kept.roams m bare new_mode

  pub has_link : HasLink (with_part told folder own part) marks_then (current after) target part made.bytes n
  has_link = record {
    part_is = refl;
    leads = part_leads told dirty dirty_after marks log kept.known name up f made kept.roams m bare new_mode;
    firm = no_more ((n == n) || marks.loose n) (n == n) (eq-eqb n n refl);
    moves = or_left _ _ (eq-eqb n n refl);
    link = ap (λ (x : Node). x.kind) node_made ∙ link;
    says = ap (λ (x : Node). x.bytes) node_made;
    name = name;
    beside = refl;
    apart = apart;
    found = record {
      bare = λ j at.
          let before = sym off ∙ at in
          kind_same log (Makes f name made) j (found_there (current log) kept.known.guarded.tree target j before) ∙ as_it_was.bare j before;
      was = λ out. as_it_was.was (sym (ap (λ b. b || marks.aside target) apart_of) ∙ out) ∙ sym off;
      stood = λ is. ap is_some off ∙ as_it_was.stood (sym (ap (λ b. b || marks.aside target) apart_of) ∙ is);
      calm = λ j at. as_it_was.calm j (sym off ∙ at);
    };
  }
