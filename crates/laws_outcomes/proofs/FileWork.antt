-- What the copy of a file has done, after each step, skip and retry.
use Rattle.std.proofs.Common.{◌≡◌, ℕ, true, false, List, [], ◌∷◌, ◌++◌, length, refl, sym, ◌∙◌, ap, subst, inl, inr, Option, Some, None, arith}
use Rattle.std.specs.Option.{option_map}
use Rattle.std.proofs.lemmas.Bool.{false_from_ne_true}
use Rattle.std.proofs.lemmas.List.{length-append}
use Rattle.mc_text.specs.Routes.{Route, is_prefix, same_path}
use Rattle.mc_text.specs.declared.kind.Kind.{Kind}
use Rattle.mc_text.specs.declared.kind.Kind.TheVariants as kind
use Rattle.tree_trait.specs.Calls.{Stat}
use Rattle.tree_trait.specs.Change.{CallLog, current, found_node}
use Rattle.tree_trait.specs.FileSystem.{Value, View, find, node, view_with, value}
use Rattle.tree_trait.specs.Refusals.{folder_kind, refusal_of}
use Rattle.tree_trait.specs.Shape.{IsTree}
use Rattle.tree_trait.proofs.Visible.{same_path-true}
use Rattle.tree_trait.proofs.Walking.{stat-found}
use Rattle.laws_crash.proofs.Tops.{none_below}
use Rattle.job_reports.specs.Jobs.{Copies}
use Rattle.job_reports.specs.declared.job.Pair.{Pair}
use Rattle.job_reports.specs.declared.report.Cause.{Cause}
use Rattle.job_reports.specs.declared.report.Did.{Did}
use Rattle.job_reports.specs.declared.report.Did.TheVariants.{Began, Chunk, Placed, Removed, Made, Set, Kept, Skipped, Cleaned, Barrier, Asked, Merges, Moved, Troubled, Ended}
use Rattle.job_reports.specs.declared.report.Ending.TheVariants.{Finished, Aborted, Killed, NoMemory}
use Rattle.copy_file.specs.CopySteps as file
use Rattle.copy_file.specs.Copying.{Copying, Tells, after_clean, skipped_stage, taken_anew}
use Rattle.copy_file.specs.declared.stage.Next.{Next}
use Rattle.copy_file.specs.declared.stage.Next.TheVariants as next
use Rattle.copy_file.specs.declared.stage.Stage.{Stage}
use Rattle.copy_file.specs.declared.stage.Stage.TheVariants as at
use Rattle.copy_folders.specs.declared.level.Level.{Level}
use Rattle.copy_tree.specs.InPlace.{IsMoved}
use Rattle.session_entries.specs.Moves.{moved_from}
use Rattle.laws_sessions.specs.Replayed.{placed_copy, replayed_step}
use Rattle.laws_sessions.proofs.Changing.{none_below_file}
use Rattle.laws_sessions.proofs.Intact.{prefix_append}
use Rattle.laws_sessions.proofs.Moved.{moved_below}
use Rattle.laws_sessions.proofs.OwedModes.{ShowsTree}
use Rattle.laws_sessions.proofs.Untouched.{IsBare as NoFolder}
use Rattle.laws_outcomes.specs.Outcomes.{copied_as, as_copied}
use Rattle.laws_outcomes.proofs.Accounts.{AllCopied, FileDone, IsPlain, apart_from, covered_more, covered_now, passed_at, put_same, put_value}

-- what is no folder is copied as it is placed
plain_by : (k : Kind) (x : Value) → folder_kind k ≡ false → copied_as k x ≡ placed_copy x
plain_by kind.File x bare = refl
plain_by kind.Link x bare = refl
plain_by kind.Other x bare = refl
plain_by kind.Folder x bare = absurd (let f : ⊥ = cc in f)

pub self_prefix : (p : Route) → is_prefix p p ≡ true
self_prefix p = prefix_append p []

-- a path below another is another
pub deeper : (name : List ℕ) (rest path : Route) → same_path (name ∷ (rest ++ path)) path ≡ false
deeper name rest path = false_from_ne_true _ (λ same.
    let l = ap (λ (q : Route). length q) (same_path-true (name ∷ (rest ++ path)) path same) in
    let k = length-append rest path in
    absurd (omega (arith, l, k)))

-- where the history shows the tree
module _ (v : View) (log : CallLog) (tree : IsTree (current log)) (shows : ShowsTree v log) where
  pub none_shown : (p : Route) → find (current log) p ≡ None → (v p).value ≡ None
  none_shown p none = sym (shows p) ∙ ap (option_map (λ i. value (node (current log) i))) none

  -- what stands at a path that can be told
  pub some_shown : (p : Route) → refusal_of (current log) (Stat p) ≡ None → (v p).value ≡ Some (value (node (current log) (found_node (current log) p)))
  some_shown p there = sym (shows p) ∙ ap (option_map (λ i. value (node (current log) i))) (stat-found (current log) p there)

  pub plain_source : (source : Route) (k : Kind) → refusal_of (current log) (Stat source) ≡ None → (node (current log) (found_node (current log) source)).kind ≡ k → folder_kind k ≡ false
      → option_map as_copied (v source).value ≡ option_map placed_copy (v source).value
  plain_source source k there is bare =
      let n = node (current log) (found_node (current log) source) in
      subst (λ o. option_map as_copied o ≡ option_map placed_copy o) (sym (some_shown source there)) (ap Some (plain_by n.kind (value n) (ap folder_kind is ∙ bare)))

  -- where no folder stands at the target
  pub plain_begins : (source target : Route) (k : Kind) → refusal_of (current log) (Stat source) ≡ None → (node (current log) (found_node (current log) source)).kind ≡ k → folder_kind k ≡ false → NoFolder (current log) target → IsPlain v source target
  plain_begins source target k there is single bare = record {
    plain = plain_source source k there is single;
    below = λ name rest. none_shown (name ∷ (rest ++ source)) (none_below_file (current log) tree source (found_node (current log) source) (stat-found (current log) source there) (ap folder_kind is ∙ single) name rest);
    under = λ name rest. none_shown (name ∷ (rest ++ target)) (none_under name rest (find (current log) target) refl);
  }
    where
      none_under : (name : List ℕ) (rest : Route) (o : Option ℕ) → find (current log) target ≡ o → find (current log) (name ∷ rest ++ target) ≡ None
      none_under name rest None free = none_below log (name ∷ rest) target free
      none_under name rest (Some i) at = none_below_file (current log) tree target i at (bare i at) name rest

module _ (now : CallLog) (v : View) (passed : List Route) (top : Pair) where
  abbrev Then : Did → View
  Then did = replayed_step now did (Some (Copies top.source top.target)) v

  -- what is placed is a copy of what stands there
  module _ (source target : Route) (m : IsMoved top source target) (bare : IsPlain v source target) where
    abbrev new : Option Value
    new = option_map placed_copy (v (moved_from top.source top.target target)).value

    on : is_prefix top.target target ≡ true
    on = subst (λ p. is_prefix top.target p ≡ true) (sym m.to) (prefix_append top.target m.rest)

    comes : moved_from top.source top.target target ≡ source
    comes = ap (moved_from top.source top.target) m.to ∙ (moved_below top.source top.target m.rest ∙ sym m.from)

    all : AllCopied (view_with v target new) top.target source target
    all [] off =
        put_value v target new
        ∙ (ap (λ p. option_map placed_copy (v p).value) comes
        ∙ (sym bare.plain
        ∙ ap (option_map as_copied) (sym (put_same v target new source (apart_from top.target source target off on)))))
    all (name ∷ rest) off =
        put_same v target new (name ∷ (rest ++ target)) (deeper name rest target)
        ∙ (bare.under name rest
        ∙ ap (option_map as_copied) (sym (put_same v target new (name ∷ (rest ++ source)) (apart_from top.target (name ∷ (rest ++ source)) target off on) ∙ bare.below name rest)))

    pub placed_all : AllCopied (Then (Placed target)) top.target source target
    placed_all = all

  module _ (around : List Level) where
    abbrev Done : View → Route → Route → Stage → Type 0
    Done w source target stage = FileDone w passed top.target around source target stage

    by_clean : (source target : Route) (part : Route) (follows : Next) → Done v source target (at.Clean part follows) → Done v source target (after_clean follows)
    by_clean source target part next.Begin d = tt
    by_clean source target part next.Decided d = inl d

    pub file_goes : (f moved : Copying) (did : Did) → IsMoved top f.source f.target → Tells f did moved
        → (f.stage ≡ at.Begin → ⊥) → Done v f.source f.target f.stage → FileDone (Then did) (passed_at top did passed) top.target around moved.source moved.target moved.stage
    file_goes f moved (Began part) m (stage, told) begun d = absurd (begun stage)
    file_goes f moved (Chunk count) m (part, facts, done, stage, least, most, fits, new_is) begun d =
        subst (λ (x : Copying). Done v x.source x.target x.stage) (sym new_is) (subst (λ s. Done v f.source f.target s) stage d)
    file_goes f moved (Placed path) m (part, facts, stage, path_is, new_is) begun d =
        subst (λ (x : Copying). Done (Then (Placed path)) x.source x.target x.stage) (sym new_is)
        (subst (λ p. Done (Then (Placed p)) f.source f.target at.Decided) (sym path_is) (inr (placed_all f.source f.target m (subst (λ s. Done v f.source f.target s) stage d).0)))
    file_goes f moved (Cleaned part) m (follows, stage, new_is) begun d =
        subst (λ (x : Copying). Done v x.source x.target x.stage) (sym new_is) (by_clean f.source f.target part follows (subst (λ s. Done v f.source f.target s) stage d))
    file_goes f moved Barrier m (stage, dirty, new_is) begun d = subst (λ (x : Copying). Done v x.source x.target x.stage) (sym new_is) d
    file_goes f moved (Troubled trouble) m (barrier, new_is) begun d = subst (λ (x : Copying). Done v x.source x.target x.stage) (sym new_is) d
    file_goes f moved (Ended Finished part) m (stage, synced, part_is, new_is) begun d =
        subst (λ (x : Copying). Done (Then (Ended Finished part)) x.source x.target x.stage) (sym new_is) (subst (λ p. Done (Then (Ended Finished p)) f.source f.target f.stage) (sym part_is) d)
    file_goes f moved did m t begun d = absurd t

-- a file that is skipped is covered
module _ (v : View) (passed : List Route) (top : Pair) (around : List Level) where
  pub skipped_done : (source target : Route) (stage : Stage) → FileDone v passed top.target around source target stage → FileDone v (source ∷ passed) top.target around source target (skipped_stage stage)
  skipped_done source target at.Begin d = inl (covered_now passed source source (self_prefix source))
  skipped_done source target (at.Fill part facts done) d = covered_now passed source source (self_prefix source)
  skipped_done source target (at.Clean part follows) d = covered_now passed source source (self_prefix source)
  skipped_done source target (at.Left part) d = tt
  skipped_done source target at.Decided (inl covered) = inl (covered_more passed source source covered)
  skipped_done source target at.Decided (inr all) = inr all

  pub file_skips : (cause : Cause) (f moved : Copying) (did : Did) → file.Skips cause f did moved → FileDone v passed top.target around f.source f.target f.stage → FileDone v (passed_at top did passed) top.target around moved.source moved.target moved.stage
  file_skips cause f moved did (inl s) d =
      subst (λ x. FileDone v (passed_at top x passed) top.target around moved.source moved.target moved.stage) (sym s.0)
      (subst (λ (x : Copying). FileDone v (f.source ∷ passed) top.target around x.source x.target x.stage) (sym s.1) (skipped_done f.source f.target f.stage d))
  file_skips cause f moved did (inr s) d =
      subst (λ x. FileDone v (passed_at top x passed) top.target around moved.source moved.target moved.stage) (sym s.0)
      (subst (λ (x : Copying). FileDone v passed top.target around x.source x.target x.stage) (sym s.1) d)

  pub file_anew : (source target : Route) (stage : Stage) → FileDone v passed top.target around source target stage → FileDone v passed top.target around source target (taken_anew stage)
  file_anew source target at.Begin d = tt
  file_anew source target (at.Fill part facts done) d = tt
  file_anew source target (at.Clean part follows) d = d
  file_anew source target (at.Left part) d = d
  file_anew source target at.Decided d = d
