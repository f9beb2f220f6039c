-- A finished move has left nothing in doubt at or below either path.
use Rattle.std.proofs.Common.{◌≡◌, ℕ, true, false, List, [], ◌∷◌, ◌++◌, sym, ◌∙◌, ap, subst, inl, inr, Option, Some, None}
use Rattle.std.specs.Prelude.{◌||◌}
use Rattle.std.proofs.lemmas.Bool.{both_ways, false_from_ne_true, or_cases}
use Rattle.mc_text.specs.Routes.{Route, is_prefix}
use Rattle.tree_trait.specs.Shape.{IsTree}
use Rattle.tree_trait.specs.FileSystem.{find}
use Rattle.tree_trait.specs.Change.{CallLog, current}
use Rattle.tree_trait.specs.CrashImages.{Among, all_settled}
use Rattle.session_entries.specs.declared.history.Entry.{Entry}
use Rattle.move_job.specs.Movings.{Moving}
use Rattle.move_job.specs.Movings as movings
use Rattle.job_reports.specs.Paths.{folder_of}
use Rattle.laws_sessions.specs.Doubt.{IsMountInDoubt, is_unsettled, name_waits, node_waits, way_waits}
use Rattle.session_entries.specs.Named.{named_parts}
use Rattle.laws_sessions.specs.Traces.{IsTraced, Stand}
use Rattle.laws_sessions.proofs.Histories.{IsReached, traced_reached}
use Rattle.laws_sessions.proofs.Owing.{calm_at}
use Rattle.laws_sessions.proofs.Knowing.{HistoryFacts}
use Rattle.laws_sessions.proofs.KnownParts.{HasName}
use Rattle.laws_sessions.proofs.MoveKnown.{IsMovedIn, none_left, none_waits_below, source_settled, target_settled}
use Rattle.laws_sessions.proofs.PathsBelow.{below_way}
use Rattle.laws_sessions.proofs.Resting.{sure_path}
use Rattle.laws_sessions.proofs.Prefixes.{told_of}

module _ (opening now : CallLog) (newest : List Entry) (stand : Stand) (path : Route) (tree : IsTree (current opening)) (settled : all_settled opening.changes ≡ true) (traced : IsTraced opening newest stand now) where
  abbrev seen : IsReached opening newest stand now
  seen = traced_reached opening tree settled newest stand now traced

  abbrev IsLeft : Type 0
  IsLeft = (way_waits now path ≡ false) × ((Among (named_parts newest) path → ⊥) → (IsMountInDoubt now path → ⊥) → is_unsettled now path ≡ false)

  -- the way to a path below one, to which nothing waits, waits for nothing where no name below that does
  below_sure : (top : Route) → way_waits now top ≡ false → ((name : List ℕ) (rest : Route) → name_waits now (name ∷ rest ++ top) ≡ false) → (rest : Route) → way_waits now (rest ++ top) ≡ false
  below_sure top firm names [] = firm
  below_sure top firm names (name ∷ rest) = sure_path now (name ∷ rest ++ top) (below_sure top firm names rest) (names name rest)

  -- no sync is owed any more
  module _ (m : Moving) (source_name : HasName m.pair.source) (target_name : HasName m.pair.target) (clean : movings.is_dirty m.stage ≡ false) (left : IsMovedIn (told_of opening now newest seen.part) seen.marks now m) where
    abbrev told : HistoryFacts
    told = told_of opening now newest seen.part

    firm_from : way_waits now (folder_of m.pair.source) ≡ false
    firm_from = let firm = seen.kept.known.stand (folder_of m.pair.source) left.told_from in firm.sure

    firm_to : way_waits now (folder_of m.pair.target) ≡ false
    firm_to = let firm = seen.kept.known.stand (folder_of m.pair.target) left.told_to in firm.sure

    -- neither the way to the source waits nor that to the target
    source_sure : way_waits now m.pair.source ≡ false
    source_sure = subst (λ q. way_waits now q ≡ false) (sym source_name.is) (sure_path now (source_name.name ∷ folder_of m.pair.source) firm_from (sym (ap (name_waits now) source_name.is) ∙ source_settled told seen.marks now m left clean source_name))

    target_sure : way_waits now m.pair.target ≡ false
    target_sure = subst (λ q. way_waits now q ≡ false) (sym target_name.is) (sure_path now (target_name.name ∷ folder_of m.pair.target) firm_to (sym (ap (name_waits now) target_name.is) ∙ target_settled told seen.marks now m left clean target_name))

    -- a path at or below one of both
    in_below : (top : Route) → way_waits now top ≡ false → ((name : List ℕ) (rest : Route) → name_waits now (name ∷ rest ++ top) ≡ false) → ((rest : Route) (i : ℕ) → find (current now) (rest ++ top) ≡ Some i → seen.marks.modes i ≡ None) → is_prefix top path ≡ true → IsLeft
    in_below top firm names modes below =
        let w = below_way top path below in
        let sure : way_waits now path ≡ false = ap (way_waits now) w.1 ∙ below_sure top firm names w.0 in (
          sure,
          λ unnamed no_mount. ap (λ b. b || node_waits now path) sure ∙ false_from_ne_true (node_waits now path) (λ waits.
              both_ways _ (calm_at opening now newest stand path tree settled traced unnamed (λ i here. inl (modes w.0 i (ap (find (current now)) (sym w.1) ∙ here))) (false_from_ne_true _ (λ begins. no_mount (record { begins = begins; waits = waits })))) waits),
        )

    none_found : (rest : Route) (i : ℕ) → find (current now) (rest ++ m.pair.source) ≡ Some i → seen.marks.modes i ≡ None
    none_found rest i at = absurd (let e : (let o : Option ℕ = None in o) ≡ Some i = sym (none_left told seen.marks now m left rest) ∙ at in let f : ⊥ = cc in f)

    pub move_left : (is_prefix m.pair.source path || is_prefix m.pair.target path) ≡ true → IsLeft
    move_left own = elim (or_cases (is_prefix m.pair.source path) (is_prefix m.pair.target path) own) [
      | inl from ↦ in_below m.pair.source source_sure (none_waits_below told seen.marks now m left) none_found from
      | inr to ↦ in_below m.pair.target target_sure left.rests.names left.rests.modes to
    ]
