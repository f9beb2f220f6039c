-- While a job is at the move of a thing no entry names any path, but the one that tells of the move; and once another source is taken up, none that meets its two, until one does.
use Rattle.std.proofs.Common.{◌≡◌, ◌⊎◌, ℕ, Bool, true, false, List, [], ◌∷◌, ◌++◌, refl, sym, ◌∙◌, ap, subst, inl, inr, Option, Some, None}
use Rattle.std.specs.Prelude.{⊤, ◌||◌, is_some, if◌then◌else◌}
use Rattle.std.proofs.lemmas.Bool.{both_ways, false_from_ne_true, true≢false}
use Rattle.mc_text.specs.Routes.{Route, is_prefix}
use Rattle.tree_trait.specs.Shape.{IsTree}
use Rattle.tree_trait.specs.Change.{CallLog, current}
use Rattle.tree_trait.specs.CrashImages.{Among, all_settled}
use Rattle.tree_trait.specs.FileSystem.{Spot, View}
use Rattle.job_reports.specs.declared.job.Pair.{Pair}
use Rattle.job_reports.specs.declared.report.Did.{Did}
use Rattle.job_reports.specs.declared.report.Did.TheVariants.{Began, Chunk, Placed, Removed, Made, Set, Kept, Skipped, Cleaned, Barrier, Asked, Merges, Moved, Troubled, Ended}
use Rattle.job_reports.specs.Jobs.{ItemOfJob, Moves}
use Rattle.session_entries.specs.declared.history.Event.{Event}
use Rattle.session_entries.specs.declared.history.Event.TheVariants.{Key, Look, Sought, Order, Step, Next, Closed}
use Rattle.session_entries.specs.declared.history.Event.TheVariants as event
use Rattle.session_entries.specs.declared.history.Entry.{Entry}
use Rattle.session_entries.specs.LiveJobs.{live_jobs}
use Rattle.session_entries.specs.Moves.{moved_from}
use Rattle.session_entries.specs.Named.{IsUnnamedSince, left_parts, live_parts, named_parts, names, names_path}
use Rattle.laws_outcomes.specs.Touched.{IsAtSince, LastsSince, taken_by}
use Rattle.laws_sessions.specs.Replayed.{log_prefix, moved_by, nothing_there, replayed_step, replayed_tree}
use Rattle.laws_sessions.specs.Whole.{AreSparedSince, Spares, meets}
use Rattle.laws_sessions.proofs.PathsBelow.{below_way, is_below}
use Rattle.laws_sessions.proofs.Moved.{moved_below}
use Rattle.laws_outcomes.proofs.ApartPaths.{AreApart}
use Rattle.laws_outcomes.proofs.CutEntries.{AtStep, IsFirst, at_step, before_newest, event_unchanged}
use Rattle.laws_outcomes.proofs.CutLive.{AllLive, live_since, taken_either}
use Rattle.laws_outcomes.proofs.CutParts.{left_event, named_event}
use Rattle.laws_outcomes.proofs.CutSteps.{IsGoing, IsPlainReport, OnlyMoves, StepFact, pair_at}

-- a report that names no path
plain_unnamed : (did : Did) → IsPlainReport did → (path : Route) → names did path ≡ false
plain_unnamed (Chunk count) plain path = refl
plain_unnamed (Kept kept) plain path = refl
plain_unnamed (Skipped left cause) plain path = refl
plain_unnamed (Asked question) plain path = refl
plain_unnamed (Merges transfer pair within) plain path = refl
plain_unnamed Barrier plain path = refl
plain_unnamed (Troubled trouble) plain path = refl
plain_unnamed (Ended ending None) plain path = refl
plain_unnamed (Ended ending (Some part)) plain path = absurd (let f : ⊥ = cc in f)
plain_unnamed did plain path = absurd plain

-- it tells of the move, or is such a one
how_moves : (v : View) (moved : Pair) (did : Did) → OnlyMoves v moved did → ((did ≡ Moved moved) × IsGoing v moved) ⊎ IsPlainReport did
how_moves v moved (Moved pair) only = inl (ap Moved only.0, only.1)
how_moves v moved (Chunk count) only = inr only
how_moves v moved (Kept kept) only = inr only
how_moves v moved (Skipped left cause) only = inr only
how_moves v moved (Asked question) only = inr only
how_moves v moved (Merges transfer pair within) only = inr only
how_moves v moved Barrier only = inr only
how_moves v moved (Troubled trouble) only = inr only
how_moves v moved (Ended ending part) only = inr only
how_moves v moved did only = absurd only

-- what takes up a source names nothing
takes_names : (what : Event) (item : ItemOfJob) → taken_by what ≡ Some item → (path : Route) → names_path what path ≡ false
takes_names (Step id did) item is path = absurd (let f : ⊥ = cc in f)
takes_names (event.Began id plan background) item is path = refl
takes_names (Next id plan) item is path = refl
takes_names (Order id order) item is path = absurd (let f : ⊥ = cc in f)
takes_names (Key key time refusals lost) item is path = absurd (let f : ⊥ = cc in f)
takes_names (Look refusals) item is path = absurd (let f : ⊥ = cc in f)
takes_names Sought item is path = absurd (let f : ⊥ = cc in f)
takes_names Closed item is path = absurd (let f : ⊥ = cc in f)

-- a path that no entry names is a part only where it was one
pub named_since : (begun g : List Entry) (path : Route) → IsUnnamedSince begun path g → Among (named_parts g) path → Among (named_parts begun) path
named_since begun [] path same among = subst (λ xs. Among (named_parts xs) path) (sym same) among
named_since begun (e ∷ g) path (inl same) among = subst (λ xs. Among (named_parts xs) path) (sym same) among
named_since begun (e ∷ g) path (inr (unnamed, since)) among = named_since begun g path since (named_event e.what (live_parts g) (left_parts g) (named_parts g) path unnamed among)

pub left_since : (begun g : List Entry) (path : Route) → IsUnnamedSince begun path g → Among (left_parts g) path → Among (left_parts begun) path
left_since begun [] path same among = subst (λ xs. Among (left_parts xs) path) (sym same) among
left_since begun (e ∷ g) path (inl same) among = subst (λ xs. Among (left_parts xs) path) (sym same) among
left_since begun (e ∷ g) path (inr (unnamed, since)) among = left_since begun g path since (left_event e.what (left_parts g) path unnamed among)

module _ (opening : CallLog) (tree : IsTree (current opening)) (settled : all_settled opening.changes ≡ true) (end : CallLog) (begun : List Entry) (source target : Route) (its : AllLive (λ i. i ≡ Moves source target) (live_jobs begun)) where
  abbrev shown : List Entry → View
  shown g = replayed_tree opening end g

  abbrev First : List Entry → Type 0
  First g = IsFirst opening tree settled end g

  -- no entry names any path
  abbrev pub AllUnnamed : List Entry → Type 0
  AllUnnamed g = (path : Route) → IsUnnamedSince begun path g

  -- or any that meets one of the two
  abbrev pub AllSpared : List Entry → Type 0
  AllSpared g = (path : Route) → (meets source path || meets target path) ≡ true → IsUnnamedSince begun path g

  -- one tells of the move, and since then none names a path that meets its two
  pub record MovedIn (g : List Entry) : Type 0 where
    pub older : List Entry
    pub e : Entry
    pub id : ℕ
    pub what_is : e.what ≡ Step id (Moved (pair_at source target))
    pub spared : AreSparedSince (pair_at source target) (e ∷ older) g
    pub unnamed : AllUnnamed older

  -- and nothing stands at the source
  abbrev pub IsGone : List Entry → Type 0
  IsGone g = (shown g source).value ≡ None

  abbrev pub MovedAt : List Entry → Type 0
  MovedAt g = MovedIn g × IsGone g

  -- nothing stands where it was
  gone_then : (v : View) → AreApart (pair_at source target) → (moved_by (pair_at source target) v source).value ≡ None
  gone_then v apart =
      ap (λ b. (let s : Spot = if b then v (moved_from source target source) else (if is_prefix source source then nothing_there else v source) in s.value)) off
      ∙ ap (λ b. (let s : Spot = if b then nothing_there else v source in s.value)) (is_below source [])
    where
      off : is_prefix target source ≡ false
      off = false_from_ne_true _ (λ below. let w = below_way target source below in apart [] w.0 w.1)

  -- an entry that names no path
  quiet : (e : Entry) (g : List Entry) → ((path : Route) → names_path e.what path ≡ false) → AllUnnamed g ⊎ MovedAt g → AllUnnamed (e ∷ g) ⊎ MovedAt (e ∷ g)
  quiet e g none (inl all) = inl (λ path. inr (none path, all path))
  quiet e g none (inr (m, gone)) = inr (
    record { older = m.older; e = m.e; id = m.id; what_is = m.what_is; spared = inr (λ path on. none path, m.spared); unnamed = m.unnamed },
    ap (λ (s : Spot). s.value) (event_unchanged (log_prefix opening e.calls end) e.what (live_jobs g) (shown g) source (none source)) ∙ gone,
  )

  no_value : (v : View) → is_some (v source).value ≡ true → (v source).value ≡ None → ⊥
  no_value v some none = true≢false (sym some ∙ ap is_some none)

  -- so one entry more, at the move
  extended : (e : Entry) (g : List Entry) → First (e ∷ g) → IsAtSince begun g → AllUnnamed g ⊎ MovedAt g → AllUnnamed (e ∷ g) ⊎ MovedAt (e ∷ g)
  extended e g first since known = by e.what refl
    where
      stepped : (id : ℕ) (did : Did) → e.what ≡ Step id did → (at : AtStep opening tree settled end e g id did) → OnlyMoves (shown g) (pair_at source target) did → AllUnnamed (e ∷ g) ⊎ MovedAt (e ∷ g)
      stepped id did is at only = elim (how_moves (shown g) (pair_at source target) did only) [
        | inl moves ↦ moved moves.0 moves.1 known
        | inr plain ↦
            let p = plain_unnamed did plain in
            quiet e g (λ path. ap (λ w. names_path w path) is ∙ p path) known
      ]
        where
          moved : did ≡ Moved (pair_at source target) → IsGoing (shown g) (pair_at source target) → AllUnnamed g ⊎ MovedAt g → AllUnnamed (e ∷ g) ⊎ MovedAt (e ∷ g)
          moved did_is goes (inr m) = absurd (no_value (shown g) goes.some m.1)
          moved did_is goes (inl all) = inr (
            record { older = g; e = e; id = id; what_is = is ∙ ap (Step id) did_is; spared = inl refl; unnamed = all },
            ap (λ (v : View). (v source).value) at.shows ∙ (ap (λ d. (replayed_step (log_prefix opening e.calls end) d (Some at.item) (shown g) source).value) did_is ∙ gone_then (shown g) goes.apart),
          )

      by : (what : Event) → e.what ≡ what → AllUnnamed (e ∷ g) ⊎ MovedAt (e ∷ g)
      by (Step id did) is =
          let at : AtStep opening tree settled end e g id did = at_step opening tree settled end e g id did first is in
          stepped id did is at (subst (λ i. StepFact i (shown g) at.part did) (subst (AllLive (λ i. i ≡ Moves source target)) at.live (live_since begun (λ i. i ≡ Moves source target) its g since)).0 at.fact)
      by (event.Began id plan background) is = quiet e g (λ path. ap (λ w. names_path w path) is) known
      by (Order id order) is = quiet e g (λ path. ap (λ w. names_path w path) is) known
      by (Next id plan) is = quiet e g (λ path. ap (λ w. names_path w path) is) known
      by (Key key time refusals lost) is = quiet e g (λ path. ap (λ w. names_path w path) is) known
      by (Look refusals) is = quiet e g (λ path. ap (λ w. names_path w path) is) known
      by Sought is = quiet e g (λ path. ap (λ w. names_path w path) is) known
      by Closed is = quiet e g (λ path. ap (λ w. names_path w path) is) known

  pub moves_at : (g : List Entry) → First g → IsAtSince begun g → AllUnnamed g ⊎ MovedAt g
  moves_at [] first since = inl (λ path. since)
  moves_at (e ∷ g) first (inl same) = inl (λ path. inl same)
  moves_at (e ∷ g) first (inr (none, since)) = extended e g first since (moves_at g (before_newest opening tree settled end e g first) since)

  in_move : (g : List Entry) → First g → IsAtSince begun g → AllSpared g ⊎ MovedIn g
  in_move g first since = elim (moves_at g first since) [ inl all ↦ inl (λ path on. all path) | inr m ↦ inr m.0 ]

  -- and where other sources were taken up, but no such path was named for them
  stays : (e : Entry) (g : List Entry) → Spares source target e.what → AllSpared g ⊎ MovedIn g → AllSpared (e ∷ g) ⊎ MovedIn (e ∷ g)
  stays e g spares (inl all) = inl (λ path on. inr (spares path on, all path on))
  stays e g spares (inr m) = inr (record { older = m.older; e = m.e; id = m.id; what_is = m.what_is; spared = inr (spares, m.spared); unnamed = m.unnamed })

  further : (e : Entry) (g : List Entry) → First (e ∷ g) → Spares source target e.what ⊎ IsAtSince begun g → AllSpared g ⊎ MovedIn g → AllSpared (e ∷ g) ⊎ MovedIn (e ∷ g)
  further e g first (inl spares) known = stays e g spares known
  further e g first (inr since) known = elim (taken_either e.what) [
    | inl none ↦ in_move (e ∷ g) first (inr (none, since))
    | inr (item, is) ↦ stays e g (λ path on. takes_names e.what item is path) known
  ]

  pub moves_since : (g : List Entry) → First g → LastsSince begun (Spares source target) g → AllSpared g ⊎ MovedIn g
  moves_since [] first since = inl (λ path on. since)
  moves_since (e ∷ g) first (inl same) = inl (λ path on. inl same)
  moves_since (e ∷ g) first (inr (how, since)) = further e g first how (moves_since g (before_newest opening tree settled end e g first) since)
