-- What a path holds after a crash at a moment, from where a source was taken up on: what it held then, or what the job that is at that source made of it.
use Rattle.std.proofs.Common.{◌≡◌, ◌⊎◌, ℕ, ◌+◌, ◌≤◌, Bool, true, false, List, [], ◌∷◌, length, refl, sym, ◌∙◌, ap, subst, inl, inr, Option, Some, None, arith, append-nil}
use Rattle.std.specs.Prelude.{is_some}
use Rattle.mc_text.specs.Routes.{Route}
use Rattle.tree_trait.specs.declared.file_system.FileSystem.{FileSystem}
use Rattle.tree_trait.specs.Shape.{IsTree}
use Rattle.tree_trait.specs.Change.{CallLog, current}
use Rattle.tree_trait.specs.CrashImages.{Among, IsCrashImage, all_settled}
use Rattle.tree_trait.specs.FileSystem.{Spot, Value, View, find, value_at}
use Rattle.job_reports.specs.Jobs.{ItemOfJob}
use Rattle.session_entries.specs.declared.history.Event.{Event}
use Rattle.session_entries.specs.declared.history.Entry.{Entry}
use Rattle.session_entries.specs.Entries.{IsMoment, calls_in}
use Rattle.session_entries.specs.LiveJobs.{LiveJob, live_jobs}
use Rattle.session_entries.specs.Named.{IsUnnamedSince, named_parts, names_path}
use Rattle.laws_outcomes.specs.Touched.{IsPartAt, LastsSince, WasPart, taken_up}
use Rattle.copy_move.specs.Jobs.{Running}
use Rattle.laws_sessions.specs.Doubt.{is_unsettled}
use Rattle.laws_sessions.specs.Replayed.{earlier_tree, log_prefix, replayed_tree}
use Rattle.laws_sessions.specs.Safe.{IsSafe}
use Rattle.laws_sessions.specs.Traces.{IsTraced, Stand}
use Rattle.laws_sessions.proofs.Histories.{IsReached, traced_reached}
use Rattle.laws_sessions.proofs.Holding.{holds_or_comes, holds_since}
use Rattle.laws_sessions.proofs.Moments.{log_of, prefix_is, session_law, traced_count}
use Rattle.laws_sessions.proofs.Prefixes.{replayed_more, told_of}
use Rattle.laws_sessions.proofs.Reports.{HasLive, JobsKnow}
use Rattle.laws_sessions.proofs.Unnamed.{replayed_since}
use Rattle.laws_outcomes.specs.KeepsFiles.{IsLeft, IsPromised, stood}
use Rattle.laws_outcomes.proofs.CutEntries.{IsFirst, IsMade, IsNever, IsOff, Known, before_newest, known_since, off_named}
use Rattle.laws_outcomes.proofs.CutLive.{AllJobs, AllLive, just_bare, taken_just}

-- what begins these entries
module _ (begun : List Entry) (IsStill : Event → Type 0) where
  left_longer : (g : List Entry) → LastsSince begun IsStill g → length begun ≤ length g
  left_longer [] same = let n = ap (λ (xs : List Entry). length xs) same in omega (arith, n)
  left_longer (e ∷ g) (inl same) = let n = ap (λ (xs : List Entry). length xs) same in omega (arith, n)
  left_longer (e ∷ g) (inr (how, since)) = let n = left_longer g since in omega (arith, n)

  -- an entry more, and no name of the path since
  pub unnamed_before : (standing coming : List Entry) (path : Route) → LastsSince begun IsStill standing → (coming ≡ standing) ⊎ ((e : Entry) × (coming ≡ e ∷ standing)) → IsUnnamedSince begun path coming → IsUnnamedSince begun path standing
  unnamed_before standing coming path left (inl same) since = subst (IsUnnamedSince begun path) same since
  unnamed_before standing coming path left (inr (e, is)) since = by (subst (IsUnnamedSince begun path) is since)
    where
      by : IsUnnamedSince begun path (e ∷ standing) → IsUnnamedSince begun path standing
      by (inl same) = let n = ap (λ (xs : List Entry). length xs) same in let k = left_longer standing left in absurd (omega (arith, n, k))
      by (inr (unnamed, before)) = before

module _ (opening : CallLog) (tree : IsTree (current opening)) (settled : all_settled opening.changes ≡ true) (end : CallLog) where
  abbrev First : List Entry → Type 0
  First g = IsFirst opening tree settled end g

  abbrev shown : List Entry → View
  shown g = replayed_tree opening end g

  -- the entries of a moment are the first ones
  pub record IsFirstTwo (standing coming : List Entry) : Type 0 where
    pub stands : First standing
    pub comes : First coming
    pub next : (coming ≡ standing) ⊎ ((e : Entry) × (coming ≡ e ∷ standing))

  pub moments : (g standing coming : List Entry) (calls : ℕ) → First g → IsMoment g standing coming calls → IsFirstTwo standing coming
  moments [] standing coming calls first (standing_is, coming_is, calls_is) =
      record { stands = subst (λ g. First g) (sym standing_is) first; comes = subst (λ g. First g) (sym coming_is) first; next = inl (coming_is ∙ sym standing_is) }
  moments (e ∷ g) standing coming calls first (inl (standing_is, coming_is, calls_is)) =
      record { stands = subst (λ g. First g) (sym standing_is) first; comes = subst (λ g. First g) (sym coming_is) first; next = inl (coming_is ∙ sym standing_is) }
  moments (e ∷ g) standing coming calls first (inr (inl (standing_is, coming_is, least, most))) = record {
    stands = subst (λ g. First g) (sym standing_is) (before_newest opening tree settled end e g first);
    comes = subst (λ g. First g) (sym coming_is) first;
    next = inr (e, coming_is ∙ ap (λ (xs : List Entry). e ∷ xs) (sym standing_is));
  }
  moments (e ∷ g) standing coming calls first (inr (inr earlier)) = moments g standing coming calls (before_newest opening tree settled end e g first) earlier

  pub begun_first : (begun : List Entry) (IsStill : Event → Type 0) (g : List Entry) → First g → LastsSince begun IsStill g → First begun
  begun_first begun IsStill [] first same = subst (λ g. First g) (sym same) first
  begun_first begun IsStill (e ∷ g) first (inl same) = subst (λ g. First g) (sym same) first
  begun_first begun IsStill (e ∷ g) first (inr (how, since)) = begun_first begun IsStill g (before_newest opening tree settled end e g first) since

  -- what the history tells stood there, but of a part that stands
  module _ (begun : List Entry) (first : First begun) where
    r : IsReached opening begun first.stand first.now
    r = traced_reached opening tree settled begun first.stand first.now first.traced

    shown_at : (path : Route) → (r.part ≡ Some path → ⊥) → stood (log_prefix opening (calls_in begun) end) path ≡ (shown begun path).value
    shown_at path none =
        ap (λ (l : CallLog). stood l path) at
        ∙ (ap (λ (s : Spot). s.value) (r.kept.known.shows path none)
        ∙ ap (λ (v : View). (v path).value) (sym (ap (λ (l : CallLog). replayed_tree opening l begun) first.end_is ∙ replayed_more opening first.now first.rest begun r.within)))
      where
        at : log_prefix opening (calls_in begun) end ≡ first.now
        at = let n = traced_count opening first.now begun first.stand first.traced in prefix_is opening end (calls_in begun) first.now first.rest first.end_is (omega (arith, n))

    -- so it is of a path that is no part's
    pub stood_apart : (path : Route) → (IsPartAt begun path → ⊥) → stood (log_prefix opening (calls_in begun) end) path ≡ (shown begun path).value
    stood_apart path off = shown_at path (λ is. off (inl (r.kept.known.aside path (r.kept.known.part path is).0)))

    -- and of each, where a source is taken up
    pub stood_shown : (item : ItemOfJob) → taken_up begun ≡ Some item → (path : Route) → stood (log_prefix opening (calls_in begun) end) path ≡ (shown begun path).value
    stood_shown item taken path = shown_at path (λ is. no_part (sym none ∙ is))
      where
        none_stand : AllJobs (λ l. l.part ≡ None) (live_jobs begun)
        none_stand = just_bare item (live_jobs begun) (taken_just opening tree settled begun first.stand first.now first.traced item taken)

        no_part : (let o : Option Route = None in o) ≡ Some path → ⊥
        no_part is = cc

        by_jobs : (jobs : List Running) → first.stand.jobs ≡ jobs → r.part ≡ None
        by_jobs [] is = subst (λ js. JobsKnow (told_of opening first.now begun r.part) (let s = first.stand in s.dirty) r.marks first.now js) is r.knows
        by_jobs (job ∷ []) is = (subst (AllJobs (λ l. l.part ≡ None)) (subst (λ js. HasLive (live_jobs begun) js r.part) is r.live) none_stand).0
        by_jobs (job ∷ other ∷ jobs) is = absurd (subst (λ js. HasLive (live_jobs begun) js r.part) is r.live)

        none : r.part ≡ None
        none = by_jobs first.stand.jobs refl

  module _ (newest begun standing coming : List Entry) (stand : Stand) (calls : ℕ) (image : FileSystem) (traced : IsTraced opening newest stand end) (moment : IsMoment newest standing coming calls) (left : IsCrashImage end (length opening.changes + calls) image) where
    pub two : IsFirstTwo standing coming
    two = moments newest standing coming calls (record { stand = stand; now = end; rest = []; traced = traced; end_is = ap (log_of end) (sym (append-nil end.changes)) }) moment

    module _ (path : Route) (l : IsLeft (log_prefix opening (calls_in begun) end) begun standing coming path) where
      firm : IsPromised (log_prefix opening (calls_in begun) end) begun path
      firm = l.firm

      pub stood_first : stood (log_prefix opening (calls_in begun) end) path ≡ (shown begun path).value
      stood_first = stood_apart begun (begun_first begun (λ what. names_path what path ≡ false) coming two.comes l.later) path firm.no_part

      module _ (Its : ItemOfJob → Type 0) (its : AllLive Its (live_jobs begun)) (Is : Option Value → Type 0) (made : IsMade opening tree settled end begun path Its its Is) where
        abbrev Holds : Type 0
        Holds = (value_at image path ≡ stood (log_prefix opening (calls_in begun) end) path) ⊎ Is (value_at image path)

        abbrev KnownAt : List Entry → Type 0
        KnownAt g = Known opening tree settled end begun path Its its Is g × IsOff opening tree settled end begun path Its its g

        abbrev Never : List Entry → Type 0
        Never g = IsNever opening tree settled end begun path Its its g

        same : (g : List Entry) → IsUnnamedSince begun path g → (shown g path).value ≡ (shown begun path).value
        same g since = ap (λ (s : Spot). s.value) (replayed_since opening end begun g path since)

        off_begun : IsOff opening tree settled end begun path Its its begun
        off_begun = by (shown begun path).value refl
          where
            by : (o : Option Value) → (shown begun path).value ≡ o → IsOff opening tree settled end begun path Its its begun
            by None is = inl is
            by (Some x) is = inr (λ none. (let e : (let o : Option Value = Some x in o) ≡ None = sym is ∙ none in let f : ⊥ = cc in f), firm.no_part)

        never_coming : Never coming
        never_coming none was = l.bare (stood_first ∙ none) was

        never_standing : Never standing
        never_standing none was = l.bare (stood_first ∙ none) (elim two.next [
          | inl is ↦ subst (λ g. WasPart g path) (sym is) was
          | inr more ↦ subst (λ g. WasPart g path) (sym more.1) (inr was)
        ])

        stands : KnownAt standing
        stands = known_since opening tree settled end begun path Its its Is made same standing two.stands l.since never_standing off_begun

        comes : KnownAt coming
        comes = known_since opening tree settled end begun path Its its Is made same coming two.comes l.later never_coming off_begun

        bare : (Among (named_parts begun) path → ⊥) ⊎ (is_some (find (current (log_prefix opening (calls_in begun) end)) path) ≡ false)
        bare = inl (λ among. firm.no_part (inl among))

        -- by what is safe as of entries that changed it
        safe_of : (g : List Entry) → (Among (named_parts g) path → ⊥) → Is (shown g path).value × (((earlier_tree opening end g path).value ≡ (shown begun path).value) ⊎ Is (earlier_tree opening end g path).value)
            → IsSafe opening end g (log_prefix opening calls end) image → Holds
        safe_of g apart known safe = elim (safe path (λ part. apart part.named)) [
          | inl now ↦ inr (subst Is (sym now) known.0)
          | inr doubt ↦ elim known.1 [ inl first ↦ inl (doubt.1 ∙ (first ∙ sym stood_first)) | inr so ↦ inr (subst Is (sym doubt.1) so) ]
        ]

        pub at_path : Holds
        at_path = by comes stands
          where
            apart : (g : List Entry) → KnownAt g → Never g → Among (named_parts g) path → ⊥
            apart g known never = off_named opening tree settled end begun path Its its g known.1 never

            by : KnownAt coming → KnownAt standing → Holds
            by (inl unnamed, off) known =
                inl (holds_since opening end newest begun standing coming stand calls path image tree settled traced moment (unnamed_before begun (λ what. names_path what path ≡ false) standing coming path l.since two.next unnamed) unnamed firm.on_disk bare left ∙ sym stood_first)
            by (inr changed, off) (inl unnamed, before_off) = elim (holds_or_comes opening end newest begun standing coming stand calls path image tree settled traced moment unnamed firm.on_disk bare left) [
              | inl holds ↦ inl (holds ∙ sym stood_first)
              | inr safe ↦ safe_of coming (apart coming comes never_coming) changed safe
            ]
            by (inr changed, off) (inr before, before_off) = elim (session_law opening end newest standing coming stand calls image tree settled traced moment left) [
              | inl safe ↦ safe_of standing (apart standing stands never_standing) before safe
              | inr safe ↦ safe_of coming (apart coming comes never_coming) changed safe
            ]
