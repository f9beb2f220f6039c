-- What a job did with one source is still so where it is done with a later one, if none since then touches what concerns it.
use Rattle.std.proofs.Common.{◌≡◌, ℕ, Bool, true, false, not, List, [], ◌∷◌, ◌++◌, length, refl, sym, ◌∙◌, ap, subst, inl, inr, Option, Some, None, arith}
use Rattle.std.specs.Prelude.{◌==◌, if◌then◌else◌}
use Rattle.std.specs.Option.{option_map, option_map_or}
use Rattle.std.proofs.lemmas.Bool.{eq-eqb, eqb-true, false≢true, or_left, or_right}
use Rattle.mc_text.specs.Routes.{Route, is_prefix}
use Rattle.tree_trait.specs.FileSystem.{Spot, View}
use Rattle.tree_trait.specs.Shape.{IsTree}
use Rattle.tree_trait.specs.Change.{CallLog, current}
use Rattle.tree_trait.specs.CrashImages.{all_settled}
use Rattle.tree_trait.proofs.Visible.{same_path-self}
use Rattle.job_reports.specs.Jobs.{ItemOfJob, Copies, Moves, Removes, Makes, MakesLink, Sets, RemovesEmptied}
use Rattle.session_entries.specs.declared.history.Event.{Event}
use Rattle.session_entries.specs.declared.history.Event.TheVariants.{Key, Look, Sought, Order, Step, Next, Closed}
use Rattle.session_entries.specs.declared.history.Event.TheVariants as event
use Rattle.session_entries.specs.declared.history.Entry.{Entry}
use Rattle.session_entries.specs.Entries.{IsMoment}
use Rattle.session_entries.specs.LiveJobs.{live_item, live_jobs}
use Rattle.session_entries.specs.Sources.{IsDoneWith}
use Rattle.laws_sessions.specs.Replayed.{replayed_tree}
use Rattle.laws_sessions.specs.Traces.{IsTraced, Stand}
use Rattle.laws_sessions.proofs.Intact.{prefix_append}
use Rattle.laws_outcomes.specs.AllSources.{GoesOn, IsLeftSince, concerns, is_elsewhere}
use Rattle.laws_outcomes.specs.OutcomeLaws.{AllSourcesLaw}
use Rattle.laws_outcomes.specs.Begun.{begun_after, tree_begun}
use Rattle.laws_outcomes.specs.Outcomes.{IsOutcome, as_copied}
use Rattle.laws_outcomes.specs.Touched.{touches}
use Rattle.laws_outcomes.proofs.Elsewhere.{untouched_since}
use Rattle.laws_outcomes.proofs.Outcome.{outcome_law}

-- an outcome hangs on what concerns the item alone
outcome_same : (item : ItemOfJob) (passed : List Route) (begun v w : View) → ((path : Route) → concerns item path ≡ true → w path ≡ v path) → IsOutcome item passed begun v → IsOutcome item passed begun w
outcome_same (Copies source target) passed begun v w same k = λ rest off reached.
    ap (λ (s : Spot). s.value) (same (rest ++ target) (or_left _ _ (prefix_append target rest)))
    ∙ (k rest off reached ∙ ap (λ (s : Spot). option_map as_copied s.value) (sym (same (rest ++ source) (or_right (is_prefix target (rest ++ source)) _ (prefix_append source rest)))))
outcome_same (Moves source target) passed begun v w same k =
    let from = λ (rest : Route). same (rest ++ source) (or_left _ _ (or_left _ _ (prefix_append source rest))) in
    let to = λ (rest : Route). same (rest ++ target) (or_left _ _ (or_right (is_prefix source (rest ++ target)) _ (prefix_append target rest))) in
    record {
      went = λ reached rest. let h = k.went reached rest in (from rest ∙ h.0, to rest ∙ h.1);
      stays = λ among rest. let h = k.stays among rest in (from rest ∙ h.0, to rest ∙ h.1);
    }
outcome_same (Removes top) passed begun v w same k = λ rest reached. ap (λ (s : Spot). s.value) (same (rest ++ top) (or_left _ _ (prefix_append top rest))) ∙ k rest reached
outcome_same (Makes made) passed begun v w same k = λ reached. ap (λ (s : Spot). s.value) (same made (or_left _ _ (same_path-self made))) ∙ k reached
outcome_same (MakesLink made text) passed begun v w same k = λ reached. ap (λ (s : Spot). s.value) (same made (or_left _ _ (same_path-self made))) ∙ k reached
outcome_same (Sets thing mode) passed begun v w same k = λ reached. ap (λ (s : Spot). option_map (λ x. x.mode) s.value) (same thing (or_left _ _ (same_path-self thing))) ∙ k reached
outcome_same (RemovesEmptied folder) passed begun v w same k =
    let here = same folder (or_left _ _ (same_path-self folder)) in
    record { gone = λ reached. ap (λ (s : Spot). s.value) here ∙ k.gone reached; stays = λ among. here ∙ k.stays among }

-- where an entry ends is a moment, and so is where the one before it ended
moment_below : (newest g : List Entry) (e x : Entry) (calls : ℕ) → IsMoment newest (e ∷ x ∷ g) (e ∷ x ∷ g) calls → IsMoment newest (x ∷ g) (x ∷ g) x.calls
moment_below [] g e x calls (is, comes, made) = absurd (let f : ⊥ = cc in f)
moment_below (y ∷ ys) g e x calls (inl (is, comes, made)) =
    let rest : x ∷ g ≡ ys = cc in inr (inr (subst (λ (l : List Entry). IsMoment l (x ∷ g) (x ∷ g) x.calls) rest (inl (refl, refl, refl))))
moment_below (y ∷ ys) g e x calls (inr (inl (is, comes, least, most))) = absurd (let n = ap (λ (l : List Entry). length l) (sym is ∙ comes) in omega (arith, n))
moment_below (y ∷ ys) g e x calls (inr (inr older)) = inr (inr (moment_below ys g e x calls older))

not_true : (b : Bool) → not b ≡ true → b ≡ false
not_true true h = absurd (false≢true h)
not_true false h = refl

module _ (opening now : CallLog) (newest : List Entry) (stand : Stand) (tree : IsTree (current opening)) (settled : all_settled opening.changes ≡ true) (traced : IsTraced opening newest stand now) (id : ℕ) (path : Route) where
  abbrev At : List Entry → View
  At g = replayed_tree opening now g

  abbrev Begun : List Entry → View
  Begun g = tree_begun opening now id g

  -- an entry by which the job did nothing there
  elsewhere : (e : Entry) (g : List Entry) → IsMoment newest (e ∷ g) (e ∷ g) e.calls → is_elsewhere id path e.what (live_item id (live_jobs g)) ≡ true → Begun (e ∷ g) path ≡ Begun g path
  elsewhere e g moment left = by e.what (live_item id (live_jobs g)) refl refl left
    where
      turns : (number : ℕ) (b : Bool) (o : Option ItemOfJob) → (number == id) ≡ b → (number ≡ id → IsDoneWith id e.what) → live_item id (live_jobs g) ≡ o
          → (if b then option_map_or (λ i. not (touches i path)) o false else true) ≡ true → (let v : View = if b then At g else Begun g in v) path ≡ Begun g path
      turns number true (Some item) same done its off =
          untouched_since opening now newest stand tree settled traced e g id item path (record { ended = done (eqb-true number id same); its = its }) moment (not_true (touches item path) off)
      turns number true None same done its off = absurd (false≢true off)
      turns number false o same done its off = refl

      begins : (b : Bool) → not b ≡ true → (let v : View = if b then At g else Begun g in v) path ≡ Begun g path
      begins true off = absurd (false≢true off)
      begins false off = refl

      by : (what : Event) (o : Option ItemOfJob) → e.what ≡ what → live_item id (live_jobs g) ≡ o → is_elsewhere id path what o ≡ true → begun_after id what (At g) (Begun g) path ≡ Begun g path
      by (Next number plan) o is its off = turns number (number == id) o refl (λ same. subst (IsDoneWith id) (sym is) same) its off
      by (event.Began number plan background) o is its off = begins (number == id) off
      by (Step number did) o is its off = refl
      by (Key key time refusals lost) o is its off = refl
      by (Look refusals) o is its off = refl
      by Sought o is its off = refl
      by (Order number order) o is its off = refl
      by Closed o is its off = refl

  -- so the job began with its newest source where the path is as it was left
  begun_since : (first : Entry) (before : List Entry) (item : ItemOfJob) → GoesOn first before id item → (g : List Entry) (top : Entry) (calls : ℕ) → IsMoment newest (top ∷ g) (top ∷ g) calls
      → IsLeftSince id path (first ∷ before) g → Begun g path ≡ At before path
  begun_since first before item t [] top calls moment same = absurd (let f : ⊥ = cc in f)
  begun_since first before item t (e ∷ g) top calls moment (inl same) = subst (λ (l : List Entry). Begun l path ≡ At before path) same
      (ap (λ w. begun_after id w (At before) (Begun before) path) t.turns ∙ ap (λ b. (let v : View = if b then At before else Begun before in v) path) (eq-eqb id id refl))
  begun_since first before item t (e ∷ g) top calls moment (inr (left, since)) =
      let here = moment_below newest g top e calls moment in elsewhere e g here left ∙ begun_since first before item t g e e.calls here since

pub all_sources_law : AllSourcesLaw
all_sources_law opening now newest stand tree settled traced e first older before id last item h moment t then_moment apart =
    outcome_same item _ (tree_begun opening now id before) (replayed_tree opening now before) (replayed_tree opening now older)
    (λ path concerned.
    let off = apart path concerned in
    untouched_since opening now newest stand tree settled traced e older id last path h moment off.0
    ∙ begun_since opening now newest stand tree settled traced id path first before item t older e e.calls moment off.1)
    (outcome_law opening now newest stand tree settled traced first before id item (record { ended = subst (IsDoneWith id) (sym t.turns) refl; its = t.its }) then_moment)
