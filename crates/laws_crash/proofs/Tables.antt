-- What a table of jobs keeps.
use Rattle.laws_crash.specs.Possible.{MayFind}
use Rattle.tree_trait.specs.Refusals.{is_folder}
use Rattle.std.proofs.Common.{◌≡◌, Bool, true, false, ◌||◌, ◌&&◌, not, List, [], ◌∷◌, refl, sym, ◌∙◌, ap, subst, inl, inr, ◌⊎◌, cond, ℕ, length, Option, Some, None}
use Rattle.std.proofs.lemmas.Bool.{true≢false, or_left, or_right, both_ways}
use Rattle.mc_text.specs.Routes.{Route}
use Rattle.tree_trait.specs.FileSystem.{find, value_at, node}
use Rattle.tree_trait.specs.Change.{Change, Sets, Syncs, CallLog, current, with_change}
use Rattle.tree_trait.specs.CrashImages.{Among, says}
use Rattle.laws_crash.specs.Guarded.{Marks, IsGuarded, IsSettledAt, Holds}
use Rattle.laws_crash.specs.Modes.{marks_with_mode, marks_without_mode}
use Rattle.laws_crash.specs.Table.{Live, IsTable, is_written, SafeLaw, StepLaw, CalmLaw, ModeStepLaw, BeginLaw, RestLaw, NodesLaw, at_rest, begins}
use Rattle.laws_crash.proofs.Guarding.{guard_law, naming_law, quiet_law, settle_law, find_same, same_quiet}
use Rattle.laws_crash.proofs.ModeLaws.{setting_law}

pub safe_law : SafeLaw
safe_law jobs doubt marks log image table left =
    let holds = λ (p : Route) (out : marks.aside p ≡ false). guard_law marks log image p table.guarded left out in
    record {
      outside = λ p out sure free. same_now p out (table.rest p out sure free);
      read = λ job p is out sure reads.
          subst (λ o. Holds marks (current log) (value_at image p) o) (table.read job p is out reads) (same_now p out (table.rest p out sure (table.apart job p is reads)));
      written = λ job p is out sure writes.
          elim (holds p out) [
            | inl now ↦ inl now
            | inr before ↦ elim (table.begun job p is out sure writes) [
              | inl found ↦ inr (subst (λ o. Holds marks (current log) (value_at image p) o) found before)
              | inr now ↦ inl (subst (λ o. Holds marks (current log) (value_at image p) o) now before)
            ]
          ];
      doubtful = λ p out. holds p out;
    }
  where
    same_now : (p : Route) → marks.aside p ≡ false → marks.was p ≡ find (current log) p → Holds marks (current log) (value_at image p) (find (current log) p)
    same_now p out same =
        elim (guard_law marks log image p table.guarded left out) [
          | inl now ↦ now
          | inr before ↦ subst (λ o. Holds marks (current log) (value_at image p) o) same before
        ]

-- a path that one of the jobs writes
pub written_by : (jobs : List Live) (job : Live) (p : Route) → Among jobs job → job.writes p ≡ true → is_written jobs p ≡ true
written_by [] job p is writes = absurd is
written_by (first ∷ jobs) job p (inl same) writes = or_left _ _ (ap (λ (j : Live). j.writes p) (sym same) ∙ writes)
written_by (first ∷ jobs) job p (inr is) writes = or_right _ _ (written_by jobs job p is writes)

pub step_law : StepLaw
step_law jobs job doubt marks log c table is keeps once naming = record {
  guarded = naming_law marks log c table.guarded naming;
  rest = λ p out sure free. table.rest p out sure free ∙ sym (stays p out free);
  begun = λ other p at out sure is_mine. still_begun other p at out is_mine (table.begun other p at out sure is_mine);
  read = λ other p at out reads. stays p out (table.apart other p at reads) ∙ table.read other p at out reads;
  apart = table.apart;
}
  where
    stays : (p : Route) → marks.aside p ≡ false → is_written jobs p ≡ false → find (current (with_change log c)) p ≡ find (current log) p
    stays p out free =
        elim (find_same log c p) [
          | inl same ↦ same
          | inr under ↦ absurd (both_ways _ free (written_by jobs job p is (keeps p under out)))
        ]

    still_begun : (other : Live) (p : Route) → Among jobs other → marks.aside p ≡ false → other.writes p ≡ true → (marks.was p ≡ other.start p) ⊎ (marks.was p ≡ find (current log) p)
        → (marks.was p ≡ other.start p) ⊎ (marks.was p ≡ find (current (with_change log c)) p)
    still_begun other p at out mine (inl found) = inl found
    still_begun other p at out mine (inr now) =
        elim (find_same log c p) [
          | inl same ↦ inr (now ∙ sym same)
          | inr under ↦ elim (once other p at mine under out) [ inl found ↦ inl (now ∙ found) | inr same ↦ inr (now ∙ same) ]
        ]

-- a change that says nothing of any name, with other marks of modes
unnamed_table : (jobs : List Live) (doubt : Route → Bool) (marks : Marks) (modes : ℕ → Option ℕ) (log : CallLog) (c : Change) → ((g : ℕ) (m : List ℕ) → says c (length (current log).nodes) g m ≡ None)
    → IsGuarded (record marks { modes = modes }) (with_change log c) → IsTable jobs doubt marks log → IsTable jobs doubt (record marks { modes = modes }) (with_change log c)
unnamed_table jobs doubt marks modes log c names guarded table = record {
  guarded = guarded;
  rest = λ p out sure free. table.rest p out sure free ∙ sym (same_quiet log c names p);
  begun = λ other p at out sure is.
      elim (table.begun other p at out sure is) [ inl found ↦ inl found | inr now ↦ inr (now ∙ sym (same_quiet log c names p)) ];
  read = λ other p at out reads. same_quiet log c names p ∙ table.read other p at out reads;
  apart = table.apart;
}

pub calm_law : CalmLaw
calm_law jobs doubt marks log c table quiet = unnamed_table jobs doubt marks marks.modes log c quiet.names (quiet_law marks log c table.guarded quiet) table

pub mode_step_law : ModeStepLaw
mode_step_law = record {
  sets = λ jobs doubt marks log i mode table there firm none.
      unnamed_table jobs doubt marks (let m = marks_with_mode i (node (current log) i).mode marks in m.modes) log (Sets i mode) (λ g n. refl)
      (setting_law.sets marks log i mode table.guarded there firm none) table;
  synced = λ jobs doubt marks log i table.
      unnamed_table jobs doubt marks (let m = marks_without_mode i marks in m.modes) log (Syncs i) (λ g n. refl) (setting_law.synced marks log i table.guarded) table;
}

or_none : (a b : Bool) → a ≡ false → b ≡ false → (a || b) ≡ false
or_none true b x y = absurd (true≢false x)
or_none false b x y = y

unwritten : (a b : Bool) → (a || b) ≡ false → (a ≡ false) × (b ≡ false)
unwritten true b h = absurd (true≢false h)
unwritten false b h = (refl, h)

pub begin_law : BeginLaw
begin_law jobs id writes reads doubt marks log table free = record {
  guarded = table.guarded;
  rest = λ p out sure none. table.rest p out sure (unwritten (writes p) (is_written jobs p) none).1;
  begun = begun;
  read = read;
  apart = apart;
}
  where
    begun : (job : Live) (p : Route) → Among (begins id writes reads log ∷ jobs) job → marks.aside p ≡ false → doubt p ≡ false → job.writes p ≡ true
        → (marks.was p ≡ job.start p) ⊎ (marks.was p ≡ find (current log) p)
    begun job p (inl same) out sure is =
        inl (table.rest p out sure (free.writes_free p (ap (λ (j : Live). j.writes p) (sym same) ∙ is)) ∙ ap (λ (j : Live). j.start p) (sym same))
    begun job p (inr at) out sure is = table.begun job p at out sure is

    read : (job : Live) (p : Route) → Among (begins id writes reads log ∷ jobs) job → marks.aside p ≡ false → job.reads p ≡ true → find (current log) p ≡ job.start p
    read job p (inl same) out is = ap (λ (j : Live). j.start p) (sym same)
    read job p (inr at) out is = table.read job p at out is

    apart : (job : Live) (p : Route) → Among (begins id writes reads log ∷ jobs) job → job.reads p ≡ true → (writes p || is_written jobs p) ≡ false
    apart job p (inl same) is =
        let mine = ap (λ (j : Live). j.reads p) (sym same) ∙ is in
        or_none _ _ (free.own p mine) (free.read_free p mine)
    apart job p (inr at) is = or_none _ _ (free.reads_free job p at is) (table.apart job p at is)

-- what no more jobs write, fewer don't
fewer_write : (jobs after : List Live) (p : Route) → ((job : Live) → Among after job → Among jobs job) → is_written jobs p ≡ false → is_written after p ≡ false
fewer_write jobs [] p fewer none = refl
fewer_write jobs (job ∷ after) p fewer none =
    or_none _ _ (unwritten_by (job.writes p) refl) (fewer_write jobs after p (λ j at. fewer j (inr at)) none)
  where
    unwritten_by : (b : Bool) → job.writes p ≡ b → job.writes p ≡ false
    unwritten_by true is = absurd (both_ways _ none (written_by jobs job p (fewer job (inl refl)) is))
    unwritten_by false is = is

and_not : (a b : Bool) → (a && not b) ≡ false → b ≡ false → a ≡ false
and_not true true h e = e
and_not true false h e = h
and_not false b h e = refl

neither : (a b : Bool) → (a || b) ≡ true → a ≡ false → b ≡ false → ⊥
neither true b h x y = true≢false x
neither false b h x y = both_ways b y h

pub rest_law : RestLaw
rest_law over left jobs after doubt marks log table rests = record {
  guarded = settle_law marks (at_rest over log marks) log table.guarded (record {
    paths = λ p out. at_path p (over p) refl out;
    nodes = λ i firm. inl (firm, refl);
    firm = λ p i out at. firm_at p (over p) refl i out at (marks.aside p) refl;
    places = λ i stays. inl stays;
  });
  rest = λ p out sure none. at_rest_now p (over p) refl out sure none;
  begun = λ job p at out sure is. found p (over p) refl job at out sure is;
  read = λ job p at out is. found_read p (over p) refl job at out is;
  apart = λ job p at is. fewer_write jobs after p rests.fewer (table.apart job p (rests.fewer job at) is);
}
  where
    at_path : (p : Route) (b : Bool) → over p ≡ b → (marks.aside p && not (over p)) ≡ false
        → ((marks.aside p ≡ false) × (cond (over p) (find (current log) p) (marks.was p) ≡ marks.was p)) ⊎ IsSettledAt log p
    at_path p true is out = inr (rests.settled p is)
    at_path p false is out = inl (and_not _ _ out is, rw is refl)

    firm_at : (p : Route) (b : Bool) → over p ≡ b → (i : ℕ) → (marks.aside p && not (over p)) ≡ false → MayFind log p (Some i) → (a : Bool) → marks.aside p ≡ a
        → (marks.loose i ≡ false) ⊎ (is_folder (node (current log) i) ≡ true)
    firm_at p true is i out found true aside = rests.solid p i aside is (sym (rests.settled p is (Some i) found))
    firm_at p true is i out found false aside = table.guarded.firm p i aside found
    firm_at p false is i out found a aside = table.guarded.firm p i (and_not _ _ out is) found

    at_rest_now : (p : Route) (b : Bool) → over p ≡ b → (marks.aside p && not (over p)) ≡ false → (left p || (doubt p && not (over p))) ≡ false → is_written after p ≡ false
        → cond (over p) (find (current log) p) (marks.was p) ≡ find (current log) p
    at_rest_now p true is out sure none = rw is refl
    at_rest_now p false is out sure none =
        let d = unwritten (left p) (doubt p && not (over p)) sure in
        rw is (table.rest p (and_not _ _ out is) (and_not _ _ d.1 is) (before (is_written jobs p) refl d.0))
      where
        before : (b : Bool) → is_written jobs p ≡ b → left p ≡ false → is_written jobs p ≡ false
        before true at no_doubt = absurd (neither (over p) (left p) (rests.rests p at none) is no_doubt)
        before false at no_doubt = at

    found : (p : Route) (b : Bool) → over p ≡ b → (job : Live) → Among after job → (marks.aside p && not (over p)) ≡ false → (left p || (doubt p && not (over p))) ≡ false → job.writes p ≡ true
        → (cond (over p) (find (current log) p) (marks.was p) ≡ job.start p) ⊎ (cond (over p) (find (current log) p) (marks.was p) ≡ find (current log) p)
    found p true over_is job at out sure is = inr (rw over_is refl)
    found p false over_is job at out sure is =
        elim (table.begun job p (rests.fewer job at) (and_not _ _ out over_is) (and_not _ _ (unwritten (left p) (doubt p && not (over p)) sure).1 over_is) is) [
          | inl before ↦ inl (rw over_is before)
          | inr now ↦ inr (rw over_is now)
        ]

    found_read : (p : Route) (b : Bool) → over p ≡ b → (job : Live) → Among after job → (marks.aside p && not (over p)) ≡ false → job.reads p ≡ true → find (current log) p ≡ job.start p
    found_read p true over_is job at out is = rests.unchanged job p at over_is is
    found_read p false over_is job at out is = table.read job p (rests.fewer job at) (and_not _ _ out over_is) is

pub nodes_law : NodesLaw
nodes_law jobs doubt marks loose roams log table may = record {
  guarded = settle_law marks (record marks { loose = loose; roams = roams }) log table.guarded may;
  rest = table.rest;
  begun = table.begun;
  read = table.read;
  apart = table.apart;
}
