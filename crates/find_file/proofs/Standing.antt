-- What is yet to come, and how many steps are left, by where a walk stands; and the steps that make no call of the tree.
use Rattle.std.proofs.Common.{◌≡◌, ◌<◌, ◌≤◌, Bool, true, false, cond, List, [], ◌∷◌, ◌++◌, length, drop, refl, sym, ap, subst, ◌∙◌, arith, append_assoc}
use Rattle.std.specs.Prelude.{◌&&◌, ◌||◌, nat_lt, Option, Some, None, Result, Ok, Err, IfOk, IfErr}
use Rattle.std.proofs.lemmas.Bool.{lt-ltb, le-ltb}
use Rattle.mc_text.specs.declared.error.NoMemory.{NoMemory}
use Rattle.mc_text.specs.Routes.{Route, spelled_route}
use Rattle.tree_trait.specs.declared.file_system.FileSystem.{FileSystem}
use Rattle.find_file.specs.declared.opened.Child.{Child}
use Rattle.find_file.specs.declared.found.Found.{Found}
use Rattle.find_file.specs.declared.found.Found.TheVariants.{Path, End}
use Rattle.find_file.specs.declared.search.Search.{Search}
use Rattle.find_file.specs.declared.walk.Walk.{Walk}
use Rattle.find_file.specs.declared.walk.Task.{Task}
use Rattle.find_file.specs.declared.walk.Task.TheVariants.{Look}
use Rattle.find_file.specs.FoundList.Turn.{Tells}
use Rattle.find_file.specs.FoundList.{Turn, is_by_name, leaves_out, is_passed_over, path_if, look_turns, turns_below}
use Rattle.find_file.specs.Folders.{OpenFolder}
use Rattle.find_file.specs.Walks.{of_children, of_folders, left_of, left_in, rank_of_folders, rank_of, rank}
use Rattle.find_file.specs.Telling.{StandsAt, IsOver, Goes, Leads}
use Rattle.find_file.proofs.Levels.{is_short}
use Rattle.find_file.proofs.Ranking.{rank-taken, rank-past}

module _ (w : Walk) (task : Option Task) (inner : OpenFolder) (around : List OpenFolder) where
  pub left-at : (s : FileSystem) (search : Search) → StandsAt w task inner around → left_in s search w ≡ left_of s search task inner around
  left-at s search stands =
      ap (λ t. left_of s search t w.inner w.around.nearest) stands.task_is
      ∙ (ap (λ i. left_of s search task i w.around.nearest) stands.inner_is ∙ ap (λ a. left_of s search task inner a) stands.around_is)

  pub rank-at : StandsAt w task inner around → rank w ≡ rank_of task inner around
  rank-at stands =
      ap (λ t. rank_of t w.inner w.around.nearest) stands.task_is
      ∙ (ap (λ i. rank_of task i w.around.nearest) stands.inner_is ∙ ap (λ a. rank_of task inner a) stands.around_is)

-- nothing is passed
pub leads-now : (before after : List Turn) → before ≡ after → Leads before after
leads-now before after is = record { past = []; is = is }

module _ (search : Search) (old new : Walk) where
  falls-at : (t t' : Option Task) (i i' : OpenFolder) (a a' : List OpenFolder) → StandsAt old t i a → StandsAt new t' i' a'
      → rank_of t' i' a' < rank_of t i a → rank new < rank old
  falls-at t t' i i' a a' was is fewer =
      subst (λ n. rank new < n) (sym (rank-at old t i a was)) (subst (λ n. n < rank_of t i a) (sym (rank-at new t' i' a' is)) fewer)

  -- a step that tells nothing
  silent : (t t' : Option Task) (i i' : OpenFolder) (a a' : List OpenFolder) → StandsAt old t i a → StandsAt new t' i' a'
      → ((s : FileSystem) → left_of s search t' i' a' ≡ left_of s search t i a) → rank_of t' i' a' < rank_of t i a
      → (IsOver old → ⊥) → Goes search old new (Ok None)
  silent t t' i i' a a' was is left fewer more = record {
    steps = λ s. leads-now (left_in s search old) (left_in s search new) (left-at old t i a s search was ∙ (sym (left s) ∙ sym (left-at new t' i' a' s search is)));
    falls = λ _ _. falls-at t t' i i' a a' was is fewer;
    cause = refl;
    ended = λ h. absurd (cc);
    over = λ is_over. absurd (more is_over);
  }

  -- back to the folder around
  pub goes-back : (path : Route) → old.task ≡ None → old.inner ≡ record { path = path; children = [] } → old.around.nearest ≡ new.inner ∷ new.around.nearest
      → new.task ≡ old.task → Goes search old new (Ok None)
  goes-back path none empty around same =
      silent None None (record { path = path; children = [] }) new.inner (new.inner ∷ new.around.nearest) new.around.nearest
      (record { task_is = none; inner_is = empty; around_is = around })
      (record { task_is = same ∙ none; inner_is = refl; around_is = refl })
      (λ s. refl) (omega arith)
      (λ over. let nothing : new.inner ∷ new.around.nearest ≡ [] = sym around ∙ over.no_folder in cc)

  -- the end
  pub goes-nowhere : (path : Route) → old.task ≡ None → old.inner ≡ record { path = path; children = [] } → old.around.nearest ≡ []
      → new.task ≡ old.task → new.inner ≡ old.inner → new.around.nearest ≡ [] → Goes search old new (Ok (Some End))
  goes-nowhere path none empty around same same_inner nothing = record {
    steps = λ s. (
      leads-now (left_in s search old) [] (left-at old None (record { path = path; children = [] }) [] s search (record { task_is = none; inner_is = empty; around_is = around })),
      left-at new None (record { path = path; children = [] }) [] s search (record { task_is = same ∙ none; inner_is = same_inner ∙ empty; around_is = nothing }),
    );
    falls = λ _ some. absurd (some refl);
    cause = refl;
    ended = λ h. record { no_task = same ∙ none; no_child = ap (λ (f : OpenFolder). f.children) (same_inner ∙ empty); no_folder = nothing };
    over = λ is_over. refl;
  }

  module _ (path : Route) (c : Child) (cs : List Child) (fs : List OpenFolder) (was : StandsAt old None (record { path = path; children = c ∷ cs }) fs) where
    not_over : IsOver old → ⊥
    not_over over = let none : c ∷ cs ≡ [] = sym (ap (λ (f : OpenFolder). f.children) was.inner_is) ∙ over.no_child in cc

    passed : (b : Bool) (some : List Turn) → b ≡ true → cond b [] some ≡ []
    passed true some h = refl
    passed false some h = cc

    met : (b : Bool) (some : List Turn) → b ≡ false → cond b [] some ≡ some
    met true some h = cc
    met false some h = refl

    -- a child is passed over
    pub goes-past : is_passed_over search c.name path ≡ true → StandsAt new None (record { path = path; children = cs }) fs → Goes search old new (Ok None)
    goes-past over is =
        silent None None (record { path = path; children = c ∷ cs }) (record { path = path; children = cs }) fs fs was is
        (λ s. ap (λ l. (l ++ of_children s search path cs) ++ of_folders s search fs)
        (sym (passed (is_passed_over search c.name path) (path_if (c.is_named && is_by_name search) (c.name ∷ path) ++ look_turns s search c.is_named (c.name ∷ path) (turns_below s search (c.name ∷ path))) over)))
        (rank-past path (length cs) (rank_of_folders fs)) not_over

    -- a child is looked at next
    pub goes-on : is_passed_over search c.name path ≡ false → (c.is_named && is_by_name search) ≡ false
        → StandsAt new (Some (Look (c.name ∷ path) c.is_named)) (record { path = path; children = cs }) fs → Goes search old new (Ok None)
    goes-on over unnamed is =
        silent None (Some (Look (c.name ∷ path) c.is_named)) (record { path = path; children = c ∷ cs }) (record { path = path; children = cs }) fs fs was is
        (λ s.
        let look = look_turns s search c.is_named (c.name ∷ path) (turns_below s search (c.name ∷ path)) in
        sym (append_assoc look (of_children s search path cs) (of_folders s search fs))
        ∙ ap (λ l. (l ++ of_children s search path cs) ++ of_folders s search fs)
        (sym (met (is_passed_over search c.name path) (path_if (c.is_named && is_by_name search) (c.name ∷ path) ++ look) over
        ∙ ap (λ b. path_if b (c.name ∷ path) ++ look) unnamed)))
        (rank-taken c.name path (length cs) (rank_of_folders fs) (is_short search c.name path over)) not_over

    -- a child whose name alone decides
    pub goes-found : is_passed_over search c.name path ≡ false → (c.is_named && is_by_name search) ≡ true
        → StandsAt new (Some (Look (c.name ∷ path) c.is_named)) (record { path = path; children = cs }) fs → Goes search old new (Ok (Some (Path (c.name ∷ path))))
    goes-found over named is = record {
      steps = λ s.
          let look = look_turns s search c.is_named (c.name ∷ path) (turns_below s search (c.name ∷ path)) in
          leads-now (left_in s search old) (Tells (Path (c.name ∷ path)) ∷ left_in s search new)
          (left-at old None (record { path = path; children = c ∷ cs }) fs s search was
          ∙ (ap (λ l. (l ++ of_children s search path cs) ++ of_folders s search fs)
          (met (is_passed_over search c.name path) (path_if (c.is_named && is_by_name search) (c.name ∷ path) ++ look) over
          ∙ ap (λ b. path_if b (c.name ∷ path) ++ look) named)
          ∙ (ap (λ l. Tells (Path (c.name ∷ path)) ∷ l) (append_assoc look (of_children s search path cs) (of_folders s search fs))
          ∙ ap (λ l. Tells (Path (c.name ∷ path)) ∷ l) (sym (left-at new (Some (Look (c.name ∷ path) c.is_named)) (record { path = path; children = cs }) fs s search is)))));
      falls = λ _ _. falls-at None (Some (Look (c.name ∷ path) c.is_named)) (record { path = path; children = c ∷ cs }) (record { path = path; children = cs }) fs fs was is
          (rank-taken c.name path (length cs) (rank_of_folders fs) (is_short search c.name path over));
      cause = refl;
      ended = λ h. absurd (cc);
      over = λ is_over. absurd (not_over is_over);
    }

    -- want of memory
    pub goes-nothing : (e : NoMemory) → new ≡ old → Goes search old new (Err e)
    goes-nothing e same = record {
      steps = λ s. leads-now (left_in s search old) (left_in s search new) (ap (λ w. left_in s search w) (sym same));
      falls = λ none. absurd (cc);
      cause = refl;
      ended = λ h. absurd (cc);
      over = λ is_over. absurd (not_over is_over);
    }

or_true : (a b : Bool) → a ≡ true → (a || b) ≡ true
or_true true b h = refl
or_true false b h = cc

or_last : (a b : Bool) → b ≡ true → (a || b) ≡ true
or_last true b h = refl
or_last false b h = h

or_neither : (a b : Bool) → a ≡ false → b ≡ false → (a || b) ≡ false
or_neither true b h k = cc
or_neither false b h k = k

module _ (search : Search) (old : Walk) (none : old.task ≡ None) (c : Child) (more : old.inner.children ≡ c ∷ drop 1 old.inner.children) where
  was : StandsAt old None (record { path = old.inner.path; children = c ∷ drop 1 old.inner.children }) old.around.nearest
  was = record {
    task_is = none;
    inner_is = ap (λ cs. let f : OpenFolder = record { path = old.inner.path; children = cs } in f) more;
    around_is = refl;
  }

  abbrev pub past : Walk
  past = record old { inner = record old.inner { children = drop 1 old.inner.children } }

  passes : (new : Walk) (told : Option Found) → told ≡ None → new ≡ past → is_passed_over search c.name old.inner.path ≡ true → Goes search old new (Ok told)
  passes new told silent is over =
      subst (λ t. Goes search old new (Ok t)) (sym silent)
      (goes-past search old new old.inner.path c (drop 1 old.inner.children) old.around.nearest was over
      (record {
        task_is = ap (λ (w : Walk). w.task) is ∙ none;
        inner_is = ap (λ (w : Walk). w.inner) is;
        around_is = ap (λ (w : Walk). w.around.nearest) is;
      }))

  -- a name that is left out, and a path that would be too long
  pub passes-name : (new : Walk) (told : Option Found) → told ≡ None → new ≡ past → leaves_out search c.name ≡ true → Goes search old new (Ok told)
  passes-name new told silent is out =
      passes new told silent is (or_true (leaves_out search c.name) (nat_lt 4096 (length (spelled_route (c.name ∷ old.inner.path)))) out)

  pub passes-path : (new : Walk) (told : Option Found) → told ≡ None → new ≡ past → 4096 < length (spelled_route (c.name ∷ old.inner.path)) → Goes search old new (Ok told)
  passes-path new told silent is long =
      passes new told silent is (or_last (leaves_out search c.name) (nat_lt 4096 (length (spelled_route (c.name ∷ old.inner.path)))) (lt-ltb 4096 _ long))

  -- a child that is taken up
  pub takes : (new : Walk) (path : Route) (r : Result (Option Found) NoMemory) → leaves_out search c.name ≡ false → path ≡ c.name ∷ old.inner.path
      → length (spelled_route (c.name ∷ old.inner.path)) ≤ 4096
      → IfOk r (λ told. told ≡ cond (c.is_named && is_by_name search) (Some (Path path)) None)
      → IfOk r (λ _. new ≡ record old { task = Some (Look path c.is_named); inner = record old.inner { children = drop 1 old.inner.children } })
      → IfErr r (λ _. new ≡ old) → Goes search old new r
  takes new path (Err e) kept is short told next refused =
      goes-nothing search old new old.inner.path c (drop 1 old.inner.children) old.around.nearest was e refused
  takes new path (Ok told) kept is short told_is next refused =
      subst (λ t. Goes search old new (Ok t)) (sym (told_is ∙ ap (λ p. cond (c.is_named && is_by_name search) (Some (Path p)) None) is)) (go (c.is_named && is_by_name search) refl)
    where
      over : is_passed_over search c.name old.inner.path ≡ false
      over = or_neither (leaves_out search c.name) (nat_lt 4096 (length (spelled_route (c.name ∷ old.inner.path)))) kept (le-ltb 4096 (length (spelled_route (c.name ∷ old.inner.path))) short)

      stands : StandsAt new (Some (Look (c.name ∷ old.inner.path) c.is_named)) (record { path = old.inner.path; children = drop 1 old.inner.children }) old.around.nearest
      stands = record {
        task_is = ap (λ (w : Walk). w.task) next ∙ ap (λ p. Some (Look p c.is_named)) is;
        inner_is = ap (λ (w : Walk). w.inner) next;
        around_is = ap (λ (w : Walk). w.around.nearest) next;
      }

      go : (b : Bool) → (c.is_named && is_by_name search) ≡ b → Goes search old new (Ok (cond b (Some (Path (c.name ∷ old.inner.path))) None))
      go true named = goes-found search old new old.inner.path c (drop 1 old.inner.children) old.around.nearest was over named stands
      go false unnamed = goes-on search old new old.inner.path c (drop 1 old.inner.children) old.around.nearest was over unnamed stands
