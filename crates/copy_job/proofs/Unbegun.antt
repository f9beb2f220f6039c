-- A copy that has changed nothing yet, after each step, skip and retry; and its troubles.
use Rattle.std.proofs.Common.{◌≡◌, ◌≤◌, ℕ, suc, zero, refl, sym, ◌∙◌, ap, subst, inl, inr, Bool, true, false, not, List, [], ◌∷◌, length, arith, Option, Some, None}
use Rattle.std.specs.Prelude.{drop, if◌then◌else◌}
use Rattle.std.proofs.lemmas.Bool.{false≢true, true≢false}
use Rattle.mc_text.specs.Routes.{Route}
use Rattle.tree_trait.specs.Change.{CallLog}
use Rattle.job_answers.specs.declared.replies.Replies.{Replies}
use Rattle.job_reports.specs.declared.job.Pair.{Pair}
use Rattle.job_reports.specs.declared.report.Cause.{Cause}
use Rattle.job_reports.specs.declared.report.Did.{Did}
use Rattle.job_reports.specs.declared.report.Did.TheVariants.{Began, Chunk, Placed, Removed, Made, Set, Kept, Skipped, Cleaned, Barrier, Asked, Merges, Moved, Troubled, Ended}
use Rattle.job_reports.specs.declared.report.Ending.TheVariants.{Finished, Aborted, Killed, NoMemory}
use Rattle.job_reports.specs.declared.report.StepResult.{StepResult}
use Rattle.job_reports.specs.declared.report.Trouble.{Trouble}
use Rattle.job_reports.specs.Stops.{out_of_memory_at}
use Rattle.copy_file.specs.Copying as file
use Rattle.copy_file.specs.Copying.{Copying, taken_anew as file_anew}
use Rattle.copy_file.specs.declared.stage.Stage.TheVariants as file_stage
use Rattle.copy_folders.specs.FolderCopying as folder
use Rattle.copy_folders.specs.FolderCopying.{FolderCopying, closing, is_dirty}
use Rattle.copy_folders.specs.FolderSteps as folder_steps
use Rattle.copy_folders.specs.declared.stage.FolderDid.{FolderDid}
use Rattle.copy_folders.specs.declared.stage.FolderDid.TheVariants as folder_did
use Rattle.copy_folders.specs.declared.stage.NamesState.TheVariants as marks
use Rattle.copy_folders.specs.declared.stage.Stage.{Stage}
use Rattle.copy_folders.specs.declared.stage.Stage.TheVariants.{Make, Fill, Close, Done}
use Rattle.copy_link.specs.LinkCopying as link
use Rattle.copy_link.specs.LinkCopying.{LinkCopying, taken_anew as link_anew}
use Rattle.copy_link.specs.declared.stage.Stage.TheVariants as link_stage
use Rattle.tree_walk.specs.Places.{is_empty, opened_folder}
use Rattle.copy_folders.specs.Levels.{Levels, is_around_dirty, made_levels, owed_at}
use Rattle.copy_tree.specs.declared.copy.Stage.TheVariants.{Going}
use Rattle.copy_tree.specs.declared.item.ItemAtWork.{ItemAtWork}
use Rattle.copy_tree.specs.declared.item.ItemAtWork.TheVariants.{Next, File, Link, Stays}
use Rattle.copy_tree.specs.Falling.{IsSteady}
use Rattle.copy_tree.specs.Parts.{IsPartPlace}
use Rattle.copy_tree.specs.Progress.{link_progress, progress}
use Rattle.copy_tree.specs.Reports.{IsToldAs, changes}
use Rattle.copy_tree.specs.Skipping as machine
use Rattle.copy_tree.specs.Standing.{Seen, after_report, is_fresh}
use Rattle.copy_tree.specs.TreeCopySteps.{FileWorks, FolderMakes, IsWorkable, LeavesAll, LinkWorks, TakesNext, WorksOn, at_end, has_debt, idle, link_begun, noted_copy, copy_after_progress}
use Rattle.copy_tree.proofs.Fallings.{all_leave}
use Rattle.copy_job.specs.Leaving.{is_done, is_done_in, may_leave, owes_at_end}
use Rattle.copy_job.specs.Passing.{OrPassedOver}
use Rattle.copy_job.specs.Standing.{IsGoing, SubtreeCopying, at_barrier}
use Rattle.copy_job.specs.SubtreeSteps.{ListSteps, SubtreeSteps, step_result}
use Rattle.copy_job.specs.Unbegun.{IsOutside, IsUnbegun, MayBegin, UnbegunLaw}
use Rattle.copy_tree.proofs.PartsBegin.{file_taken}
use Rattle.copy_job.proofs.Barred.{HasNext, Says, file_same, folder_same, left_workable, link_same, list_barred, passed_trouble, unbarred}
use Rattle.copy_job.proofs.Targets.{works_at_once}
use Rattle.copy_job.proofs.Tellings.{leaves_item, list_goes, settled_stage, skips_goes}
use Rattle.copy_job.proofs.Waits.{SkipsOrStops, skip_comes}

-- where nothing was changed after a report, nothing was before, and the report is of no change
fresh_before : (did : Did) (old new : Seen) → new.stage ≡ after_report did old.stage → is_fresh new.stage ≡ true → (changes did ≡ false) × (is_fresh old.stage ≡ true)
fresh_before did old new stage fresh = by (changes did) refl
  where
    by : (b : Bool) → changes did ≡ b → (changes did ≡ false) × (is_fresh old.stage ≡ true)
    by true is = absurd (false≢true (sym (ap is_fresh (stage ∙ ap (λ b. if b then Going else old.stage) is)) ∙ fresh))
    by false is = (is, sym (ap is_fresh (stage ∙ ap (λ b. if b then Going else old.stage) is)) ∙ fresh)

-- how many names are to be met
abbrev many : Seen → ℕ
many c = length c.levels.inner.names.names

-- what stands as it stood
like : (old new : Seen) → new.item ≡ Next → new.levels.around ≡ old.levels.around → many new ≤ many old → owes_at_end new.levels.inner.copy.stage false ≡ false
    → is_dirty new.levels.inner.copy.names ≡ is_dirty old.levels.inner.copy.names → IsOutside old → IsOutside new
like old new none around fewer owes names o =
    record { none = none; around = around ∙ o.around; one = (let one = o.one in omega (arith, fewer, one)); owes = owes; clean = names ∙ o.clean }

as_many : (old new : Seen) → new.levels.inner.names.names ≡ old.levels.inner.names.names → many new ≤ many old
as_many old new same = let e : many new ≡ many old = ap (λ (xs : List (List ℕ)). length xs) same in omega (arith, e)

-- the next name is done with
one_fewer : (names : List (List ℕ)) → length (drop 1 names) ≤ length names
one_fewer [] = omega arith
one_fewer (name ∷ names) = omega arith

with_fewer : (old new : Seen) → new.levels.inner.names.names ≡ drop 1 old.levels.inner.names.names → many new ≤ many old
with_fewer old new same =
    let e : many new ≡ length (drop 1 old.levels.inner.names.names) = ap (λ (xs : List (List ℕ)). length xs) same in
    let fewer = one_fewer old.levels.inner.names.names in
    omega (arith, e, fewer)

none_left : (old new : Seen) → new.levels.inner.names.names ≡ [] → many new ≤ many old
none_left old new none = let e : many new ≡ 0 = ap (λ (xs : List (List ℕ)). length xs) none in omega (arith, e)

same_levels : (old new : Seen) → new.item ≡ Next → new.levels ≡ old.levels → IsOutside old → IsOutside new
same_levels old new none same o =
    like old new none (ap (λ (l : Levels). l.around) same) (as_many old new (ap (λ (l : Levels). l.inner.names.names) same)) (ap (λ (l : Levels). owes_at_end l.inner.copy.stage false) same ∙ o.owes)
    (ap (λ (l : Levels). is_dirty l.inner.copy.names) same) o

same_seen : (old new : Seen) → new ≡ old → IsOutside old → IsOutside new
same_seen old new is o = subst IsOutside (sym is) o

-- a folder that owes nothing owes nothing at its end, nor when that is skipped
pub closes : (stage : Stage) → owes_at_end stage false ≡ false → owes_at_end (closing stage) false ≡ false
closes (Make mode) h = absurd (true≢false h)
closes (Fill None) h = refl
closes (Fill (Some mode)) h = absurd (true≢false h)
closes (Close None) h = refl
closes (Close (Some mode)) h = absurd (true≢false h)
closes Done h = refl

pub skips_end : (stage : Stage) → owes_at_end stage false ≡ false → owes_at_end (folder.skipped_stage stage) false ≡ false
skips_end (Make mode) h = absurd (true≢false h)
skips_end (Fill None) h = refl
skips_end (Fill (Some mode)) h = absurd (true≢false h)
skips_end (Close owed) h = refl
skips_end Done h = refl

-- A file or a link that is taken up and changes nothing is in trouble.
quiet_file : (f m : Copying) (did : Did) → f.stage ≡ file_stage.Begin → file.Tells f did m → changes did ≡ false → m ≡ f
quiet_file f m (Troubled trouble) begin t quiet = t.1
quiet_file f m (Ended Finished part) begin t quiet = absurd (let e = sym begin ∙ t.0 in let g : ⊥ = cc in g)
quiet_file f m (Ended Aborted part) begin t quiet = absurd t
quiet_file f m (Ended Killed part) begin t quiet = absurd t
quiet_file f m (Ended NoMemory part) begin t quiet = absurd t
quiet_file f m (Kept path) begin t quiet = absurd t
quiet_file f m (Asked question) begin t quiet = absurd t
quiet_file f m (Merges transfer pair names) begin t quiet = absurd t
quiet_file f m (Moved pair) begin t quiet = absurd t
quiet_file f m (Skipped path cause) begin t quiet = absurd t
quiet_file f m (Began part) begin t quiet = absurd (true≢false quiet)
quiet_file f m (Chunk count) begin t quiet = absurd (true≢false quiet)
quiet_file f m (Placed path) begin t quiet = absurd (true≢false quiet)
quiet_file f m (Removed path) begin t quiet = absurd (true≢false quiet)
quiet_file f m (Made path) begin t quiet = absurd (true≢false quiet)
quiet_file f m (Set path) begin t quiet = absurd (true≢false quiet)
quiet_file f m (Cleaned part) begin t quiet = absurd (true≢false quiet)
quiet_file f m Barrier begin t quiet = absurd (true≢false quiet)

quiet_link : (l m : LinkCopying) (did : Did) → link.Tells l did m → changes did ≡ false → m ≡ l
quiet_link l m (Troubled trouble) t quiet = t.1
quiet_link l m (Ended ending part) t quiet = absurd t
quiet_link l m (Kept path) t quiet = absurd t
quiet_link l m (Asked question) t quiet = absurd t
quiet_link l m (Merges transfer pair names) t quiet = absurd t
quiet_link l m (Moved pair) t quiet = absurd t
quiet_link l m (Skipped path cause) t quiet = absurd t
quiet_link l m (Began part) t quiet = absurd (true≢false quiet)
quiet_link l m (Chunk count) t quiet = absurd (true≢false quiet)
quiet_link l m (Placed path) t quiet = absurd (true≢false quiet)
quiet_link l m (Removed path) t quiet = absurd (true≢false quiet)
quiet_link l m (Made path) t quiet = absurd (true≢false quiet)
quiet_link l m (Set path) t quiet = absurd (true≢false quiet)
quiet_link l m (Cleaned part) t quiet = absurd (true≢false quiet)
quiet_link l m Barrier t quiet = absurd (true≢false quiet)

-- what may be reported of a thing that is taken up
begins_file : (f m : Copying) (did : Did) → f.stage ≡ file_stage.Begin → file.Tells f did m → MayBegin did
begins_file f m (Began part) begin t = tt
begins_file f m (Made path) begin t = tt
begins_file f m (Skipped path cause) begin t = tt
begins_file f m (Troubled trouble) begin t = tt
begins_file f m (Ended ending part) begin t = tt
begins_file f m (Chunk count) begin (part, facts, done, stage, least, most, fits, is) = (let e = sym begin ∙ stage in let g : ⊥ = cc in g)
begins_file f m (Placed path) begin (part, facts, stage, path_is, is) = (let e = sym begin ∙ stage in let g : ⊥ = cc in g)
begins_file f m (Cleaned part) begin (next, stage, is) = (let e = sym begin ∙ stage in let g : ⊥ = cc in g)
begins_file f m Barrier begin (stage, dirty, is) = (let e = sym begin ∙ stage in let g : ⊥ = cc in g)
begins_file f m (Removed path) begin t = t
begins_file f m (Set path) begin t = t
begins_file f m (Kept path) begin t = tt
begins_file f m (Asked question) begin t = tt
begins_file f m (Merges transfer pair names) begin t = tt
begins_file f m (Moved pair) begin t = t

begins_link : (l m : LinkCopying) (did : Did) → l.stage ≡ link_stage.Make → link.Tells l did m → MayBegin did
begins_link l m (Began part) make t = tt
begins_link l m (Made path) make t = tt
begins_link l m (Skipped path cause) make t = tt
begins_link l m (Troubled trouble) make t = tt
begins_link l m (Ended ending part) make t = tt
begins_link l m (Placed path) make (stage, same, is) = (let e = sym make ∙ stage in let g : ⊥ = cc in g)
begins_link l m (Cleaned part) make (next, stage, same, is) = (let e = sym make ∙ stage in let g : ⊥ = cc in g)
begins_link l m Barrier make (stage, dirty, is) = (let e = sym make ∙ stage in let g : ⊥ = cc in g)
begins_link l m (Chunk count) make t = t
begins_link l m (Removed path) make t = t
begins_link l m (Set path) make t = t
begins_link l m (Kept path) make t = tt
begins_link l m (Asked question) make t = tt
begins_link l m (Merges transfer pair names) make t = tt
begins_link l m (Moved pair) make t = absurd t

begins_folder : (pair : Pair) (mode : ℕ) (m : FolderCopying) (report : FolderDid) (did : Did) → IsToldAs report did → folder.Tells (folder.copying pair.source pair.target (Make mode) marks.Synced) report m → MayBegin did
begins_folder pair mode m (folder_did.Made path) did told t = subst MayBegin (sym told) tt
begins_folder pair mode m (folder_did.Set path) did told t = absurd (let e = t.1 in let g : ⊥ = cc in g)
begins_folder pair mode m folder_did.Barrier did told t = absurd (let e = t.0 in let g : ⊥ = cc in g)
begins_folder pair mode m folder_did.Closed did told t = absurd told
begins_folder pair mode m (folder_did.Troubled trouble) did told t = subst MayBegin (sym told) tt

module _ (unclaimed : Route → Type 0) (replies : Replies) (old new : Seen) (did : Did) (before after : Option CallLog) (o : IsOutside old) where
  file_outside : (pair : Pair) → FileWorks unclaimed (file.begun_copy old.job pair.source pair.target) old new did None None → changes did ≡ false → IsOutside new
  file_outside pair w quiet =
      let f = file.begun_copy old.job pair.source pair.target in
      let same = quiet_file f w.moved did refl w.tells quiet in
      let is : new ≡ noted_copy did false (idle old) = w.stands ∙ ap (λ (m : Copying). copy_after_progress (progress m.stage) (File m) (noted_copy did (file.is_dirty m.folder) (idle old))) same in
      subst IsOutside (sym is) (same_levels old (noted_copy did false (idle old)) refl refl o)

  link_outside : (pair : Pair) (part : Route) → LinkWorks (link_begun pair part) old new did before after → changes did ≡ false → IsOutside new
  link_outside pair part w quiet =
      let l = link_begun pair part in
      let same = quiet_link l w.moved did w.tells quiet in
      let is : new ≡ noted_copy did false (idle old) = w.stands ∙ ap (λ (m : LinkCopying). copy_after_progress (link_progress m.stage) (Link m) (noted_copy did (link.is_dirty m.folder) (idle old))) same in
      subst IsOutside (sym is) (same_levels old (noted_copy did false (idle old)) refl refl o)

  makes_outside : (pair : Pair) (names : List (List ℕ)) (mode : ℕ) → FolderMakes pair names mode old new did before after → changes did ≡ false → IsOutside new
  makes_outside pair names mode w quiet = by w.report w.says w.tells
    where
      by : (report : FolderDid) → IsToldAs report did → folder.Tells (folder.copying pair.source pair.target (Make mode) marks.Synced) report w.moved → IsOutside new
      by (folder_did.Made path) told t = absurd (true≢false (sym (ap changes told) ∙ quiet))
      by (folder_did.Set path) told t = absurd (true≢false (sym (ap changes told) ∙ quiet))
      by folder_did.Barrier told t = absurd (true≢false (sym (ap changes told) ∙ quiet))
      by folder_did.Closed told t = absurd told
      by (folder_did.Troubled trouble) told t =
          same_levels old new (ap (λ (c : Seen). c.item) w.stands ∙ o.none)
          (ap (λ (c : Seen). c.levels) w.stands ∙ ap (λ (s : Stage). made_levels s (opened_folder pair.source names) w.moved old.levels) (ap (λ (c : FolderCopying). c.stage) t.1)) o

  no_debt : has_debt (at_end old) ≡ true → ⊥
  no_debt debt = false≢true (sym (ap (λ b. owed_at (closing old.levels.inner.copy.stage) b) o.clean ∙ o.owes) ∙ debt)

  takes_outside : TakesNext unclaimed replies old new did before after → changes did ≡ false → IsOutside new
  takes_outside (inl s) quiet = same_seen old new s.stands o
  takes_outside (inr (inl t)) quiet = file_outside t.pair (file_taken unclaimed replies old new did before after t) quiet
  takes_outside (inr (inr (inl t))) quiet = link_outside t.pair t.part t.works quiet
  takes_outside (inr (inr (inr (inl t)))) quiet = makes_outside t.pair t.names t.mode t.works quiet
  takes_outside (inr (inr (inr (inr (inl t))))) quiet =
      like old new (ap (λ (c : Seen). c.item) t.stands ∙ o.none) (ap (λ (c : Seen). c.levels.around) t.stands) (with_fewer old new (ap (λ (c : Seen). c.levels.inner.names.names) t.stands)) (ap (λ (c : Seen). owes_at_end c.levels.inner.copy.stage false) t.stands ∙ o.owes)
      (ap (λ (c : Seen). is_dirty c.levels.inner.copy.names) t.stands) o
  takes_outside (inr (inr (inr (inr (inr (inl t)))))) quiet =
      like old new (ap (λ (c : Seen). c.item) t.stands ∙ o.none) (ap (λ (c : Seen). c.levels.around) t.stands) (with_fewer old new (ap (λ (c : Seen). c.levels.inner.names.names) t.stands)) (ap (λ (c : Seen). owes_at_end c.levels.inner.copy.stage false) t.stands ∙ o.owes)
      (ap (λ (c : Seen). is_dirty c.levels.inner.copy.names) t.stands) o
  takes_outside (inr (inr (inr (inr (inr (inr (inl t))))))) quiet = same_seen old new t.stands o
  takes_outside (inr (inr (inr (inr (inr (inr (inr (next, inl (debt, e))))))))) quiet = absurd (no_debt debt)
  takes_outside (inr (inr (inr (inr (inr (inr (inr (next, inr (debt, f, same))))))))) quiet =
      subst IsOutside (sym f.stands) (like old (at_end old) o.none refl (as_many old (at_end old) refl) (closes old.levels.inner.copy.stage o.owes) refl o)

  works_outside : (item : ItemAtWork) → old.item ≡ item → WorksOn item unclaimed replies old new did before after → changes did ≡ false → IsOutside new
  works_outside Next is (inl s) quiet = absurd (false≢true (sym (ap is_around_dirty o.around) ∙ s.dirty))
  works_outside Next is (inr t) quiet = takes_outside t.1 quiet
  works_outside (File f) is w quiet = absurd (let e = sym o.none ∙ is in let g : ⊥ = cc in g)
  works_outside (Link l) is w quiet = absurd (let e = sym o.none ∙ is in let g : ⊥ = cc in g)
  works_outside (Stays part) is w quiet = absurd w

  -- its troubles are at no barrier
  takes_apart : (u : Trouble) → TakesNext unclaimed replies old new did before after → Says did u → u.barrier ≡ false
  takes_apart u (inl s) says = (let same : s.trouble ≡ u = (let e : Troubled s.trouble ≡ Troubled u = sym s.says ∙ says in cc) in sym (ap (λ (t : Trouble). t.barrier) same) ∙ s.apart)
  takes_apart u (inr (inl t)) says = (let w = file_taken unclaimed replies old new did before after t in (file_same (file.begun_copy old.job t.pair.source t.pair.target) w.moved did u w.tells says).0)
  takes_apart u (inr (inr (inl t))) says = (let w = t.works in (link_same (link_begun t.pair t.part) w.moved did u w.tells says).0)
  takes_apart u (inr (inr (inr (inl t)))) says = (let w = t.works in (folder_same (folder.copying t.pair.source t.pair.target (Make t.mode) marks.Synced) w.moved w.report did u w.says w.tells says).0)
  takes_apart u (inr (inr (inr (inr (inl t))))) says = absurd (let e = sym t.says ∙ says in let g : ⊥ = cc in g)
  takes_apart u (inr (inr (inr (inr (inr (inl t)))))) says = absurd (let e = sym t.says ∙ says in let g : ⊥ = cc in g)
  takes_apart u (inr (inr (inr (inr (inr (inr (inl t))))))) says = absurd (let e = sym t.says ∙ says in let g : ⊥ = cc in g)
  takes_apart u (inr (inr (inr (inr (inr (inr (inr (next, inl (debt, e))))))))) says = absurd (no_debt debt)
  takes_apart u (inr (inr (inr (inr (inr (inr (inr (next, inr (debt, f, same))))))))) says = absurd (let e = sym f.says ∙ says in let g : ⊥ = cc in g)

  works_apart : (item : ItemAtWork) → old.item ≡ item → WorksOn item unclaimed replies old new did before after → (u : Trouble) → Says did u → u.barrier ≡ false
  works_apart Next is (inl s) u says = absurd (false≢true (sym (ap is_around_dirty o.around) ∙ s.dirty))
  works_apart Next is (inr t) u says = takes_apart u t.1 says
  works_apart (File f) is w u says = absurd (let e = sym o.none ∙ is in let g : ⊥ = cc in g)
  works_apart (Link l) is w u says = absurd (let e = sym o.none ∙ is in let g : ⊥ = cc in g)
  works_apart (Stays part) is w u says = absurd w

  -- and its first change begins a part or makes a folder
  takes_first : TakesNext unclaimed replies old new did before after → MayBegin did
  takes_first (inl s) = subst MayBegin (sym s.says) tt
  takes_first (inr (inl t)) = (let w = file_taken unclaimed replies old new did before after t in begins_file (file.begun_copy old.job t.pair.source t.pair.target) w.moved did refl w.tells)
  takes_first (inr (inr (inl t))) = (let w = t.works in begins_link (link_begun t.pair t.part) w.moved did refl w.tells)
  takes_first (inr (inr (inr (inl t)))) = (let w = t.works in begins_folder t.pair t.mode w.moved w.report did w.says w.tells)
  takes_first (inr (inr (inr (inr (inl t))))) = subst MayBegin (sym t.says) tt
  takes_first (inr (inr (inr (inr (inr (inl t)))))) = subst MayBegin (sym t.says) tt
  takes_first (inr (inr (inr (inr (inr (inr (inl t))))))) = subst MayBegin (sym t.says) tt
  takes_first (inr (inr (inr (inr (inr (inr (inr (next, inl (debt, e))))))))) = absurd (no_debt debt)
  takes_first (inr (inr (inr (inr (inr (inr (inr (next, inr (debt, f, same))))))))) = subst MayBegin (sym f.says) tt

  works_first : (item : ItemAtWork) → old.item ≡ item → WorksOn item unclaimed replies old new did before after → MayBegin did
  works_first Next is (inl s) = absurd (false≢true (sym (ap is_around_dirty o.around) ∙ s.dirty))
  works_first Next is (inr t) = takes_first t.1
  works_first (File f) is w = absurd (let e = sym o.none ∙ is in let g : ⊥ = cc in g)
  works_first (Link l) is w = absurd (let e = sym o.none ∙ is in let g : ⊥ = cc in g)
  works_first (Stays part) is w = absurd w

-- no folder was left, since none was gone into
pub left_outside : (n : ℕ) (old mid : Seen) → LeavesAll n old mid → IsUnbegun old → is_fresh mid.stage ≡ true → IsOutside mid
left_outside zero old mid is h fresh = subst IsOutside (sym is) (h (sym (ap (λ (c : Seen). is_fresh c.stage) is) ∙ fresh))
left_outside (suc n) old mid (last, all, none, one) h fresh =
    let r = one.returns in
    let o = left_outside n old last all h (sym (ap (λ (c : Seen). is_fresh c.stage) r.stands) ∙ fresh) in
    let left = r.left in
    absurd (let e = sym o.around ∙ left.was in let g : ⊥ = cc in g)

-- what is skipped
named_outside : (names : List (List ℕ)) (cause : Cause) (old new : Seen) (did : Did) → machine.SkipsNamed names cause old did new → IsOutside old → IsOutside new
named_outside [] cause old new did (moved, skips, stands) o = by skips
  where
    by : folder_steps.Skips cause old.levels.inner.copy did moved → IsOutside new
    by (inl s) =
        like old new (ap (λ (c : Seen). c.item) stands ∙ o.none) (ap (λ (c : Seen). c.levels.around) stands) (as_many old new (ap (λ (c : Seen). c.levels.inner.names.names) stands))
        (ap (λ (c : Seen). owes_at_end c.levels.inner.copy.stage false) stands ∙ (ap (λ (c : FolderCopying). owes_at_end c.stage false) s.1 ∙ skips_end old.levels.inner.copy.stage o.owes))
        (ap (λ (c : Seen). is_dirty c.levels.inner.copy.names) stands ∙ ap (λ (c : FolderCopying). is_dirty c.names) s.1) o
    by (inr room) =
        like old new (ap (λ (c : Seen). c.item) stands ∙ o.none) (ap (λ (c : Seen). c.levels.around) stands) (as_many old new (ap (λ (c : Seen). c.levels.inner.names.names) stands))
        (ap (λ (c : Seen). owes_at_end c.levels.inner.copy.stage false) stands ∙ (ap (λ (c : FolderCopying). owes_at_end c.stage false) room.1 ∙ o.owes))
        (ap (λ (c : Seen). is_dirty c.levels.inner.copy.names) stands ∙ ap (λ (c : FolderCopying). is_dirty c.names) room.1) o
named_outside (name ∷ names) cause old new did (inl s) o =
    like old new (ap (λ (c : Seen). c.item) s.1 ∙ o.none) (ap (λ (c : Seen). c.levels.around) s.1) (with_fewer old new (ap (λ (c : Seen). c.levels.inner.names.names) s.1)) (ap (λ (c : Seen). owes_at_end c.levels.inner.copy.stage false) s.1 ∙ o.owes) (ap (λ (c : Seen). is_dirty c.levels.inner.copy.names) s.1) o
named_outside (name ∷ names) cause old new did (inr (inl (long, inl s))) o =
    like old new (ap (λ (c : Seen). c.item) s.1 ∙ o.none) (ap (λ (c : Seen). c.levels.around) s.1) (none_left old new (ap (λ (c : Seen). c.levels.inner.names.names) s.1)) (ap (λ (c : Seen). owes_at_end c.levels.inner.copy.stage false) s.1 ∙ o.owes) (ap (λ (c : Seen). is_dirty c.levels.inner.copy.names) s.1) o
named_outside (name ∷ names) cause old new did (inr (inl (long, inr room))) o = same_seen old new room.1 o
named_outside (name ∷ names) cause old new did (inr (inr room)) o = same_seen old new room.1 o

skip_outside : (item : ItemAtWork) (cause : Cause) (old new : Seen) (did : Did) → old.item ≡ item → machine.SkipsAt item cause old did new → IsOutside old → IsOutside new
skip_outside Next cause old new did is s o = named_outside old.levels.inner.names.names cause old new did s o
skip_outside (File f) cause old new did is s o = absurd (let e = sym o.none ∙ is in let g : ⊥ = cc in g)
skip_outside (Link l) cause old new did is s o = absurd (let e = sym o.none ∙ is in let g : ⊥ = cc in g)
skip_outside (Stays part) cause old new did is s o = absurd s

skips_unbegun : (cause : Cause) (old new : Seen) (did : Did) → machine.SkipsAt old.item cause old did new → IsWorkable old.item → IsUnbegun old → IsUnbegun new
skips_unbegun cause old new did s can h fresh =
    let g = skips_goes old.item cause old new did refl can s in
    skip_outside old.item cause old new did refl s (h (fresh_before did old new g.stage fresh).1)

named_first : (names : List (List ℕ)) (cause : Cause) (old new : Seen) (did : Did) → machine.SkipsNamed names cause old did new → MayBegin did
named_first [] cause old new did (moved, inl s, stands) = subst MayBegin (sym s.0) tt
named_first [] cause old new did (moved, inr room, stands) = subst MayBegin (sym room.0) tt
named_first (name ∷ names) cause old new did (inl s) = subst MayBegin (sym s.0) tt
named_first (name ∷ names) cause old new did (inr (inl (long, inl s))) = subst MayBegin (sym s.0) tt
named_first (name ∷ names) cause old new did (inr (inl (long, inr room))) = subst MayBegin (sym room.0) tt
named_first (name ∷ names) cause old new did (inr (inr room)) = subst MayBegin (sym room.0) tt

skip_first : (item : ItemAtWork) (cause : Cause) (old new : Seen) (did : Did) → machine.SkipsAt item cause old did new → MayBegin did
skip_first Next cause old new did s = named_first old.levels.inner.names.names cause old new did s
skip_first (File f) cause old new did (moved, inl s, stands) = subst MayBegin (sym s.0) tt
skip_first (File f) cause old new did (moved, inr room, stands) = subst MayBegin (sym room.0) tt
skip_first (Link l) cause old new did (moved, inl s, stands) = subst MayBegin (sym s.0) tt
skip_first (Link l) cause old new did (moved, inr room, stands) = subst MayBegin (sym room.0) tt
skip_first (Stays part) cause old new did s = absurd s

-- something is left to be done, so a name is next
next_left : (c : Seen) → IsOutside c → is_done c ≡ false → HasNext c
next_left c o left = by c.levels.inner.names.names refl
  where
    done : is_done_in Next c.levels ≡ false
    done = sym (ap (λ (i : ItemAtWork). is_done_in i c.levels) o.none) ∙ left

    by : (names : List (List ℕ)) → c.levels.inner.names.names ≡ names → HasNext c
    by (name ∷ names) is = (name, names, is)
    by [] is =
        let at : (if is_empty {Folder = List ℕ} [] then not (owes_at_end c.levels.inner.copy.stage (is_dirty c.levels.inner.copy.names)) else false) ≡ false =
        sym (ap (λ ns. if is_empty {Folder = List ℕ} ns then not (owes_at_end c.levels.inner.copy.stage (is_dirty c.levels.inner.copy.names)) else false) is) ∙ done in
        let owes : not (owes_at_end c.levels.inner.copy.stage (is_dirty c.levels.inner.copy.names)) ≡ true = ap (λ b. not (owes_at_end c.levels.inner.copy.stage b)) o.clean ∙ ap not o.owes in
        absurd (true≢false (sym owes ∙ at))

module _ (free : Route → Bool) (replies : Replies) (old new : Seen) (worked : StepResult) (dirty dirty_after : List Route) (before after : Option CallLog) (f0 f1 : ℕ) (w : ListSteps free replies old new worked dirty dirty_after before after f0 f1)
    (settled_at : may_leave old ≡ false) where
  list_outside : IsOutside old → changes worked.did ≡ false → IsOutside new
  list_outside o quiet = by w
    where
      by : ListSteps free replies old new worked dirty dirty_after before after f0 f1 → IsOutside new
      by (inl s) = same_seen old new s.stays o
      by (inr s) = works_outside (IsPartPlace free old) replies old new worked.did before after o old.item refl (works_at_once free replies old new worked.did worked.calls before after f0 f1 s.steps settled_at) quiet

  list_apart : IsOutside old → (u : Trouble) → worked.did ≡ Troubled u → u.barrier ≡ false
  list_apart o u says = by w
    where
      by : ListSteps free replies old new worked dirty dirty_after before after f0 f1 → u.barrier ≡ false
      by (inl s) =
          let same : out_of_memory_at (at_barrier old) ≡ u = (let e : Troubled (out_of_memory_at (at_barrier old)) ≡ Troubled u = sym (ap (λ (r : StepResult). r.did) s.says) ∙ says in cc) in
          sym (ap (λ (t : Trouble). t.barrier) same) ∙ unbarred old o.none (ap is_around_dirty o.around) (next_left old o s.left)
      by (inr s) = works_apart (IsPartPlace free old) replies old new worked.did before after o old.item refl (works_at_once free replies old new worked.did worked.calls before after f0 f1 s.steps settled_at) u says

  list_first : IsOutside old → MayBegin worked.did
  list_first o = by w
    where
      by : ListSteps free replies old new worked dirty dirty_after before after f0 f1 → MayBegin worked.did
      by (inl s) = subst MayBegin (sym (ap (λ (r : StepResult). r.did) s.says)) tt
      by (inr s) = works_first (IsPartPlace free old) replies old new worked.did before after o old.item refl (works_at_once free replies old new worked.did worked.calls before after f0 f1 s.steps settled_at)

module _ (free : Route → Bool) (replies : Replies) (old new : SubtreeCopying) (did : Did) (calls : ℕ) (dirty dirty_after : List Route) (before after : Option CallLog) (f0 f1 : ℕ)
    (s : SubtreeSteps free replies old new did calls dirty dirty_after before after f0 f1) (h : IsUnbegun old.at) where
  -- where nothing was changed after the machine's step, nothing was before
  moved_fresh : is_fresh (let m = s.moved in m.stage) ≡ true → (changes (let w = s.worked in w.did) ≡ false) × IsOutside s.mid
  moved_fresh fresh =
      let g = list_goes free replies s.mid s.moved s.worked dirty dirty_after before after f0 f1 s.works s.settled in
      let b = fresh_before s.worked.did s.mid s.moved g.stage fresh in
      let l = s.leaves in
      (b.0, left_outside l.0 old.at s.mid l.1 h b.1)

  moved_unbegun : IsUnbegun s.moved
  moved_unbegun fresh =
      let b = moved_fresh fresh in
      list_outside free replies s.mid s.moved s.worked dirty dirty_after before after f0 f1 s.works s.settled b.1 b.0

  step_unbegun : IsUnbegun new.at
  step_unbegun = by s.passes
    where
      by : OrPassedOver replies.skips s.worked s.moved new.at (step_result did calls) → IsUnbegun new.at
      by (inl p) = subst IsUnbegun (sym p.2) moved_unbegun
      by (inr p) = skips_unbegun p.0 s.moved new.at did p.3 s.going moved_unbegun

comes_apart : (cause : Cause) (old new : Seen) (t : Trouble) → SkipsOrStops false cause old (Troubled t) new → t.barrier ≡ false
comes_apart cause old new t (inl s) = (let e = s.1 in let g : ⊥ = cc in absurd g)
comes_apart cause old new t (inr room) = (let same : t ≡ out_of_memory_at false = (let e = room.0 in cc) in ap (λ (x : Trouble). x.barrier) same)

step_apart : (free : Route → Bool) (replies : Replies) (old new : SubtreeCopying) (t : Trouble) (calls : ℕ) (dirty dirty_after : List Route) (before after : Option CallLog) (f0 f1 : ℕ)
    → SubtreeSteps free replies old new (Troubled t) calls dirty dirty_after before after f0 f1 → IsSteady old.at → IsGoing old → IsUnbegun old.at → is_fresh new.at.stage ≡ true → t.barrier ≡ false
step_apart free replies old new t calls dirty dirty_after before after f0 f1 s steady can h fresh = by s.passes
  where
    by : OrPassedOver replies.skips s.worked s.moved new.at (step_result (Troubled t) calls) → t.barrier ≡ false
    by (inl p) =
        let m = moved_fresh free replies old new (Troubled t) calls dirty dirty_after before after f0 f1 s h (sym (ap (λ (c : Seen). is_fresh c.stage) p.2) ∙ fresh) in
        list_apart free replies s.mid s.moved s.worked dirty dirty_after before after f0 f1 s.works s.settled m.1 t (sym (ap (λ (r : StepResult). r.did) p.1))
    by (inr p) =
        let l = s.leaves in
        let there = all_leave l.0 old.at s.mid l.1 steady in
        let u = passed_trouble replies.skips s.worked.did p.0 p.1 in
        let barred = list_barred free replies s.mid s.moved s.worked dirty dirty_after before after f0 f1 u.0 s.works u.1 s.settled there.0 (left_workable l.0 old.at s.mid l.1 can) in
        comes_apart p.0 s.moved new.at t (skip_comes s.moved.item p.0 s.moved new.at (Troubled t) refl p.3 s.going (sym barred ∙ u.2))

step_first : (free : Route → Bool) (replies : Replies) (old new : SubtreeCopying) (did : Did) (calls : ℕ) (dirty dirty_after : List Route) (before after : Option CallLog) (f0 f1 : ℕ) → SubtreeSteps free replies old new did calls dirty dirty_after before after f0 f1
    → IsUnbegun old.at → is_fresh old.at.stage ≡ true → MayBegin did
step_first free replies old new did calls dirty dirty_after before after f0 f1 s h fresh = by s.passes
  where
    mid_outside : IsOutside s.mid
    mid_outside = (let l = s.leaves in left_outside l.0 old.at s.mid l.1 h (ap is_fresh (leaves_item l.0 old.at s.mid l.1).1 ∙ fresh))

    by : OrPassedOver replies.skips s.worked s.moved new.at (step_result did calls) → MayBegin did
    by (inl p) = subst MayBegin (sym (ap (λ (r : StepResult). r.did) p.1)) (list_first free replies s.mid s.moved s.worked dirty dirty_after before after f0 f1 s.works s.settled mid_outside)
    by (inr p) = skip_first s.moved.item p.0 s.moved new.at did p.3

retry_unbegun : (item : ItemAtWork) (c : Seen) → c.item ≡ item → IsUnbegun c → IsUnbegun (machine.retried_at item c)
retry_unbegun Next c is h = h
retry_unbegun (File f) c is h =
    λ fresh. (let o = h (sym (ap is_fresh (settled_stage (progress (file_anew f.stage)) (File (record f { stage = file_anew f.stage })) (idle c))) ∙ fresh) in absurd (let e = sym o.none ∙ is in let g : ⊥ = cc in g))
retry_unbegun (Link l) c is h =
    λ fresh. (let o = h (sym (ap is_fresh (settled_stage (link_progress (link_anew l.stage)) (Link (record l { stage = link_anew l.stage })) (idle c))) ∙ fresh) in absurd (let e = sym o.none ∙ is in let g : ⊥ = cc in g))
retry_unbegun (Stays part) c is h = h

pub unbegun_law : UnbegunLaw
unbegun_law = record {
  begins = λ job top fresh. record { none = refl; around = refl; one = omega arith; owes = refl; clean = refl };
  step = λ free replies old new did calls dirty dirty_after before after f0 f1 s can h. step_unbegun free replies old new did calls dirty dirty_after before after f0 f1 s h;
  skip = λ cause old new did s can h. skips_unbegun cause old.at new.at did s.skips can h;
  retry = λ c h. retry_unbegun c.at.item c.at refl h;
  first = λ free replies old new did calls dirty dirty_after before after f0 f1 s h fresh. step_first free replies old new did calls dirty dirty_after before after f0 f1 s h fresh;
  trouble = λ free replies old new t calls dirty dirty_after before after f0 f1 s steady can h fresh. step_apart free replies old new t calls dirty dirty_after before after f0 f1 s steady can h fresh;
}
