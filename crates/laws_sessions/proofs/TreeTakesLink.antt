-- Where a copy of folders begins a link: its part is made whole, or a trouble comes before.
use Rattle.std.proofs.Common.{◌≡◌, ◌⊎◌, ℕ, Bool, true, false, List, ◌∷◌, refl, sym, ◌∙◌, ap, subst, inl, inr, Some, None, arith, []}
use Rattle.std.specs.Prelude.{pos}
use Rattle.std.proofs.lemmas.Bool.{false_from_ne_true, or_left, or_right}
use Rattle.mc_text.specs.Routes.{Route, is_prefix}
use Rattle.mc_text.specs.declared.kind.Kind.TheVariants as kind
use Rattle.tree_trait.specs.declared.file_system.Node.{Node}
use Rattle.tree_trait.specs.Calls.{MakeLink}
use Rattle.tree_trait.specs.Change.{Change, Makes, Nothing, CallLog, current, found_node, with_change}
use Rattle.tree_trait.specs.CrashImages.{Among}
use Rattle.tree_trait.specs.FileSystem.{find, node}
use Rattle.tree_trait.proofs.Visible.{same_path-self, same_path-true}
use Rattle.tree_trait.proofs.Walking.{stat-found}
use Rattle.laws_crash.specs.Guarded.{Marks}
use Rattle.laws_crash.proofs.Guarding.{found_there}
use Rattle.laws_crash.proofs.Syncing.{unaltered_law}
use Rattle.job_answers.specs.declared.replies.Replies.{Replies}
use Rattle.job_reports.specs.Paths.{folder_of}
use Rattle.job_reports.specs.declared.report.Did.{Did}
use Rattle.job_reports.specs.declared.report.Did.TheVariants.{Began, Chunk, Placed, Removed, Made, Set, Kept, Skipped, Cleaned, Barrier, Asked, Merges, Moved, Troubled, Ended}
use Rattle.job_reports.specs.declared.report.Trouble.{Trouble}
use Rattle.job_reports.proofs.CallAnswers.{IsDoneCall, one_done, some_log}
use Rattle.job_reports.proofs.PermittedCalls.{IsMaking, making_passes}
use Rattle.copy_file.specs.Copying as file
use Rattle.copy_link.specs.LinkCopying as link
use Rattle.copy_link.specs.LinkCopying.{LinkCopying}
use Rattle.copy_link.specs.LinkSteps.{LinkCalls, link_text}
use Rattle.copy_folders.specs.Levels.{is_around_dirty}
use Rattle.job_unsynced.specs.Folders.{joined_folders, with_change as change_list}
use Rattle.copy_tree.specs.Parts.{IsPartPlace, ahead}
use Rattle.copy_tree.specs.Progress.{link_progress}
use Rattle.copy_tree.specs.Standing.{Seen, target_name}
use Rattle.copy_tree.specs.TreeCopySteps.{TakesLink, idle, link_begun, noted_copy, copy_after_progress, is_top}
use Rattle.copy_tree.specs.declared.item.ItemAtWork.TheVariants.{Next, Link}
use Rattle.copy_job.specs.Marks.{folder_worked, is_dirty_after, is_left_dirty, was_dirty}
use Rattle.copy_job.specs.Standing.{SubtreeCopying}
use Rattle.copy_move.specs.declared.run.Course.TheVariants.{GoesOn}
use Rattle.copy_move.specs.declared.work.Work.TheVariants.{Copy}
use Rattle.laws_sessions.proofs.OpenTargets.{taken_bare}
use Rattle.laws_sessions.proofs.BareTargets.{free_or_bare}
use Rattle.laws_sessions.proofs.Calming.{stopped_is}
use Rattle.laws_sessions.proofs.DeletionSteps.{joined_holds, joined_more}
use Rattle.laws_sessions.proofs.FilledFolders.{IsFilling, met_found}
use Rattle.laws_sessions.proofs.Knowing.{HasCalmMode, IsKept, IsKnown, HistoryFacts, settled_marks}
use Rattle.laws_sessions.proofs.KnownParts.{HasName, IsLinkOf, LinkKnows, link_knows_settled}
use Rattle.laws_sessions.proofs.LinkParts.{has_link, link_known}
use Rattle.laws_sessions.proofs.MakingParts.{MakesPart, marks_new, new_node, off_part, part_node, with_part}
use Rattle.laws_sessions.proofs.PathsBelow.{is_below}
use Rattle.laws_sessions.proofs.PlacingParts.{marks_firm}
use Rattle.laws_sessions.proofs.Resting.{IsSureFolder, folder_at_of}
use Rattle.laws_sessions.proofs.Stepped.{comes_one, said_after}
use Rattle.laws_sessions.proofs.TreeBefore.{Before, Result, Then, idle_quiet}
use Rattle.laws_sessions.proofs.TreeBegins.{MayChange, Meets, may_change_now, met_own, worked_filled}
use Rattle.laws_sessions.proofs.TreeKnown.{ItemHas}
use Rattle.laws_sessions.proofs.TreeSkipped.{link_has}
use Rattle.laws_sessions.proofs.TreeSteps.{IsNextOf, among_next, next_of}
use Rattle.laws_sessions.proofs.TreeListed.{list_joins, list_stays, no_part, noted_clean, noted_dirty}
use Rattle.copy_file.specs.PartNames.{IsChosen, IsFirstFree, part_name}
use Rattle.copy_tree.specs.Taking.{IsTaken}
use Rattle.copy_tree.specs.declared.looking.Taken.TheVariants as taken
use Rattle.laws_sessions.proofs.Untouched.{IsAsFound, IsBare}

module _ (told : HistoryFacts) (dirty dirty_after : List Route) (marks : Marks) (log now : CallLog) (kept : IsKept told dirty marks log) (c : SubtreeCopying) (mid : Seen) (b : Before told dirty marks log c mid) (none : mid.item ≡ Next)
    (clean : is_around_dirty mid.levels.around ≡ false) (free : Route → Bool) (replies : Replies) where
  abbrev Comes_to : Did → Seen → Type 0
  Comes_to did new = Result told dirty dirty_after log now c did new

  abbrev Listed : Did → Seen → Type 0
  Listed did new = dirty_after ≡ change_list (was_dirty mid) (is_dirty_after mid did new) (folder_worked mid) dirty

  abbrev up : Route
  up = mid.levels.inner.copy.target

  part_none : told.part ≡ None
  part_none = no_part told dirty dirty_after marks log now kept c mid b none clean free

  -- a link is begun
  module _ (did : Did) (new : Seen) (t : TakesLink (IsPartPlace free mid) replies mid new did (Some log) (Some now)) (list : Listed did new) where
    abbrev l : LinkCopying
    l = link_begun t.pair t.part

    abbrev source : Route
    source = let p = t.pair in p.source

    abbrev target : Route
    target = let p = t.pair in p.target

    met : IsNextOf mid mid.levels.inner.names.names t.pair
    met = next_of mid mid.levels.inner.names.names t.pair t.next

    here : folder_of target ≡ up
    here = ap folder_of met.target_is

    abbrev Works : LinkCopying → Did → Type 0
    Works moved did = new ≡ copy_after_progress (link_progress moved.stage) (Link moved) (noted_copy did (link.is_dirty moved.folder) (idle mid))

    -- the trouble of it
    pub link_stops : (trouble : Trouble) (moved : LinkCopying) → did ≡ Troubled trouble → moved ≡ l → Works moved did → LinkCalls l (Troubled trouble) log (Some now) → Comes_to did new
    link_stops trouble moved is moved_is stands calls =
        subst (λ d. Comes_to d new) (sym is)
        (idle_quiet told dirty dirty_after marks log now kept c mid b none trouble new
        (ap (λ (x : Seen). x.item) stands ∙ ap (λ (m : LinkCopying). (let x : Seen = copy_after_progress (link_progress m.stage) (Link m) (noted_copy did (link.is_dirty m.folder) (idle mid)) in x.item)) moved_is)
        (list_stays told dirty dirty_after marks log now kept c mid b none clean free did new list
        (ap (λ d. is_left_dirty d new) is ∙ noted_clean (link_progress moved.stage) (Link moved) did (link.is_dirty moved.folder) mid new stands (ap (λ (m : LinkCopying). link.is_dirty m.folder) moved_is)))
        (how calls))
      where
        how : LinkCalls l (Troubled trouble) log (Some now) → (now ≡ log) ⊎ (now ≡ with_change log Nothing)
        how (inl read) = inl (some_log now log read.1)
        how (inr (read, run)) = stopped_is log now (MakeLink t.part (link_text (current log) source)) trouble.cause trouble.path (λ s left. refl) run

    -- its part is made
    module _ (part : Route) (moved : LinkCopying) (is : did ≡ Began part) (stands : Works moved did) (tells : link.Tells l (Began part) moved) (calls : LinkCalls l (Began part) log (Some now)) where
      chosen : IsChosen (current log) (IsPartPlace free mid) (file.places mid.job source target) t.part
      chosen = t.chosen log refl

      first : IsFirstFree (current log) (IsPartPlace free mid) (file.places mid.job source target) chosen.0
      first = chosen.2

      abbrev name : List ℕ
      name = part_name mid.job chosen.0

      abbrev folder_in : Route
      folder_in = folder_of target

      abbrev text : List ℕ
      text = link_text (current log) source

      d : IsDoneCall log (MakeLink (name ∷ folder_in) text) now
      d = subst (λ q. IsDoneCall log (MakeLink q text) now) chosen.1 (one_done log (MakeLink t.part text) now calls.1)

      passes : IsMaking (current log) name folder_in
      passes = making_passes (current log) name folder_in 0 d.permits

      abbrev made : Node
      made = record { kind = kind.Link; bytes = text; mode = 0; mtime = pos 0; unnamed = 0 }

      abbrev g : ℕ
      g = found_node (current log) folder_in

      abbrev makes : Change
      makes = Makes g name made

      then : now ≡ with_change log makes
      then = d.is

      looked : IsTaken (current log) (is_top mid) replies t.pair taken.Link
      looked = t.is log refl

      source_at : find (current log) source ≡ Some (found_node (current log) source)
      source_at = stat-found (current log) source looked.0.0

      -- no folder stands at the target
      bare : IsBare (current log) target
      bare = taken_bare (current log) (is_top mid) replies t.pair looked.1

      meets : Meets log t.pair
      meets = record {
        stands = folder_at_of (current log) folder_in g passes.folder passes.holds;
        open_to = free_or_bare (current log) target bare;
        n = found_node (current log) source;
        source = source_at;
      }

      may : MayChange marks log c mid
      may = may_change_now told dirty marks log kept c mid b.n b.leaves b.stands none t.pair t.next meets b.begun b.owed

      own : is_prefix c.top.target target ≡ true
      own = met_own told dirty marks log kept c mid b.n b.leaves b.stands none t.pair t.next meets

      filling : IsFilling log up (ahead mid)
      filling = worked_filled told dirty marks log kept c mid b.n b.leaves b.stands none t.pair t.next meets clean may.here

      firm : IsSureFolder log folder_in
      firm = subst (λ q. IsSureFolder log q) (sym here) filling.firm

      as_it_was : IsAsFound marks (current log) target
      as_it_was = subst (λ q. IsAsFound marks (current log) q) (sym met.target_is)
          (met_found told dirty marks log up (ahead mid) (target_name mid met.name) kept filling (among_next mid met.name met.rest met.names_are) (subst (λ q. IsBare (current log) q) met.target_is bare) (subst (HasCalmMode marks (current log)) met.target_is (let still = may.calm target own in still.mode)))

      has_name : HasName target
      has_name = record { name = target_name mid met.name; is = met.target_is ∙ ap (λ q. (let r : Route = target_name mid met.name ∷ q in r)) (sym here) }

      changed : link.is_dirty moved.folder ≡ true
      changed = ap (λ (x : LinkCopying). link.is_dirty x.folder) tells.2

      routes : dirty_after ≡ joined_folders folder_in dirty
      routes =
          list_joins told dirty dirty_after marks log now kept c mid b none clean free did new list
          (ap (λ d. is_left_dirty d new) is ∙ noted_dirty (link_progress moved.stage) (Link moved) did (link.is_dirty moved.folder) mid new stands changed)
          ∙ ap (λ q. joined_folders q dirty) (sym here)

      listed : Among dirty_after folder_in
      listed = subst (λ xs. Among xs folder_in) (sym routes) (joined_holds folder_in dirty)

      more : (q : Route) → Among dirty q → Among dirty_after q
      more q among = subst (λ xs. Among xs q) (sym routes) (joined_more folder_in q dirty among)

      apart : (name ∷ folder_in) ≡ target → ⊥
      apart same = (let open_to = first.free in open_to.apart same)

      m : MakesPart told log name folder_in g
      m = record { none = part_none; at = passes.folder; folder = passes.holds; free = passes.none; sure = firm.sure }

      abbrev n : ℕ
      n = new_node log

      new_mode : marks.modes n ≡ None
      new_mode = kept.modes n (kept.known.files.unborn n (omega arith))

      abbrev may_in : Route → Bool
      may_in p = is_prefix c.top.target p

      abbrev marks_then : Marks
      marks_then = marks_firm (marks_new marks (name ∷ folder_in) n) n

      abbrev after : HistoryFacts
      after = with_part told (folder_of c.top.target) may_in (name ∷ folder_in)

      node_made : node (current (with_change log makes)) n ≡ made
      node_made = part_node told dirty dirty_after marks log kept.known name folder_in g made kept.roams m refl new_mode

      unread : source ≡ (name ∷ folder_in) → ⊥
      unread same = (let open_to = first.free in open_to.unread (sym same))

      source_then : find (current (with_change log makes)) source ≡ Some (found_node (current log) source)
      source_then =
          off_part told dirty dirty_after marks log kept.known name folder_in g made kept.roams m refl new_mode source
          (false_from_ne_true _ (λ same. unread (same_path-true source (name ∷ folder_in) same))) ∙ source_at

      source_same : node (current (with_change log makes)) (found_node (current log) source) ≡ node (current log) (found_node (current log) source)
      source_same = unaltered_law log makes (found_node (current log) source) refl (found_there (current log) kept.known.guarded.tree source (found_node (current log) source) source_at)

      is_link : IsLinkOf (current (with_change log makes)) source (name ∷ folder_in) n
      is_link = record {
        n = found_node (current log) source;
        source_leads = source_then;
        apart = unread;
        link = ap (λ (x : Node). x.kind) source_same ∙ looked.0.1;
        text = ap (λ (x : Node). x.bytes) node_made ∙ sym (ap (λ (x : Node). x.bytes) source_same);
        mode = ap (λ (x : Node). x.mode) node_made;
        unnamed = ap (λ (x : Node). x.unnamed) node_made;
      }

      knows : LinkKnows after dirty_after marks_then (current (with_change log makes)) source target (name ∷ folder_in)
      knows = record {
        name = has_name;
        listed = listed;
        folder = or_left _ _ (or_right _ _ (same_path-self folder_in));
        text = text;
        i = n;
        has = has_link told dirty dirty_after marks log kept (folder_of c.top.target) may_in target name g made m refl apart as_it_was;
        copies = is_link;
      }

      abbrev Knows : Route → Marks → CallLog → Type 0
      Knows q k l = LinkKnows (said_after l (Began q) (Copy c) told) dirty_after k (current l) source target q

      settled_then : Knows (name ∷ folder_in) (settled_marks (with_change log makes) marks_then) (with_change log makes)
      settled_then = link_knows_settled (with_change log makes) marks_then after dirty_after source target (name ∷ folder_in) knows

      -- so it is known of the copy of the link as it stands then
      of_moved : (q : Route) (k : Marks) → q ≡ t.part → Knows q k now → LinkKnows (said_after now (Began q) (Copy c) told) dirty_after k (current now) moved.source moved.target moved.part
      of_moved q k same known =
          subst (λ (x : LinkCopying). LinkKnows (said_after now (Began q) (Copy c) told) dirty_after k (current now) x.source x.target x.part) (sym tells.2)
          (subst (λ p. LinkKnows (said_after now (Began q) (Copy c) told) dirty_after k (current now) source target p) same known)

      stands_part : link.has_part moved.stage ≡ true
      stands_part = ap (λ (x : LinkCopying). link.has_part x.stage) tells.2

      at_part : (q : Route) → q ≡ t.part → (k : Marks) → Knows q k now → Then told dirty_after log now c (Began q) new k
      at_part q same k known = record {
        part = subst (λ (x : Seen). ItemHas (said_after now (Began q) (Copy c) told) dirty_after k (current now) GoesOn x.item) (sym stands)
            (link_has (said_after now (Began q) (Copy c) told) dirty_after k (current now) GoesOn moved (noted_copy did (link.is_dirty moved.folder) mid) moved.stage refl stands_part (of_moved q k same known));
        around = λ some. inl (or_left _ _ (is_below c.top.target []));
        had = λ some. (may.outside, may.has);
        modes = λ h. h;
      }

      come : Result told dirty dirty_after log now c (Began (name ∷ folder_in)) new
      come = comes_one told after dirty dirty_after marks marks_then log now makes (Then told dirty_after log now c (Began (name ∷ folder_in)) new) kept then
          (subst (λ (x : CallLog). IsKnown after dirty_after marks_then x) (sym then)
          (link_known told dirty dirty_after marks log kept (folder_of c.top.target) may_in target name g made m refl apart as_it_was may.firm firm may.calm listed more))
          (at_part (name ∷ folder_in) (sym chosen.1) (settled_marks now marks_then)
          (subst (λ (x : CallLog). Knows (name ∷ folder_in) (settled_marks x marks_then) x) (sym then) settled_then))

      pub link_begins : Comes_to did new
      link_begins = subst (λ d. Comes_to d new) (sym is) (subst (λ q. Comes_to (Began q) new) (sym (tells.1 ∙ chosen.1)) come)

  pub takes_link : (did : Did) (new : Seen) (t : TakesLink (IsPartPlace free mid) replies mid new did (Some log) (Some now)) → Listed did new → Comes_to did new
  takes_link (Began part) new t list = (let w = t.works in link_begins (Began part) new t list part w.moved refl w.stands w.tells (w.called log refl))
  takes_link (Troubled trouble) new t list = (let w = t.works in let tells = w.tells in link_stops (Troubled trouble) new t list trouble w.moved refl tells.1 w.stands (w.called log refl))
  takes_link (Placed path) new t list = (let w = t.works in let tells = w.tells in absurd (let e = tells.0 in let f : ⊥ = cc in f))
  takes_link (Cleaned part) new t list = (let w = t.works in let tells = w.tells in absurd (let e = tells.1 in let f : ⊥ = cc in f))
  takes_link Barrier new t list = (let w = t.works in let tells = w.tells in absurd (let e = tells.0 in let f : ⊥ = cc in f))
  takes_link did new t list = (let w = t.works in absurd w.tells)
