-- Each thing that is decided leaves fewer.
use Rattle.std.proofs.Common.{◌≡◌, ℕ, ◌<◌, ◌≤◌, ◌^◌, suc, zero, refl, sym, ◌∙◌, ap, subst, inl, inr, Bool, true, false, List, [], ◌∷◌, length, arith, Option, None}
use Rattle.std.specs.Prelude.{◌||◌, map}
use Rattle.std.proofs.lemmas.Bool.{false≢true}
use Rattle.mc_text.specs.Routes.{Route}
use Rattle.job_answers.specs.declared.replies.Replies.{Replies}
use Rattle.tree_trait.specs.Change.{CallLog}
use Rattle.job_reports.specs.declared.job.Pair.{Pair}
use Rattle.job_reports.specs.declared.report.Did.{Did}
use Rattle.job_reports.specs.declared.report.Did.TheVariants.{Began, Chunk, Placed, Removed, Made, Set, Kept, Skipped, Cleaned, Barrier, Asked, Merges, Moved, Troubled, Ended}
use Rattle.copy_file.specs.Copying as file
use Rattle.copy_file.specs.Copying.{Copying}
use Rattle.copy_link.specs.LinkCopying as link
use Rattle.copy_link.specs.LinkCopying.{LinkCopying}
use Rattle.copy_folders.specs.FolderCopying as folder
use Rattle.copy_folders.specs.FolderCopying.{FolderCopying}
use Rattle.copy_folders.specs.FolderSteps.{at_sync}
use Rattle.copy_folders.specs.declared.stage.FolderDid.{FolderDid}
use Rattle.copy_folders.specs.declared.stage.FolderDid.TheVariants as folder_did
use Rattle.copy_folders.specs.declared.stage.Stage.{Stage}
use Rattle.copy_folders.specs.declared.stage.Stage.TheVariants.{Make, Fill, Close, Done}
use Rattle.copy_folders.specs.declared.stage.NamesState.TheVariants.{Synced}
use Rattle.tree_walk.specs.Places.{IsLeft as PlaceLeft, OpenFolder, opened_folder}
use Rattle.tree_walk.specs.Ranks.{rank}
use Rattle.tree_walk.proofs.Falling.{enter_falls, leave_falls, pass_falls}
use Rattle.copy_tree.specs.declared.due.Due.TheVariants.{Thing}
use Rattle.copy_tree.specs.declared.item.ItemAtWork.{ItemAtWork}
use Rattle.copy_tree.specs.declared.item.ItemAtWork.TheVariants.{Next, File, Link, Stays}
use Rattle.copy_folders.specs.declared.level.Level.{Level}
use Rattle.copy_tree.specs.declared.progress.Progress.{Progress}
use Rattle.copy_tree.specs.declared.progress.Progress.TheVariants.{UnderWay, Decided, Anew}
use Rattle.copy_tree.specs.Falling.{AllMade, FallingLaw, HasName, IsSteady, decides, is_made, things_left}
use Rattle.copy_folders.specs.Levels.{IsLeft, Levels, level, made_levels, passed_levels, walked_place, with_copy}
use Rattle.copy_tree.specs.Parts.{IsPartPlace}
use Rattle.copy_tree.specs.Progress.{link_progress, progress}
use Rattle.copy_tree.specs.Reports.{IsToldAs}
use Rattle.copy_tree.specs.Standing.{Seen, after_report, due_at}
use Rattle.copy_tree.specs.TreeCopySteps.{FileWorks, FolderEnds, FolderMakes, GoesOn, Leaves, LeavesAll, LinkWorks, SyncsAround, TakesNext, WorksOn, at_end, idle, noted_copy, copy_after_progress}
use Rattle.copy_tree.proofs.PartsBegin.{file_taken}

or_false : (b : Bool) → (b || false) ≡ b
or_false true = refl
or_false false = refl

made_inner : (inner new : Level) (around : List Level) → is_made new.copy.stage ≡ true → AllMade inner around → AllMade new around
made_inner inner new [] made h = made
made_inner inner new (outer ∷ around) made h = (made, h.1)

inner_made : (inner : Level) (around : List Level) → AllMade inner around → is_made inner.copy.stage ≡ true
inner_made inner [] h = h
inner_made inner (outer ∷ around) h = h.0

closing_made : (stage : Stage) → is_made stage ≡ true → is_made (folder.closing stage) ≡ true
closing_made (Make mode) h = h
closing_made (Fill owed) h = refl
closing_made (Close owed) h = refl
closing_made Done h = refl

dirty_made : (changed : Bool) (c : Seen) (did : Did) → AllMade c.levels.inner c.levels.around → (let n = noted_copy did changed c in AllMade n.levels.inner n.levels.around)
dirty_made true c did h = made_inner c.levels.inner _ c.levels.around (inner_made c.levels.inner c.levels.around h) h
dirty_made false c did h = made_inner c.levels.inner _ c.levels.around (inner_made c.levels.inner c.levels.around h) h

-- What a step leaves: it is steady, no more things are left, and fewer where one was decided.
abbrev Leaving : Seen → Seen → Type 0 → Type 0
Leaving old new Decides = IsSteady new × (things_left new ≤ things_left old) × (Decides → things_left new < things_left old)

settles : (p : Progress) (item : ItemAtWork) (c : Seen) → HasName item c.levels → 1 ≤ length c.levels.inner.names.names → AllMade c.levels.inner c.levels.around → Leaving c (copy_after_progress p item (idle c)) (p ≡ Decided)
settles UnderWay item c has some made = (record { named = has; made = made }, (let n : ℕ = things_left c in let e : n ≤ n = omega arith in e), λ h. absurd cc)
settles Decided item c has some made =
    let less = pass_falls false (walked_place c.levels) some in
    (record { named = tt; made = made_inner c.levels.inner _ c.levels.around (inner_made c.levels.inner c.levels.around made) made }, omega (arith, less), λ h. less)
settles Anew item c has some made = (record { named = tt; made = made }, (let n : ℕ = things_left c in let e : n ≤ n = omega arith in e), λ h. absurd cc)

file_decided : (f new : Copying) (report : Did) → file.Tells f report new → decides report ≡ true → progress new.stage ≡ Decided
file_decided f new (Placed path) t h = ap (λ (x : Copying). progress x.stage) t.4
file_decided f new (Made made) t h = absurd t
file_decided f new (Began part) t h = absurd (false≢true h)
file_decided f new (Chunk count) t h = absurd (false≢true h)
file_decided f new (Set path) t h = absurd (false≢true h)
file_decided f new (Removed path) t h = absurd (false≢true h)
file_decided f new (Kept path) t h = absurd (false≢true h)
file_decided f new (Asked question) t h = absurd (false≢true h)
file_decided f new (Merges transfer pair names) t h = absurd (false≢true h)
file_decided f new (Moved pair) t h = absurd (false≢true h)
file_decided f new (Skipped path cause) t h = absurd (false≢true h)
file_decided f new (Cleaned part) t h = absurd (false≢true h)
file_decided f new Barrier t h = absurd (false≢true h)
file_decided f new (Troubled trouble) t h = absurd (false≢true h)
file_decided f new (Ended ending part) t h = absurd (false≢true h)

link_decided : (l new : LinkCopying) (report : Did) → link.Tells l report new → decides report ≡ true → link_progress new.stage ≡ Decided
link_decided l new (Placed path) t h = ap (λ (x : LinkCopying). link_progress x.stage) t.2
link_decided l new (Made made) t h = absurd t
link_decided l new (Began part) t h = absurd (false≢true h)
link_decided l new (Chunk count) t h = absurd (false≢true h)
link_decided l new (Set path) t h = absurd (false≢true h)
link_decided l new (Removed path) t h = absurd (false≢true h)
link_decided l new (Kept path) t h = absurd (false≢true h)
link_decided l new (Asked question) t h = absurd (false≢true h)
link_decided l new (Merges transfer pair names) t h = absurd (false≢true h)
link_decided l new (Moved pair) t h = absurd (false≢true h)
link_decided l new (Skipped path cause) t h = absurd (false≢true h)
link_decided l new (Cleaned part) t h = absurd (false≢true h)
link_decided l new Barrier t h = absurd (false≢true h)
link_decided l new (Troubled trouble) t h = absurd (false≢true h)
link_decided l new (Ended ending part) t h = absurd (false≢true h)

file_leaves : (unclaimed : Route → Type 0) (f : Copying) (old new : Seen) (did : Did) (before after : Option CallLog) → FileWorks unclaimed f old new did before after
    → 1 ≤ length old.levels.inner.names.names → AllMade old.levels.inner old.levels.around → Leaving old new (decides did ≡ true)
file_leaves unclaimed f old new did before after w some made =
    let c : Seen = noted_copy did (file.is_dirty w.moved.folder) old in
    let l : Leaving c (copy_after_progress (progress w.moved.stage) (File w.moved) (idle c)) (progress w.moved.stage ≡ Decided) =
    settles (progress w.moved.stage) (File w.moved) c some some (dirty_made (file.is_dirty w.moved.folder) old did made) in
    subst (λ (s : Seen). Leaving old s (decides did ≡ true)) (sym w.stands)
    (l.0, l.1, λ h. l.2 (file_decided f w.moved did w.tells h))

link_leaves : (k : LinkCopying) (old new : Seen) (did : Did) (before after : Option CallLog) → LinkWorks k old new did before after
    → 1 ≤ length old.levels.inner.names.names → AllMade old.levels.inner old.levels.around → Leaving old new (decides did ≡ true)
link_leaves k old new did before after w some made =
    let c : Seen = noted_copy did (link.is_dirty w.moved.folder) old in
    let l : Leaving c (copy_after_progress (link_progress w.moved.stage) (Link w.moved) (idle c)) (link_progress w.moved.stage ≡ Decided) =
    settles (link_progress w.moved.stage) (Link w.moved) c some some (dirty_made (link.is_dirty w.moved.folder) old did made) in
    subst (λ (s : Seen). Leaving old s (decides did ≡ true)) (sym w.stands)
    (l.0, l.1, λ h. l.2 (link_decided k w.moved did w.tells h))

-- a folder is gone into
abbrev IsFilled : Stage → Type 0
IsFilled stage = (owed : Option ℕ) × (stage ≡ Fill owed)

same_many : (n : ℕ) → n ≤ n
same_many n = omega arith

-- a folder is made, and gone into
makes : (pair : Pair) (names : List (List ℕ)) (moved : FolderCopying) (c : Seen) (to : Did) (stage : Stage) → moved.stage ≡ stage → length names ≤ 2 ^ 64 → 1 ≤ c.levels.left
    → 1 ≤ length c.levels.inner.names.names → c.item ≡ Next → AllMade c.levels.inner c.levels.around
    → Leaving c (record c { stage = after_report to c.stage; levels = made_levels stage (opened_folder pair.source names) moved c.levels }) (IsFilled stage)
makes pair names moved c to (Fill owed) is few deeper some free made =
    let less = enter_falls pair.source names (walked_place c.levels) some deeper few in (
      record {
        named = subst (λ (i : ItemAtWork). HasName i (made_levels (Fill owed) (opened_folder pair.source names) moved c.levels)) (sym free) tt;
        made = (ap is_made is, made_inner c.levels.inner _ c.levels.around (inner_made c.levels.inner c.levels.around made) made);
      },
      omega (arith, less),
      λ h. less,
    )
makes pair names moved c to (Make mode) is few deeper some free made =
    (record { named = subst (λ (i : ItemAtWork). HasName i c.levels) (sym free) tt; made = made }, same_many (things_left c), λ h. absurd (let e = h.1 in let f : ⊥ = cc in f))
makes pair names moved c to (Close owed) is few deeper some free made =
    (record { named = subst (λ (i : ItemAtWork). HasName i c.levels) (sym free) tt; made = made }, same_many (things_left c), λ h. absurd (let e = h.1 in let f : ⊥ = cc in f))
makes pair names moved c to Done is few deeper some free made =
    (record { named = subst (λ (i : ItemAtWork). HasName i c.levels) (sym free) tt; made = made }, same_many (things_left c), λ h. absurd (let e = h.1 in let f : ⊥ = cc in f))

-- a report that a folder was made says that it can be filled
made_filled : (c new : FolderCopying) (report : FolderDid) (did : Did) → IsToldAs report did → folder.Tells c report new → decides did ≡ true → IsFilled new.stage
made_filled c new (folder_did.Made path) did told t h = (folder.owed_mode t.0, ap (λ (x : FolderCopying). x.stage) t.3)
made_filled c new (folder_did.Set path) did told t h = absurd (false≢true (sym (ap decides told) ∙ h))
made_filled c new folder_did.Barrier did told t h = absurd (false≢true (sym (ap decides told) ∙ h))
made_filled c new folder_did.Closed did told t h = absurd told
made_filled c new (folder_did.Troubled trouble) did told t h = absurd (false≢true (sym (ap decides told) ∙ h))

folder_leaves : (pair : Pair) (names : List (List ℕ)) (mode : ℕ) (old new : Seen) (did : Did) (before after : Option CallLog) → FolderMakes pair names mode old new did before after
    → 1 ≤ old.levels.left → 1 ≤ length old.levels.inner.names.names → old.item ≡ Next → AllMade old.levels.inner old.levels.around → Leaving old new (decides did ≡ true)
folder_leaves pair names mode old new did before after w deeper some free made =
    let l = makes pair names w.moved old did w.moved.stage refl w.few deeper some free made in
    subst (λ (s : Seen). Leaving old s (decides did ≡ true)) (sym w.stands)
    (l.0, l.1, λ h. l.2 (made_filled (folder.copying pair.source pair.target (Make mode) Synced) w.moved w.report did w.says w.tells h))

-- a step at a folder that stands leaves it so, and decides nothing
end_made : (c new : FolderCopying) (report : FolderDid) → folder.Tells c report new → is_made c.stage ≡ true → is_made new.stage ≡ true
end_made c new (folder_did.Made path) t h = absurd (false≢true (sym (ap is_made t.1) ∙ h))
end_made c new (folder_did.Set path) t h = ap (λ (x : FolderCopying). is_made x.stage) t.3
end_made c new folder_did.Barrier t h = ap (λ (x : FolderCopying). is_made x.stage) t.2 ∙ h
end_made c new folder_did.Closed t h = ap (λ (x : FolderCopying). is_made x.stage) t.2
end_made c new (folder_did.Troubled trouble) t h = ap (λ (x : FolderCopying). is_made x.stage) t.1 ∙ h

end_decides_not : (c new : FolderCopying) (report : FolderDid) (did : Did) → IsToldAs report did → folder.Tells c report new → is_made c.stage ≡ true → decides did ≡ true → ⊥
end_decides_not c new (folder_did.Made path) did told t made h = false≢true (sym (ap is_made t.1) ∙ made)
end_decides_not c new (folder_did.Set path) did told t made h = false≢true (sym (ap decides told) ∙ h)
end_decides_not c new folder_did.Barrier did told t made h = false≢true (sym (ap decides told) ∙ h)
end_decides_not c new folder_did.Closed did told t made h = absurd told
end_decides_not c new (folder_did.Troubled trouble) did told t made h = false≢true (sym (ap decides told) ∙ h)

closed_made : (c : Seen) → AllMade c.levels.inner c.levels.around → (let e = at_end c in AllMade e.levels.inner e.levels.around)
closed_made c h = made_inner c.levels.inner _ c.levels.around (closing_made c.levels.inner.copy.stage (inner_made c.levels.inner c.levels.around h)) h

end_leaves : (c new : Seen) (did : Did) (before after : Option CallLog) → FolderEnds c new did before after → c.item ≡ Next → AllMade c.levels.inner c.levels.around → Leaving c new (decides did ≡ true)
end_leaves c new did before after w free made =
    let stands = inner_made c.levels.inner c.levels.around made in
    subst (λ (s : Seen). Leaving c s (decides did ≡ true)) (sym w.stands) (
      record {
        named = subst (λ (i : ItemAtWork). HasName i (with_copy w.moved c.levels)) (sym free) tt;
        made = made_inner c.levels.inner _ c.levels.around (end_made c.levels.inner.copy w.moved w.report w.tells stands) made;
      },
      same_many (things_left c),
      λ h. absurd (end_decides_not c.levels.inner.copy w.moved w.report did w.says w.tells stands h),
    )

-- a folder is left
outer_made : (inner outer : Level) (was around : List Level) → was ≡ outer ∷ around → AllMade inner was → AllMade outer around
outer_made inner outer was around is h = let k = subst (λ (xs : List Level). AllMade inner xs) is h in k.1

left_place : (old new : Levels) → IsLeft old new → PlaceLeft false (walked_place old) (walked_place new)
left_place old new l = record {
  outer = new.inner.names;
  was = ap (λ (xs : List Level). map (λ (o : Level). o.names) xs) l.was;
  inner = ap (λ b. (let f : OpenFolder = record new.inner.names { spared = b } in f)) (sym (or_false new.inner.names.spared));
  levels = l.levels;
}

returns_leave : (old new : Seen) → Leaves old new → old.item ≡ Next → IsSteady old → IsSteady new × (things_left new ≤ things_left old) × (new.item ≡ Next)
returns_leave old new l free h =
    let r = l.returns in
    let less = leave_falls false (walked_place old.levels) (walked_place new.levels) (let p = left_place (let c = at_end old in c.levels) new.levels r.left in p) in (
      record {
        named = subst (λ (i : ItemAtWork). HasName i new.levels) (sym (ap (λ (s : Seen). s.item) r.stands ∙ free)) tt;
        made = outer_made (let c = at_end old in c.levels.inner) new.levels.inner old.levels.around new.levels.around (let x = r.left in x.was) (closed_made old h.made);
      },
      omega (arith, less),
      ap (λ (s : Seen). s.item) r.stands ∙ free,
    )

pub all_leave : (n : ℕ) (old new : Seen) → LeavesAll n old new → IsSteady old → IsSteady new × (things_left new ≤ things_left old)
all_leave zero old new is h = subst (λ (s : Seen). IsSteady s × (things_left s ≤ things_left old)) (sym is) (h, same_many (things_left old))
all_leave (suc n) old new l h =
    let before = all_leave n old l.0 l.1 h in
    let last = returns_leave l.0 new l.3 l.2 before.0 in
    let a = before.1 in let b = last.1 in
    (last.0, omega (arith, a, b))

-- a thing that is taken up has a name
named_at : (names : List (List ℕ)) (c : Seen) (pair : Pair) → due_at names c ≡ Thing pair → 1 ≤ length names
named_at [] c pair is = absurd (let f : ⊥ = cc in f)
named_at (name ∷ names) c pair is = omega arith

stays_so : (old new : Seen) (did : Did) → new ≡ old → decides did ≡ false → IsSteady old → Leaving old new (decides did ≡ true)
stays_so old new did is none h = subst (λ (s : Seen). Leaving old s (decides did ≡ true)) (sym is) (h, same_many (things_left old), λ yes. absurd (false≢true (sym none ∙ yes)))

takes_leave : (unclaimed : Route → Type 0) (replies : Replies) (old new : Seen) (did : Did) (before after : Option CallLog) → TakesNext unclaimed replies old new did before after → old.item ≡ Next → IsSteady old
    → Leaving old new (decides did ≡ true)
takes_leave unclaimed replies old new did before after (inl s) free h = stays_so old new did s.stands (ap decides s.says) h
takes_leave unclaimed replies old new did before after (inr (inl t)) free h =
    file_leaves unclaimed (file.begun_copy old.job t.pair.source t.pair.target) old new did None None (file_taken unclaimed replies old new did before after t) (named_at old.levels.inner.names.names old t.pair t.next) h.made
takes_leave unclaimed replies old new did before after (inr (inr (inl t))) free h = link_leaves _ old new did before after t.works (named_at old.levels.inner.names.names old t.pair t.next) h.made
takes_leave unclaimed replies old new did before after (inr (inr (inr (inl t)))) free h =
    folder_leaves t.pair t.names t.mode old new did before after t.works (let r = t.reach in r.0) (named_at old.levels.inner.names.names old t.pair t.next) free h.made
takes_leave unclaimed replies old new did before after (inr (inr (inr (inr (inl t))))) free h =
    let less = pass_falls false (walked_place old.levels) (named_at old.levels.inner.names.names old t.pair t.next) in
    subst (λ (s : Seen). Leaving old s (decides did ≡ true)) (sym t.stands) (
      record {
        named = subst (λ (i : ItemAtWork). HasName i (passed_levels false old.levels)) (sym free) tt;
        made = made_inner old.levels.inner _ old.levels.around (inner_made old.levels.inner old.levels.around h.made) h.made;
      },
      omega (arith, less),
      λ yes. less,
    )
takes_leave unclaimed replies old new did before after (inr (inr (inr (inr (inr (inl t)))))) free h =
    let less = pass_falls false (walked_place old.levels) (named_at old.levels.inner.names.names old t.pair t.next) in
    subst (λ (s : Seen). Leaving old s (decides did ≡ true)) (sym t.stands) (
      record {
        named = subst (λ (i : ItemAtWork). HasName i (passed_levels false old.levels)) (sym free) tt;
        made = made_inner old.levels.inner _ old.levels.around (inner_made old.levels.inner old.levels.around h.made) h.made;
      },
      omega (arith, less),
      λ yes. less,
    )
takes_leave unclaimed replies old new did before after (inr (inr (inr (inr (inr (inr (inl t))))))) free h = stays_so old new did t.stands (ap decides t.says) h
takes_leave unclaimed replies old new did before after (inr (inr (inr (inr (inr (inr (inr (next, inl (debt, e))))))))) free h = end_leaves (at_end old) new did before after e free (closed_made old h.made)
takes_leave unclaimed replies old new did before after (inr (inr (inr (inr (inr (inr (inr (next, inr (debt, f, same))))))))) free h =
    stays_so (at_end old) new did f.stands (ap decides f.says) (record { named = subst (λ (i : ItemAtWork). HasName i (let c = at_end old in c.levels)) (sym free) tt; made = closed_made old h.made })

-- the folder around is synced
around_made : (inner outer : Level) (new : FolderCopying) (was around : List Level) → was ≡ outer ∷ around → new.stage ≡ outer.copy.stage → AllMade inner was → AllMade inner (level outer.names new ∷ around)
around_made inner outer new was around is same h =
    let k = subst (λ (xs : List Level). AllMade inner xs) is h in
    (k.0, made_inner outer (level outer.names new) around (ap is_made same ∙ inner_made outer around k.1) k.1)

syncs_leave : (old new : Seen) (did : Did) (before after : Option CallLog) → SyncsAround old new did before after → old.item ≡ Next → IsSteady old → Leaving old new (decides did ≡ true)
syncs_leave old new did before after s free h =
    let synced : FolderCopying = record s.outer.copy { names = s.names } in
    let names = ap (λ (xs : List Level). map (λ (o : Level). o.names) xs) s.was in
    let same : things_left new ≡ things_left old = ap things_left s.stands ∙ ap (λ (xs : List OpenFolder). rank (record { inner = old.levels.inner.names; around = xs; left = old.levels.left })) (sym names) in (
      subst IsSteady (sym s.stands) record {
        named = subst (λ (i : ItemAtWork). HasName i (record old.levels { around = level s.outer.names synced ∷ s.around })) (sym free) tt;
        made = around_made old.levels.inner s.outer synced old.levels.around s.around s.was refl h.made;
      },
      omega (arith, same),
      λ yes. absurd (end_decides_not (at_sync s.outer.copy) (record (at_sync s.outer.copy) { names = s.names }) s.report did s.says s.tells refl yes),
    )

goes_leave : (unclaimed : Route → Type 0) (replies : Replies) (old new : Seen) (did : Did) (before after : Option CallLog) → GoesOn unclaimed replies old new did before after → old.item ≡ Next → IsSteady old
    → Leaving old new (decides did ≡ true)
goes_leave unclaimed replies old new did before after (inl s) free h = syncs_leave old new did before after s free h
goes_leave unclaimed replies old new did before after (inr s) free h = takes_leave unclaimed replies old new did before after s.1 free h

works_leave : (unclaimed : Route → Type 0) (replies : Replies) (item : ItemAtWork) (old new : Seen) (did : Did) (before after : Option CallLog) → old.item ≡ item → WorksOn item unclaimed replies old new did before after → IsSteady old
    → Leaving old new (decides did ≡ true)
works_leave unclaimed replies Next old new did before after is w h = goes_leave unclaimed replies old new did before after w is h
works_leave unclaimed replies (File f) old new did before after is w h =
    file_leaves unclaimed f old new did before after w (let n = subst (λ (i : ItemAtWork). HasName i old.levels) is h.named in n) h.made
works_leave unclaimed replies (Link l) old new did before after is w h =
    link_leaves l old new did before after w (let n = subst (λ (i : ItemAtWork). HasName i old.levels) is h.named in n) h.made
works_leave unclaimed replies (Stays part) old new did before after is w h = absurd w

pub falling_law : FallingLaw
falling_law free replies old new did calls before after f0 f1 s h =
    let m = all_leave s.folders old s.mid s.leaves h in
    let l = works_leave (IsPartPlace free s.mid) replies s.mid.item s.mid new did before after refl s.works m.0 in
    let a = m.1 in let b = l.1 in
    (l.0, omega (arith, a, b), λ yes. let less = l.2 yes in omega (arith, a, less))
