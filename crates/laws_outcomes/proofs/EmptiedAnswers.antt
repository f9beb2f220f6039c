-- The removal of an emptied folder is refused as that of a folder in which something lies, and done of one in which nothing does.
use Rattle.std.proofs.Common.{◌≡◌, ℕ, zero, suc, Bool, true, false, not, ◌&&◌, ◌||◌, List, [], ◌∷◌, refl, sym, ◌∙◌, ap, inl, inr, Option, Some, None, Result, Ok, Err, cond, arith}
use Rattle.std.specs.Prelude.{⊤, ◌<◌, ◌==◌, is_none, is_some, length, unwrap_or}
use Rattle.std.specs.List.{list_any}
use Rattle.std.proofs.lemmas.Bool.{and_parts, eqb-true, false≢true, true≢false}
use Rattle.mc_text.specs.Routes.{Route}
use Rattle.tree_trait.specs.declared.calls.TreeError.{TreeError}
use Rattle.tree_trait.specs.declared.calls.TreeError.TheVariants.{Missing, NotFolder, Denied, Mounted, NotEmpty}
use Rattle.tree_trait.specs.declared.file_system.FileSystem.{FileSystem}
use Rattle.tree_trait.specs.declared.file_system.NameEdit.{NameEdit}
use Rattle.tree_trait.specs.Calls.{RemoveFolder}
use Rattle.tree_trait.specs.Change.{CallLog, current}
use Rattle.tree_trait.specs.FileSystem.{Value, View, find, lookup, node, value}
use Rattle.tree_trait.specs.Refusals.{Place, and_then, denied_access, first_of, folder_of, has_entries, is_empty, is_folder, is_mount, lacks, last_step, missing, no_folder, reached_node, refusal_of, step, thing, walk}
use Rattle.tree_trait.proofs.Walking.{check_passes, passed_walk, some_there, walk-find}
use Rattle.job_answers.specs.declared.replies.Replies.{Replies}
use Rattle.job_reports.specs.declared.report.Did.{Did}
use Rattle.job_reports.specs.declared.report.Did.TheVariants.{Began, Chunk, Placed, Removed, Made, Set, Kept, Skipped, Cleaned, Barrier, Asked, Merges, Moved, Troubled, Ended}
use Rattle.job_reports.specs.declared.report.Ending.{Ending}
use Rattle.emptied_job.specs.Removals.{RemovalCalls, Removing, Tells, Winds}
use Rattle.laws_sessions.proofs.Emptied.{no_entries}
use Rattle.laws_sessions.proofs.OwedModes.{ShowsTree}
use Rattle.laws_outcomes.specs.Answered.{HoldsSome, IsRemovedIfEmpty}
use Rattle.laws_outcomes.proofs.MergedNames.{shown_at, shown_below}

-- no walk is refused for what lies in a folder
abbrev OnWay : {A : Type 0} → Result A TreeError → Type 0
OnWay (Ok x) = ⊤
OnWay (Err e) = e ≡ NotEmpty → ⊥

checked : (A : Type 0) (a b : Bool) (rest : Result A TreeError) → OnWay rest → OnWay (cond a (Err NotFolder) (cond b (Err Denied) rest))
checked A true b rest h = λ e. cc
checked A false true rest h = λ e. cc
checked A false false rest h = h

entry_way : (o : Option ℕ) → OnWay (let r : Result ℕ TreeError = elim o [ None ↦ Err Missing | Some i ↦ Ok i ] in r)
entry_way None = λ e. cc
entry_way (Some i) = tt

then_way : (A B : Type 0) (next : A → Result B TreeError) (r : Result A TreeError) → ((x : A) → OnWay (next x)) → OnWay r → OnWay (and_then next r)
then_way A B next (Ok x) f h = f x
then_way A B next (Err e) f h = h

reached_way : (s : FileSystem) (path : Route) → OnWay (reached_node s path)
reached_way s [] = tt
reached_way s (name ∷ folder) =
    then_way ℕ ℕ (step s name) (reached_node s folder)
    (λ f. checked ℕ (not (is_folder (node s f))) (lacks 0o100 (node s f)) (let r : Result ℕ TreeError = elim (lookup s.names f name) [ None ↦ Err Missing | Some i ↦ Ok i ] in r) (entry_way (lookup s.names f name)))
    (reached_way s folder)

walk_way : (s : FileSystem) (path : Route) → OnWay (walk s path)
walk_way s [] = tt
walk_way s (name ∷ folder) =
    then_way ℕ Place (last_step s name) (reached_node s folder)
    (λ f. checked Place (not (is_folder (node s f))) (lacks 0o100 (node s f)) (Ok (record { holder = Some f; there = lookup s.names f name })) tt)
    (reached_way s folder)

-- what the path leads to has no entries, and no names that can't be told; or it has some
abbrev is_bare : FileSystem → ℕ → Bool
is_bare s i = not (has_entries s i) && ((node s i).unnamed == 0)

record LeadsTo (s : FileSystem) (path : Route) (bare : Bool) : Type 0 where
  pub i : ℕ
  pub at : find s path ≡ Some i
  pub bare_is : is_bare s i ≡ bare

abbrev checks : FileSystem → Place → Option TreeError
checks s p = first_of (missing p ∷ no_folder s p ∷ (is_mount s p, Mounted) ∷ (not (is_empty s p), NotEmpty) ∷ denied_access 0o200 (folder_of s p) ∷ [])

leads_to : (s : FileSystem) (path : Route) (p : Place) (bare : Bool) → walk s path ≡ Ok p → is_none p.there ≡ false → is_empty s p ≡ bare → LeadsTo s path bare
leads_to s path p bare walked there is =
    let o = some_there p.there there in
    record { i = o.0; at = walk-find s path p walked ∙ o.1; bare_is = ap (λ x. is_bare s (unwrap_or x (length s.nodes))) (sym o.1) ∙ is }

not_was : (b : Bool) → not b ≡ false → b ≡ true
not_was true h = refl
not_was false h = absurd (true≢false h)

-- where nothing forbids the removal
removed_bare : (s : FileSystem) (path : Route) → refusal_of s (RemoveFolder path) ≡ None → LeadsTo s path true
removed_bare s path h =
    let w = passed_walk (walk s path) (checks s) h in
    let p = w.0 in
    let a = check_passes (is_none p.there) Missing _ w.2 in
    let b = check_passes (not (is_folder (thing s p))) NotFolder _ a.1 in
    let c = check_passes (is_mount s p) Mounted _ b.1 in
    leads_to s path p true w.1 a.0 (not_was (is_empty s p) (check_passes (not (is_empty s p)) NotEmpty _ c.1).0)

-- an earlier check would have said something else
passes_on : (b : Bool) (e : TreeError) (rest : Option TreeError) → (e ≡ NotEmpty → ⊥) → cond b (Some e) rest ≡ Some NotEmpty → (b ≡ false) × (rest ≡ Some NotEmpty)
passes_on true e rest other h = absurd (other cc)
passes_on false e rest other h = (refl, h)

says : (empty lacking : Bool) → cond (not empty) (Some NotEmpty) (cond lacking (Some Denied) None) ≡ Some NotEmpty → empty ≡ false
says false lacking h = refl
says true true h = absurd (let f : ⊥ = cc in f)
says true false h = absurd (let f : ⊥ = cc in f)

-- where it is refused since the folder isn't empty
kept_filled : (s : FileSystem) (path : Route) → refusal_of s (RemoveFolder path) ≡ Some NotEmpty → LeadsTo s path false
kept_filled s path h = by (walk s path) refl (walk_way s path) h
  where
    by : (r : Result Place TreeError) → walk s path ≡ r → OnWay r → (let o : Option TreeError = elim r [ Err e ↦ Some e | Ok place ↦ checks s place ] in o) ≡ Some NotEmpty → LeadsTo s path false
    by (Err e) is way h = absurd (way cc)
    by (Ok p) is way h =
        let a = passes_on (is_none p.there) Missing _ (λ e. cc) h in
        let b = passes_on (not (is_folder (thing s p))) NotFolder _ (λ e. cc) a.1 in
        let c = passes_on (is_mount s p) Mounted _ (λ e. cc) b.1 in
        leads_to s path p false is a.0 (says (is_empty s p) (lacks 0o200 (folder_of s p)) c.1)

-- an entry has a name
abbrev has_entry : List NameEdit → ℕ → List NameEdit → Bool
has_entry all i names = list_any (λ (e : NameEdit). (e.folder == i) && is_some (lookup all i e.name)) names

some_entry : (all names : List NameEdit) (i : ℕ) → has_entry all i names ≡ true → (name : List ℕ) × (is_some (lookup all i name) ≡ true)
some_entry all [] i h = absurd (false≢true h)
some_entry all (e ∷ older) i h = by ((e.folder == i) && is_some (lookup all i e.name)) refl h (some_entry all older i)
  where
    by : (b : Bool) → ((e.folder == i) && is_some (lookup all i e.name)) ≡ b → (b || has_entry all i older) ≡ true → (has_entry all i older ≡ true → (name : List ℕ) × (is_some (lookup all i name) ≡ true)) → (name : List ℕ) × (is_some (lookup all i name) ≡ true)
    by true is h later = (e.name, (and_parts (e.folder == i) _ is).1)
    by false is h later = later h

some_unnamed : (count : ℕ) → (count == 0) ≡ false → 0 < count
some_unnamed zero h = absurd (true≢false h)
some_unnamed (suc count) h = omega arith

-- as the history shows it
module _ (v : View) (log : CallLog) (shows : ShowsTree v log) where
  holds : (path : Route) → LeadsTo (current log) path false → HoldsSome v path
  holds path l = by (has_entries (current log) l.i) refl l.bare_is
    where
      by : (b : Bool) → has_entries (current log) l.i ≡ b → (not b && ((node (current log) l.i).unnamed == 0)) ≡ false → HoldsSome v path
      by true is h = (let one = some_entry (current log).names (current log).names l.i is in inl (one.0, shown_below v log shows path l.i l.at one.0 ∙ one.1))
      by false is h = inr (value (node (current log) l.i), shown_at v log shows path l.i l.at, some_unnamed (node (current log) l.i).unnamed h)

  holds_none : (path : Route) → LeadsTo (current log) path true → HoldsSome v path → ⊥
  holds_none path l held = by held
    where
      bare : (not (has_entries (current log) l.i) ≡ true) × (((node (current log) l.i).unnamed == 0) ≡ true)
      bare = and_parts (not (has_entries (current log) l.i)) ((node (current log) l.i).unnamed == 0) l.bare_is

      none : (b : Bool) → not b ≡ true → b ≡ false
      none true h = absurd (false≢true h)
      none false h = refl

      by : HoldsSome v path → ⊥
      by (inl (name, some)) =
          false≢true (ap is_some (sym (no_entries (current log) l.i (none (has_entries (current log) l.i) bare.0) name)) ∙ (sym (shown_below v log shows path l.i l.at name) ∙ some))
      by (inr (x, is, more)) =
          let same : Some x ≡ Some (value (node (current log) l.i)) = sym is ∙ shown_at v log shows path l.i l.at in
          let it : x ≡ value (node (current log) l.i) = cc in
          let count = ap (λ (y : Value). y.unnamed) it in
          let nought = eqb-true (node (current log) l.i).unnamed 0 bare.1 in
          omega (arith, count, nought, more)

  pub emptied_as : (replies : Replies) (r new : Removing) (did : Did) (after : Option CallLog) → Tells replies r did new → RemovalCalls r did log after → IsRemovedIfEmpty r.path v did
  emptied_as replies r new (Removed path) after (stage, path_is, new_is) (may, done) = (path_is, holds_none r.path (removed_bare (current log) r.path may))
  emptied_as replies r new (Kept path) after (stage, path_is, new_is) (refused, none) = (path_is, holds r.path (kept_filled (current log) r.path refused))
  emptied_as replies r new (Skipped path cause) after t called = tt
  emptied_as replies r new Barrier after t called = tt
  emptied_as replies r new (Troubled trouble) after t called = tt
  emptied_as replies r new (Ended ending part) after t called = tt
  emptied_as replies r new did after t called = absurd t

-- last steps neither remove nor keep it
pub emptied_wound : (v : View) (ending : Ending) (r new : Removing) (did : Did) → Winds ending r did new → IsRemovedIfEmpty r.path v did
emptied_wound v ending r new Barrier w = tt
emptied_wound v ending r new (Ended how part) w = tt
emptied_wound v ending r new did w = absurd w
