-- A text that leads to nothing leads to no folder, for the same cause.
use Rattle.std.proofs.Common.{◌≡◌, ℕ, Bool, true, false, List, [], ◌∷◌, ◌++◌, Option, Some, None, Result, Ok, Err}
use Rattle.std.specs.Prelude.{zero, suc}
use Rattle.mc_text.specs.declared.kind.Kind.{Kind}
use Rattle.mc_text.specs.declared.kind.Kind.TheVariants.{File, Folder, Link, Other}
use Rattle.mc_text.specs.Routes.{Route}
use Rattle.tree_trait.specs.declared.calls.TreeError.{TreeError}
use Rattle.tree_trait.specs.declared.file_system.FileSystem.{FileSystem}
use Rattle.tree_trait.specs.Calls.{Stat}
use Rattle.tree_trait.specs.FileSystem.{node}
use Rattle.tree_trait.specs.Refusals.{refusal_of}
use Rattle.tree_trait.specs.Change.{CallLog, current, found_node}
use Rattle.resolving.specs.declared.error.ResolveError.{ResolveError}
use Rattle.resolving.specs.declared.error.ResolveError.TheVariants as resolve
use Rattle.resolving.specs.declared.looking.Step.{Step}
use Rattle.resolving.specs.declared.looking.Step.TheVariants.{Into, Up, Onto, Across}
use Rattle.resolving.specs.declared.walking.Wanted.TheVariants.{FolderAlone, AnyThing}
use Rattle.resolving.specs.Errors.{Answers}
use Rattle.resolving.specs.Resolution.{after_step, end_at, end_by_kind, end_told, no_more, resolved_path, start_of, step_from, steps_of, walk_along, walk_on}

abbrev Led : Type 0
Led = Result Route ResolveError

abbrev failed : ResolveError → Led
failed e = Err e

-- the end of a walk
ends : (is_last : Bool) (path : Route) (e : ResolveError) → end_at AnyThing is_last path ≡ failed e → end_at FolderAlone is_last path ≡ failed e
ends true path e h = absurd cc
ends false path e h = h

by_kind : (kind : Kind) (path : Route) (e : ResolveError) → end_by_kind AnyThing kind path ≡ failed e → end_by_kind FolderAlone kind path ≡ failed e
by_kind Folder path e h = absurd cc
by_kind File path e h = ends true path e h
by_kind Link path e h = ends true path e h
by_kind Other path e h = ends true path e h

told_end : (told : Option TreeError) (kind : Kind) (path : Route) (e : ResolveError) → end_told told AnyThing kind path ≡ failed e → end_told told FolderAlone kind path ≡ failed e
told_end (Some cause) kind path e h = h
told_end None kind path e h = by_kind kind path e h

-- a step, by where it leads
behind : (step : Result Step ResolveError) (into into_alone : Route → Led) (across across_alone : List ℕ → Led) (onto onto_alone : Route → Led) (e : ResolveError)
    → ((path : Route) → into path ≡ failed e → into_alone path ≡ failed e)
    → ((text : List ℕ) → across text ≡ failed e → across_alone text ≡ failed e)
    → ((path : Route) → onto path ≡ failed e → onto_alone path ≡ failed e)
    → after_step step into across onto ≡ failed e → after_step step into_alone across_alone onto_alone ≡ failed e
behind (Ok (Into path)) into into_alone across across_alone onto onto_alone e f g k h = f path h
behind (Ok (Up path)) into into_alone across across_alone onto onto_alone e f g k h = f path h
behind (Ok (Across text)) into into_alone across across_alone onto onto_alone e f g k h = g text h
behind (Ok (Onto path)) into into_alone across across_alone onto onto_alone e f g k h = k path h
behind (Err why) into into_alone across across_alone onto onto_alone e f g k h = h

-- a walk, where that behind a link keeps to it
along : (s : FileSystem) (follow follow_alone : Route → List (List ℕ) → Led)
    → ((from : Route) (left : List (List ℕ)) (e : ResolveError) → follow from left ≡ failed e → follow_alone from left ≡ failed e)
    → (folder : Route) (ahead : List (List ℕ)) (e : ResolveError) → walk_along s AnyThing follow folder ahead ≡ failed e → walk_along s FolderAlone follow_alone folder ahead ≡ failed e
along s follow follow_alone keeps folder [] e h = told_end (refusal_of s (Stat folder)) (node s (found_node s folder)).kind folder e h
along s follow follow_alone keeps folder (component ∷ rest) e h =
    behind (step_from s folder component)
    (λ path. walk_along s AnyThing follow path rest) (λ path. walk_along s FolderAlone follow_alone path rest)
    (λ text. follow (start_of folder text) (steps_of text ++ rest)) (λ text. follow_alone (start_of folder text) (steps_of text ++ rest))
    (λ path. end_at AnyThing (no_more rest) path) (λ path. end_at FolderAlone (no_more rest) path) e
    (λ path g. along s follow follow_alone keeps path rest e g)
    (λ text g. keeps (start_of folder text) (steps_of text ++ rest) e g)
    (λ path g. ends (no_more rest) path e g) h

on : (s : FileSystem) (links : ℕ) (folder : Route) (ahead : List (List ℕ)) (e : ResolveError) → walk_on s AnyThing links folder ahead ≡ failed e → walk_on s FolderAlone links folder ahead ≡ failed e
unfolding walk_on
on s zero folder ahead e h = h
on s (suc links) folder ahead e h =
    along s (walk_on s AnyThing links) (walk_on s FolderAlone links) (λ from left why g. on s links from left why g) folder ahead e h

no_folder : (s : FileSystem) (from : Route) (typed : List ℕ) (e : ResolveError) → resolved_path s AnyThing from typed ≡ failed e → resolved_path s FolderAlone from typed ≡ failed e
no_folder s from typed e h = along s (walk_on s AnyThing 40) (walk_on s FolderAlone 40) (on s 40) (start_of from typed) (steps_of typed) e h

pub leads_nowhere : (log : CallLog) (from : Route) (typed : List ℕ) (e : ResolveError) → Answers {A = Route} (resolved_path (current log) AnyThing from typed) (Err e)
    → Answers {A = Route} (resolved_path (current log) FolderAlone from typed) (Err e)
leads_nowhere log from typed (resolve.Tree path cause) h = no_folder (current log) from typed (resolve.Tree path cause) h
leads_nowhere log from typed resolve.TooManyLinks h = no_folder (current log) from typed resolve.TooManyLinks h
leads_nowhere log from typed resolve.TooLong h = no_folder (current log) from typed resolve.TooLong h
leads_nowhere log from typed resolve.BadName h = no_folder (current log) from typed resolve.BadName h
leads_nowhere log from typed resolve.Fault h = tt
leads_nowhere log from typed resolve.Memory h = tt
