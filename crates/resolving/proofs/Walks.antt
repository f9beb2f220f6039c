-- What a step makes of the walk, and how many components a text has.
use Rattle.std.proofs.Common.{◌≡◌, ◌≤◌, ℕ, suc, ◌+◌, Bool, true, false, List, [], ◌∷◌, ◌++◌, length, filter, Option, Some, None, Result, Ok, Err, refl, sym, subst, ◌∙◌, ◌≢◌, ◌*◌, cond, arith, not, length-append}
use Rattle.std.specs.Prelude.{unwrap_or, is_none}
use Rattle.std.proofs.lemmas.Bool.{true≢false}
use Rattle.std.specs.Str.{bytes_eq}
use Rattle.mc_text.specs.declared.kind.Kind.{Kind}
use Rattle.mc_text.specs.declared.kind.Kind.TheVariants.{File, Folder, Link, Other}
use Rattle.mc_text.specs.Routes.{Route, components_of}
use Rattle.mc_text.proofs.Components.{bytes_of, bytes-components, bytes-cons}
use Rattle.tree_trait.specs.declared.file_system.Node.{Node}
use Rattle.tree_trait.specs.declared.file_system.FileSystem.{FileSystem}
use Rattle.tree_trait.specs.declared.calls.TreeError.{TreeError}
use Rattle.tree_trait.specs.declared.calls.TreeError.TheVariants as tree
use Rattle.tree_trait.specs.Calls.{Stat, ReadLink}
use Rattle.tree_trait.specs.FileSystem.{node}
use Rattle.tree_trait.specs.Refusals.{Place, holder, walk, is_link, first_of, missing, thing, refusal_of}
use Rattle.tree_trait.specs.Change.{CallLog, current, found_node}
use Rattle.tree_trait.specs.Answers.{Reads}
use Rattle.tree_trait.proofs.Walking.{passed_walk, check_passes, walk-find}
use Rattle.resolving.specs.declared.error.ResolveError.{ResolveError}
use Rattle.resolving.specs.declared.error.ResolveError.TheVariants.{Tree, TooManyLinks, TooLong, BadName, Fault, Memory}
use Rattle.resolving.specs.declared.looking.Step.{Step}
use Rattle.resolving.specs.declared.looking.Step.TheVariants.{Into, Up, Onto, Across}
use Rattle.resolving.specs.declared.walking.Wanted.{Wanted}
use Rattle.resolving.specs.declared.walking.Place as walking
use Rattle.resolving.specs.Errors.{Answers, refused_by}
use Rattle.resolving.specs.Places.{end_of, into_folder}
use Rattle.resolving.specs.Resolution.{is_passed, steps_of, start_of, no_more, end_at, end_by_kind, end_told, end_in, entry_fault, step_onto, told_step, look_unless, walk_on, walk_from, step_from}

-- ---- a link that stands is readable

passes : (s : FileSystem) (o : Option ℕ) → is_none o ≡ false → (node s (unwrap_or o 0)).kind ≡ Link
    → first_of ((is_none o, tree.Missing) ∷ (not (is_link (node s (unwrap_or o (length s.nodes)))), tree.Special) ∷ []) ≡ None
passes s None there kind = absurd (true≢false there)
passes s (Some i) there kind = rw kind refl

pub link_readable : (s : FileSystem) (path : Route) → refusal_of s (Stat path) ≡ None → (node s (found_node s path)).kind ≡ Link
    → refusal_of s (ReadLink path) ≡ None
link_readable s path stands kind =
    let w = passed_walk (walk s path) (λ p. first_of (missing p ∷ [])) stands in
    let there = (check_passes (is_none w.0.there) tree.Missing _ w.2).0 in
    let is : (node s (unwrap_or w.0.there 0)).kind ≡ Link = subst (λ o. (node s (unwrap_or o 0)).kind ≡ Link) (walk-find s path w.0 w.1) kind in
    subst (λ (r : Result Place TreeError). (let o : Option TreeError = elim r [ Err e ↦ Some e | Ok p ↦ first_of (missing p ∷ (not (is_link (thing s p)), tree.Special) ∷ []) ] in o) ≡ None)
    (sym w.1) (passes s w.0.there there is)

never : {A : Type 0} (o : Option TreeError) (e : TreeError) → o ≡ None → o ≡ Some e → A
never o e none some = cc

-- what was refused of a link that stands is free
pub link_refused : (log : CallLog) (path : Route) (P : List ℕ → Type 0) (expected : Result Step ResolveError) (e : TreeError)
    → refusal_of (current log) (ReadLink path) ≡ None → Reads {A = List ℕ} log (ReadLink path) (Err e) P → Answers {A = Step} expected (Err (refused_by path e))
link_refused log path P expected tree.Fault none h = tt
link_refused log path P expected tree.Memory none h = tt
link_refused log path P expected tree.Missing none h = never _ tree.Missing none h
link_refused log path P expected tree.NotFolder none h = never _ tree.NotFolder none h
link_refused log path P expected tree.Denied none h = never _ tree.Denied none h
link_refused log path P expected tree.Exists none h = never _ tree.Exists none h
link_refused log path P expected tree.IsFolder none h = never _ tree.IsFolder none h
link_refused log path P expected tree.NotEmpty none h = never _ tree.NotEmpty none h
link_refused log path P expected tree.IntoItself none h = never _ tree.IntoItself none h
link_refused log path P expected tree.Mounted none h = never _ tree.Mounted none h
link_refused log path P expected tree.CrossMount none h = never _ tree.CrossMount none h
link_refused log path P expected tree.NoSpace none h = never _ tree.NoSpace none h
link_refused log path P expected tree.Special none h = never _ tree.Special none h

-- ---- one step of the walk

module _ (s : FileSystem) (wanted : Wanted) (links : ℕ) (folder : Route) (component : List ℕ) (rest : List (List ℕ)) where
  pub walk-into : (path : Route) → step_from s folder component ≡ Ok (Into path) → walk_from s wanted links folder (component ∷ rest) ≡ walk_from s wanted links path rest
  walk-into path h = rw h refl

  pub walk-up : (path : Route) → step_from s folder component ≡ Ok (Up path) → walk_from s wanted links folder (component ∷ rest) ≡ walk_from s wanted links path rest
  walk-up path h = rw h refl

  pub walk-onto : (path : Route) → step_from s folder component ≡ Ok (Onto path) → walk_from s wanted links folder (component ∷ rest) ≡ end_at wanted (no_more rest) path
  walk-onto path h = rw h refl

  pub walk-across : (text : List ℕ) → step_from s folder component ≡ Ok (Across text)
      → walk_from s wanted links folder (component ∷ rest) ≡ walk_on s wanted links (start_of folder text) (steps_of text ++ rest)
  walk-across text h = rw h refl

  pub walk-refused : (e : ResolveError) → Answers {A = Step} (step_from s folder component) (Err e) → Answers {A = Route} (walk_from s wanted links folder (component ∷ rest)) (Err e)
  walk-refused Fault h = tt
  walk-refused Memory h = tt
  walk-refused (Tree path e) h = rw h refl
  walk-refused TooManyLinks h = rw h refl
  walk-refused TooLong h = rw h refl
  walk-refused BadName h = rw h refl

-- ---- a folder that was looked at

kind_ends : (wanted : Wanted) (at path : Route) (kind : Kind) (text : List ℕ) → step_onto kind at text ≡ Into path
    → (at ≡ path) × (end_by_kind wanted kind at ≡ Ok at)
kind_ends wanted at path Folder text h = (let e : at ≡ path = cc in e, refl)
kind_ends wanted at path Link text h = absurd (cc)
kind_ends wanted at path File text h = absurd (cc)
kind_ends wanted at path Other text h = absurd (cc)

told_ends : (wanted : Wanted) (at path : Route) (refusal : Option TreeError) (thing : Node) → told_step refusal at thing ≡ Ok (Into path)
    → (at ≡ path) × (end_told refusal wanted thing.kind at ≡ Ok at)
told_ends wanted at path None thing h = kind_ends wanted at path thing.kind thing.bytes (let e : step_onto thing.kind at thing.bytes ≡ Into path = cc in e)
told_ends wanted at path (Some e) thing h = absurd (cc)

looked_ends : (s : FileSystem) (wanted : Wanted) (at path : Route) (fault : Option ResolveError) → look_unless fault s at ≡ Ok (Into path) → end_in s wanted path ≡ Ok path
looked_ends s wanted at path None h =
    let ends = told_ends wanted at path (refusal_of s (Stat at)) (node s (found_node s at)) h in
    subst (λ p. end_in s wanted p ≡ Ok p) ends.0 ends.1
looked_ends s wanted at path (Some e) h = absurd (cc)

step_ends : (s : FileSystem) (wanted : Wanted) (folder path : Route) (component : List ℕ) (up : Bool)
    → cond up (Ok (Up (holder folder))) (look_unless (entry_fault folder component) s (component ∷ folder)) ≡ Ok (Into path) → end_in s wanted path ≡ Ok path
step_ends s wanted folder path component true h = absurd (cc)
step_ends s wanted folder path component false h = looked_ends s wanted (component ∷ folder) path (entry_fault folder component) h

-- it ends the walk where nothing is left
pub walk-goes_into : (s : FileSystem) (wanted : Wanted) (links : ℕ) (folder : Route) (component : List ℕ) (rest : List (List ℕ)) (path : Route)
    → step_from s folder component ≡ Ok (Into path) → walk_from s wanted links folder (component ∷ rest) ≡ end_of s wanted (into_folder path rest links)
walk-goes_into s wanted links folder component [] path h =
    walk-into s wanted links folder component [] path h ∙ step_ends s wanted folder path component (bytes_eq component (46 ∷ 46 ∷ [])) h
walk-goes_into s wanted links folder component (next ∷ rest) path h = walk-into s wanted links folder component (next ∷ rest) path h

-- a link that may be followed, and one that may not
pub walk_on-more : (s : FileSystem) (wanted : Wanted) (links left : ℕ) (folder : Route) (ahead : List (List ℕ)) → left + 1 ≡ links
    → walk_on s wanted links folder ahead ≡ walk_from s wanted left folder ahead
unfolding walk_on
walk_on-more s wanted links left folder ahead h =
    let e : suc left ≡ links = omega arith in
    subst (λ n. walk_on s wanted n folder ahead ≡ walk_from s wanted left folder ahead) e refl

pub walk_on-none : (s : FileSystem) (wanted : Wanted) (links : ℕ) (folder : Route) (ahead : List (List ℕ)) → links ≡ 0
    → walk_on s wanted links folder ahead ≡ Err TooManyLinks
unfolding walk_on
walk_on-none s wanted links folder ahead h =
    subst (λ n. walk_on s wanted n folder ahead ≡ Err TooManyLinks) (sym h) refl

-- where a link's text leads, and what is refused there
pub crossed : (s : FileSystem) (wanted : Wanted) (links : ℕ) (folder : Route) (component : List ℕ) (rest : List (List ℕ)) (text : List ℕ) (further : walking.Place)
    → step_from s folder component ≡ Ok (Across text) → further.folder ≡ start_of folder text → further.ahead ≡ steps_of text ++ rest → further.links + 1 ≡ links
    → walk_from s wanted links folder (component ∷ rest) ≡ walk_from s wanted further.links further.folder further.ahead
crossed s wanted links folder component rest text further step begins ahead less =
    rw (begins, ahead)
    (walk-across s wanted links folder component rest text step ∙ walk_on-more s wanted links further.links (start_of folder text) (steps_of text ++ rest) less)

pub crossed_none : (s : FileSystem) (wanted : Wanted) (links : ℕ) (folder : Route) (component : List ℕ) (rest : List (List ℕ)) (text : List ℕ) (e : ResolveError)
    → step_from s folder component ≡ Ok (Across text) → (e ≢ Memory → (e ≡ TooManyLinks) × (links ≡ 0))
    → Answers {A = Route} (walk_from s wanted links folder (component ∷ rest)) (Err e)
crossed_none s wanted links folder component rest text Fault step h = tt
crossed_none s wanted links folder component rest text Memory step h = tt
crossed_none s wanted links folder component rest text TooManyLinks step h =
    walk-across s wanted links folder component rest text step ∙ walk_on-none s wanted links (start_of folder text) (steps_of text ++ rest) (h (λ is. cc)).1
crossed_none s wanted links folder component rest text (Tree path e) step h = let is = (h (λ is. cc)).0 in cc
crossed_none s wanted links folder component rest text TooLong step h = let is = (h (λ is. cc)).0 in cc
crossed_none s wanted links folder component rest text BadName step h = let is = (h (λ is. cc)).0 in cc

-- ---- how many components a text has

filter-short : (p : List ℕ → Bool) (components : List (List ℕ)) → length (filter p components) ≤ bytes_of components
filter-short p [] = omega arith
filter-short p (component ∷ rest) =
    let ih = filter-short p rest in
    let more = bytes-cons component rest in
    elim (p component) as (λ b. length (cond b (component ∷ filter p rest) (filter p rest)) ≤ bytes_of (component ∷ rest)) [
      | true ↦ omega (arith, ih, more)
      | false ↦ omega (arith, ih, more)
    ]

-- a text has no more steps than bytes, and one
pub steps-short : (text : List ℕ) → length (steps_of text) ≤ length text + 1
steps-short text =
    let few = filter-short (λ component. not (is_passed component)) (components_of text) in
    omega (arith, few, bytes-components text)

-- a link followed leaves less of the way
pub crossed_nearer : (links left : ℕ) (text : List ℕ) (rest new : List (List ℕ)) → new ≡ steps_of text ++ rest → left + 1 ≡ links → length text ≤ 4095
    → left * 4097 + length new ≤ links * 4097 + length rest
crossed_nearer links left text rest new ahead less short =
    rw (ahead, length-append (steps_of text) rest) (omega (arith, steps-short text))

-- ---- the components that are read

abbrev pub kept : List (List ℕ) → List (List ℕ)
kept = filter (λ component. not (is_passed component))

pub kept-passed : (component : List ℕ) (rest : List (List ℕ)) → is_passed component ≡ true → kept (component ∷ rest) ≡ kept rest
kept-passed component rest h = rw h refl

pub kept-more : (component : List ℕ) (rest : List (List ℕ)) → is_passed component ≡ false → kept (component ∷ rest) ≡ component ∷ kept rest
kept-more component rest h = rw h refl
