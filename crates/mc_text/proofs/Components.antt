-- The components of a text, and an iterator that yields them.
use Rattle.std.proofs.Common.{◌≡◌, ◌≢◌, ◌==◌, ◌<◌, ◌≤◌, ℕ, ◌+◌, ◌&&◌, nat_lt, add-zero, Bool, true, false, not, cond, if◌then◌else◌, List, [], ◌∷◌, ◌++◌, length, drop, reverse, filter, sum_by, Option, Some, None, IsSome, is_some, refl, sym, ap, ◌∙◌, arith}
use Rattle.std.proofs.lemmas.Iterator.{YieldsList}
use Rattle.std.specs.List.{onto_first, All}
use Rattle.std.proofs.lemmas.List.Splits.{slice_split_none, length-slice_split}
use Rattle.std.proofs.lemmas.List.Elements.{All-nil, All-cons, filter-append}
use Rattle.mc_text.specs.Routes.{Route, spelled_route, route_of, begins_with_slash, components_of, is_empty, bad_component, path_fault}
use Rattle.std.proofs.lemmas.List.{reverse-append, length-append}
use Rattle.std.proofs.lemmas.Bool.Decides.{nat_tests}
use Rattle.mc_text.specs.Names.{name_fault, first_bad_byte}
use Rattle.mc_text.specs.declared.error.PathError.TheVariants.{NotAbsolute, BadName}
use Rattle.mc_text.specs.declared.error.NameError.TheVariants.{Empty, TooLong, Slash, Nul}
use Rattle.std.proofs.lemmas.List.Sums.{sum_by-cons}

-- the bytes of components, each with the slash behind it
abbrev pub bytes_of : List (List ℕ) → ℕ
bytes_of = sum_by (λ component. length component + 1)

-- the components that are names
abbrev pub names_of : List (List ℕ) → List (List ℕ)
names_of = filter (λ component. not (is_empty component))

-- an iterator that yields a list yields its first item, and then the rest
pub yields-next : {S A B : Type 0} {steps : S → Option A → S → Type 0} {v : A → B} {s t : S} {ys : List B} {x : A}
    → YieldsList steps v s ys → steps s (Some x) t → (ys ≡ v x ∷ drop 1 ys) × YieldsList steps v t (drop 1 ys)
yields-next {ys = []} h step = absurd (h.runs _ _ step)
yields-next {ys = y ∷ ys} h step =
    let more = h.runs.1 _ _ step in (ap (λ z. z ∷ ys) (sym more.0), record { runs = more.1 })

-- an iterator that yields nothing has nothing left
pub yields-end : {S A B : Type 0} {steps : S → Option A → S → Type 0} {v : A → B} {s t : S} {ys : List B}
    → YieldsList steps v s ys → steps s None t → ys ≡ []
yields-end {ys = []} h step = refl
yields-end {ys = y ∷ ys} h step = absurd (h.runs.0 _ step)

pub bytes-cons : (part : List ℕ) (parts : List (List ℕ)) → bytes_of (part ∷ parts) ≡ length part + 1 + bytes_of parts
bytes-cons part parts = sum_by-cons (λ component. length component + 1) part parts

bytes-onto_first : (byte : ℕ) (parts : List (List ℕ)) (n : ℕ) → bytes_of parts ≡ n + 1 → bytes_of (onto_first byte parts) ≡ n + 2
bytes-onto_first byte [] n h = absurd (omega (arith, h))
bytes-onto_first byte (part ∷ parts) n h =
    omega (arith, bytes-cons part parts, bytes-cons (byte ∷ part) parts)

-- no byte gets lost
pub bytes-components : (text : List ℕ) → bytes_of (components_of text) ≡ length text + 1
bytes-components [] = refl
bytes-components (byte ∷ text) =
    let ih = bytes-components text in
    elim (byte == 47) as (λ b. bytes_of (cond b ([] ∷ components_of text) (onto_first byte (components_of text))) ≡ length (byte ∷ text) + 1) [
      | true ↦ omega (arith, bytes-cons [] (components_of text))
      | false ↦ bytes-onto_first byte (components_of text) (length text) ih ∙ omega arith
    ]

-- what a component adds to the names and the faults of those behind it
pub names-empty : (component : List ℕ) (rest : List (List ℕ)) → length component ≡ 0 → names_of (component ∷ rest) ≡ names_of rest
names-empty [] rest h = refl
names-empty (byte ∷ component) rest h = absurd (omega arith)

pub names-some : (component : List ℕ) (rest : List (List ℕ)) → length component ≢ 0 → names_of (component ∷ rest) ≡ component ∷ names_of rest
names-some [] rest h = absurd (h refl)
names-some (byte ∷ component) rest h = refl

pub fault-empty : (at : ℕ) (component : List ℕ) (rest : List (List ℕ)) → length component ≡ 0
    → bad_component at (component ∷ rest) ≡ bad_component (at + (length component + 1)) rest
fault-empty at [] rest h = refl
fault-empty at (byte ∷ component) rest h = absurd (omega arith)

pub fault-name : (at : ℕ) (component : List ℕ) (rest : List (List ℕ)) → length component ≢ 0 → name_fault component ≡ None
    → bad_component at (component ∷ rest) ≡ bad_component (at + (length component + 1)) rest
fault-name at [] rest h is = absurd (h refl)
fault-name at (byte ∷ component) rest h is = rw is refl

pub fault-bad : (at : ℕ) (component : List ℕ) (rest : List (List ℕ)) → length component ≢ 0 → IsSome (name_fault component)
    → bad_component at (component ∷ rest) ≡ Some (BadName at)
fault-bad at [] rest h is = absurd (h refl)
fault-bad at (byte ∷ component) rest h is = rw is refl

-- a text behind a slash that isn't too long is as sound as its components
pub fault-components : (text relative : List ℕ) → text ≡ 47 ∷ relative → length text ≤ 4096
    → path_fault text ≡ bad_component 0 (components_of text)
fault-components text relative e h = rw e (let k : length (47 ∷ relative) ≤ 4096 = rw e at h in grind (arith, nat_tests))

-- a text that doesn't begin with a slash
pub fault-not_absolute : (text : List ℕ) → ((relative : List ℕ) → text ≢ 47 ∷ relative) → path_fault text ≡ Some NotAbsolute
fault-not_absolute [] h = refl
fault-not_absolute (byte ∷ rest) h =
    let other : byte ≢ 47 = λ e. h rest (ap (λ b. b ∷ rest) e) in
    let no : (byte == 47) ≡ false = grind (arith, nat_tests) in
    rw no refl

-- the bytes of one more name
pub spelled-more : (names : Route) (name : List ℕ)
    → length (spelled_route (reverse (names ++ name ∷ []))) ≡ length (spelled_route (reverse names)) + (1 + length name)
spelled-more names name =
    rw (reverse-append names (name ∷ []), length-append (spelled_route (reverse names)) (47 ∷ name)) (omega arith)

-- ---- reading what was written

-- a byte before the first of some parts
onto_first-append : (byte : ℕ) (parts more : List (List ℕ)) → 0 < length parts → onto_first byte (parts ++ more) ≡ onto_first byte parts ++ more
onto_first-append byte [] more h = absurd (omega arith)
onto_first-append byte (part ∷ parts) more h = refl

-- a slash ends a component
components-slash : (prefix rest : List ℕ) → components_of (prefix ++ 47 ∷ rest) ≡ components_of prefix ++ components_of rest
components-slash [] rest = refl
components-slash (byte ∷ prefix) rest =
    let some : 0 < length (components_of prefix) = omega (arith, length-slice_split (λ b. b == 47) prefix) in
    let ih = components-slash prefix rest in
    rw ih
    (elim (byte == 47) as (λ b. cond b ([] ∷ (components_of prefix ++ components_of rest)) (onto_first byte (components_of prefix ++ components_of rest))
    ≡ cond b ([] ∷ components_of prefix) (onto_first byte (components_of prefix)) ++ components_of rest) [
      | true ↦ refl
      | false ↦ onto_first-append byte (components_of prefix) (components_of rest) some
    ])

-- a chain of faults that comes to none has passed each test
passed : {A : Type 0} (test : Bool) (fault : A) (others : Option A)
    → (if test then Some fault else others) ≡ None → (test ≡ false) × (others ≡ None)
passed true fault others h = cc
passed false fault others h = (refl, h)

passed_all : {A : Type 0} (fault others : Option A) → (if is_some fault then fault else others) ≡ None → fault ≡ None
passed_all None others h = refl
passed_all (Some fault) others h = h

-- a name has no slash
no_slash : (at : ℕ) (bytes : List ℕ) → first_bad_byte at bytes ≡ None → All (λ byte. (byte == 47) ≡ false) bytes
no_slash at [] h = All-nil (λ byte. (byte == 47) ≡ false)
no_slash at (byte ∷ bytes) h =
    let first = passed (byte == 47) (Slash at) _ h in
    let second = passed (byte == 0) (Nul at) _ first.1 in
    All-cons (λ b. (b == 47) ≡ false) byte bytes first.0 (no_slash (at + 1) bytes second.1)

-- a name has bytes, and no bad one
name-bytes : (name : List ℕ) → name_fault name ≡ None → (length name ≢ 0) × (first_bad_byte 0 name ≡ None)
name-bytes name h =
    let some = passed (length name == 0) Empty _ h in
    let short = passed (nat_lt 255 (length name)) (TooLong (length name)) _ some.1 in
    let some_bytes : length name ≢ 0 = let e = some.0 in grind (arith, nat_tests) in
    (some_bytes, passed_all (first_bad_byte 0 name) _ short.1)

-- one more name is one more component
components-name : (prefix name : List ℕ) → name_fault name ≡ None → components_of (prefix ++ 47 ∷ name) ≡ components_of prefix ++ name ∷ []
components-name prefix name h =
    components-slash prefix name ∙ ap (λ parts. components_of prefix ++ parts) (slice_split_none (λ byte. byte == 47) name (no_slash 0 name (name-bytes name h).1))

-- a path's text and one more name is the text of a path in it
pub route-name : (prefix name : List ℕ) → name_fault name ≡ None → route_of (prefix ++ 47 ∷ name) ≡ name ∷ route_of prefix
route-name prefix name h =
    rw (components-name prefix name h, filter-append (λ component. not (is_empty component)) (components_of prefix) (name ∷ []))
    (rw (names-some name [] (name-bytes name h).0) (reverse-append (names_of (components_of prefix)) (name ∷ [])))

-- behind sound components the next ones decide
fault-append : (at : ℕ) (prefix more : List (List ℕ)) → bad_component at prefix ≡ None
    → bad_component at (prefix ++ more) ≡ bad_component (at + bytes_of prefix) more
fault-append at [] more h = rw add-zero refl
fault-append at (component ∷ prefix) more h =
    let first = passed (not (is_empty component) && is_some (name_fault component)) (BadName at) _ h in
    let rest = fault-append (at + (length component + 1)) prefix more first.1 in
    let bytes : at + bytes_of (component ∷ prefix) ≡ at + (length component + 1) + bytes_of prefix = omega (arith, bytes-cons component prefix) in
    rw (first.0, bytes) rest

-- one more name keeps a text sound
pub fault-more : (prefix name : List ℕ) → bad_component 0 (components_of prefix) ≡ None → name_fault name ≡ None
    → bad_component 0 (components_of (prefix ++ 47 ∷ name)) ≡ None
fault-more prefix name h is =
    rw (components-name prefix name is)
    (fault-append 0 (components_of prefix) (name ∷ []) h
    ∙ fault-name (0 + bytes_of (components_of prefix)) name [] (name-bytes name is).0 is)

-- the text of a path with names begins with a slash
begins-append : (prefix rest : List ℕ) → begins_with_slash prefix ≡ true → begins_with_slash (prefix ++ rest) ≡ true
begins-append [] rest h = cc
begins-append (byte ∷ prefix) rest h = h

pub begins-spelled : (name : List ℕ) (folder : Route) → begins_with_slash (spelled_route (name ∷ folder)) ≡ true
begins-spelled name [] = refl
begins-spelled name (last ∷ folder) = begins-append (spelled_route (last ∷ folder)) (47 ∷ name) (begins-spelled last folder)

-- the text of a path of names is one that is read
pub fault-spelled : (route : Route) → length route ≢ 0 → length (spelled_route route) ≤ 4096
    → bad_component 0 (components_of (spelled_route route)) ≡ None → path_fault (spelled_route route) ≡ None
fault-spelled [] some h e = absurd (some refl)
fault-spelled (name ∷ folder) some h e =
    let begins = begins-spelled name folder in
    let short : nat_lt 4096 (length (spelled_route (name ∷ folder))) ≡ false = grind (arith, nat_tests) in
    rw (begins, short) e
