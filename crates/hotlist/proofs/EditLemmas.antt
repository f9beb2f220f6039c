-- Changes of one item, seen in the list.
use Rattle.std.proofs.Common.{◌≡◌, ℕ, zero, suc, ◌-◌, ◌<◌, ◌≤◌, Bool, true, false, ◌&&◌, List, [], ◌∷◌, ◌++◌, length, get_or, set, remove, Option, Some, None, is_none, option_map, refl, ap, ◌∙◌, sym, subst, ⊎_elim, arith}
use Rattle.hotlist.specs.declared.items.HotItem.{HotItem}
use Rattle.hotlist.specs.HotLists.{HotList, NoMore, AnEntry, AGroup, before, list_of, is_within}
use Rattle.hotlist.specs.Places.{followed_by, changed_at, list_with_item, without_position, list_without_item}
use Rattle.hotlist.proofs.ListLemmas.{item_is}

followed-before : (item : HotItem) (others second : HotList) → followed_by (before item others) second ≡ before item (followed_by others second)
followed-before item others second =
    ⊎_elim
    (λ (entry : (label : List ℕ) × (path : List ℕ) × ((others : HotList) → before item others ≡ AnEntry label path others)).
    ap (λ list. followed_by list second) (entry.2 others) ∙ sym (entry.2 (followed_by others second)))
    (λ (group : (label : List ℕ) × (items : HotList) × ((others : HotList) → before item others ≡ AGroup label items others)).
    ap (λ list. followed_by list second) (group.2 others) ∙ sym (group.2 (followed_by others second)))
    (item_is item)

pub list_of-push : (items : List HotItem) (item : HotItem) → list_of (items ++ item ∷ []) ≡ followed_by (list_of items) (before item NoMore)
list_of-push [] item = refl
list_of-push (first ∷ items) item =
    ap (before first) (list_of-push items item) ∙ sym (followed-before first (list_of items) (before item NoMore))

-- items that are the same stay so with one more that is the same
pub pushed-same : (copies items : List HotItem) (copy item : HotItem) → list_of copies ≡ list_of items
    → ((others : HotList) → before copy others ≡ before item others) → list_of (copies ++ copy ∷ []) ≡ list_of (items ++ item ∷ [])
pushed-same copies items copy item same last =
    list_of-push copies copy ∙ ap (λ list. followed_by list (before copy NoMore)) same ∙ ap (followed_by (list_of items)) (last NoMore)
    ∙ sym (list_of-push items item)

map_same : (f g : HotList → HotList) (o : Option HotList) → ((list : HotList) → f list ≡ g list) → option_map f o ≡ option_map g o
map_same f g None same = refl
map_same f g (Some list) same = ap Some (same list)

-- what is changed behind the first item
changed_at-next : (position : ℕ) (change : HotList → Option HotList) (item : HotItem) (others : HotList)
    → changed_at (suc position) change (before item others) ≡ option_map (before item) (changed_at position change others)
changed_at-next position change item others =
    ⊎_elim
    (λ (entry : (label : List ℕ) × (path : List ℕ) × ((others : HotList) → before item others ≡ AnEntry label path others)).
    ap (changed_at (suc position) change) (entry.2 others)
    ∙ map_same (AnEntry entry.0 entry.1) (before item) (changed_at position change others) (λ list. sym (entry.2 list)))
    (λ (group : (label : List ℕ) × (items : HotList) × ((others : HotList) → before item others ≡ AGroup label items others)).
    ap (changed_at (suc position) change) (group.2 others)
    ∙ map_same (AGroup group.0 group.1) (before item) (changed_at position change others) (λ list. sym (group.2 list)))
    (item_is item)

pub changed_at-past : (position : ℕ) (change : HotList → Option HotList) (items : List HotItem) → length items ≤ position → changed_at position change (list_of items) ≡ None
changed_at-past zero change [] past = refl
changed_at-past (suc position) change [] past = refl
changed_at-past zero change (item ∷ items) past = absurd (omega arith)
changed_at-past (suc position) change (item ∷ items) past =
    changed_at-next position change item (list_of items) ∙ ap (option_map (before item)) (changed_at-past position change items (omega arith))

pub changed_at-set : (position : ℕ) (change : HotList → Option HotList) (items : List HotItem) (new default : HotItem) → position < length items
    → ((others : HotList) → changed_at 0 change (before (get_or items position default) others) ≡ Some (before new others))
    → changed_at position change (list_of items) ≡ Some (list_of (set items position new))
changed_at-set position change [] new default here changes = absurd (omega arith)
changed_at-set zero change (item ∷ items) new default here changes = changes (list_of items)
changed_at-set (suc position) change (item ∷ items) new default here changes =
    changed_at-next position change item (list_of items)
    ∙ ap (option_map (before item)) (changed_at-set position change items new default (omega arith) changes)

pub changed_at-none : (position : ℕ) (change : HotList → Option HotList) (items : List HotItem) (default : HotItem) → position < length items
    → ((others : HotList) → changed_at 0 change (before (get_or items position default) others) ≡ None)
    → changed_at position change (list_of items) ≡ None
changed_at-none position change [] default here none = absurd (omega arith)
changed_at-none zero change (item ∷ items) default here none = none (list_of items)
changed_at-none (suc position) change (item ∷ items) default here none =
    changed_at-next position change item (list_of items)
    ∙ ap (option_map (before item)) (changed_at-none position change items default (omega arith) none)

-- whether a group is missing hangs on its own item alone
mapped-is_none : (f : HotList → HotList) (o : Option HotList) → is_none (option_map f o) ≡ is_none o
mapped-is_none f None = refl
mapped-is_none f (Some list) = refl

first-is_none : (change : HotList → Option HotList) (item : HotItem) (others more : HotList)
    → is_none (changed_at 0 change (before item others)) ≡ is_none (changed_at 0 change (before item more))
first-is_none change item others more =
    ⊎_elim
    (λ (entry : (label : List ℕ) × (path : List ℕ) × ((others : HotList) → before item others ≡ AnEntry label path others)).
    ap (λ list. is_none (changed_at 0 change list)) (entry.2 others)
    ∙ sym (ap (λ list. is_none (changed_at 0 change list)) (entry.2 more)))
    (λ (group : (label : List ℕ) × (items : HotList) × ((others : HotList) → before item others ≡ AGroup label items others)).
    ap (λ list. is_none (changed_at 0 change list)) (group.2 others)
    ∙ mapped-is_none (λ changed. AGroup group.0 changed others) (change group.1)
    ∙ sym (mapped-is_none (λ changed. AGroup group.0 changed more) (change group.1))
    ∙ sym (ap (λ list. is_none (changed_at 0 change list)) (group.2 more)))
    (item_is item)

pub changed_at-is_none : (position : ℕ) (change : HotList → Option HotList) (items : List HotItem) (default : HotItem) (others : HotList) → position < length items
    → is_none (changed_at position change (list_of items)) ≡ is_none (changed_at 0 change (before (get_or items position default) others))
changed_at-is_none position change [] default others here = absurd (omega arith)
changed_at-is_none zero change (item ∷ items) default others here = first-is_none change item (list_of items) others
changed_at-is_none (suc position) change (item ∷ items) default others here =
    ap is_none (changed_at-next position change item (list_of items))
    ∙ mapped-is_none (before item) (changed_at position change (list_of items))
    ∙ changed_at-is_none position change items default others (omega arith)

pub list_of-set : (position : ℕ) (items : List HotItem) (new default : HotItem) → position < length items
    → ((others : HotList) → before new others ≡ before (get_or items position default) others) → list_of (set items position new) ≡ list_of items
list_of-set position [] new default here same = absurd (omega arith)
list_of-set zero (item ∷ items) new default here same = same (list_of items)
list_of-set (suc position) (item ∷ items) new default here same = ap (before item) (list_of-set position items new default (omega arith) same)

-- what is changed within the room stays within it
split : (a b : Bool) → (a && b) ≡ true → (a ≡ true) × (b ≡ true)
split true b is = (refl, is)
split false b is = absurd (cc)

joined : (a b : Bool) → a ≡ true → b ≡ true → (a && b) ≡ true
joined true b first second = second
joined false b first second = absurd (cc)

mapped : (f : HotList → HotList) (o : Option HotList) (new : HotList) → option_map f o ≡ Some new → (list : HotList) × (o ≡ Some list) × (f list ≡ new)
mapped f None new is = absurd (cc)
mapped f (Some list) new is = (list, refl, let same : f list ≡ new = cc in same)

within-followed : (room : ℕ) (first second : HotList) → is_within room first ≡ true → is_within room second ≡ true → is_within room (followed_by first second) ≡ true
within-followed room NoMore second a b = b
within-followed room (AnEntry label path others) second a b = within-followed room others second a b
within-followed zero (AGroup label items others) second a b = absurd (cc)
within-followed (suc room) (AGroup label items others) second a b =
    let parts = split (is_within room items) (is_within (suc room) others) a in
    joined (is_within room items) (is_within (suc room) (followed_by others second)) parts.0 (within-followed (suc room) others second parts.1 b)

changed_at-within : (room position : ℕ) (change : HotList → Option HotList) (list new : HotList)
    → ((less : ℕ) (items changed : HotList) → room ≡ suc less → change items ≡ Some changed → is_within less items ≡ true → is_within less changed ≡ true)
    → changed_at position change list ≡ Some new → is_within room list ≡ true → is_within room new ≡ true
changed_at-within room zero change NoMore new keeps is within = absurd (cc)
changed_at-within room (suc position) change NoMore new keeps is within = absurd (cc)
changed_at-within room zero change (AnEntry label path others) new keeps is within = absurd (cc)
changed_at-within room (suc position) change (AnEntry label path others) new keeps is within =
    let found = mapped (AnEntry label path) (changed_at position change others) new is in
    subst (λ list. is_within room list ≡ true) found.2 (changed_at-within room position change others found.0 keeps found.1 within)
changed_at-within zero position change (AGroup label items others) new keeps is within = absurd (cc)
changed_at-within (suc room) zero change (AGroup label items others) new keeps is within =
    let parts = split (is_within room items) (is_within (suc room) others) within in
    let found = mapped (λ changed. AGroup label changed others) (change items) new is in
    subst (λ list. is_within (suc room) list ≡ true) found.2
    (joined (is_within room found.0) (is_within (suc room) others) (keeps room items found.0 refl found.1 parts.0) parts.1)
changed_at-within (suc room) (suc position) change (AGroup label items others) new keeps is within =
    let parts = split (is_within room items) (is_within (suc room) others) within in
    let found = mapped (AGroup label items) (changed_at position change others) new is in
    subst (λ list. is_within (suc room) list ≡ true) found.2
    (joined (is_within room items) (is_within (suc room) found.0) parts.0 (changed_at-within (suc room) position change others found.0 keeps found.1 parts.1))

pub added-within : (place : List ℕ) (room : ℕ) (item list new : HotList) → list_with_item place item list ≡ Some new → is_within room list ≡ true
    → is_within (room - length place) item ≡ true → is_within room new ≡ true
added-within [] room item list new is within fits =
    let same : followed_by list item ≡ new = cc in
    let whole : is_within room item ≡ true = subst (λ r. is_within r item ≡ true) (let e : room - 0 ≡ room = omega arith in e) fits in
    subst (λ l. is_within room l ≡ true) same (within-followed room list item within whole)
added-within (position ∷ place) room item list new is within fits =
    changed_at-within room position (list_with_item place item) list new
    (λ less items changed deep change inner. added-within place less item items changed change inner
    (subst (λ r. is_within r item ≡ true) (let e : room - length (position ∷ place) ≡ less - length place = omega (arith, deep) in e) fits))
    is within

-- one item less
without_first : (item : HotItem) (others : HotList) → without_position 0 (before item others) ≡ Some others
without_first item others =
    ⊎_elim
    (λ (entry : (label : List ℕ) × (path : List ℕ) × ((others : HotList) → before item others ≡ AnEntry label path others)).
    ap (without_position 0) (entry.2 others))
    (λ (group : (label : List ℕ) × (items : HotList) × ((others : HotList) → before item others ≡ AGroup label items others)).
    ap (without_position 0) (group.2 others))
    (item_is item)

without_next : (position : ℕ) (item : HotItem) (others : HotList)
    → without_position (suc position) (before item others) ≡ option_map (before item) (without_position position others)
without_next position item others =
    ⊎_elim
    (λ (entry : (label : List ℕ) × (path : List ℕ) × ((others : HotList) → before item others ≡ AnEntry label path others)).
    ap (without_position (suc position)) (entry.2 others)
    ∙ map_same (AnEntry entry.0 entry.1) (before item) (without_position position others) (λ list. sym (entry.2 list)))
    (λ (group : (label : List ℕ) × (items : HotList) × ((others : HotList) → before item others ≡ AGroup label items others)).
    ap (without_position (suc position)) (group.2 others)
    ∙ map_same (AGroup group.0 group.1) (before item) (without_position position others) (λ list. sym (group.2 list)))
    (item_is item)

pub without_position-remove : (position : ℕ) (items : List HotItem) → position < length items → without_position position (list_of items) ≡ Some (list_of (remove items position))
without_position-remove position [] here = absurd (omega arith)
without_position-remove zero (item ∷ items) here = without_first item (list_of items)
without_position-remove (suc position) (item ∷ items) here =
    without_next position item (list_of items) ∙ ap (option_map (before item)) (without_position-remove position items (omega arith))

pub without_position-past : (position : ℕ) (items : List HotItem) → length items ≤ position → without_position position (list_of items) ≡ None
without_position-past zero [] past = refl
without_position-past (suc position) [] past = refl
without_position-past zero (item ∷ items) past = absurd (omega arith)
without_position-past (suc position) (item ∷ items) past =
    without_next position item (list_of items) ∙ ap (option_map (before item)) (without_position-past position items (omega arith))

pub removed-past : (position : ℕ) (below : List ℕ) (items : List HotItem) → length items ≤ position → list_without_item (position ∷ below) (list_of items) ≡ None
removed-past position [] items past = without_position-past position items past
removed-past position (next ∷ below) items past = changed_at-past position (list_without_item (next ∷ below)) items past

pub removed-below : (position : ℕ) (below : List ℕ) (list : HotList) → 0 < length below → list_without_item (position ∷ below) list ≡ changed_at position (list_without_item below) list
removed-below position [] list some = absurd (omega arith)
removed-below position (next ∷ below) list some = refl

-- what stays is nested no deeper
without_position-within : (room position : ℕ) (list new : HotList) → without_position position list ≡ Some new → is_within room list ≡ true → is_within room new ≡ true
without_position-within room zero NoMore new is within = absurd (cc)
without_position-within room (suc position) NoMore new is within = absurd (cc)
without_position-within room zero (AnEntry label path others) new is within = let same : others ≡ new = cc in subst (λ l. is_within room l ≡ true) same within
without_position-within room (suc position) (AnEntry label path others) new is within =
    let found = mapped (AnEntry label path) (without_position position others) new is in
    subst (λ l. is_within room l ≡ true) found.2 (without_position-within room position others found.0 found.1 within)
without_position-within zero position (AGroup label items others) new is within = absurd (cc)
without_position-within (suc room) zero (AGroup label items others) new is within =
    let same : others ≡ new = cc in
    subst (λ l. is_within (suc room) l ≡ true) same (split (is_within room items) (is_within (suc room) others) within).1
without_position-within (suc room) (suc position) (AGroup label items others) new is within =
    let parts = split (is_within room items) (is_within (suc room) others) within in
    let found = mapped (AGroup label items) (without_position position others) new is in
    subst (λ l. is_within (suc room) l ≡ true) found.2
    (joined (is_within room items) (is_within (suc room) found.0) parts.0 (without_position-within (suc room) position others found.0 found.1 parts.1))

pub removed-within : (place : List ℕ) (room : ℕ) (list new : HotList) → list_without_item place list ≡ Some new → is_within room list ≡ true → is_within room new ≡ true
removed-within [] room list new is within = absurd (cc)
removed-within (position ∷ []) room list new is within = without_position-within room position list new is within
removed-within (position ∷ next ∷ place) room list new is within =
    changed_at-within room position (list_without_item (next ∷ place)) list new
    (λ less items changed deep change inner. removed-within (next ∷ place) less items changed change inner) is within
