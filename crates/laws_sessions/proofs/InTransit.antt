-- A folder that was renamed is in transit until both folders of the renaming are synced: till then a crash may leave it under either name. After that it has one name.
use Rattle.std.proofs.Common.{◌≡◌, ◌⊎◌, ℕ, ◌<◌, ◌≤◌, Bool, true, false, not, ◌&&◌, ◌||◌, List, [], ◌∷◌, ◌++◌, length, refl, sym, ◌∙◌, ap, subst, inl, inr, Option, Some, None, cond, unwrap_or, arith}
use Rattle.std.specs.Prelude.{◌==◌, is_none, is_some}
use Rattle.std.specs.List.{list_any}
use Rattle.std.specs.Option.{option_map_or}
use Rattle.std.proofs.lemmas.Bool.{false≢true, true≢false, both_ways, cases_Bool, eq-eqb, eqb-true, and_parts, and_from, or_cases, or_from, or_parts, or_left, or_right, not-true, not_from_true, not_from_false, true_from_ne_false, false_from_ne_true}
use Rattle.std.proofs.lemmas.List.{append_assoc}
use Rattle.std.proofs.lemmas.List.Folds.{list_any-append}
use Rattle.mc_text.specs.Routes.{Route}
use Rattle.tree_trait.specs.declared.file_system.FileSystem.{FileSystem}
use Rattle.tree_trait.specs.FileSystem.{find, lookup}
use Rattle.tree_trait.specs.Shape.{IsTree}
use Rattle.tree_trait.specs.Change.{Change, Nothing, Makes, Moves, Removes, Sets, Writes, Syncs, CallLog, after_change, after_changes, current, with_change}
use Rattle.tree_trait.specs.CrashImages.{Among, is_settled, is_unsynced, may_lead, same_name, says}
use Rattle.tree_trait.proofs.Finding.{and_then-some, same_name-self, same_name-true}
use Rattle.tree_trait.proofs.Names.{count_after, count-after_change, lookup-after_change}
use Rattle.tree_trait.proofs.Settled.{after_changes-append, is_unsynced-more}
use Rattle.laws_crash.specs.Possible.{MayLead}
use Rattle.laws_crash.specs.Guarded.{HasOneName}
use Rattle.laws_crash.proofs.Leading.{Within, leads_now}
use Rattle.laws_sessions.specs.Doubt.{is_joint, is_pending, joins, name_waits}
use Rattle.laws_sessions.proofs.Pending.{some_first}
use Rattle.laws_sessions.proofs.Restless.{is_restless, names_in, not_both}

-- the change renames this node
abbrev pub renames : ℕ → Change → Bool
renames i Nothing = false
renames i (Makes f name made) = false
renames i (Moves f old g new j replaced) = j == i
renames i (Removes f name j) = false
renames i (Sets j mode) = false
renames i (Writes j bytes mtime) = false
renames i (Syncs j) = false

-- the last renaming of this node waits for a sync
abbrev pub is_in_transit : ℕ → List Change → Bool
is_in_transit i [] = false
is_in_transit i (c ∷ later) = (renames i c && (not (list_any (renames i) later) && is_unsynced c later)) || is_in_transit i later

-- the log of a tree to which no more than this was done
abbrev pub log_of : CallLog → List Change → CallLog
log_of log changes = record log { changes = changes }

-- A node that had one name was renamed, and has not been renamed since.
pub record WasRenamed (log : CallLog) (i : ℕ) : Type 0 where
  pub before : List Change
  pub later : List Change
  pub f : ℕ
  pub old : List ℕ
  pub g : ℕ
  pub new : List ℕ
  pub replaced : Option ℕ
  pub is : log.changes ≡ before ++ Moves f old g new i replaced ∷ later
  -- before it the node was made, stood there, and had one name after any crash; it isn't the root
  pub there : i < length (current (log_of log before)).nodes
  pub leads : lookup (current (log_of log before)).names f old ≡ Some i
  pub once : HasOneName (log_of log before) i
  pub no_root : i ≡ 0 → ⊥
  pub last : list_any (renames i) later ≡ false

-- what was never renamed is not in transit
pub unrenamed : (i : ℕ) (cs : List Change) → list_any (renames i) cs ≡ false → is_in_transit i cs ≡ false
unrenamed i [] h = refl
unrenamed i (c ∷ cs) h =
    let parts = or_parts (renames i c) (list_any (renames i) cs) h in
    ap (λ b. (b && (not (list_any (renames i) cs) && is_unsynced c cs)) || is_in_transit i cs) parts.0 ∙ unrenamed i cs parts.1

renamed_among : (i : ℕ) (before later : List Change) (c : Change) → renames i c ≡ true → list_any (renames i) (before ++ c ∷ later) ≡ true
renamed_among i [] later c h = or_left _ _ h
renamed_among i (d ∷ before) later c h = or_right (renames i d) _ (renamed_among i before later c h)

passed_over : (r a u p : Bool) → a ≡ true → ((r && (not a && u)) || p) ≡ p
passed_over true true u p h = refl
passed_over true false u p h = absurd (false≢true h)
passed_over false a u p h = refl

last_one : (r a u p : Bool) → r ≡ true → a ≡ false → p ≡ false → ((r && (not a && u)) || p) ≡ u
last_one true false true false x y z = refl
last_one true false false false x y z = refl
last_one true false u true x y z = absurd (true≢false z)
last_one true true u p x y z = absurd (true≢false y)
last_one false a u p x y z = absurd (false≢true x)

-- the last renaming decides
pub by_last : (i : ℕ) (before later : List Change) (c : Change) → renames i c ≡ true → list_any (renames i) later ≡ false → is_in_transit i (before ++ c ∷ later) ≡ is_unsynced c later
by_last i [] later c h last = last_one (renames i c) (list_any (renames i) later) (is_unsynced c later) (is_in_transit i later) h last (unrenamed i later last)
by_last i (d ∷ before) later c h last =
    passed_over (renames i d) (list_any (renames i) (before ++ c ∷ later)) (is_unsynced d (before ++ c ∷ later)) (is_in_transit i (before ++ c ∷ later)) (renamed_among i before later c h)
    ∙ by_last i before later c h last

-- a change that doesn't rename the node gives it no name
other_said : (b : Bool) (x i : ℕ) → (x ≡ i → ⊥) → (let o : Option (Option ℕ) = cond b (Some (Some x)) None in o) ≡ Some (Some i) → ⊥
other_said true x i apart h = apart cc
other_said false x i apart h = cc

none_said : (b : Bool) (i : ℕ) → (let o : Option (Option ℕ) = cond b (Some None) None in o) ≡ Some (Some i) → ⊥
none_said true i h = cc
none_said false i h = cc

two_said : (a b : Bool) (x i : ℕ) → (x ≡ i → ⊥) → (let o : Option (Option ℕ) = cond a (Some (Some x)) (cond b (Some None) None) in o) ≡ Some (Some i) → ⊥
two_said true b x i apart h = apart cc
two_said false b x i apart h = none_said b i h

gives_none : (i n : ℕ) (c : Change) (h : ℕ) (m : List ℕ) → i < n → renames i c ≡ false → says c n h m ≡ Some (Some i) → ⊥
gives_none i n Nothing h m there other s = cc
gives_none i n (Makes f name made) h m there other s = other_said (same_name f name h m) n i (λ e. let z : ⊥ = omega (arith, e) in z) s
gives_none i n (Moves f old g new j r) h m there other s = two_said (same_name g new h m) (same_name f old h m) j i (λ e. both_ways (j == i) other (eq-eqb j i e)) s
gives_none i n (Removes f name j) h m there other s = none_said (same_name f name h m) i s
gives_none i n (Sets j mode) h m there other s = cc
gives_none i n (Writes j bytes mtime) h m there other s = cc
gives_none i n (Syncs j) h m there other s = cc

no_fewer : (c : Change) (n : ℕ) → n ≤ count_after c n
no_fewer Nothing n = omega arith
no_fewer (Makes f name made) n = omega arith
no_fewer (Moves f old g new j r) n = omega arith
no_fewer (Removes f name j) n = omega arith
no_fewer (Sets j mode) n = omega arith
no_fewer (Writes j bytes mtime) n = omega arith
no_fewer (Syncs j) n = omega arith

still_there : (s : FileSystem) (c : Change) (i : ℕ) → i < length s.nodes → i < length (after_change s c).nodes
still_there s c i there = let e = count-after_change s c in let more = no_fewer c (length s.nodes) in omega (arith, e)

-- A name that doesn't lead to the node, and may not after a crash, doesn't until a change renames the node.
module _ (i h : ℕ) (m : List ℕ) where
  one_more : (had : List (Option ℕ)) (s : FileSystem) (c : Change) (u : Bool) (said : Option (Option ℕ)) → says c (length s.nodes) h m ≡ said → (said ≡ Some (Some i) → ⊥)
      → (Among (lookup s.names h m ∷ had) (Some i) → ⊥)
      → Among (lookup (after_change s c).names h m ∷ cond (is_none said) had (cond u (lookup s.names h m ∷ had) [])) (Some i) → ⊥
  one_more had s c u None is gives never (inl now) = never (inl (now ∙ (lookup-after_change s c h m ∙ ap (λ o. unwrap_or o (lookup s.names h m)) is)))
  one_more had s c u None is gives never (inr old) = never (inr old)
  one_more had s c u (Some to) is gives never (inl now) = gives (ap (λ o. Some o) (sym (now ∙ (lookup-after_change s c h m ∙ ap (λ o. unwrap_or o (lookup s.names h m)) is))))
  one_more had s c true (Some to) is gives never (inr old) = never old
  one_more had s c false (Some to) is gives never (inr old) = old

  pub never_later : (had : List (Option ℕ)) (s : FileSystem) (cs : List Change) → i < length s.nodes → list_any (renames i) cs ≡ false
      → (Among (lookup s.names h m ∷ had) (Some i) → ⊥) → Among (may_lead h m had s cs) (Some i) → ⊥
  never_later had s [] there last never among = never among
  never_later had s (c ∷ cs) there last never among =
      let parts = or_parts (renames i c) (list_any (renames i) cs) last in
      never_later (cond (is_none (says c (length s.nodes) h m)) had (cond (is_unsynced c cs) (lookup s.names h m ∷ had) [])) (after_change s c) cs (still_there s c i there) parts.1
      (one_more had s c (is_unsynced c cs) (says c (length s.nodes) h m) refl (gives_none i (length s.nodes) c h m there parts.0) never)
      among

-- After more changes a name may lead where it might after the first ones, or where these changes let it lead.
record IsSplit (h : ℕ) (m : List ℕ) (had : List (Option ℕ)) (s : FileSystem) (before later : List Change) (c : Change) (x : Option ℕ) : Type 0 where
  left : List (Option ℕ)
  within : Within (lookup (after_changes s before).names h m ∷ left) (may_lead h m had s before)
  among : Among (may_lead h m (cond (is_none (says c (length (after_changes s before).nodes) h m)) left (cond (is_unsynced c later) (lookup (after_changes s before).names h m ∷ left) []))
      (after_change (after_changes s before) c) later) x

more_had : (v : Option ℕ) (had had' : List (Option ℕ)) → Within had had' → Within (v ∷ had) (v ∷ had')
more_had v had had' within x (inl same) = inl same
more_had v had had' within x (inr more) = inr (within x more)

less_had : (a b b' : Bool) (v : Option ℕ) (had had' : List (Option ℕ)) → (b' ≡ false → b ≡ false) → Within had had' → Within (cond a had (cond b (v ∷ had) [])) (cond a had' (cond b' (v ∷ had') []))
less_had true b b' v had had' f within x h = within x h
less_had false true true v had had' f within x h = more_had v had had' within x h
less_had false true false v had had' f within x h = absurd (true≢false (f refl))
less_had false false b' v had had' f within x h = absurd h

split : (h : ℕ) (m : List ℕ) (had had' : List (Option ℕ)) (s : FileSystem) (before later : List Change) (c : Change) (x : Option ℕ) → Within had had'
    → Among (may_lead h m had s (before ++ c ∷ later)) x → IsSplit h m had' s before later c x
split h m had had' s [] later c x within among = record { left = had; within = more_had (lookup s.names h m) had had' within; among = among }
split h m had had' s (d ∷ before) later c x within among =
    let rest = split h m
    (cond (is_none (says d (length s.nodes) h m)) had (cond (is_unsynced d (before ++ c ∷ later)) (lookup s.names h m ∷ had) []))
    (cond (is_none (says d (length s.nodes) h m)) had' (cond (is_unsynced d before) (lookup s.names h m ∷ had') []))
    (after_change s d) before later c x
    (less_had (is_none (says d (length s.nodes) h m)) (is_unsynced d (before ++ c ∷ later)) (is_unsynced d before) (lookup s.names h m) had had' (is_unsynced-more d before (c ∷ later)) within)
    among in
    record { left = rest.left; within = rest.within; among = rest.among }

-- Where a node that was renamed stands, and may stand after a crash.
module _ (log : CallLog) (i : ℕ) (was : WasRenamed log i) where
  abbrev start : FileSystem
  start = current (log_of log was.before)

  abbrev renaming : Change
  renaming = Moves was.f was.old was.g was.new i was.replaced

  renames_it : renames i renaming ≡ true
  renames_it = eq-eqb i i refl

  -- the last renaming decides whether it is in transit
  pub transit_is : is_in_transit i log.changes ≡ is_unsynced renaming was.later
  transit_is = ap (is_in_transit i) was.is ∙ by_last i was.before was.later renaming renames_it was.last

  -- just after the renaming another name doesn't lead to it, nor may it where the renaming is on the disk
  at_first : (h : ℕ) (m : List ℕ) (left : List (Option ℕ)) (u a b : Bool) → same_name was.g was.new h m ≡ a → same_name was.f was.old h m ≡ b → a ≡ false → (b ≡ true → u ≡ false)
      → Within (lookup start.names h m ∷ left) (may_lead h m [] log.opening was.before)
      → Among (cond a (Some i) (cond b None (lookup start.names h m))
      ∷ cond (is_none (let o : Option (Option ℕ) = cond a (Some (Some i)) (cond b (Some None) None) in o)) left (cond u (lookup start.names h m ∷ left) [])) (Some i) → ⊥
  at_first h m left u true b new_is old_is off done within among = true≢false off
  at_first h m left u false true new_is old_is off done within (inl now) = cc
  at_first h m left true false true new_is old_is off done within (inr old) = true≢false (done refl)
  at_first h m left false false true new_is old_is off done within (inr old) = old
  at_first h m left u false false new_is old_is off done within among =
      let one = was.once was.f h was.old m (subst (Among (may_lead was.f was.old [] log.opening was.before)) was.leads (leads_now was.f was.old [] log.opening was.before)) (within (Some i) among) in
      both_ways (same_name was.f was.old h m) old_is (subst (λ k. same_name was.f was.old k m ≡ true) one.0 (subst (λ n. same_name was.f was.old was.f n ≡ true) one.1 (same_name-self was.f was.old)))

  -- so a crash leaves it under no third name, and not under the old one where the renaming is on the disk
  never_at : (h : ℕ) (m : List ℕ) → same_name was.g was.new h m ≡ false → (same_name was.f was.old h m ≡ true → is_unsynced renaming was.later ≡ false) → MayLead log h m (Some i) → ⊥
  never_at h m off done among =
      let both = split h m [] [] log.opening was.before was.later renaming (Some i) (λ x y. y) (subst (λ cs. Among (may_lead h m [] log.opening cs) (Some i)) was.is among) in
      never_later i h m
      (cond (is_none (says renaming (length start.nodes) h m)) both.left (cond (is_unsynced renaming was.later) (lookup start.names h m ∷ both.left) []))
      (after_change start renaming) was.later (still_there start renaming i was.there) was.last
      (at_first h m both.left (is_unsynced renaming was.later) (same_name was.g was.new h m) (same_name was.f was.old h m) refl refl off done both.within)
      both.among

  -- it stands under its new name or nowhere
  pub stands_at : (h : ℕ) (m : List ℕ) → lookup (current log).names h m ≡ Some i → (was.g ≡ h) × (was.new ≡ m)
  stands_at h m at = elim (cases_Bool (same_name was.g was.new h m)) [
    | inl here ↦ same_name-true was.g h was.new m here
    | inr off ↦ absurd (
        never_later i h m
        (cond (is_none (says renaming (length start.nodes) h m)) [] (cond false (lookup start.names h m ∷ []) []))
        (after_change start renaming) was.later (still_there start renaming i was.there) was.last
        (at_first h m [] false (same_name was.g was.new h m) (same_name was.f was.old h m) refl refl off (λ _. refl) (λ x among. only x among))
        (subst
        (Among (may_lead h m (cond (is_none (says renaming (length start.nodes) h m)) [] (cond false (lookup start.names h m ∷ []) [])) (after_change start renaming) was.later))
        (ap (λ (s : FileSystem). lookup s.names h m) (sym now) ∙ at)
        (leads_now h m (cond (is_none (says renaming (length start.nodes) h m)) [] (cond false (lookup start.names h m ∷ []) [])) (after_change start renaming) was.later))
        )
  ]
    where
      now : current log ≡ after_changes (after_change start renaming) was.later
      now = ap (after_changes log.opening) was.is ∙ after_changes-append log.opening was.before (renaming ∷ was.later)

      only : (x : Option ℕ) → Among (lookup start.names h m ∷ []) x → Among (may_lead h m [] log.opening was.before) x
      only x (inl same) = subst (Among (may_lead h m [] log.opening was.before)) (sym same) (leads_now h m [] log.opening was.before)
      only x (inr none) = absurd none

  -- a crash leaves it under its old name or under its new one
  pub two_names : (h : ℕ) (m : List ℕ) → MayLead log h m (Some i) → ((was.f ≡ h) × (was.old ≡ m)) ⊎ ((was.g ≡ h) × (was.new ≡ m))
  two_names h m among = elim (cases_Bool (same_name was.g was.new h m)) [
    | inl here ↦ inr (same_name-true was.g h was.new m here)
    | inr off ↦ elim (cases_Bool (same_name was.f was.old h m)) [
      | inl before ↦ inl (same_name-true was.f h was.old m before)
      | inr other ↦ absurd (never_at h m off (λ e. absurd (both_ways _ other e)) among)
    ]
  ]

  -- and once both folders were synced under the new one alone
  pub new_name : is_in_transit i log.changes ≡ false → (h : ℕ) (m : List ℕ) → MayLead log h m (Some i) → (was.g ≡ h) × (was.new ≡ m)
  new_name over h m among = elim (cases_Bool (same_name was.g was.new h m)) [
    | inl here ↦ same_name-true was.g h was.new m here
    | inr off ↦ absurd (never_at h m off (λ _. sym transit_is ∙ over) among)
  ]

  pub one_name : is_in_transit i log.changes ≡ false → HasOneName log i
  one_name over g h m n first second =
      let a = new_name over g m first in
      let b = new_name over h n second in
      (sym a.0 ∙ b.0, sym a.1 ∙ b.1)

  name_is_pending : (before later : List Change) → is_unsynced renaming later ≡ true → is_pending was.g was.new (before ++ renaming ∷ later) ≡ true
  name_is_pending [] later waits =
      or_left _ _ (and_from (is_some (says renaming 0 was.g was.new)) (is_unsynced renaming later)
      (some_first (same_name was.g was.new was.g was.new) (same_name was.f was.old was.g was.new) (Some i) None (same_name-self was.g was.new)) waits)
  name_is_pending (c ∷ before) later waits = or_right _ _ (name_is_pending before later waits)

  -- In transit it waits where it stands: its own name does.
  pub transit_waits : is_in_transit i log.changes ≡ true → (p : Route) → find (current log) p ≡ Some i → name_waits log p ≡ true
  transit_waits transit [] at = absurd (was.no_root (let e : i ≡ 0 = cc in e))
  transit_waits transit (name ∷ folder) at =
      let up = and_then-some (find (current log) folder) (λ h. lookup (current log).names h name) i at in
      let here = stands_at up.0 name up.2 in
      let pending : is_pending was.g was.new log.changes ≡ true =
      ap (is_pending was.g was.new) was.is ∙ name_is_pending was.before was.later (sym transit_is ∙ transit) in
      ap (λ o. option_map_or (λ h. is_pending h name log.changes) o false) up.1 ∙ (subst (λ h. is_pending h name log.changes ≡ true) here.0 (subst (λ n. is_pending was.g n log.changes ≡ true) here.1 pending))

  -- a renaming between two folders waits for both, and one within a folder for that
  joint_waits : (before later : List Change) → (was.f == was.g) ≡ false → is_unsynced renaming later ≡ true → is_joint was.f was.g (before ++ renaming ∷ later) ≡ true
  joint_waits [] later apart waits = or_left _ _ (and_from (joins was.f was.g renaming) (is_unsynced renaming later) both waits)
    where
      both : joins was.f was.g renaming ≡ true
      both = and_from _ _ (not_from_false _ apart) (or_left _ _ (and_from _ _ (eq-eqb was.f was.f refl) (eq-eqb was.g was.g refl)))
  joint_waits (c ∷ before) later apart waits = or_right _ _ (joint_waits before later apart waits)

  restless_at : (k : ℕ) (before later : List Change) → names_in k renaming ≡ true → not (is_settled k later) ≡ true → is_restless k (before ++ renaming ∷ later) ≡ true
  restless_at k [] later named waits = or_left _ _ (and_from _ _ named waits)
  restless_at k (c ∷ before) later named waits = or_right _ _ (restless_at k before later named waits)

  -- in transit one of both folders was not synced since
  pub transit_restless : is_in_transit i log.changes ≡ true → (is_restless was.f log.changes ≡ true) ⊎ (is_restless was.g log.changes ≡ true)
  transit_restless transit = elim (not_both (is_settled was.f was.later) (is_settled was.g was.later) (sym transit_is ∙ transit)) [
    | inl first ↦ inl (ap (is_restless was.f) was.is ∙ restless_at was.f was.before was.later (or_left _ _ (eq-eqb was.f was.f refl)) first)
    | inr second ↦ inr (ap (is_restless was.g) was.is ∙ restless_at was.g was.before was.later (or_right _ _ (eq-eqb was.g was.g refl)) second)
  ]

  pub transit_joint : is_in_transit i log.changes ≡ true → ((was.f ≡ was.g) × (is_restless was.f log.changes ≡ true)) ⊎ (is_joint was.f was.g log.changes ≡ true)
  transit_joint transit = elim (cases_Bool (was.f == was.g)) [
    | inl one ↦
        let same = eqb-true was.f was.g one in
        inl (same, elim (transit_restless transit) [ inl first ↦ first | inr second ↦ subst (λ k. is_restless k log.changes ≡ true) (sym same) second ])
    | inr apart ↦ inr (ap (is_joint was.f was.g) was.is ∙ joint_waits was.before was.later apart (sym transit_is ∙ transit))
  ]

  -- The syncs of both folders end it.
  pub transit_over : is_settled was.f was.later ≡ true → is_settled was.g was.later ≡ true → is_in_transit i log.changes ≡ false
  transit_over first second = transit_is ∙ not_from_true _ (and_from _ _ first second)

  pub transit_ends : is_restless was.f log.changes ≡ false → is_restless was.g log.changes ≡ false → is_in_transit i log.changes ≡ false
  transit_ends first second = false_from_ne_true _ (λ transit. elim (transit_restless transit) [ inl f ↦ both_ways _ first f | inr g ↦ both_ways _ second g ])

-- A further change brings no transit but its own.
pub transit_after : (i : ℕ) (cs : List Change) (c : Change) → is_in_transit i (cs ++ c ∷ []) ≡ true → (is_in_transit i cs ≡ true) ⊎ (renames i c ≡ true)
transit_after i [] c h = inr (alone (renames i c) _ h)
  where
    alone : (r u : Bool) → ((r && u) || false) ≡ true → r ≡ true
    alone true u h = refl
    alone false u h = absurd (false≢true h)
transit_after i (d ∷ cs) c h =
    elim (or_cases (renames i d && (not (list_any (renames i) (cs ++ c ∷ [])) && is_unsynced d (cs ++ c ∷ []))) (is_in_transit i (cs ++ c ∷ [])) h) [
      | inl now ↦
          let one = and_parts (renames i d) (not (list_any (renames i) (cs ++ c ∷ [])) && is_unsynced d (cs ++ c ∷ [])) now in
          let two = and_parts (not (list_any (renames i) (cs ++ c ∷ []))) (is_unsynced d (cs ++ c ∷ [])) one.1 in
          let last = (or_parts (list_any (renames i) cs) (list_any (renames i) (c ∷ [])) (sym (list_any-append (renames i) cs (c ∷ [])) ∙ not-true _ two.0)).0 in
          inl (or_left _ _ (and_from _ _ one.0 (and_from _ _ (not_from_false _ last) (true_from_ne_false _ (λ no. both_ways _ (is_unsynced-more d cs (c ∷ []) no) two.1)))))
      | inr later ↦ elim (transit_after i cs c later) [ inl old ↦ inl (or_right _ _ old) | inr new ↦ inr new ]
    ]

pub transit_more : (log : CallLog) (c : Change) (i : ℕ) → is_in_transit i (with_change log c).changes ≡ true → (is_in_transit i log.changes ≡ true) ⊎ (renames i c ≡ true)
transit_more log c i h = transit_after i log.changes c h

-- a change that doesn't rename it leaves it so
pub still_renamed : (log : CallLog) (c : Change) (i : ℕ) → WasRenamed log i → renames i c ≡ false → WasRenamed (with_change log c) i
still_renamed log c i was other = record {
  before = was.before;
  later = was.later ++ c ∷ [];
  f = was.f;
  old = was.old;
  g = was.g;
  new = was.new;
  replaced = was.replaced;
  is = ap (λ cs. cs ++ c ∷ []) was.is ∙ append_assoc was.before (Moves was.f was.old was.g was.new i was.replaced ∷ was.later) (c ∷ []);
  there = was.there;
  leads = was.leads;
  once = was.once;
  no_root = was.no_root;
  last = list_any-append (renames i) was.later (c ∷ []) ∙ or_from _ _ was.last (or_from _ _ other refl);
}

-- what has one name may be renamed
pub now_renamed : (log : CallLog) (f : ℕ) (old : List ℕ) (g : ℕ) (new : List ℕ) (i : ℕ) (r : Option ℕ) → IsTree (current log) → HasOneName log i → lookup (current log).names f old ≡ Some i
    → WasRenamed (with_change log (Moves f old g new i r)) i
now_renamed log f old g new i r tree once leads = record {
  before = log.changes;
  later = [];
  f = f;
  old = old;
  g = g;
  new = new;
  replaced = r;
  is = refl;
  there = tree.there f old i leads;
  leads = leads;
  once = once;
  no_root = λ root. tree.no_name f old (leads ∙ ap Some root);
  last = refl;
}

-- and is in transit then
pub now_in_transit : (log : CallLog) (f : ℕ) (old : List ℕ) (g : ℕ) (new : List ℕ) (i : ℕ) (r : Option ℕ) → is_in_transit i (with_change log (Moves f old g new i r)).changes ≡ true
now_in_transit log f old g new i r = by_last i log.changes [] (Moves f old g new i r) (eq-eqb i i refl) refl

-- Where the change renames the node, it is one that stands there and isn't in transit.
abbrev pub MayRename : CallLog → ℕ → Change → Type 0
MayRename log i Nothing = Unit {0}
MayRename log i (Makes f name made) = Unit {0}
MayRename log i (Moves f old g new j r) = j ≡ i → (lookup (current log).names f old ≡ Some i) × (is_in_transit i log.changes ≡ false)
MayRename log i (Removes f name j) = Unit {0}
MayRename log i (Sets j mode) = Unit {0}
MayRename log i (Writes j bytes mtime) = Unit {0}
MayRename log i (Syncs j) = Unit {0}

-- So it goes on with each change.
pub renamed_on : (log : CallLog) (c : Change) (i : ℕ) → IsTree (current log) → WasRenamed log i → MayRename log i c → WasRenamed (with_change log c) i
renamed_on log Nothing i tree was may = still_renamed log Nothing i was refl
renamed_on log (Makes f name made) i tree was may = still_renamed log (Makes f name made) i was refl
renamed_on log (Moves f old g new j r) i tree was may = elim (cases_Bool (j == i)) [
  | inl same ↦
      let is = eqb-true j i same in
      let ready = may is in
      subst (λ k. WasRenamed (with_change log (Moves f old g new k r)) i) (sym is) (now_renamed log f old g new i r tree (one_name log i was ready.1) ready.0)
  | inr other ↦ still_renamed log (Moves f old g new j r) i was other
]
renamed_on log (Removes f name j) i tree was may = still_renamed log (Removes f name j) i was refl
renamed_on log (Sets j mode) i tree was may = still_renamed log (Sets j mode) i was refl
renamed_on log (Writes j bytes mtime) i tree was may = still_renamed log (Writes j bytes mtime) i was refl
renamed_on log (Syncs j) i tree was may = still_renamed log (Syncs j) i was refl
