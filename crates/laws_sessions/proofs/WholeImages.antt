-- What a crash leaves of a thing, and of all that lies in it, once it was renamed, and after a sync and a refused call.
use Rattle.std.proofs.Common.{◌≡◌, ◌⊎◌, ℕ, Bool, true, false, List, [], ◌∷◌, ◌++◌, refl, sym, ◌∙◌, ap, subst, inl, inr, Option, Some, None, cond}
use Rattle.std.specs.Prelude.{option_and_then, unwrap_or}
use Rattle.std.specs.Option.{option_map}
use Rattle.std.proofs.lemmas.Bool.{false≢true, true≢false, false_from_ne_true}
use Rattle.std.proofs.lemmas.List.{append_assoc}
use Rattle.mc_text.specs.Routes.{Route}
use Rattle.tree_trait.specs.declared.file_system.Node.{Node}
use Rattle.tree_trait.specs.declared.file_system.FileSystem.{FileSystem}
use Rattle.tree_trait.specs.FileSystem.{Value, find, lookup, node, value, value_at}
use Rattle.tree_trait.specs.Shape.{IsTree}
use Rattle.tree_trait.specs.Change.{Change, Nothing, Moves, Removes, Syncs, CallLog, after_change, current, with_change}
use Rattle.tree_trait.specs.CrashImages.{Among, Lost, is_clean, same_name}
use Rattle.tree_trait.proofs.Finding.{find-once, same_name-self, same_name-true}
use Rattle.tree_trait.proofs.Names.{grows_law, lookup-after_change}
use Rattle.tree_trait.proofs.Steady.{node_law}
use Rattle.laws_crash.specs.Guarded.{IsSettledAt}
use Rattle.laws_crash.specs.Possible.{IsImage}
use Rattle.laws_crash.proofs.Leading.{find_law}
use Rattle.laws_crash.proofs.Tops.{not_longer}
use Rattle.laws_crash.proofs.Wholeness.{Grown}
use Rattle.laws_sessions.proofs.TreeKnown.{IsStill}

-- an image after one change more, and the one that it comes of
grown : (log : CallLog) (c : Change) (image : FileSystem) → IsImage (with_change log c) image → Grown log c image
grown log c image left =
    let r = grows_law log.opening image log.changes c left in
    record { mid = r.0; left = r.1; how = elim r.2 [ inl kept ↦ inl kept | inr lost ↦ inr lost.1 ] }

-- A thing stands on the disk at this path, with all that lies in it: each path leads only where it leads, and no mode or bytes wait there, but of parts.
pub record IsAtRest (log : CallLog) (parts : List Route) (path : Route) (i : ℕ) : Type 0 where
  pub at : find (current log) path ≡ Some i
  pub settled : (rest : Route) → IsSettledAt log (rest ++ path)
  pub clean : (rest : Route) (j : ℕ) → (Among parts (rest ++ path) → ⊥) → find (current log) (rest ++ path) ≡ Some j → is_clean j log.changes ≡ true

-- so it is there in each image
module _ (log : CallLog) (parts : List Route) (path : Route) (i : ℕ) (rests : IsAtRest log parts path i) (image : FileSystem) (left : IsImage log image) where
  leads_same : (rest : Route) → find image (rest ++ path) ≡ find (current log) (rest ++ path)
  leads_same rest = rests.settled rest (find image (rest ++ path)) (find_law log image (rest ++ path) left)

  pub stays_seen : (rest : Route) → (Among parts (rest ++ path) → ⊥) → value_at image (rest ++ path) ≡ value_at (current log) (rest ++ path)
  stays_seen rest out = ap (option_map (λ k. value (node image k))) (leads_same rest) ∙ by (find (current log) (rest ++ path)) refl
    where
      by : (o : Option ℕ) → find (current log) (rest ++ path) ≡ o → option_map (λ k. value (node image k)) o ≡ option_map (λ k. value (node (current log) k)) o
      by None at = refl
      by (Some j) at = ap (λ (n : Node). (let v : Option Value = Some (value n) in v)) (node_law j log.opening log.opening image log.changes refl refl (rests.clean rest j out at) left)

-- A thing that stands so may be renamed: the way to the folder where it goes is on the disk, and doesn't lead through it.
pub record MayGo (log : CallLog) (parts : List Route) (old : List ℕ) (from : Route) (new : List ℕ) (to : Route) (f g i : ℕ) : Type 0 where
  pub tree : IsTree (current log)
  pub from_at : find (current log) from ≡ Some f
  pub to_at : find (current log) to ≡ Some g
  pub rests : IsAtRest log parts (old ∷ from) i
  pub way : (rest up : Route) → to ≡ rest ++ up → IsSettledAt log up
  pub not_into : (rest : Route) → to ≡ rest ++ old ∷ from → ⊥

-- Then all of it is there, or under its new name.
module _ (log : CallLog) (parts : List Route) (old : List ℕ) (from : Route) (new : List ℕ) (to : Route) (f g i : ℕ) (r : Option ℕ) (may : MayGo log parts old from new to f g i) where
  abbrev source : Route
  source = old ∷ from

  abbrev target : Route
  target = new ∷ to

  abbrev moves : Change
  moves = Moves f old g new i r

  abbrev now : CallLog
  now = with_change log moves

  led_if : (b : Bool) → b ≡ true → (o : Option ℕ) → cond b (Some i) o ≡ Some i
  led_if true e o = refl
  led_if false e o = absurd (false≢true e)

  unsaid : (a b : Bool) (x y : Option ℕ) → a ≡ false → b ≡ false → (let o : Option (Option ℕ) = cond a (Some x) (cond b (Some y) None) in o) ≡ None
  unsaid true b x y p q = absurd (true≢false p)
  unsaid false true x y p q = absurd (true≢false q)
  unsaid false false x y p q = refl

  -- an image that has the renaming, of one that hasn't
  module _ (mid : FileSystem) (left : IsImage log mid) where
    abbrev renamed : FileSystem
    renamed = after_change mid moves

    -- a name in a folder that stands at this path leads where it led, if it is neither of the two
    same_lead : (up : Route) (h : ℕ) (m : List ℕ) → find (current log) up ≡ Some h → ((m ∷ up) ≡ source → ⊥) → ((m ∷ up) ≡ target → ⊥) → lookup renamed.names h m ≡ lookup mid.names h m
    same_lead up h m at not_source not_target =
        lookup-after_change mid moves h m
        ∙ ap (λ o. unwrap_or o (lookup mid.names h m)) (unsaid (same_name g new h m) (same_name f old h m) (Some i) None (false_from_ne_true _ at_target) (false_from_ne_true _ at_source))
      where
        path_is : (k : ℕ) (name : List ℕ) (there : Route) → find (current log) there ≡ Some k → same_name k name h m ≡ true → (m ∷ up) ≡ (name ∷ there)
        path_is k name there k_at same =
            let e = same_name-true k h name m same in
            let route : up ≡ there = find-once (current log) may.tree up there k (at ∙ ap (λ j. (let o : Option ℕ = Some j in o)) (sym e.0)) k_at in
            ap (λ n. (let q : Route = n ∷ up in q)) (sym e.1) ∙ ap (λ (q : Route). name ∷ q) route

        at_target : same_name g new h m ≡ true → ⊥
        at_target same = not_target (path_is g new to may.to_at same)

        at_source : same_name f old h m ≡ true → ⊥
        at_source same = not_source (path_is f old from may.from_at same)

    -- where a folder leads, a name in it leads on
    leads_on : (up there : Route) (m : List ℕ) → find renamed there ≡ find mid up → find mid up ≡ find (current log) up → ((m ∷ up) ≡ source → ⊥) → ((m ∷ up) ≡ target → ⊥)
        → find renamed (m ∷ there) ≡ find mid (m ∷ up)
    leads_on up there m same settled not_source not_target = by (find mid up) refl
      where
        by : (o : Option ℕ) → find mid up ≡ o → find renamed (m ∷ there) ≡ find mid (m ∷ up)
        by None is = ap (option_and_then (λ k. lookup renamed.names k m)) (same ∙ is) ∙ sym (ap (option_and_then (λ k. lookup mid.names k m)) is)
        by (Some h) is =
            ap (option_and_then (λ k. lookup renamed.names k m)) (same ∙ is)
            ∙ (same_lead up h m (sym settled ∙ is) not_source not_target ∙ sym (ap (option_and_then (λ k. lookup mid.names k m)) is))

    -- the way to the target's folder
    pub way_stays : (up rest : Route) → to ≡ rest ++ up → find renamed up ≡ find mid up
    way_stays [] rest is = refl
    way_stays (m ∷ up) rest is =
        let longer : to ≡ (rest ++ m ∷ []) ++ up = is ∙ sym (append_assoc rest (m ∷ []) up) in
        leads_on up up m (way_stays up (rest ++ m ∷ []) longer) (may.way (rest ++ m ∷ []) up longer (find mid up) (find_law log mid up left))
        (λ e. may.not_into rest (is ∙ ap (λ (q : Route). rest ++ q) e)) (λ e. not_longer rest new to (is ∙ ap (λ (q : Route). rest ++ q) e))

    -- what lay at the source, and below, is where it went
    pub goes_along : (rest : Route) → find renamed (rest ++ target) ≡ find mid (rest ++ source)
    goes_along [] =
        let stands : find renamed to ≡ Some g = way_stays to [] refl ∙ (may.way [] to refl (find mid to) (find_law log mid to left) ∙ may.to_at) in
        ap (option_and_then (λ k. lookup renamed.names k new)) stands
        ∙ (led_if (same_name g new g new) (same_name-self g new) (lookup (after_change mid (Removes f old i)).names g new)
        ∙ sym (may.rests.settled [] (find mid source) (find_law log mid source left) ∙ may.rests.at))
    goes_along (m ∷ rest) =
        leads_on (rest ++ source) (rest ++ target) m (goes_along rest) (may.rests.settled rest (find mid (rest ++ source)) (find_law log mid (rest ++ source) left))
        (λ e. not_source rest e) (λ e. not_target rest e)
      where
        not_source : (rest : Route) → (m ∷ rest ++ source) ≡ source → ⊥
        not_source rest e = not_longer rest old from (let same : from ≡ rest ++ source = cc in same)

        not_target : (rest : Route) → (m ∷ rest ++ source) ≡ target → ⊥
        not_target rest e = may.not_into rest (let same : to ≡ rest ++ source = cc in same)
