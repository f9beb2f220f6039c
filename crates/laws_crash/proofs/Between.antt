-- Two jobs, one after the other's step.
use Rattle.std.proofs.Common.{◌≡◌, ℕ, true, not, ◌&&◌, List, [], ◌∷◌, ◌++◌, refl, sym, ◌∙◌, subst, Option, Some, None}
use Rattle.std.proofs.lemmas.Bool.{and_parts, and_from, or_left, or_right, eq-eqb}
use Rattle.tree_trait.specs.FileSystem.{find}
use Rattle.tree_trait.specs.Change.{Change, Nothing, Makes, Moves, Removes, Sets, Writes, Syncs, current, with_change}
use Rattle.tree_trait.specs.CrashImages.{same_name}
use Rattle.tree_trait.proofs.Settled.{is_settled-more, or_follows, and_follows}
use Rattle.laws_crash.specs.Possible.{Leads}
use Rattle.laws_crash.specs.NameKnowledge.{is_near, MeanwhileLaw, GoneLaw, CanRemove}
use Rattle.laws_crash.proofs.Guarding.{naming_law}
use Rattle.laws_crash.proofs.Syncing.{sync_law, synced_law}
use Rattle.laws_crash.proofs.Others.{others_law, same_at}
use Rattle.laws_crash.proofs.Placing.{placing_law, never_under, way}
use Rattle.laws_crash.proofs.Removing.{removal_law}
use Rattle.laws_crash.proofs.Tops.{none_below}

module _ (f : ℕ) (m : List ℕ) (more : List Change) (tail : is_near f m more ≡ true) where
  near_more : (cs : List Change) → is_near f m cs ≡ true → is_near f m (cs ++ more) ≡ true
  near_more [] h = tail
  near_more (Nothing ∷ cs) h = near_more cs h
  near_more (Makes a name made ∷ cs) h = near_more cs h
  near_more (Removes a name i ∷ cs) h = near_more cs h
  near_more (Sets i mode ∷ cs) h = near_more cs h
  near_more (Writes i bytes time ∷ cs) h = near_more cs h
  near_more (Syncs i ∷ cs) h = near_more cs h
  near_more (Moves a old b new i r ∷ cs) h =
      and_from _ _
      (or_follows _ _ _ _ (λ e. e) (and_follows _ _ _ _ (or_follows _ _ _ _ (λ e. e) (is_settled-more a cs more)) (or_follows _ _ _ _ (λ e. e) (is_settled-more b cs more))) (and_parts _ _ h).0)
      (near_more cs (and_parts _ _ h).1)

-- a renaming within the folder waits for no other
own_near : (f : ℕ) (m : List ℕ) (part target : List ℕ) (i : ℕ) (r : Option ℕ) → is_near f m (Moves f part f target i r ∷ []) ≡ true
own_near f m part target i r =
    and_from _ _ (or_right (not (same_name f part f m) && not (same_name f target f m)) _ (and_from _ _ (or_left _ _ (eq-eqb f f refl)) (or_left _ _ (eq-eqb f f refl)))) refl

pub gone_law : GoneLaw
gone_law log top [] settled none x found = settled x found
gone_law log top (name ∷ rest) settled none x (y, found, leads) =
    let below = none_below log rest top none in
    let y_none : y ≡ None = gone_law log top rest settled none y found ∙ below in
    subst (λ o. Leads log o name x) y_none leads ∙ sym (none_below log (name ∷ rest) top none)

pub meanwhile_law : MeanwhileLaw
meanwhile_law marks log up part target f i r other_folder name g j m =
    let c = Moves f part f target i r in
    let d = Removes g name j in
    let one = placing_law marks log up part target f i r m.guarded m.place in
    let kept_one = naming_law marks log c m.guarded one in
    let can : CanRemove marks (with_change log c) other_folder name g = record {
      stands = others_law.stands marks log c other_folder g m.not_there m.remove.stands;
      unworked = others_law.unworked marks log c (name ∷ other_folder) m.not_it m.remove.unworked;
    } in
    let two = removal_law marks (with_change log c) other_folder name g j kept_one can in
    let kept_two = naming_law marks (with_change log c) d kept_one two in
    let way_one = others_law.settled marks log c up m.guarded one (never_under marks log up part target f i r m.guarded m.place up refl) m.way in
    let way_two = others_law.settled marks (with_change log c) d up kept_one two m.not_here way_one in
    let at_two : find (current (with_change (with_change log c) d)) up ≡ Some f = same_at (with_change log c) d up m.not_here ∙ way marks log up part target f i r m.guarded m.place in
    let near_one = near_more f target (c ∷ []) (own_near f target part target i r) log.changes m.near in
    let near_two = near_more f target (d ∷ []) refl (log.changes ++ c ∷ []) near_one in
    (kept_one, kept_two, sync_law marks (with_change (with_change log c) d) f kept_two, synced_law (with_change (with_change log c) d) up target f way_two at_two near_two)
