-- What is known of the folders that the copy of a tree has open: each is filled, but for the innermost, which may just have been made.
use Rattle.std.proofs.Common.{◌≡◌, ℕ, Bool, true, false, List, [], ◌∷◌, refl, sym, subst, inl, inr, Some, None, Result, Err}
use Rattle.std.specs.Prelude.{⊤, drop, map}
use Rattle.mc_text.specs.Routes.{Route}
use Rattle.tree_trait.specs.declared.calls.TreeError.{TreeError}
use Rattle.tree_trait.specs.declared.file_system.FileSystem.{FileSystem}
use Rattle.tree_trait.specs.Answers.{Performs}
use Rattle.tree_trait.specs.Calls.{Call}
use Rattle.tree_trait.specs.Change.{Change, Syncs, CallLog, current, with_change}
use Rattle.tree_trait.specs.CrashImages.{Among, says}
use Rattle.tree_trait.specs.FileSystem.{find}
use Rattle.tree_trait.specs.Shape.{IsTree}
use Rattle.copy_folders.specs.FolderCopying.{FolderCopying, is_dirty}
use Rattle.copy_folders.specs.declared.stage.NamesState.TheVariants.{Synced}
use Rattle.tree_walk.specs.Places.{OpenFolder}
use Rattle.copy_folders.specs.declared.level.Level.{Level}
use Rattle.copy_folders.specs.Levels.{IsLeft, Levels, coming, dirtied_levels, emptied_levels, entered_levels, is_around_dirty, level, passed_levels}
use Rattle.laws_sessions.proofs.FilledCalls.{MayFill, filling_call}
use Rattle.laws_sessions.proofs.FilledFolders.{IsFilling, IsNew, filling_fewer, filling_quiet, new_quiet, opens_synced}
use Rattle.laws_sessions.proofs.OpenFolders.{AroundKnow, InnerKnows, LevelsKnow}
use Rattle.laws_sessions.proofs.Refused.{refused_change}
use Rattle.laws_sessions.proofs.Resting.{name_sure}
use Rattle.laws_sessions.proofs.WaitsAlone.{alone_calm}

new_of : (log : CallLog) (up : Route) (names : List (List ℕ)) → IsFilling log up names → IsNew log up names
new_of log up names filling = let firm = filling.firm in record { stands = firm.stands; calm = filling.calm; alone = alone_calm log up (name_sure log up firm.sure) }

inner_of : (b : Bool) (log : CallLog) (up : Route) (names : List (List ℕ)) → IsFilling log up names → InnerKnows b log up names
inner_of true log up names filling = new_of log up names filling
inner_of false log up names filling = filling

inner_fewer : (b : Bool) (log : CallLog) (up : Route) (names fewer : List (List ℕ)) → ((k : List ℕ) → Among fewer k → Among names k) → InnerKnows b log up names → InnerKnows b log up fewer
inner_fewer true log up names fewer less new = record { stands = new.stands; calm = λ k among. new.calm k (less k among); alone = new.alone }
inner_fewer false log up names fewer less filling = filling_fewer log up names fewer less filling

among_later : (names : List (List ℕ)) (k : List ℕ) → Among (drop 1 names) k → Among names k
among_later [] k among = among
among_later (first ∷ names) k among = inr among

among_mapped : (name : List ℕ) (names : List (List ℕ)) (k : List ℕ) → Among (map (λ (met : List ℕ). name) (drop 1 names)) k → Among (map (λ (met : List ℕ). name) names) k
among_mapped name [] k among = among
among_mapped name (first ∷ names) k among = inr among

pub fewer_coming : (name : List ℕ) (place later : OpenFolder) (around : List Level) → later.names ≡ drop 1 place.names → (k : List ℕ) → Among (coming name later around) k → Among (coming name place around) k
fewer_coming name place later [] is k among = among_mapped name place.names k (subst (λ xs. Among (map (λ (met : List ℕ). name) xs) k) is among)
fewer_coming name place later (outer ∷ around) is k among = among_later place.names k (subst (λ xs. Among xs k) is among)

none_coming : (name : List ℕ) (place : OpenFolder) (around : List Level) → place.names ≡ [] → (k : List ℕ) → Among (coming name place around) k → ⊥
none_coming name place [] is k among = subst (λ xs. Among (map (λ (met : List ℕ). name) xs) k) is among
none_coming name place (outer ∷ around) is k among = subst (λ xs. Among xs k) is among

-- The next name is done with, or all that are left.
pub levels_passed : (log : CallLog) (name : List ℕ) (left : Bool) (l : Levels) → LevelsKnow log name l → LevelsKnow log name (passed_levels left l)
levels_passed log name left l known = record {
  inner = inner_fewer (is_around_dirty l.around) log l.inner.copy.target _ _ (fewer_coming name l.inner.names (let p : Levels = passed_levels left l in p.inner.names) l.around refl) known.inner;
  around = known.around;
}

pub levels_emptied : (log : CallLog) (name : List ℕ) (l : Levels) → LevelsKnow log name l → LevelsKnow log name (emptied_levels l)
levels_emptied log name l known = record {
  inner = inner_fewer (is_around_dirty l.around) log l.inner.copy.target _ _ (λ k among. absurd (none_coming name (let e : Levels = emptied_levels l in e.inner.names) l.around refl k among)) known.inner;
  around = known.around;
}

-- A folder is left, and the one around it is worked again.
pub levels_left : (log : CallLog) (name : List ℕ) (old new : Levels) → IsLeft old new → LevelsKnow log name old → LevelsKnow log name new
levels_left log name old new left known =
    let outer = subst (AroundKnow log name) left.was known.around in
    record { inner = inner_of (is_around_dirty new.around) log new.inner.copy.target (coming name new.inner.names new.around) outer.0; around = outer.1 }

pub filled_inner : (b : Bool) (log : CallLog) (up : Route) (names : List (List ℕ)) → b ≡ false → InnerKnows b log up names → IsFilling log up names
filled_inner true log up names is known = absurd (let f : ⊥ = cc in f)
filled_inner false log up names is known = known

-- A folder that was made is gone into: the one around it is dirty, and has met its name.
pub levels_entered : (log : CallLog) (name : List ℕ) (place : OpenFolder) (copy : FolderCopying) (l : Levels) → LevelsKnow log name (passed_levels false l) → is_around_dirty l.around ≡ false → IsNew log copy.target place.names
    → LevelsKnow log name (entered_levels place copy (dirtied_levels true l))
levels_entered log name place copy l known clean new = record {
  inner = new;
  around = (filled_inner (is_around_dirty l.around) log l.inner.copy.target _ clean known.inner, known.around);
}

around_quiet : (log : CallLog) (c : Change) (tree : IsTree (current log)) (none : (n g : ℕ) (m : List ℕ) → says c n g m ≡ None) (name : List ℕ) (around : List Level) → AroundKnow log name around → AroundKnow (with_change log c) name around
around_quiet log c tree none name [] known = tt
around_quiet log c tree none name (outer ∷ around) known = (filling_quiet log c tree none outer.copy.target (coming name outer.names around) known.0, around_quiet log c tree none name around known.1)

inner_quiet : (b : Bool) (log : CallLog) (c : Change) (tree : IsTree (current log)) (none : (n g : ℕ) (m : List ℕ) → says c n g m ≡ None) (up : Route) (names : List (List ℕ)) → InnerKnows b log up names
    → InnerKnows b (with_change log c) up names
inner_quiet true log c tree none up names new = new_quiet log c tree none up names new
inner_quiet false log c tree none up names filling = filling_quiet log c tree none up names filling

-- a call that changes no name
pub levels_quiet : (log : CallLog) (c : Change) (tree : IsTree (current log)) (none : (n g : ℕ) (m : List ℕ) → says c n g m ≡ None) (name : List ℕ) (l : Levels) → LevelsKnow log name l → LevelsKnow (with_change log c) name l
levels_quiet log c tree none name l known = record {
  inner = inner_quiet (is_around_dirty l.around) log c tree none l.inner.copy.target (coming name l.inner.names l.around) known.inner;
  around = around_quiet log c tree none name l.around known.around;
}

-- a call that was refused
pub levels_refused : (log now : CallLog) (tree : IsTree (current log)) (call : Call) (e : TreeError) → Performs {A = Unit {0}} log call (Err e) (Some now) → (name : List ℕ) (l : Levels) → LevelsKnow log name l → LevelsKnow now name l
levels_refused log now tree call e done name l known = elim (refused_change log now call e done) [
  | inl same ↦ subst (λ (x : CallLog). LevelsKnow x name l) (sym same) known
  | inr c ↦ subst (λ (x : CallLog). LevelsKnow x name l) (sym c.2) (levels_quiet log c.0 tree c.1 name l known)
]

-- what is called may be done as for what is yet to be met in each of these folders
abbrev pub MayFillAround : FileSystem → List ℕ → List Level → Call → Type 0
MayFillAround s name [] call = ⊤
MayFillAround s name (outer ∷ around) call = MayFill s outer.copy.target (coming name outer.names around) call × MayFillAround s name around call

around_call : (log now : CallLog) (tree : IsTree (current log)) (call : Call) (answer : Result (Unit {0}) TreeError) → Performs {A = Unit {0}} log call answer (Some now) → (name : List ℕ) (around : List Level)
    → MayFillAround (current log) name around call → AroundKnow log name around → AroundKnow now name around
around_call log now tree call answer done name [] may known = tt
around_call log now tree call answer done name (outer ∷ around) may known = (
  filling_call log now tree outer.copy.target (coming name outer.names around) known.0 call answer done may.0,
  around_call log now tree call answer done name around may.1 known.1,
)

-- A call of the job, whatever its answer, while the innermost folder is filled.
pub levels_call : (log now : CallLog) (tree : IsTree (current log)) (call : Call) (answer : Result (Unit {0}) TreeError) → Performs {A = Unit {0}} log call answer (Some now) → (name : List ℕ) (l : Levels)
    → is_around_dirty l.around ≡ false → MayFill (current log) l.inner.copy.target (coming name l.inner.names l.around) call → MayFillAround (current log) name l.around call → LevelsKnow log name l → LevelsKnow now name l
levels_call log now tree call answer done name l clean may may_around known =
    let filling = filled_inner (is_around_dirty l.around) log l.inner.copy.target (coming name l.inner.names l.around) clean known.inner in
    record {
      inner = inner_of (is_around_dirty l.around) now l.inner.copy.target (coming name l.inner.names l.around)
          (filling_call log now tree l.inner.copy.target (coming name l.inner.names l.around) filling call answer done may);
      around = around_call log now tree call answer done name l.around may_around known.around;
    }

-- The nearest folder around was synced: so the innermost, which lies in it, is on the disk, and is filled from now on.
pub levels_opened : (log : CallLog) (tree : IsTree (current log)) (name k : List ℕ) (g : ℕ) (l : Levels) (outer : Level) (around : List Level) → l.around ≡ outer ∷ around
    → is_dirty outer.copy.names ≡ true → l.inner.copy.target ≡ k ∷ outer.copy.target → find (current log) outer.copy.target ≡ Some g → LevelsKnow log name l
    → LevelsKnow (with_change log (Syncs g)) name (record l { around = level outer.names (record outer.copy { names = Synced }) ∷ around })
levels_opened log tree name k g l outer around was dirty lies at known =
    let outside = subst (AroundKnow log name) was known.around in
    let now = with_change log (Syncs g) in
    let filled = outside.0 in
    let new : IsNew log (k ∷ outer.copy.target) l.inner.names.names =
    subst (λ up. IsNew log up l.inner.names.names) lies
    (subst (λ b. InnerKnows b log l.inner.copy.target l.inner.names.names) dirty
    (subst (λ (ls : List Level). InnerKnows (is_around_dirty ls) log l.inner.copy.target (coming name l.inner.names ls)) was known.inner)) in
    record {
      inner = subst (λ up. IsFilling now up l.inner.names.names) (sym lies) (opens_synced log outer.copy.target g k l.inner.names.names tree at (filling_fewer log outer.copy.target (coming name outer.names around) [] (λ met never. absurd never) filled) new);
      around = (filling_quiet log (Syncs g) tree (λ n h m. refl) outer.copy.target (coming name outer.names around) filled, around_quiet log (Syncs g) tree (λ n h m. refl) name around outside.1);
    }
