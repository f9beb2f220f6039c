-- What a job knows before each change of names, and what a sync of a folder settles.
use Rattle.std.specs.Prelude.{length, ◌<◌, ℤ, ◌≡◌, ◌⊎◌, ℕ, Bool, true, false, ◌&&◌}
use Rattle.std.specs.Prelude.{◌||◌, not, ◌==◌, List, [], ◌∷◌, ◌++◌, Option, Some, None}
use Rattle.mc_text.specs.Routes.{Route}
use Rattle.tree_trait.specs.declared.file_system.Node.{Node}
use Rattle.tree_trait.specs.FileSystem.{lookup, find, node}
use Rattle.tree_trait.specs.Shape.{IsTree}
use Rattle.tree_trait.specs.Refusals.{is_folder}
use Rattle.tree_trait.specs.Change.{Change, Nothing, Makes, Moves, Removes, Sets}
use Rattle.tree_trait.specs.Change.{Writes, Syncs, CallLog, current, with_change}
use Rattle.tree_trait.specs.CrashImages.{alters, all_settled, is_clean, is_settled, same_name, says}
use Rattle.laws_crash.specs.Possible.{MayLead, MayFind, IsSettledBelow, find_from}
use Rattle.laws_crash.specs.Guarded.{Marks, IsGuarded, IsSettledAt, IsUnder, IsNaming, HasOneName}

-- nothing on the way to this path, nor what stands there, roams
abbrev pub IsAnchored : Marks → CallLog → Route → Type 0
IsAnchored marks log [] = Unit {0}
IsAnchored marks log (name ∷ folder) = IsAnchored marks log folder
    × ((i : ℕ) → find (current log) (name ∷ folder) ≡ Some i → marks.roams i ≡ false)

-- the folder in which a name is to be changed: after any crash it stands at this path or nowhere
pub record StandsAt (marks : Marks) (log : CallLog) (up : Route) (f : ℕ) : Type 0 where
  pub at : find (current log) up ≡ Some f
  pub anchored : IsAnchored marks log up

-- At and below a path the job found what is there now, or it has done its work, after which nothing is there.
abbrev pub IsUnworked : Marks → CallLog → Route → Type 0
IsUnworked marks log top = (rest : Route) → marks.aside (rest ++ top) ≡ false
    → (find (current log) (rest ++ top) ≡ marks.was (rest ++ top)) ⊎ (find (current log) (rest ++ top) ≡ None)

-- What keeps that so. It holds below the path too; a removal of what stands there, or elsewhere,
-- keeps it, and a change that names nothing; and so do other marks that say of a path what they
-- said, or what stands there.
pub record UnworkedLaw : Type 0 where
  pub below : (marks : Marks) (log : CallLog) (top rest : Route) → IsUnworked marks log top
      → IsUnworked marks log (rest ++ top)
  pub removed : (marks : Marks) (log : CallLog) (top up : Route) (m : List ℕ) (f i : ℕ) → IsGuarded marks log
      → StandsAt marks log up f → IsUnworked marks log top
      → IsUnworked marks (with_change log (Removes f m i)) top
  pub unnamed : (marks : Marks) (log : CallLog) (c : Change) (top : Route)
      → ((g : ℕ) (m : List ℕ) → says c (length (current log).nodes) g m ≡ None) → IsUnworked marks log top
      → IsUnworked marks (with_change log c) top
  pub remarked : (old new : Marks) (log : CallLog) (top : Route)
      → ((p : Route) → new.aside p ≡ false → (find (current log) p ≡ new.was p)
      ⊎ ((find (current log) p ≡ None) ⊎ ((old.aside p ≡ false) × (new.was p ≡ old.was p))))
      → IsUnworked old log top → IsUnworked new log top

-- a removal of what the job found
pub record CanRemove (marks : Marks) (log : CallLog) (up : Route) (m : List ℕ) (f : ℕ) : Type 0 where
  pub stands : StandsAt marks log up f
  pub unworked : IsUnworked marks log (m ∷ up)

abbrev pub RemovalLaw : Type 0
RemovalLaw = (marks : Marks) (log : CallLog) (up : Route) (m : List ℕ) (f i : ℕ) → IsGuarded marks log
    → CanRemove marks log up m f
    → IsNaming marks log (Removes f m i)

-- A making where nothing stood: of a part, which stands aside, or of a folder.
pub record CanMake (marks : Marks) (log : CallLog) (up : Route) (m : List ℕ) (f : ℕ)
    (made : Node) : Type 0 where
  pub stands : StandsAt marks log up f
  pub folder : is_folder (node (current log) f) ≡ true
  pub free : lookup (current log).names f m ≡ None
  pub was : marks.aside (m ∷ up) ≡ false → marks.was (m ∷ up) ≡ None
  pub solid : marks.aside (m ∷ up) ≡ false
      → (marks.loose (length (current log).nodes) ≡ false) ⊎ (is_folder made ≡ true)

abbrev pub MakingLaw : Type 0
MakingLaw = (marks : Marks) (log : CallLog) (up : Route) (m : List ℕ) (f : ℕ) (made : Node)
    → IsGuarded marks log → CanMake marks log up m f made
    → IsNaming marks log (Makes f m made)

-- A file that is placed: it has stood aside as a part, and was synced. What stood at the target is
-- what the job found there.
pub record CanPlace (marks : Marks) (log : CallLog) (up : Route) (part target : List ℕ)
    (f i : ℕ) : Type 0 where
  pub stands : StandsAt marks log up f
  pub folder : is_folder (node (current log) f) ≡ true
  pub leads : lookup (current log).names f part ≡ Some i
  pub other : same_name f target f part ≡ false
  pub is_aside : marks.aside (part ∷ up) ≡ true
  pub moves : marks.roams i ≡ true
  -- its bytes and its mode are on the disk
  pub firm : marks.loose i ≡ false
  -- no name was ever given in it
  pub file : (m : List ℕ) (y : Option ℕ) → MayLead log i m y → y ≡ None
  pub found : marks.aside (target ∷ up) ≡ false → find (current log) (target ∷ up) ≡ marks.was (target ∷ up)
  pub under : IsUnworked marks log (target ∷ up)

abbrev pub PlacingLaw : Type 0
PlacingLaw = (marks : Marks) (log : CallLog) (up : Route) (part target : List ℕ) (f i : ℕ)
    (replaced : Option ℕ) → IsGuarded marks log → CanPlace marks log up part target f i
    → IsNaming marks log (Moves f part f target i replaced)

-- no unsynced renaming of this name waits for another folder too
abbrev pub is_near : ℕ → List ℕ → List Change → Bool
is_near f m [] = true
is_near f m (Moves a old b new i r ∷ later) =
    ((not (same_name a old f m) && not (same_name b new f m))
    || (((a == f) || is_settled a later) && ((b == f) || is_settled b later))) && is_near f m later
is_near f m (Nothing ∷ later) = is_near f m later
is_near f m (Makes a name made ∷ later) = is_near f m later
is_near f m (Removes a name i ∷ later) = is_near f m later
is_near f m (Sets i mode ∷ later) = is_near f m later
is_near f m (Writes i bytes mtime ∷ later) = is_near f m later
is_near f m (Syncs i ∷ later) = is_near f m later

-- After its folder's sync a name leads only where it leads now.
abbrev pub SyncedLaw : Type 0
SyncedLaw = (log : CallLog) (up : Route) (m : List ℕ) (f : ℕ) → IsSettledAt log up
    → find (current log) up ≡ Some f → is_near f m log.changes ≡ true
    → IsSettledAt (with_change log (Syncs f)) (m ∷ up)

-- What one job changes is nothing to a path that doesn't go through it.
abbrev pub FrameLaw : Type 0
FrameLaw = (marks : Marks) (log : CallLog) (c : Change) (p : Route) → IsGuarded marks log
    → IsNaming marks log c → (IsUnder log c p → ⊥)
    → (find (current (with_change log c)) p ≡ find (current log) p)
    × ((x : Option ℕ) → MayFind (with_change log c) p x → MayFind log p x)

-- A sync keeps what is known, and so does a write to a node that is loose, or another mode of it.
abbrev pub SyncLaw : Type 0
SyncLaw = (marks : Marks) (log : CallLog) (f : ℕ) → IsGuarded marks log
    → IsGuarded marks (with_change log (Syncs f))

abbrev pub WriteLaw : Type 0
WriteLaw = (marks : Marks) (log : CallLog) (i : ℕ) (bytes : List ℕ) (time : ℤ) → marks.loose i ≡ true
    → IsGuarded marks log → IsGuarded marks (with_change log (Writes i bytes time))

abbrev pub ModeLaw : Type 0
ModeLaw = (marks : Marks) (log : CallLog) (i mode : ℕ) → marks.loose i ≡ true → IsGuarded marks log
    → IsGuarded marks (with_change log (Sets i mode))

-- after its sync a node has no unsynced bytes and mode
abbrev pub FirmLaw : Type 0
FirmLaw = (log : CallLog) (i : ℕ) → is_clean i (with_change log (Syncs i)).changes ≡ true

-- A thing goes to another name on its mount by one renaming, with all below it, of which nothing waits for
-- a sync: a file, a link, or a folder that is moved whole.
pub record CanMove (marks : Marks) (log : CallLog) (source_folder target_folder : Route) (old new : List ℕ)
    (f g i : ℕ) : Type 0 where
  pub from : StandsAt marks log source_folder f
  pub to : StandsAt marks log target_folder g
  pub folder : is_folder (node (current log) g) ≡ true
  pub leads : lookup (current log).names f old ≡ Some i
  pub other : same_name g new f old ≡ false
  -- neither folder lies under what is moved, or under where it goes
  pub not_under_target : (rest : Route) → source_folder ≡ rest ++ new ∷ target_folder → ⊥
  pub not_into_itself : (rest : Route) → target_folder ≡ rest ++ old ∷ source_folder → ⊥
  -- of no name below it anything waits for a sync
  pub below : IsSettledBelow log i
  pub moves : marks.roams i ≡ true
  -- and nothing of it is loose, but for folders and for parts, which stand aside where they go
  pub solid : (rest : Route) (j : ℕ) → marks.aside (rest ++ new ∷ target_folder) ≡ false → find_from
      (current log) i rest ≡ Some j → (marks.loose j ≡ false) ⊎ (is_folder (node (current log) j) ≡ true)
  -- at the target stands what the job found, and at the source nothing was done but removals
  pub found : (rest : Route) → marks.aside (rest ++ new ∷ target_folder) ≡ false
      → find (current log) (rest ++ new ∷ target_folder) ≡ marks.was (rest ++ new ∷ target_folder)
  pub source : IsUnworked marks log (old ∷ source_folder)

abbrev pub MovingLaw : Type 0
MovingLaw = (marks : Marks) (log : CallLog) (source_folder target_folder : Route) (old new : List ℕ)
    (f g i : ℕ) (replaced : Option ℕ) → IsGuarded marks log
    → CanMove marks log source_folder target_folder old new f g i
    → IsNaming marks log (Moves f old g new i replaced)

-- What a job knows of its own paths stays so while others work elsewhere.
pub record OthersLaw : Type 0 where
  pub stands : (marks : Marks) (log : CallLog) (c : Change) (up : Route) (f : ℕ) → (IsUnder log c up → ⊥)
      → StandsAt marks log up f → StandsAt marks (with_change log c) up f
  pub unworked : (marks : Marks) (log : CallLog) (c : Change) (top : Route)
      → ((rest : Route) → IsUnder log c (rest ++ top) → ⊥) → IsUnworked marks log top
      → IsUnworked marks (with_change log c) top
  pub settled : (marks : Marks) (log : CallLog) (c : Change) (p : Route) → IsGuarded marks log
      → IsNaming marks log c → (IsUnder log c p → ⊥)
      → IsSettledAt log p → IsSettledAt (with_change log c) p

-- Where nothing waits for a sync, as at an opening, all of this holds.
abbrev pub as_it_stands : CallLog → Marks
as_it_stands log = record {
  was = λ p. find (current log) p;
  aside = λ p. false;
  loose = λ i. false;
  roams = λ i. false;
  modes = λ i. None;
}

abbrev pub OpeningLaw : Type 0
OpeningLaw = (log : CallLog) → IsTree (current log) → all_settled log.changes ≡ true
    → IsGuarded (as_it_stands log) log

-- Two jobs: the one places its file, the other removes something elsewhere, and then
-- the one syncs its folder.
pub record Meanwhile (marks : Marks) (log : CallLog) (up : Route) (part target : List ℕ) (f i : ℕ)
    (replaced : Option ℕ) (other_folder : Route) (name : List ℕ) (g j : ℕ) : Type 0 where
  pub guarded : IsGuarded marks log
  pub place : CanPlace marks log up part target f i
  pub remove : CanRemove marks log other_folder name g
  -- the way to the folder is on the disk, and no renaming of the target waits for another folder
  pub way : IsSettledAt log up
  pub near : is_near f target log.changes ≡ true
  -- the claims don't clash: neither works under the other's paths
  pub not_there : IsUnder log (Moves f part f target i replaced) other_folder → ⊥
  pub not_it : (rest : Route)
      → IsUnder log (Moves f part f target i replaced) (rest ++ name ∷ other_folder) → ⊥
  pub not_here : IsUnder (with_change log (Moves f part f target i replaced)) (Removes g name j) up → ⊥

abbrev pub log_after_placing : CallLog → ℕ → List ℕ → List ℕ → ℕ → Option ℕ → CallLog
log_after_placing log f part target i replaced = with_change log (Moves f part f target i replaced)

-- At each moment it is as it is kept, and at the end the target leads, in each image, to
-- the file that was placed.
abbrev pub MeanwhileLaw : Type 0
MeanwhileLaw = (marks : Marks) (log : CallLog) (up : Route) (part target : List ℕ) (f i : ℕ)
    (replaced : Option ℕ) (other_folder : Route) (name : List ℕ) (g j : ℕ)
    → Meanwhile marks log up part target f i replaced other_folder name g j
    → IsGuarded marks (log_after_placing log f part target i replaced)
    × IsGuarded marks (with_change (log_after_placing log f part target i replaced) (Removes g name j))
    × IsGuarded marks
    (with_change (with_change (log_after_placing log f part target i replaced) (Removes g name j)) (Syncs f))
    × IsSettledAt (with_change
    (with_change (log_after_placing log f part target i replaced) (Removes g name j)) (Syncs f)) (target ∷ up)

-- Where nothing stands, and a crash leaves nothing, the same holds of all below.
abbrev pub GoneLaw : Type 0
GoneLaw = (log : CallLog) (top rest : Route) → IsSettledAt log top → find (current log) top ≡ None
    → IsSettledAt log (rest ++ top)

-- What was renamed has two names until both folders were synced: the old one, which leads
-- nowhere, and the new one.
abbrev pub HasTwoNames : CallLog → ℕ → ℕ → List ℕ → ℕ → List ℕ → Type 0
HasTwoNames log i f old g new = (h : ℕ) (n : List ℕ) → MayLead log h n (Some i)
    → ((h ≡ f) × (n ≡ old)) ⊎ ((h ≡ g) × (n ≡ new))

pub record NamesOfMovedLaw : Type 0 where
  -- as it is renamed
  pub renamed : (marks : Marks) (log : CallLog) (f g i : ℕ) (old new : List ℕ) (replaced : Option ℕ)
      → HasOneName log i → lookup (current log).names f old ≡ Some i
      → HasTwoNames (with_change log (Moves f old g new i replaced)) i f old g new
  -- while others work
  pub others : (log : CallLog) (c : Change) (i f g : ℕ) (old new : List ℕ)
      → ((h : ℕ) (n : List ℕ) → says c (length (current log).nodes) h n ≡ Some (Some i) → ⊥)
      → HasTwoNames log i f old g new → HasTwoNames (with_change log c) i f old g new
  -- once its old folder was synced, with no renaming there that waits for another: it has one name again
  pub settled : (log : CallLog) (i f g : ℕ) (old new : List ℕ) → HasTwoNames log i f old g new
      → is_near f old log.changes ≡ true → lookup (current log).names f old ≡ None
      → HasOneName (with_change log (Syncs f)) i

-- What is below a settled path is settled, where nothing below waits.
abbrev pub BelowLaw : Type 0
BelowLaw = (log : CallLog) (top : Route) (i : ℕ) (rest : Route) → IsSettledAt log top
    → find (current log) top ≡ Some i → IsSettledBelow log i → IsSettledAt log (rest ++ top)

-- What isn't altered keeps its bytes and mode.
abbrev pub UnalteredLaw : Type 0
UnalteredLaw = (log : CallLog) (c : Change) (i : ℕ) → alters i c ≡ false → i < length (current log).nodes
    → node (current (with_change log c)) i ≡ node (current log) i
