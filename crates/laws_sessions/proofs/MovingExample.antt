-- A file is moved from a folder to the one around it, and a folder with all that lies in it is given another name, so what `CanMoveThing` asks for can be met.
use Rattle.std.proofs.Common.{◌≡◌, ℕ, false, [], ◌∷◌, ◌++◌, refl, sym, inl, inr, Option, Some, None}
use Rattle.std.specs.Option.{option_map_or}
use Rattle.mc_text.specs.Routes.{Route}
use Rattle.tree_trait.specs.FileSystem.{find}
use Rattle.tree_trait.specs.Change.{Moves, CallLog, current, with_change}
use Rattle.laws_crash.specs.NameKnowledge.{as_it_stands}
use Rattle.laws_sessions.proofs.AtRest.{RestsBelow}
use Rattle.laws_sessions.proofs.Changing.{off_itself, some_none}
use Rattle.laws_sessions.proofs.FolderExampleSteps.{first, log, small_tree, top}
use Rattle.laws_sessions.proofs.Histories.{at_opening}
use Rattle.laws_sessions.proofs.Knowing.{IsKept, IsKnown, HistoryFacts}
use Rattle.laws_sessions.proofs.MovingThings.{CanMoveThing, marks_moving, said_thing_moved, thing_moved_known}
use Rattle.laws_sessions.proofs.PathsBelow.{not_below}
use Rattle.laws_sessions.proofs.Prefixes.{told_of}

-- the root, and in it the folder with the two files
abbrev root : Route
root = []

abbrev opening : CallLog
opening = log []

abbrev told : HistoryFacts
told = told_of opening opening [] None

kept : IsKept told [] (as_it_stands opening) opening
kept = at_opening opening small_tree refl

-- where no call was made nothing waits
none_waits : (o : Option ℕ) → option_map_or (λ f. false) o false ≡ false
none_waits None = refl
none_waits (Some f) = refl

all_rests : (path : Route) → RestsBelow (as_it_stands opening) opening path
all_rests path = record {
  names = λ name rest. none_waits (find (current opening) (rest ++ path));
  modes = λ rest i at. refl;
  still = λ rest i at. refl;
  apart = λ rest i other at. refl;
}

-- the first file, to the root
can_move : CanMoveThing told (as_it_stands opening) opening (1 ∷ []) top (3 ∷ []) root 1 0 2
can_move = record {
  none = refl;
  from = refl;
  to = refl;
  folder = refl;
  leads = refl;
  other = λ same. off_itself first ((3 ∷ []) ∷ root) same refl;
  not_into = λ rest same. not_below first root rest refl same;
  bare = λ j at. some_none j (sym at);
  free = λ folder. refl;
  source_sure = refl;
  target_sure = refl;
  rests = all_rests first;
  no_mode_there = λ j at. refl;
  mount = refl;
  no_mount = refl;
}

pub moved : IsKnown (said_thing_moved told (1 ∷ []) top (3 ∷ []) root) (top ∷ root ∷ []) (marks_moving (as_it_stands opening) 2 ((1 ∷ []) ∷ top) ((3 ∷ []) ∷ root)) (with_change opening (Moves 1 (1 ∷ []) 0 (3 ∷ []) 2 None))
moved = thing_moved_known told [] (as_it_stands opening) opening kept (1 ∷ []) top (3 ∷ []) root 1 0 2 None can_move (top ∷ root ∷ []) (inl refl) (inr (inl refl)) (λ q among. absurd among)

-- the folder itself, in the root
can_rename : CanMoveThing told (as_it_stands opening) opening (1 ∷ []) root (3 ∷ []) root 0 0 1
can_rename = record {
  none = refl;
  from = refl;
  to = refl;
  folder = refl;
  leads = refl;
  other = λ same. off_itself top ((3 ∷ []) ∷ root) same refl;
  not_into = λ rest same. not_below top root rest refl same;
  bare = λ j at. some_none j (sym at);
  free = λ folder. refl;
  source_sure = refl;
  target_sure = refl;
  rests = all_rests top;
  no_mode_there = λ j at. refl;
  mount = refl;
  no_mount = refl;
}

pub renamed : IsKnown (said_thing_moved told (1 ∷ []) root (3 ∷ []) root) (root ∷ []) (marks_moving (as_it_stands opening) 1 top ((3 ∷ []) ∷ root)) (with_change opening (Moves 0 (1 ∷ []) 0 (3 ∷ []) 1 None))
renamed = thing_moved_known told [] (as_it_stands opening) opening kept (1 ∷ []) root (3 ∷ []) root 0 0 1 None can_rename (root ∷ []) (inl refl) (inl refl) (λ q among. absurd among)
