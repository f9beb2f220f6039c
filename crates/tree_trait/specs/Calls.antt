-- The calls of a tree: four that read and ten that change it. A path is its names, the last one first.
use Rattle.std.specs.Prelude.{ℕ, List}
use Rattle.mc_text.specs.Routes.{Route}

pub data Call : Type 0 where
  Stat : (path : Route) → Call
  ListFolder : (path : Route) → Call
  ReadAt : (path : Route) (offset count : ℕ) → Call
  ReadLink : (path : Route) → Call
  MakeFile : (path : Route) (mode : ℕ) → Call
  WriteAt : (path : Route) (offset : ℕ) (bytes : List ℕ) → Call
  SetMode : (path : Route) (mode : ℕ) → Call
  MakeFolder : (path : Route) (mode : ℕ) → Call
  MakeLink : (path : Route) (text : List ℕ) → Call
  Rename : (from to : Route) → Call
  RemoveFile : (path : Route) → Call
  RemoveFolder : (path : Route) → Call
  SyncFile : (path : Route) → Call
  SyncFolder : (path : Route) → Call
