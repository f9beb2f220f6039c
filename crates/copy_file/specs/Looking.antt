-- The looks before a part is made, in their order, and the trouble that a look comes to.
use Rattle.std.specs.Prelude.{◌≡◌, ◌≢◌, ◌⊎◌, ◌^◌, ◌≤◌, ⊤, Bool, true, false, List}
use Rattle.std.specs.Prelude.{[], ◌∷◌, length, Option, Some, None, Result, Ok, Err}
use Rattle.mc_text.specs.Routes.{Route}
use Rattle.mc_text.specs.declared.kind.Kind.TheVariants.{File}
use Rattle.tree_trait.specs.declared.file_system.Node.{Node}
use Rattle.tree_trait.specs.declared.file_system.FileSystem.{FileSystem}
use Rattle.tree_trait.specs.declared.calls.Meta.{Meta}
use Rattle.tree_trait.specs.declared.calls.TreeError.{TreeError}
use Rattle.tree_trait.specs.declared.calls.TreeError.TheVariants as refused
use Rattle.tree_trait.specs.Calls.{Stat}
use Rattle.tree_trait.specs.FileSystem.{node}
use Rattle.tree_trait.specs.Change.{found_node}
use Rattle.tree_trait.specs.Refusals.{refusal_of}
use Rattle.tree_trait.specs.Answers.{IsMeta}
use Rattle.job_reports.specs.declared.report.Cause.{Cause}
use Rattle.job_reports.specs.declared.report.Cause.TheVariants.{Tree, TargetKind, SpecialSource, TooDeep}
use Rattle.job_reports.specs.declared.report.Cause.TheVariants.{PartTaken, TooLong, Unnamed, Changed, Memory}
use Rattle.job_reports.specs.declared.report.Trouble.{Trouble}
use Rattle.job_reports.specs.Reading.{IsRefusedWith}
use Rattle.copy_file.specs.declared.looks.Seen.{Seen}
use Rattle.copy_file.specs.declared.stage.SourceFacts.{SourceFacts}
use Rattle.copy_file.specs.Copying.{Places}
use Rattle.job_reports.specs.Paths.{folder_of}
use Rattle.job_reports.specs.Stops.{IsTroubleWithPath}

-- the file that a path leads to
abbrev pub file_at : FileSystem → Route → Node
file_at s path = node s (found_node s path)

-- what the source was said to be is what it is
pub record AreFactsOf (s : FileSystem) (source : Route) (facts : SourceFacts) : Type 0 where
  pub size : facts.size ≡ length (file_at s source).bytes
  pub mode : facts.mode ≡ (file_at s source).mode

-- a file stands at the source, and nothing at the target
pub record IsReady (s : FileSystem) (p : Places) : Type 0 where
  pub source : refusal_of s (Stat p.source) ≡ None
  pub file : (file_at s p.source).kind ≡ File
  pub target : refusal_of s (Stat p.target) ≡ Some refused.Missing

-- the looks at an item, in their order: the source, the target, which alone may be missing, and
-- the folders that hold them
abbrev pub looks_at : Places → List (Route × Bool)
looks_at p =
    (p.source, false) ∷ (p.target, true) ∷ (folder_of p.source, false) ∷ (folder_of p.target, false) ∷ []

-- a look is no trouble: it isn't refused, or nothing is there, and nothing need be
abbrev pub Passes : FileSystem → Route × Bool → Type 0
Passes s look = (refusal_of s (Stat look.0) ≡ None)
    ⊎ ((look.1 ≡ true) × (refusal_of s (Stat look.0) ≡ Some refused.Missing))

-- no look is a trouble
abbrev pub AllPass : FileSystem → List (Route × Bool) → Type 0
AllPass s [] = ⊤
AllPass s (look ∷ more) = Passes s look × AllPass s more

-- a look at this path is refused, and those before it are no trouble
abbrev pub IsFirstRefused : FileSystem → List (Route × Bool) → Route → TreeError → Type 0
IsFirstRefused s [] path e = ⊥
IsFirstRefused s (look ∷ more) path e =
    ((path ≡ look.0) × IsRefusedWith s (Stat look.0) e × ((look.1 ≡ true) × (e ≡ refused.Missing) → ⊥))
    ⊎ (Passes s look × IsFirstRefused s more path e)

-- a look is refused, the first that is, or there was no memory
abbrev pub LookRefused : FileSystem → Places → Cause → Option Route → Type 0
LookRefused s p (Tree e) path = (look : Route) × (path ≡ Some look) × IsFirstRefused s (looks_at p) look e
LookRefused s p Memory path = path ≡ None
LookRefused s p (TargetKind kind) path = ⊥
LookRefused s p SpecialSource path = ⊥
LookRefused s p TooDeep path = ⊥
LookRefused s p (Unnamed count) path = ⊥
LookRefused s p PartTaken path = ⊥
LookRefused s p TooLong path = ⊥
LookRefused s p (Changed said got) path = ⊥

-- The trouble of the looks: one is refused, or none is, and something stands at the target, or nothing
-- stands there, and the source is no file.
abbrev pub LookStops : FileSystem → Places → Cause → Option Route → Type 0
LookStops s p (Tree e) path = (look : Route) × (path ≡ Some look) × IsFirstRefused s (looks_at p) look e
LookStops s p (TargetKind kind) path =
    (path ≡ Some p.target) × AllPass s (looks_at p) × (refusal_of s (Stat p.target) ≡ None)
    × (kind ≡ (file_at s p.target).kind)
LookStops s p SpecialSource path =
    (path ≡ Some p.source) × AllPass s (looks_at p) × (refusal_of s (Stat p.target) ≡ Some refused.Missing)
    × ((file_at s p.source).kind ≢ File)
LookStops s p Memory path = path ≡ None
LookStops s p TooDeep path = ⊥
LookStops s p (Unnamed count) path = ⊥
LookStops s p PartTaken path = ⊥
LookStops s p TooLong path = ⊥
LookStops s p (Changed said got) path = ⊥

-- what stands at a target, or that it is missing
abbrev pub IsThere : FileSystem → Route → Option Meta → Type 0
IsThere s target None = refusal_of s (Stat target) ≡ Some refused.Missing
IsThere s target (Some meta) = (refusal_of s (Stat target) ≡ None) × IsMeta s target meta

-- a file has at most 2^63 bytes, and a mode twelve bits
pub record HasRange (facts : SourceFacts) : Type 0 where
  pub mode : facts.mode ≤ 0o7777
  pub size : facts.size ≤ 2 ^ 63

-- no look is a trouble, and this stands at source and target
pub record AreSeen (s : FileSystem) (p : Places) (seen : Seen) : Type 0 where
  pub passes : AllPass s (looks_at p)
  pub source : refusal_of s (Stat p.source) ≡ None
  pub is : IsMeta s p.source seen.source
  pub there : IsThere s p.target seen.target

-- what is said of a file
abbrev pub facts_in : Meta → SourceFacts
facts_in source = record { size = source.size; mode = source.mode }

-- what the look at the source comes to
abbrev pub FactsSeen : Places → Meta → Result SourceFacts Trouble → Type 0
FactsSeen p source (Ok facts) = (source.kind ≡ File) × (facts ≡ facts_in source)
FactsSeen p source (Err trouble) = (source.kind ≢ File) × IsTroubleWithPath SpecialSource p.source trouble

-- what the looks at source and target come to, where nothing may stand at the target
abbrev pub Judges : Places → Meta → Option Meta → Result SourceFacts Trouble → Type 0
Judges p source (Some target) (Ok facts) = ⊥
Judges p source (Some target) (Err trouble) = IsTroubleWithPath (TargetKind target.kind) p.target trouble
Judges p source None result = FactsSeen p source result
