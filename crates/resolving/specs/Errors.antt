-- What an answer may be besides that of the definition, and which error the tree's refusal becomes.
use Rattle.std.specs.Prelude.{◌≡◌, ℕ, Result, Ok, Err, ⊤}
use Rattle.mc_text.specs.Routes.{Route}
use Rattle.tree_trait.specs.declared.calls.TreeError.{TreeError}
use Rattle.tree_trait.specs.declared.calls.TreeError.TheVariants as tree
use Rattle.tree_trait.specs.Answers.{IsCause, one_more}
use Rattle.resolving.specs.declared.error.ResolveError.{ResolveError}
use Rattle.resolving.specs.declared.error.ResolveError.TheVariants.{Tree, Fault, Memory}

-- an answer is the expected one, unless the device failed or no memory was left
abbrev pub Answers : {A : Type 0} → Result A ResolveError → Result A ResolveError → Type 0
Answers expected (Ok x) = expected ≡ Ok x
Answers expected (Err Fault) = ⊤
Answers expected (Err Memory) = ⊤
Answers expected (Err e) = expected ≡ Err e

-- what a refusal carries is a cause: no fault, and no want of memory
abbrev pub CarriesCause : ResolveError → Type 0
CarriesCause (Tree path e) = IsCause e
CarriesCause e = ⊤

-- a tree's count of faults after what was read of it: one more where a fault is told,
-- and as it was where none is
abbrev pub count_told : {A : Type 0} → ℕ → Result A ResolveError → ℕ
count_told before (Err Fault) = one_more before
count_told before answer = before

-- the error for a call that the tree refused at a path
abbrev pub refused_by : Route → TreeError → ResolveError
refused_by path tree.Fault = Fault
refused_by path tree.Memory = Memory
refused_by path e = Tree path e
