-- What the invariant says of simple sessions: one live job of one file, and jobs that all delete.
use Rattle.std.specs.Prelude.{◌≡◌, ◌≢◌, ◌⊎◌, ℕ, true, false, [], ◌∷◌, Option, None}
use Rattle.mc_text.specs.Routes.{Route}
use Rattle.tree_trait.specs.declared.file_system.FileSystem.{FileSystem}
use Rattle.tree_trait.specs.FileSystem.{find, value_at}
use Rattle.tree_trait.specs.Change.{CallLog, current}
use Rattle.laws_crash.specs.Possible.{IsImage}
use Rattle.laws_crash.specs.Guarded.{Marks, IsGuarded, IsSettledAt, Holds}
use Rattle.laws_crash.specs.Table.{Live, IsTable}

-- Where one job is live, and nothing is in doubt, and the job has changed at most one path: each other path
-- holds what it held as the job began, parts aside, and that one what it held then or what it holds now.
abbrev pub PlainLaw : Type 0
PlainLaw = (job : Live) (marks : Marks) (log : CallLog) (image : FileSystem) (target : Route)
    → IsTable (job ∷ []) (λ p. false) marks log
    → ((p : Route) → p ≢ target → find (current log) p ≡ job.start p) → job.writes target ≡ true
    → IsImage log image
    → ((p : Route) → marks.aside p ≡ false → p ≢ target
    → Holds marks (current log) (value_at image p) (job.start p))
    × (marks.aside target ≡ false → Holds marks (current log) (value_at image target)
    (find (current log) target) ⊎ Holds marks (current log) (value_at image target) (job.start target))

-- Where no job is live, and nothing is in doubt, a crash leaves the tree as it reads.
abbrev pub IdleLaw : Type 0
IdleLaw = (marks : Marks) (log : CallLog) (image : FileSystem) (p : Route) → IsTable [] (λ p. false) marks log
    → IsImage log image → marks.aside p ≡ false
    → Holds marks (current log) (value_at image p) (find (current log) p)

-- Where paths only ever lose what stood there, each is whole or gone, in doubt too; and what is
-- settled and gone stays gone.
abbrev pub DeletionLaw : Type 0
DeletionLaw = (opening : Route → Option ℕ) (marks : Marks) (log : CallLog) (image : FileSystem) (p : Route)
    → IsGuarded marks log → IsImage log image → marks.aside p ≡ false
    → (find (current log) p ≡ opening p) ⊎ (find (current log) p ≡ None)
    → (marks.was p ≡ opening p) ⊎ (marks.was p ≡ None)
    → (Holds marks (current log) (value_at image p) (opening p) ⊎ (value_at image p ≡ None))
    × (IsSettledAt log p → find (current log) p ≡ None → value_at image p ≡ None)
