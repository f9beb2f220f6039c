-- A copy that can make a step can make a last one.
use Rattle.std.proofs.Common.{◌≡◌, refl, true}
use Rattle.copy_file.specs.declared.stage.FolderState.{FolderState}
use Rattle.copy_link.specs.LinkCopying.{is_ready, is_removable}
use Rattle.copy_link.specs.declared.stage.Stage.{Stage}
use Rattle.copy_link.specs.declared.stage.Stage.TheVariants.{Make, Place, Clean, Left, Again, Decided}
use Rattle.copy_tree.specs.declared.item.ItemAtWork.{ItemAtWork}
use Rattle.copy_tree.specs.declared.item.ItemAtWork.TheVariants.{Next, File, Link, Stays}
use Rattle.copy_tree.specs.declared.progress.Progress.TheVariants.{UnderWay}
use Rattle.copy_tree.specs.Ending.{IsWindable}
use Rattle.copy_tree.specs.Progress.{link_progress}
use Rattle.copy_tree.specs.TreeCopySteps.{IsWorkable}

removable : (stage : Stage) (folder : FolderState) → link_progress stage ≡ UnderWay → is_ready stage folder ≡ true → is_removable stage ≡ true
removable Place folder is ready = refl
removable (Clean follows) folder is ready = refl
removable Left folder is ready = absurd (let f : ⊥ = cc in f)
removable Make folder is ready = absurd (let f : ⊥ = cc in f)
removable Again folder is ready = absurd (let f : ⊥ = cc in f)
removable Decided folder is ready = absurd (let f : ⊥ = cc in f)

pub windable : (item : ItemAtWork) → IsWorkable item → IsWindable item
windable Next w = tt
windable (File f) w = w
windable (Link l) w = removable l.stage l.folder w.0 w.1
windable (Stays part) w = absurd w
