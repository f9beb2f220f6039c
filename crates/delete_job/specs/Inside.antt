-- A walk stays in the thing that is deleted.
use Rattle.std.specs.Prelude.{◌≡◌, ⊤, true, List, [], ◌∷◌}
use Rattle.mc_text.specs.Routes.{Route, is_prefix}
use Rattle.tree_walk.specs.Places.{OpenFolder, Place}
use Rattle.delete_job.specs.declared.deletion.Depth.{Depth}
use Rattle.delete_job.specs.declared.deletion.Depth.TheVariants.{Top, Inside}
use Rattle.delete_job.specs.declared.deletion.Deletion.{Deletion}

-- each of these folders is the top, or lies in it
abbrev pub AreInside : Route → List OpenFolder → Type 0
AreInside top [] = ⊤
AreInside top (folder ∷ folders) = (is_prefix top folder.path ≡ true) × AreInside top folders

-- none is open yet, or each folder that is open is the thing that is deleted, or lies in it
abbrev pub IsInsideAt : Depth → Route → Place → Type 0
IsInsideAt Top top place = place.around ≡ []
IsInsideAt Inside top place = AreInside top (place.inner ∷ place.around)

abbrev pub IsInside : Deletion → Type 0
IsInside d = IsInsideAt d.depth d.path d.walk.place
