-- What comes of the path to which a name leads comes of the name.
use Rattle.std.proofs.Common.{◌≡◌, ℕ, List, Option, Result, Ok, Err, IfOk}
use Rattle.mc_text.specs.Routes.{Route}
use Rattle.tree_trait.specs.Change.{CallLog}
use Rattle.ui_viewer.specs.declared.opening.Opening.{Opening}
use Rattle.ui_viewer.specs.declared.opening.Opening.TheVariants.{Viewed, NoWay, Unread}
use Rattle.ui_viewer.specs.Openings.{LeadsTo, OpensPath, OpensThing}

pub opened_along : {E : Type 0} (contents : Option CallLog) (folder : Route) (name : List ℕ) (path : Route) (lines columns : ℕ)
    (r : Result Opening E) → LeadsTo contents folder name path → IfOk r (OpensPath contents path lines columns)
    → IfOk r (OpensThing contents folder name lines columns)
opened_along contents folder name path lines columns (Ok (Viewed mode)) leads opens = (path, leads, opens)
opened_along contents folder name path lines columns (Ok (NoWay why)) leads opens = absurd opens
opened_along contents folder name path lines columns (Ok (Unread at why)) leads opens = (path, leads, opens)
opened_along contents folder name path lines columns (Err e) leads opens = tt
