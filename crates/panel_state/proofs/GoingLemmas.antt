-- A panel that was told to go to a folder, to a path, or along a text, shows it.
use Rattle.std.proofs.Common.{◌≡◌, ℕ, Bool, true, false, if◌then◌else◌, None, Result, Ok, Err, refl, sym, subst, ◌∙◌}
use Rattle.mc_text.specs.Routes.{Route, same_path}
use Rattle.tree_trait.specs.Change.{CallLog}
use Rattle.tree_trait.proofs.Visible.{same_path-true}
use Rattle.resolving.specs.declared.error.ResolveError.{ResolveError}
use Rattle.resolving.specs.declared.error.ResolveError.TheVariants.{Tree, TooManyLinks, TooLong, BadName, Fault, Memory}
use Rattle.panel_listing.specs.Listings.{Listed}
use Rattle.panel_state.specs.Panels.{PanelState}
use Rattle.panel_state.specs.Goings.{ShowsResolved}
use Rattle.panel_state.specs.Readings.{ShowsFolder, read_again, went_to, gone_to}

pub gone_folder : (page : ℕ) (folder : Route) (listing : Listed) (p : PanelState) → (gone_to page folder listing p).folder ≡ folder
gone_folder page folder listing p = go (same_path folder p.folder) refl
  where
    go : (same : Bool) → same_path folder p.folder ≡ same
        → (if same then read_again page listing p else went_to page folder listing None p).folder ≡ folder
    go true is = sym (same_path-true folder p.folder is)
    go false is = refl

-- a panel that shows its own folder shows the same one
pub shows_own : (log : CallLog) (folder named own : Route) (before : PanelState) (result : Result PanelState ResolveError)
    → named ≡ folder → true ≡ same_path named own → own ≡ before.folder → ShowsFolder log before.folder result → ShowsFolder log folder result
shows_own log folder named own before result is same shown shows =
    subst (λ (f : Route). ShowsFolder log f result) (sym (same_path-true named own (sym same) ∙ shown) ∙ is) shows

-- a folder at the end of a way is shown as any, or refused
pub shows_end : (log : CallLog) (folder : Route) (result : Result PanelState ResolveError) → ShowsFolder log folder result → ShowsResolved log (Ok folder) result
shows_end log folder (Ok p) shows = shows
shows_end log folder (Err (Tree path e)) shows = shows
shows_end log folder (Err TooManyLinks) shows = shows
shows_end log folder (Err TooLong) shows = shows
shows_end log folder (Err BadName) shows = shows
shows_end log folder (Err Fault) shows = tt
shows_end log folder (Err Memory) shows = shows
