-- What no entry stands at has no row.
use Rattle.std.proofs.Common.{◌≡◌, ℕ, ◌≤◌, List, [], length, None, refl, ap, ◌∙◌}
use Rattle.std.specs.Option.{option_map}
use Rattle.std.proofs.lemmas.Option.{slice_get_past}
use Rattle.user_menu.specs.Menus.{MenuEntry, command_text}
use Rattle.ui_menu.specs.MenuRows.{command_at, listed, title_at}

pub no-title : (menu : List MenuEntry) (place : ℕ) → length menu ≤ place → title_at menu place ≡ []
no-title menu place past = ap (λ entry. listed (option_map (λ (e : MenuEntry). e.title) entry)) (slice_get_past menu place past)

pub no-command : (menu : List MenuEntry) (place : ℕ) → length menu ≤ place → command_at menu place ≡ []
no-command menu place past = ap (λ entry. listed (option_map command_text entry)) (slice_get_past menu place past)
