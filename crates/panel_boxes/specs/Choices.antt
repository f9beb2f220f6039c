-- What may be set in the list of options, and what its rows say (mc(1), "Menu Bar": "Left and Right Menus";
-- "Options Menu": shell patterns). Own: they are one list, of the current panel.
use Rattle.std.specs.Prelude.{ℕ, List, [], ◌∷◌, codes}
use Rattle.panel_listing.specs.declared.wish.Order.{Order}
use Rattle.panel_listing.specs.declared.wish.Order.TheVariants.{Name, Extension, Size, Time, Unsorted}
use Rattle.panel_boxes.specs.declared.options.PanelOption.{PanelOption}
use Rattle.panel_boxes.specs.declared.options.PanelOption.TheVariants.{ListFull, ListBrief, ListUser, SortBy}
use Rattle.panel_boxes.specs.declared.options.PanelOption.TheVariants.{Reverse, Filter, ShellPatterns}

-- all of them, in the order of the list
abbrev pub all_options : List PanelOption
all_options =
    ListFull ∷ ListBrief ∷ ListUser
    ∷ SortBy Name ∷ SortBy Extension ∷ SortBy Size ∷ SortBy Time ∷ SortBy Unsorted
    ∷ Reverse ∷ Filter ∷ ShellPatterns ∷ []

abbrev pub order_words : Order → List ℕ
order_words Name = codes "Sort name"
order_words Extension = codes "Sort extension"
order_words Size = codes "Sort size"
order_words Time = codes "Sort time"
order_words Unsorted = codes "Unsorted"

-- what the row of an option says
abbrev pub option_words : PanelOption → List ℕ
option_words ListFull = codes "Listing full"
option_words ListBrief = codes "Listing brief"
option_words ListUser = codes "Listing user"
option_words (SortBy order) = order_words order
option_words Reverse = codes "Reverse"
option_words Filter = codes "Filter"
option_words ShellPatterns = codes "Shell patterns"
