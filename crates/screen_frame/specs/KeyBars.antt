-- The key bars: the ten function keys, each with its number and what it does. The labels are
-- those of Midnight Commander.
use Rattle.std.specs.Prelude.{ℕ, ◌+◌, List, [], ◌∷◌, ◌++◌, codes}
use Rattle.std.specs.Fmt.{decimal}
use Rattle.mc_text.specs.Fit.{fitted_text}
use Rattle.screen_frame.specs.declared.key_bar.KeyBar.{KeyBar}
use Rattle.screen_frame.specs.declared.key_bar.KeyBar.TheVariants.{Panels, Viewer, Editor}

-- the labels of the keys from F1 to F10
abbrev pub labels_of : KeyBar → List (List ℕ)
labels_of Panels =
    codes "Help" ∷ codes "Menu" ∷ codes "View" ∷ codes "Edit" ∷ codes "Copy"
    ∷ codes "RenMov" ∷ codes "Mkdir" ∷ codes "Delete" ∷ codes "PullDn" ∷ codes "Quit" ∷ []
labels_of Viewer =
    codes "Help" ∷ codes "Wrap" ∷ codes "Quit" ∷ codes "Hex" ∷ codes "Goto"
    ∷ [] ∷ codes "Search" ∷ [] ∷ [] ∷ codes "Quit" ∷ []
labels_of Editor =
    codes "Help" ∷ codes "Save" ∷ codes "Mark" ∷ codes "Replac" ∷ codes "Copy"
    ∷ codes "Move" ∷ codes "Search" ∷ codes "Delete" ∷ [] ∷ codes "Quit" ∷ []

-- keys from this number on, each with its label fitted to 6 columns, without gaps
abbrev pub labelled_keys : ℕ → List (List ℕ) → List ℕ
labelled_keys key [] = []
labelled_keys key (label ∷ labels) = decimal key ++ fitted_text label 6 ++ labelled_keys (key + 1) labels

-- a whole key bar
unfoldable pub bar_text : KeyBar → List ℕ
bar_text bar = labelled_keys 1 (labels_of bar)
