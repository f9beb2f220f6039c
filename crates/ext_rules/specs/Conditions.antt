-- Which things meet a rule's condition (mc(1), "Extension File Edit"; that a name's end is given by a text
-- that begins with a dot is own).
use Rattle.std.specs.Prelude.{ℕ, Bool, true, false, nat_eq, List, map}
use Rattle.std.specs.List.{ends_with}
use Rattle.std.specs.Str.{bytes_eq}
use Rattle.std.specs.Char.{to_ascii_lowercase}
use Rattle.mc_text.specs.declared.kind.Kind.{Kind}
use Rattle.mc_text.specs.declared.kind.Kind.TheVariants.{File, Folder, Link, Other}
use Rattle.tagging.specs.Patterns.{is_found}
use Rattle.ext_rules.specs.declared.condition.Case.{Case}
use Rattle.ext_rules.specs.declared.condition.Case.TheVariants.{Sensitive, Insensitive}
use Rattle.ext_rules.specs.declared.condition.Condition.{Condition}
use Rattle.ext_rules.specs.declared.condition.Condition.TheVariants.{EndsWith, IsName, FoundInName}
use Rattle.ext_rules.specs.declared.condition.Condition.TheVariants.{FoundInFolder, Nothing}
use Rattle.ext_rules.specs.declared.condition.Condition.TheVariants.{Included, Everything}

-- a text as it is compared
abbrev pub folded_text : Case → List ℕ → List ℕ
folded_text Sensitive text = text
folded_text Insensitive text = map to_ascii_lowercase text

-- a thing that is no folder
abbrev pub fits_file : Condition → List ℕ → Bool
fits_file (EndsWith case text) name = ends_with nat_eq (folded_text case name) (folded_text case text)
fits_file (IsName case text) name = bytes_eq (folded_text case name) (folded_text case text)
fits_file (FoundInName pattern) name = is_found pattern name
fits_file (FoundInFolder pattern) name = false
fits_file Nothing name = false
fits_file (Included rule) name = false
fits_file Everything name = true

-- a folder
abbrev pub fits_folder : Condition → List ℕ → Bool
fits_folder (EndsWith case text) name = false
fits_folder (IsName case text) name = false
fits_folder (FoundInName pattern) name = false
fits_folder (FoundInFolder pattern) name = is_found pattern name
fits_folder Nothing name = false
fits_folder (Included rule) name = false
fits_folder Everything name = true

abbrev pub is_met : Condition → Kind → List ℕ → Bool
is_met condition File name = fits_file condition name
is_met condition Folder name = fits_folder condition name
is_met condition Link name = fits_file condition name
is_met condition Other name = fits_file condition name

-- the condition of the included rule of a name
abbrev pub is_included : List ℕ → Condition → Bool
is_included name (EndsWith case text) = false
is_included name (IsName case text) = false
is_included name (FoundInName pattern) = false
is_included name (FoundInFolder pattern) = false
is_included name Nothing = false
is_included name (Included rule) = bytes_eq rule name
is_included name Everything = false
