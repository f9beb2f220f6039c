-- What a row shows (own, after mc(1), "Listing format": user). Bytes: blank 32, `!` 33, `*` 42, `/` 47, `?`
-- 63, `@` 64, bar 124, `~` 126.
use Rattle.std.specs.Prelude.{ℕ, ◌-◌, Bool, false, ◌==◌, if◌then◌else◌, List, [], ◌∷◌, ◌++◌}
use Rattle.std.specs.Prelude.{length, map, take, drop, codes, Option, Some, None, bit_and}
use Rattle.std.specs.FinSet as set
use Rattle.mc_text.specs.declared.kind.Kind.{Kind}
use Rattle.mc_text.specs.declared.kind.Kind.TheVariants.{File, Folder, Link, Other}
use Rattle.mc_text.specs.Drawn.{drawn_text}
use Rattle.mc_text.specs.Fit.{fitted_text, blanks}
use Rattle.mc_text.specs.Permissions.{perm_text}
use Rattle.mc_text.specs.Sizes.{size_text}
use Rattle.mc_text.specs.Times.{time_text}
use Rattle.tree_trait.specs.Refusals.{folder_kind}
use Rattle.tagging.specs.TagSets.{TagSet}
use Rattle.panel_listing.specs.FormatTexts.{RowFormat}
use Rattle.panel_listing.specs.Layouts.{cells_in, clipped_text}
use Rattle.panel_listing.specs.Listings.{Listed, rows_in}
use Rattle.panel_listing.specs.declared.format.Field.{Field}
use Rattle.panel_listing.specs.declared.format.Field.TheVariants.{Name, Size, FileSize, TypeLetter}
use Rattle.panel_listing.specs.declared.format.Field.TheVariants.{Mtime, Permissions, Mark, Space, Bar}
use Rattle.panel_listing.specs.declared.item.LinkKind.{LinkKind}
use Rattle.panel_listing.specs.declared.item.LinkKind.TheVariants.{NotLink, ToFolder, ToThing, Stale}
use Rattle.panel_listing.specs.declared.item.Item.{Item}
use Rattle.panel_listing.specs.declared.layout.Cell.{Cell}
use Rattle.panel_listing.specs.declared.painting.Window.{Window}

-- ---- what the fields say of an item, or of `..`

-- a link by where it leads
abbrev pub link_letter : LinkKind → ℕ
link_letter NotLink = 64
link_letter ToFolder = 126
link_letter ToThing = 64
link_letter Stale = 33

-- a thing by its kind; a file that somebody may run has a star
abbrev pub type_letter : Kind → LinkKind → ℕ → ℕ
type_letter File link mode = if bit_and mode 0o111 == 0 then 32 else 42
type_letter Folder link mode = 47
type_letter Link link mode = link_letter link
type_letter Other link mode = 63

abbrev pub name_told : Option Item → List ℕ
name_told None = codes ".."
name_told (Some item) = item.name

abbrev pub type_told : Option Item → List ℕ
type_told None = 47 ∷ []
type_told (Some item) = type_letter item.kind item.link item.mode ∷ []

abbrev pub size_told : ℕ → Option Item → List ℕ
size_told width None = codes "UP--DIR"
size_told width (Some item) = size_text item.size width

abbrev pub file_size_told : ℕ → Option Item → List ℕ
file_size_told width None = codes "UP--DIR"
file_size_told width (Some item) =
    if folder_kind item.kind then codes "SUB-DIR" else size_text item.size width

abbrev pub mtime_told : ℕ → Option Item → List ℕ
mtime_told now None = []
mtime_told now (Some item) = time_text item.mtime now

abbrev pub permissions_told : Option Item → List ℕ
permissions_told None = []
permissions_told (Some item) = perm_text item.kind item.mode

-- a text at the right of its place
abbrev pub at_right : ℕ → List ℕ → List ℕ
at_right width text = blanks (width - length text) ++ text

-- what a field shows in so many columns, at this second
abbrev pub field_text : Field → ℕ → ℕ → Bool → Option Item → List ℕ
field_text Name width now tagged item = drawn_text (name_told item)
field_text Size width now tagged item = at_right width (size_told width item)
field_text FileSize width now tagged item = at_right width (file_size_told width item)
field_text TypeLetter width now tagged item = type_told item
field_text Mtime width now tagged item = mtime_told now item
field_text Permissions width now tagged item = permissions_told item
field_text Mark width now tagged item = if tagged then 42 ∷ [] else []
field_text Space width now tagged item = []
field_text Bar width now tagged item = 124 ∷ []

-- ---- rows

-- the cells of a row side by side, each filled or cut to its width
abbrev pub cells_text : ℕ → Bool → Option Item → List Cell → List ℕ
cells_text now tagged item [] = []
cells_text now tagged item (cell ∷ cells) =
    fitted_text (field_text cell.field cell.width now tagged item) cell.width
    ++ cells_text now tagged item cells

-- an item is tagged; `..` never is
abbrev pub is_tagged : TagSet → Option Item → Bool
is_tagged tags None = false
is_tagged tags (Some item) = set.contains tags item.name

-- the row of an item
abbrev pub row_text : Window → TagSet → List Cell → Option Item → List ℕ
row_text window tags cells item =
    clipped_text (cells_text window.now (is_tagged tags item) item cells) window.columns

-- the rows that a window shows of a listing
abbrev pub rows_text : Listed → TagSet → RowFormat → Window → List (List ℕ)
rows_text listing tags format window =
    map (row_text window tags (cells_in window.columns format.columns))
    (take window.count (drop window.first (rows_in listing)))

-- ---- the heading

abbrev pub label : Field → List ℕ
label Name = codes "Name"
label Size = codes "Size"
label FileSize = codes "Size"
label TypeLetter = []
label Mtime = codes "Modify time"
label Permissions = codes "Permission"
label Mark = []
label Space = []
label Bar = 124 ∷ []

abbrev pub labels_text : List Cell → List ℕ
labels_text [] = []
labels_text (cell ∷ cells) = fitted_text (label cell.field) cell.width ++ labels_text cells

abbrev pub heading_text : RowFormat → ℕ → List ℕ
heading_text format columns = clipped_text (labels_text (cells_in columns format.columns)) columns
