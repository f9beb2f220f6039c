-- What reading a folder again gives a panel (own).
use Rattle.std.specs.Prelude.{ℕ, List}
use Rattle.panel_listing.specs.Listings.{Listed}

-- what the folder held, the tags that are kept, and the row in which the cursor will stand
pub record FreshRead : Type 0 where
  pub listing : Listed
  pub tags : List (List ℕ)
  pub row : ℕ
