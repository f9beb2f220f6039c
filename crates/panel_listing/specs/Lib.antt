pub mod Items
pub mod Orders
pub mod Arranging
pub mod Listings
pub mod FormatTexts
pub mod Words
pub mod Layouts
pub mod RowTexts
