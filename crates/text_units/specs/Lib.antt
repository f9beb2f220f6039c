pub mod HexRows
pub mod Units
