pub mod Errors
pub mod Resolution
pub mod Places
pub mod Homes
