pub mod BoxKeys
pub mod PathLines
pub mod Things
pub mod BoxLines
pub mod Causes
pub mod RefusalWords
pub mod Chosen
