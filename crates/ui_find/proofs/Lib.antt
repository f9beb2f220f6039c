mod KeptLists
pub mod UnknownKeys
