pub mod UnknownKeys
