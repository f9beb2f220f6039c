mod ColumnLemmas
pub mod UnitLemmas
