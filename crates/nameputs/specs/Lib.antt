pub mod NamePuts
pub mod Totals
