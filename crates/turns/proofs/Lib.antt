pub mod OneTurn
