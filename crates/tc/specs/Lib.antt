pub mod Judgements
pub mod Families
pub mod Piles
pub mod PilesLemmas
