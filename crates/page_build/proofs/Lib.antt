pub mod ReadingTurns
mod Rows
mod Builds
