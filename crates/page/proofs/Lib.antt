mod ActionParts
mod Alone
mod Appends
mod Decisions
mod Runs
mod Fairness
