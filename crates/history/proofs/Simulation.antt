pub mod Relation
pub mod Loading
pub mod Working
pub mod Commits
pub mod Landing
pub mod Answering
pub mod Steps
