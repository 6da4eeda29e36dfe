-- How the entries flow, and what is known of a sync request: the proof of Coverage.
pub mod Lists
pub mod Flow
pub mod Known
pub mod Steps
pub mod Whole
pub mod Save
