-- Machine and disk together (crates joined, crash and store) against source 004. First the view, which a reader must believe (View, Seen); then
-- question 2 of a system both ways; that every call that is taken is the source's (up to Sound); demand 3 of the code (Equal, History);
-- that every step of the source within the limits is taken (Done to Complete); that a taken call keeps the form of the store (PartsSized to
-- Kept); that questions 1 and 2 turn away no store that came from `Init` by its own calls (Fresh to Runs); that every history of the relations
-- within the limits is one of the code (Follows), and so the example day is (Day); that a load that follows the driver
-- finishes (Names to Longest); that request S-3 changes no history (Unchanged); request S-2 of the code (Syncs).
pub mod View
pub mod Seen
pub mod Joined
pub mod Operations
pub mod Plain
pub mod Always
pub mod Loading
pub mod Working
pub mod Crashes
pub mod InPlace
pub mod Taken
pub mod Adding
pub mod Finishing
pub mod Awaiting
pub mod Reading
pub mod Writing
pub mod Sound
pub mod Numbers
pub mod Equal
pub mod History
pub mod Done
pub mod DoneBy
pub mod Deciding
pub mod Doing
pub mod Waiting
pub mod DoneAlways
pub mod DoneWorking
pub mod DoneLoading
pub mod DoneAnswers
pub mod DoneCrash
pub mod DoneAdding
pub mod DoneFinishing
pub mod DoneReading
pub mod DoneWriting
pub mod Complete
pub mod PartsSized
pub mod Sized
pub mod Lengths
pub mod DiskKept
pub mod ReadyKept
pub mod MachineKept
pub mod LoadingKept
pub mod Kept
pub mod Fresh
pub mod Within
pub mod Reach
pub mod Runs
pub mod Follows
pub mod Loads
pub mod Day
pub mod Exact
pub mod Names
pub mod NewIds
pub mod Finishes
pub mod Longest
pub mod Unchanged
pub mod Syncs
