-- Laws of the definitions, which a reader of the contracts need not read: what each test and each question tells, and from which facts it holds.
pub mod Which
pub mod Superblocks
pub mod Other
