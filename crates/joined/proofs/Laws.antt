-- Laws of the tests: the walks over the writes in flight; and each test, both ways, in the words of sets and maps.
pub mod Walks
pub mod Held
pub mod Apart
