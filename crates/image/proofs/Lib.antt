pub mod ChoosingLaws
pub mod FoundLaws
