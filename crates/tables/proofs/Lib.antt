pub mod AscendingFacts
pub mod RefusalFacts
