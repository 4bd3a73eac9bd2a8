pub mod DividingLaws
pub mod InsertionCases
pub mod InsertionCalls
