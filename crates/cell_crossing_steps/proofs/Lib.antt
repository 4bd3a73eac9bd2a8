pub mod CrossingLoops
pub mod CrossingCases
pub mod FlatLaws
