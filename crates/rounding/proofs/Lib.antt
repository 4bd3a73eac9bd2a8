pub mod ProductLaws
pub mod StateLaws
pub mod DivisionLaws
pub mod CallLaws
pub mod Vectors
pub mod CauseTheorems
