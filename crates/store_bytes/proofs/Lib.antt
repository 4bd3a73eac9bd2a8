pub mod CopyLoops
pub mod FillLaws
pub mod NumberLaws
