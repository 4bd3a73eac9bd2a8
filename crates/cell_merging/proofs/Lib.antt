pub mod MergeLoops
pub mod MergeCases
pub mod MergeCalls
