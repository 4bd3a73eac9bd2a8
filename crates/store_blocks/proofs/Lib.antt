pub mod BlockLaws
pub mod ChainLaws
pub mod BlockLoops
pub mod BlockWork
pub mod ChainLoops
pub mod ChunkLaws
