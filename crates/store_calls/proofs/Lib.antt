pub mod SaveWork
