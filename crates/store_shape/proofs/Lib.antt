pub mod ShapeWork
pub mod Theorems
