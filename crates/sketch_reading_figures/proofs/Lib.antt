pub mod FigureLoops
pub mod FigureBounds
pub mod EstimateCases
