-- Lemmas on pipes.
pub mod ConvertPipes
pub mod LinesBack
pub mod PipeLaws
pub mod Placing
pub mod RunsBack
pub mod SweepBack
