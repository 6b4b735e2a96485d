-- The line of a quarter's figures.
pub mod FigureText
