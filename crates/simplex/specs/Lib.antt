pub mod Rows
pub mod Weights
pub mod Choice
pub mod Point
pub mod Equation
pub mod Results
pub mod Raise
