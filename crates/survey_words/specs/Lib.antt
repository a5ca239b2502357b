pub mod Numbers
pub mod Shapes
pub mod Items
pub mod Read
pub mod Parsed
pub mod Commands
