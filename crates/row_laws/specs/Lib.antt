pub mod Rows
pub mod Padded
pub mod Items
pub mod Laws
