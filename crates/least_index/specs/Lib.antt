pub mod Dictionary
pub mod Rule
pub mod Laws
