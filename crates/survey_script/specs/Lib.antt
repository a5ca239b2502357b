pub mod ScriptViews
pub mod Hellos
pub mod Scripts
pub mod Steps
pub mod Laws
