pub mod WorkLemmas
pub mod CountLemmas
pub mod ZipLemmas
pub mod ToolLemmas
pub mod StateLemmas
