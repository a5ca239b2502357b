pub mod SummaryLemmas
pub mod RunLemmas
pub mod SampleLemmas
pub mod SamplingLemmas
