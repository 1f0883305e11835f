pub mod Rows
pub mod LengthLemmas
pub mod Entering
pub mod SpanLemmas
pub mod DoubtLemmas
pub mod LeadLemmas
pub mod GreatestLemmas
