pub mod AgreementLemmas
pub mod FlowLemmas
pub mod GraphLemmas
pub mod PartLemmas
