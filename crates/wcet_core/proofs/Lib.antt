pub mod AgreementLemmas
pub mod RefusalLemmas
pub mod ReportLemmas
