pub mod AlarmLemmas
pub mod MarkLaws
pub mod SpotLemmas
pub mod NameLemmas
pub mod InsideLemmas
pub mod ReportLemmas
