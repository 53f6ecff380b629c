pub mod TableLemmas
pub mod ToldLemmas
pub mod InputLemmas
pub mod RowLemmas
pub mod MemberLemmas
pub mod AcceptedLemmas
pub mod FileLemmas
pub mod BytesLemmas
