pub mod AnswerLaws
pub mod CompleteLaws
pub mod ReplyLemmas
pub mod OutputLemmas
pub mod SoundLaws
