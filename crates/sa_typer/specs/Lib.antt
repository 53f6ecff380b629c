pub mod Statements
pub mod Bodies
pub mod Units
pub mod RefusalLaws
pub mod Answers
