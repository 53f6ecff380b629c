pub mod Alarms
pub mod Operators
pub mod OperatorLaws
