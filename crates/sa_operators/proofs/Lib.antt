pub mod FitLaws
pub mod OperatorCovers
pub mod OperatorStays
pub mod CodeLaws
pub mod OperatorSamples
