pub mod ArithmeticLaws
mod EvaluationSamples
mod CallSamples
mod TypedSamples
mod ExecutionSamples
pub mod LinkLaws
pub mod OperandLaws
mod Sample
pub mod ProgressLaws
pub mod DepthLaws
pub mod RunLaws
pub mod SpanLaws
