mod FoundLemmas
mod PassLemmas
mod StraightLaws
pub mod TypedForms
mod WalkLemmas
