pub mod FormLaws
pub mod TypeLaws
pub mod ListLaws
pub mod StoreLaws
pub mod FixedLaws
pub mod ChangeLaws
