pub mod OperandRows
pub mod ExprRows
pub mod RowLaws
pub mod OperandLaws
pub mod PlaceLaws
pub mod TypeLaws
pub mod ExprLaws
