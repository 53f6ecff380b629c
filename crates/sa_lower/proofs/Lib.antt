pub mod Lists
pub mod RowLaws
pub mod OccurringLaws
pub mod ShownLaws
pub mod Counts
pub mod ArgumentLaws
pub mod KeptLaws
pub mod FrameLaws
