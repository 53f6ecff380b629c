pub mod Accepted
pub mod Sound
pub mod Report
pub mod Answer
pub mod Rejections
pub mod Reply
pub mod Top
