pub mod TripleLaws
