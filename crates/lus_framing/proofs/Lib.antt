pub mod FrameLaws
pub mod ReadBack
