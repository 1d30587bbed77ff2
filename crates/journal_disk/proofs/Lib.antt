mod Pasts
mod Crashes
mod Tapes
mod Overwriting
pub mod MomentLemmas
pub mod Staging
pub mod Calling
pub mod Driving
