pub mod StepLaws
pub mod AllocateLaws
pub mod Named
