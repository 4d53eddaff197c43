pub mod StepLaws
pub mod TourLaws
