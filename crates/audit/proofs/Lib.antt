pub mod SurveyLaws
pub mod CheckLaws
pub mod Telling
pub mod Promises
pub mod Named
