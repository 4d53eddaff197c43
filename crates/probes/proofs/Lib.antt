pub mod MarkLaws
pub mod ProbeLaws
pub mod Named
