pub mod Errors
pub mod Refusals
pub mod PlanText
pub mod Summary
