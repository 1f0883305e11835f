pub mod Faults
pub mod Reports
pub mod Courses
pub mod Work
pub mod Ranked
pub mod Laws
pub mod Texts
