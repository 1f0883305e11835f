pub mod Powers
pub mod Windows
pub mod Lowered
pub mod Spending
pub mod Courses
pub mod Signed
