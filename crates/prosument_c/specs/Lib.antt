pub mod Files
pub mod Reports
