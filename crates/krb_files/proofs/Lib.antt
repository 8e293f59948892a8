pub mod Cited
pub mod PlanLaws
pub mod Prefixes
pub mod FileLists
pub mod Reading
