pub mod Newest
pub mod Selection
pub mod Tickets
pub mod GoingOn
pub mod Ranks
pub mod Findings
pub mod CheckUp
pub mod Report
pub mod Tally
pub mod Laws
-- For private contracts alone.
pub mod Names
pub mod Rows
pub mod ByName
pub mod Standings
pub mod Versions
pub mod Before
