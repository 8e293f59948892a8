-- What the contracts of this crate say.
pub mod InputLines
pub mod KtutilCommand
pub mod KtutilPlan
pub mod KtutilTalk
