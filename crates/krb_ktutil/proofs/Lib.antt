pub mod Cited
pub mod InputLemmas
pub mod WordLemmas
pub mod KtutilHandles
pub mod KtutilDue
pub mod KtutilLemmas
pub mod ForAnswers
