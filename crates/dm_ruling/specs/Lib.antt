-- The text of a rule beside a plan.
pub mod Texts
