-- What a waiting rule keeps: its order of the free changes, its rows and its choices.
pub mod Kinds
pub mod Rules
pub mod Laws
-- A rule set beside a plan.
pub mod Compared
-- States of loops: checked, and not to be believed.
pub mod Inside
