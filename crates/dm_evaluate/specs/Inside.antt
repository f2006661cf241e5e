-- Two paths of which the second has one decision more, and states of loops. Who believes what an evaluator promises need not
-- read them.
pub mod Moves
pub mod Places
pub mod Starting
pub mod Violations
pub mod Marking
