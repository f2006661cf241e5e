-- Evaluators that parts are found by. What a true plan by parts is stands in dm_parts.
pub mod Evaluators
