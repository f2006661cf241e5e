-- States of loops and stages: checked, and not to be believed. What a true plan by parts is stands in dm_parts.
pub mod Inside
