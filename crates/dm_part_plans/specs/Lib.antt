-- What a true plan by parts is stands in dm_parts. Here is how many terms a cost has, and, inside, states of loops.
pub mod Terms
pub mod Inside
