-- What an order is, which activities it holds at first and after a change, and why rows have none.
pub mod Value
pub mod Orders
pub mod Refuse
-- States of loops and of moves: checked, and not to be believed.
pub mod Inside
