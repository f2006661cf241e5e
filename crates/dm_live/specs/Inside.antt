-- Marks of events that are brought to their places in the order.
pub mod Placing
-- An order that is brought to hold what constraints hold.
pub mod Aligning
-- Activities that an order takes up.
pub mod Taking
