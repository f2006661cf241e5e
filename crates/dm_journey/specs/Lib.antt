-- Which activities a passenger can use, the walks along them from stop to stop, and which journeys answer a query.
pub mod Walks
pub mod Journeys
-- States of the search for journeys: checked, so that a reader need not believe them.
pub mod Inside
