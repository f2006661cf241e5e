-- States of the search for journeys. Who believes what a query promises need not read them.
pub mod Reaching
pub mod Arriving
