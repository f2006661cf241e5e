-- What the stages of the start rows pass on to each other. Who believes what the rows mean need not read it.
pub mod Delays
pub mod Standings
