-- What the calls do to a table that is held. Who believes what a server answers need not read it.
pub mod Holding
