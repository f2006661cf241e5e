-- States of the search between its steps. Who believes what the search promises need not read them.
pub mod Walk
