-- What the readers compute. Who believes what is judged need not read it.
pub mod Parts
