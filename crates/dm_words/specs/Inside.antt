-- States of loops. Who believes what words ask for need not read them.
pub mod Pieces
