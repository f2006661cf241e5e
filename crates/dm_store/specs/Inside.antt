-- Stages of the journal's own calls. Who believes what a journal promises need not read it.
pub mod Stages
