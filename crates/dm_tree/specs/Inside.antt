-- States of loops. Who believes what trees promise need not read them.
pub mod Filling
pub mod Assembling
