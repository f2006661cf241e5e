-- States of loops and of the sweep. Who believes what a sweep promises need not read them.
pub mod Sweep
