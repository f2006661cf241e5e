-- States of loops, and what the stages of a build pass on to each other. Who believes what a network is need not read them.
pub mod Flat
pub mod Stages
