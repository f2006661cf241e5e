-- States of loops.
pub mod Walking
pub mod Claimed
