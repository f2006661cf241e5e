-- States of loops, and of a change that is tried. Who believes what a rule promises need not read them.
pub mod Keyed
pub mod Deciding
