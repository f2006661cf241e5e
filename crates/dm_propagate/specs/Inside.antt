-- States of loops. Who believes what an engine promises need not read them.
pub mod Beginning
pub mod Setting
-- What a change concerns, and what is held and marked while it is made.
pub mod Concern
pub mod Turning
pub mod Changing
pub mod Raising
pub mod Altering
pub mod Flags
pub mod Noting
