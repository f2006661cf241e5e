-- States of rounds, of times that are noted as moved, and of weights that are made right.
pub mod Bound
pub mod Rising
pub mod Spreading
pub mod Renewing
pub mod Agreeing
pub mod Pricing
pub mod Beginning
