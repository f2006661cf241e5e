-- States of loops, of flags and of lists that are moved. Who believes what an order promises need not read them.
pub mod Flagging
pub mod Placing
pub mod Reaching
pub mod Shifting
