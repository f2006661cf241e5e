-- Plans of windows, which choices are held, which are kept where others are given back, plans that are carried over, and what holds of
-- plans of windows.
pub mod Windows
pub mod Held
pub mod Minimal
pub mod Rebasing
pub mod Laws
-- States of loops: checked, and not to be believed.
pub mod Inside
