-- Blocks in files, calls one after the other, and what a crash leaves of them.
pub mod Crash
pub mod Kept
pub mod Leaving
pub mod Moments
pub mod Reading
pub mod Sequences
pub mod Standing
pub mod Tearing
