pub mod Places
pub mod Beside
pub mod Optimal
pub mod Carrying
pub mod Holding
pub mod GivenBack
pub mod HeldLists
