-- What a reader must believe: Ways, Nodes, Accounts, Expanding, Found, Led. What a worker has done and what is gathered: Inside.
pub mod Ways
pub mod Nodes
pub mod Accounts
pub mod Expanding
pub mod Found
pub mod Led
pub mod Inside
