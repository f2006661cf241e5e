-- What plans of either kind cost, and how they are marked.
pub mod Found
