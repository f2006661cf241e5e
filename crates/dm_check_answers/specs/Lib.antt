-- What answers are judged by, and what stands before them.
pub mod Judging
-- What answers claim of the rows at an entry, and what was found of claims.
pub mod Claims
