-- What readers compute, and states of loops. Who believes what plans and runs promise need not read them.
pub mod PlanLines
pub mod SolvedLines
pub mod SolvedParts
pub mod PlanPaths
pub mod Growing
