-- What the laws and the search speak of: arcs between events, their chains, cycles and orders, and the timetables that
-- they allow; how plain arrays give arcs; what a search has found.
pub mod Arcs
pub mod Graph
pub mod Arrays
pub mod Findings
-- What holds of the search between its steps: checked, so that a reader need not believe them.
pub mod Inside
