-- What binds between the events of a network, by plain lists, and from which times rounds may begin.
pub mod Binding
-- Times that were least before what binds has changed.
pub mod Following
-- Times that change, and which are noted as moved.
pub mod Noting
-- The least timetable of rows, as these change.
pub mod Timetables
-- The changes of a network, by place.
pub mod Changes
-- What a timetable costs, kept while its times and the rows change.
pub mod KeptCosts
-- How far a round has come: checked, and not to be believed.
pub mod Inside
