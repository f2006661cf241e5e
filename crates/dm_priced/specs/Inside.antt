-- What one event and one activity add to the sums. Who believes what a priced timetable promises need not read it.
pub mod Adding
