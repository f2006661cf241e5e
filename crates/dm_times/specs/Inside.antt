-- States of loops. Who believes what a least timetable promises need not read them.
pub mod Filling
