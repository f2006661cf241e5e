-- Claims about rows: what may be said of them, and when it is true.
pub mod Claims
-- States of loops: checked, and not to be believed.
pub mod Inside
