-- What a follower keeps of the bytes that it has taken. Who believes what it promises need not read it.
pub mod Reading
pub mod Moving
