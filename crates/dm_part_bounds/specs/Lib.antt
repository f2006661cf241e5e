-- What true parts and true plans by parts show.
pub mod OnePart
pub mod Laws
