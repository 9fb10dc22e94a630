-- What rulings, sites and reads mean.
pub mod Rulings
pub mod Rows
pub mod Sites
pub mod Replies
