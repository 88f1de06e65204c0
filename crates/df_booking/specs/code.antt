pub mod Seeding
pub mod Renewal
