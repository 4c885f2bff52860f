-- What calls do, as contracts say it.
pub mod Listing
pub mod Order
