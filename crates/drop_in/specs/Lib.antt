pub mod calls
pub mod inside
