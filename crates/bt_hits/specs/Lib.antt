pub mod calls
pub mod inside
pub mod model
