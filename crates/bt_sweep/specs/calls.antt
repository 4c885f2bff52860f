-- What calls do, as contracts say it.
pub mod Held
pub mod HeldIndex
pub mod HeldList
pub mod Sweeping
pub mod SweepView
pub mod LineLaws
