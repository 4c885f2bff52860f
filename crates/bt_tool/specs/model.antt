-- What one has to believe: the definitions that the report names.
pub mod Behaviour
pub mod Fraction
pub mod Options
pub mod Reaches
pub mod Report
pub mod Table
pub mod TwoInputs
pub mod Usage
pub mod Written
