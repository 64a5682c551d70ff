pub mod Environment
pub mod Tagged
pub mod Types
pub mod Named
pub mod OnTheWay
