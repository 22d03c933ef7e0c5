pub mod Nested
pub mod Steps
pub mod Lower
pub mod OnForms
pub mod Ordered
pub mod Sound
pub mod Gaps
