pub mod WindowView
