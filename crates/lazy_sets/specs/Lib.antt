pub mod AsLazy
