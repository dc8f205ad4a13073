pub mod Admits
