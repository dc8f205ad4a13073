-- Only the latest access matters; the search finds the partner; the demands over recordings; the examples
pub mod Latest
pub mod Search
pub mod Demands
pub mod Examples
