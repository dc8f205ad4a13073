-- Racy accesses, verdicts and partners; the demands over recordings; a plain search that decides them; document 01's examples
pub mod Verdict
pub mod Demands
pub mod Search
pub mod Examples
