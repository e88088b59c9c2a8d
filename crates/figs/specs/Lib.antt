pub mod Figs
