-- The lines as they are laid, and some computed.
pub mod Texts
