pub mod TurnLaws
pub mod ScriptLaws
pub mod Promised
