pub mod Cursors
pub mod ReadLaws
pub mod WriteLaws
pub mod EndToEnd
