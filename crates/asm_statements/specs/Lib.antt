pub mod Directives
pub mod Expressions
pub mod Fits
pub mod TokenKinds
pub mod SourceLines
pub mod Operands
pub mod Scanning
pub mod Tokens
