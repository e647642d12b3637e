mod LineExamples
pub mod ExpressionLemmas
pub mod FitLemmas
pub mod LineLemmas
pub mod OperandLemmas
pub mod ScanLemmas
