pub mod CutLemmas
pub mod DigitLemmas
pub mod RowLemmas
pub mod StepLemmas
