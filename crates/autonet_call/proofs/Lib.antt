pub mod WordLemmas
pub mod StopLemmas
pub mod AllToldLemmas
pub mod SaidLemmas
