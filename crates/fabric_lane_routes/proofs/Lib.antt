pub mod HopLemmas
pub mod OneLaneLemmas
pub mod OnLemmas
