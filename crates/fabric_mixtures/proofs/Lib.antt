mod MixtureLemmas
mod PacketLemmas
mod RowLemmas
mod GrowLemmas
mod TurnLemmas
mod VerdictLemmas
mod ChangedLemmas
