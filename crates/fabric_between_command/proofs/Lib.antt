mod EndLemmas
mod LineLemmas
