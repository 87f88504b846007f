mod LaneRowLemmas
