-- Graphs of which no bit is set.
use Rattle.std.proofs.Common.{◌≡◌, ◌*◌, ◌+◌, sym, ap, subst, ℕ, List, arith, length, get_or, replicate, inl, inr}
use Rattle.std.specs.Int.{bit_at}
use Rattle.std.proofs.lemmas.Bool.{cases_lt}
use Rattle.std.proofs.lemmas.List.{get_or-replicate, get_or_past, length-replicate}
use Rattle.std.proofs.lemmas.Nat.Bits.{bit_at-zero}
use Rattle.common_graph.specs.Graph.{GraphOf, LeadsTo}

pub zero_at : (count place : ℕ) → ◌≡◌ {A = ℕ} (get_or (replicate count 0) place 0) 0
zero_at count place = elim (cases_lt place count) [
  | inl low ↦ get_or-replicate count place 0 0 low
  | inr past ↦ (let size = length-replicate {A = ℕ} count 0 in get_or_past (replicate count 0) place 0 (omega arith))
]

-- none leads to another
pub none_lead : (graph : GraphOf) (count : ℕ) → graph.words ≡ replicate count 0 → (one other : ℕ) → LeadsTo graph one other → ⊥
none_lead graph count is one other step =
    let word : get_or graph.words (one * graph.wide + step.part) 0 ≡ 0 = subst (λ (words : List ℕ). get_or words (one * graph.wide + step.part) 0 ≡ 0) (sym is) (zero_at count (one * graph.wide + step.part)) in
    let has = ap (λ (n : ℕ). bit_at n step.bit) (sym word) in
    let one_bit = step.has in
    let none = bit_at-zero step.bit in
    omega arith
