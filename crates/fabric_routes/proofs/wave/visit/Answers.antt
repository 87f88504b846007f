use Rattle.std.proofs.Common.{◌≡◌, sym, ap, subst, ℕ, arith, inl, inr}
use Rattle.std.specs.Int.{bit_at}
use Rattle.std.proofs.lemmas.Bool.{cases_eq}
use Rattle.std.proofs.lemmas.Nat.Bits.{bit_at-zero}
use Rattle.fabric_tables.specs.Cells.{tables_of}
use Rattle.fabric_routes.proofs.TakenLemmas.{taken_as, taken_more, taken_none}
use Rattle.fabric_routes.proofs.RunLemmas.{graph_kept}
use Rattle.fabric_routes.proofs.wave.visit.Goals as goal

no_bit : (word bit : ℕ) → word ≡ 0 → bit_at word bit ≡ 1 → ⊥
no_bit word bit none is = absurd (let z = bit_at-zero bit in let e : bit_at word bit ≡ bit_at 0 bit = ap (λ (n : ℕ). bit_at n bit) none in omega arith)

abbrev But : ℕ → ℕ → ℕ → ℕ → ℕ → Type 0
But at fresh left switch other = (switch ≡ at) × (bit_at fresh other ≡ 1) × (bit_at left other ≡ 1 → ⊥)

pub bits-preserved : goal.bits-preserved
bits-preserved c =
    let at = c.args.at in
    let fresh = c.args.fresh in
    let bit = c.lowest-bit.result in
    let bits = c.without-left.ensures.bits in
    record {
      taken = taken_more c.args.fabric.now (tables_of c.args.cells.now) c.args.block (But c.args.at c.args.fresh c.bits.left) (λ switch other. (switch ≡ c.args.at) × (other ≡ c.lowest-bit.result)) (But c.args.at c.args.fresh c.without-left.result)
          (record { seen = c.args.seen.now; graph = c.args.graph.now; stopped = c.args.stopped }) (record { seen = c.bits.seen; graph = c.bits.graph; stopped = c.bits.stops }) (record { seen = c.take-stops.new.seen; graph = c.take-stops.new.graph; stopped = c.take-stops.result })
          (λ s o r. elim (cases_eq o c.lowest-bit.result) [
            | inl same ↦ inr (r.0, same)
            | inr other ↦ inl (r.0, r.1, (λ has. r.2 ((c.without-left.ensures.bits o).1 (has, other))))
          ])
          (λ s o p. (p.0, p.1, (λ has. p.2 ((c.without-left.ensures.bits o).0 has).0)))
          (λ s o q. (q.0, subst (λ (k : ℕ). bit_at c.args.fresh k ≡ 1) (sym q.1) (c.bits.invariant.had c.lowest-bit.result c.lowest-bit.ensures.has), (λ has. ((c.without-left.ensures.bits o).0 has).1 q.1)))
          c.bits.invariant.taken c.take-stops.ensures;
      had = λ o has. c.bits.invariant.had o ((c.without-left.ensures.bits o).0 has).0;
      graph = graph_kept c.args.fabric.now c.bits.graph c.take-stops.new.graph c.take-stops.ensures.wide c.take-stops.ensures.bases c.bits.invariant.graph;
    }

pub returns : goal.returns
returns c =
    let none : c.bits.left ≡ 0 = omega arith in
    taken_as c.args.fabric.now (tables_of c.args.cells.now) c.args.block (But c.args.at c.args.fresh c.bits.left) (λ switch other. (switch ≡ c.args.at) × (bit_at c.args.fresh other ≡ 1))
    (record { seen = c.args.seen.now; graph = c.args.graph.now; stopped = c.args.stopped }) (record { seen = c.bits.seen; graph = c.bits.graph; stopped = c.bits.stops })
    (λ s o r. (r.0, r.1, no_bit c.bits.left o none))
    (λ s o p. (p.0, p.1))
    c.bits.invariant.taken

pub bits-init : goal.bits-init
bits-init c = record {
  taken = taken_none c.args.fabric.now (tables_of c.args.cells.now) c.args.block (But c.args.at c.args.fresh c.args.fresh) (record { seen = c.args.seen.now; graph = c.args.graph.now; stopped = c.args.stopped }) (λ s o r. r.2 r.1);
  had = λ o has. has;
  graph = c.requires.graph;
}
