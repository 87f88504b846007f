use Rattle.std.proofs.Common.{◌≡◌, refl, List, ℕ, Some, codes}
use Rattle.fabric_words.specs.Cuts.{cut_last}
use Rattle.fabric_topology.specs.declared.fact.Fact.{Fact}
use Rattle.fabric_topology.specs.declared.fact.Fact.TheVariants as fact
use Rattle.fabric_topology.specs.declared.fact.PortTold.{PortTold}
use Rattle.fabric_topology.specs.declared.fact.Part.TheVariants as part
use Rattle.fabric_topology.specs.Facts.{telling_three}
use Rattle.fabric_topology.specs.Dumped.{far_parts, near_side, side, dumped}

-- a line of both sides
pub dumped_is : (lmc : ℕ) (line heads guids numbers near head : List ℕ) (one other : Fact × PortTold) → far_parts line ≡ Some (heads, guids, numbers) → cut_last (codes " } { ") heads ≡ Some (near, head) → Some one ≡ near_side lmc near → Some other ≡ side lmc head guids numbers → Some (telling_three (part.Dumped lmc) one.0 other.0 (fact.Link one.1 other.1)) ≡ dumped lmc line
unfolding dumped
dumped_is lmc line heads guids numbers near head one other e1 e2 e3 e4 = rw (e1, e2, ← e3, ← e4) refl
