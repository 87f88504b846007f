use Rattle.std.proofs.Common.{◌≡◌, ◌≢◌, ℕ, true}
use Rattle.dep_check.specs.declared.channel.Channel.{Channel}
use Rattle.std.specs.Int.{bit_at}
use Rattle.dep_check.specs.Ports.{HasOnlyPorts}
use Rattle.dep_check.specs.Search.{IsStep}
use Rattle.dep_check.specs.Walks.{Sees}
use Rattle.dep_check.proofs.walk.see_next.Given as goal

-- all is seen to which the steps lead by the exits that are not left, and whether each of these leads on
abbrev pub invariant-exits : goal.invariant-exits
invariant-exits l = record {
  sees : Sees (λ b. (e : ℕ) × (bit_at l.left e ≡ 1 → ⊥) × IsStep l.steps l.spot e b) l.fn.seen.items l.fn.ahead.items l.seen.items l.ahead.items;
  ports : HasOnlyPorts l.left;
  within : (e : ℕ) → bit_at l.left e ≡ 1 → bit_at l.exits e ≡ 1;
  clear : l.clear ≡ true → (l.exits ≢ 0) × ((e : ℕ) → bit_at l.exits e ≡ 1 → (bit_at l.left e ≡ 1 → ⊥) → (b : Channel) × IsStep l.steps l.spot e b);
}

abbrev pub decreases-exits : goal.decreases-exits
decreases-exits l = l.left
