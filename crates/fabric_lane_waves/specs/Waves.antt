-- Waves: bits that spread by steps from place to place. A step from a place, for a bit, leads to another place, and adds a
-- dependency to a graph; a place may also be one at which something stops. Only private functions and proofs cite this.
use Rattle.std.specs.Prelude.{◌≡◌, ◌<◌, ◌⊎◌, ◌↔◌, ℕ, zero, suc, true, List, length}
use Rattle.common_graph.specs.Graph.{LeadsTo}
use Rattle.fabric_routes.specs.Waves.{HasBit, StateOf, gap}

-- from one place to another by so many steps for a bit
abbrev pub Spreads : (ℕ → ℕ → ℕ → ℕ → ℕ → Type 0) → ℕ → ℕ → ℕ → ℕ → Type 0
Spreads Step bit zero start at = start ≡ at
Spreads Step bit (suc steps) start at =
    (before one other : ℕ) × Spreads Step bit steps start before × Step bit before at one other

module _ (Step : ℕ → ℕ → ℕ → ℕ → ℕ → Type 0) (Stops : ℕ → ℕ → Type 0) where
  -- steps lead from a place that has the bit to this one
  pub record IsReached (words : List ℕ) (bit at : ℕ) : Type 0 where
    pub start : ℕ
    pub has : HasBit words start bit
    pub steps : ℕ
    pub spreads : Spreads Step bit steps start at

  -- The steps from the pairs of place and bit of a kind are taken: each shows the bit at the next place and adds its
  -- dependency; and it is told whether something stops at one of them.
  pub record Taken (Kind : ℕ → ℕ → Type 0) (old new : StateOf) : Type 0 where
    pub seen :
        (place bit : ℕ)
        → (HasBit new.seen place bit ↔ (HasBit old.seen place bit ⊎ ((at one other : ℕ) × Kind at bit × Step bit at place one other)))
    pub leads :
        (one other : ℕ)
        → (LeadsTo new.graph one other ↔ (LeadsTo old.graph one other ⊎ ((at bit to : ℕ) × Kind at bit × Step bit at to one other)))
    pub stopped : (new.stopped ≡ true) ↔ ((old.stopped ≡ true) ⊎ ((at bit : ℕ) × Kind at bit × Stops bit at))
    pub count : length new.seen ≡ length old.seen
    pub wide : new.graph.wide ≡ old.graph.wide
    pub bases : new.graph.bases ≡ old.graph.bases

  -- How far the waves have come: the steps that are done were taken, all of bits that were seen; and bits are seen only
  -- at places that are reached.
  pub record IsRunning (initial now : StateOf) (done : List ℕ) : Type 0 where
    pub taken : Taken (HasBit done) initial now
    pub within : (place bit : ℕ) → HasBit done place bit → HasBit now.seen place bit
    pub fits : (place bit : ℕ) → HasBit done place bit → bit < 64
    pub reached : (place bit : ℕ) → HasBit now.seen place bit → IsReached initial.seen bit place
    pub count : length done ≡ length now.seen

  -- the steps of the fresh bits of a place were taken
  pub record IsTurned (at : ℕ) (old new : StateOf) (before after : List ℕ) : Type 0 where
    pub taken : Taken (λ place bit. (place ≡ at) × HasBit old.seen at bit × (HasBit before at bit → ⊥)) old new
    pub done :
        (place bit : ℕ)
        → (HasBit after place bit ↔ (HasBit before place bit ⊎ ((place ≡ at) × HasBit old.seen at bit)))
    pub fits : (bit : ℕ) → HasBit old.seen at bit → bit < 64
    pub count : length after ≡ length before
    pub less : gap after < gap before

  -- the waves have come further
  pub record IsFurther (old new : StateOf) (before after : List ℕ) : Type 0 where
    pub running : (initial : StateOf) → IsRunning initial old before → IsRunning initial new after
    pub less : gap after < gap before
    pub count : length after ≡ length before
    pub seen_count : length new.seen ≡ length old.seen
    pub bases : new.graph.bases ≡ old.graph.bases
    pub wide : new.graph.wide ≡ old.graph.wide

  -- The waves have run from the bits of the old state: just the dependencies of the steps from places that are reached
  -- were added, and it is told whether something stops at one of them.
  pub record IsSpread (old new : StateOf) : Type 0 where
    pub leads :
        (one other : ℕ)
        → (LeadsTo new.graph one other ↔ (LeadsTo old.graph one other ⊎ ((bit at to : ℕ) × (bit < 64) × IsReached old.seen bit at × Step bit at to one other)))
    pub stopped :
        (new.stopped ≡ true) ↔ ((old.stopped ≡ true) ⊎ ((bit at : ℕ) × (bit < 64) × IsReached old.seen bit at × Stops bit at))
    pub wide : new.graph.wide ≡ old.graph.wide
    pub bases : new.graph.bases ≡ old.graph.bases
