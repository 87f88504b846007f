-- Block after block.
use Rattle.std.proofs.Common.{◌≡◌, ◌∙◌, subst, refl, ℕ, ◌+◌, ◌-◌, ◌*◌, ◌<◌, Bool, false, arith, inl, inr, ◌⊎◌}
use Rattle.std.proofs.lemmas.Bool.{cases_lt}
use Rattle.common_graph.specs.Graph.{GraphOf}
use Rattle.fabric_model.specs.declared.node.EndPort.{EndPort}
use Rattle.fabric_model.specs.declared.traffic.Traffic.{Traffic}
use Rattle.fabric_model.specs.Fabric.{FabricOf}
use Rattle.fabric_tables.specs.Cells.{TablesOf}
use Rattle.fabric_routes.specs.Routes.{IsStopped, Sends}
use Rattle.fabric_routes.specs.Waves.{TakesNumbers, IsWaved}
use Rattle.fabric_routes.specs.Finding.{AreFound, AreFoundBelow}

module _ (fabric : FabricOf) (tables : TablesOf) (traffic : Traffic) where
  pub found_none : (graph : GraphOf) → AreFoundBelow fabric tables traffic 0 graph graph false
  found_none graph = record {
    leads = λ one other. (
      λ has. inl has,
      λ either. elim either [
        | inl had ↦ had
        | inr (lid, low, takes) ↦ absurd (omega arith)
      ],
    );
    stopped = (λ e. absurd (cc), λ (lid, low, stopped). absurd (omega arith));
    wide = refl;
    bases = refl;
  }

  module _ (block : ℕ) where
    -- a LID below the next block is below this one, or of it
    place : (P : ℕ → Type 0) (lid : ℕ) → lid < 64 * (block + 1) → P lid → ((l : ℕ) × (l < 64 * block) × P l) ⊎ ((bit : ℕ) × (bit < 64) × P (64 * block + bit))
    place P lid low is = elim (cases_lt lid (64 * block)) [
      | inl before ↦ inl (lid, before, is)
      | inr here ↦ inr (lid - 64 * block, omega arith, (let e : lid ≡ 64 * block + (lid - 64 * block) = omega arith in subst P e is))
    ]

    pub found_more : (old now new : GraphOf) (before told : Bool) → AreFoundBelow fabric tables traffic (64 * block) old now before → IsWaved fabric tables traffic block now new before told → AreFoundBelow fabric tables traffic (64 * (block + 1)) old new told
    found_more old now new before told found waved = record {
      leads = λ one other. (
        λ has. elim ((waved.leads one other).0 has) [
          | inl had ↦ elim ((found.leads one other).0 had) [
            | inl first ↦ inl first
            | inr (lid, low, takes) ↦ inr (lid, omega arith, takes)
          ]
          | inr (bit, low, takes) ↦ inr (64 * block + bit, omega arith, takes)
        ],
        λ either. elim either [
          | inl first ↦ (waved.leads one other).1 (inl ((found.leads one other).1 (inl first)))
          | inr (lid, low, takes) ↦ elim (place (λ l. TakesNumbers fabric tables traffic l one other) lid low takes) [
            | inl below ↦ (waved.leads one other).1 (inl ((found.leads one other).1 (inr below)))
            | inr here ↦ (waved.leads one other).1 (inr here)
          ]
        ],
      );
      stopped = (
        λ is. elim (waved.stopped.0 is) [
          | inl had ↦ (let l = found.stopped.0 had in let low = l.1 in (l.0, omega arith, l.2))
          | inr (bit, low, stopped) ↦ (64 * block + bit, omega arith, stopped)
        ],
        λ (lid, low, stopped). elim (place (λ l. (source : EndPort) × IsStopped fabric tables traffic l source) lid low stopped) [
          | inl below ↦ waved.stopped.1 (inl (found.stopped.1 below))
          | inr here ↦ waved.stopped.1 (inr here)
        ],
      );
      wide = waved.wide ∙ found.wide;
      bases = waved.bases ∙ found.bases;
    }

  -- to a LID beyond all blocks no one sends
  module _ (blocks : ℕ) (low : (lid : ℕ) (source : EndPort) → Sends fabric tables traffic lid source → lid < 64 * blocks) where
    pub found_all : (old new : GraphOf) (told : Bool) → AreFoundBelow fabric tables traffic (64 * blocks) old new told → AreFound fabric tables traffic old new told
    found_all old new told found = record {
      leads = λ one other. (
        λ has. elim ((found.leads one other).0 has) [
          | inl had ↦ inl had
          | inr (lid, low, takes) ↦ inr (lid, takes)
        ],
        λ either. elim either [
          | inl had ↦ (found.leads one other).1 (inl had)
          | inr (lid, takes) ↦ (found.leads one other).1 (inr (lid, low lid takes.source takes.takes.comes.sends, takes))
        ],
      );
      stopped = (
        λ is. let l = found.stopped.0 is in (l.0, l.2),
        λ (lid, (source, stopped)). found.stopped.1 (lid, low lid source stopped.1.sends, (source, stopped)),
      );
      wide = found.wide;
      bases = found.bases;
    }
