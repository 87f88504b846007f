use Rattle.std.proofs.Common.{◌≡◌, ◌<◌, ◌+◌, ◌↔◌, ℕ}
use Rattle.std.specs.Int.{bit_at}
use Rattle.fabric_model.specs.Fabric.{side_of}
use Rattle.fabric_routes.specs.Links.{IsTo}
use Rattle.fabric_routes.proofs.link.links_word.Given as goal

abbrev pub invariant-bits : goal.invariant-bits
invariant-bits l = (bit : ℕ) → ((bit_at l.word bit ≡ 1) ↔ ((bit < l.bit) × IsTo (side_of l.fabric l.switch (l.first + bit))))
