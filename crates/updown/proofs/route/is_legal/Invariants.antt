use Rattle.std.proofs.Common.{◌<◌, ◌↔◌, drop, length, false}
use Rattle.updown.proofs.LegalLemmas.{LeadOn}
use Rattle.updown.proofs.route.is_legal.Given as goal

-- the ports from here on lead on exactly where all lead from the start
abbrev pub invariant-ports : goal.invariant-ports
invariant-ports l = (LeadOn l.graph false l.initial.x l.ports ↔ LeadOn l.graph l.down l.x (drop l.port-index l.ports)) × (l.x < length l.graph)
