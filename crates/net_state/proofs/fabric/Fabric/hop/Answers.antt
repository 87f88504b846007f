use Rattle.std.specs.Prelude.{◌≡◌, ◌∷◌, ℕ, [], Option}
use Rattle.std.specs.Option.{IsSome, option_map}
use Rattle.std.proofs.Common.{◌∙◌, ap, subst, sym}
use Rattle.host_traffic.specs.Packets.{packet_of, place_now}
use Rattle.net_state.specs.declared.line.Line.{Line}
use Rattle.net_state.specs.Fabric.{FabricOf}
use Rattle.net_state.proofs.MoveLemmas.{hop_told, packet_some}
use Rattle.net_state.proofs.fabric.Fabric.hop.Goals as goal

-- where it is in the fabric it is in what contracts see of it
seen : {f view : FabricOf} {at : Option (ℕ × ℕ)} (n : ℕ) → f ≡ view → at ≡ option_map place_now (packet_of n f.packets) → option_map place_now (packet_of n view.packets) ≡ at
seen n same found = sym (found ∙ ap (λ (f : FabricOf). option_map place_now (packet_of n f.packets)) same)

pub unwrap-s-requires : goal.unwrap-s-requires
unwrap-s-requires c = subst (λ (o : Option (ℕ × ℕ)). IsSome o) (seen c.args.packet c.self.view_is c.place.ensures) (packet_some c.args.self.now c.args.packet c.requires)

pub returns-clause-told : goal.returns-clause-told
returns-clause-told c =
    ap (λ (x : Line). x ∷ []) c.hop_line.ensures
    ∙ hop_told c.args.self.now c.args.packet c.unwrap-s.result.0 c.unwrap-s.result.1 c.epoch_in_use-epoch.result c.make_hop-hop.result (seen c.args.packet c.self.view_is c.place.ensures ∙ c.unwrap-s.ensures) c.make_hop-hop.ensures.hop
    (rw (← c.self.view_is) c.epoch_in_use-epoch.ensures)
