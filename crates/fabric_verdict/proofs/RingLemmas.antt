-- Channels that are full, of which each leads to one of them.
use Rattle.std.proofs.Common.{◌≡◌, ◌∙◌, sym, ap, subst, refl, ℕ, ◌<◌, ◌≤◌, List, [], Bool, true, false, length, replicate, get_or, inl, inr, arith}
use Rattle.std.specs.Prelude.{Contains}
use Rattle.std.proofs.lemmas.List.{length-replicate, get_or-replicate}
use Rattle.fabric_tables.specs.Cells.{TablesOf}
use Rattle.fabric_model.specs.Fabric.{FabricOf}
use Rattle.fabric_routes.specs.declared.hop.Hop.{Hop}
use Rattle.fabric_routes.specs.declared.hop.Hop.TheVariants.{On, Arrive, Stop}
use Rattle.fabric_model.specs.declared.traffic.Traffic.{Traffic}
use Rattle.fabric_routes.specs.Routes.{Channel, DependsOn, hop}
use Rattle.fabric_verdict.specs.Packets.{AllFit, AllStand, CanGo, FirstCanGo, Leaves, Packet, QueuesOf, StandsIn}

-- a hop goes on by one port to one switch
abbrev out_of : ℕ → Hop → ℕ
out_of other (On out next) = out
out_of other Arrive = other
out_of other (Stop cause) = other

abbrev next_to : ℕ → Hop → ℕ
next_to other (On out next) = next
next_to other Arrive = other
next_to other (Stop cause) = other

same_on : (out next port far : ℕ) → On out next ≡ On port far → (out ≡ port) × (next ≡ far)
same_on out next port far is = (ap (out_of out) is, ap (next_to next) is)

pub same_channel : (one other : Channel) → one.switch ≡ other.switch → one.port ≡ other.port → one ≡ other
same_channel one other switch port = ap (λ (s : ℕ). let c : Channel = record { switch = s; port = one.port } in c) switch ∙ ap (λ (p : ℕ). let c : Channel = record { switch = other.switch; port = p } in c) port

module _ (fabric : FabricOf) (tables : TablesOf) (traffic : Traffic) (room : Channel → ℕ) (is_in : Channel → Bool) (next_of : Channel → Channel) (some : (each : Channel) → 1 ≤ room each) (depends : (channel : Channel) → is_in channel ≡ true → DependsOn fabric tables traffic channel (next_of channel)) (stays : (channel : Channel) → is_in channel ≡ true → is_in (next_of channel) ≡ true) where
  -- the packet whose route makes a dependency
  abbrev packet : (channel : Channel) → is_in channel ≡ true → Packet
  packet channel has = record { lid = (depends channel has).0; source = (depends channel has).1 }

  abbrev filled : (channel : Channel) (b : Bool) → is_in channel ≡ b → List Packet
  filled channel true has = replicate (room channel) (packet channel has)
  filled channel false has = []

  abbrev pub queue : QueuesOf
  queue channel = filled channel (is_in channel) refl

  stands_in : (channel : Channel) (has : is_in channel ≡ true) → StandsIn fabric tables traffic channel (packet channel has)
  stands_in channel has = let takes = (depends channel has).2 in record { comes = takes.comes; far = (next_of channel).switch; takes = takes.first }

  stand : (channel : Channel) (b : Bool) (e : is_in channel ≡ b) (other : Packet) → Contains (filled channel b e) other → StandsIn fabric tables traffic channel other
  stand channel false e other (k, low, is) = absurd (omega arith)
  stand channel true e other (k, low, is) =
      let count = length-replicate {A = Packet} (room channel) (packet channel e) in
      let at = get_or-replicate (room channel) k (packet channel e) other (omega arith) in
      subst (λ (p : Packet). StandsIn fabric tables traffic channel p) (sym at ∙ is) (stands_in channel e)

  pub all_stand : AllStand fabric tables traffic queue
  all_stand channel other has = stand channel (is_in channel) refl other has

  -- what a channel of the set holds
  holds : (channel : Channel) (b : Bool) (e : is_in channel ≡ b) → is_in channel ≡ true → (has : is_in channel ≡ true) × (filled channel b e ≡ replicate (room channel) (packet channel has))
  holds channel true e has = (e, refl)
  holds channel false e has = absurd (let same : true ≡ false = sym has ∙ e in cc)

  pub size : (channel : Channel) → is_in channel ≡ true → length (queue channel) ≡ room channel
  size channel has =
      let full = holds channel (is_in channel) refl has in
      ap (λ (xs : List Packet). length xs) full.1 ∙ length-replicate {A = Packet} (room channel) (packet channel full.0)

  fits : (channel : Channel) (b : Bool) (e : is_in channel ≡ b) → length (filled channel b e) ≤ room channel
  fits channel true e = let count = length-replicate {A = Packet} (room channel) (packet channel e) in omega arith
  fits channel false e = omega arith

  pub all_fit : AllFit room queue
  all_fit channel = fits channel (is_in channel) refl

  pub stuck : (channel : Channel) → is_in channel ≡ true → FirstCanGo fabric tables room queue channel → ⊥
  stuck channel has free =
      let full = holds channel (is_in channel) refl has in
      let takes = (depends channel full.0).2 in
      let lid = (depends channel full.0).0 in
      let more = some channel in
      let same : packet channel full.0 ≡ free.first = sym (get_or-replicate (room channel) 0 (packet channel full.0) (packet channel full.0) (omega arith)) ∙ ap (λ (xs : List Packet). get_or xs 0 (packet channel full.0)) (sym full.1 ∙ free.stand) in
      let can : CanGo fabric tables room queue channel (packet channel full.0) = subst (λ (p : Packet). CanGo fabric tables room queue channel p) (sym same) free.can in
      let far = same_on channel.port (next_of channel).switch channel.port can.far (sym takes.first ∙ can.takes) in
      let second : hop fabric tables can.far lid ≡ On (next_of channel).port takes.after = subst (λ (s : ℕ). hop fabric tables s lid ≡ On (next_of channel).port takes.after) far.1 takes.second in
      elim can.goes [
        | inl leaves ↦ subst Leaves second leaves
        | inr (next, after, to, on, less) ↦ (
            let ports = same_on next.port after (next_of channel).port takes.after (sym on ∙ second) in
            let is : next ≡ next_of channel = same_channel next (next_of channel) (to ∙ sym far.1) ports.0 in
            let room_left : length (queue (next_of channel)) < room (next_of channel) = subst (λ (c : Channel). length (queue c) < room c) is less in
            let count = size (next_of channel) (stays channel has) in
            omega arith)
      ]
