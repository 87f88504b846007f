-- What the first packet of a channel does at the far side, and what that says of the flow.
use Rattle.std.proofs.Common.{◌≡◌, ◌∙◌, sym, ap, refl, ℕ, Option, Some, None, true, false, arith, inl, inr, ◌==◌}
use Rattle.std.proofs.lemmas.Bool.{cases_Bool, eqb-true}
use Rattle.std.proofs.lemmas.Bool.Decides.{nat_tests}
use Rattle.dep_check.specs.declared.channel.Channel.{Channel}
use Rattle.flow_channels.specs.declared.board.Ahead.{Ahead}
use Rattle.flow_channels.specs.declared.board.Ahead.TheVariants.{Rests, Arrives, Asks}
use Rattle.flow_channels.specs.Ahead.{ahead_of, asks_of}
use Rattle.flow_channels.specs.Flows.{FlowOf, PacketOf, first_of}
use Rattle.flow_channels.specs.Layout.{LayoutOf, spot}
use Rattle.flow_channels.specs.Moves.{CanArrive}
use Rattle.flow_channels.specs.Watch.{NoneAsks}

-- by the far side and the first packet
pub rests_nowhere : (o : Option Channel) (first : Option PacketOf) → o ≡ None → ahead_of o first ≡ Rests
rests_nowhere o first none = rw none refl

pub rests_empty : (o : Option Channel) (first : Option PacketOf) → first ≡ None → ahead_of o first ≡ Rests
rests_empty None first none = refl
rests_empty (Some end) first none = rw none refl

pub arrives_there : (end : Channel) (packet : PacketOf) (o : Option Channel) (first : Option PacketOf) → o ≡ Some end → first ≡ Some packet → end.at ≡ packet.to → ahead_of o first ≡ Arrives
arrives_there end packet o first far is here =
    let test : (end.at == packet.to) ≡ true = (grind (arith, nat_tests)) in
    rw (far, is, test) refl

pub asks_on : (end : Channel) (packet : PacketOf) (o : Option Channel) (first : Option PacketOf) → o ≡ Some end → first ≡ Some packet → (end.at ≡ packet.to → ⊥) → ahead_of o first ≡ Asks end
asks_on end packet o first far is apart =
    let test : (end.at == packet.to) ≡ false = (grind (arith, nat_tests)) in
    rw (far, is, test) refl

-- whether it arrives
abbrev pub arriving : Ahead → Option ℕ
arriving Rests = None
arriving Arrives = Some 0
arriving (Asks end) = None

-- who asks somewhere asks at the far side
asked : (o : Option Channel) (first : Option PacketOf) (end : Channel) → asks_of (ahead_of o first) ≡ Some end → o ≡ Some end
asked None first end is = absurd (cc)
asked (Some other) None end is = absurd (cc)
asked (Some other) (Some packet) end is = elim (cases_Bool (other.at == packet.to)) [
  | inl here ↦ absurd (let none : None ≡ Some end = rw here at is in cc)
  | inr apart ↦ rw apart at is
]

pub ahead_asks : (layout : LayoutOf) (flow : FlowOf) (channel end : Channel) (ahead : Ahead) → ahead ≡ ahead_of (layout.far channel) (first_of flow channel) → asks_of ahead ≡ Some end → layout.far channel ≡ Some end
ahead_asks layout flow channel end ahead is asks = asked (layout.far channel) (first_of flow channel) end (sym (ap asks_of is) ∙ asks)

-- who asks nowhere is at the far side's target
still : (o : Option Channel) (first : Option PacketOf) (end : Channel) (packet : PacketOf) → asks_of (ahead_of o first) ≡ None → o ≡ Some end → first ≡ Some packet → end.at ≡ packet.to
still o first end packet none far is = elim (cases_Bool (end.at == packet.to)) [
  | inl here ↦ eqb-true end.at packet.to here
  | inr apart ↦ absurd (let some : Some end ≡ None = rw (far, is, apart) at none in cc)
]

pub ahead_still : (layout : LayoutOf) (flow : FlowOf) (channel : Channel) (ahead : Ahead) → ahead ≡ ahead_of (layout.far channel) (first_of flow channel) → asks_of ahead ≡ None → NoneAsks layout flow channel
ahead_still layout flow channel ahead is none end packet far first = still (layout.far channel) (first_of flow channel) end packet (sym (ap asks_of is) ∙ none) far first

-- who arrives can arrive, and nobody else
comes : (layout : LayoutOf) (flow : FlowOf) (channel : Channel) (o : Option Channel) (first : Option PacketOf) → layout.far channel ≡ o → first_of flow channel ≡ first → arriving (ahead_of o first) ≡ Some 0 → CanArrive layout flow channel
comes layout flow channel None first far is comes_in = absurd (cc)
comes layout flow channel (Some end) None far is comes_in = absurd (cc)
comes layout flow channel (Some end) (Some packet) far is comes_in = elim (cases_Bool (end.at == packet.to)) [
  | inl here ↦ (packet, end.port, is, far ∙ ap (λ (n : ℕ). Some (spot n end.port)) (eqb-true end.at packet.to here))
  | inr apart ↦ absurd (let none : None ≡ Some 0 = rw apart at comes_in in cc)
]

pub ahead_arrives : (layout : LayoutOf) (flow : FlowOf) (channel : Channel) → ahead_of (layout.far channel) (first_of flow channel) ≡ Arrives → CanArrive layout flow channel
ahead_arrives layout flow channel is = comes layout flow channel (layout.far channel) (first_of flow channel) refl refl (ap arriving is)

pub arrives_ahead : (layout : LayoutOf) (flow : FlowOf) (channel : Channel) → CanArrive layout flow channel → ahead_of (layout.far channel) (first_of flow channel) ≡ Arrives
arrives_ahead layout flow channel (packet, entry, first, far) = arrives_there (spot packet.to entry) packet (layout.far channel) (first_of flow channel) far first refl

pub not_ahead : (layout : LayoutOf) (flow : FlowOf) (channel : Channel) (ahead : Ahead) → ahead ≡ ahead_of (layout.far channel) (first_of flow channel) → arriving ahead ≡ None → CanArrive layout flow channel → ⊥
not_ahead layout flow channel ahead is none can = absurd (let some : Some 0 ≡ None = sym (ap arriving (is ∙ arrives_ahead layout flow channel can)) ∙ none in cc)
