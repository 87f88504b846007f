use Rattle.std.proofs.Common.{◌≡◌, ◌∙◌, ◌+◌, ◌-◌, ◌*◌, ◌<◌, sym, ap, subst, ℕ, length, get_or, arith, inl, inr}
use Rattle.fabric_lane_waves.proofs.StepLemmas.{node_low, other_is, within_low}
use Rattle.fabric_lane_waves.proofs.wave.depend.Goals as goal

-- the numbers of the code are those of the channels
channel_as : (s m most p count v result : ℕ) → m ≡ most → result ≡ (s * m + (p - 1)) * count + v → result ≡ (s * most + (p - 1)) * count + v
channel_as s m most p count v result same is = is ∙ ap (λ (n : ℕ). (s * n + (p - 1)) * count + v) same

offset_as : (m q count w lane result : ℕ) → w ≡ lane → result ≡ (0 * m + (q - 1)) * count + w → result ≡ (q - 1) * count + lane
offset_as m q count w lane result same is =
    let none : 0 * m + (q - 1) ≡ q - 1 = omega arith in
    is ∙ ap (λ (n : ℕ). n * count + w) none ∙ ap (λ (n : ℕ). (q - 1) * count + n) same

pub insert-requires-clause-node : goal.insert-requires-clause-node
insert-requires-clause-node c =
    let link = c.requires.link.1 in
    let channel = channel_as c.args.from.switch c.most-most.result c.args.fabric.now.most c.args.port c.args.count c.args.from.lane c.number_of-channel.result c.most-most.ensures.most c.number_of-channel.ensures in
    subst (λ (k : ℕ). k < length c.args.graph.now.bases) (sym channel) (node_low c.args.fabric.now c.args.count c.args.graph.now c.requires.graph c.args.from.switch c.args.port c.args.from.lane c.requires.switch link.used link.low c.requires.lane)

pub insert-requires-clause-within : goal.insert-requires-clause-within
insert-requires-clause-within c =
    let channel = channel_as c.args.from.switch c.most-most.result c.args.fabric.now.most c.args.port c.args.count c.args.from.lane c.number_of-channel.result c.most-most.ensures.most c.number_of-channel.ensures in
    let offset = offset_as c.most-most.result c.args.next_port c.args.count c.from.result c.args.next_lane c.number_of-offset.result c.from.ensures c.number_of-offset.ensures in
    let base = ap (λ (k : ℕ). get_or c.args.graph.now.bases k 0) channel in
    let low = within_low c.args.fabric.now c.args.count c.args.graph.now c.requires.graph c.args.from.switch c.args.port c.args.from.lane c.requires.link.0 c.args.next_port c.args.next_lane c.requires.link.1 c.requires.switch c.requires.lane c.requires.used c.requires.low c.requires.next_lane in
    omega (arith, base, offset, low)

pub returns-clause-leads : goal.returns-clause-leads
returns-clause-leads c = λ next link one other.
    let channel = channel_as c.args.from.switch c.most-most.result c.args.fabric.now.most c.args.port c.args.count c.args.from.lane c.number_of-channel.result c.most-most.ensures.most c.number_of-channel.ensures in
    let offset = offset_as c.most-most.result c.args.next_port c.args.count c.from.result c.args.next_lane c.number_of-offset.result c.from.ensures c.number_of-offset.ensures in
    let base = ap (λ (k : ℕ). get_or c.args.graph.now.bases k 0) channel in
    let is = other_is c.args.fabric.now c.args.count c.args.graph.now c.requires.graph c.args.from.switch c.args.port c.args.from.lane next c.args.next_port c.args.next_lane link c.requires.switch c.requires.lane c.requires.used c.requires.low c.requires.next_lane in
    let second : get_or c.args.graph.now.bases c.number_of-channel.result 0 + c.number_of-offset.result ≡ (next * c.args.fabric.now.most + (c.args.next_port - 1)) * c.args.count + c.args.next_lane = omega (arith, base, offset, is) in (
      λ has. elim ((c.insert.ensures.leads one other).0 has) [
        | inl had ↦ inl had
        | inr (a, b) ↦ inr (a ∙ channel, b ∙ second)
      ],
      λ either. elim either [
        | inl had ↦ (c.insert.ensures.leads one other).1 (inl had)
        | inr (a, b) ↦ (c.insert.ensures.leads one other).1 (inr (a ∙ sym channel, b ∙ sym second))
      ],
    )
