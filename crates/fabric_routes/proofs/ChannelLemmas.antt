-- Channels by their numbers.
use Rattle.std.proofs.Common.{◌≡◌, ◌∙◌, sym, ap, subst, refl, ℕ, ◌+◌, ◌-◌, ◌*◌, ◌<◌, ◌≤◌, ◌&&◌, Bool, true, false, cond, ltb, eqb, List, Option, Some, None, arith, length, get_or, inl, inr}
use Rattle.std.proofs.lemmas.Bool.{cases_lt}
use Rattle.std.proofs.lemmas.Bool.Decides.{nat_tests}
use Rattle.std.proofs.lemmas.List.{get_or_past}
use Rattle.std.proofs.lemmas.Nat.{mul-add-lt, same_from_place}
use Rattle.common_graph.specs.Graph.{GraphOf, LeadsTo}
use Rattle.fabric_model.specs.declared.node.Side.{Side}
use Rattle.fabric_model.specs.declared.node.Side.TheVariants.{Bare, To, End}
use Rattle.fabric_model.specs.declared.node.EndPort.{EndPort}
use Rattle.fabric_model.specs.declared.traffic.Traffic.{Traffic}
use Rattle.fabric_routes.specs.declared.hop.Hop.TheVariants.{On}
use Rattle.fabric_model.specs.Fabric.{FabricOf, IsFabric, LeadsWithin, switch_count, side_of, owner_of}
use Rattle.fabric_tables.specs.Cells.{TablesOf}
use Rattle.fabric_routes.specs.Routes.{hop, hop_by, hop_over, end_if, ends_at_host, ends_at_switch, Channel, Takes}
use Rattle.fabric_routes.specs.Links.{IsTo}
use Rattle.fabric_routes.specs.Waves.{IsGraphOf, IsLink}
use Rattle.fabric_routes.specs.Found.{IsChannel, number}
use Rattle.fabric_routes.specs.Finding.{AreFound, AreBases, AreDependencies, base_of}

both : (a b : Bool) (x : Side) (next entry : ℕ) → cond (a && b) x Bare ≡ To next entry → (a ≡ true) × (b ≡ true) × (x ≡ To next entry)
both true true x next entry is = (refl, refl, is)
both true false x next entry is = absurd (cc)
both false b x next entry is = absurd (cc)

-- a port that leads to a switch is one that there is, at a place that there is
link_low : (below : ℕ) (x : Side) (port next entry : ℕ) → cond (ltb 0 port && ltb port below) x Bare ≡ To next entry → (0 < port) × (port < below) × (x ≡ To next entry)
link_low below x port next entry is = let t = both (ltb 0 port) (ltb port below) x next entry is in let a = t.0 in let b = t.1 in (grind (arith, nat_tests), grind (arith, nat_tests), t.2)

to_low : (sides : List Side) (place next entry : ℕ) → get_or sides place Bare ≡ To next entry → place < length sides
to_low sides place next entry is = elim (cases_lt place (length sides)) [
  | inl low ↦ low
  | inr high ↦ absurd (let past = get_or_past sides place Bare high in cc)
]

-- bases are those of a graph of the fabric
pub graph_of : (fabric : FabricOf) (graph : GraphOf) → IsFabric fabric → length graph.bases ≡ (switch_count fabric) * fabric.most → fabric.most ≤ 64 * graph.wide → AreBases fabric ((switch_count fabric) * fabric.most) graph.bases → IsGraphOf fabric graph
graph_of fabric graph is count wide bases = record {
  count = count;
  wide = wide;
  bases = λ switch port next entry leads.
      let low = link_low (fabric.most + 1) (get_or fabric.sides (switch * fabric.most + (port - 1)) Bare) port next entry leads in
      let here = to_low fabric.sides (switch * fabric.most + (port - 1)) next entry low.2 in
      let all = is.count in
      bases (switch * fabric.most + (port - 1)) (omega arith) ∙ ap (base_of fabric.most) low.2;
}

-- where a hop goes on, its port leads to a switch
no_on : (b : Bool) (port next : ℕ) → end_if b ≡ On port next → ⊥
no_on true port next is = cc
no_on false port next is = cc

over : (owner : Option EndPort) (port : ℕ) (side : Side) (by next : ℕ) → hop_over owner port side ≡ On by next → (port ≡ by) × ((entry : ℕ) × (side ≡ To next entry))
over owner port Bare by next is = absurd (cc)
over owner port (To to entry) by next is = ((cc), (entry, (cc)))
over owner port (End end) by next is = absurd (no_on (ends_at_host owner end) by next is)

choose : (b c : Bool) (owner : Option EndPort) (port : ℕ) (side : Side) (by next : ℕ) → cond b (end_if c) (hop_over owner port side) ≡ On by next → (port ≡ by) × ((entry : ℕ) × (side ≡ To next entry))
choose true c owner port side by next is = absurd (no_on c by next is)
choose false c owner port side by next is = over owner port side by next is

by_port : (fabric : FabricOf) (switch lid : ℕ) (told : Option ℕ) (by next : ℕ) → hop_by fabric switch lid told ≡ On by next → (entry : ℕ) × (side_of fabric switch by ≡ To next entry)
by_port fabric switch lid None by next is = absurd (cc)
by_port fabric switch lid (Some port) by next is =
    let found = choose (eqb port 0) (ends_at_switch (owner_of fabric lid) switch) (owner_of fabric lid) port (side_of fabric switch port) by next is in
    (found.1.0, ap (λ (p : ℕ). side_of fabric switch p) (sym found.0) ∙ found.1.1)

pub on_link : (fabric : FabricOf) (tables : TablesOf) (switch lid by next : ℕ) → hop fabric tables switch lid ≡ On by next → (entry : ℕ) × (side_of fabric switch by ≡ To next entry)
unfolding hop
on_link fabric tables switch lid by next is = by_port fabric switch lid (tables switch lid) by next is

-- .. and that is one of the fabric
pub hop_within : (fabric : FabricOf) → IsFabric fabric → (tables : TablesOf) (switch lid by next : ℕ) → hop fabric tables switch lid ≡ On by next → next < switch_count fabric
hop_within fabric fits tables switch lid by next is =
    let (entry, leads) = on_link fabric tables switch lid by next is in
    let low = link_low (fabric.most + 1) (get_or fabric.sides (switch * fabric.most + (by - 1)) Bare) by next entry leads in
    subst (LeadsWithin (switch_count fabric)) low.2 (fits.within (switch * fabric.most + (by - 1)) (to_low fabric.sides (switch * fabric.most + (by - 1)) next entry low.2))

module _ (fabric : FabricOf) where
  pub channel_low : (channel : Channel) → IsChannel fabric channel → (0 < channel.port) × (channel.port ≤ fabric.most)
  channel_low channel is = let low = link_low (fabric.most + 1) (get_or fabric.sides (channel.switch * fabric.most + (channel.port - 1)) Bare) channel.port is.to is.entry is.leads in (low.0, (let b = low.1 in omega arith))

  -- the number of a channel is one of those of all ports
  pub channel_place : IsFabric fabric → (channel : Channel) → IsChannel fabric channel → number fabric channel < switch_count fabric * fabric.most
  channel_place fits channel is =
      let low = link_low (fabric.most + 1) (get_or fabric.sides (channel.switch * fabric.most + (channel.port - 1)) Bare) channel.port is.to is.entry is.leads in
      let here = to_low fabric.sides (channel.switch * fabric.most + (channel.port - 1)) is.to is.entry low.2 in
      let all = fits.count in
      omega arith

  same_parts : (a b : Channel) → a.switch ≡ b.switch → a.port ≡ b.port → a ≡ b
  same_parts a b switch port = ap (λ (s : ℕ). let c : Channel = record { switch = s; port = a.port } in c) switch ∙ ap (λ (p : ℕ). let c : Channel = record { switch = b.switch; port = p } in c) port

  pub one_channel : (a b : Channel) → IsChannel fabric a → IsChannel fabric b → number fabric a ≡ number fabric b → a ≡ b
  one_channel a b is_a is_b same =
      let low_a = channel_low a is_a in
      let low_b = channel_low b is_b in
      let parts = same_from_place a.switch (a.port - 1) b.switch (b.port - 1) fabric.most (omega arith) (omega arith) same in
      same_parts a b parts.0 (let p = parts.1 in omega arith)

  module _ (tables : TablesOf) (traffic : Traffic) where
    pub first_is : (lid : ℕ) (source : EndPort) (channel next : Channel) → Takes fabric tables traffic lid source channel next → IsChannel fabric channel
    first_is lid source channel next takes = let link = on_link fabric tables channel.switch lid channel.port next.switch takes.first in record { to = next.switch; entry = link.0; leads = link.1 }

    pub second_is : (lid : ℕ) (source : EndPort) (channel next : Channel) → Takes fabric tables traffic lid source channel next → IsChannel fabric next
    second_is lid source channel next takes = let link = on_link fabric tables next.switch lid next.port takes.after takes.second in record { to = takes.after; entry = link.0; leads = link.1 }

    pub all_found : (old new : GraphOf) (told : Bool) → IsGraphOf fabric old → ((one other : ℕ) → LeadsTo old one other → ⊥) → AreFound fabric tables traffic old new told → AreDependencies fabric tables traffic new
    all_found old new told rows none found = record {
      count = ap (λ (xs : List ℕ). length xs) found.bases ∙ rows.count;
      exact = λ channel next is_channel is_next. (
        λ leads. elim ((found.leads (number fabric channel) (number fabric next)).0 leads) [
          | inl had ↦ absurd (none (number fabric channel) (number fabric next) had)
          | inr (lid, by) ↦ (
            lid,
            by.source,
            (
                let one = one_channel channel by.channel is_channel (first_is lid by.source by.channel by.next by.takes) by.is_one in
                let other = one_channel next by.next is_next (second_is lid by.source by.channel by.next by.takes) by.is_other in
                subst (λ (a : Channel). Takes fabric tables traffic lid by.source a next) (sym one) (subst (λ (b : Channel). Takes fabric tables traffic lid by.source by.channel b) (sym other) by.takes)),
          )
        ],
        λ (lid, source, takes). (found.leads (number fabric channel) (number fabric next)).1 (inr (lid, record { source = source; channel = channel; next = next; takes = takes; is_one = refl; is_other = refl })),
      );
      only = λ one other leads. elim ((found.leads one other).0 leads) [
        | inl had ↦ absurd (none one other had)
        | inr (lid, by) ↦ (by.channel, by.next, first_is lid by.source by.channel by.next by.takes, second_is lid by.source by.channel by.next by.takes, by.is_one, by.is_other)
      ];
    }

-- what the side of a port says of the hop by it
pub no_next : (fabric : FabricOf) (switch lid port : ℕ) → (IsTo (side_of fabric switch port) → ⊥) → (by next : ℕ) → hop_by fabric switch lid (Some port) ≡ On by next → ⊥
no_next fabric switch lid port none by next is =
    let found = choose (eqb port 0) (ends_at_switch (owner_of fabric lid) switch) (owner_of fabric lid) port (side_of fabric switch port) by next is in
    none (subst IsTo (sym found.1.1) tt)

to_of : (side : Side) → IsTo side → (next entry : ℕ) × (side ≡ To next entry)
to_of (To next entry) is = (next, entry, refl)
to_of Bare is = absurd is
to_of (End end) is = absurd is

turn_on : (b c : Bool) (owner : Option EndPort) (port : ℕ) (side : Side) (next entry : ℕ) → b ≡ false → side ≡ To next entry → cond b (end_if c) (hop_over owner port side) ≡ On port next
turn_on true c owner port side next entry away is = absurd (cc)
turn_on false c owner port side next entry away is = ap (λ (s : Side). hop_over owner port s) is

pub goes_next : (fabric : FabricOf) (switch lid port : ℕ) → IsTo (side_of fabric switch port) → (next : ℕ) × (hop_by fabric switch lid (Some port) ≡ On port next)
goes_next fabric switch lid port is =
    let to = to_of (side_of fabric switch port) is in
    let low = link_low (fabric.most + 1) (get_or fabric.sides (switch * fabric.most + (port - 1)) Bare) port to.0 to.1 to.2 in
    let used = low.0 in
    (to.0, turn_on (eqb port 0) (ends_at_switch (owner_of fabric lid) switch) (owner_of fabric lid) port (side_of fabric switch port) to.0 to.1 (grind (arith, nat_tests)) to.2)

module _ (fabric : FabricOf) (tables : TablesOf) (switch lid : ℕ) where
  by_table : (told : Option ℕ) → told ≡ tables switch lid → hop fabric tables switch lid ≡ hop_by fabric switch lid told
  unfolding hop
  by_table told is = ap (λ (t : Option ℕ). hop_by fabric switch lid t) (sym is)

  none_on : (by next : ℕ) → hop_by fabric switch lid None ≡ On by next → ⊥
  none_on by next is = cc

  pub hop_missing : None ≡ tables switch lid → (by next : ℕ) → hop fabric tables switch lid ≡ On by next → ⊥
  hop_missing is by next on = none_on by next (sym (by_table None is) ∙ on)

  pub hop_ends : (port : ℕ) → Some port ≡ tables switch lid → (IsTo (side_of fabric switch port) → ⊥) → (by next : ℕ) → hop fabric tables switch lid ≡ On by next → ⊥
  hop_ends port is none by next on = no_next fabric switch lid port none by next (sym (by_table (Some port) is) ∙ on)

  pub hop_goes : (port : ℕ) → Some port ≡ tables switch lid → IsTo (side_of fabric switch port) → (next : ℕ) × (hop fabric tables switch lid ≡ On port next)
  hop_goes port is to = let on = goes_next fabric switch lid port to in (on.0, by_table (Some port) is ∙ on.1)

pub port_low : (fabric : FabricOf) (switch port : ℕ) → IsTo (side_of fabric switch port) → (0 < port) × (port ≤ fabric.most)
port_low fabric switch port is =
    let to = to_of (side_of fabric switch port) is in
    let low = link_low (fabric.most + 1) (get_or fabric.sides (switch * fabric.most + (port - 1)) Bare) port to.0 to.1 to.2 in
    (low.0, (let b = low.1 in omega arith))

-- the channel by which the next switch sends is one of the rows
pub insert_low : (fabric : FabricOf) (graph : GraphOf) (at port next next_port : ℕ) → IsGraphOf fabric graph → IsLink fabric at port next → 0 < next_port → next_port ≤ fabric.most → get_or graph.bases (at * fabric.most + (port - 1)) 0 + (next_port - 1) < length graph.bases
insert_low fabric graph at port next next_port rows link some low =
    let base = rows.bases at port next link.entry link.leads in
    let count = rows.count in
    let place = mul-add-lt next fabric.most (next_port - 1) (switch_count fabric) link.within (omega arith) in
    omega arith

-- the same by the numbers of the code
pub insert_as : (fabric : FabricOf) (graph : GraphOf) (at port next next_port wide_most wide_port wide_next : ℕ) → wide_most ≡ fabric.most → wide_port ≡ port → wide_next ≡ next_port → IsGraphOf fabric graph → IsLink fabric at port next → 0 < next_port → next_port ≤ fabric.most → get_or graph.bases (at * wide_most + (wide_port - 1)) 0 + (wide_next - 1) < length graph.bases
insert_as fabric graph at port next next_port wide_most wide_port wide_next m p n rows link some low =
    let channel : at * wide_most + (wide_port - 1) ≡ at * fabric.most + (port - 1) = cc in
    let base = ap (λ (k : ℕ). get_or graph.bases k 0) channel in
    let place = insert_low fabric graph at port next next_port rows link some low in
    omega arith

pub base_as : (most wide : ℕ) (side at : Side) (base : ℕ) → most ≡ wide → side ≡ at → base ≡ base_of most side → base ≡ base_of wide at
base_as most wide side at base same is e = e ∙ ap (λ (m : ℕ). base_of m side) same ∙ ap (base_of wide) is

-- the channel of a link is a node, and the offset of the next one is within its row
pub node_as : (fabric : FabricOf) (graph : GraphOf) (at port wide_most wide_port : ℕ) → wide_most ≡ fabric.most → wide_port ≡ port → IsGraphOf fabric graph → at < switch_count fabric → 0 < port → port ≤ fabric.most → at * wide_most + (wide_port - 1) < length graph.bases
node_as fabric graph at port wide_most wide_port m p rows low used few =
    let channel : at * wide_most + (wide_port - 1) ≡ at * fabric.most + (port - 1) = cc in
    let place = mul-add-lt at fabric.most (port - 1) (switch_count fabric) low (omega arith) in
    let count = rows.count in
    omega arith

pub offset_as : (fabric : FabricOf) (graph : GraphOf) (port wide_port : ℕ) → wide_port ≡ port → IsGraphOf fabric graph → 0 < port → port ≤ fabric.most → wide_port - 1 < 64 * graph.wide
offset_as fabric graph port wide_port p rows used few = let wide = rows.wide in omega arith
