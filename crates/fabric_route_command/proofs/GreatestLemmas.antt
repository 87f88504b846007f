-- The greatest load, and who sends from a switch.
use Rattle.std.proofs.Common.{◌≡◌, ◌≢◌, ◌∙◌, sym, ap, subst, refl, ℕ, zero, suc, ◌+◌, ◌*◌, ◌/◌, ◌%◌, ◌<◌, ◌≤◌, ◌⊎◌, arith, inl, inr, length, get_or, mul_comm, Some}
use Rattle.std.proofs.lemmas.Bool.{cases_lt}
use Rattle.std.proofs.Math.Nat.{div-add-mod, div-lt_iff_lt-mul, mod-lt}
use Rattle.fabric_tables.specs.Cells.{TablesOf}
use Rattle.fabric_counts.specs.Counts.{Route}
use Rattle.fabric_model.specs.declared.node.EndPort.{EndPort}
use Rattle.fabric_model.specs.Fabric.{FabricOf, IsFabric, owner_of, start_of, switch_count}
use Rattle.fabric_routes.specs.Counting.{IsCountOf}
use Rattle.fabric_model.specs.declared.traffic.Traffic.TheVariants.{Hosts}
use Rattle.fabric_routes.specs.Found.{number}
use Rattle.fabric_routes.specs.Routes.{Channel, ComesBy, IsTarget, Sends}
use Rattle.fabric_routes.proofs.ChannelLemmas.{channel_low, hop_within, on_link}
use Rattle.fabric_routes.proofs.CountLemmas.{count_image, count_none, count_same}
use Rattle.fabric_routes.proofs.StartLemmas.{sender_is, start_low}
use Rattle.fabric_route_command.specs.declared.loads.Loads.{Loads}
use Rattle.fabric_route_command.specs.Loads.{AreAllLoads, IsFrom, IsHostAt, IsPlace}
use Rattle.fabric_route_command.specs.Measured.{GoesOver, IsGreatestLoad}

-- who sends to a LID from a switch
module _ (fabric : FabricOf) (tables : TablesOf) (lid switch : ℕ) (owner : EndPort) (owns : owner_of fabric lid ≡ Some owner) (is_target : IsTarget fabric Hosts owner) where
  abbrev IsOther : EndPort → Type 0
  IsOther source = IsHostAt fabric switch source × (source ≢ owner)

  abbrev to_lid : EndPort → Route
  to_lid source = record { lid = lid; source = source }

  other_sends : (source : EndPort) → IsOther source → Sends fabric tables Hosts lid source
  other_sends source ((is_source, begins), other) = inl (record { is_source = is_source; owner = owner; owns = owns; is_target = is_target; may = tt; other = other })

  sender_other : (source : EndPort) → start_of fabric source ≡ Some switch → Sends fabric tables Hosts lid source → IsOther source
  sender_other source begins (inl sends) = ((sends.is_source, begins), λ same. sends.other (same ∙ (let mine = sends.owns in let e : owner ≡ sends.owner = cc in e)))
  sender_other source begins (inr sends) = absurd (let by = sends.by_rows in cc)

  pub count_from : (count : ℕ) → IsCountOf IsOther count → IsCountOf (IsFrom fabric tables lid switch) count
  count_from count = count_image EndPort Route to_lid IsOther (IsFrom fabric tables lid switch) count
      (λ source is. (other_sends source is, refl, is.0.1))
      (λ route (is, here, begins). (
        route.source,
        sender_other route.source begins (subst (λ (l : ℕ). Sends fabric tables Hosts l route.source) here is),
        ap (λ (l : ℕ). let r : Route = record { lid = l; source = route.source } in r) (sym here),
      ))
      (λ one other same. ap (λ (r : Route). r.source) same)

-- nobody sends to a LID that is not that of such a target
pub nobody_sends : (fabric : FabricOf) (tables : TablesOf) (lid : ℕ) → ((owner : EndPort) → owner_of fabric lid ≡ Some owner → IsTarget fabric Hosts owner → ⊥) → (source : EndPort) → Sends fabric tables Hosts lid source → ⊥
nobody_sends fabric tables lid none source (inl sends) = none sends.owner sends.owns sends.is_target
nobody_sends fabric tables lid none source (inr sends) = absurd (let by = sends.by_rows in cc)

-- what a count of none says
pub no_more : (A : Type 0) (Is : A → Type 0) (count : ℕ) → count ≡ 0 → IsCountOf Is count → (x : A) → Is x → ⊥
no_more A Is count none is x one = absurd (let low = (is.each x one).1 in let size = is.size in omega arith)

module _ (fabric : FabricOf) (tables : TablesOf) (fits : IsFabric fabric) where
  comes_low : (lid hops start at : ℕ) → start < switch_count fabric → ComesBy fabric tables lid hops start at → at < switch_count fabric
  comes_low lid zero start at low same = subst (λ (s : ℕ). s < switch_count fabric) same low
  comes_low lid (suc hops) start at low (before, port, walk, goes) = hop_within fabric fits tables before lid port at goes

  over_place : (channel : Channel) (route : Route) → GoesOver fabric tables channel route → IsPlace fabric channel
  over_place channel route over =
      let link = on_link fabric tables channel.switch route.lid channel.port over.next over.goes in
      let low = channel_low fabric channel (record { to = over.next; entry = link.0; leads = link.1 }) in
      let comes = over.comes in
      let begins = start_low fabric fits Hosts route.source comes.start (sender_is fabric tables Hosts route.lid route.source comes.sends) comes.begins in
      record { switch = comes_low route.lid comes.hops comes.start channel.switch begins comes.comes; used = low.0; low = low.1 }

  place_or : (channel : Channel) → IsPlace fabric channel ⊎ (IsPlace fabric channel → ⊥)
  place_or channel = elim (cases_lt channel.switch (switch_count fabric)) [
    | inr past ↦ inr (λ is. absurd (let low = is.switch in omega arith))
    | inl within ↦ elim (cases_lt 0 channel.port) [
      | inr none ↦ inr (λ is. absurd (let low = is.used in omega arith))
      | inl used ↦ elim (cases_lt fabric.most channel.port) [
        | inl high ↦ inr (λ is. absurd (let low = is.low in omega arith))
        | inr low ↦ inl (record { switch = within; used = used; low = low })
      ]
    ]
  ]

  -- the channel with a number
  some_ports : (at : ℕ) → at < switch_count fabric * fabric.most → 0 < fabric.most
  some_ports at low = elim (cases_lt 0 fabric.most) [
    | inl some ↦ some
    | inr none ↦ (
        let e : fabric.most ≡ 0 = omega arith in
        let f = ap (λ (m : ℕ). switch_count fabric * m) e in
        absurd (omega arith))
  ]

  abbrev numbered : ℕ → Channel
  numbered at = record { switch = at / fabric.most; port = at % fabric.most + 1 }

  numbered_is : (at : ℕ) → at < switch_count fabric * fabric.most → IsPlace fabric (numbered at) × (number fabric (numbered at) ≡ at)
  numbered_is at low =
      let some = some_ports at low in
      let rest = mod-lt at some in
      let whole = div-add-mod at fabric.most in
      let turn = mul_comm fabric.most (at / fabric.most) in (
        record { switch = (div-lt_iff_lt-mul some).1 low; used = omega arith; low = omega arith },
        omega arith,
      )

  module _ (loads : Loads) (are : AreAllLoads fabric tables loads) where
    load_is : (channel : Channel) → IsPlace fabric channel → IsCountOf (GoesOver fabric tables channel) (get_or loads.each.items (number fabric channel) 0)
    load_is channel is = count_same Route (λ route. GoesOver fabric tables channel route × Unit {0}) (GoesOver fabric tables channel) (get_or loads.each.items (number fabric channel) 0)
        (λ route one. one.0) (λ route over. (over, tt)) (are.exact.each channel is)

    pub hops_are : IsCountOf {A = Route × Channel} (λ pair. GoesOver fabric tables pair.1 pair.0) loads.hops
    hops_are = count_same (Route × Channel) (λ pair. GoesOver fabric tables pair.1 pair.0 × Unit {0}) (λ pair. GoesOver fabric tables pair.1 pair.0) loads.hops
        (λ pair one. one.0) (λ pair over. (over, tt)) are.exact.all

    pub greatest_is : (greatest : ℕ) → ((at : ℕ) → get_or loads.each.items at 0 ≤ greatest) → (greatest ≢ 0 → (at : ℕ) × (at < length loads.each.items) × (get_or loads.each.items at 0 ≡ greatest)) → IsGreatestLoad fabric tables greatest
    greatest_is greatest most some = record {
      most = λ channel. elim (place_or channel) [
        | inl is ↦ (get_or loads.each.items (number fabric channel) 0, load_is channel is, most (number fabric channel))
        | inr not ↦ (0, count_none Route (GoesOver fabric tables channel) (λ route over. not (over_place channel route over)), omega arith)
      ];
      some = λ other.
          let at = some other in
          let place = numbered_is at.0 (let low = at.1 in let size = are.exact.size in omega arith) in
          let load = load_is (numbered at.0) place.0 in
          (numbered at.0, subst (λ (n : ℕ). IsCountOf (GoesOver fabric tables (numbered at.0)) n) (ap (λ (k : ℕ). get_or loads.each.items k 0) place.1 ∙ at.2) load);
    }
