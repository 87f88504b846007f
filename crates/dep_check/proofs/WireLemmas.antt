use Rattle.std.proofs.Common.{◌≡◌, ◌∙◌, sym, ap, ℕ, ◌<◌, List, Option, Some, None, arith, length, inl, inr}
use Rattle.std.specs.Prelude.{slice_index}
use Rattle.std.proofs.lemmas.Option.{same_Some}
use Rattle.std.specs.Option.{option_and_then, option_map}
use Rattle.an_base.specs.Values.{EntryOf}
use Rattle.an_base.specs.Numbers.{AreNumbers}
use Rattle.topo_graph.specs.Topology.{far_of, IsGraph}
use Rattle.dep_check.specs.declared.channel.Channel.{Channel}
use Rattle.dep_check.specs.Channels.{place_in, by_number, far_at}
use Rattle.dep_check.specs.Tables.{IsSpot, wire_at, AreWires, AreWiresBelow}
use Rattle.dep_check.proofs.SpotLemmas.{option_cases, place_low, spot_true, spot_cases}
use Rattle.dep_check.proofs.BridgeLemmas.{place_contained, place_found, number_low, wire_spot}
use Rattle.topo_graph.proofs.FarLemmas.{far_back}

-- what has a far side is a spot
pub far_spot : (es : List EntryOf) (numbers : List ℕ) (s far : Channel) → IsGraph es → AreNumbers numbers → far_at es numbers s ≡ Some far → IsSpot s
far_spot es numbers s far graph named e = elim (option_cases (place_in numbers s.at)) [
  | inl none ↦ absurd (let gone : far_at es numbers s ≡ None = ap (λ (o : Option ℕ). option_and_then (λ x. option_map (by_number numbers) (far_of es x s.port)) o) none in cc)
  | inr place ↦ (
      let there : far_at es numbers s ≡ option_map (by_number numbers) (far_of es place.0 s.port) = ap (λ (o : Option ℕ). option_and_then (λ x. option_map (by_number numbers) (far_of es x s.port)) o) place.1 in
      elim (option_cases (far_of es place.0 s.port)) [
        | inl none ↦ absurd (let gone : option_map (by_number numbers) (far_of es place.0 s.port) ≡ None = ap (option_map (by_number numbers)) none in cc)
        | inr end ↦ (let within = graph.within place.0 s.port end.0 end.1 in record { at = number_low numbers s.at named (place_contained numbers s.at place.0 place.1).0; port = (let most = within.port_most in omega arith) })
      ])
]

-- the far side of a port by places, and by numbers
pub far_by : (es : List EntryOf) (numbers : List ℕ) (x p z q n : ℕ) → place_in numbers n ≡ Some x → far_of es x p ≡ Some (z, q) → far_at es numbers (record { at = n; port = p }) ≡ Some (record { at = slice_index numbers z; port = q })
far_by es numbers x p z q n place e =
    ap (λ (o : Option ℕ). option_and_then (λ y. option_map (by_number numbers) (far_of es y p)) o) place ∙ ap (λ (o : Option (ℕ × ℕ)). option_map (by_number numbers) o) e

pub by_far : (es : List EntryOf) (numbers : List ℕ) → IsGraph es → (c end : Channel) → far_at es numbers c ≡ Some end → (x z : ℕ) × (place_in numbers c.at ≡ Some x) × (far_of es x c.port ≡ Some (z, end.port)) × (z < length es) × (slice_index numbers z ≡ end.at)
by_far es numbers graph c end e = elim (option_cases (place_in numbers c.at)) [
  | inl none ↦ absurd (let gone : far_at es numbers c ≡ None = ap (λ (o : Option ℕ). option_and_then (λ y. option_map (by_number numbers) (far_of es y c.port)) o) none in cc)
  | inr place ↦ (
      let there : far_at es numbers c ≡ option_map (by_number numbers) (far_of es place.0 c.port) = ap (λ (o : Option ℕ). option_and_then (λ y. option_map (by_number numbers) (far_of es y c.port)) o) place.1 in
      elim (option_cases (far_of es place.0 c.port)) [
        | inl none ↦ absurd (let gone : option_map (by_number numbers) (far_of es place.0 c.port) ≡ None = ap (option_map (by_number numbers)) none in cc)
        | inr far ↦ (
            let is : by_number numbers far.0 ≡ end = same_Some (by_number numbers far.0) end (sym (ap (option_map (by_number numbers)) far.1) ∙ sym there ∙ e) in
            let port : far.0.1 ≡ end.port = ap (λ (b : Channel). b.port) is in
            (place.0, far.0.0, place.1, far.1 ∙ ap (λ (q : ℕ). Some (far.0.0, q)) port, (graph.within place.0 c.port far.0 far.1).far_place, ap (λ (b : Channel). b.at) is))
      ])
]

-- the far side of a far side is where it came from
pub far_at_back : (es : List EntryOf) (numbers : List ℕ) → IsGraph es → AreNumbers numbers → length numbers ≡ length es → (c end : Channel) → far_at es numbers c ≡ Some end → far_at es numbers end ≡ Some c
far_at_back es numbers graph named count c end e =
    let far = by_far es numbers graph c end e in
    let back = far_back es far.0 c.port far.1 end.port graph far.3 in
    let place = place_found numbers far.1 end.at named (let low = far.4 in omega arith) far.5 in
    let at = (place_contained numbers c.at far.0 far.2).2 in
    far_by es numbers far.1 end.port far.0 c.port end.at place back ∙ ap (λ (n : ℕ). Some (channel n c.port)) at
  where
    channel : ℕ → ℕ → Channel
    channel n p = record { at = n; port = p }

pub all_wires : (es : List EntryOf) (numbers : List ℕ) (wires : List (Option Channel)) (end : ℕ) → IsGraph es → AreNumbers numbers → length numbers ≡ length es → end ≡ 1651 → AreWiresBelow (far_at es numbers) end wires → AreWires (far_at es numbers) wires
all_wires es numbers wires end graph named count all below =
    let is : (s : Channel) → wire_at wires s ≡ far_at es numbers s = wires_each es numbers wires end graph named all below in
    record {
      each = is;
      links = record {
        within = λ s far e.
            let spot = wire_spot wires s far e in
            let low = place_low s spot in
            below.within s far spot (omega arith) (rw (spot_true s spot) at e);
        back = λ s far e. is far ∙ far_at_back es numbers graph named count s far (sym (is s) ∙ e);
      };
    }
  where
    wires_each : (es : List EntryOf) (numbers : List ℕ) (wires : List (Option Channel)) (end : ℕ) → IsGraph es → AreNumbers numbers → end ≡ 1651 → AreWiresBelow (far_at es numbers) end wires → (s : Channel) → wire_at wires s ≡ far_at es numbers s
    wires_each es numbers wires end graph named all below s = elim (spot_cases s) [
      | inl spot ↦ (let low = place_low s spot in rw (spot_true s spot) (below.each s spot (omega arith)))
      | inr other ↦ rw other (elim (option_cases (far_at es numbers s)) [
        | inl none ↦ sym none
        | inr far ↦ absurd (let t = spot_true s (far_spot es numbers s far.0 graph named far.1) in cc)
      ])
    ]
