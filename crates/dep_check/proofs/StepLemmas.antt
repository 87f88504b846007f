use Rattle.std.proofs.Common.{◌≡◌, ◌≢◌, ◌∙◌, sym, ap, subst, refl, ℕ, ◌<◌, List, Option, Some, None, true, arith, inl, inr}
use Rattle.std.specs.Prelude.{IfSome}
use Rattle.std.specs.Int.{bit_at}
use Rattle.std.proofs.lemmas.Bool.{cases_eq}
use Rattle.std.proofs.lemmas.Nat.Bits.{bit_at-lt, bit_at-zero, same_from_bits}
use Rattle.std.proofs.lemmas.Option.{same_Some}
use Rattle.dep_check.specs.declared.channel.Channel.{Channel}
use Rattle.dep_check.specs.declared.steps.Steps.{Steps}
use Rattle.dep_check.specs.Ports.{HasOnlyPorts}
use Rattle.dep_check.specs.Tables.{IsSpot, wire_at, has_at, has_port}
use Rattle.dep_check.specs.Search.{ComesIn, Depends, GoesBy, HasLoosePort, IsEnd, IsStepOf, Step}
use Rattle.dep_check.proofs.PortLemmas.{bit_of, port_of}

-- where each answer is a spot, the answer is one
pub if_spot : (o : Option Channel) → ((b : Channel) → o ≡ Some b → IsSpot b) → IfSome o IsSpot
if_spot None all = tt
if_spot (Some b) all = all b refl

-- the exit of a step is a port
pub step_low : (wires : List (Option Channel)) (exits : List ℕ) (to : Option ℕ) (s : Channel) (e : ℕ) (b : Channel) → IsStepOf wires exits to s e b → e < 13
step_low wires exits None s e b is = is.low
step_low wires exits (Some to) s e b is = is.low

-- the channel of an exit of the far side
abbrev pub exit_of : Channel → ℕ → Channel
exit_of far e = record { at = far.at; port = e }

pub channel_found : (wires : List (Option Channel)) (exits : List ℕ) (s far link : Channel) (e : ℕ) → e < 13 → wire_at wires s ≡ Some far → has_at exits far e ≡ true → wire_at wires (exit_of far e) ≡ Some link → (b : Channel) → (Some (exit_of far e) ≡ Some b → Depends wires exits s e b) × (Depends wires exits s e b → Some (exit_of far e) ≡ Some b)
channel_found wires exits s far link e low is has there b = (
  λ same. subst (λ (x : Channel). Depends wires exits s e x) (same_Some (exit_of far e) b same) (record { low = low; entry = far.port; arrives = is; port = refl; has = has; far = link; link = there }),
  λ d.
      let same : far ≡ record { at = b.at; port = d.entry } = same_Some far (record { at = b.at; port = d.entry }) (sym is ∙ d.arrives) in
      ap (λ (x : Channel). Some (exit_of x e)) same ∙ ap (λ (p : ℕ). Some (exit_of b p)) (sym d.port),
)

-- a channel leads to another by what comes in at an entry, where the entry's far side is the channel
pub comes_in : (steps : Steps) (a b : Channel) (e : ℕ) → (step : IsStepOf steps.wires.items steps.exits.items None a e b) → ComesIn steps a b step.entry
comes_in steps a b e step = record {
  arrives = step.arrives;
  has = subst (λ (p : ℕ). has_at steps.exits.items (record { at = b.at; port = step.entry }) p ≡ true) (sym step.port) step.has;
  link = (step.far, step.link);
}

pub before_found : (steps : Steps) (a b near link : Channel) (o : Option Channel) → near ≡ record { at = b.at; port = near.port } → has_at steps.exits.items near b.port ≡ true → wire_at steps.wires.items b ≡ Some link → o ≡ wire_at steps.wires.items near → (o ≡ Some a → ComesIn steps a b near.port) × (ComesIn steps a b near.port → o ≡ Some a)
before_found steps a b near link o is has linked same = (
  λ e. record {
    arrives = steps.links.back near a (sym same ∙ e) ∙ ap (λ (c : Channel). Some c) is;
    has = subst (λ (c : Channel). has_at steps.exits.items c b.port ≡ true) is has;
    link = (link, linked);
  },
  λ comes. same ∙ ap (wire_at steps.wires.items) is ∙ steps.links.back a (record { at = b.at; port = near.port }) comes.arrives,
)

-- a step of channels comes in by an entry
entry_at : (steps : Steps) (a b : Channel) (e : ℕ) (to : Option ℕ) → to ≡ None → IsStepOf steps.wires.items steps.exits.items to a e b → (entry : ℕ) × (entry < 13) × ComesIn steps a b entry
entry_at steps a b e None none step = (step.entry, (steps.links.within a (record { at = b.at; port = step.entry }) step.arrives).port, comes_in steps a b e step)
entry_at steps a b e (Some to) none step = absurd (cc)

pub entry_of : (steps : Steps) (a b : Channel) → steps.to ≡ None → Step steps a b → (entry : ℕ) × (entry < 13) × ComesIn steps a b entry
entry_of steps a b none (e, step) = entry_at steps a b e steps.to none step

-- the exits of steps are in the set of what the table has
pub channel_bit : (wires : List (Option Channel)) (exits : List ℕ) (s far : Channel) (set : ℕ) → wire_at wires s ≡ Some far → ((p : ℕ) → p < 13 → has_port set p ≡ has_at exits far p) → (e : ℕ) (b : Channel) → Depends wires exits s e b → bit_at set e ≡ 1
channel_bit wires exits s far set is told e b d =
    let same : far ≡ record { at = b.at; port = d.entry } = same_Some far (record { at = b.at; port = d.entry }) (sym is ∙ d.arrives) in
    bit_of set e (told e d.low ∙ ap (λ (x : Channel). has_at exits x e) same ∙ d.has)

pub no_channel : (wires : List (Option Channel)) (exits : List ℕ) (s : Channel) → wire_at wires s ≡ None → (e : ℕ) (b : Channel) → Depends wires exits s e b → ⊥
no_channel wires exits s none e b d = absurd (let gone : None ≡ Some (record { at = b.at; port = d.entry }) = sym none ∙ d.arrives in cc)

pub packet_bit : (wires : List (Option Channel)) (exits : List ℕ) (to : ℕ) (s : Channel) (set : ℕ) → ((p : ℕ) → p < 13 → has_port set p ≡ has_at exits s p) → (e : ℕ) (b : Channel) → GoesBy wires exits to s e b → bit_at set e ≡ 1
packet_bit wires exits to s set told e b goes = bit_of set e (told e goes.low ∙ goes.has)

-- packets get stuck where the set is empty, or has a port without a link
pub end_empty : (wires : List (Option Channel)) (exits : List ℕ) (to : ℕ) (s : Channel) (set : ℕ) → s.at ≢ to → set ≡ 0 → ((p : ℕ) → p < 13 → has_port set p ≡ has_at exits s p) → IsEnd wires exits to s
end_empty wires exits to s set before none told = record {
  before = before;
  gap = inl (λ e low has. absurd (
      let bit = bit_of set e (told e low ∙ has) in
      let z = bit_at-zero e in
      let same : bit_at set e ≡ bit_at 0 e = ap (λ (n : ℕ). bit_at n e) none in
      omega arith));
}

pub end_loose : (wires : List (Option Channel)) (exits : List ℕ) (to : ℕ) (s : Channel) (set : ℕ) → s.at ≢ to → HasOnlyPorts set → ((p : ℕ) → p < 13 → has_port set p ≡ has_at exits s p) → HasLoosePort wires s.at set → IsEnd wires exits to s
end_loose wires exits to s set before ports told (p, has, none) = record { before = before; gap = inr (p, ports p has, sym (told p (ports p has)) ∙ port_of set p has, none) }

pub loose_end : (wires : List (Option Channel)) (exits : List ℕ) (to : ℕ) (s : Channel) (set : ℕ) → set ≢ 0 → HasOnlyPorts set → ((p : ℕ) → p < 13 → has_port set p ≡ has_at exits s p) → IsEnd wires exits to s → HasLoosePort wires s.at set
loose_end wires exits to s set some ports told end = elim end.gap [
  | inl none ↦ absurd (some (same_from_bits set 0 (λ i. elim (cases_eq (bit_at set i) 1) [
    | inl has ↦ absurd (none i (ports i has) (sym (told i (ports i has)) ∙ port_of set i has))
    | inr other ↦ (let most = bit_at-lt set i in let z = bit_at-zero i in omega arith)
  ])))
  | inr (e, low, has, none) ↦ (e, bit_of set e (told e low ∙ has), none)
]
