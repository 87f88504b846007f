-- Routes that are followed until they come to a switch.
use Rattle.std.proofs.Common.{◌≡◌, ◌≢◌, ◌∙◌, sym, ap, subst, refl, ℕ, zero, suc, ◌+◌, ◌*◌, ◌≤◌, Bool, true, false, cond, eqb, Some, arith, inl, inr}
use Rattle.std.proofs.lemmas.Bool.{cases_eq}
use Rattle.std.proofs.lemmas.Bool.Decides.{nat_tests}
use Rattle.fabric_model.specs.Fabric.{FabricOf}
use Rattle.fabric_tables.specs.Cells.{TablesOf}
use Rattle.fabric_routes.specs.declared.hop.Cause.{Cause}
use Rattle.fabric_routes.specs.declared.hop.Hop.{Hop}
use Rattle.fabric_routes.specs.declared.hop.Hop.TheVariants.{On, Arrive, Stop}
use Rattle.fabric_routes.specs.declared.hop.Outcome.TheVariants.{Arrives, Stops, Loops}
use Rattle.fabric_routes.specs.declared.trace.Target.{Target}
use Rattle.fabric_routes.specs.Routes.{ComesBy, EndsAs, WalksBy, hop}
use Rattle.fabric_routes.specs.Trace.{hop_to, not_there}
use Rattle.fabric_routes.proofs.TraceLemmas.{ends_longer}

module _ (hop_at : ℕ → Hop) where
  -- the first hop of a walk
  pub walk_split : (hops start at : ℕ) → WalksBy hop_at (suc hops) start at → (port next : ℕ) × (hop_at start ≡ On port next) × WalksBy hop_at hops next at
  walk_split zero start at (before, port, same, on) = (port, at, ap hop_at same ∙ on, refl)
  walk_split (suc hops) start at (before, port, walk, on) =
      let rest = walk_split hops start before walk in
      (rest.0, rest.1, rest.2, (before, port, rest.3, on))

  -- no walk goes further than to where the route ends
  abbrev pub IsLast : ℕ → Type 0
  IsLast at = (port next : ℕ) → hop_at at ≡ On port next → ⊥

  pub no_further : (hops start at : ℕ) → WalksBy hop_at hops start at → IsLast at → (other there : ℕ) → WalksBy hop_at other start there → other ≤ hops
  no_further zero start at same last zero there walk = omega arith
  no_further zero start at same last (suc other) there walk = absurd (let step = walk_split other start there walk in last step.0 step.1 (ap hop_at (sym same) ∙ step.2))
  no_further (suc hops) start at walk last zero there other = omega arith
  no_further (suc hops) start at walk last (suc other) there beyond =
      let step = walk_split hops start at walk in
      let more = walk_split other start there beyond in
      let one = step.2 in
      let two = more.2 in
      let same : more.1 ≡ step.1 = cc in
      let rest = no_further hops step.1 at step.3 last other there (subst (λ (n : ℕ). WalksBy hop_at other n there) same more.3) in
      omega arith

  same_end : (hops start at there : ℕ) → WalksBy hop_at hops start at → WalksBy hop_at hops start there → at ≡ there
  same_end zero start at there one other = sym one ∙ other
  same_end (suc hops) start at there (before, port, walk, on) (other_before, other_port, other_walk, other_on) =
      let same = same_end hops start before other_before walk other_walk in
      let e : hop_at before ≡ hop_at other_before = ap hop_at same in
      cc

  arrive_last : (at : ℕ) → hop_at at ≡ Arrive → IsLast at
  arrive_last at is port next on = cc

  stop_last : (at : ℕ) (cause : Cause) → hop_at at ≡ Stop cause → IsLast at
  stop_last at cause is port next on = cc

  -- a route that arrives neither stops nor goes on for ever
  pub arrives_alone : (start switches : ℕ) (cause : Cause) → EndsAs hop_at start (Arrives switches) → EndsAs hop_at start (Stops cause) → ⊥
  arrives_alone start switches cause (hops, at, walk, is, count) (other, there, other_walk, stop) =
      let a = no_further hops start at walk (arrive_last at is) other there other_walk in
      let b = no_further other start there other_walk (stop_last there cause stop) hops at walk in
      let n : other ≡ hops = omega arith in
      let same = same_end hops start at there walk (subst (λ (k : ℕ). WalksBy hop_at k start there) n other_walk) in
      let e : hop_at at ≡ hop_at there = ap hop_at same in
      absurd (cc)

  pub arrives_soon : (start switches : ℕ) → EndsAs hop_at start (Arrives switches) → EndsAs hop_at start Loops → ⊥
  arrives_soon start switches (hops, at, walk, is, count) loops =
      let far = loops (suc hops) in
      let most = no_further hops start at walk (arrive_last at is) (suc hops) far.0 far.1 in
      absurd (omega arith)

-- the hops until a switch
pass_on : (does : Hop) (port next : ℕ) → not_there does ≡ On port next → does ≡ On port next
pass_on (On by to) port next is = is
pass_on Arrive port next is = absurd (cc)
pass_on (Stop cause) port next is = absurd (cc)

on_passes : (does : Hop) (port next : ℕ) → does ≡ On port next → not_there does ≡ On port next
on_passes (On by to) port next is = is
on_passes Arrive port next is = absurd (cc)
on_passes (Stop cause) port next is = absurd (cc)

no_arrive : (does : Hop) → not_there does ≡ Arrive → ⊥
no_arrive (On by to) is = cc
no_arrive Arrive is = cc
no_arrive (Stop cause) is = cc

by_until : (b : Bool) (does : Hop) (port next : ℕ) → cond b Arrive (not_there does) ≡ On port next → does ≡ On port next
by_until true does port next is = absurd (cc)
by_until false does port next is = pass_on does port next is

at_until : (until at : ℕ) (b : Bool) (does : Hop) → eqb until at ≡ b → cond b Arrive (not_there does) ≡ Arrive → until ≡ at
at_until until at true does test is = grind (arith, nat_tests)
at_until until at false does test is = absurd (no_arrive does is)

module _ (fabric : FabricOf) (tables : TablesOf) (block bit until : ℕ) where
  abbrev pub way : Target
  way = record { block = block; bit = bit; until = Some until }

  abbrev pub lid : ℕ
  lid = 64 * block + bit

  pub until_is : hop_to fabric tables way until ≡ Arrive
  until_is = let t : eqb until until ≡ true = grind (arith, nat_tests) in ap (λ (b : Bool). cond b Arrive (not_there (hop fabric tables until lid))) t

  before_until : (at port next : ℕ) → at ≢ until → hop fabric tables at lid ≡ On port next → hop_to fabric tables way at ≡ On port next
  before_until at port next other on =
      let f : eqb until at ≡ false = grind (arith, nat_tests) in
      ap (λ (b : Bool). cond b Arrive (not_there (hop fabric tables at lid))) f ∙ on_passes (hop fabric tables at lid) port next on

  -- a walk until the switch is one of the route
  pub walk_comes : (hops start at : ℕ) → WalksBy (hop_to fabric tables way) hops start at → ComesBy fabric tables lid hops start at
  walk_comes zero start at same = same
  walk_comes (suc hops) start at (before, port, walk, on) = (before, port, walk_comes hops start before walk, by_until (eqb until before) (hop fabric tables before lid) port at on)

  pub arrives_comes : (start switches : ℕ) → EndsAs (hop_to fabric tables way) start (Arrives switches) → (hops : ℕ) × ComesBy fabric tables lid hops start until
  arrives_comes start switches (hops, at, walk, is, count) =
      let same = at_until until at (eqb until at) (hop fabric tables at lid) refl is in
      (hops, subst (λ (s : ℕ). ComesBy fabric tables lid hops start s) (sym same) (walk_comes hops start at walk))

  pub comes_arrives : (hops start : ℕ) → ComesBy fabric tables lid hops start until → (switches : ℕ) × EndsAs (hop_to fabric tables way) start (Arrives switches)
  comes_arrives zero start same = (1, (0, start, refl, ap (hop_to fabric tables way) same ∙ until_is, refl))
  comes_arrives (suc hops) start walk = elim (cases_eq start until) [
    | inl same ↦ (1, (0, start, refl, ap (hop_to fabric tables way) same ∙ until_is, refl))
    | inr other ↦ (
        let step = walk_split (λ at. hop fabric tables at lid) hops start until walk in
        let rest = comes_arrives hops step.1 step.3 in
        (rest.0 + 1, ends_longer (hop_to fabric tables way) start (On step.0 step.1) (Arrives rest.0) (before_until start step.0 step.1 other step.2) rest.1))
  ]
