use Rattle.std.proofs.Common.{◌≡◌, ◌∙◌, sym, ap, subst, refl, ℕ, zero, suc, ◌<◌, List, [], Option, Some, None, true, false, arith, length, get_or, inl, inr, ◌==◌}
use Rattle.std.specs.Prelude.{Contains, slice_index}
use Rattle.std.proofs.lemmas.Bool.Decides.{nat_tests}
use Rattle.std.proofs.lemmas.List.{get_or_default}
use Rattle.std.proofs.lemmas.List.Sums.{position_or_len_is}
use Rattle.std.proofs.lemmas.List.Quantifiers.{position-Some}
use Rattle.an_base.specs.Rows.{RowOf}
use Rattle.an_base.specs.Numbers.{AreNumbers}
use Rattle.dep_check.specs.declared.channel.Channel.{Channel}
use Rattle.dep_check.specs.declared.steps.Steps.{Steps}
use Rattle.dep_check.specs.Channels.{place_in, HasExit, LeadsTo}
use Rattle.common_graph.specs.Cycles.{Walk}
use Rattle.dep_check.specs.Packets.{GoesOn, IsGap, MeetsGap}
use Rattle.dep_check.specs.Tables.{IsSpot, wire_at, WiresAreWithin, row_at, HasBelow, AreExitsBelow}
use Rattle.dep_check.specs.Search.{Depends, GoesBy, IsStepOf, Step, AreSteps, IsEnd, IsEndOf, IsStuck}
use Rattle.dep_check.specs.Pairs.{GetsStuck}
use Rattle.dep_check.proofs.SpotLemmas.{spot_cases}
use Rattle.dep_check.proofs.LevelLemmas.{step_spot}

-- what has a wire is a spot
pub wire_spot : (wires : List (Option Channel)) (s far : Channel) → wire_at wires s ≡ Some far → IsSpot s
wire_spot wires s far e = elim (spot_cases s) [
  | inl spot ↦ spot
  | inr other ↦ absurd (let gone : wire_at wires s ≡ None = rw other refl in cc)
]

-- an exit of the table is one of the rows, and the other way round
below_exit : (rows : List RowOf) (s : Channel) (p : ℕ) → HasBelow rows None (length rows) s p → (to : ℕ) × HasExit rows s.at s.port to p
below_exit rows s p has =
    let r = row_at rows has.index in
    (r.to, (has.index, r, has.below, get_or_default rows has.index r (record { at = 0; entry = 0; to = 0; exits = [] }) has.below, (has.at, has.entry, refl, has.has)))

below_exit_to : (rows : List RowOf) (to : ℕ) (s : Channel) (p : ℕ) → HasBelow rows (Some to) (length rows) s p → HasExit rows s.at s.port to p
below_exit_to rows to s p has =
    let r = row_at rows has.index in
    (has.index, r, has.below, get_or_default rows has.index r (record { at = 0; entry = 0; to = 0; exits = [] }) has.below, (has.at, has.entry, has.counts, has.has))

row_here : (rows : List RowOf) (k : ℕ) (x : RowOf) → k < length rows → get_or rows k x ≡ x → row_at rows k ≡ x
row_here rows k x low is = get_or_default rows k (record { at = 0; entry = 0; to = 0; exits = [] }) x low ∙ is

exit_below : (rows : List RowOf) (s : Channel) (to p : ℕ) → HasExit rows s.at s.port to p → HasBelow rows None (length rows) s p
exit_below rows s to p (k, x, low, is, h) =
    let here = row_here rows k x low is in
    record { index = k; below = low; counts = refl; at = ap (λ (r : RowOf). r.at) here ∙ h.0; entry = ap (λ (r : RowOf). r.entry) here ∙ h.1; has = subst (λ (r : RowOf). Contains r.exits p) (sym here) h.3 }

exit_below_to : (rows : List RowOf) (s : Channel) (to p : ℕ) → HasExit rows s.at s.port to p → HasBelow rows (Some to) (length rows) s p
exit_below_to rows s to p (k, x, low, is, h) =
    let here = row_here rows k x low is in
    record { index = k; below = low; counts = ap (λ (r : RowOf). r.to) here ∙ h.2; at = ap (λ (r : RowOf). r.at) here ∙ h.0; entry = ap (λ (r : RowOf). r.entry) here ∙ h.1; has = subst (λ (r : RowOf). Contains r.exits p) (sym here) h.3 }

-- a channel leads to another one by the rows where it does by the tables
depends_leads : (wires : List (Option Channel)) (rows : List RowOf) (exits : List ℕ) (a b : Channel) (e : ℕ) → WiresAreWithin wires → AreExitsBelow rows None (length rows) exits → Depends wires exits a e b → LeadsTo (wire_at wires) rows a b
depends_leads wires rows exits a b e within are d =
    let at : Channel = record { at = b.at; port = d.entry } in
    let exit = below_exit rows at e ((are.each at e (within a at d.arrives) d.low).0 d.has) in
    record { entry = d.entry; arrives = d.arrives; to = exit.0; exit = subst (λ (p : ℕ). HasExit rows b.at d.entry exit.0 p) (sym d.port) exit.1; link = (d.far, d.link) }

leads_depends : (wires : List (Option Channel)) (rows : List RowOf) (exits : List ℕ) (a b : Channel) → WiresAreWithin wires → AreExitsBelow rows None (length rows) exits → LeadsTo (wire_at wires) rows a b → Depends wires exits a b.port b
leads_depends wires rows exits a b within are l =
    let at : Channel = record { at = b.at; port = l.entry } in
    let low = (wire_spot wires b l.link.0 l.link.1).port in
    record { low = low; entry = l.entry; arrives = l.arrives; port = refl; has = (are.each at b.port (within a at l.arrives) low).1 (exit_below rows at l.to b.port l.exit); far = l.link.0; link = l.link.1 }

pub step_leads : (wires : List (Option Channel)) (rows : List RowOf) (steps : Steps) → WiresAreWithin wires → AreSteps wires rows None steps → (a b : Channel) → Step steps a b → LeadsTo (wire_at wires) rows a b
step_leads wires rows steps within are a b (e, is) =
    let d : Depends wires steps.exits.items a e b = subst (λ (ws : List (Option Channel)). Depends ws steps.exits.items a e b) are.wires_are (subst (λ (to : Option ℕ). IsStepOf steps.wires.items steps.exits.items to a e b) are.to is) in
    depends_leads wires rows steps.exits.items a b e within are.exits d

pub leads_step : (wires : List (Option Channel)) (rows : List RowOf) (steps : Steps) → WiresAreWithin wires → AreSteps wires rows None steps → (a b : Channel) → LeadsTo (wire_at wires) rows a b → Step steps a b
leads_step wires rows steps within are a b l =
    let d = leads_depends wires rows steps.exits.items a b within are.exits l in
    (b.port, subst (λ (to : Option ℕ). IsStepOf steps.wires.items steps.exits.items to a b.port b) (sym are.to) (subst (λ (ws : List (Option Channel)). Depends ws steps.exits.items a b.port b) (sym are.wires_are) d))

-- what came in goes on by the rows where it does by the tables
goes_on : (wires : List (Option Channel)) (rows : List RowOf) (exits : List ℕ) (to : ℕ) (a b : Channel) (e : ℕ) → AreExitsBelow rows (Some to) (length rows) exits → IsSpot a → GoesBy wires exits to a e b → GoesOn (wire_at wires) rows to a b
goes_on wires rows exits to a b e are spot g = record { before = g.before; exit = e; has = below_exit_to rows to a e ((are.each a e spot g.low).0 g.has); link = g.link }

goes_by : (wires : List (Option Channel)) (rows : List RowOf) (exits : List ℕ) (to : ℕ) (a b : Channel) → AreExitsBelow rows (Some to) (length rows) exits → IsSpot a → (g : GoesOn (wire_at wires) rows to a b) → GoesBy wires exits to a g.exit b
goes_by wires rows exits to a b are spot g =
    let low = (wire_spot wires (record { at = a.at; port = g.exit }) b g.link).port in
    record { low = low; before = g.before; has = (are.each a g.exit spot low).1 (exit_below_to rows a to g.exit g.has); link = g.link }

module _ (wires : List (Option Channel)) (rows : List RowOf) (to : ℕ) (steps : Steps) (within : WiresAreWithin wires) (are : AreSteps wires rows (Some to) steps) where
  step_goes : (a b : Channel) → IsSpot a → Step steps a b → GoesOn (wire_at wires) rows to a b
  step_goes a b spot (e, is) =
      let g : GoesBy wires steps.exits.items to a e b = subst (λ (ws : List (Option Channel)). GoesBy ws steps.exits.items to a e b) are.wires_are (subst (λ (t : Option ℕ). IsStepOf steps.wires.items steps.exits.items t a e b) are.to is) in
      goes_on wires rows steps.exits.items to a b e are.exits spot g

  goes_step : (a b : Channel) → IsSpot a → GoesOn (wire_at wires) rows to a b → Step steps a b
  goes_step a b spot g =
      let d = goes_by wires rows steps.exits.items to a b are.exits spot g in
      (g.exit, subst (λ (t : Option ℕ). IsStepOf steps.wires.items steps.exits.items t a g.exit b) (sym are.to) (subst (λ (ws : List (Option Channel)). GoesBy ws steps.exits.items to a g.exit b) (sym are.wires_are) d))

  walk_goes : (n : ℕ) (a z : Channel) → IsSpot a → Walk (Step steps) n a z → Walk (GoesOn (wire_at wires) rows to) n a z × IsSpot z
  walk_goes zero a z spot same = (same, subst (λ (x : Channel). IsSpot x) same spot)
  walk_goes (suc n) a z spot (b, step, walk) = let rest = walk_goes n b z (step_spot steps a b step) walk in ((b, step_goes a b spot step, rest.0), rest.1)

  goes_walk : (n : ℕ) (a z : Channel) → IsSpot a → Walk (GoesOn (wire_at wires) rows to) n a z → Walk (Step steps) n a z × IsSpot z
  goes_walk zero a z spot same = (same, subst (λ (x : Channel). IsSpot x) same spot)
  goes_walk (suc n) a z spot (b, g, walk) =
      let step = goes_step a b spot g in
      let rest = goes_walk n b z (step_spot steps a b step) walk in
      ((b, step, rest.0), rest.1)

  -- the same of where it gets stuck
  end_gap : (a : Channel) → IsSpot a → IsEnd wires steps.exits.items to a → IsGap (wire_at wires) rows to a
  end_gap a spot end = record {
    before = end.before;
    gap = elim end.gap [
      | inl bare ↦ inl (λ e has. let below = exit_below_to rows a to e has in let low = are.exits.ports a e spot below in bare e low ((are.exits.each a e spot low).1 below))
      | inr (e, low, has, gone) ↦ inr (e, below_exit_to rows to a e ((are.exits.each a e spot low).0 has), gone)
    ];
  }

  gap_end : (a : Channel) → IsSpot a → IsGap (wire_at wires) rows to a → IsEnd wires steps.exits.items to a
  gap_end a spot gap = record {
    before = gap.before;
    gap = elim gap.gap [
      | inl bare ↦ inl (λ e low has. bare e (below_exit_to rows to a e ((are.exits.each a e spot low).0 has)))
      | inr (e, has, gone) ↦ (let below = exit_below_to rows a to e has in let low = are.exits.ports a e spot below in inr (e, low, (are.exits.each a e spot low).1 below, gone))
    ];
  }

  stuck_gap : (a : Channel) → IsSpot a → IsStuck steps a → IsGap (wire_at wires) rows to a
  stuck_gap a spot stuck = end_gap a spot (subst (λ (ws : List (Option Channel)). IsEnd ws steps.exits.items to a) are.wires_are (subst (λ (t : Option ℕ). IsEndOf steps.wires.items steps.exits.items t a) are.to stuck))

  gap_stuck : (a : Channel) → IsSpot a → IsGap (wire_at wires) rows to a → IsStuck steps a
  gap_stuck a spot gap = subst (λ (t : Option ℕ). IsEndOf steps.wires.items steps.exits.items t a) (sym are.to) (subst (λ (ws : List (Option Channel)). IsEnd ws steps.exits.items to a) (sym are.wires_are) (gap_end a spot gap))

  -- so it gets stuck where a following meets a gap
  pub stuck_meets : (from : ℕ) (end : Channel) → from < 127 → GetsStuck steps (record { at = from; port = 0 }) end → MeetsGap (wire_at wires) rows from to end × IsSpot end
  stuck_meets from end low (n, walk, stuck) =
      let w = walk_goes n (record { at = from; port = 0 }) end (record { at = low; port = omega arith }) walk in
      (record { steps = n; walk = w.0; gap = stuck_gap end w.1 stuck }, w.1)

  pub meets_stuck : (from : ℕ) (end : Channel) → from < 127 → MeetsGap (wire_at wires) rows from to end → GetsStuck steps (record { at = from; port = 0 }) end × IsSpot end
  meets_stuck from end low meets =
      let w = goes_walk meets.steps (record { at = from; port = 0 }) end (record { at = low; port = omega arith }) meets.walk in
      ((meets.steps, w.0, gap_stuck end w.1 meets.gap), w.1)

-- the numbers of a topology
pub place_found : (numbers : List ℕ) (k n : ℕ) → AreNumbers numbers → k < length numbers → slice_index numbers k ≡ n → place_in numbers n ≡ Some k
place_found numbers k n are low is =
    let first = position_or_len_is (λ m. m == n) numbers k 0 (omega arith)
    (λ j less. differs (slice_index numbers j) n (λ same. are.apart j k 0 less low (same ∙ sym is)))
    (λ _. equals (slice_index numbers k) n is) in
    rw first (grind (arith, nat_tests))
  where
    differs : (a b : ℕ) → (a ≡ b → ⊥) → (a == b) ≡ false
    differs a b other = grind (arith, nat_tests)

    equals : (a b : ℕ) → a ≡ b → (a == b) ≡ true
    equals a b same = grind (arith, nat_tests)

pub place_contained : (numbers : List ℕ) (n x : ℕ) → place_in numbers n ≡ Some x → Contains numbers n × (x < length numbers) × (slice_index numbers x ≡ n)
place_contained numbers n x e =
    let found = position-Some (λ m. m == n) numbers x 0 e in
    let is = equal (slice_index numbers x) n found.1 in
    ((x, found.0, get_or_default numbers x n 0 found.0 ∙ is), found.0, is)
  where
    equal : (a b : ℕ) → (a == b) ≡ true → a ≡ b
    equal a b e = grind (arith, nat_tests)

pub contained_place : (numbers : List ℕ) (n : ℕ) → AreNumbers numbers → Contains numbers n → (x : ℕ) × (place_in numbers n ≡ Some x)
contained_place numbers n are (k, low, is) = (k, place_found numbers k n are low (get_or_default numbers k 0 n low ∙ is))

pub number_low : (numbers : List ℕ) (n : ℕ) → AreNumbers numbers → Contains numbers n → n < 127
number_low numbers n are (k, low, is) = let h = are.within k n low in let most = h.1 in omega arith
