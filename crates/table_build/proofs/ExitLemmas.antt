use Rattle.std.proofs.Common.{◌≡◌, ◌⊎◌, ◌≢◌, ◌∙◌, sym, subst, refl, ℕ, suc, ◌+◌, ◌<◌, ◌≤◌, List, [], ◌∷◌, Option, Some, None, Bool, true, false, arith, length, IsTrue, inl, inr, ◌↔◌}
use Rattle.std.proofs.lemmas.Bool.{eqb-true, eq-eqb}
use Rattle.std.proofs.lemmas.List.Elements.{All-nil, All-weaker}
use Rattle.an_base.specs.Values.{EntryOf}
use Rattle.an_base.specs.Rows.{ports_of}
use Rattle.common_values.proofs.ListLemmas.{All-from_members}
use Rattle.an_base.proofs.PortSetLemmas.{port_is, is_port, ports_rise, rising_few}
use Rattle.topo_graph.specs.Topology.{far_of, IsGraph}
use Rattle.topo_graph.proofs.FarLemmas.{one_far}
use Rattle.updown.specs.Routes.{is_up_end, HasLegal, HasDown, IsLeast}
use Rattle.updown.proofs.RouteLemmas.{legal_first, legal_up, legal_down, down_first, down_more}
use Rattle.updown.proofs.LeastLemmas.{least_iff}
use Rattle.table_build.specs.declared.best.Best.{Best}
use Rattle.table_build.specs.Bests.{Goes, HasPort, AreBest, IsBest}
use Rattle.table_build.specs.Exits.{LeadsTo, Begins, AreExits, ArePortsBelow, IsExitOf, passes}
use Rattle.table_build.proofs.GoLemmas.{goes_leads, leads_goes}

-- what may follow a port on the way: behind a link upward any legal route, behind one downward links downward
-- alone; and where the way may not go up, nothing behind a link upward
abbrev pub Behind : List EntryOf → Bool → ℕ → ℕ → ℕ → ℕ → Type 0
Behind entries true place target port left =
    (next came : ℕ) × (far_of entries place port ≡ Some (next, came))
    × (((is_up_end entries next place ≡ true) × HasLegal entries next target left)
    ⊎ ((is_up_end entries next place ≡ false) × HasDown entries next target left))
Behind entries false place target port left =
    (next came : ℕ) × (far_of entries place port ≡ Some (next, came)) × (is_up_end entries next place ≡ false)
    × HasDown entries next target left

-- there is a way of n links
abbrev pub HasWay : List EntryOf → Bool → ℕ → ℕ → ℕ → Type 0
HasWay es true x to n = HasLegal es x to n
HasWay es false x to n = HasDown es x to n

-- what follows the first port of a way
way_first : (es : List EntryOf) (up : Bool) (x to p : ℕ) (ps : List ℕ) → LeadsTo es up x (p ∷ ps) to → Behind es up x to p (length ps)
way_first es true x to p ps way =
    let f = legal_first es x p ps to way in (
      f.0,
      f.1,
      f.2,
      elim f.3 [
        | inl up ↦ inl (up.0, (ps, refl, up.1))
        | inr down ↦ inr (down.0, (ps, refl, down.1))
      ],
    )
way_first es false x to p ps way = let f = down_first es x p ps to way in (f.0, f.1, f.2, f.3, (ps, refl, f.4))

-- and a way from what may follow a port
way_more : (es : List EntryOf) (up : Bool) (x to p n : ℕ) → Behind es up x to p n → (ps : List ℕ) × (length ps ≡ n) × LeadsTo es up x (p ∷ ps) to
way_more es true x to p n (z, q, e, inl (is_up, (ps, len, r))) = (ps, len, legal_up es x p ps to z q e is_up r)
way_more es true x to p n (z, q, e, inr (down, (ps, len, r))) = (ps, len, legal_down es x p ps to z q e down r)
way_more es false x to p n (z, q, e, down, (ps, len, r)) = (ps, len, down_more es x p ps to z q e down r)

-- a way and its length
pub has_way : (es : List EntryOf) (up : Bool) (x to n : ℕ) (ps : List ℕ) → LeadsTo es up x ps to → length ps ≡ n → HasWay es up x to n
has_way es true x to n ps way len = (ps, len, way)
has_way es false x to n ps way len = (ps, len, way)

pub way_of : (es : List EntryOf) (up : Bool) (x to n : ℕ) → HasWay es up x to n → (ps : List ℕ) × (length ps ≡ n) × LeadsTo es up x ps to
way_of es true x to n has = has
way_of es false x to n has = has

-- a port that passes begins a way
passes_begins : (es : List EntryOf) (any up : Bool) (x to p : ℕ) (left whole : Option ℕ) → x ≢ to → IsLeast (Behind es up x to p) left → IsLeast (HasWay es up x to) whole → passes any left whole ≡ true → Begins es any up x to p
passes_begins es any up x to p None whole other behind least test = absurd (cc)
passes_begins es true up x to p (Some c) whole other behind least test =
    let way = way_more es up x to p c behind.0 in
    record { other = other; rest = way.0; way = way.2; least = λ no. absurd (cc) }
passes_begins es false up x to p (Some c) None other behind least test = absurd (cc)
passes_begins es false up x to p (Some c) (Some u) other behind least test =
    let way = way_more es up x to p c behind.0 in
    let same : u ≡ c + 1 = eqb-true u (c + 1) test in
    let len : length way.0 ≡ c = way.1 in
    record { other = other; rest = way.0; way = way.2; least = λ _ ps lead. let h = least.1 (length ps) (has_way es up x to (length ps) ps lead refl) in omega arith }

-- and one that begins a way passes
begins_passes : (es : List EntryOf) (any up : Bool) (x to p : ℕ) (left whole : Option ℕ) → IsLeast (Behind es up x to p) left → IsLeast (HasWay es up x to) whole → Begins es any up x to p → passes any left whole ≡ true
begins_passes es any up x to p None whole behind least begins = absurd (behind (length begins.rest) (way_first es up x to p begins.rest begins.way))
begins_passes es true up x to p (Some c) whole behind least begins = refl
begins_passes es false up x to p (Some c) None behind least begins = absurd (least (suc (length begins.rest)) (has_way es up x to (suc (length begins.rest)) (p ∷ begins.rest) begins.way refl))
begins_passes es false up x to p (Some c) (Some u) behind least begins =
    let low : c ≤ length begins.rest = behind.1 (length begins.rest) (way_first es up x to p begins.rest begins.way) in
    let most : u ≤ suc (length begins.rest) = least.1 (suc (length begins.rest)) (has_way es up x to (suc (length begins.rest)) (p ∷ begins.rest) begins.way refl) in
    let shortest = way_of es up x to u least.0 in
    let len : length shortest.0 ≡ u = shortest.1 in
    let more : length begins.rest + 1 ≤ length shortest.0 = begins.least refl shortest.0 shortest.2 in
    let way = way_more es up x to p c behind.0 in
    let way_len : length way.0 ≡ c = way.1 in
    let less : u ≤ suc c = least.1 (suc c) (has_way es up x to (suc c) (p ∷ way.0) way.2 (omega arith)) in
    eq-eqb u (c + 1) (omega arith)

-- what is left behind a port where the way may not go up: nothing without a link, nor upward
pub none_behind : (es : List EntryOf) (x to p : ℕ) → far_of es x p ≡ None → IsLeast (Behind es false x to p) None
none_behind es x to p e = λ n (z, q, f, down, has). absurd (cc)

pub up_not_behind : (es : List EntryOf) (x to p z q : ℕ) → far_of es x p ≡ Some (z, q) → is_up_end es z x ≡ true → IsLeast (Behind es false x to p) None
up_not_behind es x to p z q e up = λ n (w, r, f, down, has). absurd (let not_up : is_up_end es z x ≡ false = subst (λ (v : ℕ). is_up_end es v x ≡ false) (one_far es x p w r z q f e) down in cc)

pub down_behind : (es : List EntryOf) (x to p z q : ℕ) (o : Option ℕ) → far_of es x p ≡ Some (z, q) → is_up_end es z x ≡ false → IsLeast (HasDown es z to) o → IsLeast (Behind es false x to p) o
down_behind es x to p z q o e down least =
    least_iff (HasDown es z to) (Behind es false x to p) o
    (λ n has. (z, q, e, down, has))
    (λ n (w, r, f, _, has). subst (λ (v : ℕ). HasDown es v to n) (one_far es x p w r z q f e) has)
    least

-- whether a port is an exit
pub exit_is : (es : List EntryOf) (any up : Bool) (x to p : ℕ) (left whole : Option ℕ) (test : Bool) → x ≢ to → IsLeast (Behind es up x to p) left → IsLeast (HasWay es up x to) whole → test ≡ passes any left whole → IsTrue test ↔ Begins es any up x to p
exit_is es any up x to p left whole test other behind least is = (
  λ t. passes_begins es any up x to p left whole other behind least (sym is ∙ t),
  λ begins. is ∙ begins_passes es any up x to p left whole behind least begins,
)

-- an exit has a link
exit_link : (es : List EntryOf) (any up : Bool) (x to p : ℕ) → IsGraph es → Begins es any up x to p → (1 ≤ p) × (p ≤ 12)
exit_link es any up x to p graph begins = go up (way_first es up x to p begins.rest begins.way)
  where
    go : (u : Bool) → Behind es u x to p (length begins.rest) → (1 ≤ p) × (p ≤ 12)
    go true f = let within = graph.within x p (f.0, f.1) f.2 in (within.port_least, within.port_most)
    go false f = let within = graph.within x p (f.0, f.1) f.2 in (within.port_least, within.port_most)

-- where no port has it there are none
pub no_port : (Has : ℕ → Type 0) → ((p : ℕ) → Has p → ⊥) → ArePortsBelow Has 13 []
no_port Has none = record {
  rising = λ i j d lt low. absurd (omega arith);
  each = All-nil Has;
  below = All-nil (λ p. p < 13);
  whole = λ p low is. absurd (none p is);
  few = omega arith;
}

-- the ports by which best ways begin
pub best_ports : (b : Best) → ArePortsBelow (IsExitOf (Some b)) 13 (ports_of b.ports)
best_ports b = record {
  rising = ports_rise b.ports;
  each = All-from_members (IsExitOf (Some b)) (ports_of b.ports) (λ p has. let h = port_is b.ports p has in (h.0, h.2));
  below = All-from_members (λ (p : ℕ). p < 13) (ports_of b.ports) (λ p has. let h = port_is b.ports p has in let most = h.1 in omega arith);
  whole = λ p low is. is_port b.ports p is.0 (omega arith) is.1;
  few = let most = rising_few 12 1 (ports_of b.ports) (ports_rise b.ports) (λ p has. let h = port_is b.ports p has in (h.0, (let most = h.1 in omega arith))) in omega arith;
}

-- a port by which best ways begin is an exit
best_begins : (es : List EntryOf) (any up : Bool) (x y p : ℕ) (b : Best) → x ≢ y → AreBest any (λ ps. Goes es up true x ps y) b → HasPort b.ports p → Begins es any up x y p
best_begins es true up x y p b other best has =
    let e = best.each p has in
    record { other = other; rest = e.0; way = goes_leads es up (p ∷ e.0) x y e.1; least = λ no. absurd (cc) }
best_begins es false up x y p b other best has =
    let e = best.each p has in
    let cost : suc (length e.0) ≡ b.cost = e.2 in
    record {
      other = other;
      rest = e.0;
      way = goes_leads es up (p ∷ e.0) x y e.1;
      least = λ _ ps lead. let l : b.cost ≤ length ps = best.least ps (leads_goes es up ps x y lead) in omega arith;
    }

-- and an exit begins best ways
begins_best : (es : List EntryOf) (any up : Bool) (x y p : ℕ) (b : Best) → AreBest any (λ ps. Goes es up true x ps y) b → Begins es any up x y p → HasPort b.ports p
begins_best es true up x y p b best begins =
    let g = leads_goes es up (p ∷ begins.rest) x y begins.way in
    let l : b.cost ≤ 0 = best.least (p ∷ begins.rest) g in
    best.whole p begins.rest g (omega arith)
begins_best es false up x y p b best begins =
    let g = leads_goes es up (p ∷ begins.rest) x y begins.way in
    let l : b.cost ≤ suc (length begins.rest) = best.least (p ∷ begins.rest) g in
    let cost : length best.way.0 ≡ b.cost = best.way.2 in
    let k : length begins.rest + 1 ≤ length best.way.0 = begins.least refl best.way.0 (goes_leads es up best.way.0 x y best.way.1) in
    best.whole p begins.rest g (omega arith)

-- so the ports by which best ways begin are the exits
pub best_exits : (es : List EntryOf) (any up : Bool) (x y : ℕ) (o : Option Best) (ports : List ℕ) → IsGraph es → x ≢ y → IsBest any (λ ps. Goes es up true x ps y) o → ArePortsBelow (IsExitOf o) 13 ports → AreExits es any up x y ports
best_exits es any up x y None ports graph other none are = record {
  rising = are.rising;
  each = All-weaker (λ p. ⊥) (Begins es any up x y) (λ p no. absurd no) ports are.each;
  whole = λ p begins. absurd (none (p ∷ begins.rest) (leads_goes es up (p ∷ begins.rest) x y begins.way));
}
best_exits es any up x y (Some b) ports graph other best are = record {
  rising = are.rising;
  each = All-weaker (IsExitOf (Some b)) (Begins es any up x y) (λ p is. best_begins es any up x y p b other best is.1) ports are.each;
  whole = λ p begins. let within = exit_link es any up x y p graph begins in are.whole p (let most = within.1 in omega arith) (within.0, begins_best es any up x y p b best begins);
}
