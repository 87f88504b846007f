use Rattle.std.proofs.Common.{◌≡◌, ◌≢◌, ◌∙◌, sym, ap, subst, refl, ℕ, zero, suc, ◌<◌, ◌≤◌, List, [], ◌∷◌, Some, Bool, true, false, arith, length, inl, inr, ◌==◌}
use Rattle.std.specs.Prelude.{slice_index}
use Rattle.std.proofs.lemmas.Bool.Decides.{nat_tests}
use Rattle.std.proofs.lemmas.List.{get_or_default}
use Rattle.std.proofs.lemmas.List.Elements.{All-contains}
use Rattle.std.proofs.lemmas.Option.{same_Some}
use Rattle.an_base.specs.Values.{EntryOf}
use Rattle.an_base.specs.Rows.{RowOf}
use Rattle.an_base.specs.Numbers.{AreNumbers}
use Rattle.topo_graph.specs.Topology.{far_of, IsGraph, IsTree}
use Rattle.topo_graph.proofs.FarLemmas.{far_back}
use Rattle.updown.specs.Routes.{is_up_end}
use Rattle.updown.proofs.RouteLemmas.{not_both_higher, down_first}
use Rattle.table_build.specs.Exits.{LeadsTo as WayTo, Begins, IsEntry, may_go_up}
use Rattle.table_build.specs.Laws.{LeadsOn, ChannelWalk}
use Rattle.table_build.specs.Tables.{IsRow}
use Rattle.table_build.proofs.WayLaws.{entry_up, way_far, way_next, shortest_exit}
use Rattle.table_build.proofs.TreeRoutes.{joined}
use Rattle.table_build.proofs.ShortestLaws.{has_shortest}
use Rattle.table_build.proofs.CycleLaws.{no_cycle}
use Rattle.dep_check.specs.declared.channel.Channel.{Channel}
use Rattle.dep_check.specs.Channels.{place_in, far_at, HasExit, LeadsTo}
use Rattle.common_graph.specs.Cycles.{Walk, Path, HasNoCycle}
use Rattle.dep_check.specs.Packets.{GoesOn, IsGap, AllAreJoined}
use Rattle.dep_check.specs.Illegal.{LeadsUp, AllAreLegal}
use Rattle.dep_check.specs.Laws.{AreTables}
use Rattle.dep_check.proofs.BridgeLemmas.{place_found}
use Rattle.dep_check.proofs.WireLemmas.{far_by, by_far}

-- what came down may not go up
no_turn : (es : List EntryOf) (x entry w q : ℕ) → IsGraph es → far_of es x entry ≡ Some (w, q) → is_up_end es w x ≡ true → may_go_up es x entry ≡ false
no_turn es x entry w q graph e up =
    let within = graph.within x entry (w, q) e in
    let some : (entry == 0) ≡ false = not_zero entry within.port_least in
    let down : is_up_end es x w ≡ false = not_both_higher es w x up in
    rw (some, e) down
  where
    not_zero : (n : ℕ) → 1 ≤ n → (n == 0) ≡ false
    not_zero n least = grind (arith, nat_tests)

module _ (es : List EntryOf) (numbers : List ℕ) (any : Bool) (rows : List RowOf) (graph : IsGraph es) (named : AreNumbers numbers) (count : length numbers ≡ length es) (tables : AreTables es numbers any rows) where
  -- the place of a number is one
  one_place : (x y n : ℕ) → x < length es → slice_index numbers x ≡ n → place_in numbers n ≡ Some y → x ≡ y
  one_place x y n low is place = same_Some x y (sym (place_found numbers x n named (omega arith) is) ∙ place)

  -- an exit of a row begins a way
  begins : (x at entry to p : ℕ) → place_in numbers at ≡ Some x → HasExit rows at entry to p → (y : ℕ) × (y < length es) × (slice_index numbers y ≡ to) × Begins es any (may_go_up es x entry) x y p
  begins x at entry to p place (k, r, low, is, h) =
      let row = tables.each k r low in
      let mine : (x' : ℕ) × (x' < length es) × IsRow es numbers any x' r = subst (λ (s : RowOf). (x' : ℕ) × (x' < length es) × IsRow es numbers any x' s) is row in
      let same : mine.0 ≡ x = one_place mine.0 x at mine.1 (sym mine.2.at ∙ h.0) place in
      let begin = All-contains (Begins es any (may_go_up es mine.0 r.entry) mine.0 mine.2.to) r.exits p mine.2.exits.each h.3 in (
        mine.2.to,
        mine.2.to_low,
        sym mine.2.number ∙ h.2,
        subst (λ (e : ℕ). Begins es any (may_go_up es x e) x mine.2.to p) h.1 (subst (λ (n : ℕ). Begins es any (may_go_up es n r.entry) n mine.2.to p) same begin),
      )

  -- so no exit is illegal
  pub tables_legal : AllAreLegal es numbers rows
  tables_legal at entry to exit illegal =
      let h = illegal.has in
      let row = tables.each h.0 h.1 h.2 in
      let mine : (x : ℕ) × (x < length es) × IsRow es numbers any x h.1 = subst (λ (s : RowOf). (x : ℕ) × (x < length es) × IsRow es numbers any x s) h.3 row in
      let place = place_found numbers mine.0 at named (omega arith) (sym mine.2.at ∙ h.4.0) in
      let b = begins mine.0 at entry to exit place h in
      let far = way_far es (may_go_up es mine.0 entry) mine.0 b.0 exit b.3.rest b.3.way in
      elim illegal.bad [
        | inl gone ↦ absurd (let there = far_by es numbers mine.0 exit far.0 far.1 at place far.2 in cc)
        | inr turns ↦ (
            let same : turns.place ≡ mine.0 = same_Some turns.place mine.0 (sym turns.is ∙ place) in
            let down : LeadsUp es mine.0 entry = subst (λ (n : ℕ). LeadsUp es n entry) same turns.came_down in
            let up : LeadsUp es mine.0 exit = subst (λ (n : ℕ). LeadsUp es n exit) same turns.goes_up in
            let never = no_turn es mine.0 entry down.0 down.1 graph down.2 down.3 in
            let way : WayTo es false mine.0 (exit ∷ b.3.rest) b.0 = subst (λ (u : Bool). WayTo es u mine.0 (exit ∷ b.3.rest) b.0) never b.3.way in
            let first = down_first es mine.0 exit b.3.rest b.0 way in
            let one : first.0 ≡ up.0 = ap (λ (f : ℕ × ℕ). f.0) (same_Some (first.0, first.1) (up.0, up.1) (sym first.2 ∙ up.2)) in
            absurd (let level : is_up_end es up.0 mine.0 ≡ false = subst (λ (n : ℕ). is_up_end es n mine.0 ≡ false) one first.3 in let higher = up.3 in cc))
      ]

  -- a channel that leads to another one leads on by places
  leads_on : (a b : Channel) (x : ℕ) → place_in numbers a.at ≡ Some x → LeadsTo (far_at es numbers) rows a b → (y : ℕ) × (place_in numbers b.at ≡ Some y) × LeadsOn es any (x, a.port) (y, b.port)
  leads_on a b x place l =
      let far = by_far es numbers graph a (record { at = b.at; port = l.entry }) l.arrives in
      let same : far.0 ≡ x = same_Some far.0 x (sym far.2 ∙ place) in
      let there : far_of es x a.port ≡ Some (far.1, l.entry) = subst (λ (n : ℕ). far_of es n a.port ≡ Some (far.1, l.entry)) same far.3 in
      let at = place_found numbers far.1 b.at named (let low = far.4 in omega arith) far.5 in
      let begin = begins far.1 b.at l.entry l.to b.port at l.exit in
      (far.1, at, (l.entry, begin.0, there, begin.3))

  walk_on : (a : Channel) (cs : List Channel) (z : Channel) (x : ℕ) → place_in numbers a.at ≡ Some x → Path (LeadsTo (far_at es numbers) rows) a cs z → (y : ℕ) × (place_in numbers z.at ≡ Some y) × (n : ℕ) × ChannelWalk es any (suc n) (x, a.port) (y, z.port)
  walk_on a [] z x place step = let on = leads_on a z x place step in (on.0, on.1, zero, ((on.0, z.port), on.2, refl))
  walk_on a (c ∷ cs) z x place (step, path) =
      let on = leads_on a c x place step in
      let rest = walk_on c cs z on.0 on.1 path in
      (rest.0, rest.1, suc rest.2, ((on.0, c.port), on.2, rest.3))

  first_place : (a : Channel) (cs : List Channel) (z : Channel) → Path (LeadsTo (far_at es numbers) rows) a cs z → (x : ℕ) × (place_in numbers a.at ≡ Some x)
  first_place a [] z step = let far = by_far es numbers graph a (record { at = z.at; port = step.entry }) step.arrives in (far.0, far.2)
  first_place a (c ∷ cs) z (step, path) = let far = by_far es numbers graph a (record { at = c.at; port = step.entry }) step.arrives in (far.0, far.2)

  -- so there is no cycle
  pub tables_no_cycle : HasNoCycle (LeadsTo (far_at es numbers) rows)
  tables_no_cycle c cs cycle =
      let first = first_place c cs c cycle in
      let walk = walk_on c cs c first.0 first.1 cycle in
      let same : walk.0 ≡ first.0 = same_Some walk.0 first.0 (sym walk.1 ∙ first.1) in
      no_cycle es any walk.2 (first.0, c.port) graph (subst (λ (y : ℕ). ChannelWalk es any (suc walk.2) (first.0, c.port) (y, c.port)) same walk.3)

  -- what is at a switch and entry on its way to the member at y
  record IsOnWay (y : ℕ) (a : Channel) : Type 0 where
    place : ℕ
    low : place < length es
    is : slice_index numbers place ≡ a.at
    entry : IsEntry es place a.port
    ports : List ℕ
    way : WayTo es (may_go_up es place a.port) place ports y

  on_next : (y to : ℕ) (a b : Channel) → y < length es → slice_index numbers y ≡ to → IsOnWay y a → GoesOn (far_at es numbers) rows to a b → IsOnWay y b
  on_next y to a b y_low y_is on g =
      let place = place_found numbers on.place a.at named (let low = on.low in omega arith) on.is in
      let begin = begins on.place a.at a.port to g.exit place g.has in
      let target : begin.0 ≡ y = one_place begin.0 y to begin.1 begin.2 (place_found numbers y to named (omega arith) y_is) in
      let far = by_far es numbers graph (record { at = a.at; port = g.exit }) b g.link in
      let same : far.0 ≡ on.place = same_Some far.0 on.place (sym far.2 ∙ place) in
      let there : far_of es on.place g.exit ≡ Some (far.1, b.port) = subst (λ (n : ℕ). far_of es n g.exit ≡ Some (far.1, b.port)) same far.3 in
      let next = (way_next es (may_go_up es on.place a.port) on.place begin.0 g.exit far.1 b.port begin.3.rest there begin.3.way).0 in
      let way : WayTo es (may_go_up es far.1 b.port) far.1 begin.3.rest begin.0 = subst (λ (u : Bool). WayTo es u far.1 begin.3.rest begin.0) (sym (entry_up es on.place g.exit far.1 b.port graph there)) next in
      record {
        place = far.1;
        low = far.4;
        is = far.5;
        entry = inr ((on.place, g.exit), far_back es on.place g.exit far.1 b.port graph there);
        ports = begin.3.rest;
        way = subst (λ (n : ℕ). WayTo es (may_go_up es far.1 b.port) far.1 begin.3.rest n) target way;
      }

  on_walk : (y to n : ℕ) (a z : Channel) → y < length es → slice_index numbers y ≡ to → IsOnWay y a → Walk (GoesOn (far_at es numbers) rows to) n a z → IsOnWay y z
  on_walk y to zero a z y_low y_is on same = subst (λ (c : Channel). IsOnWay y c) same on
  on_walk y to (suc n) a z y_low y_is on (b, g, walk) = on_walk y to n b z y_low y_is (on_next y to a b y_low y_is on g) walk

  -- on its way it finds exits, each with a link
  no_gap : (y to : ℕ) (a : Channel) → y < length es → slice_index numbers y ≡ to → IsOnWay y a → IsGap (far_at es numbers) rows to a → ⊥
  no_gap y to a y_low y_is on gap =
      let place = place_found numbers on.place a.at named (let low = on.low in omega arith) on.is in
      let up = may_go_up es on.place a.port in
      let other : on.place ≢ y = λ (same : on.place ≡ y). gap.before (sym on.is ∙ ap (slice_index numbers) same ∙ y_is) in
      elim gap.gap [
        | inr (exit, has, gone) ↦ absurd (
            let begin = begins on.place a.at a.port to exit place has in
            let far = way_far es up on.place begin.0 exit begin.3.rest begin.3.way in
            let there = far_by es numbers on.place exit far.0 far.1 a.at place far.2 in
            cc)
        | inl bare ↦ (
            let shortest = has_shortest es up on.place y on.ports graph on.way in
            let exit = shortest_exit es any up on.place y shortest.0 other shortest.1 in
            let r = tables.whole on.place a.port y on.low on.entry y_low (λ (same : y ≡ on.place). other (sym same)) in
            let row = tables.each r.0 r.1 r.2 in
            let mine : (x : ℕ) × (x < length es) × IsRow es numbers any x r.1 = subst (λ (s : RowOf). (x : ℕ) × (x < length es) × IsRow es numbers any x s) r.3 row in
            let here : mine.0 ≡ on.place = one_place mine.0 on.place a.at mine.1 (sym mine.2.at ∙ r.4.0 ∙ on.is) place in
            let there : mine.2.to ≡ y = one_place mine.2.to y to mine.2.to_low (sym mine.2.number ∙ r.4.2 ∙ y_is) (place_found numbers y to named (omega arith) y_is) in
            let begin : Begins es any (may_go_up es mine.0 r.1.entry) mine.0 mine.2.to exit.0 =
            subst (λ (e : ℕ). Begins es any (may_go_up es mine.0 e) mine.0 mine.2.to exit.0) (sym r.4.1)
            (subst (λ (n : ℕ). Begins es any (may_go_up es n a.port) n mine.2.to exit.0) (sym here)
            (subst (λ (n : ℕ). Begins es any up on.place n exit.0) (sym there) exit.1)) in
            let has = mine.2.exits.whole exit.0 begin in
            bare exit.0 (r.0, r.1, r.2, r.3, (r.4.0 ∙ on.is, r.4.1, r.4.2 ∙ y_is, has)))
      ]

  -- so every two members are joined
  pub tables_joined : IsTree es → AllAreJoined (far_at es numbers) numbers rows
  tables_joined tree from to at entry meets =
      let x = meets.from_in in
      let y = meets.to_in in
      let x_low : x.0 < length es = (let low = x.1 in omega arith) in
      let y_low : y.0 < length es = (let low = y.1 in omega arith) in
      let x_is : slice_index numbers x.0 ≡ from = get_or_default numbers x.0 0 from x.1 ∙ x.2 in
      let y_is : slice_index numbers y.0 ≡ to = get_or_default numbers y.0 0 to y.1 ∙ y.2 in
      let route = joined es x.0 y.0 graph tree x_low y_low in
      let start : IsOnWay y.0 (record { at = from; port = 0 }) = record { place = x.0; low = x_low; is = x_is; entry = inl refl; ports = route.1.0; way = route.1.2 } in
      no_gap y.0 to (record { at = at; port = entry }) y_low y_is (on_walk y.0 to meets.meets.steps (record { at = from; port = 0 }) (record { at = at; port = entry }) y_low y_is start meets.meets.walk) meets.meets.gap
