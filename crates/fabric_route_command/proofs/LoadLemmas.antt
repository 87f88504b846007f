-- How the loads go on, route by route.
use Rattle.std.proofs.Common.{◌≤◌, ◌≡◌, ◌≢◌, ◌∙◌, sym, ap, subst, refl, ℕ, ◌+◌, ◌-◌, ◌*◌, ◌<◌, ◌⊎◌, arith, inl, inr, List, length, get_or, set}
use Rattle.std.proofs.lemmas.Bool.{cases_eq, cases_lt}
use Rattle.std.proofs.lemmas.List.{get_or-set_other, get_or-set_same, length-set}
use Rattle.std.proofs.lemmas.Nat.{mul-add-lt, same_from_place}
use Rattle.fabric_tables.specs.Cells.{TablesOf}
use Rattle.fabric_counts.specs.Counts.{Route, hop_for}
use Rattle.fabric_counts.proofs.LostLemmas.{walk_place, place}
use Rattle.fabric_model.specs.declared.node.EndPort.{EndPort}
use Rattle.fabric_model.specs.Fabric.{FabricOf, IsFabric, start_of, switch_count}
use Rattle.fabric_routes.specs.Counting.{IsCountOf}
use Rattle.fabric_routes.specs.declared.hop.Hop.{Hop}
use Rattle.fabric_routes.specs.declared.hop.Hop.TheVariants.{On}
use Rattle.fabric_routes.specs.declared.hop.Outcome.TheVariants.{Arrives}
use Rattle.fabric_model.specs.declared.traffic.Traffic.TheVariants.{Hosts}
use Rattle.fabric_routes.specs.Found.{number}
use Rattle.fabric_routes.specs.Routes.{Channel, ComesBy, EndsAs, Sends, hop}
use Rattle.fabric_routes.proofs.CountLemmas.{count_image, count_none, count_same, count_sum}
use Rattle.fabric_route_command.specs.declared.loads.Loads.{Loads}
use Rattle.fabric_route_command.specs.Loads.{AreLoads, IsAlong, IsFrom, IsPlace, IsUntil}
use Rattle.fabric_route_command.specs.Measured.{GoesOver, IsOneArriving}
use Rattle.fabric_route_command.proofs.UntilLemmas.{all_back, from_until, lid_back, lid_to, some_same, unsent_back, until_more, until_not_from, until_or_from}
use Rattle.fabric_route_command.proofs.WayLemmas.{ends_after, no_return}

port_same : (does : Hop) (port next by after : ℕ) → does ≡ On port next → does ≡ On by after → port ≡ by
port_same does port next by after first second = cc

same_parts : (a b : Channel) → a.switch ≡ b.switch → a.port ≡ b.port → a ≡ b
same_parts a b switch port = ap (λ (s : ℕ). let c : Channel = record { switch = s; port = a.port } in c) switch ∙ ap (λ (p : ℕ). let c : Channel = record { switch = b.switch; port = p } in c) port

pub one_place : (fabric : FabricOf) (a b : Channel) → IsPlace fabric a → IsPlace fabric b → number fabric a ≡ number fabric b → a ≡ b
one_place fabric a b is_a is_b same =
    let used_a = is_a.used in
    let low_a = is_a.low in
    let used_b = is_b.used in
    let low_b = is_b.low in
    let parts = same_from_place a.switch (a.port - 1) b.switch (b.port - 1) fabric.most (omega arith) (omega arith) same in
    same_parts a b parts.0 (let p = parts.1 in omega arith)

pub place_low : (fabric : FabricOf) (a : Channel) → IsPlace fabric a → number fabric a < switch_count fabric * fabric.most
place_low fabric a is =
    let used = is.used in
    let low = is.low in
    let less = mul-add-lt a.switch fabric.most (a.port - 1) (switch_count fabric) is.switch (omega arith) in
    omega arith

module _ (fabric : FabricOf) (tables : TablesOf) where
  abbrev Over : (Route → Channel → Type 0) → Channel → Route → Type 0
  Over Is channel route = GoesOver fabric tables channel route × Is route channel

  abbrev Pairs : (Route → Channel → Type 0) → Route × Channel → Type 0
  Pairs Is pair = GoesOver fabric tables pair.1 pair.0 × Is pair.0 pair.1

  -- the same loads by another kind of routes
  pub loads_same : (Is As : Route → Channel → Type 0) (loads : Loads) → ((route : Route) (channel : Channel) → GoesOver fabric tables channel route → Is route channel → As route channel) → ((route : Route) (channel : Channel) → GoesOver fabric tables channel route → As route channel → Is route channel) → AreLoads fabric tables Is loads → AreLoads fabric tables As loads
  loads_same Is As loads to back are = record {
    size = are.size;
    each = λ channel within. count_same Route (Over Is channel) (Over As channel) (get_or loads.each.items (number fabric channel) 0)
        (λ route one. (one.0, to route channel one.0 one.1)) (λ route one. (one.0, back route channel one.0 one.1)) (are.each channel within);
    all = count_same (Route × Channel) (Pairs Is) (Pairs As) loads.hops
        (λ pair one. (one.0, to pair.0 pair.1 one.0 one.1)) (λ pair one. (one.0, back pair.0 pair.1 one.0 one.1)) are.all;
    less = are.less;
  }

  -- the same numbers
  pub loads_alike : (Is : Route → Channel → Type 0) (old new : Loads) → new.each.items ≡ old.each.items → new.hops ≡ old.hops → AreLoads fabric tables Is old → AreLoads fabric tables Is new
  loads_alike Is old new each hops are = record {
    size = ap (λ (xs : List ℕ). length xs) each ∙ are.size;
    each = λ channel within. subst (λ (xs : List ℕ). IsCountOf (Over Is channel) (get_or xs (number fabric channel) 0)) (sym each) (are.each channel within);
    all = subst (λ (n : ℕ). IsCountOf (Pairs Is) n) (sym hops) are.all;
    less = λ at. subst (λ (xs : List ℕ). get_or xs at 0 ≤ new.hops) (sym each) (let less = are.less at in omega arith);
  }

  pub no_loads : (Is : Route → Channel → Type 0) (loads : Loads) → length loads.each.items ≡ switch_count fabric * fabric.most → ((at : ℕ) → get_or loads.each.items at 0 ≡ 0) → loads.hops ≡ 0 → ((route : Route) (channel : Channel) → Is route channel → ⊥) → AreLoads fabric tables Is loads
  no_loads Is loads size zero_at all none = record {
    size = size;
    each = λ channel within. subst (λ (n : ℕ). IsCountOf (Over Is channel) n) (sym (zero_at (number fabric channel))) (count_none Route (Over Is channel) (λ route one. none route channel one.1));
    all = subst (λ (n : ℕ). IsCountOf (Pairs Is) n) (sym all) (count_none (Route × Channel) (Pairs Is) (λ pair one. none pair.0 pair.1 one.1));
    less = λ at. (let z = zero_at at in omega arith);
  }

  -- routes more over one channel
  module _ (Is As : Route → Channel → Type 0) (From : Route → Type 0) (here : Channel) (within : IsPlace fabric here)
      (over : (route : Route) → From route → GoesOver fabric tables here route)
      (old : (route : Route) (channel : Channel) → Is route channel → As route channel)
      (new : (route : Route) → From route → As route here)
      (either : (route : Route) (channel : Channel) → GoesOver fabric tables channel route → As route channel → Is route channel ⊎ (From route × (channel ≡ here)))
      (apart : (route : Route) → Is route here → From route → ⊥)
      (routes : ℕ) (count : IsCountOf From routes) where
    abbrev FromPairs : Route × Channel → Type 0
    FromPairs pair = From pair.0 × (pair.1 ≡ here)

    here_more : (load : ℕ) → IsCountOf (Over Is here) load → IsCountOf (Over As here) (load + routes)
    here_more load is = count_sum Route (Over Is here) From (Over As here) load routes
        (λ route one. (one.0, old route here one.1))
        (λ route from. (over route from, new route from))
        (λ route one. elim (either route here one.0 one.1) [ inl had ↦ inl (one.0, had) | inr from ↦ inr from.0 ])
        (λ route one from. apart route one.1 from)
        is count

    there_same : (channel : Channel) → channel ≢ here → (load : ℕ) → IsCountOf (Over Is channel) load → IsCountOf (Over As channel) load
    there_same channel other load = count_same Route (Over Is channel) (Over As channel) load
        (λ route one. (one.0, old route channel one.1))
        (λ route one. elim (either route channel one.0 one.1) [ inl had ↦ (one.0, had) | inr from ↦ absurd (other from.1) ])

    from_pairs : IsCountOf FromPairs routes
    from_pairs = count_image Route (Route × Channel) (λ route. (route, here)) From FromPairs routes
        (λ route from. (from, refl))
        (λ pair from. (pair.0, from.0, ap (λ (c : Channel). let p : Route × Channel = (pair.0, c) in p) (sym from.1)))
        (λ one other same. ap (λ (p : Route × Channel). p.0) same)
        count

    pairs_more : (all : ℕ) → IsCountOf (Pairs Is) all → IsCountOf (Pairs As) (all + routes)
    pairs_more all is = count_sum (Route × Channel) (Pairs Is) FromPairs (Pairs As) all routes
        (λ pair one. (one.0, old pair.0 pair.1 one.1))
        (λ pair from. (subst (λ (c : Channel). GoesOver fabric tables c pair.0) (sym from.1) (over pair.0 from.0), subst (λ (c : Channel). As pair.0 c) (sym from.1) (new pair.0 from.0)))
        (λ pair one. elim (either pair.0 pair.1 one.0 one.1) [ inl had ↦ inl (one.0, had) | inr from ↦ inr from ])
        (λ pair one from. apart pair.0 (subst (λ (c : Channel). Is pair.0 c) from.1 one.1) from.0)
        is from_pairs

    pub loads_more : (loads more : Loads) → more.each.items ≡ set loads.each.items (number fabric here) (get_or loads.each.items (number fabric here) 0 + routes) → more.hops ≡ loads.hops + routes → AreLoads fabric tables Is loads → AreLoads fabric tables As more
    loads_more loads more each_is all_is are =
        let at = number fabric here in
        let before = get_or loads.each.items at 0 in
        let size = are.size in
        let low = place_low fabric here within in
        let same_at : get_or more.each.items at 0 ≡ before + routes = ap (λ (xs : List ℕ). get_or xs at 0) each_is ∙ get_or-set_same loads.each.items at (before + routes) 0 (omega arith) in
        let other_at : (k : ℕ) → k ≢ at → get_or more.each.items k 0 ≡ get_or loads.each.items k 0 = λ k differ. ap (λ (xs : List ℕ). get_or xs k 0) each_is ∙ get_or-set_other loads.each.items at k (before + routes) 0 differ in
        record {
          size = ap (λ (xs : List ℕ). length xs) each_is ∙ length-set loads.each.items at (before + routes) ∙ size;
          each = λ channel is_place. elim (cases_eq (number fabric channel) at) [
            | inl same ↦ (
                let e = one_place fabric channel here is_place within same in
                subst (λ (c : Channel). IsCountOf (Over As c) (get_or more.each.items (number fabric c) 0)) (sym e)
                (subst (λ (n : ℕ). IsCountOf (Over As here) n) (sym same_at) (here_more before (are.each here within))))
            | inr differ ↦ subst (λ (n : ℕ). IsCountOf (Over As channel) n) (sym (other_at (number fabric channel) differ))
                (there_same channel (λ e. differ (ap (number fabric) e)) (get_or loads.each.items (number fabric channel) 0) (are.each channel is_place))
          ];
          all = subst (λ (n : ℕ). IsCountOf (Pairs As) n) (sym all_is) (pairs_more loads.hops are.all);
          less = λ k. elim (cases_eq k at) [
            | inl same ↦ (let value = ap (λ (n : ℕ). get_or more.each.items n 0) same in let less = are.less at in omega arith)
            | inr differ ↦ (let value = other_at k differ in let less = are.less k in omega arith)
          ];
        }

  -- the routes to a LID from a switch
  module _ (lid start : ℕ) where
    abbrev HopAt : ℕ → Hop
    HopAt = hop_for fabric tables lid

    -- none of them goes over a channel
    pub skipped : (loads : Loads) → ((route : Route) → IsOneArriving fabric tables route → IsFrom fabric tables lid start route → ⊥) → AreLoads fabric tables (λ route channel. IsUntil fabric lid start route) loads → AreLoads fabric tables (λ route channel. IsUntil fabric lid (start + 1) route) loads
    skipped loads none = loads_same (λ route channel. IsUntil fabric lid start route) (λ route channel. IsUntil fabric lid (start + 1) route) loads
        (λ route channel over until. until_more fabric tables lid start route until)
        (λ route channel over until. elim (until_or_from fabric tables lid start route over.comes.sends until) [
          | inl had ↦ had
          | inr from ↦ absurd (none route over.arrives from)
        ])

    -- as the first hop is to be taken
    pub along_first : (loads : Loads) → AreLoads fabric tables (λ route channel. IsUntil fabric lid start route) loads → AreLoads fabric tables (IsAlong fabric tables lid start 0) loads
    along_first loads = loads_same (λ route channel. IsUntil fabric lid start route) (IsAlong fabric tables lid start 0) loads
        (λ route channel over until. inl until)
        (λ route channel over along. elim along [ inl had ↦ had | inr (from, (before, low, walk)) ↦ absurd (omega arith) ])

    -- the way of such a route
    module _ (route : Route) (channel : Channel) (over : GoesOver fabric tables channel route) (from : IsFrom fabric tables lid start route) where
      pub way_start : over.comes.start ≡ start
      way_start = some_same over.comes.start start (start_of fabric route.source) over.comes.begins from.2

      pub way_walk : ComesBy fabric tables lid over.comes.hops start channel.switch
      way_walk = subst (λ (s : ℕ). ComesBy fabric tables lid over.comes.hops s channel.switch) way_start
          (subst (λ (l : ℕ). ComesBy fabric tables l over.comes.hops over.comes.start channel.switch) from.1 over.comes.comes)

      pub way_goes : hop fabric tables channel.switch lid ≡ On channel.port over.next
      way_goes = subst (λ (l : ℕ). hop fabric tables channel.switch l ≡ On channel.port over.next) from.1 over.goes

    -- they have ended, after so many hops
    pub walked : (hops at : ℕ) (loads : Loads) → ComesBy fabric tables lid hops start at → ((port next : ℕ) → hop fabric tables at lid ≡ On port next → ⊥) → AreLoads fabric tables (IsAlong fabric tables lid start hops) loads → AreLoads fabric tables (λ route channel. IsUntil fabric lid (start + 1) route) loads
    walked hops at loads walk last = loads_same (IsAlong fabric tables lid start hops) (λ route channel. IsUntil fabric lid (start + 1) route) loads
        (λ route channel over along. elim along [ inl had ↦ until_more fabric tables lid start route had | inr (from, way) ↦ from_until fabric tables lid start route from ])
        (λ route channel over until. elim (until_or_from fabric tables lid start route over.comes.sends until) [
          | inl had ↦ inl had
          | inr from ↦ inr (
            from,
            (
              over.comes.hops,
              ends_after HopAt start hops at over.comes.hops channel.switch channel.port over.next walk last (way_walk route channel over from) (way_goes route channel over from),
              way_walk route channel over from,
            ),
          )
        ])

    -- one hop more
    module _ (switches : ℕ) (arrives : EndsAs HopAt start (Arrives switches)) (hops : ℕ) (here : Channel) (within : IsPlace fabric here)
        (walk : ComesBy fabric tables lid hops start here.switch) (next : ℕ) (goes : hop fabric tables here.switch lid ≡ On here.port next)
        (routes : ℕ) (count : IsCountOf (IsFrom fabric tables lid start) routes) where
      over_here : (route : Route) → IsFrom fabric tables lid start route → GoesOver fabric tables here route
      over_here route (is, same, begins) = record {
        arrives = (
          switches,
          (
            is,
            record {
              start = start;
              begins = begins;
              ends = subst (λ (l : ℕ). EndsAs (hop_for fabric tables l) start (Arrives switches)) (sym same) arrives;
            },
          ),
        );
        comes = record {
          sends = is;
          start = start;
          begins = begins;
          hops = hops;
          comes = subst (λ (l : ℕ). ComesBy fabric tables l hops start here.switch) (sym same) walk;
        };
        next = next;
        goes = subst (λ (l : ℕ). hop fabric tables here.switch l ≡ On here.port next) (sym same) goes;
      }

      along_old : (route : Route) (channel : Channel) → IsAlong fabric tables lid start hops route channel → IsAlong fabric tables lid start (hops + 1) route channel
      along_old route channel (inl had) = inl had
      along_old route channel (inr (from, (before, low, way))) = inr (from, (before, omega arith, way))

      along_new : (route : Route) → IsFrom fabric tables lid start route → IsAlong fabric tables lid start (hops + 1) route here
      along_new route from = inr (from, (hops, omega arith, walk))

      along_or : (route : Route) (channel : Channel) → GoesOver fabric tables channel route → IsAlong fabric tables lid start (hops + 1) route channel → IsAlong fabric tables lid start hops route channel ⊎ (IsFrom fabric tables lid start route × (channel ≡ here))
      along_or route channel over (inl had) = inl (inl had)
      along_or route channel over (inr (from, (before, low, way))) = elim (cases_lt before hops) [
        | inl less ↦ inl (inr (from, (before, less, way)))
        | inr not_less ↦ (
            let e : before ≡ hops = omega arith in
            let at : channel.switch ≡ here.switch = walk_place HopAt start before channel.switch way ∙ ap (place HopAt start) e ∙ sym (walk_place HopAt start hops here.switch walk) in
            let by : hop fabric tables here.switch lid ≡ On channel.port over.next = ap HopAt (sym at) ∙ way_goes route channel over from in
            inr (from, same_parts channel here at (port_same (hop fabric tables here.switch lid) channel.port over.next here.port next by goes)))
      ]

      along_apart : (route : Route) → IsAlong fabric tables lid start hops route here → IsFrom fabric tables lid start route → ⊥
      along_apart route (inl had) from = until_not_from fabric tables lid start route had from
      along_apart route (inr (other, (before, low, way))) from = no_return HopAt start switches before hops here.switch arrives low way walk

      pub along_more : (loads more : Loads) → more.each.items ≡ set loads.each.items (number fabric here) (get_or loads.each.items (number fabric here) 0 + routes) → more.hops ≡ loads.hops + routes → AreLoads fabric tables (IsAlong fabric tables lid start hops) loads → AreLoads fabric tables (IsAlong fabric tables lid start (hops + 1)) more
      along_more = loads_more (IsAlong fabric tables lid start hops) (IsAlong fabric tables lid start (hops + 1)) (IsFrom fabric tables lid start) here within over_here along_old along_new along_or along_apart routes count

  -- the next LID, and all
  pub lid_done : IsFabric fabric → (lid count : ℕ) (loads : Loads) → count ≡ switch_count fabric → AreLoads fabric tables (λ route channel. IsUntil fabric lid count route) loads → AreLoads fabric tables (λ route channel. IsUntil fabric (lid + 1) 0 route) loads
  lid_done fits lid count loads all = loads_same (λ route channel. IsUntil fabric lid count route) (λ route channel. IsUntil fabric (lid + 1) 0 route) loads
      (λ route channel over until. lid_to fabric tables lid count route until)
      (λ route channel over until. lid_back fabric tables fits lid count all route over.comes.sends until)

  pub lid_unsent : (lid : ℕ) (loads : Loads) → ((source : EndPort) → Sends fabric tables Hosts lid source → ⊥) → AreLoads fabric tables (λ route channel. IsUntil fabric lid 0 route) loads → AreLoads fabric tables (λ route channel. IsUntil fabric (lid + 1) 0 route) loads
  lid_unsent lid loads none = loads_same (λ route channel. IsUntil fabric lid 0 route) (λ route channel. IsUntil fabric (lid + 1) 0 route) loads
      (λ route channel over until. lid_to fabric tables lid 0 route until)
      (λ route channel over until. unsent_back fabric tables lid none route over.comes.sends until)

  pub all_loads : (lids : ℕ) (loads : Loads) → lids ≡ length fabric.owners → AreLoads fabric tables (λ route channel. IsUntil fabric lids 0 route) loads → AreLoads fabric tables (λ route channel. Unit {0}) loads
  all_loads lids loads all = loads_same (λ route channel. IsUntil fabric lids 0 route) (λ route channel. Unit {0}) loads
      (λ route channel over until. tt)
      (λ route channel over any. all_back fabric tables lids all route over.comes.sends)
