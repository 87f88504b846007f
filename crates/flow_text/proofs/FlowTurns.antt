-- A run of the packets that enter a component: they enter, and then come the turns.
use Rattle.std.proofs.Common.{◌≡◌, ◌≢◌, ◌∙◌, sym, ap, subst, refl, ℕ, suc, ◌+◌, ◌<◌, ◌≤◌, List, [], ◌∷◌, ◌++◌, Bool, Option, arith, length, length-take, get_or, map, take, Contains, true, ◌==◌}
use Rattle.std.specs.List.{flat_map, range_with_len}
use Rattle.std.proofs.lemmas.Bool.Decides.{nat_tests}
use Rattle.std.proofs.lemmas.List.{get_or-map, get_or-take, get_or_default, length-map, take_more, map_push}
use Rattle.std.proofs.lemmas.List.Sums.{fold_more}
use Rattle.an_base.specs.Values.{EntryOf}
use Rattle.an_base.specs.Rows.{RowOf}
use Rattle.net_graph.specs.declared.wiring.SwitchAt.{SwitchAt}
use Rattle.net_graph.specs.Forest.{IsComponent}
use Rattle.net_script.specs.Scripts.{ScriptOf, IsScript}
use Rattle.std.proofs.lemmas.List.FromFn.{get_or-map-range_with_len, length-map-range_with_len}
use Rattle.switch_numbering.specs.Numbering.{numbering, number_at as place_number, proposals}
use Rattle.std.proofs.lemmas.Option.{same_Some}
use Rattle.topo_graph.specs.Topology.{entry_at, life_at, nothing}
use Rattle.topo_graph.proofs.PlaceLemmas.{place_found}
use Rattle.table_build.specs.Made.{table_of}
use Rattle.table_build.specs.Tables.{IsTable, TableOf}
use Rattle.table_build.proofs.MadeTables.{made_table}
use Rattle.dep_check.specs.Channels.{far_at, LeadsTo}
use Rattle.common_graph.specs.Cycles.{HasNoCycle}
use Rattle.dep_check.specs.Laws.{AreTables as AllTables}
use Rattle.dep_check.specs.Packets.{AllAreJoined}
use Rattle.dep_check.proofs.TableLaws.{tables_no_cycle, tables_joined}
use Rattle.flow_channels.specs.declared.went.Went.{Went}
use Rattle.flow_channels.specs.Flows.{FlowOf, empty_flow, enters}
use Rattle.flow_channels.specs.Layout.{HasRanks, LayoutOf, layout_of}
use Rattle.flow_channels.specs.Moves.{IsTurn, Turns}
use Rattle.flow_channels.specs.Runs.{MayEnter, moves_left}
use Rattle.flow_channels.specs.View.{FlowView, IsFresh, IsOver, MayEnterNow}
use Rattle.flow_channels.proofs.EndLaws.{turn_less}
use Rattle.flow_channels.proofs.RankedLaws.{has_ranks, ranks_in}
use Rattle.flow_channels.proofs.WiredLaws.{wired}
use Rattle.flow_text.specs.declared.sent.Sent.{Sent}
use Rattle.expect_text.specs.Expect.{AreTables, table_at}
use Rattle.flow_text.specs.Flows.{entered_flow, layout_in, with_entered}
use Rattle.flow_text.specs.FlowRuns.{AreOwnRows, HasEntered, IsNumbered, IsOwnLayout, IsRanked, IsReady, IsRunFrom}
use Rattle.flow_text.specs.Sends.{entering, MayAllEnter, number_at, numbers_in, sends_of}
use Rattle.row_text.proofs.ComponentTree.{component_tree}
use Rattle.flow_text.proofs.FlowSends.{may_enter}
use Rattle.check_text.proofs.PartRows.{all_tables}
use Rattle.expect_text.proofs.PartLemmas.{component_numbering}

-- A COMPONENT'S OWN ROWS

-- they lead no channels round, and join all switches
pub own_no_cycle : (any : Bool) (es : List EntryOf) (numbers : List ℕ) (rows : List RowOf) → AreOwnRows any es numbers rows → HasNoCycle (LeadsTo (far_at es numbers) rows)
own_no_cycle any es numbers rows own = let n = own.numbered in tables_no_cycle es numbers any rows n.graph n.named n.count own.tables

pub own_joined : (any : Bool) (es : List EntryOf) (numbers : List ℕ) (rows : List RowOf) → AreOwnRows any es numbers rows → AllAreJoined (far_at es numbers) numbers rows
own_joined any es numbers rows own = let n = own.numbered in tables_joined es numbers any rows n.graph n.named n.count own.tables n.tree

-- so the channels of their layout have ranks
pub own_ranks : (es : List EntryOf) (numbers sets : List ℕ) (room : ℕ) (layout : LayoutOf) → 1 ≤ room → IsOwnLayout es numbers sets room layout → HasRanks layout (ranks_in layout)
own_ranks es numbers sets room layout some is =
    let n = is.own.numbered in
    subst (λ (l : LayoutOf). HasRanks l (ranks_in l)) (sym is.is)
    (has_ranks (layout_of es numbers layout.rows room) (wired es numbers n.graph n.named n.count layout.rows room some) (own_no_cycle is.any es numbers layout.rows is.own))

-- THEY ENTER

-- the next one may enter
pub next_may_enter : (layout : LayoutOf) (home : List ℕ) (sends : List Sent) (i : ℕ) (sent : Sent) (old now : FlowView) → MayAllEnter layout.numbers home sends → length sends ≤ old.limit → HasEntered home (take i sends) old now → i < length sends → sent ≡ get_or sends i sent → MayEnter layout now.limit now.known sent.packet (number_at home sent.from) (number_at home sent.to)
next_may_enter layout home sends i sent old now may room so_far low is =
    let packet : Sent → ℕ = λ s. s.packet in
    let count : length now.known ≡ i = ap (λ (ps : List ℕ). length ps) so_far.known_is ∙ length-map (take i sends) packet ∙ (let l = length-take i sends in omega arith) in
    let limit = so_far.limit_is in
    record {
      few = omega arith;
      new = λ has.
          let there : Contains (map packet (take i sends)) sent.packet = subst (λ (ps : List ℕ). Contains ps sent.packet) so_far.known_is has in
          let inside = there.1 in
          let few = length-map (take i sends) packet in
          let all = length-take i sends in
          let before : there.0 < i = omega arith in
          let same : (get_or sends there.0 sent).packet ≡ sent.packet =
          ap packet (sym (get_or-take i sends there.0 sent before)) ∙ sym (get_or-map packet (take i sends) there.0 sent sent.packet (omega arith)) ∙ there.2 in
          may.apart there.0 i sent before low (same ∙ ap packet is);
      from_in = subst (λ (s : Sent). Contains layout.numbers (number_at home s.from)) (sym is) (may.from_in i sent low);
      to_in = subst (λ (s : Sent). Contains layout.numbers (number_at home s.to)) (sym is) (may.to_in i sent low);
      apart = subst (λ (s : Sent). number_at home s.from ≢ number_at home s.to) (sym is) (may.others i sent low);
    }

-- by the numbers that are looked up
pub may_as : (layout : LayoutOf) (home : List ℕ) (sends : List Sent) (i a b : ℕ) (sent : Sent) (old now : FlowView) → MayAllEnter layout.numbers home sends → length sends ≤ old.limit → HasEntered home (take i sends) old now → i < length sends → sent ≡ get_or sends i sent → a ≡ number_at home sent.from → b ≡ number_at home sent.to → MayEnter layout now.limit now.known sent.packet a b
may_as layout home sends i a b sent old now may room so_far low is from to =
    subst (λ (x : ℕ). MayEnter layout now.limit now.known sent.packet x b) (sym from)
    (subst (λ (y : ℕ). MayEnter layout now.limit now.known sent.packet (number_at home sent.from) y) (sym to)
    (next_may_enter layout home sends i sent old now may room so_far low is))

-- the same of a flow that is ready
pub next_enters : (layout : LayoutOf) (home : List ℕ) (sends : List Sent) (i a b : ℕ) (sent : Sent) (old now : FlowView) → IsOver layout now → MayAllEnter layout.numbers home sends → length sends ≤ old.limit → HasEntered home (take i sends) old now → i < length sends → sent ≡ get_or sends i sent → a ≡ number_at home sent.from → b ≡ number_at home sent.to → MayEnterNow now sent.packet a b
next_enters layout home sends i a b sent old now over may room so_far low is from to = record {
  layout = layout;
  over = over;
  may = may_as layout home sends i a b sent old now may room so_far low is from to;
}

-- and then one more has entered
pub one_more_entered : (home : List ℕ) (sends : List Sent) (i a b : ℕ) (sent : Sent) (old now new : FlowView) → HasEntered home (take i sends) old now → i < length sends → sent ≡ get_or sends i sent → a ≡ number_at home sent.from → b ≡ number_at home sent.to → new ≡ record now { known = now.known ++ (sent.packet ∷ []); flow = enters sent.packet a b now.flow } → HasEntered home (take (i + 1) sends) old new
one_more_entered home sends i a b sent old now new so_far low is from to now_is =
    let packet : Sent → ℕ = λ s. s.packet in
    let front : take (i + 1) sends ≡ take i sends ++ sent ∷ [] = take_more sends i sent low ∙ ap (λ (s : Sent). take i sends ++ s ∷ []) (sym is) in
    record {
      known_is = ap (λ (v : FlowView). v.known) now_is ∙ ap (λ (ps : List ℕ). ps ++ (sent.packet ∷ [])) so_far.known_is ∙ sym (map_push packet (take i sends) sent) ∙ ap (map packet) (sym front);
      flow_is = ap (λ (v : FlowView). v.flow) now_is
          ∙ ap (λ (x : ℕ). enters sent.packet x b now.flow) from ∙ ap (λ (y : ℕ). enters sent.packet (number_at home sent.from) y now.flow) to
          ∙ ap (λ (f : FlowOf). with_entered home f sent) so_far.flow_is ∙ ap (λ (s : Sent). with_entered home (entered_flow home (take i sends)) s) is ∙ sym (fold_more (with_entered home) empty_flow sends i sent low);
      limit_is = ap (λ (v : FlowView). v.limit) now_is ∙ so_far.limit_is;
    }

-- none has entered yet
pub none_entered : (layout : LayoutOf) (home : List ℕ) (sends : List Sent) (view : FlowView) → IsReady layout sends view → HasEntered home [] view view
none_entered layout home sends view ready = record { known_is = ready.known_is; flow_is = ready.flow_is; limit_is = refl }

-- THE TURNS

-- one turn more
pub turns_push : (layout : LayoutOf) (old now new : FlowOf) (moves : List Went) (went : Went) → Turns layout old moves now → IsTurn layout now went new → Turns layout old (moves ++ went ∷ []) new
turns_push layout old now new [] went same turn = (new, subst (λ (f : FlowOf). IsTurn layout f went new) (sym same) turn, refl)
turns_push layout old now new (first ∷ moves) went (next, one, rest) turn = (next, one, turns_push layout next now new moves went rest turn)

-- takes one from the moves that may be left
pub turn_falls : (ranks : List (Option ℕ)) (old new : FlowView) (went : Went) → (ranked : IsRanked ranks old) → IsTurn ranked.layout old.flow went new.flow → moves_left ranks new.flow < moves_left ranks old.flow
turn_falls ranks old new went ranked turn =
    let less = turn_less ranked.layout ranks ranked.over.wired ranked.ranked old.known old.flow new.flow went ranked.over.sound turn in
    omega arith

pub turns_on : (layout : LayoutOf) (old now new : FlowOf) (moves all : List Went) (went : Went) → Turns layout old moves now → IsTurn layout now went new → all ≡ moves ++ went ∷ [] → Turns layout old all new
turns_on layout old now new moves all went turns turn is = subst (λ (ms : List Went). Turns layout old ms new) (sym is) (turns_push layout old now new moves went turns turn)

-- THE RUN

-- there is a number for each member
pub named_all : (es : List EntryOf) (ns : List ℕ) → ns ≡ numbering es → length ns ≡ length es
named_all es ns is = ap (λ (l : List ℕ). length l) is ∙ length-map-range_with_len (place_number (proposals es)) 0 (length es)

-- the tables of all members, and their rows
pub member_tables : List EntryOf → Bool → List TableOf
member_tables es any = map (λ place. table_of (record { entries = es; numbers = numbering es }) any (life_at es place)) (range_with_len 0 (length es))

abbrev pub member_rows : List EntryOf → Bool → List RowOf
member_rows es any = flat_map (λ table. table.rows) (member_tables es any)

pub are_member_tables : (es : List EntryOf) (any : Bool) → IsNumbered es (numbering es) → AreTables es any (length es) (member_tables es any)
unfolding member_tables
are_member_tables es any n = record { count = length-map-range_with_len table 0 (length es); each = each }
  where
    table : ℕ → TableOf
    table place = table_of (record { entries = es; numbers = numbering es }) any (life_at es place)

    each : (place : ℕ) → place < length es → IsTable es (numbering es) any place (table_at (map table (range_with_len 0 (length es))) place)
    each place low =
        let (there, found, is) = made_table (record { entries = es; numbers = numbering es }) any (life_at es place) n.graph n.named n.count (place, entry_at es place, low, sym (get_or_default es place nothing (entry_at es place) low), refl) in
        let same : there ≡ place = same_Some there place (sym found ∙ place_found es place (life_at es place) n.graph.rising low refl) in
        subst (λ (t : TableOf). IsTable es (numbering es) any place t) (sym (get_or-map-range_with_len table 0 (length es) place place (record { number = 0; rows = [] }) low (omega arith)))
        (subst (λ (x : ℕ). IsTable es (numbering es) any x (table place)) same is)

-- the graph of a component, with its numbers
pub numbered_component : (s : ScriptOf) (root : ℕ) (es graph : List EntryOf) (numbers : List ℕ) → IsScript s → IsComponent s.wires root es → graph ≡ es → numbers ≡ numbering es → IsNumbered graph numbers
numbered_component s root es graph numbers kept component graph_is named =
    let trees = component_tree s.wires root es kept.wired component in
    let is : IsNumbered es (numbering es) = record {
      graph = trees.0;
      tree = trees.1;
      named = component_numbering s.wires root es kept.wired component trees.0;
      count = length-map-range_with_len (place_number (proposals es)) 0 (length es);
    } in
    subst (λ (g : List EntryOf). IsNumbered g numbers) (sym graph_is) (subst (λ (ns : List ℕ). IsNumbered es ns) (sym named) is)

-- those that enter it may all enter
pub those_may_enter : (s : ScriptOf) (root : ℕ) (es : List EntryOf) (switches : List SwitchAt) (numbers home : List ℕ) (those sends : List Sent) → IsScript s → IsComponent s.wires root es → numbers ≡ numbering es → switches ≡ s.wires.switches → home ≡ numbers_in switches es → those ≡ entering home sends → sends ≡ sends_of s → MayAllEnter numbers home those
those_may_enter s root es switches numbers home those sends kept component named switches_are home_is those_are sends_are =
    let is = numbered_component s root es es (numbering es) kept component refl refl in
    let all : MayAllEnter (numbering es) (numbers_in s.wires.switches es) (entering (numbers_in s.wires.switches es) (sends_of s)) = may_enter s es kept is.named is.count in
    let own : home ≡ numbers_in s.wires.switches es = home_is ∙ ap (λ (w : List SwitchAt). numbers_in w es) switches_are in
    let same : those ≡ entering (numbers_in s.wires.switches es) (sends_of s) = those_are ∙ ap (entering home) sends_are ∙ ap (λ (h : List ℕ). entering h (sends_of s)) own in
    subst (λ (ns : List ℕ). MayAllEnter ns home those) (sym named)
    (subst (λ (h : List ℕ). MayAllEnter (numbering es) h those) (sym own)
    (subst (λ (ss : List Sent). MayAllEnter (numbering es) (numbers_in s.wires.switches es) ss) (sym same) all))

-- these rows are a component's own
pub own_rows : (any : Bool) (es : List EntryOf) (numbers : List ℕ) → numbers ≡ numbering es → IsNumbered es numbers → AreOwnRows any es numbers (member_rows es any)
own_rows any es numbers named numbered =
    let tables = are_member_tables es any (subst (λ (ns : List ℕ). IsNumbered es ns) named numbered) in
    record {
      numbered = numbered;
      tables = subst (λ (ns : List ℕ). AllTables es ns any (member_rows es any)) (sym named) (all_tables es (numbering es) any (member_tables es any) tables.count tables.each);
    }

-- a flow that is fresh has room for as many packets as may enter
pub ready : (layout : LayoutOf) (most : ℕ) (sends : List Sent) (view : FlowView) → IsFresh layout most view → length sends ≤ most → IsReady layout sends view
ready layout most sends view fresh few = record { over = fresh.over; known_is = fresh.known_is; flow_is = fresh.flow_is; room = (let e = fresh.limit_is in omega arith) }

-- these are the moves of packets that enter a component
pub record IsRun (any : Bool) (room : ℕ) (entries : List EntryOf) (home : List ℕ) (sends : List Sent)
    (moves : List Went) : Type 0 where
  pub tables : List TableOf
  pub are : AreTables entries any (length entries) tables
  pub run : IsRunFrom (layout_in room (record { entries = entries; tables = tables }))
      (entered_flow home sends) moves

-- the moves of those that entered are a run
pub ran : (any : Bool) (room : ℕ) (es : List EntryOf) (numbers home : List ℕ) (sends : List Sent) (moves : List Went) → numbers ≡ numbering es → IsNumbered es numbers → IsRunFrom (layout_of es numbers (member_rows es any) room) (entered_flow home sends) moves → IsRun any room es home sends moves
ran any room es numbers home sends moves named numbered run = record {
  tables = member_tables es any;
  are = are_member_tables es any (subst (λ (ns : List ℕ). IsNumbered es ns) named numbered);
  run = subst (λ (ns : List ℕ). IsRunFrom (layout_of es ns (member_rows es any) room) (entered_flow home sends) moves) named run;
}

-- where none enters none moves
pub none_ran : (any : Bool) (room : ℕ) (es : List EntryOf) (home : List ℕ) (sends : List Sent) (tables : List TableOf) (moves : List Went) → AreTables es any (length es) tables → (length sends == 0) ≡ true → moves ≡ [] → IsRun any room es home sends moves
none_ran any room es home (sent ∷ sends) tables moves are empty still = absurd (let none : suc (length sends) ≡ 0 = (grind (arith, nat_tests)) in omega arith)
none_ran any room es home [] tables moves are empty still = record {
  tables = tables;
  are = are;
  run = subst (λ (ms : List Went). IsRunFrom (layout_in room (record { entries = es; tables = tables })) empty_flow ms) (sym still)
      (record { end = empty_flow; turns = refl; done = refl });
}
