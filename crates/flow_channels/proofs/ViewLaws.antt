-- A flow as callers see it, after each call.
use Rattle.std.proofs.Common.{◌≡◌, ◌∙◌, sym, ap, subst, refl, ℕ, zero, suc, ◌+◌, ◌<◌, ◌≤◌, List, [], ◌∷◌, ◌++◌, Option, Some, None, arith, length, get_or, inl, inr}
use Rattle.std.specs.Prelude.{Contains, IfNone, IfSome, IsNone, MatchOption, map}
use Rattle.std.proofs.lemmas.Bool.{cases_eq}
use Rattle.std.proofs.lemmas.List.{length_push, map-append}
use Rattle.std.proofs.lemmas.List.Elements.{All-weaker, Contains-append_left, Contains-append_right}
use Rattle.an_base.specs.Values.{EntryOf}
use Rattle.an_base.specs.Rows.{RowOf}
use Rattle.an_base.specs.Numbers.{AreNumbers}
use Rattle.topo_graph.specs.Topology.{IsGraph}
use Rattle.dep_check.specs.Channels.{far_at, LeadsTo}
use Rattle.common_graph.specs.Cycles.{HasNoCycle}
use Rattle.dep_check.specs.Packets.{AllAreJoined}
use Rattle.dep_check.specs.Tables.{place_of}
use Rattle.flow_channels.specs.declared.board.Board.{Board}
use Rattle.flow_channels.specs.declared.board.Packet.{Packet}
use Rattle.flow_channels.specs.declared.tables.Tables.{Tables}
use Rattle.flow_channels.specs.declared.went.Went.{Went}
use Rattle.flow_channels.specs.Board.{AreTablesOf, flow_of, IsKept, IsSoundOver}
use Rattle.flow_channels.specs.Flows.{FlowOf, WaitOf, empty_flow, enters, left_of, waiting_at}
use Rattle.flow_channels.specs.Layout.{LayoutOf, layout_of}
use Rattle.flow_channels.specs.Runs.{MayEnter}
use Rattle.flow_channels.specs.Sound.{IsIn, IsInIfStarts, IsSound}
use Rattle.flow_channels.specs.Moves.{IsTurn}
use Rattle.flow_channels.specs.Turns.{IsSame}
use Rattle.flow_channels.specs.View.{FlowView, HasLeft, HasTurned, IsOver, IsRunning, IsStill, TurnsTo, view_of}
use Rattle.flow_channels.proofs.DepartLemmas.{same_flow}
use Rattle.flow_channels.proofs.WeightLaws.{starting_push, starting_set}
use Rattle.flow_channels.proofs.MoveLaws.{some_move}
use Rattle.flow_channels.proofs.RunLaws.{no_moves}
use Rattle.flow_channels.proofs.SoundLaws.{enter_sound, start_sound, turn_sound}
use Rattle.flow_channels.proofs.WiredLaws.{wired}
use Rattle.flow_channels.proofs.RankedLaws.{has_ranks, ranks_in}

abbrev viewed : Tables → List ℕ → FlowOf → FlowView
viewed tables known flow = record {
  wires = tables.wires.items;
  sets = tables.exits;
  room = tables.room;
  limit = tables.limit;
  known = known;
  flow = flow;
}

abbrev number : Packet → ℕ
number packet = packet.packet

-- more packets may be known
sound_known : (layout : LayoutOf) (known other : List ℕ) (flow : FlowOf) → ((x : ℕ) → Contains known x → Contains other x) → IsSound layout known flow → IsSound layout other flow
sound_known layout known other flow more sound = record {
  queues = sound.queues;
  waiting = sound.waiting;
  room = sound.room;
  moving = sound.moving;
  firsts = sound.firsts;
  waits = sound.waits;
  place = sound.place;
  in_queue = λ channel is. All-weaker (IsIn known sound.place channel) (IsIn other sound.place channel) (λ p has. (more p.packet has.0, has.1)) (get_or flow.queues (place_of channel) []) (sound.in_queue channel is);
  starts = λ at. All-weaker (IsInIfStarts known sound.place at) (IsInIfStarts other sound.place at) (λ w one first. let h = one first in (more w.packet.packet h.0, h.1)) (waiting_at flow at) (sound.starts at);
  once = sound.once;
  apart = sound.apart;
}

pub over_turned : (tables : Tables) (old new : Board) (went : Went) (layout : LayoutOf) → IsOver layout (view_of tables old) → HasTurned tables old new went → IsOver layout (view_of tables new)
over_turned tables old new went layout over turned = record {
  tables_are = over.tables_are;
  wired = over.wired;
  joined = over.joined;
  ranks = over.ranks;
  ranked = over.ranked;
  sound = subst (λ (known : List ℕ). IsSound layout known (flow_of new)) (ap (map number) (sym turned.packets)) (turn_sound layout over.wired (map number old.packets.items) (flow_of old) (flow_of new) went over.sound (turned.turn layout over));
}

pub running_turned : (tables : Tables) (old new : Board) (went : Went) → IsRunning tables old → HasTurned tables old new went → IsRunning tables new
running_turned tables old new went running turned = record {
  kept = turned.kept;
  least = running.least;
  limit = running.limit;
  layout = running.layout;
  over = over_turned tables old new went running.layout running.over turned;
}

pub same_view : (tables : Tables) (old new : Board) → IsSame old new → view_of tables old ≡ view_of tables new
same_view tables old new same =
    let flow = sym (same_flow old new same) in
    let known = ap (map number) (sym same.packets) in
    ap (λ (ks : List ℕ). viewed tables ks (flow_of old)) known ∙ ap (λ (f : FlowOf). viewed tables (map number new.packets.items) f) flow

pub running_same : (tables : Tables) (old new : Board) → IsRunning tables old → IsSame old new → IsKept tables new → IsRunning tables new
running_same tables old new running same kept = record {
  kept = kept;
  least = running.least;
  limit = running.limit;
  layout = running.layout;
  over = subst (λ (v : FlowView). IsOver running.layout v) (same_view tables old new same) running.over;
}

-- what callers see of a turn
turned_view : (tables : Tables) (old new : Board) (went : Went) (view : FlowView) → view_of tables old ≡ view → HasTurned tables old new went → (layout : LayoutOf) → IsOver layout view → IsTurn layout view.flow went (flow_of new) × (view_of tables new ≡ record view { flow = flow_of new })
turned_view tables old new went view is turned layout over = (
  subst (λ (v : FlowView). IsTurn layout v.flow went (flow_of new)) is (turned.turn layout (subst (λ (v : FlowView). IsOver layout v) (sym is) over)),
  ap (λ (ks : List ℕ). viewed tables ks (flow_of new)) (ap (map number) turned.packets) ∙ ap (λ (v : FlowView). let w : FlowView = record v { flow = flow_of new } in w) is,
)

pub arrived_view : (tables : Tables) (old new : Board) (went : Went) (view : FlowView) → view_of tables old ≡ view → HasTurned tables old new went → (layout : LayoutOf) → IsOver layout view → TurnsTo layout view (view_of tables new) (Some went)
arrived_view tables old new went view is turned layout over = turned_view tables old new went view is turned layout over

pub departed_view : (tables : Tables) (start old new : Board) (result : Option Went) (view : FlowView) → view_of tables start ≡ view → old ≡ start → MatchOption result (IsStill tables old) (HasTurned tables old new) → IfNone result (IsSame old new) → (layout : LayoutOf) → IsOver layout view → TurnsTo layout view (view_of tables new) result
departed_view tables start old new None view is same still stays layout over = sym (same_view tables old new stays) ∙ ap (view_of tables) same ∙ is
departed_view tables start old new (Some went) view is same turned stays layout over = turned_view tables old new went view (ap (view_of tables) same ∙ is) turned layout over

pub left_after : (tables : Tables) (start old new : Board) (left : ℕ) (result : Option Went) → old ≡ start → HasLeft tables start left → MatchOption result (IsStill tables old) (HasTurned tables old new) → IfNone result (IsSame old new) → (IsNone result → IsRunning tables new) → IfSome result (λ _. left_of (flow_of new) ≡ left_of (flow_of old)) → HasLeft tables new left
left_after tables start old new left None is has still same running lefts = record {
  running = running refl;
  left_is = has.left_is ∙ ap (λ (b : Board). left_of (flow_of b)) (sym is) ∙ ap left_of (sym (same_flow old new same));
  few = let n = ap (λ (b : Board). length b.packets.items) (sym is) ∙ ap (λ (ps : List Packet). length ps) (sym same.packets) in let few = has.few in omega arith;
}
left_after tables start old new left (Some went) is has turned same running lefts = record {
  running = running_turned tables old new went (subst (λ (b : Board). IsRunning tables b) (sym is) has.running) turned;
  left_is = has.left_is ∙ ap (λ (b : Board). left_of (flow_of b)) (sym is) ∙ sym lefts;
  few = let n = ap (λ (b : Board). length b.packets.items) (sym is) ∙ ap (λ (ps : List Packet). length ps) (sym turned.packets) in let few = has.few in omega arith;
}

pub over_after : (tables : Tables) (start old new : Board) (result : Option Went) (layout : LayoutOf) → old ≡ start → IsOver layout (view_of tables start) → MatchOption result (IsStill tables old) (HasTurned tables old new) → IfNone result (IsSame old new) → IsOver layout (view_of tables new)
over_after tables start old new None layout is over still same = subst (λ (v : FlowView). IsOver layout v) (same_view tables old new same) (subst (λ (b : Board). IsOver layout (view_of tables b)) (sym is) over)
over_after tables start old new (Some went) layout is over turned same = over_turned tables old new went layout (subst (λ (b : Board). IsOver layout (view_of tables b)) (sym is) over) turned

pub none_after : (tables : Tables) (start old new : Board) (result : Option Went) → old ≡ start → IsRunning tables start → MatchOption result (IsStill tables old) (HasTurned tables old new) → (IsNone result → left_of (flow_of start) ≡ 0) × (left_of (flow_of start) ≡ 0 → IsNone result)
none_after tables start old new None is running still =
    let over = running.over in
    let known = map number start.packets.items in (
      (λ none. elim (cases_eq (left_of (flow_of start)) 0) [
        | inl empty ↦ empty
        | inr some ↦ absurd (
            let move = some_move running.layout over.ranks known (flow_of start) over.wired over.joined over.ranked over.sound some in
            let stays : IsStill tables start = subst (λ (b : Board). IsStill tables b) is still in
            stays running.layout move.0 over move.1)
      ]),
      (λ empty. refl),
    )
none_after tables start old new (Some went) is running turned =
    let over = running.over in
    let known = map number start.packets.items in
    let turned_here : HasTurned tables start new went = subst (λ (b : Board). HasTurned tables b new went) is turned in
    let turn = turned_here.turn running.layout over in (
      (λ none. absurd (cc)),
      (λ empty. absurd (no_moves running.layout known (flow_of start) turn.move over.wired over.sound empty turn.next.possible)),
    )

-- one more packet
pub over_entered : (tables : Tables) (old new : Board) (packet : Packet) (from : ℕ) (layout : LayoutOf) → IsOver layout (view_of tables old) → MayEnter layout tables.limit (map number old.packets.items) packet.packet from packet.to → flow_of new ≡ enters packet.packet from packet.to (flow_of old) → new.packets.items ≡ old.packets.items ++ (packet ∷ []) → IsOver layout (view_of tables new)
over_entered tables old new packet from layout over may flow packets = record {
  tables_are = over.tables_are;
  wired = over.wired;
  joined = over.joined;
  ranks = over.ranks;
  ranked = over.ranked;
  sound = subst (λ (f : FlowOf). IsSound layout (map number new.packets.items) f) (sym flow) (
      sound_known layout (packet.packet ∷ map number old.packets.items) (map number new.packets.items) (enters packet.packet from packet.to (flow_of old)) more (
      enter_sound layout over.wired (map number old.packets.items) packet.packet from packet.to (flow_of old) over.sound may.new may.from_in may.to_in may.apart));
}
  where
    longer : map number new.packets.items ≡ map number old.packets.items ++ (packet.packet ∷ [])
    longer = ap (map number) packets ∙ map-append number old.packets.items (packet ∷ [])

    in_longer : (x : ℕ) → Contains (packet.packet ∷ map number old.packets.items) x → Contains (map number old.packets.items ++ (packet.packet ∷ [])) x
    in_longer x (zero, low, is) = Contains-append_right (map number old.packets.items) (packet.packet ∷ []) x (zero, omega arith, is)
    in_longer x (suc k, low, is) = Contains-append_left (map number old.packets.items) (packet.packet ∷ []) x (k, omega arith, is)

    more : (x : ℕ) → Contains (packet.packet ∷ map number old.packets.items) x → Contains (map number new.packets.items) x
    more x has = subst (λ (xs : List ℕ). Contains xs x) (sym longer) (in_longer x has)

pub entered_left : (packet from to : ℕ) (flow : FlowOf) → length flow.waiting ≡ 127 → from < 127 → left_of (enters packet from to flow) ≡ left_of flow + 1
entered_left packet from to flow size low =
    let w : WaitOf = record { packet = record { packet = packet; to = to }; entry = 0 } in
    let sum = starting_set flow.waiting from (waiting_at flow from ++ (w ∷ [])) (omega arith) in
    let push = starting_push (waiting_at flow from) w in
    omega arith

pub enter_over : (tables : Tables) (board : Board) (packet from to : ℕ) (layout : LayoutOf) → IsOver layout (view_of tables board) → MayEnter layout tables.limit (map number board.packets.items) packet from to → IsSoundOver tables (enters packet from to (flow_of board))
enter_over tables board packet from to layout over may =
    let few = may.few in
    record {
      layout = layout;
      known = packet ∷ map number board.packets.items;
      tables_are = over.tables_are;
      wired = over.wired;
      joined = over.joined;
      few = omega arith;
      sound = enter_sound layout over.wired (map number board.packets.items) packet from to (flow_of board) over.sound may.new may.from_in may.to_in may.apart;
    }

pub running_entered : (tables : Tables) (old new : Board) (left : ℕ) (packet : Packet) (from : ℕ) (layout : LayoutOf) → HasLeft tables old left → IsKept tables new → IsOver layout (view_of tables old) → MayEnter layout tables.limit (map number old.packets.items) packet.packet from packet.to → flow_of new ≡ enters packet.packet from packet.to (flow_of old) → new.packets.items ≡ old.packets.items ++ (packet ∷ []) → HasLeft tables new (left + 1)
running_entered tables old new left packet from layout has kept over may flow packets =
    let a = has.left_is in
    let b = ap left_of flow ∙ entered_left packet.packet from packet.to (flow_of old) over.sound.waiting (over.wired.low from may.from_in) in
    let n = ap (λ (ps : List Packet). length ps) packets ∙ length_push old.packets.items packet in
    let few = has.few in
    record {
      running = record {
        kept = kept;
        least = has.running.least;
        limit = has.running.limit;
        layout = layout;
        over = over_entered tables old new packet from layout over may flow packets;
      };
      left_is = omega arith;
      few = omega arith;
    }

-- none yet
pub over_fresh : (es : List EntryOf) (numbers : List ℕ) (rows : List RowOf) (most : ℕ) (tables : Tables) (board : Board) → IsGraph es → AreNumbers numbers → length numbers ≡ length es → 1 ≤ most → HasNoCycle (LeadsTo (far_at es numbers) rows) → AllAreJoined (far_at es numbers) numbers rows → AreTablesOf (layout_of es numbers rows most) tables.wires.items tables.exits tables.room → flow_of board ≡ empty_flow → board.packets.items ≡ [] → IsOver (layout_of es numbers rows most) (view_of tables board)
over_fresh es numbers rows most tables board graph named count some none joined are flow packets = record {
  tables_are = are;
  wired = wired es numbers graph named count rows most some;
  joined = joined;
  ranks = ranks_in (layout_of es numbers rows most);
  ranked = has_ranks (layout_of es numbers rows most) (wired es numbers graph named count rows most some) none;
  sound = subst (λ (f : FlowOf). IsSound (layout_of es numbers rows most) (map number board.packets.items) f) (sym flow) (
      subst (λ (ks : List ℕ). IsSound (layout_of es numbers rows most) ks empty_flow) (ap (map number) (sym packets)) (start_sound (layout_of es numbers rows most)));
}
