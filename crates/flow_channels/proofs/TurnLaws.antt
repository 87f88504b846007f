-- A turn of the program is a turn of the flow.
use Rattle.std.proofs.Common.{◌≡◌, ◌∙◌, sym, ap, refl, ℕ, ◌+◌, ◌<◌, ◌≤◌, Option, true, arith, inl, inr}
use Rattle.std.specs.Prelude.{drop, map, IsTrue}
use Rattle.std.specs.Ordering.{is_le, nat_cmp, ordering_then}
use Rattle.std.specs.declared.cmp.Ordering.{Ordering}
use Rattle.std.proofs.lemmas.Bool.{cases_lt, cases_order}
use Rattle.std.proofs.lemmas.Bool.Decides.{nat_tests}
use Rattle.std.proofs.lemmas.List.{length-map}
use Rattle.dep_check.specs.declared.channel.Channel.{Channel}
use Rattle.dep_check.specs.Channels.{channel_cmp}
use Rattle.dep_check.specs.Tables.{IsSpot, place_of}
use Rattle.flow_channels.specs.declared.board.Arrival.{Arrival}
use Rattle.flow_channels.specs.declared.board.Board.{Board}
use Rattle.flow_channels.specs.declared.board.Packet.{Packet}
use Rattle.flow_channels.specs.declared.tables.Tables.{Tables}
use Rattle.flow_channels.specs.declared.went.Went.{Went}
use Rattle.flow_channels.specs.declared.went.Went.TheVariants.{Arrived}
use Rattle.flow_channels.specs.Board.{flow_of, IsSoundOver, packet_of, ways}
use Rattle.flow_channels.specs.Flows.{FlowOf, asks_at, first_of, leaves, left_of, queue_at, with_queue}
use Rattle.flow_channels.specs.Layout.{LayoutOf, spot}
use Rattle.flow_channels.specs.Moves.{CanArrive, IsPossible, IsTurn, Move, move_cmp, went_first}
use Rattle.flow_channels.specs.Moves.Move.{Arrives, Goes}
use Rattle.flow_channels.specs.Turns.{IsFirstArrival}
use Rattle.flow_channels.specs.View.{IsOver, IsRunning, view_of}
use Rattle.flow_channels.proofs.LeftLaws.{arrive_left}
use Rattle.flow_channels.proofs.SoundLaws.{turn_sound}

pub less_first : (a b : ℕ) (o : Ordering) → a < b → is_le (ordering_then (nat_cmp a b) o) ≡ true
less_first a b o less = grind (arith, nat_tests)

pub same_first : (a b : ℕ) (o : Ordering) → a ≡ b → is_le (ordering_then (nat_cmp a b) o) ≡ is_le o
same_first a b o same = grind (arith, nat_tests)

pub le_last : (a b : ℕ) → a ≤ b → is_le (nat_cmp a b) ≡ true
le_last a b low = grind (arith, nat_tests)

-- channels stand in the order of their places
channel_le : (a b : Channel) → IsSpot a → IsSpot b → place_of a ≤ place_of b → is_le (channel_cmp a b) ≡ true
channel_le a b is is' low =
    let pa = is.port in
    let pb = is'.port in
    elim (cases_order a.at b.at) [
      | inl same ↦ (same_first a.at b.at (nat_cmp a.port b.port) same ∙ le_last a.port b.port (omega arith))
      | inr other ↦ elim other [
        | inl less ↦ less_first a.at b.at (nat_cmp a.port b.port) less
        | inr more ↦ absurd (omega arith)
      ]
    ]

-- the steps look at the far side of the channel alone
pub leaves_same : (one two : LayoutOf) (channel : Channel) (flow : FlowOf) → one.far channel ≡ two.far channel → leaves one channel flow ≡ leaves two channel flow
leaves_same one two channel flow same =
    let after = with_queue channel (drop 1 (queue_at flow channel)) flow in
    ap (λ (o : Option Channel). asks_at o (first_of after channel) after) same

module _ (tables : Tables) (board : Board) (layout : LayoutOf) (over : IsOver layout (view_of tables board)) where
  -- what arrives by the tables does so by the layout
  pub can_arrive : (channel : Channel) → CanArrive layout (flow_of board) channel → CanArrive (ways tables) (flow_of board) channel
  can_arrive channel (packet, entry, first, far) = (packet, entry, first, over.tables_are.far channel ∙ far)

  pub arrives : (arrival : Arrival) → IsFirstArrival tables board arrival → CanArrive layout (flow_of board) arrival.channel
  arrives arrival first = let at = first.arrives in (packet_of arrival.packet, at.0, at.1, sym (over.tables_are.far arrival.channel) ∙ at.2)

  least_arrival : (arrival : Arrival) → IsFirstArrival tables board arrival → (other : Move) → IsPossible layout (flow_of board) other → IsTrue (is_le (move_cmp (Arrives arrival.channel) other))
  least_arrival arrival first (Goes at place port) can = refl
  least_arrival arrival first (Arrives channel) can =
      let is = over.wired.near channel (spot can.0.to can.1) can.3 in
      elim (cases_lt (place_of channel) (place_of arrival.channel)) [
        | inl before ↦ absurd (first.before channel is before (can_arrive channel can))
        | inr after ↦ channel_le arrival.channel channel first.channel_is is after
      ]

  pub arrival_turn : (arrival : Arrival) (new : FlowOf) → IsFirstArrival tables board arrival → new ≡ leaves (ways tables) arrival.channel (flow_of board) → IsTurn layout (flow_of board) (Arrived arrival.packet.packet arrival.packet.to) new
  arrival_turn arrival new first is = record {
    move = Arrives arrival.channel;
    next = record { possible = arrives arrival first; least = least_arrival arrival first };
    went_is = ap went_first first.arrives.1;
    after_is = is ∙ leaves_same (ways tables) layout arrival.channel (flow_of board) (over.tables_are.far arrival.channel);
  }

-- the flow behind a turn is sound
pub sound_over : (tables : Tables) (board : Board) (new : FlowOf) (went : Went) (running : IsRunning tables board) → IsTurn running.layout (flow_of board) went new → IsSoundOver tables new
sound_over tables board new went running turn =
    let known = map (λ (packet : Packet). packet.packet) board.packets.items in
    let few = running.kept.few in
    let n = length-map board.packets.items (λ (packet : Packet). packet.packet) in
    record {
      layout = running.layout;
      known = known;
      tables_are = running.over.tables_are;
      wired = running.over.wired;
      joined = running.over.joined;
      few = omega arith;
      sound = turn_sound running.layout running.over.wired known (flow_of board) new went running.over.sound turn;
    }

-- one packet fewer is left
pub arrival_left : (tables : Tables) (board : Board) (arrival : Arrival) (new : FlowOf) → IsRunning tables board → IsFirstArrival tables board arrival → new ≡ leaves (ways tables) arrival.channel (flow_of board) → left_of new + 1 ≡ left_of (flow_of board)
arrival_left tables board arrival new running first is =
    let over = running.over in
    ap (λ (f : FlowOf). left_of f + 1) (is ∙ leaves_same (ways tables) running.layout arrival.channel (flow_of board) (over.tables_are.far arrival.channel))
    ∙ arrive_left running.layout over.wired (map (λ (packet : Packet). packet.packet) board.packets.items) (flow_of board) arrival.channel over.sound (arrives tables board running.layout over arrival first)
