-- Each hop of a trace begins where the one before led.

use Rattle.std.specs.Prelude.{◌≡◌, ◌⊎◌, ◌+◌, ◌/◌, ◌==◌, ◌<◌, ◌≤◌, ℕ, not, List, [], ◌∷◌, ◌++◌, All, Contains, length, cond, slice_index, Option, Some, None, Result, Ok, Err, is_some, Bool, true, false, refl}
use Rattle.std.proofs.Common.{true≢false, sym, ◌∙◌, ap, subst, inl, inr, arith}
use Rattle.net_state.proofs.HopLemmas.{to_number}
use Rattle.std.proofs.lemmas.Bool.{eqb-true, eqb-false, eq-eqb}
use Rattle.std.proofs.lemmas.List.{append-nil}
use Rattle.an_base.specs.Values.{LifeId, EntryOf, TopoOf}
use Rattle.an_base.specs.declared.event.Event.{Event}
use Rattle.an_base.specs.declared.event.Event.TheVariants.{Tick, Clock, Take, Handle, Load, Fail, Repair, Lose, Again, Swap, Noise, Send, Move, Restart}
use Rattle.net_graph.specs.declared.wiring.Far.{Far}
use Rattle.net_graph.specs.declared.wiring.Far.TheVariants.{Switch, HostAt}
use Rattle.net_graph.specs.declared.wiring.HostOn.{HostOn}
use Rattle.net_graph.specs.Wires.{far_at}
use Rattle.net_script.specs.Scripts.{ScriptOf, IsScript}
use Rattle.topo_graph.specs.Topology.{far_of, place_of}
use Rattle.table_build.specs.Exits.{Begins, IsEntry, may_go_up}
use Rattle.table_build.specs.Tables.{TableOf, IsTable, exits_of}
use Rattle.epoch_game.proofs.Basics.{none_some, some_same}
use Rattle.switch_core.specs.Switch.{finish_of}
use Rattle.host_traffic.specs.declared.hop.Hop.{Hop}
use Rattle.host_traffic.specs.declared.hop.Hop.TheVariants as hop
use Rattle.host_traffic.specs.declared.hop.DropCause.{DropCause}
use Rattle.host_traffic.specs.Packets.{PacketOf, after_hop, moved, moved_to, packet_of, row_entry, without}
use Rattle.net_state.specs.Fabric.{FabricOf, host_on, is_up, next_at, side_of_port, switch_behind}
use Rattle.net_state.specs.Lawful.{is_lawful}
use Rattle.net_state.specs.Effects.{address_for, admitted, admitted_as, hop_of, hopped, packet_to}
use Rattle.net_world.specs.World.{WorldOf, effect, loads_with, step, world_after}
use Rattle.net_world.specs.Traces.{Hopped, hopped_at, hopped_by, hopped_of, event_hop, trace_of, IsHopAt, IsHopOf}
use Rattle.net_world.specs.Clauses.{FinishedAt, IsTopology}
use Rattle.net_world.proofs.WorldLemmas.{world_after-event, step-lawful, step-unlawful}
use Rattle.net_game.proofs.Firm.{places, AreFirm}
use Rattle.net_game.proofs.ClauseLemmas.{topologies}
use Rattle.net_game.proofs.DeliveredLemmas.{far_is}
use Rattle.net_game.proofs.TraceLemmas.{hop_is, hop_more, hop_then, packet_sound, row_of_exits, trace_event, trace_first, went_by}
use Rattle.net_game.proofs.HistoryLemmas.{by_events}

-- What a row says of an exit: it begins a way in the topology
pub record IsRowIn (script : ScriptOf) (topo : TopoOf) (life : LifeId) (exit entry number : ℕ) : Type 0 where
  pub place : ℕ
  pub place_is : place_of topo.entries life ≡ Some place
  pub to : ℕ
  pub to_low : to < length topo.entries
  pub number_is : number ≡ slice_index topo.numbers to
  pub entry_is : IsEntry topo.entries place entry
  pub begins : Begins topo.entries script.any_routes (may_go_up topo.entries place entry) place to exit

abbrev pub IsRowAt : ScriptOf → Hopped → ℕ → ℕ → Type 0
IsRowAt script x entry number = IsRowIn script x.topo x.life x.exit entry number

all_at : (P : ℕ → Type 0) (xs : List ℕ) (x : ℕ) → All P xs → Contains xs x → P x
all_at P xs x all has = subst P has.2 (all has.0 x has.1)

row_in : (script : ScriptOf) (x : Hopped) (entry number place : ℕ) (t : TableOf) (xs : List ℕ) → place_of x.topo.entries x.life ≡ Some place → IsTable x.topo.entries x.topo.numbers script.any_routes place t → exits_of t entry number ≡ xs → Contains xs x.exit → IsRowAt script x entry number
row_in script x entry number place t [] is table exits has = absurd (let low = has.1 in omega (arith, low))
row_in script x entry number place t (p ∷ ps) is table exits has =
    let r = row_of_exits x.topo.entries x.topo.numbers script.any_routes place entry number p ps t table exits in
    let es = x.topo.entries in
    record {
      place = place;
      place_is = is;
      to = r.is.to;
      to_low = r.is.to_low;
      number_is = sym r.to_is ∙ r.is.number;
      entry_is = subst (IsEntry es place) r.entry_is r.is.entry;
      begins = subst (λ (e : ℕ). Begins es script.any_routes (may_go_up es place e) place r.is.to x.exit) r.entry_is
          (all_at (Begins es script.any_routes (may_go_up es place r.row.entry) place r.is.to) r.row.exits x.exit r.is.exits.each (subst (λ (ys : List ℕ). Contains ys x.exit) (sym r.exits_are) has));
    }

pub row_at : (script : ScriptOf) (h : List Event) (k : ℕ) (x : Hopped) (made : IsHopAt script h k x) → IsRowAt script x (row_entry made.packet) (made.packet.address / 16)
row_at script h k x made = row_in script x (row_entry made.packet) (made.packet.address / 16) made.table.0 made.used.table (exits_of made.used.table (row_entry made.packet) (made.packet.address / 16)) made.table.1 made.table.2 refl made.exit

-- its port has a link there
pub begins_far : (es : List EntryOf) (any up : Bool) (x y p : ℕ) → Begins es any up x y p → (z : ℕ) × (q : ℕ) × (far_of es x p ≡ Some (z, q))
begins_far es any true x y p is = let r = is.way.route in (r.0, r.1, r.2)
begins_far es any false x y p is = let r = is.way.route in (r.0, r.1, r.2)

-- who made it had finished
pub hop_low : (script : ScriptOf) → IsScript script → (h : List Event) (k : ℕ) (x : Hopped) → IsHopAt script h k x → x.place < places script
hop_low script kept h k x made = let low = (packet_sound script kept h k made.packet made.there).0.at in let same = made.at in omega (arith, low, same)

pub hop_finished : (script : ScriptOf) → IsScript script → (h : List Event) (k : ℕ) (x : Hopped) → IsHopAt script h k x → FinishedAt script h x.life x.epoch x.topo
hop_finished script kept h k x made = record {
  before = h;
  later = [];
  moment = sym (append-nil h);
  place = x.place;
  within = hop_low script kept h k x made;
  life_is = made.life;
  epoch_is = made.present;
  finished = made.finished;
}

pub hop_exit : (script : ScriptOf) (lives : List LifeId) → length lives ≤ 126 → IsScript script → AreFirm script lives → (h : List Event) (k : ℕ) (x : Hopped) → IsHopAt script h k x → x.exit ≤ 12
hop_exit script lives few kept firm h k x made =
    let row = row_at script h k x made in
    let topology : IsTopology x.life x.topo = topologies script lives few kept firm h x.life x.epoch x.topo (hop_finished script kept h k x made) in
    let far = begins_far x.topo.entries script.any_routes (may_go_up x.topo.entries row.place (row_entry made.packet)) row.place row.to x.exit row.begins in
    (topology.graph.within row.place x.exit (far.0, far.1) far.2).port_most

-- Hops of one packet
pub record IsHop (script : ScriptOf) (h : List Event) (k address : ℕ) (x : Hopped) : Type 0 where
  pub of : IsHopOf script h k x
  pub address_is : of.made.packet.address ≡ address

pub record IsLater (script : ScriptOf) (h : List Event) (k address : ℕ) (x : Hopped) : Type 0 where
  pub is_hop : IsHop script h k address x
  pub old : is_hop.of.made.packet.is_new ≡ false

-- one comes in where the one before led
abbrev pub IsNext : ScriptOf → Hopped → Hopped → Type 0
IsNext script x y = far_at script.wires x.place x.exit ≡ Some (Switch y.place y.entry)

abbrev pub AreNext : ScriptOf → List Event → ℕ → ℕ → Hopped → List Hopped → Type 0
AreNext script h k address x [] = Unit {0}
AreNext script h k address x (y ∷ ys) = IsNext script x y × IsLater script h k address y × AreNext script h k address y ys

abbrev pub IsChain : ScriptOf → List Event → ℕ → ℕ → List Hopped → Type 0
IsChain script h k address [] = Unit {0}
IsChain script h k address (x ∷ xs) = IsHop script h k address x × AreNext script h k address x xs

abbrev last_of : Hopped → List Hopped → Hopped
last_of x [] = x
last_of x (y ∷ ys) = last_of y ys

last_push : (x : Hopped) (ys : List Hopped) (z : Hopped) → last_of x (ys ++ z ∷ []) ≡ z
last_push x [] z = refl
last_push x (y ∷ ys) z = last_push y ys z

next_push : (script : ScriptOf) (h : List Event) (k address : ℕ) (x : Hopped) (ys : List Hopped) (z : Hopped) → AreNext script h k address x ys → IsNext script (last_of x ys) z → IsLater script h k address z → AreNext script h k address x (ys ++ z ∷ [])
next_push script h k address x [] z all here is = (here, is, tt)
next_push script h k address x (y ∷ ys) z all here is = (all.0, all.1, next_push script h k address y ys z all.2 here is)

abbrev is_more : (script : ScriptOf) (h : List Event) (e : Event) (k address : ℕ) (x : Hopped) → IsHop script h k address x → IsHop script (h ++ e ∷ []) k address x
is_more script h e k address x is = record { of = hop_more script h e k x is.of; address_is = is.address_is }

next_more : (script : ScriptOf) (h : List Event) (e : Event) (k address : ℕ) (x : Hopped) (ys : List Hopped) → AreNext script h k address x ys → AreNext script (h ++ e ∷ []) k address x ys
next_more script h e k address x [] all = tt
next_more script h e k address x (y ∷ ys) all = (all.0, record { is_hop = is_more script h e k address y all.1.is_hop; old = all.1.old }, next_more script h e k address y ys all.2)

chain_later : (script : ScriptOf) (h : List Event) (e : Event) (k address : ℕ) (xs : List Hopped) → IsChain script h k address xs → IsChain script (h ++ e ∷ []) k address xs
chain_later script h e k address [] all = tt
chain_later script h e k address (x ∷ xs) all = (is_more script h e k address x all.0, next_more script h e k address x xs all.1)

-- Where the packet is after these hops
pub record IsThere (script : ScriptOf) (address : ℕ) (last : Hopped) (x : PacketOf) : Type 0 where
  pub old : x.is_new ≡ false
  pub address_is : x.address ≡ address
  pub at : far_at script.wires last.place last.exit ≡ Some (Switch x.at x.entry)

abbrev pub Stands : ScriptOf → ℕ → List Hopped → PacketOf → Type 0
Stands script address [] x = Unit {0}
Stands script address (y ∷ ys) x = IsThere script address (last_of y ys) x

abbrev pub WasSent : List Hopped → ℕ → ℕ → Type 0
WasSent [] k sent = Unit {0}
WasSent (y ∷ ys) k sent = k ≤ sent

pub record IsGoing (script : ScriptOf) (h : List Event) (k : ℕ) (xs : List Hopped) (f : FabricOf) : Type 0 where
  pub address : ℕ
  pub chain : IsChain script h k address xs
  pub stands : (x : PacketOf) → packet_of k f.packets ≡ Some x → Stands script address xs x
  pub sent : WasSent xs k f.sent

sent_more : (xs : List Hopped) (k a b : ℕ) → a ≤ b → WasSent xs k a → WasSent xs k b
sent_more [] k a b le is = tt
sent_more (y ∷ ys) k a b le is = omega (arith, le, is)

-- an event that leaves the packet
going_on : (script : ScriptOf) (h : List Event) (e : Event) (k : ℕ) (xs : List Hopped) (f g : FabricOf) → ((x : PacketOf) → packet_of k g.packets ≡ Some x → packet_of k f.packets ≡ Some x) → f.sent ≤ g.sent → IsGoing script h k xs f → IsGoing script (h ++ e ∷ []) k (xs ++ []) g
going_on script h e k xs f g same sent is = subst (λ (ys : List Hopped). IsGoing script (h ++ e ∷ []) k ys g) (sym (append-nil xs)) (record {
  address = is.address;
  chain = chain_later script h e k is.address xs is.chain;
  stands = λ x there. is.stands x (same x there);
  sent = sent_more xs k f.sent g.sent sent is.sent;
})

-- Packets by number
packet_without : (k : ℕ) (xs : List PacketOf) → packet_of k (without k xs) ≡ None
packet_without k [] = refl
packet_without k (x ∷ xs) = by (x.packet == k) refl (packet_without k xs) where
  by : (b : Bool) → (x.packet == k) ≡ b → packet_of k (without k xs) ≡ None → packet_of k (cond (not b) (x ∷ without k xs) (without k xs)) ≡ None
  by true is rest = rest
  by false is rest = ap (λ (b : Bool). cond b (Some x) (packet_of k (without k xs))) is ∙ rest

other_without : (k n : ℕ) (xs : List PacketOf) → (n ≡ k → ⊥) → packet_of k (without n xs) ≡ packet_of k xs
other_without k n [] other = refl
other_without k n (x ∷ xs) other = by (x.packet == n) refl (other_without k n xs other) where
  by_k : (b : Bool) → (x.packet == n) ≡ true → (x.packet == k) ≡ b → packet_of k (without n xs) ≡ packet_of k xs → packet_of k (without n xs) ≡ cond b (Some x) (packet_of k xs)
  by_k true is same rest = absurd (other (sym (eqb-true x.packet n is) ∙ eqb-true x.packet k same))
  by_k false is differs rest = rest

  by : (b : Bool) → (x.packet == n) ≡ b → packet_of k (without n xs) ≡ packet_of k xs → packet_of k (cond (not b) (x ∷ without n xs) (without n xs)) ≡ cond (x.packet == k) (Some x) (packet_of k xs)
  by true is rest = by_k (x.packet == k) is refl rest
  by false is rest = ap (λ (o : Option PacketOf). cond (x.packet == k) (Some x) o) rest

packet_moved : (k : ℕ) (far : Option (ℕ × ℕ)) (xs : List PacketOf) (x : PacketOf) → packet_of k xs ≡ Some x → packet_of k (moved k far xs) ≡ Some (moved_to far x)
packet_moved k far [] x is = absurd (none_some is)
packet_moved k far (y ∷ ys) x is = by (y.packet == k) refl is (packet_moved k far ys x) where
  by : (b : Bool) → (y.packet == k) ≡ b → cond b (Some y) (packet_of k ys) ≡ Some x → (packet_of k ys ≡ Some x → packet_of k (moved k far ys) ≡ Some (moved_to far x))
      → cond ((cond b (moved_to far y) y).packet == k) (Some (cond b (moved_to far y) y)) (packet_of k (moved k far ys)) ≡ Some (moved_to far x)
  by true same found rest =
      let passes : ((moved_to far y).packet == k) ≡ true = eq-eqb (moved_to far y).packet k (to_number far y ∙ eqb-true y.packet k same) in
      ap (λ (c : Bool). cond c (Some (moved_to far y)) (packet_of k (moved k far ys))) passes ∙ ap (λ (z : PacketOf). Some (moved_to far z)) (some_same y x found)
  by false differs found rest = ap (λ (c : Bool). cond c (Some y) (packet_of k (moved k far ys))) differs ∙ rest found

other_moved : (k n : ℕ) (far : Option (ℕ × ℕ)) (xs : List PacketOf) → (n ≡ k → ⊥) → packet_of k (moved n far xs) ≡ packet_of k xs
other_moved k n far [] other = refl
other_moved k n far (y ∷ ys) other = by (y.packet == n) refl (other_moved k n far ys other) where
  by_k : (b : Bool) → (y.packet == n) ≡ true → (y.packet == k) ≡ b → packet_of k (moved n far ys) ≡ packet_of k ys → cond ((moved_to far y).packet == k) (Some (moved_to far y)) (packet_of k (moved n far ys)) ≡ cond b (Some y) (packet_of k ys)
  by_k true is same rest = absurd (other (sym (eqb-true y.packet n is) ∙ eqb-true y.packet k same))
  by_k false is differs rest = ap (λ (c : Bool). cond c (Some (moved_to far y)) (packet_of k (moved n far ys))) (ap (λ m. m == k) (to_number far y) ∙ differs) ∙ rest

  by : (b : Bool) → (y.packet == n) ≡ b → packet_of k (moved n far ys) ≡ packet_of k ys → cond ((cond b (moved_to far y) y).packet == k) (Some (cond b (moved_to far y) y)) (packet_of k (moved n far ys)) ≡ cond (y.packet == k) (Some y) (packet_of k ys)
  by false is rest = ap (λ (o : Option PacketOf). cond (y.packet == k) (Some y) o) rest
  by true is rest = by_k (y.packet == k) is refl rest

other_after : (k n : ℕ) (next : ℕ → Option (ℕ × ℕ)) (made : Hop) (xs : List PacketOf) → (n ≡ k → ⊥) → packet_of k (after_hop made next n xs) ≡ packet_of k xs
other_after k n next (hop.Went exit) xs other = other_moved k n (next exit) xs other
other_after k n next (hop.Delivered exit host) xs other = other_without k n xs other
other_after k n next (hop.Dropped why) xs other = other_without k n xs other

other_hopped : (k n : ℕ) (o : Option PacketOf) (f : FabricOf) → (n ≡ k → ⊥) → packet_of k (hopped n o f) ≡ packet_of k f.packets
other_hopped k n None f other = refl
other_hopped k n (Some x) f other = other_after k n (next_at f x.at) (hop_of f x) f.packets other

packet_append : (k : ℕ) (xs ys : List PacketOf) (x : PacketOf) → packet_of k (xs ++ ys) ≡ Some x → (packet_of k xs ≡ Some x) ⊎ (packet_of k ys ≡ Some x)
packet_append k [] ys x is = inr is
packet_append k (y ∷ xs) ys x is = by (y.packet == k) is (packet_append k xs ys x) where
  by : (b : Bool) → cond b (Some y) (packet_of k (xs ++ ys)) ≡ Some x → (packet_of k (xs ++ ys) ≡ Some x → (packet_of k xs ≡ Some x) ⊎ (packet_of k ys ≡ Some x)) → (cond b (Some y) (packet_of k xs) ≡ Some x) ⊎ (packet_of k ys ≡ Some x)
  by true found rest = inl found
  by false found rest = rest found

admitted_number : (k : ℕ) (f : FabricOf) (from to : HostOn) (x : PacketOf) → packet_of k (admitted f from to) ≡ Some x → k ≡ f.sent + 1
admitted_number k f from to x = by (address_for f from to) where
  one : (address : ℕ) (b : Bool) → ((f.sent + 1) == k) ≡ b → cond b (Some (packet_to (f.sent + 1) from to address)) None ≡ Some x → k ≡ f.sent + 1
  one address true is found = sym (eqb-true (f.sent + 1) k is)
  one address false is found = absurd (none_some found)

  by : (o : Result ℕ DropCause) → packet_of k (admitted_as (f.sent + 1) from to o) ≡ Some x → k ≡ f.sent + 1
  by (Err why) found = absurd (none_some found)
  by (Ok address) found = one address ((f.sent + 1) == k) refl found

-- A packet is sent
sends_on : (script : ScriptOf) (h : List Event) (e : Event) (k : ℕ) (xs : List Hopped) (f g : FabricOf) (from to : HostOn) → g.packets ≡ f.packets ++ admitted f from to → g.sent ≡ f.sent + 1 → IsGoing script h k xs f → IsGoing script (h ++ e ∷ []) k (xs ++ []) g
sends_on script h e k xs f g from to packets sent is = subst (λ (ys : List Hopped). IsGoing script (h ++ e ∷ []) k ys g) (sym (append-nil xs)) (record {
  address = is.address;
  chain = chain_later script h e k is.address xs is.chain;
  stands = λ x there. by x xs is.stands is.sent (packet_append k f.packets (admitted f from to) x (ap (packet_of k) (sym packets) ∙ there));
  sent = sent_more xs k f.sent g.sent (omega (arith, sent)) is.sent;
})
  where
    by : (x : PacketOf) (ys : List Hopped) → ((y : PacketOf) → packet_of k f.packets ≡ Some y → Stands script is.address ys y) → WasSent ys k f.sent → (packet_of k f.packets ≡ Some x) ⊎ (packet_of k (admitted f from to) ≡ Some x) → Stands script is.address ys x
    by x [] old low which = tt
    by x (y ∷ ys) old low (inl there) = old x there
    by x (y ∷ ys) old low (inr new) = let number = admitted_number k f from to x new in absurd (omega (arith, low, number))

-- The packet goes on
next_far : (f : FabricOf) (s p a b : ℕ) → next_at f s p ≡ Some (a, b) → (side_of_port f s p).far ≡ Some (Switch a b)
next_far f s p a b = by_up (is_up f s p) where
  by_far : (o : Option Far) → (side_of_port f s p).far ≡ o → switch_behind o ≡ Some (a, b) → (side_of_port f s p).far ≡ Some (Switch a b)
  by_far None is found = absurd (none_some found)
  by_far (Some (HostAt n)) is found = absurd (none_some found)
  by_far (Some (Switch t q)) is found = is ∙ ap (λ (z : ℕ × ℕ). Some (Switch z.0 z.1)) (some_same (t, q) (a, b) found)

  by_up : (c : Bool) → cond c (switch_behind (side_of_port f s p).far) None ≡ Some (a, b) → (side_of_port f s p).far ≡ Some (Switch a b)
  by_up false found = absurd (none_some found)
  by_up true found = by_far (side_of_port f s p).far refl found

-- the chain with one more
record IsLonger (script : ScriptOf) (h : List Event) (k : ℕ) (address : ℕ) (xs : List Hopped) (z : Hopped) : Type 0 where
  chain : IsChain script h k address (xs ++ z ∷ [])
  last : (x : PacketOf) → IsThere script address z x → Stands script address (xs ++ z ∷ []) x
  sent : (n : ℕ) → k ≤ n → WasSent (xs ++ z ∷ []) k n

goes_on : (script : ScriptOf) (lives : List LifeId) → length lives ≤ 126 → IsScript script → AreFirm script lives → (h : List Event) (k : ℕ) (xs : List Hopped) (x : PacketOf) (exit : ℕ) → is_lawful (world_after script h).fabric (Move k) ≡ true
    → packet_of k (world_after script h).fabric.packets ≡ Some x → hop_of (world_after script h).fabric x ≡ hop.Went exit → IsGoing script h k xs (world_after script h).fabric
    → IsLonger script (h ++ Move k ∷ []) k x.address xs (hopped_at (world_after script h) x exit)
goes_on script lives few kept firm h k xs x exit lawful there is old = by xs old.chain (old.stands x there)
  where
    g : List Event
    g = h ++ Move k ∷ []

    z : Hopped
    z = hopped_at (world_after script h) x exit

    made : IsHopAt script h k z
    made = hop_is script lives few kept firm h k x exit there is

    same : made.packet ≡ x
    same = some_same made.packet x (sym made.there ∙ there)

    here : IsHop script g k x.address z
    here = record { of = record { before = h; later = []; parts = refl; lawful = lawful; made = made }; address_is = ap (λ (p : PacketOf). p.address) same }

    by : (ys : List Hopped) → IsChain script h k old.address ys → Stands script old.address ys x → IsLonger script g k x.address ys z
    by [] chain stands = record { chain = (here, tt); last = λ y at. at; sent = λ n le. le }
    by (y ∷ ys) chain stands =
        let now = subst (λ (a : ℕ). IsChain script g k a (y ∷ ys)) (sym stands.address_is) (chain_later script h (Move k) k old.address (y ∷ ys) chain) in
        record {
          chain = (now.0, next_push script g k x.address y ys z now.1 stands.at (record { is_hop = here; old = ap (λ (p : PacketOf). p.is_new) same ∙ stands.old }));
          last = λ p at. subst (λ (q : Hopped). IsThere script x.address q p) (sym (last_push y ys z)) at;
          sent = λ n le. le;
        }

moves_on : (script : ScriptOf) (lives : List LifeId) → length lives ≤ 126 → IsScript script → AreFirm script lives → (h : List Event) (k : ℕ) (xs : List Hopped) → is_lawful (world_after script h).fabric (Move k) ≡ true → IsGoing script h k xs (world_after script h).fabric
    → (g : FabricOf) → g.packets ≡ hopped k (packet_of k (world_after script h).fabric.packets) (world_after script h).fabric → g.sent ≡ (world_after script h).fabric.sent
    → IsGoing script (h ++ Move k ∷ []) k (xs ++ hopped_of (packet_of k (world_after script h).fabric.packets) (world_after script h)) g
moves_on script lives few kept firm h k xs lawful old g packets sent = by (packet_of k f.packets) refl packets
  where
    w : WorldOf
    w = world_after script h

    f : FabricOf
    f = w.fabric

    sent_is : f.sent ≤ g.sent
    sent_is = omega (arith, sent)

    gone : g.packets ≡ without k f.packets → IsGoing script (h ++ Move k ∷ []) k (xs ++ []) g
    gone less = going_on script h (Move k) k xs f g (λ x there. absurd (none_some (sym (ap (packet_of k) less ∙ packet_without k f.packets) ∙ there))) sent_is old

    by_next : (x : PacketOf) (exit : ℕ) → packet_of k f.packets ≡ Some x → hop_of f x ≡ hop.Went exit → (o : Option (ℕ × ℕ)) → next_at f x.at exit ≡ o → g.packets ≡ moved k o f.packets → IsGoing script (h ++ Move k ∷ []) k (xs ++ hopped_at w x exit ∷ []) g
    by_next x exit there is None next now = absurd (true≢false (sym (went_by f x exit is).goes ∙ ap is_some next))
    by_next x exit there is (Some to) next now =
        let longer = goes_on script lives few kept firm h k xs x exit lawful there is old in
        let found = packet_sound script kept h k x there in
        let most = hop_exit script lives few kept firm h k (hopped_at w x exit) (hop_is script lives few kept firm h k x exit there is) in
        let far : far_at script.wires x.at exit ≡ Some (Switch to.0 to.1) = sym (far_is script kept h x.at exit found.0.at (omega (arith, most))) ∙ next_far f x.at exit to.0 to.1 next in
        let then : packet_of k g.packets ≡ Some (moved_to (Some to) x) = ap (packet_of k) now ∙ packet_moved k (Some to) f.packets x there in
        let number = found.1 in
        let low = found.0.most in
        record {
          address = x.address;
          chain = longer.chain;
          stands = λ y at. longer.last y (subst (IsThere script x.address (hopped_at w x exit)) (some_same (moved_to (Some to) x) y (sym then ∙ at)) (record { old = refl; address_is = refl; at = far }));
          sent = longer.sent g.sent (omega (arith, number, low, sent_is));
        }

    by_hop : (x : PacketOf) (made : Hop) → packet_of k f.packets ≡ Some x → hop_of f x ≡ made → g.packets ≡ after_hop made (next_at f x.at) k f.packets → IsGoing script (h ++ Move k ∷ []) k (xs ++ hopped_by made w x) g
    by_hop x (hop.Went exit) there is now = by_next x exit there is (next_at f x.at exit) refl now
    by_hop x (hop.Delivered exit host) there is now = gone now
    by_hop x (hop.Dropped why) there is now = gone now

    by : (o : Option PacketOf) → packet_of k f.packets ≡ o → g.packets ≡ hopped k o f → IsGoing script (h ++ Move k ∷ []) k (xs ++ hopped_of o w) g
    by None there now = going_on script h (Move k) k xs f g (λ x found. ap (packet_of k) (sym now) ∙ found) sent_is old
    by (Some x) there now = by_hop x (hop_of f x) there refl now

-- After a lawful event
loads_on : (script : ScriptOf) (h : List Event) (k t : ℕ) (topo : Option TopoOf) (xs : List Hopped) (w : WorldOf) → IsGoing script h k xs w.fabric → IsGoing script (h ++ Load t ∷ []) k (xs ++ []) (loads_with topo t w).fabric
loads_on script h k t None xs w old = going_on script h (Load t) k xs w.fabric w.fabric (λ x is. is) (omega arith) old
loads_on script h k t (Some topo) xs w old = going_on script h (Load t) k xs w.fabric (loads_with (Some topo) t w).fabric (λ x is. is) (omega arith) old

event_goes : (script : ScriptOf) (lives : List LifeId) → length lives ≤ 126 → IsScript script → AreFirm script lives → (h : List Event) (e : Event) (k : ℕ) (xs : List Hopped) → is_lawful (world_after script h).fabric e ≡ true → IsGoing script h k xs (world_after script h).fabric
    → IsGoing script (h ++ e ∷ []) k (xs ++ event_hop k (world_after script h) e) (effect e (world_after script h)).fabric
unfolding effect
event_goes script lives few kept firm h (Move n) k xs lawful old = by (n == k) refl where
  by : (b : Bool) → (n == k) ≡ b → IsGoing script (h ++ Move n ∷ []) k (xs ++ cond b (hopped_of (packet_of n (world_after script h).fabric.packets) (world_after script h)) []) (effect (Move n) (world_after script h)).fabric
  by true same =
      let P : ℕ → Type 0 = λ m. IsGoing script (h ++ Move m ∷ []) k (xs ++ hopped_of (packet_of m (world_after script h).fabric.packets) (world_after script h)) (effect (Move m) (world_after script h)).fabric in
      subst P (sym (eqb-true n k same))
      (moves_on script lives few kept firm h k xs (subst (λ (m : ℕ). is_lawful (world_after script h).fabric (Move m) ≡ true) (eqb-true n k same) lawful) old (effect (Move k) (world_after script h)).fabric refl refl)
  by false differs =
      let w = world_after script h in
      going_on script h (Move n) k xs w.fabric (effect (Move n) w).fabric (λ x is. sym (other_hopped k n (packet_of n w.fabric.packets) w.fabric (eqb-false n k differs)) ∙ is) (omega arith) old
event_goes script lives few kept firm h (Send a b) k xs lawful old = let f = (world_after script h).fabric in sends_on script h (Send a b) k xs f (effect (Send a b) (world_after script h)).fabric (host_on f a) (host_on f b) refl refl old
event_goes script lives few kept firm h (Load t) k xs lawful old = let w = world_after script h in loads_on script h k t (finish_of (w.switches t)) xs w old
event_goes script lives few kept firm h Tick k xs lawful old = let w = world_after script h in going_on script h Tick k xs w.fabric (effect Tick w).fabric (λ x is. is) (omega arith) old
event_goes script lives few kept firm h (Clock t) k xs lawful old = let w = world_after script h in going_on script h (Clock t) k xs w.fabric (effect (Clock t) w).fabric (λ x is. is) (omega arith) old
event_goes script lives few kept firm h (Take t p) k xs lawful old = let w = world_after script h in going_on script h (Take t p) k xs w.fabric (effect (Take t p) w).fabric (λ x is. is) (omega arith) old
event_goes script lives few kept firm h (Handle t) k xs lawful old = let w = world_after script h in going_on script h (Handle t) k xs w.fabric (effect (Handle t) w).fabric (λ x is. is) (omega arith) old
event_goes script lives few kept firm h (Fail t p) k xs lawful old = let w = world_after script h in going_on script h (Fail t p) k xs w.fabric (effect (Fail t p) w).fabric (λ x is. is) (omega arith) old
event_goes script lives few kept firm h (Repair t p) k xs lawful old = let w = world_after script h in going_on script h (Repair t p) k xs w.fabric (effect (Repair t p) w).fabric (λ x is. is) (omega arith) old
event_goes script lives few kept firm h (Lose t p n) k xs lawful old = let w = world_after script h in going_on script h (Lose t p n) k xs w.fabric (effect (Lose t p n) w).fabric (λ x is. is) (omega arith) old
event_goes script lives few kept firm h (Again t p n) k xs lawful old = let w = world_after script h in going_on script h (Again t p n) k xs w.fabric (effect (Again t p n) w).fabric (λ x is. is) (omega arith) old
event_goes script lives few kept firm h (Swap t p n) k xs lawful old = let w = world_after script h in going_on script h (Swap t p n) k xs w.fabric (effect (Swap t p n) w).fabric (λ x is. is) (omega arith) old
event_goes script lives few kept firm h (Noise t p n) k xs lawful old = let w = world_after script h in going_on script h (Noise t p n) k xs w.fabric (effect (Noise t p n) w).fabric (λ x is. is) (omega arith) old
event_goes script lives few kept firm h (Restart t) k xs lawful old = let w = world_after script h in going_on script h (Restart t) k xs w.fabric (effect (Restart t) w).fabric (λ x is. is) (omega arith) old

-- so each trace is a chain
pub going : (script : ScriptOf) (lives : List LifeId) → length lives ≤ 126 → IsScript script → AreFirm script lives → (k : ℕ) (h : List Event) → IsGoing script h k (trace_of script h k) (world_after script h).fabric
going script lives few kept firm k = by_events (λ h. IsGoing script h k (trace_of script h k) (world_after script h).fabric)
    (subst (λ (xs : List Hopped). IsGoing script [] k xs (world_after script []).fabric) (sym (trace_first script k)) (record { address = 0; chain = tt; stands = λ x is. tt; sent = tt }))
    (λ h e old. subst (λ (xs : List Hopped). IsGoing script (h ++ e ∷ []) k xs (world_after script (h ++ e ∷ [])).fabric) (sym (trace_event script k h e))
    (subst (λ (w : WorldOf). IsGoing script (h ++ e ∷ []) k (trace_of script h k ++ hop_then script k h e) w.fabric) (sym (world_after-event script h e)) (by h e old (is_lawful (world_after script h).fabric e) refl)))
  where
    by : (h : List Event) (e : Event) → IsGoing script h k (trace_of script h k) (world_after script h).fabric → (b : Bool) → is_lawful (world_after script h).fabric e ≡ b
        → IsGoing script (h ++ e ∷ []) k (trace_of script h k ++ cond b (event_hop k (world_after script h) e) []) (step (world_after script h) e).fabric
    by h e old true lawful = subst (λ (w : WorldOf). IsGoing script (h ++ e ∷ []) k (trace_of script h k ++ event_hop k (world_after script h) e) w.fabric) (sym (step-lawful (world_after script h) e lawful)) (event_goes script lives few kept firm h e k (trace_of script h k) lawful old)
    by h e old false unlawful =
        let w = world_after script h in
        subst (λ (v : WorldOf). IsGoing script (h ++ e ∷ []) k (trace_of script h k ++ []) v.fabric) (sym (step-unlawful w e unlawful)) (going_on script h e k (trace_of script h k) w.fabric w.fabric (λ x is. is) (omega arith) old)
