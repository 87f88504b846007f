-- Traces, and that each hop of one is by the lowest exit of the row in use.

use Rattle.std.specs.Prelude.{◌≡◌, ◌/◌, ◌%◌, ◌==◌, ◌&&◌, ◌≤◌, ℕ, zero, suc, List, [], ◌∷◌, ◌++◌, All, Contains, length, cond, find, unwrap_or, Option, Some, None, is_some, Bool, true, false, refl}
use Rattle.std.specs.Option.{option_map, option_map_or}
use Rattle.std.proofs.Common.{sym, ◌∙◌, ap, subst, arith, append_assoc}
use Rattle.std.proofs.lemmas.Bool.{and_parts, eqb-true}
use Rattle.std.proofs.lemmas.List.{append-nil}
use Rattle.std.proofs.lemmas.List.Elements.{recursion_from_All}
use Rattle.an_base.specs.Values.{LifeId, EntryOf, TopoOf}
use Rattle.an_base.specs.Rows.{RowOf, ExitsRise}
use Rattle.an_base.specs.declared.event.Event.{Event}
use Rattle.an_base.specs.declared.event.Event.TheVariants.{Move}
use Rattle.net_script.specs.Scripts.{ScriptOf, IsScript}
use Rattle.topo_report.proofs.Members.{in_from}
use Rattle.epoch_game.proofs.Basics.{none_some, some_same}
use Rattle.table_build.specs.Tables.{TableOf, IsRow, IsTable, IsTableOf, exits_of}
use Rattle.table_build.specs.Made.{table_of}
use Rattle.switch_core.specs.Switch.{SwitchOf, finish_of}
use Rattle.switch_core.specs.declared.switch.TableFor.{TableFor}
use Rattle.host_traffic.specs.declared.hop.Hop.{Hop}
use Rattle.host_traffic.specs.declared.hop.Hop.TheVariants as hop
use Rattle.host_traffic.specs.declared.hop.DropCause.TheVariants as cause
use Rattle.host_traffic.specs.Packets.{PacketOf, packet_of, row_entry, hop_by, delivered_to, goes_by}
use Rattle.net_state.specs.Fabric.{FabricOf, station, host_at, next_at}
use Rattle.net_state.specs.Fits.{IsPacketSound}
use Rattle.net_state.specs.Lawful.{is_lawful}
use Rattle.net_state.specs.Effects.{hop_of}
use Rattle.net_world.specs.World.{WorldOf, after_all, begun, step, world_after}
use Rattle.net_world.specs.Clauses.{FinishedAt, IsTopology}
use Rattle.net_world.specs.Traces.{Hopped, no_topo, hopped_at, hopped_by, hopped_of, event_hop, trace_from, trace_of, IsHopAt, IsHopOf, AreHopsByTables}
use Rattle.net_world.proofs.InductionLemmas.{world_script}
use Rattle.net_world.proofs.FabricLemmas.{world_fits}
use Rattle.net_world.proofs.NextLemmas.{found_in}
use Rattle.net_world.proofs.LawLemmas.{world_is_sound}
use Rattle.net_game.proofs.Firm.{AreFirm}
use Rattle.net_game.proofs.ClauseLemmas.{finished_now, topologies, topology_table}
use Rattle.net_game.proofs.OwnTables.{used_table}
use Rattle.net_game.proofs.HistoryLemmas.{by_events}
use Rattle.net_game.proofs.EachLemmas.{Each, each_append, each_map, each_in}

-- one more event
abbrev pub hop_then : ScriptOf → ℕ → List Event → Event → List Hopped
hop_then script k h e = cond (is_lawful (world_after script h).fabric e) (event_hop k (world_after script h) e) []

trace_append : (k : ℕ) (h more : List Event) (w : WorldOf) → trace_from k w (h ++ more) ≡ trace_from k w h ++ trace_from k (after_all h w) more
trace_append k [] more w = refl
trace_append k (e ∷ h) more w =
    let now : List Hopped = cond (is_lawful w.fabric e) (event_hop k w e) [] in
    ap (λ (xs : List Hopped). now ++ xs) (trace_append k h more (step w e)) ∙ sym (append_assoc now (trace_from k (step w e) h) (trace_from k (after_all h (step w e)) more))

pub trace_event : (script : ScriptOf) (k : ℕ) (h : List Event) (e : Event) → trace_of script (h ++ e ∷ []) k ≡ trace_of script h k ++ hop_then script k h e
unfolding trace_of world_after
trace_event script k h e = trace_append k h (e ∷ []) (begun script) ∙ ap (λ (xs : List Hopped). trace_from k (begun script) h ++ xs) (append-nil (hop_then script k h e))

pub trace_first : (script : ScriptOf) (k : ℕ) → trace_of script [] k ≡ []
unfolding trace_of
trace_first script k = refl

-- what went on went by the first exit of the row
abbrev exit_of : Hop → Option ℕ
exit_of (hop.Went exit) = Some exit
exit_of (hop.Delivered exit host) = None
exit_of (hop.Dropped why) = None

pub record WentBy (f : FabricOf) (x : PacketOf) (exit : ℕ) : Type 0 where
  pub used : TableFor
  pub uses : (station f x.at).table ≡ Some used
  pub more : List ℕ
  pub exits : exits_of used.table (row_entry x) (x.address / 16) ≡ exit ∷ more
  pub goes : is_some (next_at f x.at exit) ≡ true

delivered_no : (port : ℕ) (o : Option (ℕ × ℕ)) (x : PacketOf) → exit_of (delivered_to port o x) ≡ None
delivered_no port None x = refl
delivered_no port (Some host) x = by (host.1 == x.uid) where
  by : (b : Bool) → exit_of (cond b (hop.Delivered port host.0) (hop.Dropped cause.WrongHost)) ≡ None
  by true = refl
  by false = refl

went_next : (f : FabricOf) (x : PacketOf) (exit p : ℕ) (ps : List ℕ) (t : TableFor) (b : Bool) → (station f x.at).table ≡ Some t → exits_of t.table (row_entry x) (x.address / 16) ≡ p ∷ ps → is_some (next_at f x.at p) ≡ b
    → cond b (hop.Went p) (hop.Dropped cause.LinkDown) ≡ hop.Went exit → WentBy f x exit
went_next f x exit p ps t false uses exits next is = absurd (none_some (ap exit_of is))
went_next f x exit p ps t true uses exits next is =
    let same : p ≡ exit = some_same p exit (ap exit_of is) in
    record { used = t; uses = uses; more = ps; exits = exits ∙ ap (λ n. n ∷ ps) same; goes = subst (λ (n : ℕ). is_some (next_at f x.at n) ≡ true) same next }

went_exits : (f : FabricOf) (x : PacketOf) (exit : ℕ) (t : TableFor) (xs : List ℕ) → (station f x.at).table ≡ Some t → exits_of t.table (row_entry x) (x.address / 16) ≡ xs → goes_by xs (next_at f x.at) ≡ hop.Went exit → WentBy f x exit
went_exits f x exit t [] uses exits is = absurd (none_some (ap exit_of is))
went_exits f x exit t (p ∷ ps) uses exits is = went_next f x exit p ps t (is_some (next_at f x.at p)) uses exits refl is

went_here : (f : FabricOf) (x : PacketOf) (exit : ℕ) (t : TableFor) (b : Bool) → (station f x.at).table ≡ Some t
    → cond b (delivered_to (x.address % 16) (host_at f x.at (x.address % 16)) x) (goes_by (exits_of t.table (row_entry x) (x.address / 16)) (next_at f x.at)) ≡ hop.Went exit → WentBy f x exit
went_here f x exit t true uses is = absurd (none_some (sym (delivered_no (x.address % 16) (host_at f x.at (x.address % 16)) x) ∙ ap exit_of is))
went_here f x exit t false uses is = went_exits f x exit t (exits_of t.table (row_entry x) (x.address / 16)) uses refl is

pub went_by : (f : FabricOf) (x : PacketOf) (exit : ℕ) → hop_of f x ≡ hop.Went exit → WentBy f x exit
went_by f x exit = by (station f x.at).table refl where
  by : (o : Option TableFor) → (station f x.at).table ≡ o → hop_by (option_map (λ t. t.table) o) (host_at f x.at) (next_at f x.at) x ≡ hop.Went exit → WentBy f x exit
  by None uses is = absurd (none_some (ap exit_of is))
  by (Some t) uses is = went_here f x exit t (x.address / 16 == t.table.number) uses is

-- exits are those of a row
pub record HasRow (es : List EntryOf) (numbers : List ℕ) (any : Bool) (x entry n : ℕ) (exits : List ℕ) : Type 0 where
  pub row : RowOf
  pub is : IsRow es numbers any x row
  pub entry_is : row.entry ≡ entry
  pub to_is : row.to ≡ n
  pub exits_are : row.exits ≡ exits

pub row_of_exits : (es : List EntryOf) (numbers : List ℕ) (any : Bool) (x entry n p : ℕ) (ps : List ℕ) (t : TableOf) → IsTable es numbers any x t → exits_of t entry n ≡ p ∷ ps → HasRow es numbers any x entry n (p ∷ ps)
row_of_exits es numbers any x entry n p ps t table = by (find (λ r. (r.entry == entry) && (r.to == n)) t.rows) refl where
  by : (o : Option RowOf) → find (λ r. (r.entry == entry) && (r.to == n)) t.rows ≡ o → option_map_or (λ r. r.exits) o [] ≡ p ∷ ps → HasRow es numbers any x entry n (p ∷ ps)
  by None found is = absurd cc
  by (Some r) found is =
      let k = found_in (IsRow es numbers any x) (λ r. (r.entry == entry) && (r.to == n)) t.rows r (recursion_from_All (IsRow es numbers any x) t.rows table.each) found in
      let parts = and_parts (r.entry == entry) (r.to == n) k.1 in
      record { row = r; is = k.0; entry_is = eqb-true r.entry entry parts.0; to_is = eqb-true r.to n parts.1; exits_are = is }

lowest_first : (p : ℕ) (ps : List ℕ) → ExitsRise (p ∷ ps) → All (λ q. p ≤ q) (p ∷ ps)
lowest_first p ps rise zero d low = omega arith
lowest_first p ps rise (suc k) d low = let lt = rise 0 (suc k) d (omega arith) low in omega (arith, lt)

-- a packet of a number is one of those under way
pub packet_sound : (script : ScriptOf) → IsScript script → (h : List Event) (k : ℕ) (x : PacketOf) → packet_of k (world_after script h).fabric.packets ≡ Some x
    → IsPacketSound script (world_after script h).fabric.sent x × (x.packet ≡ k)
packet_sound script kept h k x there =
    let f = (world_after script h).fabric in
    let fits = world_fits script kept h in
    let r = found_in (IsPacketSound f.script f.sent) (λ y. y.packet == k) f.packets x (recursion_from_All (IsPacketSound f.script f.sent) f.packets fits.packets.each) there in
    (subst (λ (z : ScriptOf). IsPacketSound z f.sent x) (world_script script h) r.0, eqb-true x.packet k r.1)

-- The hop that it makes
pub hop_is : (script : ScriptOf) (lives : List LifeId) → length lives ≤ 126 → IsScript script → AreFirm script lives → (h : List Event) (k : ℕ) (x : PacketOf) (exit : ℕ) → packet_of k (world_after script h).fabric.packets ≡ Some x
    → hop_of (world_after script h).fabric x ≡ hop.Went exit → IsHopAt script h k (hopped_at (world_after script h) x exit)
hop_is script lives few kept firm h k x exit there is =
    let w = world_after script h in
    let f = w.fabric in
    let u : SwitchOf = w.switches x.at in
    let go = went_by f x exit is in
    let low = (packet_sound script kept h k x there).0.at in
    let mine = used_table script kept h x.at go.used low go.uses in
    let now : FinishedAt script h u.life u.epoch mine.topo = finished_now script h mine.topo x.at low mine.finished in
    let topology : IsTopology u.life mine.topo = topologies script lives few kept firm h u.life u.epoch mine.topo now in
    let any = ((world_is_sound script kept h).places x.at low).any in
    let same : go.used.table ≡ table_of mine.topo script.any_routes u.life = ap (λ (t : TableFor). t.table) mine.table ∙ ap (λ (b : Bool). table_of mine.topo b u.life) any in
    let table : IsTableOf mine.topo.entries mine.topo.numbers script.any_routes u.life go.used.table =
    subst (IsTableOf mine.topo.entries mine.topo.numbers script.any_routes u.life) (sym same) (topology_table u.life mine.topo script.any_routes topology) in
    let topo_is : unwrap_or (finish_of u) no_topo ≡ mine.topo = ap (λ (o : Option TopoOf). unwrap_or o no_topo) mine.finished in
    let epoch_is : go.used.epoch ≡ option_map_or (λ t. t.epoch) (station f x.at).table 0 = sym (ap (λ (o : Option TableFor). option_map_or (λ t. t.epoch) o 0) go.uses) in
    let row = row_of_exits mine.topo.entries mine.topo.numbers script.any_routes table.0 (row_entry x) (x.address / 16) exit go.more go.used.table table.2 go.exits in
    record {
      packet = x;
      there = there;
      at = refl;
      entry = refl;
      life = refl;
      used = go.used;
      in_use = go.uses;
      epoch = epoch_is;
      present = sym (ap (λ (t : TableFor). t.epoch) mine.table) ∙ epoch_is;
      finished = mine.finished ∙ ap (λ (t : TopoOf). Some t) (sym topo_is);
      table = subst (λ (t : TopoOf). IsTableOf t.entries t.numbers script.any_routes u.life go.used.table) (sym topo_is) table;
      exit = subst (λ (xs : List ℕ). Contains xs exit) (sym go.exits) (0, omega arith, refl);
      lowest = subst (λ (xs : List ℕ). All (λ q. exit ≤ q) xs) (sym go.exits) (lowest_first exit go.more (subst ExitsRise row.exits_are row.is.exits.rising));
    }

-- the hop of an event
hops_move : (script : ScriptOf) (lives : List LifeId) → length lives ≤ 126 → IsScript script → AreFirm script lives → (h : List Event) (k : ℕ) → is_lawful (world_after script h).fabric (Move k) ≡ true
    → Each (IsHopOf script (h ++ Move k ∷ []) k) (hopped_of (packet_of k (world_after script h).fabric.packets) (world_after script h))
hops_move script lives few kept firm h k lawful = by (packet_of k (world_after script h).fabric.packets) refl where
  by_hop : (x : PacketOf) (made : Hop) → packet_of k (world_after script h).fabric.packets ≡ Some x → hop_of (world_after script h).fabric x ≡ made → Each (IsHopOf script (h ++ Move k ∷ []) k) (hopped_by made (world_after script h) x)
  by_hop x (hop.Went exit) there is = (record { before = h; later = []; parts = refl; lawful = lawful; made = hop_is script lives few kept firm h k x exit there is }, tt)
  by_hop x (hop.Delivered exit host) there is = tt
  by_hop x (hop.Dropped why) there is = tt

  by : (o : Option PacketOf) → packet_of k (world_after script h).fabric.packets ≡ o → Each (IsHopOf script (h ++ Move k ∷ []) k) (hopped_of o (world_after script h))
  by None there = tt
  by (Some x) there = by_hop x (hop_of (world_after script h).fabric x) there refl

hops_event : (script : ScriptOf) (lives : List LifeId) → length lives ≤ 126 → IsScript script → AreFirm script lives → (h : List Event) (k : ℕ) (e : Event) → is_lawful (world_after script h).fabric e ≡ true
    → Each (IsHopOf script (h ++ e ∷ []) k) (event_hop k (world_after script h) e)
hops_event script lives few kept firm h k (Move n) lawful = by (n == k) refl where
  by : (b : Bool) → (n == k) ≡ b → Each (IsHopOf script (h ++ Move n ∷ []) k) (cond b (hopped_of (packet_of n (world_after script h).fabric.packets) (world_after script h)) [])
  by false other = tt
  by true same =
      let is = eqb-true n k same in
      subst (λ (m : ℕ). Each (IsHopOf script (h ++ Move m ∷ []) k) (hopped_of (packet_of m (world_after script h).fabric.packets) (world_after script h))) (sym is)
      (hops_move script lives few kept firm h k (subst (λ (m : ℕ). is_lawful (world_after script h).fabric (Move m) ≡ true) is lawful))
hops_event script lives few kept firm h k e lawful = tt

abbrev pub hop_more : (script : ScriptOf) (h : List Event) (e : Event) (k : ℕ) (x : Hopped) → IsHopOf script h k x → IsHopOf script (h ++ e ∷ []) k x
hop_more script h e k x is = record {
  before = is.before;
  later = is.later ++ e ∷ [];
  parts = ap (λ (l : List Event). l ++ e ∷ []) is.parts ∙ append_assoc is.before (Move k ∷ is.later) (e ∷ []);
  lawful = is.lawful;
  made = is.made;
}

-- each hop of a trace
pub each_hop : (script : ScriptOf) (lives : List LifeId) → length lives ≤ 126 → IsScript script → AreFirm script lives → (k : ℕ) (h : List Event) → Each (IsHopOf script h k) (trace_of script h k)
each_hop script lives few kept firm k = by_events (λ h. Each (IsHopOf script h k) (trace_of script h k)) (subst (Each (IsHopOf script [] k)) (sym (trace_first script k)) tt)
    (λ h e old. subst (Each (IsHopOf script (h ++ e ∷ []) k)) (sym (trace_event script k h e))
    (each_append (IsHopOf script (h ++ e ∷ []) k) (trace_of script h k) (hop_then script k h e) (each_map (IsHopOf script h k) (IsHopOf script (h ++ e ∷ []) k) (trace_of script h k) (hop_more script h e k) old)
    (by h e (is_lawful (world_after script h).fabric e) refl)))
  where
    by : (h : List Event) (e : Event) (b : Bool) → is_lawful (world_after script h).fabric e ≡ b → Each (IsHopOf script (h ++ e ∷ []) k) (cond b (event_hop k (world_after script h) e) [])
    by h e false unlawful = tt
    by h e true lawful = hops_event script lives few kept firm h k e lawful

pub hops_by_tables : (script : ScriptOf) (lives : List LifeId) → length lives ≤ 126 → IsScript script → AreFirm script lives → (h : List Event) → AreHopsByTables script h
hops_by_tables script lives few kept firm h k x has = each_in (IsHopOf script h k) (trace_of script h k) x (each_hop script lives few kept firm k h) (in_from x (trace_of script h k) has)
