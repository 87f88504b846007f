-- So many ticks after the last disturbance each port shows what lies behind it, no switch is spent, the network
-- agrees, and no event but a disturbance changes a port.

use Rattle.std.specs.Prelude.{◌≡◌, ◌≢◌, ◌⊎◌, ◌+◌, ◌-◌, ◌==◌, ◌<◌, ◌≤◌, ◌&&◌, ◌||◌, ℕ, zero, suc, nat_lt, not, List, [], ◌∷◌, ◌++◌, map, length, slice_get, slice_index_or, Contains, cond, Option, Some, None, is_some, Bool, true, false, refl}
use Rattle.std.specs.List.{list_all}
use Rattle.std.specs.Ordering.{is_eq, ordering_then}
use Rattle.std.specs.declared.cmp.Ordering.TheVariants.{Equal}
use Rattle.std.specs.Cmp.{nat_cmp_is}
use Rattle.std.specs.Cmp.Lexicographic.{slice_cmp}
use Rattle.std.proofs.Common.{true≢false, sym, ◌∙◌, ap, subst, inl, inr, arith, eq-eqb, ne_eqb}
use Rattle.std.proofs.lemmas.Bool.{false≢true, and_from, cases_eq, cases_lt, eqb-true}
use Rattle.an_base.specs.Values.{LifeId, EndId, PeerAt}
use Rattle.an_base.specs.Order.{end_cmp, link_cmp}
use Rattle.an_base.specs.Ports.{PortViewOf, NoteOf}
use Rattle.an_base.specs.declared.event.Event.{Event}
use Rattle.an_base.specs.declared.event.Event.TheVariants.{Tick, Clock, Take, Handle, Load, Fail, Repair, Lose, Again, Swap, Noise, Send, Move, Restart}
use Rattle.an_base.specs.declared.port.PortState.{PortState}
use Rattle.an_base.specs.declared.port.PortState.TheVariants as state
use Rattle.an_base.specs.declared.port.Sample.{Sample}
use Rattle.an_base.specs.declared.port.Sample.TheVariants as sample
use Rattle.common_values.proofs.OrderingLemmas.{equal_is}
use Rattle.connectivity.specs.declared.conn.Conn.{Conn}
use Rattle.connectivity.specs.declared.conn.Conn.TheVariants.{Who, Loop, Good}
use Rattle.net_graph.specs.declared.wiring.Far.{Far}
use Rattle.net_graph.specs.declared.wiring.Far.TheVariants as far
use Rattle.net_graph.specs.declared.wiring.LinkAt.{LinkAt}
use Rattle.net_graph.specs.declared.wiring.HostOn.{HostOn}
use Rattle.net_graph.specs.Wires.{Joins, far_at, uid_of}
use Rattle.net_graph.proofs.CollectLemmas.{uid_one}
use Rattle.net_graph.proofs.OneFar.{one_far}
use Rattle.net_script.specs.Scripts.{ScriptOf, IsScript}
use Rattle.port_monitor.specs.declared.port.Phase.{Phase}
use Rattle.port_monitor.specs.declared.port.Phase.TheVariants.{Dead, Checking, Host, Switch}
use Rattle.port_monitor.specs.declared.port.Port.{Port}
use Rattle.port_monitor.specs.Ports.{state_of, state_by, peer_by, good_peer_by, link_to, links_from}
use Rattle.port_monitor.specs.Histories.{Sampled, port_after}
use Rattle.link_settling.specs.Measures.{Knows, clocks_left, known_state}
use Rattle.link_settling.specs.Moments.{EndView, clocks, then_step, tick_begins}
use Rattle.link_settling.proofs.Basics.{same_end}
use Rattle.link_settling.proofs.Clocks.{known_far, stays_host}
use Rattle.link_settling.proofs.Links.{down_is_dead}
use Rattle.link_settling.proofs.Ports.{port_sound, is_no_switch}
use Rattle.link_settling.proofs.Runs.{knows_within}
use Rattle.topo_report.proofs.Members.{In, contains_from}
use Rattle.wire_set.specs.WireState.{place, side_at}
use Rattle.switch_core.specs.Switch.{SwitchOf, end_at, good_links, note_of, port_of, ports_of, view_of}
use Rattle.switch_core.specs.Steps.{are_same_links, clocked, is_change_due, is_spent_by, last_epoch, sample_at, sampled_by}
use Rattle.net_state.specs.declared.hand.Hand.{Hand}
use Rattle.net_state.specs.declared.hand.Hand.TheVariants as hand
use Rattle.net_state.specs.Fabric.{FabricOf, StationOf, station, vacant, held_bytes, is_empty, is_some_spent, is_up, no_view, port_shown, sample_of, sample_behind, side_of_port}
use Rattle.net_state.specs.Agree.{agrees, host_agrees, link_agrees, is_good_to}
use Rattle.net_state.specs.Lawful.{is_lawful}
use Rattle.net_state.proofs.LawfulLemmas.{lawful_is, next_open}
use Rattle.net_state.proofs.ReadyLemmas.{handle_ready}
use Rattle.net_world.specs.World.{WorldOf, effect, handled, world_after}
use Rattle.net_world.proofs.InductionLemmas.{world_script}
use Rattle.net_world.proofs.LawLemmas.{world_is_sound}
use Rattle.net_world.proofs.PlaceLemmas.{world_size}
use Rattle.net_world.proofs.WorldLemmas.{world_after-event, step-lawful, step-unlawful}
use Rattle.net_game.proofs.AgreeFacts.{shown_is}
use Rattle.net_game.proofs.DeliveredLemmas.{far_is}
use Rattle.net_game.proofs.Firm.{places}
use Rattle.net_game.proofs.HistoryLemmas.{by_events}
use Rattle.net_settling.specs.Disturbances.{is_either, is_of_script, loses, disturbs}
use Rattle.net_settling.specs.Settling.{ArePortsFinal, ports_shown}
use Rattle.net_settling.specs.Views.{LinkOf, end_here, end_there, has_clocked, view}
use Rattle.net_settling.proofs.Calm.{IsCalm, last, none_spent_from, unspent_here, disturbed_now, undisturbed_now}
use Rattle.net_settling.proofs.Linked.{IsLinkOf, link_of, side_far}
use Rattle.net_settling.proofs.Senders.{calm_lives, lives_of}
use Rattle.net_settling.proofs.Samples.{all_sampled, calm_links, never_switch, sample_here}
use Rattle.net_settling.proofs.Since.{disturbance_past}
use Rattle.net_settling.proofs.Times.{IsStepOf, step_of}
use Rattle.net_settling.proofs.Viewed.{clocked_not, handled_clock, handled_frame}
use Rattle.net_settling.proofs.Cuts.{cut_knows}
use Rattle.net_settling.proofs.CutLinks.{all_cut}
use Rattle.net_settling.proofs.Works.{all_joined, bytes_work, clocked_spent}
use Rattle.net_settling.proofs.Ages.{all_downs, all_hosts, port_in}

-- what a port is to show at last, by what lies behind it and whether its link is up
unfoldable pub dead_view : PortViewOf
dead_view = record { state = state.Dead; peer = None }

unfoldable pub host_view : PortViewOf
host_view = record { state = state.Host; peer = None }

unfoldable pub known_view : EndId → EndId → PortViewOf
known_view own peer = record { state = known_state own peer; peer = Some peer }

unfoldable pub behind_view : (ℕ → LifeId) → EndId → Option Far → PortViewOf
behind_view lives own None = dead_view
behind_view lives own (Some (far.HostAt n)) = host_view
behind_view lives own (Some (far.Switch t q)) = known_view own (record { life = lives t; port = q })

unfoldable pub final_view : ScriptOf → (ℕ → LifeId) → Bool → ℕ → ℕ → PortViewOf
final_view script lives up s p = cond up (behind_view lives (record { life = lives s; port = p }) (far_at script.wires s p)) dead_view

-- what is known of a port gives what it shows
view_is : (v : PortViewOf) (s : PortState) (o : Option EndId) → v.state ≡ s → v.peer ≡ o → v ≡ record { state = s; peer = o }
view_is v s o es eo = λ i. record { state = es i; peer = eo i }

peer_dead : (phase : Phase) (conn : Conn) → state_by phase conn ≡ state.Dead → peer_by phase conn ≡ None
peer_dead Dead conn is = refl
peer_dead Checking conn is = refl
peer_dead Host conn is = refl
peer_dead Switch Who is = refl
peer_dead Switch (Loop peer) is = absurd cc
peer_dead Switch (Good peer) is = absurd cc

dead_shows : (p : Port) → state_of p ≡ state.Dead → view_of p ≡ dead_view
unfolding dead_view
dead_shows p is = view_is (view_of p) state.Dead None is (peer_dead p.phase p.far.conn is)

host_shows : (p : Port) → p.phase ≡ Host → view_of p ≡ host_view
unfolding host_view
host_shows p is = view_is (view_of p) state.Host None (ap (λ x. state_by x p.far.conn) is) (ap (λ x. peer_by x p.far.conn) is)

known_shows : (own peer : EndId) (p : Port) → Knows own peer p → view_of p ≡ known_view own peer
unfolding known_view
known_shows own peer p k = view_is (view_of p) (known_state own peer) (Some peer) k.state k.peer_is

-- What is known at a moment so late
pub record IsLate (script : ScriptOf) (h : List Event) : Type 0 where
  pub kept : IsScript script
  pub unpaced : script.pace ≡ None
  pub works : is_some_spent (world_after script h).fabric ≡ false
  pub late : last script h + 259 ≤ (world_after script h).fabric.tick

pub later_of : (script : ScriptOf) (h : List Event) → IsLate script h → last script h < (world_after script h).fabric.tick
later_of script h k = let l = k.late in omega (arith, l)

-- the sample of a port by what lies behind it
sample_by : (script : ScriptOf) → IsScript script → (h : List Event) (s p : ℕ) → s < places script → p ≤ 12 → sample_of (side_of_port (world_after script h).fabric s p) ≡ cond (is_up (world_after script h).fabric s p) (sample_behind (far_at script.wires s p)) sample.Down
sample_by script kept h s p low most = ap (λ o. cond (is_up (world_after script h).fabric s p) (sample_behind o) sample.Down) (far_is script kept h s p low (omega (arith, most)))

-- a host's port
host_phase : (script : ScriptOf) (h : List Event) (s p n : ℕ) → IsLate script h → s < places script → 1 ≤ p → p ≤ 12 → far_at script.wires s p ≡ Some (far.HostAt n) → sample_of (side_of_port (world_after script h).fabric s p) ≡ sample.Host → (port_in (world_after script h) s p).phase ≡ Host
host_phase script h s p n k low least most behind host =
    let w = world_after script h in
    let own = end_at (w.switches s) p in
    let port = port_in w s p in
    let few = all_hosts script k.kept k.unpaced h k.works (later_of script h k) s p low least most host in
    let late = k.late in
    by (known_far port.phase port.status (port_sound own ((w.switches s).ports p)).holding (sum (clocks_left port) w.fabric.tick (last script h) (cond (has_clocked w.fabric s) 1 0) few late))
  where
    sum : (x t c n : ℕ) → x ≤ 129 - (t - suc c + n) → c + 259 ≤ t → x ≡ 0
    sum x t c n few late = omega (arith, few, late)

    by : ((port_in (world_after script h) s p).phase ≡ Host) ⊎ ((port_in (world_after script h) s p).phase ≡ Switch) → (port_in (world_after script h) s p).phase ≡ Host
    by (inl host) = host
    by (inr switch) = absurd (is_no_switch (end_at ((world_after script h).switches s) p) (((world_after script h).switches s).ports p) (never_switch script k.kept h s p n low least most behind) switch)

-- a port at which nothing is shown
down_state : (script : ScriptOf) (h : List Event) (s p : ℕ) → IsLate script h → s < places script → 1 ≤ p → p ≤ 12 → sample_of (side_of_port (world_after script h).fabric s p) ≡ sample.Down → state_of (port_in (world_after script h) s p) ≡ state.Dead
down_state script h s p k low least most down = by (all_downs script k.kept k.unpaced h k.works (later_of script h k) s p low least most down)
  where
    by : (((world_after script h).fabric.tick ≡ suc (last script h)) × (has_clocked (world_after script h).fabric s ≡ false)) ⊎ (state_of (port_in (world_after script h) s p) ≡ state.Dead) → state_of (port_in (world_after script h) s p) ≡ state.Dead
    by (inl x) = let l = k.late in let e = x.0 in absurd (omega (arith, l, e))
    by (inr dead) = dead

-- So each port shows what it is to show,
shows_by : (script : ScriptOf) (h : List Event) (s p : ℕ) → IsLate script h → s < places script → 1 ≤ p → p ≤ 12 → (b : Bool) → is_up (world_after script h).fabric s p ≡ b → (o : Option Far) → far_at script.wires s p ≡ o
    → view_of (port_in (world_after script h) s p) ≡ cond b (behind_view (lives_of (world_after script h)) (end_at ((world_after script h).switches s) p) o) dead_view
unfolding behind_view
shows_by script h s p k low least most false up o behind =
    dead_shows (port_in (world_after script h) s p) (down_state script h s p k low least most (sample_by script k.kept h s p low most ∙ ap (λ b. cond b (sample_behind (far_at script.wires s p)) sample.Down) up))
shows_by script h s p k low least most true up None behind =
    dead_shows (port_in (world_after script h) s p) (down_state script h s p k low least most (sample_by script k.kept h s p low most ∙ (λ i. cond (up i) (sample_behind (behind i)) sample.Down)))
shows_by script h s p k low least most true up (Some (far.HostAt n)) behind =
    host_shows (port_in (world_after script h) s p) (host_phase script h s p n k low least most behind (sample_by script k.kept h s p low most ∙ (λ i. cond (up i) (sample_behind (behind i)) sample.Down)))
shows_by script h s p k low least most true up (Some (far.Switch t q)) behind =
    let w = world_after script h in
    let l : LinkOf = record { place = s; port = p; far_place = t; far_port = q } in
    let is = link_of script k.kept s p t q behind in
    known_shows (end_here w l) (end_there w l) (port_in w s p) (cut_knows (last script h) w l (all_cut script k.kept k.unpaced h k.works (later_of script h k) l is up) k.late).0

pub port_shows : (script : ScriptOf) (h : List Event) (s p : ℕ) → IsLate script h → s < places script → 1 ≤ p → p ≤ 12 → view_of (port_in (world_after script h) s p) ≡ final_view script (lives_of (world_after script h)) (is_up (world_after script h).fabric s p) s p
unfolding final_view
port_shows script h s p k low least most = shows_by script h s p k low least most (is_up (world_after script h).fabric s p) refl (far_at script.wires s p) refl

-- and one that handles its clock now shows the same then
sampled_shows_by : (script : ScriptOf) (h : List Event) (s p n : ℕ) (samples : List Sample) → IsLate script h → (station (world_after script h).fabric s).hand ≡ hand.Clock n samples → s < places script → 1 ≤ p → p ≤ 12 → (b : Bool) → is_up (world_after script h).fabric s p ≡ b → (o : Option Far) → far_at script.wires s p ≡ o
    → view_of (port_after (end_at ((world_after script h).switches s) p) (Sampled (cond b (sample_behind o) sample.Down) ∷ ((world_after script h).switches s).ports p)) ≡ cond b (behind_view (lives_of (world_after script h)) (end_at ((world_after script h).switches s) p) o) dead_view
unfolding behind_view
sampled_shows_by script h s p n samples k clock low least most false up o behind =
    let own = end_at ((world_after script h).switches s) p in
    let before = ((world_after script h).switches s).ports p in
    dead_shows (port_after own (Sampled sample.Down ∷ before)) (down_is_dead own own [] before)
sampled_shows_by script h s p n samples k clock low least most true up None behind =
    let own = end_at ((world_after script h).switches s) p in
    let before = ((world_after script h).switches s).ports p in
    dead_shows (port_after own (Sampled sample.Down ∷ before)) (down_is_dead own own [] before)
sampled_shows_by script h s p n samples k clock low least most true up (Some (far.HostAt m)) behind =
    let own = end_at ((world_after script h).switches s) p in
    host_shows (port_after own (Sampled sample.Host ∷ ((world_after script h).switches s).ports p)) (stays_host (port_in (world_after script h) s p) (host_phase script h s p m k low least most behind (sample_by script k.kept h s p low most ∙ (λ i. cond (up i) (sample_behind (behind i)) sample.Down))))
sampled_shows_by script h s p n samples k clock low least most true up (Some (far.Switch t q)) behind =
    let w = world_after script h in
    let l : LinkOf = record { place = s; port = p; far_place = t; far_port = q } in
    let is = link_of script k.kept s p t q behind in
    let cut = all_cut script k.kept k.unpaced h k.works (later_of script h k) l is up in
    let own = end_here w l in
    let v : EndView = record { here = Sampled sample.Switch ∷ (view w l).here; there = (view w l).there; has_clocked = true; far_has_clocked = (view w l).far_has_clocked; probe = true; reply = (view w l).reply } in
    let time = cut.time in
    let late = k.late in
    known_shows own (end_there w l) (port_after own v.here)
    ((knows_within own (end_there w l) cut.ticks cut.at_here cut.at_there cut.before (omega (arith, time, late))).2 v
    (then_step (tick_begins cut.at_here cut.at_there) (view w l) v cut.run_here (clocks (record { before = clocked_not w.fabric s n samples clock; is = refl; probes = λ speaks. refl }))))

sampled_shows : (script : ScriptOf) (h : List Event) (s p n : ℕ) (samples : List Sample) → IsLate script h → (station (world_after script h).fabric s).hand ≡ hand.Clock n samples → s < places script → 1 ≤ p → p ≤ 12
    → view_of (port_of (sampled_by n samples ((world_after script h).switches s)) p) ≡ view_of (port_in (world_after script h) s p)
unfolding final_view
sampled_shows script h s p n samples k clock low least most =
    let w = world_after script h in
    let own = end_at (w.switches s) p in
    let now : sample_at samples p ≡ cond (is_up w.fabric s p) (sample_behind (far_at script.wires s p)) sample.Down =
    ap (λ xs. sample_at xs p) (all_sampled script k.kept k.unpaced h k.works (later_of script h k) s low n samples clock) ∙ sample_here w.fabric s p least most ∙ sample_by script k.kept h s p low most
    in
    ap (λ x. view_of (port_after own (Sampled x ∷ (w.switches s).ports p))) now
    ∙ sampled_shows_by script h s p n samples k clock low least most (is_up w.fabric s p) refl (far_at script.wires s p) refl
    ∙ sym (port_shows script h s p k low least most)

-- the good links of a switch are those that its ports show
unfoldable pub good_of : PortViewOf → Option EndId
good_of v = by v.state v.peer
  where
    by : PortState → Option EndId → Option EndId
    by state.Good peer = peer
    by other peer = None

pub good_shown : (phase : Phase) (conn : Conn) → good_peer_by phase conn ≡ good_of (record { state = state_by phase conn; peer = peer_by phase conn })
unfolding good_of
good_shown Dead conn = refl
good_shown Checking conn = refl
good_shown Host conn = refl
good_shown Switch Who = refl
good_shown Switch (Loop peer) = refl
good_shown Switch (Good peer) = refl

links_of : ℕ → List PortViewOf → List PeerAt
links_of n [] = []
links_of n (v ∷ vs) = link_to n (good_of v) ++ links_of (suc n) vs

links_shown : (n : ℕ) (ports : List Port) → links_from n ports ≡ links_of n (map view_of ports)
unfolding links_of
links_shown n [] = refl
links_shown n (p ∷ ports) = (λ i. link_to n (good_shown p.phase p.far.conn i) ++ links_shown (suc n) ports i)

pub views_same : (u v : SwitchOf) → ((p : ℕ) → 1 ≤ p → p ≤ 12 → view_of (port_of v p) ≡ view_of (port_of u p)) → map view_of (ports_of v) ≡ map view_of (ports_of u)
views_same u v same = λ i.
    same 1 (omega arith) (omega arith) i ∷ same 2 (omega arith) (omega arith) i ∷ same 3 (omega arith) (omega arith) i ∷ same 4 (omega arith) (omega arith) i
    ∷ same 5 (omega arith) (omega arith) i ∷ same 6 (omega arith) (omega arith) i ∷ same 7 (omega arith) (omega arith) i ∷ same 8 (omega arith) (omega arith) i
    ∷ same 9 (omega arith) (omega arith) i ∷ same 10 (omega arith) (omega arith) i ∷ same 11 (omega arith) (omega arith) i ∷ same 12 (omega arith) (omega arith) i ∷ []

good_same : (u v : SwitchOf) → ((p : ℕ) → 1 ≤ p → p ≤ 12 → view_of (port_of v p) ≡ view_of (port_of u p)) → good_links v ≡ good_links u
good_same u v same = links_shown 1 (ports_of v) ∙ ap (links_of 1) (views_same u v same) ∙ sym (links_shown 1 (ports_of u))

-- so no change is due at a clock, and none is spent by one
link_itself : (x : PeerAt) → link_cmp x x ≡ Equal
link_itself x = ap (λ o. ordering_then o (end_cmp x.peer x.peer)) (sym (nat_cmp_is x.port x.port Equal refl)) ∙ equal_is (end_cmp x.peer x.peer) (same_end x.peer)

same_links_is : (xs : List PeerAt) → are_same_links xs xs ≡ true
same_links_is [] = refl
same_links_is (x ∷ xs) = ap (λ o. is_eq (ordering_then o (slice_cmp link_cmp xs xs))) (link_itself x) ∙ same_links_is xs

no_spending : (script : ScriptOf) (h : List Event) (s n : ℕ) (samples : List Sample) → IsLate script h → s < places script → (station (world_after script h).fabric s).hand ≡ hand.Clock n samples → is_spent_by ((world_after script h).switches s) (sampled_by n samples ((world_after script h).switches s)) ≡ false
no_spending script h s n samples k low clock =
    let u = (world_after script h).switches s in
    let v = sampled_by n samples u in
    let joined = all_joined script k.kept k.unpaced h k.works (later_of script h k) s low in
    let same = good_same u v (λ p least most. sampled_shows script h s p n samples k clock low least most) in
    ap (λ b. (not b || not (are_same_links (good_links u) (good_links v))) && (v.epoch == last_epoch)) joined
    ∙ ap (λ xs. not (are_same_links (good_links u) xs) && (v.epoch == last_epoch)) same
    ∙ ap (λ b. not b && (v.epoch == last_epoch)) (same_links_is (good_links u))

-- a handling so late spends no switch
handled_spent : (script : ScriptOf) (h : List Event) (s : ℕ) → IsLate script h → s < places script → (handled s (world_after script h)).switch.spent ≡ ((world_after script h).switches s).spent
handled_spent script h s k low = by (station w.fabric s).hand refl
  where
    w : WorldOf
    w = world_after script h

    by : (x : Hand) → (station w.fabric s).hand ≡ x → (handled s w).switch.spent ≡ (w.switches s).spent
    by hand.Empty is = Rattle.net_settling.proofs.Viewed.handled_empty s w is
    by (hand.Clock n samples) is = ap (λ (st : Rattle.switch_core.specs.Steps.Step). st.switch.spent) (handled_clock s n samples w is) ∙ clocked_spent n samples (w.switches s) (no_spending script h s n samples k low is)
    by (hand.Frame p) is = ap (λ (st : Rattle.switch_core.specs.Steps.Step). st.switch.spent) (handled_frame s p w is) ∙ (bytes_work p (Rattle.frame_codec.specs.Reading.frame_of (held_bytes w.fabric s)) (w.switches s)).spent

-- So late no switch is spent, in whatever history.
abbrev NoneSpent : ScriptOf → List Event → Type 0
NoneSpent script h = last script h + 259 ≤ (world_after script h).fabric.tick → is_some_spent (world_after script h).fabric ≡ false

-- a change of a station that spends none
set_unspent : (stations : List StationOf) (s t : ℕ) (x : StationOf) → (x.spent ≡ false) → (slice_index_or stations t vacant).spent ≡ false → (slice_index_or (Rattle.std.specs.Prelude.slice_set stations s x) t vacant).spent ≡ false
set_unspent stations s t x new old = by (Rattle.net_settling.proofs.Passing.set_cases stations s t x)
  where
    by : ((t ≡ s) × (slice_index_or (Rattle.std.specs.Prelude.slice_set stations s x) t vacant ≡ x)) ⊎ (slice_index_or (Rattle.std.specs.Prelude.slice_set stations s x) t vacant ≡ slice_index_or stations t vacant) → (slice_index_or (Rattle.std.specs.Prelude.slice_set stations s x) t vacant).spent ≡ false
    by (inl k) = ap (λ (y : StationOf). y.spent) k.1 ∙ new
    by (inr same) = ap (λ (y : StationOf). y.spent) same ∙ old

loads_unspent : (o : Option _) (s t : ℕ) (w : WorldOf) → (station w.fabric t).spent ≡ false → (station w.fabric s).spent ≡ false → (station (Rattle.net_world.specs.World.loads_with o s w).fabric t).spent ≡ false
loads_unspent None s t w old here = old
loads_unspent (Some topo) s t w old here = set_unspent w.fabric.stations s t _ here old

stations_unspent : (script : ScriptOf) (h : List Event) (e : Event) → IsLate script h → is_lawful (world_after script h).fabric e ≡ true → is_of_script e ≡ false → (t : ℕ) → (station (effect e (world_after script h)).fabric t).spent ≡ false
unfolding effect
stations_unspent script h Tick k lawful quiet t = unspent_here (world_after script h).fabric t k.works
stations_unspent script h (Clock s) k lawful quiet t = let f = (world_after script h).fabric in set_unspent f.stations s t _ (unspent_here f s k.works) (unspent_here f t k.works)
stations_unspent script h (Take s p) k lawful quiet t = let f = (world_after script h).fabric in set_unspent f.stations s t _ (unspent_here f s k.works) (unspent_here f t k.works)
stations_unspent script h (Handle s) k lawful quiet t =
    let w = world_after script h in
    let low = Rattle.net_settling.proofs.Passing.below script h s (handle_ready w.fabric s (lawful_is w.fabric (Handle s) lawful).ready).0 in
    let spent : (w.switches s).spent ≡ false = sym ((world_is_sound script k.kept h).places s low).spent ∙ unspent_here w.fabric s k.works in
    set_unspent w.fabric.stations s t _ (handled_spent script h s k low ∙ spent) (unspent_here w.fabric t k.works)
stations_unspent script h (Load s) k lawful quiet t = let w = world_after script h in loads_unspent (Rattle.switch_core.specs.Switch.finish_of (w.switches s)) s t w (unspent_here w.fabric t k.works) (unspent_here w.fabric s k.works)
stations_unspent script h (Move n) k lawful quiet t = unspent_here (world_after script h).fabric t k.works
stations_unspent script h (Fail s p) k lawful quiet t = absurd (true≢false quiet)
stations_unspent script h (Repair s p) k lawful quiet t = absurd (true≢false quiet)
stations_unspent script h (Lose s p n) k lawful quiet t = absurd (true≢false quiet)
stations_unspent script h (Again s p n) k lawful quiet t = absurd (true≢false quiet)
stations_unspent script h (Swap s p n) k lawful quiet t = absurd (true≢false quiet)
stations_unspent script h (Noise s p n) k lawful quiet t = absurd (true≢false quiet)
stations_unspent script h (Send a b) k lawful quiet t = absurd (true≢false quiet)
stations_unspent script h (Restart s) k lawful quiet t = absurd (true≢false quiet)

no_command : (w : WorldOf) (e : Event) → is_lawful w.fabric e ≡ true → disturbs is_either w e ≡ false → is_of_script e ≡ false
no_command w e lawful quiet = (Rattle.std.proofs.lemmas.Bool.or_parts (is_of_script e) (loses is_either w e) (sym (ap (λ b. b && (is_of_script e || loses is_either w e)) lawful) ∙ quiet)).0

-- an event so late, or a tick that makes it so late: before it none was spent
works_first : (script : ScriptOf) (h : List Event) (e : Event) → is_lawful (world_after script h).fabric e ≡ true → NoneSpent script h → last script h + 259 ≤ (effect e (world_after script h)).fabric.tick → (e ≡ Tick) ⊎ IsStepOf e (world_after script h) (effect e (world_after script h)) → is_some_spent (world_after script h).fabric ≡ false
works_first script h e lawful old late (inl is) =
    let f = (world_after script h).fabric in
    (next_open f Tick (lawful_is f Tick (subst (λ x. is_lawful f x ≡ true) is lawful)) refl).unspent
works_first script h e lawful old late (inr step) = let t = step.tick in old (omega (arith, late, t))

tick_unspent : (script : ScriptOf) (h : List Event) → is_some_spent (world_after script h).fabric ≡ false → is_some_spent (effect Tick (world_after script h)).fabric ≡ false
unfolding effect
tick_unspent script h works = works

spent_lawful : (script : ScriptOf) → IsScript script → script.pace ≡ None → (h : List Event) (e : Event) → is_lawful (world_after script h).fabric e ≡ true → NoneSpent script h → last script (h ++ e ∷ []) + 259 ≤ (effect e (world_after script h)).fabric.tick → is_some_spent (effect e (world_after script h)).fabric ≡ false
spent_lawful script kept unpaced h e lawful old late = by (disturbs is_either w e) refl (step_of e w)
  where
    w : WorldOf
    w = world_after script h

    by : (b : Bool) → disturbs is_either w e ≡ b → (e ≡ Tick) ⊎ IsStepOf e w (effect e w) → is_some_spent (effect e w).fabric ≡ false
    by b is (inl tick) =
        subst (λ x. is_some_spent (effect x w).fabric ≡ false) (sym tick)
        (tick_unspent script h (next_open w.fabric Tick (lawful_is w.fabric Tick (subst (λ x. is_lawful w.fabric x ≡ true) tick lawful)) refl).unspent)
    by true is (inr step) = let t = step.tick in let now = disturbed_now script h e is in absurd (omega (arith, late, t, now))
    by false is (inr step) =
        let t = step.tick in
        let same = undisturbed_now script h e is in
        let soon : last script h + 259 ≤ w.fabric.tick = omega (arith, late, t, same) in
        none_spent_from (effect e w).fabric (stations_unspent script h e (record { kept = kept; unpaced = unpaced; works = old soon; late = soon }) lawful (no_command w e lawful is))

first_unspent : (script : ScriptOf) → NoneSpent script []
unfolding world_after
first_unspent script late = absurd (let low : 0 + 259 ≤ 0 = late in omega (arith, low))

none_spent : (script : ScriptOf) → IsScript script → script.pace ≡ None → (h : List Event) → NoneSpent script h
none_spent script kept unpaced = by_events (NoneSpent script) (first_unspent script) (λ h e old. subst (At (last script (h ++ e ∷ []))) (sym (world_after-event script h e)) (by h e old (is_lawful (world_after script h).fabric e) refl))
  where
    At : ℕ → WorldOf → Type 0
    At n v = n + 259 ≤ v.fabric.tick → is_some_spent v.fabric ≡ false

    by : (h : List Event) (e : Event) → NoneSpent script h → (b : Bool) → is_lawful (world_after script h).fabric e ≡ b → At (last script (h ++ e ∷ [])) (Rattle.net_world.specs.World.step (world_after script h) e)
    by h e old true lawful = subst (At (last script (h ++ e ∷ []))) (sym (step-lawful (world_after script h) e lawful)) (spent_lawful script kept unpaced h e lawful old)
    by h e old false unlawful =
        let quiet : disturbs is_either (world_after script h) e ≡ false = ap (λ b. b && (is_of_script e || loses is_either (world_after script h) e)) unlawful in
        subst (At (last script (h ++ e ∷ []))) (sym (step-unlawful (world_after script h) e unlawful))
        (subst (λ n. At n (world_after script h)) (sym (undisturbed_now script h e quiet)) old)

pub late_is : (script : ScriptOf) → IsScript script → script.pace ≡ None → (h : List Event) → last script h + 259 ≤ (world_after script h).fabric.tick → IsLate script h
late_is script kept unpaced h late = record { kept = kept; unpaced = unpaced; works = none_spent script kept unpaced h late; late = late }

-- The network agrees.
shown_final : (script : ScriptOf) (h : List Event) (s p : ℕ) → IsLate script h → s < places script → 1 ≤ p → p ≤ 12 → port_shown (world_after script h).fabric s p ≡ final_view script (lives_of (world_after script h)) (is_up (world_after script h).fabric s p) s p
shown_final script h s p k low least most =
    let w = world_after script h in
    ap (λ (n : NoteOf). slice_index_or n.ports (p - 1) no_view) ((world_is_sound script k.kept h).places s low).note
    ∙ shown_is (w.switches s) p least most ∙ port_shows script h s p k low least most

shown_behind : (script : ScriptOf) (h : List Event) (s p : ℕ) (o : Option Far) → IsLate script h → s < places script → 1 ≤ p → p ≤ 12 → far_at script.wires s p ≡ o → (b : Bool) → is_up (world_after script h).fabric s p ≡ b → port_shown (world_after script h).fabric s p ≡ cond b (behind_view (lives_of (world_after script h)) (end_at ((world_after script h).switches s) p) o) dead_view
unfolding final_view
shown_behind script h s p o k low least most behind b up = shown_final script h s p k low least most ∙ (λ i. cond (up i) (behind_view (lives_of (world_after script h)) (end_at ((world_after script h).switches s) p) (behind i)) dead_view)

known_good : (own peer : EndId) → (peer.life.uid == own.life.uid) ≡ false → is_good_to peer (known_view own peer) ≡ true
unfolding known_view
known_good own peer differ = ap (λ b. Rattle.net_state.specs.PortStates.is_good (cond b state.Loop state.Good) && Rattle.connectivity.specs.Connections.is_same_end peer peer) differ ∙ same_end peer

known_loop : (own peer : EndId) → (peer.life.uid == own.life.uid) ≡ true → Rattle.net_state.specs.PortStates.is_loop (known_view own peer).state ≡ true
unfolding known_view
known_loop own peer same = ap (λ b. Rattle.net_state.specs.PortStates.is_loop (cond b state.Loop state.Good)) same

-- a link of the script, by its places
link_here : (script : ScriptOf) → IsScript script → (x : LinkAt) → In x script.wires.links → IsLinkOf script (record { place = x.a; port = x.a_port; far_place = x.b; far_port = x.b_port })
link_here script kept x i =
    let has = contains_from x script.wires.links i in
    let any : Rattle.std.specs.Prelude.Any (λ (y : LinkAt). Joins y x.a x.a_port x.b x.b_port) script.wires.links = (has.0, x, has.1, has.2, inl refl) in
    link_of script kept x.a x.a_port x.b x.b_port (one_far script.wires x.a x.a_port (far.Switch x.b x.b_port) kept.wired any)

pub uid_here : (script : ScriptOf) → IsScript script → (h : List Event) (s : ℕ) → s < places script → (lives_of (world_after script h) s).uid ≡ uid_of script.wires.switches s
uid_here script kept h s low = ap (λ (x : LifeId). x.uid) ((world_is_sound script kept h).places s low).life

end_shown_is : (script : ScriptOf) → IsScript script → (h : List Event) (s p : ℕ) → s < places script → Rattle.net_state.specs.Fabric.end_shown (world_after script h).fabric s p ≡ end_at ((world_after script h).switches s) p
end_shown_is script kept h s p low = ap (λ (n : NoteOf). record { life = n.life; port = p }) ((world_is_sound script kept h).places s low).note

link_fine : (script : ScriptOf) (h : List Event) (x : LinkAt) → IsLate script h → In x script.wires.links → link_agrees (world_after script h).fabric x ≡ true
unfolding behind_view dead_view
link_fine script h x k i = by_up (is_up f x.a x.a_port) refl
  where
    w : WorldOf
    w = world_after script h

    f : FabricOf
    f = w.fabric

    l : LinkOf
    l = record { place = x.a; port = x.a_port; far_place = x.b; far_port = x.b_port }

    is : IsLinkOf script l
    is = link_here script k.kept x i

    up_there : (b : Bool) → is_up f x.a x.a_port ≡ b → is_up f x.b x.b_port ≡ b
    up_there b up =
        let one = (Rattle.net_world.proofs.FabricLemmas.world_fits script k.kept h).wires_sound.agree (place l.place l.port) (Rattle.net_settling.proofs.Linked.side_link script k.kept h l is) in
        ap (λ at. (side_at f.wires at).is_up) (sym (Rattle.net_settling.proofs.Linked.out_is script k.kept h l is)) ∙ one.up ∙ up

    here : (b : Bool) → is_up f x.a x.a_port ≡ b → port_shown f x.a x.a_port ≡ cond b (known_view (end_here w l) (end_there w l)) dead_view
    here b up = shown_behind script h x.a x.a_port (Some (far.Switch x.b x.b_port)) k is.here.node_below is.here.own_port_least is.here.own_port_most is.far b up

    there : (b : Bool) → is_up f x.a x.a_port ≡ b → port_shown f x.b x.b_port ≡ cond b (known_view (end_there w l) (end_here w l)) dead_view
    there b up = shown_behind script h x.b x.b_port (Some (far.Switch x.a x.a_port)) k is.there.node_below is.there.own_port_least is.there.own_port_most is.back b (up_there b up)

    uid_a : (end_here w l).life.uid ≡ uid_of script.wires.switches x.a
    uid_a = uid_here script k.kept h x.a is.here.node_below

    uid_b : (end_there w l).life.uid ≡ uid_of script.wires.switches x.b
    uid_b = uid_here script k.kept h x.b is.there.node_below

    rest : PortViewOf → PortViewOf → Bool
    rest one other = cond (x.a == x.b) (Rattle.net_state.specs.PortStates.is_loop one.state && Rattle.net_state.specs.PortStates.is_loop other.state)
        (is_good_to (Rattle.net_state.specs.Fabric.end_shown f x.b x.b_port) one && is_good_to (Rattle.net_state.specs.Fabric.end_shown f x.a x.a_port) other)

    by_same : (b : Bool) → (x.a == x.b) ≡ b → cond b (Rattle.net_state.specs.PortStates.is_loop (known_view (end_here w l) (end_there w l)).state && Rattle.net_state.specs.PortStates.is_loop (known_view (end_there w l) (end_here w l)).state)
        (is_good_to (Rattle.net_state.specs.Fabric.end_shown f x.b x.b_port) (known_view (end_here w l) (end_there w l)) && is_good_to (Rattle.net_state.specs.Fabric.end_shown f x.a x.a_port) (known_view (end_there w l) (end_here w l))) ≡ true
    by_same true same =
        let at = eqb-true x.a x.b same in
        let uid : (end_here w l).life.uid ≡ (end_there w l).life.uid = ap (λ n. (lives_of w n).uid) at in
        and_from _ _ (known_loop (end_here w l) (end_there w l) (eq-eqb _ _ (sym uid))) (known_loop (end_there w l) (end_here w l) (eq-eqb _ _ uid))
    by_same false other =
        let apart : (end_there w l).life.uid ≡ (end_here w l).life.uid → ⊥ = λ e. true≢false (sym (eq-eqb x.a x.b (uid_one script.wires x.a x.b k.kept.wired is.here.node_below is.there.node_below (sym uid_a ∙ sym e ∙ uid_b))) ∙ other) in
        and_from _ _
        (ap (λ z. is_good_to z (known_view (end_here w l) (end_there w l))) (end_shown_is script k.kept h x.b x.b_port is.there.node_below) ∙ known_good (end_here w l) (end_there w l) (ne_eqb _ _ apart))
        (ap (λ z. is_good_to z (known_view (end_there w l) (end_here w l))) (end_shown_is script k.kept h x.a x.a_port is.here.node_below) ∙ known_good (end_there w l) (end_here w l) (ne_eqb _ _ (λ e. apart (sym e))))

    by_up : (b : Bool) → is_up f x.a x.a_port ≡ b → link_agrees f x ≡ true
    by_up false up = dead_fine (here false up) (there false up)
      where
        dead_fine : port_shown f x.a x.a_port ≡ dead_view → port_shown f x.b x.b_port ≡ dead_view → link_agrees f x ≡ true
        dead_fine a b = (λ i. cond (not (up i)) (Rattle.net_state.specs.PortStates.is_dead (a i).state && Rattle.net_state.specs.PortStates.is_dead (b i).state) (rest (a i) (b i)))
    by_up true up = (λ i. cond (not (up i)) (Rattle.net_state.specs.PortStates.is_dead (here true up i).state && Rattle.net_state.specs.PortStates.is_dead (there true up i).state) (rest (here true up i) (there true up i))) ∙ by_same (x.a == x.b) refl

host_fine : (script : ScriptOf) (h : List Event) (n : ℕ) (x : HostOn) → IsLate script h → slice_get script.wires.hosts n ≡ Some x → host_agrees (world_after script h).fabric x ≡ true
unfolding behind_view dead_view host_view
host_fine script h n x k at = by_up (is_up f x.s x.port) refl
  where
    f : FabricOf
    f = (world_after script h).fabric

    behind : far_at script.wires x.s x.port ≡ Some (far.HostAt n)
    behind = one_far script.wires x.s x.port (far.HostAt n) k.kept.wired (x, at, refl)

    within : (x.s < places script) × (1 ≤ x.port) × (x.port ≤ 12)
    within = let k = subst (λ (o : Option Far). Rattle.std.specs.Prelude.IfSome o (Rattle.net_graph.specs.Wires.IsWithin script.wires x.s x.port)) behind (Rattle.net_graph.proofs.TableLemmas.far_within script.wires x.s x.port k.kept.wired) in (k.0, k.1, k.2)

    shown : (b : Bool) → is_up f x.s x.port ≡ b → port_shown f x.s x.port ≡ cond b host_view dead_view
    shown b up = shown_behind script h x.s x.port (Some (far.HostAt n)) k within.0 within.1 within.2 behind b up

    by_up : (b : Bool) → is_up f x.s x.port ≡ b → host_agrees f x ≡ true
    by_up true up = fine (shown true up)
      where
        fine : port_shown f x.s x.port ≡ host_view → host_agrees f x ≡ true
        fine a = (λ i. cond (up i) (Rattle.net_state.specs.PortStates.is_host (a i).state) (Rattle.net_state.specs.PortStates.is_dead (a i).state))
    by_up false up = fine (shown false up)
      where
        fine : port_shown f x.s x.port ≡ dead_view → host_agrees f x ≡ true
        fine a = (λ i. cond (up i) (Rattle.net_state.specs.PortStates.is_host (a i).state) (Rattle.net_state.specs.PortStates.is_dead (a i).state))

all_in : {A : Type 0} (test : A → Bool) (xs : List A) → ((x : A) → In x xs → test x ≡ true) → list_all test xs ≡ true
all_in test [] each = refl
all_in test (x ∷ xs) each = and_from (test x) (list_all test xs) (each x (inl refl)) (all_in test xs (λ y i. each y (inr i)))

all_at : {A : Type 0} (test : A → Bool) (xs : List A) → ((n : ℕ) (x : A) → slice_get xs n ≡ Some x → test x ≡ true) → list_all test xs ≡ true
all_at test [] each = refl
all_at test (x ∷ xs) each = and_from (test x) (list_all test xs) (each 0 x refl) (all_at test xs (λ n y at. each (suc n) y at))

network_agrees : (script : ScriptOf) (h : List Event) → IsLate script h → agrees (world_after script h).fabric ≡ true
network_agrees script h k =
    let f = (world_after script h).fabric in
    let same = world_script script h in
    and_from (list_all (link_agrees f) f.script.wires.links) (list_all (host_agrees f) f.script.wires.hosts)
    (ap (λ (s : ScriptOf). list_all (link_agrees f) s.wires.links) same ∙ all_in (link_agrees f) script.wires.links (λ x i. link_fine script h x k i))
    (ap (λ (s : ScriptOf). list_all (host_agrees f) s.wires.hosts) same ∙ all_at (host_agrees f) script.wires.hosts (λ n x at. host_fine script h n x k at))

-- And no event but a disturbance changes a port.
map_same : (xs ys : List StationOf) → length xs ≡ length ys → ((s : ℕ) → s < length xs → (slice_index_or xs s vacant).note.ports ≡ (slice_index_or ys s vacant).note.ports) → map (λ (x : StationOf). x.note.ports) xs ≡ map (λ (x : StationOf). x.note.ports) ys
map_same [] [] size each = refl
map_same [] (y ∷ ys) size each = absurd (omega (arith, size))
map_same (x ∷ xs) [] size each = absurd (omega (arith, size))
map_same (x ∷ xs) (y ∷ ys) size each = (λ i. each 0 (omega arith) i ∷ map_same xs ys (omega (arith, size)) (λ s low. each (suc s) (omega (arith, low))) i)

ports_stay : (script : ScriptOf) (h : List Event) (e : Event) → IsLate script h → IsLate script (h ++ e ∷ []) → is_lawful (world_after script h).fabric e ≡ true → disturbs is_either (world_after script h) e ≡ false → ports_shown (world_after script (h ++ e ∷ [])).fabric ≡ ports_shown (world_after script h).fabric
ports_stay script h e k after lawful quiet =
    let w = world_after script h in
    let v = world_after script (h ++ e ∷ []) in
    let size : length v.fabric.stations ≡ places script = world_size script (h ++ e ∷ []) in
    let size_before : length w.fabric.stations ≡ places script = world_size script h in
    map_same v.fabric.stations w.fabric.stations (size ∙ sym size_before) (λ s low. note_same s (omega (arith, size, low)))
  where
    w : WorldOf
    w = world_after script h

    v : WorldOf
    v = world_after script (h ++ e ∷ [])

    next : v ≡ effect e w
    next = world_after-event script h e ∙ step-lawful w e lawful

    works_on : is_some_spent (effect e w).fabric ≡ false
    works_on = sym (ap (λ (x : WorldOf). is_some_spent x.fabric) next) ∙ after.works

    calm : IsCalm script h e
    calm = record { lawful = lawful; quiet = quiet; works = k.works; works_on = works_on; later = later_of script h k }

    lives : (s : ℕ) → lives_of v s ≡ lives_of w s
    lives s = ap (λ (x : WorldOf). lives_of x s) next ∙ calm_lives script h e calm s

    up : (s p : ℕ) → is_up v.fabric s p ≡ is_up w.fabric s p
    up s p = ap (λ (x : WorldOf). is_up x.fabric s p) next ∙ (calm_links script h e calm).up (place s p)

    view_same : (s p : ℕ) → s < places script → 1 ≤ p → p ≤ 12 → view_of (port_of (v.switches s) p) ≡ view_of (port_of (w.switches s) p)
    view_same s p low least most =
        port_shows script (h ++ e ∷ []) s p after low least most
        ∙ (λ i. final_view script (λ t. lives t i) (up s p i) s p)
        ∙ sym (port_shows script h s p k low least most)

    note_same : (s : ℕ) → s < places script → (station v.fabric s).note.ports ≡ (station w.fabric s).note.ports
    note_same s low =
        ap (λ (n : NoteOf). n.ports) ((world_is_sound script k.kept (h ++ e ∷ [])).places s low).note
        ∙ views_same (w.switches s) (v.switches s) (λ p least most. view_same s p low least most)
        ∙ sym (ap (λ (n : NoteOf). n.ports) ((world_is_sound script k.kept h).places s low).note)

pub ports_final : (script : ScriptOf) → IsScript script → script.pace ≡ None → ArePortsFinal script
ports_final script kept unpaced h lawful late =
    let k = late_is script kept unpaced h late in
    record {
      agree = network_agrees script h k;
      works = k.works;
      stay = λ e next quiet. ports_stay script h e k (late_is script kept unpaced (h ++ e ∷ []) (after e next quiet)) next quiet;
    }
  where
    after : (e : Event) → is_lawful (world_after script h).fabric e ≡ true → disturbs is_either (world_after script h) e ≡ false → last script (h ++ e ∷ []) + 259 ≤ (world_after script (h ++ e ∷ [])).fabric.tick
    after e next quiet =
        let same = undisturbed_now script h e quiet in
        let t = Rattle.net_settling.proofs.Since.step_tick (world_after script h) e in
        let u = ap (λ (x : WorldOf). x.fabric.tick) (world_after-event script h e) in
        omega (arith, same, t, u, late)
