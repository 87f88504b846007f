-- Where what is sent on each link is a run since its two lives began, bodies are through three ticks after the ports
-- are final.

use Rattle.std.specs.Prelude.{◌≡◌, ◌⊎◌, ◌+◌, ◌==◌, ◌<◌, ◌≤◌, ◌||◌, ℕ, suc, List, [], ◌∷◌, length, slice_index_or, cond, Option, Some, None, is_some, Bool, true, false, refl}
use Rattle.std.specs.List.{list_any}
use Rattle.std.proofs.Common.{true≢false, sym, ◌∙◌, ap, subst, inl, inr, arith}
use Rattle.std.proofs.lemmas.Bool.{false≢true, cases_lt}
use Rattle.an_base.specs.Values.{EndId}
use Rattle.an_base.specs.Ports.{NoteOf}
use Rattle.an_base.specs.declared.event.Event.{Event}
use Rattle.an_base.specs.declared.port.PortState.TheVariants as state
use Rattle.connectivity.specs.Connections.{is_end}
use Rattle.epoch_game.proofs.Basics.{none_some, some_same}
use Rattle.net_graph.specs.declared.wiring.Far.{Far}
use Rattle.net_graph.specs.declared.wiring.Far.TheVariants as far
use Rattle.net_graph.specs.Wires.{far_at}
use Rattle.net_script.specs.Scripts.{ScriptOf, IsScript}
use Rattle.ordered_link.specs.Sending.{Sending, highest}
use Rattle.port_monitor.specs.Histories.{externals}
use Rattle.link_settling.proofs.Basics.{same_end}
use Rattle.link_settling.specs.Directions.{IsStill}
use Rattle.link_settling.specs.Moves.{IsFilled}
use Rattle.link_settling.proofs.Keeps.{none_unacked}
use Rattle.topo_report.proofs.Members.{In}
use Rattle.switch_core.specs.Switch.{SwitchOf, good_peer, is_unacked, port_of}
use Rattle.switch_core.specs.Steps.{peer_among}
use Rattle.switch_game.proofs.Laws.{own_of, peers_of, something}
use Rattle.switch_game.proofs.Own.{IsOwn}
use Rattle.net_state.specs.Fabric.{FabricOf, StationOf, station, vacant, is_some_spent, is_up}
use Rattle.net_world.specs.World.{world_after}
use Rattle.net_world.proofs.LawLemmas.{world_is_sound}
use Rattle.net_world.proofs.PlaceLemmas.{world_size}
use Rattle.net_game.specs.Lives.{all_lives, powered}
use Rattle.net_game.specs.Moves.{game_after}
use Rattle.net_game.proofs.EachLemmas.{Each, each_in}
use Rattle.net_game.proofs.Firm.{places}
use Rattle.net_game.proofs.LivesLemmas.{firm}
use Rattle.net_game.proofs.EmbedLemmas.{embedded}
use Rattle.net_settling.specs.Settling.{AreBodiesThrough}
use Rattle.net_settling.specs.Views.{LinkOf, turned, end_here, end_there, way, IsRun}
use Rattle.net_settling.proofs.Calm.{last, unspent_here}
use Rattle.net_settling.proofs.Cuts.{run_acknowledged}
use Rattle.net_settling.proofs.CutLinks.{all_clocked, none_under}
use Rattle.net_settling.proofs.Finals.{IsLate, behind_view, dead_view, final_view, good_of, good_shown, host_view, known_view, late_is, later_of, port_shows}
use Rattle.net_settling.proofs.Linked.{IsLinkOf, link_of, link_turned, up_turned}
use Rattle.net_settling.proofs.Senders.{IsAtTick, at_still, lives_of}
use Rattle.net_settling.proofs.Sessions.{all_filled, all_unused}
use Rattle.net_settling.proofs.Works.{all_joined}

-- each link is a run from its base on
abbrev pub AreRuns : ScriptOf → Type 0
AreRuns script = (h : List Event) → is_some_spent (world_after script h).fabric ≡ false → (l : LinkOf) → IsLinkOf script l → (l.place ≡ l.far_place → ⊥) → IsRun (last script h + 259) (world_after script h) l

-- What is known of a switch so late
present_own : (script : ScriptOf) (h : List Event) (s : ℕ) → IsScript script → s < places script → IsOwn ((world_after script h).switches s).life ((world_after script h).switches s)
present_own script h s kept low =
    let w = embedded script (all_lives script) kept (firm script kept) h in
    let u = (world_after script h).switches s in
    subst (IsOwn u.life) (w.is_in.switches s low) (own_of (all_lives script) (powered script) w.network (game_after script h) u.life w.is_in.happens)

-- its links are its good ports
pub links_good : (script : ScriptOf) (h : List Event) (s p : ℕ) → IsLate script h → s < places script → 1 ≤ p → p ≤ 12 → peer_among ((world_after script h).switches s).card.links p ≡ good_peer ((world_after script h).switches s) p
links_good script h s p k low least most =
    let e = embedded script (all_lives script) k.kept (firm script k.kept) h in
    let u = (world_after script h).switches s in
    let is = e.is_in.switches s low in
    let joined = all_joined script k.kept k.unpaced h k.works (later_of script h k) s low in
    let works : u.spent ≡ false = sym ((world_is_sound script k.kept h).places s low).spent ∙ unspent_here (world_after script h).fabric s k.works in
    subst (λ (x : SwitchOf). peer_among x.card.links p ≡ good_peer x p) is
    (peers_of (all_lives script) (powered script) e.network (game_after script h) u.life p e.is_in.happens (ap (λ (x : SwitchOf). x.joined) is ∙ joined) (ap (λ (x : SwitchOf). x.spent) is ∙ works) least most)

-- in each of its sessions something was sent
some_sent : (t : Sending) → IsFilled t → 1 ≤ length t.pushed → 1 ≤ highest t
some_sent t filled some = by (cases_lt (length t.sent) 8)
  where
    by : (length t.sent < 8) ⊎ (8 ≤ length t.sent) → 1 ≤ highest t
    by (inl low) = let all = filled.full (omega (arith, low)) in omega (arith, all, some)
    by (inr full) = omega (arith, full)

sent_some : (script : ScriptOf) (h : List Event) (s p : ℕ) (peer : EndId) → IsLate script h → s < places script → peer_among ((world_after script h).switches s).card.links p ≡ Some peer → 1 ≤ highest (((world_after script h).switches s).sendings p)
sent_some script h s p peer k low linked =
    let u = (world_after script h).switches s in
    let joined = all_joined script k.kept k.unpaced h k.works (later_of script h k) s low in
    let own = present_own script h s k.kept low in
    let pushed = own.pushed joined p (ap is_some linked) in
    let some = something u.card p u.log (ap is_some linked) in
    some_sent (u.sendings p) (all_filled script h s p) (subst (λ xs. 1 ≤ length xs) (sym pushed) some)

-- A good peer so late is the far end of a link that is up, of another switch.
pub record IsPeerBy (script : ScriptOf) (h : List Event) (s p : ℕ) (peer : EndId) : Type 0 where
  pub link : LinkOf
  pub is : IsLinkOf script link
  pub s_is : link.place ≡ s
  pub p_is : link.port ≡ p
  pub up : is_up (world_after script h).fabric link.place link.port ≡ true
  pub peer_is : peer ≡ end_there (world_after script h) link
  pub differ : ((end_there (world_after script h) link).life.uid == (end_here (world_after script h) link).life.uid) ≡ false

known_peer : (own other peer : EndId) → good_of (known_view own other) ≡ Some peer → (peer ≡ other) × ((other.life.uid == own.life.uid) ≡ false)
unfolding good_of known_view
known_peer own other peer = by (other.life.uid == own.life.uid)
  where
    by : (b : Bool) → good_of (record { state = cond b state.Loop state.Good; peer = Some other }) ≡ Some peer → (peer ≡ other) × (b ≡ false)
    by true is = absurd (none_some is)
    by false is = (some_same peer other (sym is), refl)

peer_shown : (script : ScriptOf) (h : List Event) (s p : ℕ) (peer : EndId) → IsLate script h → s < places script → 1 ≤ p → p ≤ 12 → good_peer ((world_after script h).switches s) p ≡ Some peer → good_of (final_view script (lives_of (world_after script h)) (is_up (world_after script h).fabric s p) s p) ≡ Some peer
peer_shown script h s p peer k low least most good =
    let port = port_of ((world_after script h).switches s) p in
    sym (ap good_of (port_shows script h s p k low least most)) ∙ sym (good_shown port.phase port.far.conn) ∙ good

peer_by : (script : ScriptOf) (h : List Event) (s p : ℕ) (peer : EndId) → IsScript script → (b : Bool) → is_up (world_after script h).fabric s p ≡ b → (o : Option Far) → far_at script.wires s p ≡ o
    → good_of (cond b (behind_view (lives_of (world_after script h)) (record { life = lives_of (world_after script h) s; port = p }) o) dead_view) ≡ Some peer → IsPeerBy script h s p peer
unfolding good_of behind_view dead_view host_view
peer_by script h s p peer kept false up o behind is = absurd (none_some is)
peer_by script h s p peer kept true up None behind is = absurd (none_some is)
peer_by script h s p peer kept true up (Some (far.HostAt n)) behind is = absurd (none_some is)
peer_by script h s p peer kept true up (Some (far.Switch t q)) behind is =
    let w = world_after script h in
    let l : LinkOf = record { place = s; port = p; far_place = t; far_port = q } in
    let known = known_peer (end_here w l) (end_there w l) peer is in
    record { link = l; is = link_of script kept s p t q behind; s_is = refl; p_is = refl; up = up; peer_is = known.0; differ = known.1 }

pub peer_link : (script : ScriptOf) (h : List Event) (s p : ℕ) (peer : EndId) → IsLate script h → s < places script → 1 ≤ p → p ≤ 12 → good_peer ((world_after script h).switches s) p ≡ Some peer → IsPeerBy script h s p peer
unfolding final_view
peer_link script h s p peer k low least most good =
    peer_by script h s p peer k.kept (is_up (world_after script h).fabric s p) refl (far_at script.wires s p) refl (peer_shown script h s p peer k low least most good)

-- and it has this end as its good peer
known_good_peer : (own other : EndId) → (other.life.uid == own.life.uid) ≡ false → good_of (known_view own other) ≡ Some other
unfolding good_of known_view
known_good_peer own other differ = ap (λ b. good_of (record { state = cond b state.Loop state.Good; peer = Some other })) differ

pub back_peer : (script : ScriptOf) (h : List Event) (l : LinkOf) → IsLate script h → IsLinkOf script l → is_up (world_after script h).fabric l.place l.port ≡ true → ((end_there (world_after script h) l).life.uid == (end_here (world_after script h) l).life.uid) ≡ false → good_peer ((world_after script h).switches l.place) l.port ≡ Some (end_there (world_after script h) l)
unfolding final_view behind_view
back_peer script h l k is up differ =
    let w = world_after script h in
    let port = port_of (w.switches l.place) l.port in
    good_shown port.phase port.far.conn
    ∙ ap good_of (port_shows script h l.place l.port k is.here.node_below is.here.own_port_least is.here.own_port_most)
    ∙ (λ i. good_of (cond (up i) (behind_view (lives_of w) (end_here w l) (is.far i)) dead_view))
    ∙ known_good_peer (end_here w l) (end_there w l) differ

pub session_is : (script : ScriptOf) (h : List Event) (l : LinkOf) → IsLate script h → IsLinkOf script l → is_up (world_after script h).fabric l.place l.port ≡ true → ((end_there (world_after script h) l).life.uid == (end_here (world_after script h) l).life.uid) ≡ false → peer_among ((world_after script h).switches l.place).card.links l.port ≡ Some (end_there (world_after script h) l)
session_is script h l k is up differ = links_good script h l.place l.port k is.here.node_below is.here.own_port_least is.here.own_port_most ∙ back_peer script h l k is up differ

-- the way at the end of a tick
still_way : (script : ScriptOf) (h : List Event) (l : LinkOf) → IsScript script → IsAtTick script h → IsLinkOf script l → IsStill (way (world_after script h) l)
still_way script h l kept at is = record {
  late = ap (λ b. cond b 3 4) (all_clocked script kept h l.place at is.here.node_below);
  no_carry = λ n found. false≢true (sym (none_under _ script h l at is) ∙ found);
  no_ack = λ n found. false≢true (sym (none_under _ script h (turned l) at (link_turned script l is)) ∙ found);
}

differ_turned : (a b : ℕ) → (a == b) ≡ false → (b == a) ≡ false
differ_turned a b other = Rattle.std.proofs.Common.ne_eqb b a (λ e. true≢false (sym (Rattle.std.proofs.Common.eq-eqb a b (sym e)) ∙ other))

link_through : (script : ScriptOf) (h : List Event) (l : LinkOf) → AreRuns script → IsLate script h → IsAtTick script h → IsLinkOf script l → is_up (world_after script h).fabric l.place l.port ≡ true
    → ((end_there (world_after script h) l).life.uid == (end_here (world_after script h) l).life.uid) ≡ false → last script h + 262 ≤ (world_after script h).fabric.tick → is_unacked (((world_after script h).switches l.place).sendings l.port) ≡ false
link_through script h l runs k at is up differ late =
    let w = world_after script h in
    let back = link_turned script l is in
    let up_back = up_turned script k.kept h l is up in
    let here_peer = session_is script h l k is up differ in
    let apart : l.place ≡ l.far_place → ⊥ = λ e. true≢false (sym (Rattle.std.proofs.Common.eq-eqb _ _ (ap (λ n. (lives_of w n).uid) (sym e))) ∙ differ) in
    let there_peer = session_is script h (turned l) k back up_back (differ_turned _ _ differ) in
    let all = run_acknowledged (last script h + 259) w l (runs h k.works l is apart) (runs h k.works (turned l) back (λ e. apart (sym e)))
    (ap (λ o. is_end o (end_there w l)) here_peer ∙ same_end (end_there w l)) (ap (λ o. is_end o (end_here w l)) there_peer ∙ same_end (end_here w l))
    (sent_some script h l.place l.port (end_there w l) k is.here.node_below here_peer) (sent_some script h l.far_place l.far_port (end_here w l) k back.here.node_below there_peer)
    (still_way script h l k.kept at is) (still_way script h (turned l) k.kept at back) (omega (arith, late))
    in
    none_unacked ((w.switches l.place).sendings l.port) (all_filled script h l.place l.port) all.1

-- each port
port_through : (script : ScriptOf) (h : List Event) (s p : ℕ) → AreRuns script → IsLate script h → IsAtTick script h → s < places script → 1 ≤ p → p ≤ 12 → last script h + 262 ≤ (world_after script h).fabric.tick → is_unacked (((world_after script h).switches s).sendings p) ≡ false
port_through script h s p runs k at low least most late = by (peer_among u.card.links p) refl
  where
    u : SwitchOf
    u = (world_after script h).switches s

    by : (o : Option EndId) → peer_among u.card.links p ≡ o → is_unacked (u.sendings p) ≡ false
    by None none = ap is_unacked (all_unused script h s p none)
    by (Some peer) linked =
        let found = peer_link script h s p peer k low least most (sym (links_good script h s p k low least most) ∙ linked) in
        subst (λ (z : ℕ × ℕ). is_unacked (((world_after script h).switches z.0).sendings z.1) ≡ false) (λ i. (found.s_is i, found.p_is i))
        (link_through script h found.link runs k at found.is found.up found.differ late)

-- and so each switch
any_none : {A : Type 0} (test : A → Bool) (xs : List A) → ((x : A) → In x xs → test x ≡ false) → list_any test xs ≡ false
any_none test [] each = refl
any_none test (x ∷ xs) each = (λ i. each x (inl refl) i || list_any test xs) ∙ any_none test xs (λ y i. each y (inr i))

external_ports : Each (λ p. (1 ≤ p) × (p ≤ 12)) externals
external_ports = ((omega arith, omega arith), ((omega arith, omega arith), ((omega arith, omega arith), ((omega arith, omega arith), ((omega arith, omega arith), ((omega arith, omega arith), ((omega arith, omega arith), ((omega arith, omega arith), ((omega arith, omega arith), ((omega arith, omega arith), ((omega arith, omega arith), ((omega arith, omega arith), tt))))))))))))

is_port : (p : ℕ) → In p externals → (1 ≤ p) × (p ≤ 12)
is_port p i = each_in (λ p. (1 ≤ p) × (p ≤ 12)) externals p external_ports i

stations_through : (xs : List StationOf) → ((s : ℕ) → (slice_index_or xs s vacant).note.unacked ≡ false) → list_any (λ x. x.note.unacked) xs ≡ false
stations_through [] each = refl
stations_through (x ∷ xs) each = (λ i. each 0 i || list_any (λ y. y.note.unacked) xs) ∙ stations_through xs (λ s. each (suc s))

pub bodies_through : (script : ScriptOf) → IsScript script → script.pace ≡ None → AreRuns script → AreBodiesThrough script
bodies_through script kept unpaced runs h lawful late still = stations_through f.stations (λ s. by s (cases_lt s (places script)))
  where
    f : FabricOf
    f = (world_after script h).fabric

    k : IsLate script h
    k = late_is script kept unpaced h (omega (arith, late))

    at : IsAtTick script h
    at = at_still script kept h still

    by : (s : ℕ) → (s < places script) ⊎ (places script ≤ s) → (station f s).note.unacked ≡ false
    by s (inl low) =
        ap (λ (n : NoteOf). n.unacked) ((world_is_sound script kept h).places s low).note
        ∙ any_none (λ p. is_unacked (((world_after script h).switches s).sendings p)) externals (λ p i. let e = is_port p i in port_through script h s p runs k at low e.0 e.1 late)
    by s (inr past) = ap (λ (x : StationOf). x.note.unacked) (Rattle.std.proofs.lemmas.List.get_or_past f.stations s vacant (let size = world_size script h in omega (arith, past, size)))
