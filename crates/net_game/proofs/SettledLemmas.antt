-- The component of a settled world has finished as itself.

use Rattle.std.specs.Prelude.{◌≡◌, ◌⊎◌, ◌<◌, ◌≤◌, ◌-◌, ◌&&◌, not, ℕ, length, List, Some, slice_index_or, true, false, refl, Contains, Any, IsTrue}
use Rattle.std.specs.List.{list_all}
use Rattle.std.specs.Ordering.{is_le}
use Rattle.std.proofs.Common.{true≢false, sym, ◌∙◌, ap, subst, inl, inr, arith}
use Rattle.std.proofs.lemmas.Bool.{and_parts, not-true, true_from_ne_false}
use Rattle.an_base.specs.Values.{LifeId, EndId, EntryOf, TopoOf}
use Rattle.an_base.specs.Order.{life_cmp}
use Rattle.an_base.specs.Ports.{NoteOf}
use Rattle.an_base.specs.declared.event.Event.{Event}
use Rattle.net_graph.specs.declared.wiring.LinkAt.{LinkAt}
use Rattle.net_graph.specs.Wires.{IsWired, IsLink, a_end, b_end}
use Rattle.net_script.specs.Scripts.{ScriptOf, IsScript}
use Rattle.topo_graph.specs.Topology.{entry_at}
use Rattle.epoch_core.specs.Epoch.{own_entry}
use Rattle.epoch_game.specs.Slice.{Slice}
use Rattle.epoch_game.specs.Detection.{IsMemberEntry, start as here}
use Rattle.epoch_game.specs.Game.{slice}
use Rattle.switch_core.specs.Switch.{SwitchOf, finish_of, good_links, good_peer, end_at, is_unacked, port_of, view_of}
use Rattle.switch_game.specs.Network.{Network}
use Rattle.switch_game.specs.Quiet.{Connected, start, next, IsGoodEnd, IsQuiet, HasSettled}
use Rattle.switch_game.proofs.Laws.{joined_by_lives, own_of, links_of}
use Rattle.switch_game.proofs.QuietLives.{has_settled}
use Rattle.net_state.specs.Fabric.{FabricOf, station, count, no_view, port_shown, end_shown, is_some_clock_due, is_some_load_due, is_some_unacked, is_some_packet, are_wires_empty, are_all_done}
use Rattle.net_state.specs.Agree.{is_quiet, is_idle, agrees as are_agreed, link_agrees, host_agrees}
use Rattle.net_world.specs.World.{table_for, world_after}
use Rattle.net_world.specs.Clauses.{AreLinked, IsWith, itself, next as With-next, HasMember, IsFinishedAsItself, IfSettled, IsTopology, AreTopologies}
use Rattle.net_world.specs.Lines.{root_of}
use Rattle.net_game.specs.Embedding.{IsEmbedded}
use Rattle.net_game.specs.Lives.{powered}
use Rattle.net_game.specs.Moves.{game_after}
use Rattle.net_game.proofs.Firm.{places, AreFirm, IsFirm}
use Rattle.net_game.proofs.TableFacts.{has_table}
use Rattle.net_game.proofs.PortClaims.{HasLinkAt, HasPorts}
use Rattle.net_game.proofs.PortFacts.{has_ports}
use Rattle.net_game.proofs.EmbedLemmas.{embedded}
use Rattle.net_game.proofs.ClauseLemmas.{any_from, finished_now, first_in, topologies, topology_table}
use Rattle.net_state.proofs.EmptyLemmas.{none_external}
use Rattle.net_game.proofs.AgreeFacts.{IsSettledNow, settled_now, none_any, none_found, shown_is, view_good, view_not_dead, IsShownGood, ends_agree, all_contained}
use Rattle.net_world.proofs.InductionLemmas.{world_script}

-- the world of a settled history
record Settled (script : ScriptOf) (lives : List LifeId) (h : List Event) : Type 0 where
  few : length lives ≤ 126
  wired : IsWired script.wires
  firm : IsFirm script lives (world_after script h)
  tables : (s : ℕ) (topo : TopoOf) → s < places script → finish_of ((world_after script h).switches s) ≡ Some topo → ((world_after script h).switches s).load_due ≡ false
      → (station (world_after script h).fabric s).table ≡ Some (table_for topo ((world_after script h).switches s))
  ports : HasPorts script (world_after script h)
  now : IsSettledNow (world_after script h).fabric
  embed : IsEmbedded script lives h
  topologies_are : AreTopologies script h

abbrev at : ScriptOf → List Event → ℕ → SwitchOf
at script h s = (world_after script h).switches s

-- what is known of the fabric
record Known (f : FabricOf) : Type 0 where
  links : list_all (link_agrees f) f.script.wires.links ≡ true
  unacked : is_some_unacked f ≡ false
  loads : is_some_load_due f ≡ false
  clocks : is_some_clock_due f ≡ false

known : (f : FabricOf) → IsSettledNow f → Known f
known f now =
    let a = and_parts (are_all_done f && is_quiet f) (are_agreed f) now.settled in
    let b = and_parts (are_all_done f) (is_quiet f) a.0 in
    let c = and_parts (is_idle f) (not (is_some_unacked f)) b.1 in
    let d = and_parts (not (is_some_packet f) && not (is_some_clock_due f) && not (is_some_load_due f)) (are_wires_empty f) c.0 in
    let e = and_parts (not (is_some_packet f) && not (is_some_clock_due f)) (not (is_some_load_due f)) d.0 in
    let i = and_parts (not (is_some_packet f)) (not (is_some_clock_due f)) e.0 in
    record {
      links = (and_parts (list_all (link_agrees f) f.script.wires.links) (list_all (host_agrees f) f.script.wires.hosts) a.1).0;
      unacked = not-true (is_some_unacked f) c.1;
      loads = not-true (is_some_load_due f) e.1;
      clocks = not-true (is_some_clock_due f) i.1;
    }

-- what is known of each switch
works : (script : ScriptOf) (lives : List LifeId) (h : List Event) → Settled script lives h → (s : ℕ) → s < places script → (at script h s).spent ≡ false
works script lives h k s low = sym (k.firm.spent s low) ∙ none_found (λ x. x.note.life) (world_after script h).fabric.stations s k.now.none

unacked : (script : ScriptOf) (lives : List LifeId) (h : List Event) → Settled script lives h → (s p : ℕ) → s < places script → 1 ≤ p → p ≤ 12 → is_unacked ((at script h s).sendings p) ≡ false
unacked script lives h k s p low least most =
    let f = (world_after script h).fabric in
    let none : (station f s).note.unacked ≡ false = none_any (λ x. x.note.unacked) f.stations s refl (known f k.now).unacked in
    none_external (λ port. is_unacked ((at script h s).sendings port)) (sym (ap (λ (n : NoteOf). n.unacked) (k.firm.note s low)) ∙ none) p least most

loaded : (script : ScriptOf) (lives : List LifeId) (h : List Event) → Settled script lives h → (s : ℕ) → s < places script → (at script h s).load_due ≡ false
loaded script lives h k s low =
    let f = (world_after script h).fabric in
    sym (ap (λ (n : NoteOf). n.load_due) (k.firm.note s low)) ∙ none_any (λ x. x.note.load_due) f.stations s refl (known f k.now).loads

joined : (script : ScriptOf) (lives : List LifeId) (h : List Event) → Settled script lives h → (s : ℕ) → s < places script → (at script h s).joined ≡ true
joined script lives h k s low =
    let f = (world_after script h).fabric in
    true_from_ne_false (at script h s).joined (λ no. true≢false (sym (k.ports.clock s low no (works script lives h k s low) k.now.hands) ∙ (known f k.now).clocks))

abbrev IsExternal : ℕ → Type 0
IsExternal p = (1 ≤ p) × (p ≤ 12)

-- the other end of a good port
record FarEnd (script : ScriptOf) (h : List Event) (s p : ℕ) (far : EndId) : Type 0 where
  place : ℕ
  port : ℕ
  s_within : s < places script
  within : place < places script
  least : 1 ≤ p
  most : p ≤ 12
  port_least : 1 ≤ port
  port_most : port ≤ 12
  far_is : far ≡ end_at (at script h place) port
  back : good_peer (at script h place) port ≡ Some (end_at (at script h s) p)

view_is : (script : ScriptOf) (lives : List LifeId) (h : List Event) → Settled script lives h → (s p : ℕ) → s < places script → 1 ≤ p → p ≤ 12 → port_shown (world_after script h).fabric s p ≡ view_of (port_of (at script h s) p)
view_is script lives h k s p low least most = ap (λ (n : NoteOf). slice_index_or n.ports (p - 1) no_view) (k.firm.note s low) ∙ shown_is (at script h s) p least most

end_is : (script : ScriptOf) (lives : List LifeId) (h : List Event) → Settled script lives h → (s p : ℕ) → s < places script → end_shown (world_after script h).fabric s p ≡ end_at (at script h s) p
end_is script lives h k s p low = ap (λ (n : NoteOf). record { life = n.life; port = p }) (k.firm.note s low)

-- a link of the script at which an end is good
link_of : (script : ScriptOf) (lives : List LifeId) (h : List Event) → Settled script lives h → (l : LinkAt) → Contains script.wires.links l → IsLink (places script) l
link_of script lives h k l has = subst (IsLink (places script)) has.2 (k.wired.links has.0 l has.1)

agreed : (script : ScriptOf) (lives : List LifeId) (h : List Event) → Settled script lives h → (l : LinkAt) → Contains script.wires.links l → link_agrees (world_after script h).fabric l ≡ true
agreed script lives h k l has =
    let f = (world_after script h).fabric in
    all_contained (link_agrees f) script.wires.links l (ap (λ (x : ScriptOf). list_all (link_agrees f) x.wires.links) (sym (world_script script h)) ∙ (known f k.now).links) has

one_peer : (u : SwitchOf) (p : ℕ) (a b : EndId) → good_peer u p ≡ Some a → good_peer u p ≡ Some b → a ≡ b
one_peer u p a b x y = Rattle.epoch_game.proofs.Basics.some_same a b (sym x ∙ y)

-- both ends of a link are good, each the peer of the other, where one shows itself to be neither dead nor a loop
both_good : (script : ScriptOf) (lives : List LifeId) (h : List Event) → Settled script lives h → (l : LinkAt) → Contains script.wires.links l → IsShownGood (world_after script h).fabric l
    → (good_peer (at script h l.a) l.a_port ≡ Some (end_shown (world_after script h).fabric l.b l.b_port)) × (good_peer (at script h l.b) l.b_port ≡ Some (end_shown (world_after script h).fabric l.a l.a_port))
both_good script lives h k l has one =
    let f = (world_after script h).fabric in
    let is = link_of script lives h k l has in
    let e = ends_agree f l (agreed script lives h k l has) one in (
      view_good (at script h l.a) l.a_port (end_shown f l.b l.b_port) (port_shown f l.a l.a_port) (view_is script lives h k l.a l.a_port is.a_below is.a_port_least is.a_port_most) e.0,
      view_good (at script h l.b) l.b_port (end_shown f l.a l.a_port) (port_shown f l.b l.b_port) (view_is script lives h k l.b l.b_port is.b_below is.b_port_least is.b_port_most) e.1,
    )

-- the port at the other end of a link
from_end : (script : ScriptOf) (lives : List LifeId) (h : List Event) → Settled script lives h → (s p t q : ℕ) (far : EndId) → s < places script → t < places script → IsExternal p → IsExternal q
    → good_peer (at script h s) p ≡ Some far → good_peer (at script h s) p ≡ Some (end_shown (world_after script h).fabric t q) → good_peer (at script h t) q ≡ Some (end_shown (world_after script h).fabric s p) → FarEnd script h s p far
from_end script lives h k s p t q far s_in t_in own other good good_there good_back =
    let far_is = one_peer (at script h s) p far (end_shown (world_after script h).fabric t q) good good_there ∙ end_is script lives h k t q t_in in
    let back = good_back ∙ ap (λ (x : EndId). Some x) (end_is script lives h k s p s_in) in
    record { place = t; port = q; s_within = s_in; within = t_in; least = own.0; most = own.1; port_least = other.0; port_most = other.1; far_is = far_is; back = back }

from_a : (script : ScriptOf) (lives : List LifeId) (h : List Event) → Settled script lives h → (l : LinkAt) (far : EndId) → Contains script.wires.links l → good_peer (at script h l.a) l.a_port ≡ Some far → FarEnd script h l.a l.a_port far
from_a script lives h k l far has good =
    let is = link_of script lives h k l has in
    let view = view_is script lives h k l.a l.a_port is.a_below is.a_port_least is.a_port_most in
    let both = both_good script lives h k l has (inl (view_not_dead (at script h l.a) l.a_port far _ view good)) in
    from_end script lives h k l.a l.a_port l.b l.b_port far is.a_below is.b_below (is.a_port_least, is.a_port_most) (is.b_port_least, is.b_port_most) good both.0 both.1

from_b : (script : ScriptOf) (lives : List LifeId) (h : List Event) → Settled script lives h → (l : LinkAt) (far : EndId) → Contains script.wires.links l → good_peer (at script h l.b) l.b_port ≡ Some far → FarEnd script h l.b l.b_port far
from_b script lives h k l far has good =
    let is = link_of script lives h k l has in
    let both = both_good script lives h k l has (inr (view_not_dead (at script h l.b) l.b_port far _ (view_is script lives h k l.b l.b_port is.b_below is.b_port_least is.b_port_most) good)) in
    from_end script lives h k l.b l.b_port l.a l.a_port far is.b_below is.a_below (is.b_port_least, is.b_port_most) (is.a_port_least, is.a_port_most) good both.1 both.0

far_end : (script : ScriptOf) (lives : List LifeId) (h : List Event) → Settled script lives h → (s p : ℕ) (far : EndId) → s < places script → good_peer (at script h s) p ≡ Some far → FarEnd script h s p far
far_end script lives h k s p far low good = by found.at
  where
    found : HasLinkAt script s p
    found = k.ports.link s p far low good

    by : (a_end found.link ≡ (s, p)) ⊎ (b_end found.link ≡ (s, p)) → FarEnd script h s p far
    by (inl e) =
        let a : found.link.a ≡ s = ap (λ (x : ℕ × ℕ). x.0) e in
        let b : found.link.a_port ≡ p = ap (λ (x : ℕ × ℕ). x.1) e in
        subst (λ (x : ℕ × ℕ). FarEnd script h x.0 x.1 far) e (from_a script lives h k found.link far found.within (subst (λ (x : ℕ × ℕ). good_peer (at script h x.0) x.1 ≡ Some far) (sym e) good))
    by (inr e) =
        subst (λ (x : ℕ × ℕ). FarEnd script h x.0 x.1 far) e (from_b script lives h k found.link far found.within (subst (λ (x : ℕ × ℕ). good_peer (at script h x.0) x.1 ≡ Some far) (sym e) good))

-- a life of the network that is reached is the present one of a place of the component
record AtPlace (script : ScriptOf) (h : List Event) (s : ℕ) (y : LifeId) : Type 0 where
  place : ℕ
  low : place < places script
  with_it : IsWith (world_after script h) s place
  life : (at script h place).life ≡ y

within_count : (script : ScriptOf) (h : List Event) (s : ℕ) → s < places script → s < count (world_after script h).fabric
within_count script h s low = let same = ap places (world_script script h) in omega (arith, low, same)

linked : (script : ScriptOf) (h : List Event) (s p : ℕ) (far : EndId) → good_peer (at script h s) p ≡ Some far → (e : FarEnd script h s p far) → AreLinked (world_after script h) s e.place
linked script h s p far good e = record {
  one_within = within_count script h s e.s_within;
  other_within = within_count script h e.place e.within;
  one_port = p;
  other_port = e.port;
  there = good ∙ ap (λ (x : EndId). Some x) e.far_is;
  back = e.back;
}

at_life : (script : ScriptOf) (lives : List LifeId) (h : List Event) (k : Settled script lives h) (t : ℕ) (y : LifeId) → t < places script → (at script h t).life ≡ y → k.embed.network.switches y ≡ at script h t
at_life script lives h k t y low is = ap k.embed.network.switches (sym is) ∙ k.embed.is_in.switches t low

reach : (script : ScriptOf) (lives : List LifeId) (h : List Event) (k : Settled script lives h) (s : ℕ) → s < places script → (y : LifeId) → Connected k.embed.network (at script h s).life y → AtPlace script h s y
reach script lives h k s low _ start = record { place = s; low = low; with_it = itself; life = refl }
reach script lives h k s low _ (next y z p q connected least most good) =
    let a = reach script lives h k s low y connected in
    let good' : good_peer (at script h a.place) p ≡ Some (record { life = z; port = q }) = sym (ap (λ (u : SwitchOf). good_peer u p) (at_life script lives h k a.place y a.low a.life)) ∙ good in
    let e = far_end script lives h k a.place p (record { life = z; port = q }) a.low good' in
    record {
      place = e.place;
      low = e.within;
      with_it = With-next a.place e.place a.with_it (linked script h a.place p (record { life = z; port = q }) good' e);
      life = sym (ap (λ (x : EndId). x.life) e.far_is);
    }

-- and back
record Joined (script : ScriptOf) (lives : List LifeId) (h : List Event) (k : Settled script lives h) (s t : ℕ) : Type 0 where
  low : t < places script
  connected : Connected k.embed.network (at script h s).life (at script h t).life

comes : (script : ScriptOf) (lives : List LifeId) (h : List Event) (k : Settled script lives h) (s : ℕ) → s < places script → (t : ℕ) → IsWith (world_after script h) s t → Joined script lives h k s t
comes script lives h k s low _ itself = record { low = low; connected = start }
comes script lives h k s low _ (With-next t u with_it l) =
    let a = comes script lives h k s low t with_it in
    let e = far_end script lives h k t l.one_port (end_at (at script h u) l.other_port) a.low l.there in
    let same = ap places (world_script script h) in
    let t_low = l.other_within in
    record {
      low = omega (arith, same, t_low);
      connected = next (at script h t).life (at script h u).life l.one_port l.other_port a.connected e.least e.most
          (ap (λ (x : SwitchOf). good_peer x l.one_port) (at_life script lives h k t (at script h t).life a.low refl) ∙ l.there);
    }

-- so the component is quiet in the network
quiet : (script : ScriptOf) (lives : List LifeId) (h : List Event) (k : Settled script lives h) (s : ℕ) → s < places script → IsQuiet k.embed.network (at script h s).life
quiet script lives h k s low y connected =
    let a = reach script lives h k s low y connected in
    let is = at_life script lives h k a.place y a.low a.life in
    record {
      joined = ap (λ (u : SwitchOf). u.joined) is ∙ joined script lives h k a.place a.low;
      working = ap (λ (u : SwitchOf). u.spent) is ∙ works script lives h k a.place a.low;
      linked = λ p far least most good. by a is p far (sym (ap (λ (u : SwitchOf). good_peer u p) is) ∙ good);
      acknowledged = λ p least most. ap (λ (u : SwitchOf). is_unacked (u.sendings p)) is ∙ unacked script lives h k a.place p a.low least most;
    }
  where
    by : (a : AtPlace script h s y) → k.embed.network.switches y ≡ at script h a.place → (p : ℕ) (far : EndId) → good_peer (at script h a.place) p ≡ Some far → IsGoodEnd k.embed.network far (record { life = y; port = p })
    by a is p far good =
        let e = far_end script lives h k a.place p far a.low good in
        subst (λ (x : EndId). IsGoodEnd k.embed.network x (record { life = y; port = p })) (sym e.far_is)
        (record {
          least = e.port_least;
          most = e.port_most;
          good = ap (λ (u : SwitchOf). good_peer u e.port) (at_life script lives h k e.place (at script h e.place).life e.within refl) ∙ e.back ∙ ap (λ (l : LifeId). Some (record { life = l; port = p })) a.life;
        })

is_finished : (script : ScriptOf) (lives : List LifeId) (h : List Event) (k : Settled script lives h) (s : ℕ) → s < places script → IsFinishedAsItself (world_after script h) s
is_finished script lives h k s low = record {
  root = root.place;
  is_root = record { within = root.with_it; least = least };
  topo = topo;
  epoch = λ t with_it. let e = (comes script lives h k s low t with_it) in sym (ap (λ (u : SwitchOf). u.epoch) (at_life script lives h k t (at script h t).life e.low refl)) ∙ d.epoch (at script h t).life e.connected ∙ ap (λ (u : SwitchOf). u.epoch) here_is;
  finished = same;
  under = under ∙ sym root.life;
  each = each;
  whole = whole;
  topology = topology;
  loaded = record {
    used = table_for topo (at script h s);
    in_use = k.tables s topo low (same s itself) (loaded script lives h k s low);
    epoch = refl;
    table = topology_table x topo (at script h s).any topology;
  };
}
  where
    v : Network
    v = k.embed.network

    x : LifeId
    x = (at script h s).life

    here_is : v.switches x ≡ at script h s
    here_is = at_life script lives h k s x low refl

    d : HasSettled lives v (game_after script h) x
    d = has_settled lives lives (powered script) v (game_after script h) x k.few k.embed.is_in.happens (joined_by_lives lives (powered script) v (game_after script h) (v.switches x).epoch k.embed.is_in.happens) (quiet script lives h k s low)

    sl : Slice
    sl = slice (v.switches x).epoch (game_after script h)

    topo : TopoOf
    topo = d.ended.topology

    root : AtPlace script h s d.ended.root
    root = reach script lives h k s low d.ended.root ((d.reached d.ended.root).0 ((d.ended.members d.ended.root).1 here))

    same : (t : ℕ) → IsWith (world_after script h) s t → finish_of (at script h t) ≡ Some topo
    same t with_it =
        let e = comes script lives h k s low t with_it in
        sym (ap finish_of (at_life script lives h k t (at script h t).life e.low refl)) ∙ d.finished (at script h t).life e.connected

    least : (t : ℕ) → IsWith (world_after script h) s t → IsTrue (is_le (life_cmp (at script h root.place).life (at script h t).life))
    least t with_it =
        let e = comes script lives h k s low t with_it in
        let r = d.ended.detected.least (at script h t).life ((d.ended.members (at script h t).life).0 ((d.reached (at script h t).life).1 e.connected)) in
        subst (λ (l : LifeId). IsTrue (is_le (life_cmp l (at script h t).life))) (sym root.life) r

    each : (e : EntryOf) → Contains topo.entries e → HasMember (world_after script h) s e
    each e has =
        let m = (d.entries e).0 has in
        let a = reach script lives h k s low m.life m.connected in
        record {
          place = a.place;
          within = a.with_it;
          life = ap (λ (i : EntryOf). i.life) m.is ∙ (own_of lives (powered script) v (game_after script h) m.life k.embed.is_in.happens).me ∙ sym a.life;
          links = m.links ∙ ap good_links (at_life script lives h k a.place m.life a.low a.life);
        }

    entry_of : (y : LifeId) → Connected v x y → Contains topo.entries (own_entry (v.switches y).card (v.switches y).log)
    entry_of y connected =
        let q = quiet script lives h k s low y connected in
        (d.entries (own_entry (v.switches y).card (v.switches y).log)).1
        (record { life = y; connected = connected; is = refl; links = links_of lives (powered script) v (game_after script h) y k.embed.is_in.happens q.joined q.working })

    whole : (t : ℕ) → IsWith (world_after script h) s t → Any (λ e. e.life ≡ (at script h t).life) topo.entries
    whole t with_it =
        let y = (at script h t).life in
        any_from (λ e. e.life ≡ y) topo.entries (own_entry (v.switches y).card (v.switches y).log) (own_of lives (powered script) v (game_after script h) y k.embed.is_in.happens).me
        (entry_of y (comes script lives h k s low t with_it).connected)

    member : IsMemberEntry sl x (entry_at topo.entries 0)
    member = (d.ended.entries (entry_at topo.entries 0)).0 (first_in topo.entries _ (let some = (entry_of x start).1 in omega (arith, some)))

    under : root_of topo ≡ d.ended.root
    under = ap (λ (e : EntryOf). e.position.root) member.is ∙ (d.ended.detected.settled member.life member.node ((d.ended.members member.life).0 member.reached) member.joined).place.root

    topology : IsTopology x topo
    topology = k.topologies_are x (at script h s).epoch topo (finished_now script h topo s low (same s itself))

pub if_settled : (script : ScriptOf) (lives : List LifeId) → length lives ≤ 126 → IsScript script → AreFirm script lives → (h : List Event) → IfSettled script h
if_settled script lives few kept firm h ends s low =
    let same = ap places (world_script script h) in
    is_finished script lives h
    (record { few = few; wired = kept.wired; firm = firm h; tables = has_table script lives firm h; ports = has_ports script kept h; now = settled_now (world_after script h).fabric ends; embed = embedded script lives kept firm h; topologies_are = topologies script lives few kept firm h })
    s (omega (arith, low, same))
