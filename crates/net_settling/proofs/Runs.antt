-- So each direction of each link between two switches is a run since its two lives began.

use Rattle.std.specs.Prelude.{◌≡◌, ◌≢◌, ◌⊎◌, ◌+◌, ◌==◌, ◌&&◌, ◌||◌, ◌<◌, ◌≤◌, ℕ, suc, nat_lt, not, List, [], ◌∷◌, ◌++◌, cond, Option, Some, None, Bool, true, false, refl}
use Rattle.std.proofs.Common.{true≢false, sym, ◌∙◌, ap, subst, inl, inr, arith, eq-eqb, ne_eqb}
use Rattle.std.proofs.lemmas.Bool.{cases_eq, eqb-true}
use Rattle.std.proofs.lemmas.List.{get_or-set_other}
use Rattle.an_base.specs.Values.{EndId, LifeId, PeerAt}
use Rattle.an_base.specs.declared.event.Event.{Event}
use Rattle.an_base.specs.declared.event.Event.TheVariants.{Tick, Clock, Take, Handle, Load, Fail, Repair, Lose, Again, Swap, Noise, Send, Move, Restart}
use Rattle.an_base.specs.declared.frame.Frame.TheVariants.{Carry, Ack}
use Rattle.connectivity.specs.Connections.{is_end}
use Rattle.connectivity.proofs.EndLemmas.{is_end_is}
use Rattle.net_graph.specs.declared.wiring.Far.{Far}
use Rattle.net_graph.specs.declared.wiring.Far.TheVariants as far
use Rattle.net_script.specs.Scripts.{ScriptOf, IsScript}
use Rattle.link_settling.proofs.Basics.{same_end}
use Rattle.ordered_link.specs.Sending.{unused}
use Rattle.ordered_link.specs.Receiving.{untouched}
use Rattle.link_settling.specs.Directions.{Run, Starts, rest}
use Rattle.link_settling.proofs.Later.{later_run}
use Rattle.epoch_game.specs.Slice.{link_at}
use Rattle.epoch_game.proofs.Basics.{none_some, some_same}
use Rattle.switch_core.specs.Switch.{SwitchOf, note_of}
use Rattle.switch_core.specs.Steps.{peer_among}
use Rattle.switch_game.proofs.Links.{same_link}
use Rattle.net_state.specs.Fabric.{StationOf, station, vacant, is_some_spent}
use Rattle.net_state.specs.Lawful.{is_lawful}
use Rattle.net_state.specs.Effects.{restarted}
use Rattle.net_world.specs.World.{WorldOf, effect, next_life, world_after}
use Rattle.net_world.specs.Histories.{switch_after}
use Rattle.net_world.proofs.WorldLemmas.{world_after-event, step-unlawful}
use Rattle.net_game.specs.Lives.{all_lives}
use Rattle.net_game.specs.Meeting.{Met}
use Rattle.net_game.specs.Moves.{game_after}
use Rattle.net_game.proofs.EachLemmas.{Each}
use Rattle.net_game.proofs.HistoryLemmas.{by_events}
use Rattle.net_game.proofs.LivesLemmas.{firm}
use Rattle.net_game.proofs.MetLemmas.{boots_rise}
use Rattle.net_game.proofs.PeerFacts.{LinkOk}
use Rattle.net_game.proofs.PlayLemmas.{history_agrees}
use Rattle.net_game.proofs.WiredLemmas.{all_met}
use Rattle.net_settling.specs.Disturbances.{is_either, is_of_script, loses, disturbs}
use Rattle.net_settling.specs.Views.{LinkOf, turned, here, there, end_here, end_there, has_clocked, is_session, is_some_under_way, is_carry, is_ack, is_received_here, way, IsRun}
use Rattle.net_settling.proofs.Bodies.{AreRuns}
use Rattle.net_settling.proofs.Calm.{last, undisturbed_now, unspent_before}
use Rattle.net_settling.proofs.FarGoes.{there_goes}
use Rattle.net_settling.proofs.Linked.{IsLinkOf, link_turned}
use Rattle.net_settling.proofs.SenderGoes.{under_wire}
use Rattle.net_settling.proofs.SenderHandles.{here_goes}
use Rattle.net_settling.proofs.SenderWays.{ack_to, after_is, carry_to}
use Rattle.net_settling.proofs.Since.{disturbance_grows}
use Rattle.net_settling.proofs.Told.{ack_joined, carry_joined, joined_none, sent_told}
use Rattle.net_settling.proofs.Under.{frame_such, such_way}
use Rattle.net_settling.proofs.WayParts.{GoesOn, IsEvent, IsLeft, aside_goes, all_left, base_after, command_goes, elsewhere_goes, left, tick_goes}

-- A link of the card of a switch is to a life that was at the far end.
peer_ok : (Q : ℕ → EndId → Type 0) (ls : List PeerAt) (p : ℕ) (peer : EndId) → Each (LinkOk Q) ls → peer_among ls p ≡ Some peer → Q p peer
peer_ok Q [] p peer each found = absurd (none_some found)
peer_ok Q (x ∷ ls) p peer each found = by (λ f. peer_ok Q ls p peer each.1 f) (x.port == p) refl found
  where
    by : (peer_among ls p ≡ Some peer → Q p peer) → (b : Bool) → (x.port == p) ≡ b → cond b (Some x.peer) (peer_among ls p) ≡ Some peer → Q p peer
    by later true same f = subst (λ (z : ℕ × EndId). Q z.0 z.1) (λ i. (eqb-true x.port p same i, some_same x.peer peer f i)) each.0
    by later false other f = later f

behind : Option Far → ℕ × ℕ
behind (Some (far.Switch t q)) = (t, q)
behind o = (0, 0)

peer_boot : (script : ScriptOf) → IsScript script → (h : List Event) (l : LinkOf) (peer : EndId) → IsLinkOf script l → peer_among (here (world_after script h) l).card.links l.port ≡ Some peer → peer.life.boot ≤ (there (world_after script h) l).life.boot
unfolding behind
peer_boot script kept h l peer is linked =
    let u = here (world_after script h) l in
    let met = peer_ok (Met script h l.place u.life) u.card.links l.port peer ((all_met script (all_lives script) kept (firm script kept) h).switches l.place is.here.node_below).card linked in
    let other : met.other ≡ l.far_place = ap (λ o. (behind o).0) (sym met.wired ∙ is.far) in
    let up = boots_rise script met.before met.later l.far_place in
    let now : (switch_after script (met.before ++ met.later) l.far_place).life.boot ≡ (there (world_after script h) l).life.boot = ap (λ g. (switch_after script g l.far_place).life.boot) (sym met.parts) in
    let then : peer.life.boot ≡ (switch_after script met.before l.far_place).life.boot = ap (λ (x : LifeId). x.boot) (sym met.there) ∙ ap (λ n. (switch_after script met.before n).life.boot) other in
    omega (arith, up, now, then)

-- The lives of an end that has joined no epoch: nothing of a session of it is under way
no_carry_from : (script : ScriptOf) → IsScript script → (h : List Event) (l : LinkOf) (n : ℕ) → IsLinkOf script l → (here (world_after script h) l).joined ≡ false → (way (world_after script h) l).carry n ≡ true → ⊥
no_carry_from script kept h l n is unjoined found =
    let w = world_after script h in
    let test = is_carry (here w l).epoch (end_here w l) (end_there w l) n in
    let x = such_way test w l found in
    let f = frame_such test x.0 x.2 in
    let c = carry_to (here w l).epoch (end_here w l) (end_there w l) n f.0 f.2 in
    let at = under_wire script h l.far_place l.far_port x.0 x.1 in
    joined_none script kept h l.place c.carry.epoch c.carry.from.life is.here.node_below (ap (λ (z : EndId). z.life) c.from_is) unjoined (carry_joined script kept h at.0 x.0 c.carry at.1 (f.1 ∙ ap Some c.frame_is))

no_ack_to : (script : ScriptOf) → IsScript script → (h : List Event) (l : LinkOf) (n : ℕ) → IsLinkOf script l → (here (world_after script h) l).joined ≡ false → (way (world_after script h) l).ack n ≡ true → ⊥
no_ack_to script kept h l n is unjoined found =
    let w = world_after script h in
    let test = is_ack (here w l).epoch (end_there w l) (end_here w l) n in
    let x = such_way test w (turned l) found in
    let f = frame_such test x.0 x.2 in
    let at = under_wire script h l.place l.port x.0 x.1 in
    joined_none script kept h l.place (here w l).epoch (here w l).life is.here.node_below refl unjoined
    (ack_joined script kept h at.0 x.0 (here w l).epoch n (end_there w l) (end_here w l) at.1 (f.1 ∙ ap Some (ack_to (here w l).epoch (end_there w l) (end_here w l) n f.0 f.2)))

-- a far end that has joined none, and of which the near one has no link
no_ack_from : (script : ScriptOf) → IsScript script → (h : List Event) (l : LinkOf) (n : ℕ) → IsLinkOf script l → (there (world_after script h) l).joined ≡ false → (way (world_after script h) l).ack n ≡ true → ⊥
no_ack_from script kept h l n is unjoined found =
    let w = world_after script h in
    let test = is_ack (here w l).epoch (end_there w l) (end_here w l) n in
    let x = such_way test w (turned l) found in
    let f = frame_such test x.0 x.2 in
    let at = under_wire script h l.place l.port x.0 x.1 in
    let told = sent_told script kept h at.0 x.0 (Ack (here w l).epoch (end_there w l) (end_here w l) n) at.1 (f.1 ∙ ap Some (ack_to (here w l).epoch (end_there w l) (end_here w l) n f.0 f.2)) in
    joined_none script kept h l.far_place (here w l).epoch (there w l).life is.there.node_below refl unjoined (told.node, told.joined)

no_carry_to : (script : ScriptOf) → IsScript script → (h : List Event) (l : LinkOf) (n : ℕ) → IsLinkOf script l → is_session (world_after script h) l ≡ false → (way (world_after script h) l).carry n ≡ true → ⊥
no_carry_to script kept h l n is none found = by u.joined refl
  where
    w : WorldOf
    w = world_after script h

    u : SwitchOf
    u = here w l

    by : (b : Bool) → u.joined ≡ b → ⊥
    by false unjoined = no_carry_from script kept h l n is unjoined found
    by true joined =
        let test = is_carry u.epoch (end_here w l) (end_there w l) n in
        let x = such_way test w l found in
        let f = frame_such test x.0 x.2 in
        let c = carry_to u.epoch (end_here w l) (end_there w l) n f.0 f.2 in
        let at = under_wire script h l.far_place l.far_port x.0 x.1 in
        let told = sent_told script kept h at.0 x.0 (Carry c.carry) at.1 (f.1 ∙ ap Some c.frame_is) in
        let node = some_same told.node _ (sym told.joined ∙ (λ i. (game_after script h).nodes (c.from_is i).life (c.epoch_is i)) ∙ (history_agrees script kept h l.place is.here.node_below).joined joined) in
        let linked : peer_among u.card.links l.port ≡ Some (end_there w l) =
        same_link u.card.links l.port ∙ (λ i. link_at (sym c.from_is i).port (sym node i).card.links) ∙ told.to ∙ ap Some c.to_is
        in
        true≢false (sym (ap (λ o. is_end o (end_there w l)) linked ∙ same_end (end_there w l)) ∙ none)

-- A life has no session with one that began later
no_session : (script : ScriptOf) → IsScript script → (h : List Event) (l : LinkOf) → IsLinkOf script l → (v : WorldOf) → here v l ≡ here (world_after script h) l → (there (world_after script h) l).life.boot < (there v l).life.boot → is_session v l ≡ false
no_session script kept h l is v same new = by (is_session v l) refl
  where
    by : (b : Bool) → is_session v l ≡ b → is_session v l ≡ false
    by false none = none
    by true session =
        let old = peer_boot script kept h l (end_there v l) is (ap (λ (u : SwitchOf). peer_among u.card.links l.port) (sym same) ∙ is_end_is (peer_among (here v l).card.links l.port) (end_there v l) session) in
        absurd (omega (arith, old, new))

-- So where a switch begins, the two directions of each of its links begin.
pub record IsNewHere (w : WorldOf) (l : LinkOf) : Type 0 where
  pub joined : (here w l).joined ≡ false
  pub links : (here w l).card.links ≡ []

new_sending : (w : WorldOf) (l : LinkOf) → is_session w l ≡ false → (way w l).sending ≡ unused
new_sending w l none = ap (λ b. cond b ((here w l).sendings l.port) unused) none

new_receiving : (w : WorldOf) (l : LinkOf) → is_session w (turned l) ≡ false → (way w l).receiving ≡ untouched
new_receiving w l none = ap (λ b. cond (b && not (nat_lt (there w l).epoch (here w l).epoch)) ((there w l).receivings l.far_port) untouched) none

here_begins : (script : ScriptOf) → IsScript script → (h : List Event) (l : LinkOf) → IsLinkOf script l → IsNewHere (world_after script h) l → is_session (world_after script h) (turned l) ≡ false → Starts (way (world_after script h) l)
here_begins script kept h l is new none =
    let w = world_after script h in
    record {
      sending = new_sending w l (ap (λ ls. is_end (peer_among ls l.port) (end_there w l)) new.links);
      receiving = new_receiving w l none;
      no_carry = λ n found. no_carry_from script kept h l n is new.joined found;
      no_ack = λ n found. no_ack_to script kept h l n is new.joined found;
    }

there_begins : (script : ScriptOf) → IsScript script → (h : List Event) (l : LinkOf) → IsLinkOf script l → IsNewHere (world_after script h) (turned l) → is_session (world_after script h) l ≡ false → Starts (way (world_after script h) l)
there_begins script kept h l is new none =
    let w = world_after script h in
    record {
      sending = new_sending w l none;
      receiving = new_receiving w l (ap (λ ls. is_end (peer_among ls l.far_port) (end_here w l)) new.links);
      no_carry = λ n found. no_carry_to script kept h l n is none found;
      no_ack = λ n found. no_ack_from script kept h l n is new.joined found;
    }

begins_anew : (base : ℕ) (w : WorldOf) (l : LinkOf) → Starts (way w l) → IsRun base w l
begins_anew base w l starts = record { first = way w l; starts = starts; run = rest (way w l) }

-- a restart
restarted_here : (s : ℕ) (w : WorldOf) → (effect (Restart s) w).switches s ≡ next_life s w
unfolding effect
restarted_here s w = ap (λ b. cond b (next_life s w) (w.switches s)) (eq-eqb s s refl)

restarted_other : (s t : ℕ) (w : WorldOf) → (t ≡ s → ⊥) → (effect (Restart s) w).switches t ≡ w.switches t
unfolding effect
restarted_other s t w other = ap (λ b. cond b (next_life s w) (w.switches t)) (ne_eqb t s other)

is_new : (l : LinkOf) (s : ℕ) (w : WorldOf) → l.place ≡ s → IsNewHere (effect (Restart s) w) l
is_new l s w same =
    let x : here (effect (Restart s) w) l ≡ next_life s w = ap (λ n. (effect (Restart s) w).switches n) same ∙ restarted_here s w in
    record { joined = ap (λ (u : SwitchOf). u.joined) x; links = ap (λ (u : SwitchOf). u.card.links) x }

later_boot : (s t : ℕ) (w : WorldOf) → t ≡ s → (w.switches t).life.boot < ((effect (Restart s) w).switches t).life.boot
later_boot s t w same =
    let x : ((effect (Restart s) w).switches t).life.boot ≡ (w.switches s).life.boot + 1 = ap (λ (u : SwitchOf). u.life.boot) (ap (λ n. (effect (Restart s) w).switches n) same ∙ restarted_here s w) in
    let y = ap (λ n. (w.switches n).life.boot) same in
    omega (arith, x, y)

restart_left : (s t : ℕ) (w : WorldOf) → (t ≡ s → ⊥) → IsLeft (w.switches t) ((effect (Restart s) w).switches t)
restart_left s t w other = subst (IsLeft (w.switches t)) (sym (restarted_other s t w other)) (left (w.switches t))

restart_tick : (s : ℕ) (w : WorldOf) → (effect (Restart s) w).fabric.tick ≡ w.fabric.tick
unfolding effect
restart_tick s w = refl

restart_clocked : (s t : ℕ) (w : WorldOf) → (t ≡ s → ⊥) → has_clocked (effect (Restart s) w).fabric t ≡ has_clocked w.fabric t
unfolding effect
restart_clocked s t w other = ap (λ (x : StationOf). not (Rattle.std.specs.Prelude.nat_le x.clock w.fabric.tick) && not (Rattle.net_settling.specs.Views.is_clock x.hand)) (get_or-set_other w.fabric.stations s t (restarted w.fabric.tick (note_of (next_life s w)) (station w.fabric s)) vacant other)

-- the other events
command_on : (script : ScriptOf) (h : List Event) (e : Event) (l : LinkOf) → IsEvent script h e l → is_of_script e ≡ true → ((t : ℕ) → e ≡ Handle t → ⊥) → ((t : ℕ) → e ≡ Restart t → ⊥) → (effect e (world_after script h)).fabric.tick ≡ (world_after script h).fabric.tick
    → has_clocked (effect e (world_after script h)).fabric l.place ≡ has_clocked (world_after script h).fabric l.place → GoesOn script h e l
command_on script h e l k command no_handle no_restart tick clocked =
    let w = world_after script h in
    command_goes script h e l k command (no_handle l.place) (no_handle l.far_place) (all_left e w l.place no_handle no_restart) (all_left e w l.far_place no_handle no_restart) tick clocked

no_tick : (s : ℕ) → Load s ≡ Tick → ⊥
no_tick s e = cc

load_tick : (s : ℕ) (w : WorldOf) → (effect (Load s) w).fabric.tick ≡ w.fabric.tick
load_tick s w = by (Rattle.net_settling.proofs.Times.step_of (Load s) w)
  where
    by : (Load s ≡ Tick) ⊎ Rattle.net_settling.proofs.Times.IsStepOf (Load s) w (effect (Load s) w) → (effect (Load s) w).fabric.tick ≡ w.fabric.tick
    by (inl e) = absurd (no_tick s e)
    by (inr step) = step.tick

goes_on : (script : ScriptOf) (h : List Event) (e : Event) (l : LinkOf) → IsEvent script h e l → (e ≡ Restart l.place → ⊥) → (e ≡ Restart l.far_place → ⊥) → GoesOn script h e l
unfolding effect
goes_on script h Tick l k here_not there_not = tick_goes script h l k
goes_on script h (Clock s) l k here_not there_not = aside_goes script h (Clock s) l k refl (λ e. cc) (λ t e. cc) (λ t e. cc) refl
goes_on script h (Take s p) l k here_not there_not = aside_goes script h (Take s p) l k refl (λ e. cc) (λ t e. cc) (λ t e. cc) refl
goes_on script h (Load s) l k here_not there_not = aside_goes script h (Load s) l k refl (λ e. cc) (λ t e. cc) (λ t e. cc) (load_tick s (world_after script h))
goes_on script h (Move n) l k here_not there_not = aside_goes script h (Move n) l k refl (λ e. cc) (λ t e. cc) (λ t e. cc) refl
goes_on script h (Handle s) l k here_not there_not = by (cases_eq l.place s) (cases_eq l.far_place s)
  where
    by : (l.place ≡ s) ⊎ (l.place ≡ s → ⊥) → (l.far_place ≡ s) ⊎ (l.far_place ≡ s → ⊥) → GoesOn script h (Handle s) l
    by (inl same) other = subst (λ n. IsEvent script h (Handle n) l → GoesOn script h (Handle n) l) same (here_goes script h l) k
    by (inr other) (inl same) = subst (λ n. IsEvent script h (Handle n) l → GoesOn script h (Handle n) l) same (there_goes script h l) k
    by (inr a) (inr b) = elsewhere_goes script h s l k a b refl
goes_on script h (Restart s) l k here_not there_not =
    let w = world_after script h in
    let a : l.place ≡ s → ⊥ = λ e. here_not (ap Restart (sym e)) in
    let b : l.far_place ≡ s → ⊥ = λ e. there_not (ap Restart (sym e)) in
    command_goes script h (Restart s) l k refl (λ e. cc) (λ e. cc) (restart_left s l.place w a) (restart_left s l.far_place w b) (restart_tick s w) (restart_clocked s l.place w a)
goes_on script h (Fail s p) l k here_not there_not = command_on script h (Fail s p) l k refl (λ t e. cc) (λ t e. cc) refl refl
goes_on script h (Repair s p) l k here_not there_not = command_on script h (Repair s p) l k refl (λ t e. cc) (λ t e. cc) refl refl
goes_on script h (Lose s p n) l k here_not there_not = command_on script h (Lose s p n) l k refl (λ t e. cc) (λ t e. cc) refl refl
goes_on script h (Again s p n) l k here_not there_not = command_on script h (Again s p n) l k refl (λ t e. cc) (λ t e. cc) refl refl
goes_on script h (Swap s p n) l k here_not there_not = command_on script h (Swap s p n) l k refl (λ t e. cc) (λ t e. cc) refl refl
goes_on script h (Noise s p n) l k here_not there_not = command_on script h (Noise s p n) l k refl (λ t e. cc) (λ t e. cc) refl refl
goes_on script h (Send x y) l k here_not there_not = command_on script h (Send x y) l k refl (λ t e. cc) (λ t e. cc) refl refl

-- Each history
abbrev RunsAfter : ScriptOf → List Event → Type 0
RunsAfter script h = is_some_spent (world_after script h).fabric ≡ false → (l : LinkOf) → IsLinkOf script l → (l.place ≡ l.far_place → ⊥) → IsRun (last script h + 259) (world_after script h) l

first_runs : (script : ScriptOf) → IsScript script → RunsAfter script []
unfolding world_after
first_runs script kept works l is apart = begins_anew (last script [] + 259) (world_after script []) l (here_begins script kept [] l is (record { joined = refl; links = refl }) refl)

place_of : Event → ℕ
place_of (Restart s) = s
place_of e = 0

is_restart : (e : Event) (s : ℕ) → (e ≡ Restart s) ⊎ (e ≡ Restart s → ⊥)
unfolding place_of
is_restart (Restart t) s = by (cases_eq t s)
  where
    by : (t ≡ s) ⊎ (t ≡ s → ⊥) → (Restart t ≡ Restart s) ⊎ (Restart t ≡ Restart s → ⊥)
    by (inl same) = inl (ap Restart same)
    by (inr other) = inr (λ e. other (ap place_of e))
is_restart Tick s = inr (λ e. cc)
is_restart (Clock t) s = inr (λ e. cc)
is_restart (Take t p) s = inr (λ e. cc)
is_restart (Handle t) s = inr (λ e. cc)
is_restart (Load t) s = inr (λ e. cc)
is_restart (Fail t p) s = inr (λ e. cc)
is_restart (Repair t p) s = inr (λ e. cc)
is_restart (Lose t p n) s = inr (λ e. cc)
is_restart (Again t p n) s = inr (λ e. cc)
is_restart (Swap t p n) s = inr (λ e. cc)
is_restart (Noise t p n) s = inr (λ e. cc)
is_restart (Send x y) s = inr (λ e. cc)
is_restart (Move n) s = inr (λ e. cc)

next_runs : (script : ScriptOf) → IsScript script → script.pace ≡ None → (h : List Event) (e : Event) → RunsAfter script h → RunsAfter script (h ++ e ∷ [])
next_runs script kept unpaced h e old works l is apart = by_law (is_lawful w.fabric e) refl
  where
    w : WorldOf
    w = world_after script h

    g : List Event
    g = h ++ e ∷ []

    restarts_here : is_lawful w.fabric e ≡ true → e ≡ Restart l.place → IsRun (last script g + 259) (world_after script g) l
    restarts_here lawful restart =
        let same : world_after script g ≡ effect (Restart l.place) w = after_is script h e lawful ∙ ap (λ x. effect x w) restart in
        begins_anew (last script g + 259) (world_after script g) l (here_begins script kept g l is
        (subst (λ x. IsNewHere x l) (sym same) (is_new l l.place w refl))
        (subst (λ x. is_session x (turned l) ≡ false) (sym same) (no_session script kept h (turned l) (link_turned script l is) (effect (Restart l.place) w) (restarted_other l.place l.far_place w (λ n. apart (sym n))) (later_boot l.place l.place w refl))))

    restarts_there : is_lawful w.fabric e ≡ true → e ≡ Restart l.far_place → IsRun (last script g + 259) (world_after script g) l
    restarts_there lawful restart =
        let same : world_after script g ≡ effect (Restart l.far_place) w = after_is script h e lawful ∙ ap (λ x. effect x w) restart in
        begins_anew (last script g + 259) (world_after script g) l (there_begins script kept g l is
        (subst (λ x. IsNewHere x (turned l)) (sym same) (is_new (turned l) l.far_place w refl))
        (subst (λ x. is_session x l ≡ false) (sym same) (no_session script kept h l is (effect (Restart l.far_place) w) (restarted_other l.far_place l.place w apart) (later_boot l.far_place l.far_place w refl))))

    goes : is_lawful w.fabric e ≡ true → (e ≡ Restart l.place → ⊥) → (e ≡ Restart l.far_place → ⊥) → IsRun (last script g + 259) (world_after script g) l
    goes lawful not_here not_there =
        let same = after_is script h e lawful in
        let works_on = subst (λ (x : WorldOf). is_some_spent x.fabric ≡ false) same works in
        let works_before = unspent_before script h e lawful works_on in
        let run = old works_before l is apart in
        let grown = disturbance_grows is_either script h (e ∷ []) in
        let k : IsEvent script h e l = record { kept = kept; unpaced = unpaced; lawful = lawful; works = works_before; works_on = works_on; link = is; apart = apart } in
        let now : Run (base_after script h e) run.first (way (effect e w) l) = goes_on script h e l k not_here not_there run.first (later_run (last script h + 259) (base_after script h e) run.first (way w l) (omega (arith, grown)) run.run) in
        subst (λ x. IsRun (last script g + 259) x l) (sym same) (record { first = run.first; starts = run.starts; run = now })

    by_kind : is_lawful w.fabric e ≡ true → (e ≡ Restart l.place) ⊎ (e ≡ Restart l.place → ⊥) → (e ≡ Restart l.far_place) ⊎ (e ≡ Restart l.far_place → ⊥) → IsRun (last script g + 259) (world_after script g) l
    by_kind lawful (inl restart) other = restarts_here lawful restart
    by_kind lawful (inr a) (inl restart) = restarts_there lawful restart
    by_kind lawful (inr a) (inr b) = goes lawful a b

    by_law : (b : Bool) → is_lawful w.fabric e ≡ b → IsRun (last script g + 259) (world_after script g) l
    by_law true lawful = by_kind lawful (is_restart e l.place) (is_restart e l.far_place)
    by_law false unlawful =
        let same : world_after script g ≡ w = world_after-event script h e ∙ step-unlawful w e unlawful in
        let quiet : disturbs is_either w e ≡ false = ap (λ b. b && (is_of_script e || loses is_either w e)) unlawful in
        let run = old (subst (λ (x : WorldOf). is_some_spent x.fabric ≡ false) same works) l is apart in
        subst (λ (z : ℕ × WorldOf). IsRun (z.0 + 259) z.1 l) (λ i. (sym (undisturbed_now script h e quiet) i, sym same i)) run

pub all_runs : (script : ScriptOf) → IsScript script → script.pace ≡ None → AreRuns script
all_runs script kept unpaced = by_events (RunsAfter script) (first_runs script kept) (next_runs script kept unpaced)
