-- What the switch at this end may have in hand: a clock, or a frame. In each case its direction goes on.

use Rattle.std.specs.Prelude.{◌≡◌, ◌≢◌, ◌⊎◌, ◌-◌, ◌==◌, ◌&&◌, ◌||◌, ◌<◌, ◌≤◌, ℕ, not, List, [], ◌∷◌, ◌++◌, map, length, slice_get, slice_index_or, cond, Option, Some, None, Bool, true, false, refl}
use Rattle.std.specs.Option.{option_map_or}
use Rattle.std.proofs.Common.{true≢false, sym, ◌∙◌, ap, subst, inl, inr, arith, eq-eqb}
use Rattle.std.proofs.lemmas.Bool.{false≢true, cases_lt, cases_eq, eqb-true, or_cases, and_parts, and_from}
use Rattle.std.proofs.lemmas.Option.{slice_get_cases}
use Rattle.an_base.specs.Values.{EndId}
use Rattle.an_base.specs.declared.body.Body.{Body}
use Rattle.an_base.specs.declared.event.Event.{Event}
use Rattle.an_base.specs.declared.event.Event.TheVariants.{Handle}
use Rattle.an_base.specs.declared.frame.Frame.{Frame}
use Rattle.an_base.specs.declared.frame.Frame.TheVariants.{Carry, Ack, Probe, Reply}
use Rattle.an_base.specs.declared.port.Sample.{Sample}
use Rattle.connectivity.specs.Connections.{is_end, is_same_end}
use Rattle.connectivity.proofs.EndLemmas.{is_end_is}
use Rattle.net_script.specs.Scripts.{ScriptOf, IsScript}
use Rattle.frame_codec.specs.Reading.{frame_of}
use Rattle.link_settling.proofs.Basics.{same_end}
use Rattle.ordered_link.specs.Sending.{Sending, unused, is_outstanding, send_next, forget, acknowledge, sent_by_ack, next_to_send}
use Rattle.ordered_link.specs.Session.{numbered, put_out}
use Rattle.link_settling.specs.Directions.{Direction, Gains, Acked, Drops, Run, SendsAll, Stay, IsOneOf, acks, drops, then_step}
use Rattle.link_settling.specs.Directions as direction
use Rattle.link_settling.specs.Moves.{IsFilled, IsFilledBut, IsFresh, Moves, carried_by, shown}
use Rattle.link_settling.proofs.Moves.{IsPushed, carried_both, fills_here, filled_forgotten, filled_next, next_pushed}
use Rattle.link_settling.proofs.MovesRun.{run_of_moves}
use Rattle.link_settling.proofs.Steps.{acked_step, ack_nothing, clock_fresh}
use Rattle.topo_report.proofs.Members.{In}
use Rattle.wire_set.specs.WireState.{hand_of}
use Rattle.epoch_game.proofs.Basics.{none_some, some_same}
use Rattle.switch_core.specs.Switch.{SwitchOf, counts}
use Rattle.switch_core.specs.Steps.{Sent, Step, acknowledges, after, carried_to, fills, framed, goes_on, is_change_due, is_spent_by, last_epoch, on_ack, peer_among, probes, sampled_by, still}
use Rattle.switch_core.specs.Steps as steps
use Rattle.switch_core.proofs.LinkLemmas.{counted}
use Rattle.switch_core.proofs.SessionLemmas.{at_the_port}
use Rattle.switch_core.proofs.WindowLemmas.{on_ack_few}
use Rattle.net_state.specs.Fits.{HoldsFor}
use Rattle.net_state.specs.declared.hand.Hand.{Hand}
use Rattle.net_state.specs.declared.hand.Hand.TheVariants as hand
use Rattle.net_state.specs.Fabric.{station, held_bytes}
use Rattle.net_state.proofs.LawfulLemmas.{lawful_is}
use Rattle.net_state.proofs.ReadyLemmas.{handle_ready}
use Rattle.net_world.specs.World.{WorldOf, effect, handled, handles_bytes, world_after}
use Rattle.net_world.specs.Sound.{HandFits}
use Rattle.net_world.proofs.LawLemmas.{world_is_sound}
use Rattle.net_settling.specs.Views.{LinkOf, turned, here, there, end_here, end_there, came_by, is_session, is_such, is_some_under_way, is_carry, is_ack, way}
use Rattle.net_settling.proofs.Calm.{unspent_here}
use Rattle.net_settling.proofs.Late.{ack_counts, counted_link}
use Rattle.net_settling.proofs.Linked.{link_turned}
use Rattle.net_settling.proofs.Passing.{holds_at}
use Rattle.net_settling.proofs.SenderGoes.{IsSame, IsSameEnd, ack_is, carry_is, goes_by, join_goes, out_one, put_one, receiving_same, same_ends, same_goes, session_same, tick_handle}
use Rattle.net_settling.proofs.SenderSteps.{BodyKind, IsJoinStep, IsSameStep, above, ack_elsewhere, body_begins, body_goes_on, body_kind, clock_begins, clock_goes_on, nothing, present, probe_kind, reply_kind, still_step}
use Rattle.net_settling.proofs.SenderWays.{ack_to, after_is, here_is, late_now}
use Rattle.net_settling.proofs.Sessions.{all_filled}
use Rattle.net_settling.proofs.Under.{such_frame, way_held, way_such}
use Rattle.net_settling.proofs.Viewed.{frame_clocked, handled_clock, handled_clocked, handled_frame, keeps_such, same_handle, same_port, such_is}
use Rattle.net_settling.proofs.WayParts.{GoesOn, IsEvent, base_after, directed, only_from, such_from}

-- acknowledgements under way stay so, where what is handled is none of them
abbrev NoneHeld : WorldOf → LinkOf → Type 0
NoneHeld w l = (n : ℕ) → (station w.fabric l.place).hand ≡ hand.Frame l.port → is_such (is_ack (here w l).epoch (end_there w l) (end_here w l) n) (held_bytes w.fabric l.place) ≡ true → ⊥

acks_only : (script : ScriptOf) (h : List Event) (l : LinkOf) → IsEvent script h (Handle l.place) l → IsSame script h l → (n : ℕ) → (way (effect (Handle l.place) (world_after script h)) l).ack n ≡ true → (way (world_after script h) l).ack n ≡ true
acks_only script h l k same n found =
    let w = world_after script h in
    let v = effect (Handle l.place) w in
    only_from (is_ack (here w l).epoch (end_there w l) (end_here w l) n) script h (Handle l.place) (turned l) k.kept (link_turned script l k.link) k.lawful (λ e. k.apart (same_handle l.place l.far_place e)) (sym (ack_is w v l n v (same_ends script h l k same)) ∙ found)

acks_stay : (script : ScriptOf) (h : List Event) (l : LinkOf) → IsEvent script h (Handle l.place) l → IsSame script h l → NoneHeld (world_after script h) l → Stay (way (world_after script h) l).ack (way (effect (Handle l.place) (world_after script h)) l).ack
acks_stay script h l k same none =
    let w = world_after script h in
    let v = effect (Handle l.place) w in
    record {
      no_others = λ n found. acks_only script h l k same n found;
      stay = λ n found. elim (keeps_such (is_ack (here w l).epoch (end_there w l) (end_here w l) n) script h (Handle l.place) (turned l) k.kept (link_turned script l k.link) k.lawful refl (λ e. cc) found)
          [ inl stays ↦ ack_is w v l n v (same_ends script h l k same) ∙ stays | inr held ↦ absurd (none n held.1 held.2) ];
    }

-- a switch that handled what it had in hand works
pub works_after : (script : ScriptOf) (h : List Event) (l : LinkOf) → IsEvent script h (Handle l.place) l → (handled l.place (world_after script h)).switch.spent ≡ false
works_after script h l k =
    let w = world_after script h in
    let v = effect (Handle l.place) w in
    let g = h ++ Handle l.place ∷ [] in
    let same = after_is script h (Handle l.place) k.lawful in
    sym (ap (λ (u : SwitchOf). u.spent) (here_is w l)) ∙ sym (ap (λ (x : WorldOf). (x.switches l.place).spent) same)
    ∙ sym ((world_is_sound script k.kept g).places l.place k.link.here.node_below).spent ∙ ap (λ (x : WorldOf). (station x.fabric l.place).spent) same ∙ unspent_here v.fabric l.place k.works_on

pub hand_fits : (script : ScriptOf) (h : List Event) (l : LinkOf) → IsEvent script h (Handle l.place) l → (x : Hand) → (station (world_after script h).fabric l.place).hand ≡ x → HandFits (world_after script h).fabric.tick (station (world_after script h).fabric l.place).clock (here (world_after script h) l) x
hand_fits script h l k x is =
    let w = world_after script h in
    subst (λ y. HandFits w.fabric.tick (station w.fabric l.place).clock (w.switches l.place) y) is ((world_is_sound script k.kept h).places l.place k.link.here.node_below).fits

-- A clock
pub spent_then : (now : ℕ) (samples : List Sample) (u : SwitchOf) → is_spent_by u (sampled_by now samples u) ≡ true → (steps.clocked now samples u).switch.spent ≡ true
spent_then now samples u is =
    let x = sampled_by now samples u in
    ap (λ b. (cond b (still (record x { spent = true })) (after (record { switch = x; frames = probes x }) (goes_on u x))).switch.spent) is

clock_goes : (script : ScriptOf) (h : List Event) (l : LinkOf) → IsEvent script h (Handle l.place) l → (n : ℕ) (samples : List Sample) → (station (world_after script h).fabric l.place).hand ≡ hand.Clock n samples → GoesOn script h (Handle l.place) l
clock_goes script h l k n samples is start run = by (is_change_due u (sampled_by n samples u)) refl
  where
    w : WorldOf
    w = world_after script h

    v : WorldOf
    v = effect (Handle l.place) w

    u : SwitchOf
    u = here w l

    base : ℕ
    base = base_after script h (Handle l.place)

    st_is : handled l.place w ≡ steps.clocked n samples u
    st_is = handled_clock l.place n samples w is

    now : n ≡ w.fabric.tick
    now = (hand_fits script h l k (hand.Clock n samples) is).0

    late : (way v l).late ≡ 3
    late = ap (λ b. cond b 3 4) (handled_clocked script k.kept h l.place k.lawful)

    none : NoneHeld w l
    none m at found = let e = sym is ∙ at in cc

    moved : (from : Sending) → Moves n from (carried_by l.port (steps.clocked n samples u).frames) ((steps.clocked n samples u).switch.sendings l.port) → Moves w.fabric.tick from (carried_by l.port (handled l.place w).frames) ((handled l.place w).switch.sendings l.port)
    moved from m = subst (λ (x : Step). Moves w.fabric.tick from (carried_by l.port x.frames) (x.switch.sendings l.port)) (sym st_is) (subst (λ j. Moves j from (carried_by l.port (steps.clocked n samples u).frames) ((steps.clocked n samples u).switch.sendings l.port)) now m)

    same_of : IsSameStep u n l.port (steps.clocked n samples u) → IsSame script h l
    same_of step = record {
      life = ap (λ (x : Step). x.switch.life) st_is ∙ step.life;
      epoch = ap (λ (x : Step). x.switch.epoch) st_is ∙ step.epoch;
      card = ap (λ (x : Step). x.switch.card) st_is ∙ step.card;
    }

    fresh_by : IsSame script h l → is_change_due u (sampled_by n samples u) ≡ false → (b : Bool) → is_session v l ≡ b → IsFresh v.fabric.tick (cond b ((here v l).sendings l.port) unused)
    fresh_by same due false session = λ m low most. absurd (omega (arith, low, most))
    fresh_by same due true session =
        let linked = is_end_is (peer_among u.card.links l.port) (end_there w l) (sym (session_same w v l (same_ends script h l k same)) ∙ session) in
        subst (λ (x : SwitchOf). IsFresh v.fabric.tick (x.sendings l.port)) (sym (here_is w l ∙ ap (λ (x : Step). x.switch) st_is))
        (subst (λ j. IsFresh j ((steps.clocked n samples u).switch.sendings l.port)) (now ∙ sym (tick_handle l.place w)) (clock_fresh l.port n samples u (end_there w l) due linked))

    by : (b : Bool) → is_change_due u (sampled_by n samples u) ≡ b → Run base start (way v l)
    by false due =
        let step = clock_goes_on n l.port samples u due in
        let same = same_of step in
        let d = record (way v l) { late = (way w l).late } in
        then_step start d (way v l) (same_goes script h l k same (λ _. moved (u.sendings l.port) (step.moves (all_filled script h l.place l.port))) (acks_stay script h l k same none) start run)
        (direction.clocked (record {
          is = λ i. record (way v l) { late = late i };
          done = fresh_by same due (is_session v l) refl;
          carries = record { no_others = λ m f. f; stay = λ m f. f };
          acks = record { no_others = λ m f. f; stay = λ m f. f };
        }))
    by true due =
        let left : u.epoch ≢ last_epoch = λ e. true≢false (sym (spent_then n samples u (ap (λ b. b && (u.epoch == last_epoch)) due ∙ eq-eqb u.epoch last_epoch e)) ∙ sym (ap (λ (x : Step). x.switch.spent) st_is) ∙ works_after script h l k) in
        let step = clock_begins n l.port samples u due left in
        let above = step.greater in
        let epoch = ap (λ (x : Step). x.switch.epoch) st_is in
        join_goes script h l k (record {
          life = ap (λ (x : Step). x.switch.life) st_is ∙ step.life;
          greater = omega (arith, above, epoch);
          moves = moved unused step.moves;
        }) (inr late) start run

-- A frame
frame_late : (script : ScriptOf) (h : List Event) (l : LinkOf) (q : ℕ) → IsEvent script h (Handle l.place) l → (station (world_after script h).fabric l.place).hand ≡ hand.Frame q → (way (effect (Handle l.place) (world_after script h)) l).late ≡ (way (world_after script h) l).late
frame_late script h l q k is = ap (λ b. cond b 3 4) (frame_clocked script k.kept h l.place q l.place k.lawful is)

framed_same : (script : ScriptOf) (h : List Event) (l : LinkOf) (q : ℕ) → IsEvent script h (Handle l.place) l → (station (world_after script h).fabric l.place).hand ≡ hand.Frame q → IsSame script h l
    → (is_session (world_after script h) l ≡ true → Moves (world_after script h).fabric.tick ((here (world_after script h) l).sendings l.port) (carried_by l.port (handled l.place (world_after script h)).frames) ((handled l.place (world_after script h)).switch.sendings l.port))
    → NoneHeld (world_after script h) l → GoesOn script h (Handle l.place) l
framed_same script h l q k is same moves none start run =
    let w = world_after script h in
    let v = effect (Handle l.place) w in
    subst (λ d. Run (base_after script h (Handle l.place)) start d) (λ i. record (way v l) { late = sym (frame_late script h l q k is) i }) (same_goes script h l k same moves (acks_stay script h l k same none) start run)

step_same : (script : ScriptOf) (h : List Event) (l : LinkOf) (st : Step) → handled l.place (world_after script h) ≡ st → IsSameStep (here (world_after script h) l) (world_after script h).fabric.tick l.port st → IsSame script h l
step_same script h l st st_is step = record {
  life = ap (λ (x : Step). x.switch.life) st_is ∙ step.life;
  epoch = ap (λ (x : Step). x.switch.epoch) st_is ∙ step.epoch;
  card = ap (λ (x : Step). x.switch.card) st_is ∙ step.card;
}

same_step : (script : ScriptOf) (h : List Event) (l : LinkOf) (q : ℕ) → IsEvent script h (Handle l.place) l → (station (world_after script h).fabric l.place).hand ≡ hand.Frame q → (st : Step) → handled l.place (world_after script h) ≡ st
    → IsSameStep (here (world_after script h) l) (world_after script h).fabric.tick l.port st → NoneHeld (world_after script h) l → GoesOn script h (Handle l.place) l
same_step script h l q k is st st_is step none =
    let w = world_after script h in
    let u = here w l in
    framed_same script h l q k is (step_same script h l st st_is step)
    (λ _. subst (λ (x : Step). Moves w.fabric.tick (u.sendings l.port) (carried_by l.port x.frames) (x.switch.sendings l.port)) (sym st_is) (step.moves (all_filled script h l.place l.port)))
    none

join_step : (script : ScriptOf) (h : List Event) (l : LinkOf) (q : ℕ) → IsEvent script h (Handle l.place) l → (station (world_after script h).fabric l.place).hand ≡ hand.Frame q → (st : Step) → handled l.place (world_after script h) ≡ st
    → IsJoinStep (here (world_after script h) l) (world_after script h).fabric.tick l.port st → GoesOn script h (Handle l.place) l
join_step script h l q k is st st_is step =
    let w = world_after script h in
    let above = step.greater in
    let epoch = ap (λ (x : Step). x.switch.epoch) st_is in
    join_goes script h l k (record {
      life = ap (λ (x : Step). x.switch.life) st_is ∙ step.life;
      greater = omega (arith, above, epoch);
      moves = subst (λ (x : Step). Moves w.fabric.tick unused (carried_by l.port x.frames) (x.switch.sendings l.port)) (sym st_is) step.moves;
    }) (inl (frame_late script h l q k is))

-- An acknowledgement leaves the life, the epoch and the card
ack_kept : (b : Bool) (q epoch n : ℕ) (from : EndId) (u : SwitchOf) → ((cond b (on_ack q from epoch n u) (still u)).switch.life ≡ u.life) × ((cond b (on_ack q from epoch n u) (still u)).switch.epoch ≡ u.epoch) × ((cond b (on_ack q from epoch n u) (still u)).switch.card ≡ u.card)
ack_kept true q epoch n from u =
    let only = (on_ack_few q epoch n from u).only in
    (ap (λ (x : SwitchOf). x.life) only, ap (λ (x : SwitchOf). x.epoch) only, ap (λ (x : SwitchOf). x.card) only)
ack_kept false q epoch n from u = (refl, refl, refl)

ack_same : (script : ScriptOf) (h : List Event) (l : LinkOf) (q epoch n : ℕ) (from to : EndId) → handled l.place (world_after script h) ≡ framed q (Ack epoch from to n) (here (world_after script h) l) → IsSame script h l
ack_same script h l q epoch n from to st_is =
    let u = here (world_after script h) l in
    let x = ack_kept (counts u q from to) q epoch n from u in
    record {
      life = ap (λ (x : Step). x.switch.life) st_is ∙ x.0;
      epoch = ap (λ (x : Step). x.switch.epoch) st_is ∙ x.1;
      card = ap (λ (x : Step). x.switch.card) st_is ∙ x.2;
    }

pub ack_itself : (epoch n : ℕ) (from to : EndId) → is_ack epoch from to n (Ack epoch from to n) ≡ true
ack_itself epoch n from to =
    and_from ((epoch == epoch) && is_same_end from from && is_same_end to to) (n == n)
    (and_from ((epoch == epoch) && is_same_end from from) (is_same_end to to)
    (and_from (epoch == epoch) (is_same_end from from) (eq-eqb epoch epoch refl) (same_end from)) (same_end to)) (eq-eqb n n refl)

pub ack_number : (epoch from_epoch m n : ℕ) (from to a b : EndId) → is_ack epoch from to m (Ack from_epoch a b n) ≡ true → n ≡ m
ack_number epoch from_epoch m n from to a b found = eqb-true n m (and_parts ((from_epoch == epoch) && is_same_end a from && is_same_end b to) (n == m) found).1

-- one that is not of the session with the far end does nothing in it
ack_still : (script : ScriptOf) (h : List Event) (l : LinkOf) (epoch n : ℕ) (from to : EndId) → IsEvent script h (Handle l.place) l → (here (world_after script h) l).spent ≡ false → is_session (world_after script h) l ≡ true
    → is_ack (here (world_after script h) l).epoch (end_there (world_after script h) l) (end_here (world_after script h) l) n (Ack epoch from to n) ≡ false → framed l.port (Ack epoch from to n) (here (world_after script h) l) ≡ still (here (world_after script h) l)
ack_still script h l epoch n from to k works session other = by (counts u l.port from to) refl
  where
    w : WorldOf
    w = world_after script h

    u : SwitchOf
    u = here w l

    acked : Step
    acked = acked_step l.port n from u

    by_epoch : counts u l.port from to ≡ true → (b : Bool) → (epoch == u.epoch) ≡ b → on_ack l.port from epoch n u ≡ still u
    by_epoch is false differs = ap (λ b. cond (b && is_outstanding n (u.sendings l.port)) (acked_step l.port n from u) (still u)) differs
    by_epoch is true same =
        let linked = counted_link script k.kept h l.place l.port from to k.link.here.node_below k.link.here.own_port_least k.link.here.own_port_most works is in
        let from_is : from ≡ end_there w l = some_same from (end_there w l) (sym linked ∙ is_end_is (peer_among u.card.links l.port) (end_there w l) session) in
        let to_is : to ≡ end_here w l = (counted u l.port from to is).1 in
        absurd (true≢false (sym (ack_itself u.epoch n (end_there w l) (end_here w l)) ∙ (λ i. is_ack u.epoch (end_there w l) (end_here w l) n (Ack (sym (eqb-true epoch u.epoch same) i) (sym from_is i) (sym to_is i) n)) ∙ other))

    by : (b : Bool) → counts u l.port from to ≡ b → framed l.port (Ack epoch from to n) u ≡ still u
    by false is = ap (λ b. cond b (on_ack l.port from epoch n u) (still u)) is
    by true is = ap (λ b. cond b (on_ack l.port from epoch n u) (still u)) is ∙ by_epoch is (epoch == u.epoch) refl

-- One that is of it. The body that then goes out
one_here : (port k : ℕ) (s : SwitchOf) (peer : EndId) (bodies : List Body) → 1 ≤ k → k ≤ length bodies → carried_by port (map (carried_to s port peer) (numbered k (slice_get bodies (k - 1)))) ≡ k ∷ []
one_here port k s peer bodies least most =
    elim (slice_get_cases bodies (k - 1)).1 [
      | inl there ↦ ap (λ o. carried_by port (map (carried_to s port peer) (numbered k o))) there.2
          ∙ ap (λ b. cond b (k ∷ []) [] ++ []) (eq-eqb port port refl)
      | inr past ↦ absurd (let e = past.0 in omega (arith, e, least, most))
    ]

out_here : (port : ℕ) (s : SwitchOf) (peer : EndId) (t : Sending) (out : Option ℕ) → IsPushed out t → carried_by port (map (carried_to s port peer) (put_out t out)) ≡ shown out
out_here port s peer t None pushed = refl
out_here port s peer t (Some k) pushed = let p = pushed k refl in one_here port k s peer t.pushed p.0 p.1

abbrev is_one : Option ℕ → ℕ → Bool
is_one None j = false
is_one (Some k) j = k == j

one_is : (o : Option ℕ) (j : ℕ) → is_one o j ≡ true → o ≡ Some j
one_is None j found = absurd (false≢true found)
one_is (Some k) j found = ap (λ n. Some n) (eqb-true k j found)

is_one_of : (o : Option ℕ) (j : ℕ) → o ≡ Some j → is_one o j ≡ true
is_one_of o j is = ap (λ x. is_one x j) is ∙ eq-eqb j j refl

shown_is : (o : Option ℕ) (j : ℕ) (ks : List ℕ) → o ≡ Some j → IsOneOf j (shown o ++ ks)
shown_is o j ks is = subst (λ x. IsOneOf j (shown x ++ ks)) (sym is) (inl refl)

shown_more : (o : Option ℕ) (j : ℕ) (ks : List ℕ) → IsOneOf j ks → IsOneOf j (shown o ++ ks)
shown_more None j ks one = one
shown_more (Some k) j ks one = inr one

shown_parts : (o : Option ℕ) (j : ℕ) (ks : List ℕ) → IsOneOf j (shown o ++ ks) → (o ≡ Some j) ⊎ IsOneOf j ks
shown_parts None j ks one = inr one
shown_parts (Some k) j ks (inl same) = inl (ap (λ n. Some n) same)
shown_parts (Some k) j ks (inr one) = inr one

left_or : (x y : Bool) → x ≡ true → (x || y) ≡ true
left_or true y f = refl
left_or false y f = absurd (false≢true f)

right_or : (x y : Bool) → y ≡ true → (x || y) ≡ true
right_or true y f = refl
right_or false y f = f

held_one : (xs : List (List ℕ)) → length xs ≡ 1 → In (slice_index_or xs 0 []) xs
held_one [] e = absurd (omega (arith, e))
held_one (x ∷ xs) e = inl refl

-- what is in hand is under way
pub held_under : (script : ScriptOf) (h : List Event) (l : LinkOf) (test : Frame → Bool) (f : Frame) → IsScript script → l.far_place < Rattle.net_game.proofs.Firm.places script → (station (world_after script h).fabric l.far_place).hand ≡ hand.Frame l.far_port → frame_of (held_bytes (world_after script h).fabric l.far_place) ≡ Some f → test f ≡ true → is_some_under_way test (world_after script h) l ≡ true
held_under script h l test f kept low is read found =
    let w = world_after script h in
    let holds = subst (λ x. HoldsFor x (hand_of w.fabric.wires l.far_place)) is (holds_at script kept h l.far_place low) in
    way_such test w l (held_bytes w.fabric l.far_place) (way_held w.fabric l.far_place l.far_port (held_bytes w.fabric l.far_place) (ap (came_by l.far_port) is ∙ eq-eqb l.far_port l.far_port refl) (held_one (hand_of w.fabric.wires l.far_place) holds)) (such_frame test (held_bytes w.fabric l.far_place) f read found)

ack_goes : (script : ScriptOf) (h : List Event) (l : LinkOf) (n : ℕ) → IsEvent script h (Handle l.place) l → (station (world_after script h).fabric l.place).hand ≡ hand.Frame l.port
    → frame_of (held_bytes (world_after script h).fabric l.place) ≡ Some (Ack (here (world_after script h) l).epoch (end_there (world_after script h) l) (end_here (world_after script h) l) n)
    → handled l.place (world_after script h) ≡ framed l.port (Ack (here (world_after script h) l).epoch (end_there (world_after script h) l) (end_here (world_after script h) l) n) (here (world_after script h) l) → GoesOn script h (Handle l.place) l
ack_goes script h l n k is read st_is start run = by_count (counts u l.port far own) refl
  where
    w : WorldOf
    w = world_after script h

    v : WorldOf
    v = effect (Handle l.place) w

    u : SwitchOf
    u = here w l

    own : EndId
    own = end_here w l

    far : EndId
    far = end_there w l

    base : ℕ
    base = base_after script h (Handle l.place)

    d : Direction
    d = way w l

    t : Sending
    t = u.sendings l.port

    fits : HandFits w.fabric.tick (station w.fabric l.place).clock u (hand.Frame l.port)
    fits = hand_fits script h l k (hand.Frame l.port) is

    same : IsSame script h l
    same = ack_same script h l l.port u.epoch n far own st_is

    ends : IsSameEnd w v l
    ends = same_ends script h l k same

    under : d.ack n ≡ true
    under = held_under script h (turned l) (is_ack u.epoch far own n) (Ack u.epoch far own n) k.kept k.link.here.node_below is read (ack_itself u.epoch n far own)

    ack_on : (m : ℕ) → d.ack m ≡ true → ((way v l).ack m ≡ true) ⊎ (m ≡ n)
    ack_on m found = elim (keeps_such (is_ack u.epoch far own m) script h (Handle l.place) (turned l) k.kept (link_turned script l k.link) k.lawful refl (λ e. cc) found)
        [ inl stays ↦ inl (ack_is w v l m v ends ∙ stays) | inr held ↦ inr (sym (ack_number u.epoch u.epoch m n far own far own (such_is (is_ack u.epoch far own m) (held_bytes w.fabric l.place) (Ack u.epoch far own n) read held.2))) ]

    carry_on : (m : ℕ) → d.carry m ≡ true → (way v l).carry m ≡ true
    carry_on m found = elim (keeps_such (is_carry u.epoch own far m) script h (Handle l.place) l k.kept k.link k.lawful refl (λ e. cc) found)
        [ inl stays ↦ carry_is w v l m v ends ∙ stays | inr held ↦ absurd (k.apart (same_handle l.place l.far_place held.0)) ]

    -- where it does nothing
    still_sending : handled l.place w ≡ still u → (way v l).sending ≡ d.sending
    still_sending stays = λ i. cond (session_same w v l ends i) (((here_is w l ∙ ap (λ (x : Step). x.switch) stays) i).sendings l.port) unused

    carry_back : handled l.place w ≡ still u → (m : ℕ) → (way v l).carry m ≡ true → d.carry m ≡ true
    carry_back stays m found = elim (such_from (is_carry (here v l).epoch (end_here v l) (end_there v l) m) script h (Handle l.place) l k.kept k.link k.lawful found)
        [ inl old ↦ sym (carry_is w v l m w ends) ∙ old | inr new ↦ absurd (subst (λ (x : Step). In new.sent x.frames) stays new.among) ]

    parts : (x : Sending) → (way v l).sending ≡ x → way v l ≡ record d { sending = x; carry = (way v l).carry; ack = (way v l).ack }
    parts x sent = directed (way v l) d.now d.late d.epoch d.far_epoch x d.receiving (tick_handle l.place w) (frame_late script h l l.port k is) ends.epoch (ap (λ (y : SwitchOf). y.epoch) ends.far) sent (receiving_same w v l ends)

    drop : handled l.place w ≡ still u → counts u l.port far own ≡ false → (w.fabric.tick < base) ⊎ (base ≤ w.fabric.tick) → Run base start (way v l)
    drop stays none (inl early) = then_step start d (way v l) run (drops (record { early = early; is = parts d.sending (still_sending stays); carry = carry_back stays; ack = λ m found. acks_only script h l k same m found }))
    drop stays none (inr late) =
        let now = late_now script h (Handle l.place) l k (tick_handle l.place w) late in
        absurd (true≢false (sym (ack_counts script h l u.epoch n far own now.before k.link k.apart under) ∙ none))

    -- where it is of no body outstanding
    idle : handled l.place w ≡ still u → is_outstanding n d.sending ≡ false → Run base start (way v l)
    idle stays none =
        then_step start d (way v l) run (acks n (record {
          there = under;
          is = parts (acknowledge n d.now d.sending) (still_sending stays ∙ sym (ap (λ b. cond b (send_next d.now (forget n d.sending)) d.sending) none));
          gains = record {
            carry = λ m found. inl (carry_back stays m found);
            carry_on = carry_on;
            put = λ late m out. absurd (none_some (sym (ap (λ b. cond b (next_to_send (forget n d.sending)) None) none) ∙ out));
          };
          ack = λ m found. acks_only script h l k same m found;
          ack_on = ack_on;
        }))

    -- where it is of one
    first : Step
    first = acknowledges l.port far n u

    rest : Step
    rest = fills 7 l.port far first.switch

    ks : List ℕ
    ks = carried_by l.port rest.frames

    out : Option ℕ
    out = sent_by_ack n d.sending

    kept_carry : ℕ → Bool
    kept_carry j = d.carry j || (is_one out j && (way v l).carry j)

    mid : Direction
    mid = record d { sending = acknowledge n d.now d.sending; carry = kept_carry; ack = (way v l).ack }

    main : is_session w l ≡ true → is_outstanding n t ≡ true → handled l.place w ≡ acked_step l.port n far u → Run base start (way v l)
    main session outstanding acked =
        run_of_moves base start mid (way v l) ks (way v l).sending
        (then_step start d mid run (acks n (record {
          there = under;
          is = refl;
          gains = record {
            carry = λ j found. elim (or_cases (d.carry j) (is_one out j && (way v l).carry j) found) [ inl old ↦ inl old | inr new ↦ inr (one_is out j (and_parts (is_one out j) ((way v l).carry j) new).0) ];
            carry_on = λ j found. left_or (d.carry j) (is_one out j && (way v l).carry j) found;
            put = λ late j is_out. right_or (d.carry j) (is_one out j && (way v l).carry j)
                (and_from (is_one out j) ((way v l).carry j) (is_one_of out j is_out) (put_one script h l j k late (subst (IsOneOf j) (sym all_numbers) (shown_is (sent_by_ack n t) j ks (sym out_is ∙ is_out)))));
          };
          ack = λ m found. acks_only script h l k same m found;
          ack_on = ack_on;
        })))
        moves
        (record {
          is = parts (way v l).sending refl;
          carry = λ j found. elim (such_from (is_carry (here v l).epoch (end_here v l) (end_there v l) j) script h (Handle l.place) l k.kept k.link k.lawful found)
              [ inl old ↦ inl (left_or (d.carry j) (is_one out j && (way v l).carry j) (sym (carry_is w v l j w ends) ∙ old)) | inr new ↦ new_one j found (shown_parts (sent_by_ack n t) j ks (subst (IsOneOf j) all_numbers (out_one script h l j k v refl new))) ];
          carry_on = λ j found. elim (or_cases (d.carry j) (is_one out j && (way v l).carry j) found) [ inl old ↦ carry_on j old | inr new ↦ (and_parts (is_one out j) ((way v l).carry j) new).1 ];
          put = λ late j one. put_one script h l j k late (subst (IsOneOf j) (sym all_numbers) (shown_more (sent_by_ack n t) j ks one));
          acks = record { no_others = λ m f. f; stay = λ m f. f };
        })
      where
        sending_is : d.sending ≡ t
        sending_is = ap (λ b. cond b t unused) session

        out_is : out ≡ sent_by_ack n t
        out_is = ap (sent_by_ack n) sending_is

        session_then : is_session v l ≡ true
        session_then = session_same w v l ends ∙ session

        acknowledged : acknowledge n u.tick t ≡ send_next u.tick (forget n t)
        acknowledged = ap (λ b. cond b (send_next u.tick (forget n t)) t) outstanding

        pushed : IsPushed (sent_by_ack n t) (acknowledge n u.tick t)
        pushed = subst (λ b. IsPushed (cond b (next_to_send (forget n t)) None) (cond b (send_next u.tick (forget n t)) t)) (sym outstanding) (next_pushed u.tick (forget n t))

        all_numbers : goes_by w l (is_session v l) ≡ shown (sent_by_ack n t) ++ ks
        all_numbers =
            ap (λ b. cond b (carried_by l.port (handled l.place w).frames) []) session_then
            ∙ ap (λ (x : Step). carried_by l.port x.frames) acked
            ∙ carried_both l.port first.frames rest.frames
            ∙ ap (λ xs. xs ++ ks) (out_here l.port u far (acknowledge n u.tick t) (sent_by_ack n t) pushed)

        new_one : (j : ℕ) → (way v l).carry j ≡ true → (sent_by_ack n t ≡ Some j) ⊎ IsOneOf j ks → (kept_carry j ≡ true) ⊎ IsOneOf j ks
        new_one j found (inl is_out) = inl (right_or (d.carry j) (is_one out j && (way v l).carry j) (and_from (is_one out j) ((way v l).carry j) (is_one_of out j (out_is ∙ is_out)) found))
        new_one j found (inr one) = inr one

        filled : IsFilledBut 7 (first.switch.sendings l.port)
        filled = subst (IsFilledBut 7) (sym (at_the_port l.port (acknowledge n u.tick t) u.sendings ∙ acknowledged)) (filled_next u.tick 7 (forget n t) (filled_forgotten n t outstanding (all_filled script h l.place l.port)))

        from_is : first.switch.sendings l.port ≡ acknowledge n d.now d.sending
        from_is = at_the_port l.port (acknowledge n u.tick t) u.sendings ∙ (λ i. acknowledge n (fits.2 i) (sym sending_is i))

        to_is : rest.switch.sendings l.port ≡ (way v l).sending
        to_is = sym (ap (λ b. cond b ((here v l).sendings l.port) unused) session_then ∙ ap (λ (x : SwitchOf). x.sendings l.port) (here_is w l ∙ ap (λ (x : Step). x.switch) acked))

        moves : Moves w.fabric.tick (acknowledge n d.now d.sending) ks (way v l).sending
        moves = subst (λ (z : ℕ × Sending × Sending). Moves z.0 z.1 ks z.2) (λ i. (fits.2 i, from_is i, to_is i)) ((fills_here 7 l.port far first.switch).moves filled)

    by_outstanding : counts u l.port far own ≡ true → is_session w l ≡ true → (b : Bool) → is_outstanding n t ≡ b → Run base start (way v l)
    by_outstanding counted session true outstanding = main session outstanding (st_is ∙ acked_is_here)
      where
        acked_is_here : framed l.port (Ack u.epoch far own n) u ≡ acked_step l.port n far u
        acked_is_here =
            ap (λ b. cond b (on_ack l.port far u.epoch n u) (still u)) counted
            ∙ ap (λ b. cond (b && is_outstanding n t) (acked_step l.port n far u) (still u)) (eq-eqb u.epoch u.epoch refl)
            ∙ ap (λ b. cond b (acked_step l.port n far u) (still u)) outstanding
    by_outstanding counted session false none = idle (st_is ∙ ack_nothing l.port u.epoch n far own u none) (ap (λ b. is_outstanding n (cond b t unused)) session ∙ none)

    by_count : (b : Bool) → counts u l.port far own ≡ b → Run base start (way v l)
    by_count false none = drop (st_is ∙ ap (λ b. cond b (on_ack l.port far u.epoch n u) (still u)) none) none (cases_lt w.fabric.tick base)
    by_count true is_counted =
        let linked = counted_link script k.kept h l.place l.port far own k.link.here.node_below k.link.here.own_port_least k.link.here.own_port_most fits.3 is_counted in
        by_outstanding is_counted (ap (λ o. is_end o far) linked ∙ same_end far) (is_outstanding n t) refl

-- each frame
no_ack_held : (script : ScriptOf) (h : List Event) (l : LinkOf) (f : Frame) → frame_of (held_bytes (world_after script h).fabric l.place) ≡ Some f → ((e n : ℕ) (a b : EndId) → is_ack e a b n f ≡ false) → NoneHeld (world_after script h) l
no_ack_held script h l f read none n at found =
    let w = world_after script h in
    false≢true (sym (none (here w l).epoch n (end_there w l) (end_here w l)) ∙ such_is (is_ack (here w l).epoch (end_there w l) (end_here w l) n) (held_bytes w.fabric l.place) f read found)

ack_by : (script : ScriptOf) (h : List Event) (l : LinkOf) (epoch n : ℕ) (from to : EndId) → IsEvent script h (Handle l.place) l → (station (world_after script h).fabric l.place).hand ≡ hand.Frame l.port
    → frame_of (held_bytes (world_after script h).fabric l.place) ≡ Some (Ack epoch from to n) → handled l.place (world_after script h) ≡ framed l.port (Ack epoch from to n) (here (world_after script h) l) → GoesOn script h (Handle l.place) l
ack_by script h l epoch n from to k is read st_is = by (is_ack u.epoch (end_there w l) (end_here w l) n (Ack epoch from to n)) refl
  where
    w : WorldOf
    w = world_after script h

    u : SwitchOf
    u = here w l

    by : (b : Bool) → is_ack u.epoch (end_there w l) (end_here w l) n (Ack epoch from to n) ≡ b → GoesOn script h (Handle l.place) l
    by true found =
        let same = ack_to u.epoch (end_there w l) (end_here w l) n (Ack epoch from to n) found in
        ack_goes script h l n k is (read ∙ ap (λ f. Some f) same) (st_is ∙ ap (λ f. framed l.port f u) same)
    by false other =
        let fits = hand_fits script h l k (hand.Frame l.port) is in
        framed_same script h l l.port k is (ack_same script h l l.port epoch n from to st_is)
        (λ session. subst (λ (x : Step). Moves w.fabric.tick (u.sendings l.port) (carried_by l.port x.frames) (x.switch.sendings l.port)) (sym (st_is ∙ ack_still script h l epoch n from to k fits.3 session other)) (Rattle.link_settling.specs.Moves.resting (u.sendings l.port)))
        (λ m at found.
        let test = such_is (is_ack u.epoch (end_there w l) (end_here w l) m) (held_bytes w.fabric l.place) (Ack epoch from to n) read found in
        let same = ack_number u.epoch epoch m n (end_there w l) (end_here w l) from to test in
        true≢false (sym test ∙ ap (λ j. is_ack u.epoch (end_there w l) (end_here w l) j (Ack epoch from to n)) (sym same) ∙ other))

frame_goes : (script : ScriptOf) (h : List Event) (l : LinkOf) (q : ℕ) (f : Frame) → IsEvent script h (Handle l.place) l → (station (world_after script h).fabric l.place).hand ≡ hand.Frame q
    → frame_of (held_bytes (world_after script h).fabric l.place) ≡ Some f → handled l.place (world_after script h) ≡ framed q f (here (world_after script h) l) → GoesOn script h (Handle l.place) l
frame_goes script h l q (Carry f) k is read st_is = by (body_kind q f u)
  where
    w : WorldOf
    w = world_after script h

    u : SwitchOf
    u = here w l

    none : NoneHeld w l
    none = no_ack_held script h l (Carry f) read (λ e n a b. refl)

    fits : HandFits w.fabric.tick (station w.fabric l.place).clock u (hand.Frame q)
    fits = hand_fits script h l k (hand.Frame q) is

    by : BodyKind q f u → GoesOn script h (Handle l.place) l
    by (nothing stays why) = same_step script h l q k is (still u) (st_is ∙ stays) (still_step u w.fabric.tick l.port) none
    by (present counted same) = same_step script h l q k is (framed q (Carry f) u) st_is (body_goes_on w.fabric.tick l.port q f u fits.2 counted same) none
    by (above counted greater) = join_step script h l q k is (framed q (Carry f) u) st_is (body_begins w.fabric.tick l.port q f u fits.2 counted greater).0
frame_goes script h l q (Ack epoch from to n) k is read st_is = by (cases_eq q l.port)
  where
    w : WorldOf
    w = world_after script h

    u : SwitchOf
    u = here w l

    by : (q ≡ l.port) ⊎ (q ≡ l.port → ⊥) → GoesOn script h (Handle l.place) l
    by (inl same) = ack_by script h l epoch n from to k (is ∙ ap hand.Frame same) read (st_is ∙ ap (λ p. framed p (Ack epoch from to n) u) same)
    by (inr other) =
        let fits = hand_fits script h l k (hand.Frame q) is in
        same_step script h l q k is (framed q (Ack epoch from to n) u) st_is (ack_elsewhere w.fabric.tick l.port q epoch n from to u fits.2 (λ e. other (sym e)))
        (λ m at found. other (same_port (station w.fabric l.place).hand q l.port is at))
frame_goes script h l q (Probe from nonce) k is read st_is =
    let w = world_after script h in
    same_step script h l q k is (framed q (Probe from nonce) (here w l)) st_is (probe_kind w.fabric.tick l.port q nonce from (here w l)) (no_ack_held script h l (Probe from nonce) read (λ e n a b. refl))
frame_goes script h l q (Reply from to nonce) k is read st_is =
    let w = world_after script h in
    same_step script h l q k is (framed q (Reply from to nonce) (here w l)) st_is (reply_kind w.fabric.tick l.port q nonce from to (here w l)) (no_ack_held script h l (Reply from to nonce) read (λ e n a b. refl))

-- So whatever this end has in hand, its direction goes on.
pub here_goes : (script : ScriptOf) (h : List Event) (l : LinkOf) → IsEvent script h (Handle l.place) l → GoesOn script h (Handle l.place) l
here_goes script h l k = by (station w.fabric l.place).hand refl
  where
    w : WorldOf
    w = world_after script h

    u : SwitchOf
    u = here w l

    by_bytes : (q : ℕ) → (station w.fabric l.place).hand ≡ hand.Frame q → (o : Option Frame) → frame_of (held_bytes w.fabric l.place) ≡ o → GoesOn script h (Handle l.place) l
    by_bytes q is None read =
        same_step script h l q k is (still u) (handled_frame l.place q w is ∙ ap (λ o. handles_bytes q o u) read) (still_step u w.fabric.tick l.port)
        (λ n at found. false≢true (sym (ap (λ o. option_map_or (is_ack (here w l).epoch (end_there w l) (end_here w l) n) o false) read) ∙ found))
    by_bytes q is (Some f) read = frame_goes script h l q f k is read (handled_frame l.place q w is ∙ ap (λ o. handles_bytes q o u) read)

    by : (x : Hand) → (station w.fabric l.place).hand ≡ x → GoesOn script h (Handle l.place) l
    by hand.Empty is = absurd (true≢false (sym (handle_ready w.fabric l.place (lawful_is w.fabric (Handle l.place) k.lawful).ready).1 ∙ ap (λ (x : Hand). not (Rattle.net_state.specs.Fabric.is_empty x)) is))
    by (hand.Clock n samples) is = clock_goes script h l k n samples is
    by (hand.Frame q) is = by_bytes q is (frame_of (held_bytes w.fabric l.place)) refl
