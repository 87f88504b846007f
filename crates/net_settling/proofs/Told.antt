-- No frame of a session under way is of an epoch above that of the life it is of.

use Rattle.std.specs.Prelude.{◌≡◌, ◌<◌, ◌≤◌, ℕ, List, [], ◌∷◌, ◌++◌, Option, Some, None, Bool, true, false, refl}
use Rattle.std.proofs.Common.{sym, ◌∙◌, ap, subst, inl, inr, arith}
use Rattle.std.proofs.lemmas.Bool.{false≢true}
use Rattle.an_base.specs.Values.{LifeId, EndId, TopoOf}
use Rattle.an_base.specs.Frames.{CarryOf}
use Rattle.an_base.specs.declared.event.Event.{Event}
use Rattle.an_base.specs.declared.event.Event.TheVariants.{Take, Handle, Load, Fail, Repair, Noise}
use Rattle.an_base.specs.declared.frame.Frame.{Frame}
use Rattle.an_base.specs.declared.frame.Frame.TheVariants.{Carry, Ack, Probe, Reply}
use Rattle.net_script.specs.Scripts.{ScriptOf, IsScript}
use Rattle.frame_codec.specs.Reading.{frame_of}
use Rattle.frame_codec.proofs.Decoding.{frame_again}
use Rattle.wire_set.specs.WireState.{WiresOf, place, wire_at, hand_of, wire_out}
use Rattle.topo_report.proofs.Members.{In}
use Rattle.epoch_game.specs.Slice.{Node}
use Rattle.epoch_game.specs.Game.{Game, slice}
use Rattle.epoch_game.proofs.Basics.{none_some, some_same}
use Rattle.epoch_game.proofs.GameLemmas.{later_run, nothing_ahead}
use Rattle.epoch_game.proofs.StreamLemmas.{has_grown}
use Rattle.switch_core.specs.Switch.{SwitchOf, finish_of}
use Rattle.switch_core.specs.Steps.{Sent, clocked, framed}
use Rattle.switch_core.specs.Bytes.{spelled_out, all_spelled}
use Rattle.switch_game.proofs.Laws.{holds}
use Rattle.switch_game.proofs.Played.{IsTold}
use Rattle.net_state.specs.declared.hand.Hand.{Hand}
use Rattle.net_state.specs.declared.hand.Hand.TheVariants as hand
use Rattle.net_state.specs.Fabric.{station, held_bytes}
use Rattle.net_state.specs.Lawful.{is_lawful}
use Rattle.net_state.specs.Effects.{noise, released}
use Rattle.net_state.proofs.LawfulLemmas.{lawful_is}
use Rattle.net_state.proofs.ReadyLemmas.{handle_ready}
use Rattle.net_state.proofs.HoldLemmas.{released_fars}
use Rattle.net_state.proofs.WiresLemmas.{first_empty}
use Rattle.net_world.specs.World.{WorldOf, effect, handled, handles, handles_bytes, loads_with, step, world_after}
use Rattle.net_world.proofs.WorldLemmas.{world_after-event, step-lawful, step-unlawful}
use Rattle.net_game.specs.Lives.{all_lives, powered}
use Rattle.net_game.specs.Moves.{game_after}
use Rattle.net_game.proofs.Firm.{places}
use Rattle.net_game.proofs.LivesLemmas.{firm}
use Rattle.net_game.proofs.BytesLemmas.{InQueues, GoesTo, put_queue, take_queue, released_queue, all_out_queue, repair_queue, fail_queue}
use Rattle.net_game.proofs.EachLemmas.{Each, each_in, each_index, each_map}
use Rattle.net_game.proofs.EmbedLemmas.{chain_of}
use Rattle.net_game.proofs.HistoryLemmas.{by_events}
use Rattle.net_game.proofs.KnownLemmas.{IsKnown, known_sent, empty_none, noise_none}
use Rattle.net_game.proofs.PlayLemmas.{history_agrees, history_goes_on, history_plays}
use Rattle.net_game.proofs.RangedFrames.{IsOut, AreFrames}
use Rattle.net_settling.proofs.AckFrames.{NoAck, carry_acks, clocked_none, is_an_ack, other_none}
use Rattle.net_settling.proofs.Passing.{below}
use Rattle.net_settling.proofs.Sents.{handled_frames}

-- a life has joined an epoch
abbrev pub HasJoined : Game → LifeId → ℕ → Type 0
HasJoined g x e = (n : Node) × (g.nodes x e ≡ Some n)

-- what was sent is true in the game
pub sent_told : (script : ScriptOf) → IsScript script → (h : List Event) (queue : ℕ) (b : List ℕ) (f : Frame) → In b (wire_at (world_after script h).fabric.wires queue) → frame_of b ≡ Some f → IsTold (game_after script h) f
sent_told script kept h queue b f i read =
    let state = (chain_of script (all_lives script) kept (firm script kept) h).state in
    let known = each_in (IsKnown state.network.sent) (wire_at (world_after script h).fabric.wires queue) b (state.holds.heard queue) i in
    (holds (all_lives script) (powered script) state.network (game_after script h) state.holds.happens).sent f (known_sent state.network.sent b f known read)

-- so a body that is under way is of an epoch that its sender has joined
pub carry_joined : (script : ScriptOf) → IsScript script → (h : List Event) (queue : ℕ) (b : List ℕ) (f : CarryOf) → In b (wire_at (world_after script h).fabric.wires queue) → frame_of b ≡ Some (Carry f) → HasJoined (game_after script h) f.from.life f.epoch
carry_joined script kept h queue b f i read = let told = sent_told script kept h queue b (Carry f) i read in (told.node, told.joined)

-- and a present life has joined no epoch above its own, and none before its first clock
pub joined_low : (script : ScriptOf) → IsScript script → (h : List Event) (s e : ℕ) (x : LifeId) → s < places script → x ≡ ((world_after script h).switches s).life → HasJoined (game_after script h) x e → e ≤ ((world_after script h).switches s).epoch
joined_low script kept h s e x low same k =
    let g = game_after script h in
    let u = (world_after script h).switches s in
    let above = nothing_ahead (all_lives script) (powered script).epoch g (history_plays script kept h) x e k.0 k.1 in
    let present = (history_agrees script kept h s low).present in
    let at = ap g.present same in
    omega (arith, above, present, at)

pub joined_none : (script : ScriptOf) → IsScript script → (h : List Event) (s e : ℕ) (x : LifeId) → s < places script → x ≡ ((world_after script h).switches s).life → ((world_after script h).switches s).joined ≡ false → HasJoined (game_after script h) x e → ⊥
joined_none script kept h s e x low same not_joined k =
    none_some (sym ((history_agrees script kept h s low).unjoined e not_joined) ∙ ap (λ y. (game_after script h).nodes y e) (sym same) ∙ k.1)

-- who has joined has joined
joined_more : (script : ScriptOf) → IsScript script → (h : List Event) (e : Event) (x : LifeId) (n : ℕ) → HasJoined (game_after script h) x n → HasJoined (game_after script (h ++ e ∷ [])) x n
joined_more script kept h e x n k =
    let g = game_after script h in
    let later = game_after script (h ++ e ∷ []) in
    let grown = has_grown (all_lives script) (slice n g) (slice n later) x k.0 (later_run (all_lives script) (powered script).epoch g later n (history_plays script kept h) (history_goes_on script kept h (e ∷ []))) k.1 in
    (grown.node, grown.joined)

-- An acknowledgement under way is for a life that has joined its epoch.
abbrev IsFor : Game → ℕ → List ℕ → Type 0
IsFor g queue b = (e n : ℕ) (from to : EndId) → frame_of b ≡ Some (Ack e from to n) → HasJoined g to.life e

for_more : (script : ScriptOf) → IsScript script → (h : List Event) (e : Event) (queue : ℕ) (b : List ℕ) → IsFor (game_after script h) queue b → IsFor (game_after script (h ++ e ∷ [])) queue b
for_more script kept h e queue b is n k from to read = joined_more script kept h e to.life n (is n k from to read)

for_none : (g : Game) (queue : ℕ) (b : List ℕ) → frame_of b ≡ None → IsFor g queue b
for_none g queue b none e n from to read = absurd (none_some (sym none ∙ read))

abbrev AreFor : ScriptOf → List Event → Type 0
AreFor script h = InQueues (IsFor (game_after script h)) (world_after script h).fabric.wires

-- what goes out
no_ack_for : (g : Game) (x : Sent) (first : WiresOf) (s : ℕ) → IsOut x → NoAck x → GoesTo (IsFor g) first s (spelled_out x)
no_ack_for g x first s out none link e n from to read =
    let same : x.frame ≡ Ack e from to n = some_same x.frame (Ack e from to n) (sym (frame_again x.frame out.frame_is) ∙ read) in
    absurd (false≢true (sym none ∙ ap is_an_ack same))

none_for : (g : Game) (xs : List Sent) (first : WiresOf) (s : ℕ) → AreFrames xs → Each NoAck xs → Each (GoesTo (IsFor g) first s) (all_spelled xs)
none_for g [] first s out none = tt
none_for g (x ∷ xs) first s out none = (no_ack_for g x first s out.0 none.0, none_for g xs first s out.1 none.1)

all_for : (g : Game) (xs : List Sent) (first : WiresOf) (s : ℕ) → ((x : Sent) → In x xs → (e n : ℕ) (from to : EndId) → x.frame ≡ Ack e from to n → HasJoined g to.life e) → AreFrames xs → Each (GoesTo (IsFor g) first s) (all_spelled xs)
all_for g [] first s each out = tt
all_for g (x ∷ xs) first s each out =
    (λ link e n from to read. each x (inl refl) e n from to (some_same x.frame (Ack e from to n) (sym (frame_again x.frame out.0.frame_is) ∙ read)), all_for g xs first s (λ y i. each y (inr i)) out.1)

-- a body that is answered is one of a life that has joined its epoch
pub held_joined : (script : ScriptOf) → IsScript script → (h : List Event) (s : ℕ) (f : CarryOf) → frame_of (held_bytes (world_after script h).fabric s) ≡ Some (Carry f) → HasJoined (game_after script h) f.from.life f.epoch
held_joined script kept h s f read =
    let w = world_after script h in
    each_index (λ b. frame_of b ≡ Some (Carry f) → HasJoined (game_after script h) f.from.life f.epoch) (hand_of w.fabric.wires s) 0 []
    (λ r. absurd (none_some (sym empty_none ∙ r)))
    (each_from_in (hand_of w.fabric.wires s) (λ b i r. carry_joined script kept h (place s 0) b f i r)) read
  where
    each_from_in : (xs : List (List ℕ)) → ((b : List ℕ) → In b xs → frame_of b ≡ Some (Carry f) → HasJoined (game_after script h) f.from.life f.epoch) → Each (λ b. frame_of b ≡ Some (Carry f) → HasJoined (game_after script h) f.from.life f.epoch) xs
    each_from_in xs each = Rattle.net_settling.proofs.Senders.each_of (λ b. frame_of b ≡ Some (Carry f) → HasJoined (game_after script h) f.from.life f.epoch) xs each

carry_for : (g : Game) (port : ℕ) (f : CarryOf) (u : SwitchOf) → HasJoined g f.from.life f.epoch → (x : Sent) → In x (framed port (Carry f) u).frames → (e n : ℕ) (from to : EndId) → x.frame ≡ Ack e from to n → HasJoined g to.life e
carry_for g port f u k x i e n from to is =
    let ack = carry_acks port f u x i (ap is_an_ack is) in
    let same : ◌≡◌ {A = Frame} (Ack e from to n) (Ack f.epoch (Rattle.switch_core.specs.Switch.end_at u port) f.from _) = sym is ∙ ap (λ (y : Sent). y.frame) ack.is in
    subst (λ (z : ℕ × EndId). HasJoined g z.1.life z.0) (sym (ap ack_parts same)) k
  where
    ack_parts : Frame → ℕ × EndId
    ack_parts (Ack e from to n) = (e, to)
    ack_parts (Carry f) = (0, f.to)
    ack_parts (Probe from nonce) = (0, from)
    ack_parts (Reply from to nonce) = (0, to)

handled_for : (script : ScriptOf) → IsScript script → (h : List Event) (s : ℕ) → s < places script → is_lawful (world_after script h).fabric (Handle s) ≡ true → (first : WiresOf) → Each (GoesTo (IsFor (game_after script (h ++ Handle s ∷ []))) first s) (all_spelled (handled s (world_after script h)).frames)
unfolding handles
handled_for script kept h s low lawful first = by (station w.fabric s).hand refl (handled_frames script kept h s low lawful)
  where
    w : WorldOf
    w = world_after script h

    g : Game
    g = game_after script (h ++ Handle s ∷ [])

    bytes : List ℕ
    bytes = held_bytes w.fabric s

    by_frame : (port : ℕ) (f : Frame) → frame_of bytes ≡ Some f → AreFrames (framed port f (w.switches s)).frames → Each (GoesTo (IsFor g) first s) (all_spelled (framed port f (w.switches s)).frames)
    by_frame port (Carry f) read out =
        all_for g (framed port (Carry f) (w.switches s)).frames first s (carry_for g port f (w.switches s) (joined_more script kept h (Handle s) f.from.life f.epoch (held_joined script kept h s f read))) out
    by_frame port (Ack epoch from to n) read out = none_for g (framed port (Ack epoch from to n) (w.switches s)).frames first s out (other_none port (Ack epoch from to n) (w.switches s) (λ f e. cc))
    by_frame port (Probe from nonce) read out = none_for g (framed port (Probe from nonce) (w.switches s)).frames first s out (other_none port (Probe from nonce) (w.switches s) (λ f e. cc))
    by_frame port (Reply from to nonce) read out = none_for g (framed port (Reply from to nonce) (w.switches s)).frames first s out (other_none port (Reply from to nonce) (w.switches s) (λ f e. cc))

    by_bytes : (port : ℕ) (o : Option Frame) → frame_of bytes ≡ o → AreFrames (handles_bytes port o (w.switches s)).frames → Each (GoesTo (IsFor g) first s) (all_spelled (handles_bytes port o (w.switches s)).frames)
    by_bytes port None read out = tt
    by_bytes port (Some f) read out = by_frame port f read out

    by : (x : Hand) → (station w.fabric s).hand ≡ x → AreFrames (handles x bytes (w.switches s)).frames → Each (GoesTo (IsFor g) first s) (all_spelled (handles x bytes (w.switches s)).frames)
    by hand.Empty is out = tt
    by (hand.Clock now samples) is out = none_for g (clocked now samples (w.switches s)).frames first s out (clocked_none now samples (w.switches s))
    by (hand.Frame port) is out = by_bytes port (frame_of bytes) refl out

loads_for : (P : ℕ → List ℕ → Type 0) (o : Option TopoOf) (s : ℕ) (w : WorldOf) → InQueues P w.fabric.wires → InQueues P (loads_with o s w).fabric.wires
loads_for P None s w all = all
loads_for P (Some topo) s w all = all

wires_for : (script : ScriptOf) → IsScript script → (h : List Event) (e : Event) → is_lawful (world_after script h).fabric e ≡ true → InQueues (IsFor (game_after script (h ++ e ∷ []))) (world_after script h).fabric.wires → InQueues (IsFor (game_after script (h ++ e ∷ []))) (effect e (world_after script h)).fabric.wires
unfolding effect
wires_for script kept h (Take t p) lawful now =
    let P = IsFor (game_after script (h ++ Take t p ∷ [])) in
    take_queue P (place t p) (place t 0) (world_after script h).fabric.wires (for_none (game_after script (h ++ Take t p ∷ [])) (place t p) [] empty_none) (λ b is. is) now
wires_for script kept h (Handle t) lawful now =
    let w = world_after script h in
    let P = IsFor (game_after script (h ++ Handle t ∷ [])) in
    let low = below script h t (handle_ready w.fabric t (lawful_is w.fabric (Handle t) lawful).ready).0 in
    let k = (station w.fabric t).hand in
    all_out_queue P w.fabric.wires t (all_spelled (handled t w).frames) (released k t w.fabric.wires) (released_fars k t w.fabric.wires) (released_queue P k t w.fabric.wires now) (handled_for script kept h t low lawful w.fabric.wires)
wires_for script kept h (Fail t p) lawful now = fail_queue (IsFor (game_after script (h ++ Fail t p ∷ []))) (place t p) (world_after script h).fabric.wires now
wires_for script kept h (Repair t p) lawful now = repair_queue (IsFor (game_after script (h ++ Repair t p ∷ []))) (place t p) (world_after script h).fabric.wires now
wires_for script kept h (Noise t p n) lawful now =
    let w = (world_after script h).fabric.wires in
    let P = IsFor (game_after script (h ++ Noise t p n ∷ [])) in
    put_queue P (place t p) (wire_out w t p) (noise n) w now (for_none (game_after script (h ++ Noise t p n ∷ [])) (wire_out w t p) (noise n) (noise_none n))
wires_for script kept h (Load t) lawful now = let w = world_after script h in loads_for (IsFor (game_after script (h ++ Load t ∷ []))) (finish_of (w.switches t)) t w now
wires_for script kept h e lawful now = now

first_for : (script : ScriptOf) → AreFor script []
unfolding world_after
first_for script queue = subst (Each (IsFor (game_after script []) queue)) (sym (first_empty script queue)) tt

all_are_for : (script : ScriptOf) → IsScript script → (h : List Event) → AreFor script h
all_are_for script kept = by_events (AreFor script) (first_for script) (λ h e old. subst (At h e) (sym (world_after-event script h e)) (by h e old (is_lawful (world_after script h).fabric e) refl))
  where
    At : List Event → Event → WorldOf → Type 0
    At h e w = InQueues (IsFor (game_after script (h ++ e ∷ []))) w.fabric.wires

    more : (h : List Event) (e : Event) → AreFor script h → At h e (world_after script h)
    more h e old queue = each_map (IsFor (game_after script h) queue) (IsFor (game_after script (h ++ e ∷ [])) queue) (wire_at (world_after script h).fabric.wires queue) (for_more script kept h e queue) (old queue)

    by : (h : List Event) (e : Event) → AreFor script h → (b : Bool) → is_lawful (world_after script h).fabric e ≡ b → At h e (step (world_after script h) e)
    by h e old true lawful = subst (At h e) (sym (step-lawful (world_after script h) e lawful)) (wires_for script kept h e lawful (more h e old))
    by h e old false unlawful = subst (At h e) (sym (step-unlawful (world_after script h) e unlawful)) (more h e old)

pub ack_joined : (script : ScriptOf) → IsScript script → (h : List Event) (queue : ℕ) (b : List ℕ) (e n : ℕ) (from to : EndId) → In b (wire_at (world_after script h).fabric.wires queue) → frame_of b ≡ Some (Ack e from to n) → HasJoined (game_after script h) to.life e
ack_joined script kept h queue b e n from to i read = each_in (IsFor (game_after script h) queue) (wire_at (world_after script h).fabric.wires queue) b (all_are_for script kept h queue) i e n from to read
