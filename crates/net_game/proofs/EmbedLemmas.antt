-- Each history of the world is one of the network, moment by moment.

use Rattle.std.specs.Prelude.{◌≡◌, ◌⊎◌, ◌<◌, ℕ, cond, map, List, [], ◌∷◌, ◌++◌, Option, Some, None, Bool, true, false, refl}
use Rattle.std.proofs.Common.{sym, ◌∙◌, ap, subst, inl, inr, append_assoc}
use Rattle.std.proofs.lemmas.List.{append-nil}
use Rattle.an_base.specs.Values.{LifeId}
use Rattle.an_base.specs.declared.event.Event.{Event}
use Rattle.an_base.specs.declared.frame.Frame.{Frame}
use Rattle.net_script.specs.Scripts.{ScriptOf, IsScript}
use Rattle.frame_codec.specs.Reading.{frame_of}
use Rattle.wire_set.specs.WireState.{place, hand_of}
use Rattle.topo_report.proofs.Members.{In, in_from}
use Rattle.epoch_game.specs.Game.{Game}
use Rattle.epoch_game.proofs.Basics.{none_some}
use Rattle.switch_game.specs.Network.{Happens, Network, dark, none, clocks, hands, loads}
use Rattle.net_state.specs.declared.hand.Hand.{Hand}
use Rattle.net_state.specs.declared.hand.Hand.TheVariants as hand
use Rattle.net_state.specs.Fabric.{station, held_bytes}
use Rattle.net_world.specs.Heard.{ActAt, acts_of, at_place, handles_as, WasSent, IsHeard}
use Rattle.net_world.specs.Acts.{Act, Starts, Clocks, Hears, HearsNothing, Loads, hears}
use Rattle.net_state.specs.Lawful.{is_lawful}
use Rattle.net_world.specs.World.{WorldOf, after_all, begun, step, world_after}
use Rattle.net_world.proofs.WorldLemmas.{world_after-event, step-lawful, step-unlawful}
use Rattle.net_game.specs.Embedding.{IsIn, IsMoment, IsEmbedded}
use Rattle.net_game.specs.Lives.{powered}
use Rattle.net_game.specs.Moves.{all_moves, event_moves, first_game, game_after, moves_of}
use Rattle.net_game.proofs.Firm.{IsFirm, AreFirm, places}
use Rattle.net_game.proofs.RangedSwitch.{IsRanged}
use Rattle.net_game.proofs.KnownLemmas.{IsKnown, known_sent, empty_none}
use Rattle.net_game.proofs.HoldsLemmas.{Holds, begun_holds}
use Rattle.net_world.proofs.SpentLemmas.{AreEmptyIfSpent, begun_empty, effect_empty}
use Rattle.net_game.proofs.PortFacts.{external}
use Rattle.net_game.proofs.EffectLemmas.{IsSentBy, effect_goes}
use Rattle.net_world.proofs.InductionLemmas.{effect_script}
use Rattle.net_game.proofs.EachLemmas.{each_index}

-- what happens in turn
pub happens_trans : (lives : List LifeId) (a : Network) (b : Game) (v : Network) (g : Game) (w : Network) (h : Game) → Happens lives a b v g → Happens lives v g w h → Happens lives a b w h
happens_trans lives a b v g _ _ first none = first
happens_trans lives a b v g _ _ first (clocks w h x now samples more among works) = clocks w h x now samples (happens_trans lives a b v g w h first more) among works
happens_trans lives a b v g _ _ first (hands w h x port frame more among works least most was) = hands w h x port frame (happens_trans lives a b v g w h first more) among works least most was
happens_trans lives a b v g _ _ first (loads w h x number more among due) = loads w h x number (happens_trans lives a b v g w h first more) among due

-- a front of a list with one more
head_or : {A : Type 0} → A → List A → A
head_or d [] = d
head_or d (x ∷ xs) = x

tail : {A : Type 0} → List A → List A
tail [] = []
tail (x ∷ xs) = xs

snoc_split : {A : Type 0} (h before later : List A) (e : A) → h ++ e ∷ [] ≡ before ++ later → (before ≡ h ++ e ∷ []) ⊎ ((rest : List A) × (h ≡ before ++ rest))
unfolding head_or tail
snoc_split h [] later e is = inr (h, refl)
snoc_split [] (b ∷ bs) later e is = inl (by bs (ap (head_or e) is) (ap tail is))
  where
    by : (cs : List _) → e ≡ b → [] ≡ cs ++ later → b ∷ cs ≡ e ∷ []
    by [] same nil = ap (λ x. x ∷ []) (sym same)
    by (c ∷ cs) same nil = absurd cc
snoc_split (x ∷ xs) (b ∷ bs) later e is = by (snoc_split xs bs later e (ap tail is)) (ap (head_or e) is)
  where
    by : (bs ≡ xs ++ e ∷ []) ⊎ ((rest : List _) × (xs ≡ bs ++ rest)) → x ≡ b → (b ∷ bs ≡ x ∷ xs ++ e ∷ []) ⊎ ((rest : List _) × (x ∷ xs ≡ b ∷ bs ++ rest))
    by (inl same) head = inl (λ i. sym head i ∷ same i)
    by (inr r) head = inr (r.0, λ i. head i ∷ r.1 i)

-- the state of the embedding after a history, in a world, with a game
pub record State (script : ScriptOf) (lives : List LifeId) (h : List Event) (w : WorldOf) (g : Game) : Type 0 where
  pub network : Network
  pub script_is : w.fabric.script ≡ script
  pub empty : AreEmptyIfSpent w.fabric
  pub holds : Holds script lives w.switches w.fabric.wires network g
  pub was : (f : Frame) → In f network.sent → WasSent script h f

-- what was sent before one more event, or by it
sent_before : (script : ScriptOf) (h : List Event) (e : Event) (f : Frame) → WasSent script h f → WasSent script (h ++ e ∷ []) f
sent_before script h e f k =
    let parts = ap (λ (l : List Event). l ++ e ∷ []) k.parts ∙ append_assoc k.before (k.event ∷ k.later) (e ∷ []) in
    record { before = k.before; event = k.event; later = k.later ++ e ∷ []; parts = parts; lawful = k.lawful; act = k.act; acts = k.acts; sent = k.sent; is_frame = k.is_frame; goes_out = k.goes_out }

sent_now : (script : ScriptOf) (h : List Event) (e : Event) (f : Frame) → is_lawful (world_after script h).fabric e ≡ true → IsSentBy (world_after script h) e f → WasSent script (h ++ e ∷ []) f
sent_now script h e f lawful k = record { before = h; event = e; later = []; parts = refl; lawful = lawful; act = k.act; acts = k.acts; sent = k.sent; is_frame = k.is_frame; goes_out = k.goes_out }

-- one more event
pub event_game : (script : ScriptOf) (h : List Event) (e : Event) → game_after script (h ++ e ∷ []) ≡ event_moves (world_after script h) e (game_after script h)
unfolding world_after game_after
event_game script h e = moves_append h (e ∷ []) (begun script) (first_game script)
  where
    moves_append : (h more : List Event) (w : WorldOf) (g : Game) → moves_of w (h ++ more) g ≡ moves_of (after_all h w) more (moves_of w h g)
    moves_append [] more w g = refl
    moves_append (x ∷ h) more w g = moves_append h more (step w x) (event_moves w x g)

pub game_next : (script : ScriptOf) (h : List Event) (e : Event) (b : Bool) → is_lawful (world_after script h).fabric e ≡ b
    → game_after script (h ++ e ∷ []) ≡ cond b (all_moves (acts_of (world_after script h) e) (world_after script h).switches (game_after script h)) (game_after script h)
game_next script h e b is =
    let w = world_after script h in
    let g = game_after script h in
    event_game script h e ∙ ap (λ (x : Bool). cond x (all_moves (acts_of w e) w.switches g) g) is

Next : (script : ScriptOf) (lives : List LifeId) (h : List Event) (e : Event) → State script lives h (world_after script h) (game_after script h) → WorldOf → Game → Type 0
Next script lives h e old w g = (new : State script lives (h ++ e ∷ []) w g) × Happens lives old.network (game_after script h) new.network g

state_next : (script : ScriptOf) (lives : List LifeId) → IsScript script → AreFirm script lives → (h : List Event) (e : Event) (old : State script lives h (world_after script h) (game_after script h))
    → Next script lives h e old (world_after script (h ++ e ∷ [])) (game_after script (h ++ e ∷ []))
unfolding Next
state_next script lives kept firm h e old = by (is_lawful w.fabric e) refl
  where
    w : WorldOf
    w = world_after script h

    g : Game
    g = game_after script h

    by : (b : Bool) → is_lawful w.fabric e ≡ b → Next script lives h e old (world_after script (h ++ e ∷ [])) (game_after script (h ++ e ∷ []))
    by true lawful =
        let n = effect_goes script lives w old.network g e (record { script_is = old.script_is; kept = kept; firm = firm h; empty = old.empty; port = external script kept h; holds = old.holds }) (subst (IsFirm script lives) (world_after-event script h e ∙ step-lawful w e lawful) (firm (h ++ e ∷ []))) lawful in
        subst (Next script lives h e old (world_after script (h ++ e ∷ []))) (sym (game_next script h e true lawful))
        (subst (λ (x : WorldOf). Next script lives h e old x (all_moves (acts_of w e) w.switches g)) (sym (world_after-event script h e ∙ step-lawful w e lawful)) (
          record {
            network = n.network;
            script_is = effect_script e w ∙ old.script_is;
            empty = effect_empty e w lawful old.empty;
            holds = n.holds;
            was = λ f i. elim (n.sent f i) [ inl j ↦ sent_before script h e f (old.was f j) | inr k ↦ sent_now script h e f lawful k ];
          },
          n.more,
        ))
    by false unlawful =
        subst (Next script lives h e old (world_after script (h ++ e ∷ []))) (sym (game_next script h e false unlawful))
        (subst (λ (x : WorldOf). Next script lives h e old x g) (sym (world_after-event script h e ∙ step-unlawful w e unlawful))
        (record { network = old.network; script_is = old.script_is; empty = old.empty; holds = old.holds; was = λ f i. sent_before script h e f (old.was f i) }, none))

is_in : (script : ScriptOf) (lives : List LifeId) (h : List Event) (s : State script lives h (world_after script h) (game_after script h)) → IsIn script lives h s.network
is_in script lives h s = record {
  happens = s.holds.happens;
  switches = s.holds.present;
  uid = s.holds.uid;
  coming = s.holds.coming;
  was_sent = λ f has. s.was f (in_from f s.network.sent has);
}

-- the states of all moments
pub record Chain (script : ScriptOf) (lives : List LifeId) (h : List Event) : Type 0 where
  pub state : State script lives h (world_after script h) (game_after script h)
  pub moments : (before later : List Event) → h ≡ before ++ later → IsMoment script lives before h state.network

chain_next : (script : ScriptOf) (lives : List LifeId) → IsScript script → AreFirm script lives → (h : List Event) (e : Event) → Chain script lives h → Chain script lives (h ++ e ∷ [])
unfolding Next
chain_next script lives kept firm h e chain = record { state = new.0; moments = λ before later is. by before (snoc_split h before later e is) }
  where
    new : Next script lives h e chain.state (world_after script (h ++ e ∷ [])) (game_after script (h ++ e ∷ []))
    new = state_next script lives kept firm h e chain.state

    by : (before : List Event) → (before ≡ h ++ e ∷ []) ⊎ ((rest : List Event) × (h ≡ before ++ rest)) → IsMoment script lives before (h ++ e ∷ []) new.0.network
    by before (inl same) = subst (λ (b : List Event). IsMoment script lives b (h ++ e ∷ []) new.0.network) (sym same)
        (record { earlier = new.0.network; is_in = is_in script lives (h ++ e ∷ []) new.0; since = none })
    by before (inr r) =
        let m = chain.moments before r.0 r.1 in
        record { earlier = m.earlier; is_in = m.is_in; since = happens_trans lives m.earlier (game_after script before) chain.state.network (game_after script h) new.0.network (game_after script (h ++ e ∷ [])) m.since new.1 }

pub first_is : (script : ScriptOf) → game_after script [] ≡ first_game script
unfolding game_after
first_is script = refl

state_first : (script : ScriptOf) (lives : List LifeId) → IsScript script → State script lives [] (world_after script []) (first_game script)
unfolding world_after
state_first script lives kept = record {
  network = dark (powered script);
  script_is = refl;
  empty = begun_empty script;
  holds = begun_holds script lives kept;
  was = λ f i. absurd i;
}

chain_first : (script : ScriptOf) (lives : List LifeId) → IsScript script → Chain script lives []
chain_first script lives kept = record { state = first; moments = λ before later is. by before later is }
  where
    first : State script lives [] (world_after script []) (game_after script [])
    first = subst (State script lives [] (world_after script [])) (sym (first_is script)) (state_first script lives kept)

    by : (before later : List Event) → [] ≡ before ++ later → IsMoment script lives before [] first.network
    by [] later is = record { earlier = first.network; is_in = is_in script lives [] first; since = none }
    by (b ∷ before) later is = absurd cc

chain_more : (script : ScriptOf) (lives : List LifeId) → IsScript script → AreFirm script lives → (more h : List Event) → Chain script lives h → Chain script lives (h ++ more)
chain_more script lives kept firm [] h chain = subst (Chain script lives) (sym (append-nil h)) chain
chain_more script lives kept firm (e ∷ more) h chain =
    subst (Chain script lives) (append_assoc h (e ∷ []) more) (chain_more script lives kept firm more (h ++ e ∷ []) (chain_next script lives kept firm h e chain))

pub chain_of : (script : ScriptOf) (lives : List LifeId) → IsScript script → AreFirm script lives → (h : List Event) → Chain script lives h
chain_of script lives kept firm h = chain_more script lives kept firm h [] (chain_first script lives kept)

-- Each history of the world is one of a network that plays the game, moment by moment
pub embedded : (script : ScriptOf) (lives : List LifeId) → IsScript script → AreFirm script lives → (h : List Event) → IsEmbedded script lives h
embedded script lives kept firm h =
    let chain = chain_of script lives kept firm h in
    record { network = chain.state.network; is_in = is_in script lives h chain.state; moments = chain.moments }

-- and each switch is within the ranges of frames
pub all_ranged : (script : ScriptOf) (lives : List LifeId) → IsScript script → AreFirm script lives → (h : List Event) (s : ℕ) → s < places script → IsRanged ((world_after script h).switches s)
all_ranged script lives kept firm h s low = (chain_of script lives kept firm h).state.holds.ranged s low

-- a frame that is heard
frame_in : Act → Option Frame
frame_in (Starts next) = None
frame_in (Clocks now samples) = None
frame_in (Hears port frame) = Some frame
frame_in HearsNothing = None
frame_in (Loads number) = None

heard_in : List ActAt → Option Frame
heard_in [] = None
heard_in (a ∷ more) = frame_in a.act

heard_as : (s port : ℕ) (frame : Frame) (h : Hand) (bytes : List ℕ) → map (at_place s) (handles_as h bytes) ≡ at_place s (Hears port frame) ∷ [] → frame_of bytes ≡ Some frame
unfolding frame_in heard_in
heard_as s port frame hand.Empty bytes is = absurd (none_some (ap heard_in is))
heard_as s port frame (hand.Clock now samples) bytes is = absurd (none_some (ap heard_in is))
heard_as s port frame (hand.Frame p) bytes is = sym (by (frame_of bytes)) ∙ ap heard_in is
  where
    by : (o : Option Frame) → heard_in (at_place s (hears p o) ∷ []) ≡ o
    by None = refl
    by (Some f) = refl

-- each frame that a switch handles was sent by some switch before
pub is_heard : (script : ScriptOf) (lives : List LifeId) → IsScript script → AreFirm script lives → (h : List Event) → IsHeard script h
is_heard script lives kept firm h s port frame acts =
    let state = (chain_of script lives kept firm h).state in
    let w = world_after script h in
    let bytes = held_bytes w.fabric s in
    let known = each_index (IsKnown state.network.sent) (hand_of w.fabric.wires s) 0 [] (inr empty_none) (state.holds.heard (place s 0)) in
    state.was frame (known_sent state.network.sent bytes frame known (heard_as s port frame (station w.fabric s).hand bytes acts))
