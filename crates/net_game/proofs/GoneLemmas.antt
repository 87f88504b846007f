-- A life that is gone makes no further move.

use Rattle.std.specs.Prelude.{◌≡◌, ◌<◌, ◌≤◌, ◌==◌, nat_lt, ℕ, map, cond, List, [], ◌∷◌, ◌++◌, Option, Some, None, Bool, true, false, refl}
use Rattle.std.proofs.Common.{sym, ◌∙◌, ap, subst, arith, append_assoc}
use Rattle.std.proofs.lemmas.Bool.{cond_both, eqb-true}
use Rattle.std.proofs.lemmas.List.{append-nil}
use Rattle.an_base.specs.Values.{LifeId, TopoOf}
use Rattle.an_base.specs.Frames.{CarryOf}
use Rattle.an_base.specs.declared.body.Body.{Body}
use Rattle.an_base.specs.declared.event.Event.{Event}
use Rattle.an_base.specs.declared.event.Event.TheVariants.{Handle, Load, Restart}
use Rattle.an_base.specs.declared.frame.Frame.{Frame}
use Rattle.an_base.specs.declared.frame.Frame.TheVariants.{Carry, Ack, Probe, Reply}
use Rattle.net_graph.specs.Wires.{uid_of}
use Rattle.net_graph.proofs.CollectLemmas.{uid_one}
use Rattle.net_script.specs.Scripts.{ScriptOf, IsScript}
use Rattle.frame_codec.specs.Reading.{frame_of}
use Rattle.epoch_core.specs.Log.{CardOf, Log}
use Rattle.epoch_game.specs.Game.{Game, after_accept, after_join}
use Rattle.switch_core.specs.Switch.{SwitchOf, counts, finish_of}
use Rattle.switch_core.specs.Steps.{clocked, joins, loaded}
use Rattle.switch_game.specs.Network.{all_accepted, body_moves, carry_moves, clock_moves, frame_moves}
use Rattle.switch_game.proofs.Moves.{join_elsewhere, load_elsewhere, node_elsewhere}
use Rattle.net_state.specs.declared.hand.Hand.{Hand}
use Rattle.net_state.specs.declared.hand.Hand.TheVariants as hand
use Rattle.table_build.specs.Made.{number_in}
use Rattle.net_world.specs.Acts.{Act, Starts, Clocks, Hears, HearsNothing, Loads, hears}
use Rattle.net_world.specs.Heard.{acts_of, at_place, handles_as, loads_as}
use Rattle.net_state.specs.Fabric.{station, held_bytes, life_of}
use Rattle.net_state.specs.Lawful.{is_lawful}
use Rattle.net_world.specs.World.{WorldOf, effect, handled, loads_with, next_life, world_after}
use Rattle.net_world.proofs.WorldLemmas.{world_after-event, step-lawful, step-unlawful}
use Rattle.net_world.proofs.LawLemmas.{world_is_sound}
use Rattle.net_game.specs.Moves.{HasRested, act_moves, all_moves, game_after}
use Rattle.net_game.proofs.Firm.{places}
use Rattle.net_state.proofs.LawfulLemmas.{lawful_is}
use Rattle.net_state.proofs.ReadyLemmas.{handle_ready, load_ready}
use Rattle.net_world.proofs.PlaceLemmas.{switch_below}
use Rattle.net_game.proofs.TableFacts.{handled_on}
use Rattle.net_game.proofs.EmbedLemmas.{game_next}
use Rattle.ordered_link.specs.Receiving.{accepted_by}

-- no move of another life is one of this
rested : (y : LifeId) (g : Game) → HasRested y g g
rested y g = record { present = refl; nodes = λ e. refl; loaded = λ e. refl }

rested_then : (y : LifeId) (f g h : Game) → HasRested y f g → HasRested y g h → HasRested y f h
rested_then y f g h a b = record { present = b.present ∙ a.present; nodes = λ e. b.nodes e ∙ a.nodes e; loaded = λ e. b.loaded e ∙ a.loaded e }

join_rests : (x y : LifeId) → (x ≡ y → ⊥) → (g : Game) (e : ℕ) (c : CardOf) → HasRested y g (after_join g x e c)
join_rests x y ne g e c = let k = join_elsewhere g x e c in record { present = k.present y ne; nodes = λ f. k.nodes y f ne; loaded = λ f. k.loaded y f ne }

accepts_rest : (x y : LifeId) → (x ≡ y → ⊥) → (port : ℕ) (bodies : List Body) (card : CardOf) (log : Log) (g : Game) → HasRested y g (all_accepted x port bodies card log g)
accepts_rest x y ne port [] card log g = rested y g
accepts_rest x y ne port (body ∷ bodies) card log g =
    let next = after_accept g x (record { card = card; log = log }) port body in
    let more = record { port = port; body = body } ∷ log in
    rested_then y g next (all_accepted x port bodies card more next)
    (record { present = refl; nodes = λ f. node_elsewhere g (g.present x) x (record { card = card; log = more }) y f ne; loaded = λ f. refl })
    (accepts_rest x y ne port bodies card more next)

body_rests : (x y : LifeId) → (x ≡ y → ⊥) → (port k : ℕ) (body : Body) (s : SwitchOf) (g : Game) → HasRested y g (body_moves x port k body s g)
body_rests x y ne port k body s g = accepts_rest x y ne port (accepted_by k body (s.receivings port)) s.card s.log g

carry_rests : (x y : LifeId) → (x ≡ y → ⊥) → (port : ℕ) (f : CarryOf) (s : SwitchOf) (g : Game) → HasRested y g (carry_moves x port f s g)
carry_rests x y ne port f s g =
    let j = (joins f.epoch s).switch in
    let joined = after_join g x f.epoch j.card in
    cond_both (nat_lt s.epoch f.epoch) (body_moves x port f.number f.body j joined) (cond (f.epoch == s.epoch) (body_moves x port f.number f.body s g) g) (HasRested y g)
    (λ _. rested_then y g joined (body_moves x port f.number f.body j joined) (join_rests x y ne g f.epoch j.card) (body_rests x y ne port f.number f.body j joined))
    (λ _. cond_both (f.epoch == s.epoch) (body_moves x port f.number f.body s g) g (HasRested y g) (λ _. body_rests x y ne port f.number f.body s g) (λ _. rested y g))

frame_rests : (x y : LifeId) → (x ≡ y → ⊥) → (port : ℕ) (f : Frame) (s : SwitchOf) (g : Game) → HasRested y g (frame_moves x port f s g)
frame_rests x y ne port (Carry f) s g = cond_both (counts s port f.from f.to) (carry_moves x port f s g) g (HasRested y g) (λ _. carry_rests x y ne port f s g) (λ _. rested y g)
frame_rests x y ne port (Ack epoch from to n) s g = rested y g
frame_rests x y ne port (Probe from nonce) s g = rested y g
frame_rests x y ne port (Reply from to nonce) s g = rested y g

clock_rests : (x y : LifeId) → (x ≡ y → ⊥) → (before s : SwitchOf) (g : Game) → HasRested y g (clock_moves x before s g)
clock_rests x y ne before s g = cond_both (before.epoch == s.epoch) g (after_join g x s.epoch s.card) (HasRested y g) (λ _. rested y g) (λ _. join_rests x y ne g s.epoch s.card)

act_rests : (a : Act) (u : SwitchOf) (y : LifeId) → (u.life ≡ y → ⊥) → (g : Game) → HasRested y g (act_moves a u g)
act_rests (Starts next) u y ne g = rested y g
act_rests (Clocks now samples) u y ne g = clock_rests u.life y ne u (clocked now samples u).switch g
act_rests (Hears port frame) u y ne g = frame_rests u.life y ne port frame u g
act_rests HearsNothing u y ne g = rested y g
act_rests (Loads number) u y ne g = let k = load_elsewhere g u.life in record { present = k.present y ne; nodes = λ f. k.nodes y f ne; loaded = λ f. k.loaded y f ne }

-- what is in hand, and a load
hand_rests : (h : Hand) (bytes : List ℕ) (t : ℕ) (switches : ℕ → SwitchOf) (y : LifeId) → ((switches t).life ≡ y → ⊥) → (g : Game) → HasRested y g (all_moves (map (at_place t) (handles_as h bytes)) switches g)
hand_rests hand.Empty bytes t switches y ne g = rested y g
hand_rests (hand.Clock now samples) bytes t switches y ne g = act_rests (Clocks now samples) (switches t) y ne g
hand_rests (hand.Frame port) bytes t switches y ne g = act_rests (hears port (frame_of bytes)) (switches t) y ne g

load_rests : (o : Option TopoOf) (t : ℕ) (switches : ℕ → SwitchOf) (y : LifeId) → ((switches t).life ≡ y → ⊥) → (g : Game) → HasRested y g (all_moves (map (at_place t) (loads_as o (switches t).life)) switches g)
load_rests None t switches y ne g = rested y g
load_rests (Some topo) t switches y ne g = act_rests (Loads (number_in topo (switches t).life)) (switches t) y ne g

-- a life that is gone is none of the present ones
gone_apart : (script : ScriptOf) → IsScript script → (h : List Event) (s b t : ℕ) → s < places script → t < places script → b < ((world_after script h).switches s).life.boot → ((world_after script h).switches t).life ≡ life_of script s b → ⊥
gone_apart script kept h s b t low within gone same =
    let at = (world_is_sound script kept h).places t within in
    let uid : uid_of script.wires.switches t ≡ uid_of script.wires.switches s = ap (λ (l : LifeId). l.uid) (sym at.life ∙ same) in
    let place : t ≡ s = uid_one script.wires t s kept.wired within low uid in
    let boot : ((world_after script h).switches t).life.boot ≡ b = ap (λ (l : LifeId). l.boot) same in
    let here = ap (λ (n : ℕ). ((world_after script h).switches n).life.boot) place in
    omega (arith, boot, here, gone)

lawful_rests : (script : ScriptOf) → IsScript script → (h : List Event) (e : Event) (s b : ℕ) (g : Game) → s < places script → b < ((world_after script h).switches s).life.boot → is_lawful (world_after script h).fabric e ≡ true
    → HasRested (life_of script s b) g (all_moves (acts_of (world_after script h) e) (world_after script h).switches g)
lawful_rests script kept h (Handle t) s b g low gone lawful =
    let w = world_after script h in
    let ready = handle_ready w.fabric t (lawful_is w.fabric (Handle t) lawful).ready in
    hand_rests (station w.fabric t).hand (held_bytes w.fabric t) t w.switches (life_of script s b) (gone_apart script kept h s b t low (switch_below script h t ready.0) gone) g
lawful_rests script kept h (Load t) s b g low gone lawful =
    let w = world_after script h in
    let ready = load_ready w.fabric t (lawful_is w.fabric (Load t) lawful).ready in
    load_rests (finish_of (w.switches t)) t w.switches (life_of script s b) (gone_apart script kept h s b t low (switch_below script h t ready.0) gone) g
lawful_rests script kept h e s b g low gone lawful = rested (life_of script s b) g

-- boots only rise
loads_boot : (o : Option TopoOf) (t s : ℕ) (w : WorldOf) → (w.switches s).life.boot ≤ ((loads_with o t w).switches s).life.boot
loads_boot None t s w = omega arith
loads_boot (Some topo) t s w =
    let u = loaded (number_in topo (w.switches t).life) (w.switches t) in
    cond_both (s == t) u (w.switches s) (λ (v : SwitchOf). (w.switches s).life.boot ≤ v.life.boot)
    (λ is. let same = ap (λ (n : ℕ). (w.switches n).life.boot) (eqb-true s t is) in omega (arith, same)) (λ _. omega arith)

pub boot_rises : (e : Event) (s : ℕ) (w : WorldOf) → (w.switches s).life.boot ≤ ((effect e w).switches s).life.boot
unfolding effect
boot_rises (Handle t) s w =
    cond_both (s == t) (handled t w).switch (w.switches s) (λ (v : SwitchOf). (w.switches s).life.boot ≤ v.life.boot)
    (λ is. let same = ap (λ (n : ℕ). (w.switches n).life.boot) (eqb-true s t is) in let stays = ap (λ (l : LifeId). l.boot) (handled_on t w).life_is in omega (arith, same, stays)) (λ _. omega arith)
boot_rises (Load t) s w = loads_boot (finish_of (w.switches t)) t s w
boot_rises (Restart t) s w =
    cond_both (s == t) (next_life t w) (w.switches s) (λ (v : SwitchOf). (w.switches s).life.boot ≤ v.life.boot)
    (λ is. let same = ap (λ (n : ℕ). (w.switches n).life.boot) (eqb-true s t is) in omega (arith, same)) (λ _. omega arith)
boot_rises e s w = omega arith

-- so after one more event, and after more
record IsGone (script : ScriptOf) (s b : ℕ) (h next : List Event) : Type 0 where
  rests : HasRested (life_of script s b) (game_after script h) (game_after script next)
  gone : b < ((world_after script next).switches s).life.boot

gone_next : (script : ScriptOf) → IsScript script → (h : List Event) (e : Event) (s b : ℕ) → s < places script → b < ((world_after script h).switches s).life.boot → IsGone script s b h (h ++ e ∷ [])
gone_next script kept h e s b low gone = by (is_lawful w.fabric e) refl
  where
    w : WorldOf
    w = world_after script h

    g : Game
    g = game_after script h

    by : (t : Bool) → is_lawful w.fabric e ≡ t → IsGone script s b h (h ++ e ∷ [])
    by true is = record {
      rests = subst (HasRested (life_of script s b) g) (sym (game_next script h e true is)) (lawful_rests script kept h e s b g low gone is);
      gone = subst (λ (v : WorldOf). b < (v.switches s).life.boot) (sym (world_after-event script h e ∙ step-lawful w e is)) (let up = boot_rises e s w in omega (arith, up, gone));
    }
    by false is = record {
      rests = subst (HasRested (life_of script s b) g) (sym (game_next script h e false is)) (rested (life_of script s b) g);
      gone = subst (λ (v : WorldOf). b < (v.switches s).life.boot) (sym (world_after-event script h e ∙ step-unlawful w e is)) gone;
    }

pub gone_rests : (script : ScriptOf) → IsScript script → (h more : List Event) (s b : ℕ) → s < places script → b < ((world_after script h).switches s).life.boot → HasRested (life_of script s b) (game_after script h) (game_after script (h ++ more))
gone_rests script kept h [] s b low gone = subst (λ (l : List Event). HasRested (life_of script s b) (game_after script h) (game_after script l)) (sym (append-nil h)) (rested (life_of script s b) (game_after script h))
gone_rests script kept h (e ∷ more) s b low gone =
    let one = gone_next script kept h e s b low gone in
    subst (λ (l : List Event). HasRested (life_of script s b) (game_after script h) (game_after script l)) (append_assoc h (e ∷ []) more)
    (rested_then (life_of script s b) (game_after script h) (game_after script (h ++ e ∷ [])) (game_after script ((h ++ e ∷ []) ++ more)) one.rests (gone_rests script kept (h ++ e ∷ []) more s b low one.gone))
