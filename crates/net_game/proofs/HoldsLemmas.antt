-- What holds of the network of all lives beside the world.

use Rattle.std.specs.Prelude.{◌≡◌, ◌≢◌, ◌⊎◌, ◌<◌, ◌≤◌, ◌+◌, ◌*◌, ◌^◌, ◌==◌, ℕ, zero, suc, length, cond, replicate, List, [], ◌∷◌, ◌++◌, slice_index_or, Bool, true, false, refl, All, Contains}
use Rattle.std.specs.Ordering.{is_eq}
use Rattle.std.proofs.Common.{sym, ◌∙◌, ap, subst, inl, inr, arith}
use Rattle.std.proofs.lemmas.Bool.{cond_both, eqb-true, eqb-false, eq-eqb, ne_eqb}
use Rattle.an_base.specs.Values.{LifeId}
use Rattle.an_base.specs.Order.{life_cmp}
use Rattle.an_base.specs.declared.frame.Frame.{Frame}
use Rattle.an_base.specs.declared.port.Sample.{Sample}
use Rattle.net_graph.specs.declared.wiring.SwitchAt.{SwitchAt}
use Rattle.frame_codec.specs.Frames.{IsWithin, IsCounted}
use Rattle.net_graph.specs.Wires.{IsWired, IsSwitch, uid_of, had_of}
use Rattle.net_graph.proofs.CollectLemmas.{uid_one}
use Rattle.net_script.specs.Scripts.{ScriptOf, IsScript}
use Rattle.wire_set.specs.WireState.{WiresOf}
use Rattle.wire_set.specs.WireState as wires
use Rattle.topo_report.proofs.Members.{In, contains_from}
use Rattle.epoch_game.specs.Game.{Game, begins, after_load}
use Rattle.epoch_game.proofs.Basics.{bool_cases}
use Rattle.switch_core.specs.Switch.{SwitchOf, started, at_port}
use Rattle.switch_core.specs.Steps.{Step, clocked, framed, loaded, still}
use Rattle.switch_game.specs.Network.{Happens, Network, clock_moves, clocks, dark, frame_moves, frames_of, hands, loads, none, stepped, with_switch}
use Rattle.switch_game.proofs.Laws.{life_of as life_kept}
use Rattle.net_state.specs.Fabric.{life_of}
use Rattle.net_world.specs.World.{started_at}
use Rattle.net_game.specs.Lives.{had_by, powered}
use Rattle.net_game.proofs.Firm.{places}
use Rattle.net_game.proofs.BytesLemmas.{OnWires}
use Rattle.net_game.proofs.RangedSwitch.{IsRanged, ranged_started}
use Rattle.net_game.proofs.KnownLemmas.{IsKnown}
use Rattle.an_base.proofs.LifeLemmas.{life_passes, same_life}
use Rattle.net_game.proofs.EachLemmas.{Each}

-- how lives are powered on is how the switches are started
had_is : (xs : List SwitchAt) (s : ℕ) → s < length xs → ((t : ℕ) → t < s → uid_of xs t ≢ uid_of xs s) → had_by xs (uid_of xs s) ≡ Rattle.std.specs.Prelude.unwrap_or (Rattle.std.specs.Option.option_map (λ x. x.had) (Rattle.std.specs.Prelude.slice_get xs s)) 1
had_is [] s low apart = absurd (omega arith)
had_is (x ∷ xs) zero low apart = ap (λ (b : Bool). cond b x.had (had_by xs x.uid)) (eq-eqb x.uid x.uid refl)
had_is (x ∷ xs) (suc s) low apart =
    ap (λ (b : Bool). cond b x.had (had_by xs (uid_of xs s))) (ne_eqb x.uid (uid_of xs s) (apart 0 (omega arith)))
    ∙ had_is xs s (omega arith) (λ t below. apart (suc t) (omega (arith, below)))

pub started_is : (script : ScriptOf) (s b : ℕ) → IsWired script.wires → s < places script → (dark (powered script)).switches (life_of script s b) ≡ started_at script s b
started_is script s b wired low =
    ap (λ (n : ℕ). started (life_of script s b) script.epoch n script.any_routes)
    (had_is script.wires.switches s low (λ t below same. let e = uid_one script.wires t s wired (omega (arith, below, low)) low same in omega (arith, e, below)))

-- a network of all lives has the switches of the places, and what is on the wires was sent in it
pub record Holds (script : ScriptOf) (lives : List LifeId) (switches : ℕ → SwitchOf) (wires : WiresOf) (v : Network) (g : Game) : Type 0 where
  pub happens : Happens lives (dark (powered script)) (begins (powered script).epoch) v g
  pub present : (s : ℕ) → s < places script → v.switches (switches s).life ≡ switches s
  pub uid : (s : ℕ) → s < places script → (switches s).life.uid ≡ uid_of script.wires.switches s
  pub coming : (s b : ℕ) → s < places script → (switches s).life.boot < b → v.switches (life_of script s b) ≡ started_at script s b
  pub heard : OnWires (IsKnown v.sent) wires
  pub ranged : (s : ℕ) → s < places script → IsRanged (switches s)

-- what a switch of a script is started with is within its ranges
switch_at : (xs : List SwitchAt) (s : ℕ) → s < length xs → All IsSwitch xs → (uid_of xs s < 2 ^ 48) × IsWithin 1 126 (Rattle.std.specs.Prelude.unwrap_or (Rattle.std.specs.Option.option_map (λ x. x.had) (Rattle.std.specs.Prelude.slice_get xs s)) 1)
switch_at [] s low all = absurd (omega (arith, low))
switch_at (x ∷ xs) zero low all = let is = all 0 x (omega arith) in (is.uid, (is.had_least, is.had_most))
switch_at (x ∷ xs) (suc s) low all = switch_at xs s (omega (arith, low)) (λ k d below. all (suc k) d (omega (arith, below)))

pub started_ranged : (script : ScriptOf) (s b : ℕ) → IsScript script → s < places script → IsCounted b → IsRanged (started_at script s b)
started_ranged script s b kept low boot =
    let is = switch_at script.wires.switches s low kept.wired.switches in
    ranged_started (life_of script s b) script.epoch (had_of script.wires s) script.any_routes (record { uid = is.0; boot = boot }) kept.epoch is.1

none_at : (P : List ℕ → Type 0) (n q : ℕ) → Each P (slice_index_or (replicate n []) q [])
none_at P zero q = tt
none_at P (suc n) zero = tt
none_at P (suc n) (suc q) = none_at P n q

pub begun_holds : (script : ScriptOf) (lives : List LifeId) → IsScript script → Holds script lives (λ s. started_at script s 1) (wires.start script.wires script.limits.blocks) (dark (powered script)) (begins (powered script).epoch)
begun_holds script lives kept = record {
  happens = none;
  present = λ s low. started_is script s 1 kept.wired low;
  uid = λ s low. refl;
  coming = λ s b low above. started_is script s b kept.wired low;
  heard = λ q. none_at (IsKnown []) (13 * places script) q;
  ranged = λ s low. started_ranged script s 1 kept low (omega arith, omega arith);
}

-- the switch of a life that took a step, and of another
pub switch_here : (sw : LifeId → SwitchOf) (x : LifeId) (s : SwitchOf) (y : LifeId) → x ≡ y → with_switch sw x s y ≡ s
switch_here sw x s y is = ap (λ (b : Bool). cond b s (sw y)) (life_passes x y is)

pub switch_else : (sw : LifeId → SwitchOf) (x : LifeId) (s : SwitchOf) (y : LifeId) → (x ≡ y → ⊥) → with_switch sw x s y ≡ sw y
switch_else sw x s y ne = by (bool_cases (is_eq (life_cmp x y)))
  where
    by : (is_eq (life_cmp x y) ≡ true) ⊎ (is_eq (life_cmp x y) ≡ false) → with_switch sw x s y ≡ sw y
    by (inl is) = absurd (ne (same_life x y is))
    by (inr is) = ap (λ (b : Bool). cond b s (sw y)) is

-- after a step of the switch at a place
pub step_holds : (script : ScriptOf) (lives : List LifeId) (switches : ℕ → SwitchOf) (old new : WiresOf) (v : Network) (g h : Game) (s : ℕ) (step : Step) → IsWired script.wires → s < places script → IsRanged step.switch → Holds script lives switches old v g
    → Happens lives (dark (powered script)) (begins (powered script).epoch) (stepped v (switches s).life step) h
    → OnWires (IsKnown (frames_of step.frames ++ v.sent)) new → Holds script lives (at_port s step.switch switches) new (stepped v (switches s).life step) h
step_holds script lives switches old new v g h s step wired low ranged holds happens known = record {
  happens = happens;
  present = λ t within. present_by t (t == s) refl within;
  uid = λ t within. uid_by t (t == s) refl within;
  coming = λ t b within above. coming_by t b (t == s) refl within above;
  heard = known;
  ranged = λ t within. cond_both (t == s) step.switch (switches t) IsRanged (λ _. ranged) (λ _. holds.ranged t within);
}
  where
    x : LifeId
    x = (switches s).life

    sw : LifeId → SwitchOf
    sw = with_switch v.switches x step.switch

    life : step.switch.life ≡ x
    life = sym (ap (λ (u : SwitchOf). u.life) (switch_here v.switches x step.switch x refl)) ∙ life_kept lives (powered script) (stepped v x step) h x happens

    apart : (t : ℕ) → t < places script → (t == s) ≡ false → (y : LifeId) → y.uid ≡ uid_of script.wires.switches t → x ≡ y → ⊥
    apart t within other y is same = eqb-false t s other (uid_one script.wires t s wired within low (sym is ∙ ap (λ (l : LifeId). l.uid) (sym same) ∙ holds.uid s low))

    present_by : (t : ℕ) (b : Bool) → (t == s) ≡ b → t < places script → sw (cond b step.switch (switches t)).life ≡ cond b step.switch (switches t)
    present_by t true is within = switch_here v.switches x step.switch step.switch.life (sym life)
    present_by t false is within = switch_else v.switches x step.switch (switches t).life (apart t within is (switches t).life (holds.uid t within)) ∙ holds.present t within

    uid_by : (t : ℕ) (b : Bool) → (t == s) ≡ b → t < places script → (cond b step.switch (switches t)).life.uid ≡ uid_of script.wires.switches t
    uid_by t true is within = ap (λ (l : LifeId). l.uid) life ∙ holds.uid s low ∙ ap (uid_of script.wires.switches) (sym (eqb-true t s is))
    uid_by t false is within = holds.uid t within

    coming_by : (t n : ℕ) (b : Bool) → (t == s) ≡ b → t < places script → (cond b step.switch (switches t)).life.boot < n → sw (life_of script t n) ≡ started_at script t n
    coming_by t n true is within above =
        let at : t ≡ s = eqb-true t s is in
        let same = ap (λ (l : LifeId). l.boot) life in
        let high : (switches s).life.boot < n = omega (arith, above, same) in
        switch_else v.switches x step.switch (life_of script t n) (λ e. let f = ap (λ (l : LifeId). l.boot) e in omega (arith, f, high))
        ∙ subst (λ (k : ℕ). v.switches (life_of script k n) ≡ started_at script k n) (sym at) (holds.coming s n low high)
    coming_by t n false is within above = switch_else v.switches x step.switch (life_of script t n) (apart t within is (life_of script t n) refl) ∙ holds.coming t n within above

-- after a restart at a place
pub restart_holds : (script : ScriptOf) (lives : List LifeId) (switches : ℕ → SwitchOf) (old : WiresOf) (v : Network) (g : Game) (s : ℕ) → (s < places script → IsRanged (started_at script s ((switches s).life.boot + 1))) → Holds script lives switches old v g
    → Holds script lives (at_port s (started_at script s ((switches s).life.boot + 1)) switches) old v g
restart_holds script lives switches old v g s ranged holds = record {
  happens = holds.happens;
  present = λ t within. present_by t (t == s) refl within;
  uid = λ t within. uid_by t (t == s) refl within;
  coming = λ t b within above. coming_by t b (t == s) refl within above;
  heard = holds.heard;
  ranged = λ t within. cond_both (t == s) (started_at script s n) (switches t) IsRanged (λ is. ranged (let at : t ≡ s = eqb-true t s is in omega (arith, at, within))) (λ _. holds.ranged t within);
}
  where
    n : ℕ
    n = (switches s).life.boot + 1

    present_by : (t : ℕ) (b : Bool) → (t == s) ≡ b → t < places script → v.switches (cond b (started_at script s n) (switches t)).life ≡ cond b (started_at script s n) (switches t)
    present_by t true is within = let at : t ≡ s = eqb-true t s is in holds.coming s n (omega (arith, at, within)) (omega arith)
    present_by t false is within = holds.present t within

    uid_by : (t : ℕ) (b : Bool) → (t == s) ≡ b → t < places script → (cond b (started_at script s n) (switches t)).life.uid ≡ uid_of script.wires.switches t
    uid_by t true is within = ap (uid_of script.wires.switches) (sym (eqb-true t s is))
    uid_by t false is within = holds.uid t within

    coming_by : (t k : ℕ) (b : Bool) → (t == s) ≡ b → t < places script → (cond b (started_at script s n) (switches t)).life.boot < k → v.switches (life_of script t k) ≡ started_at script t k
    coming_by t k true is within above = let at : t ≡ s = eqb-true t s is in let same = ap (λ (i : ℕ). (switches i).life.boot) at in holds.coming t k within (omega (arith, same, above))
    coming_by t k false is within above = holds.coming t k within above

-- what may happen to the switch at a place, in the network
pub can_clock : (lives : List LifeId) (a : Network) (b : Game) (v : Network) (g : Game) (x : LifeId) (u : SwitchOf) (now : ℕ) (samples : List Sample) → v.switches x ≡ u → Contains lives x → u.spent ≡ false → Happens lives a b v g
    → Happens lives a b (stepped v x (clocked now samples u)) (clock_moves x u (clocked now samples u).switch g)
can_clock lives a b v g x u now samples is among works before =
    subst (λ (s : SwitchOf). Happens lives a b (stepped v x (clocked now samples s)) (clock_moves x s (clocked now samples s).switch g)) is
    (clocks v g x now samples before among (ap (λ (s : SwitchOf). s.spent) is ∙ works))

pub can_hand : (lives : List LifeId) (a : Network) (b : Game) (v : Network) (g : Game) (x : LifeId) (u : SwitchOf) (port : ℕ) (f : Frame) → v.switches x ≡ u → Contains lives x → u.spent ≡ false → 1 ≤ port → port ≤ 12 → In f v.sent → Happens lives a b v g
    → Happens lives a b (stepped v x (framed port f u)) (frame_moves x port f u g)
can_hand lives a b v g x u port f is among works least most was before =
    subst (λ (s : SwitchOf). Happens lives a b (stepped v x (framed port f s)) (frame_moves x port f s g)) is
    (hands v g x port f before among (ap (λ (s : SwitchOf). s.spent) is ∙ works) least most (contains_from f v.sent was))

pub can_load : (lives : List LifeId) (a : Network) (b : Game) (v : Network) (g : Game) (x : LifeId) (u : SwitchOf) (number : ℕ) → v.switches x ≡ u → Contains lives x → u.load_due ≡ true → Happens lives a b v g
    → Happens lives a b (stepped v x (still (loaded number u))) (after_load g x)
can_load lives a b v g x u number is among due before =
    subst (λ (s : SwitchOf). Happens lives a b (stepped v x (still (loaded number s))) (after_load g x)) is
    (loads v g x number before among (ap (λ (s : SwitchOf). s.load_due) is ∙ due))
