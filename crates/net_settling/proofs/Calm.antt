-- What holds after each tick and is kept by each event that does not disturb holds from the first tick after the
-- last disturbance on, while no switch is spent.

use Rattle.std.specs.Prelude.{◌≡◌, ◌⊎◌, ◌≤◌, ◌<◌, ◌&&◌, ◌||◌, ℕ, zero, suc, List, [], ◌∷◌, ◌++◌, slice_index_or, Bool, true, false, cond, refl}
use Rattle.std.specs.List.{list_any}
use Rattle.std.proofs.Common.{◌∙◌, inl, inr, sym, ap, subst, arith}
use Rattle.std.proofs.lemmas.Bool.{true≢false, or_parts, cases_eq, cases_lt}
use Rattle.std.proofs.lemmas.List.{get_or-set_other}
use Rattle.an_base.specs.declared.event.Event.{Event}
use Rattle.an_base.specs.declared.event.Event.TheVariants.{Tick, Clock, Take, Handle, Load, Fail, Repair, Lose, Again, Swap, Noise, Send, Move, Restart}
use Rattle.net_script.specs.Scripts.{ScriptOf}
use Rattle.net_state.specs.Fabric.{FabricOf, StationOf, station, vacant, is_some_spent}
use Rattle.net_state.specs.Lawful.{is_lawful}
use Rattle.net_state.proofs.LawfulLemmas.{lawful_is, next_open}
use Rattle.net_state.proofs.ReadyLemmas.{handle_ready}
use Rattle.net_world.specs.Lines.{lines_of}
use Rattle.net_world.specs.World.{WorldOf, effect, world_after}
use Rattle.net_world.proofs.WorldLemmas.{world_after-event, step-lawful, step-unlawful}
use Rattle.net_world.proofs.SpentLemmas.{full_unspent, world_empty}
use Rattle.net_game.proofs.HistoryLemmas.{by_events}
use Rattle.net_settling.specs.Disturbances.{is_either, is_of_script, loses, disturbs, last_disturbance}
use Rattle.net_settling.proofs.Since.{last_more, disturbance_past}
use Rattle.net_settling.proofs.Times.{IsStepOf, step_of}

-- the tick of the last disturbance, losses for want of room among them
abbrev pub last : ScriptOf → List Event → ℕ
last script h = last_disturbance is_either script h

-- spent switches
spent_none : (xs : List StationOf) → ((s : ℕ) → (slice_index_or xs s vacant).spent ≡ false) → list_any (λ x. x.spent) xs ≡ false
spent_none [] all = refl
spent_none (x ∷ xs) all = ap (λ b. b || list_any (λ y. y.spent) xs) (all 0) ∙ spent_none xs (λ s. all (suc s))

none_spent : (xs : List StationOf) (s : ℕ) → list_any (λ x. x.spent) xs ≡ false → (slice_index_or xs s vacant).spent ≡ false
none_spent [] s none = refl
none_spent (x ∷ xs) zero none = (or_parts x.spent (list_any (λ x. x.spent) xs) none).0
none_spent (x ∷ xs) (suc s) none = none_spent xs s (or_parts x.spent (list_any (λ x. x.spent) xs) none).1

pub unspent_here : (f : FabricOf) (s : ℕ) → is_some_spent f ≡ false → (station f s).spent ≡ false
unspent_here f s none = none_spent f.stations s none

pub none_spent_from : (f : FabricOf) → ((s : ℕ) → (station f s).spent ≡ false) → is_some_spent f ≡ false
none_spent_from f all = spent_none f.stations all

handled_before : (script : ScriptOf) (h : List Event) (t : ℕ) → is_lawful (world_after script h).fabric (Handle t) ≡ true → is_some_spent (effect (Handle t) (world_after script h)).fabric ≡ false → is_some_spent (world_after script h).fabric ≡ false
unfolding effect
handled_before script h t lawful none = none_spent_from f (λ s. by s (cases_eq s t))
  where
    f : FabricOf
    f = (world_after script h).fabric

    by : (s : ℕ) → (s ≡ t) ⊎ (s ≡ t → ⊥) → (station f s).spent ≡ false
    by s (inl same) = ap (λ n. (station f n).spent) same ∙ full_unspent f t (world_empty script h) (handle_ready f t (lawful_is f (Handle t) lawful).ready).1
    by s (inr other) =
        ap (λ (x : StationOf). x.spent) (sym (get_or-set_other f.stations t s _ vacant other))
        ∙ unspent_here (effect (Handle t) (world_after script h)).fabric s none

-- where no switch is spent after an event, none was before it, but for a restart
pub unspent_before : (script : ScriptOf) (h : List Event) (e : Event) → is_lawful (world_after script h).fabric e ≡ true → is_some_spent (effect e (world_after script h)).fabric ≡ false → is_some_spent (world_after script h).fabric ≡ false
unspent_before script h (Handle t) lawful none = handled_before script h t lawful none
unspent_before script h Tick lawful none = let f = (world_after script h).fabric in (next_open f Tick (lawful_is f Tick lawful) refl).unspent
unspent_before script h (Clock s) lawful none = let f = (world_after script h).fabric in (next_open f (Clock s) (lawful_is f (Clock s) lawful) refl).unspent
unspent_before script h (Take s p) lawful none = let f = (world_after script h).fabric in (next_open f (Take s p) (lawful_is f (Take s p) lawful) refl).unspent
unspent_before script h (Load s) lawful none = let f = (world_after script h).fabric in (next_open f (Load s) (lawful_is f (Load s) lawful) refl).unspent
unspent_before script h (Fail s p) lawful none = let f = (world_after script h).fabric in (next_open f (Fail s p) (lawful_is f (Fail s p) lawful) refl).unspent
unspent_before script h (Repair s p) lawful none = let f = (world_after script h).fabric in (next_open f (Repair s p) (lawful_is f (Repair s p) lawful) refl).unspent
unspent_before script h (Lose s p n) lawful none = let f = (world_after script h).fabric in (next_open f (Lose s p n) (lawful_is f (Lose s p n) lawful) refl).unspent
unspent_before script h (Again s p n) lawful none = let f = (world_after script h).fabric in (next_open f (Again s p n) (lawful_is f (Again s p n) lawful) refl).unspent
unspent_before script h (Swap s p n) lawful none = let f = (world_after script h).fabric in (next_open f (Swap s p n) (lawful_is f (Swap s p n) lawful) refl).unspent
unspent_before script h (Noise s p n) lawful none = let f = (world_after script h).fabric in (next_open f (Noise s p n) (lawful_is f (Noise s p n) lawful) refl).unspent
unspent_before script h (Send a b) lawful none = let f = (world_after script h).fabric in (next_open f (Send a b) (lawful_is f (Send a b) lawful) refl).unspent
unspent_before script h (Move k) lawful none = let f = (world_after script h).fabric in (next_open f (Move k) (lawful_is f (Move k) lawful) refl).unspent
unspent_before script h (Restart s) lawful none = let f = (world_after script h).fabric in (next_open f (Restart s) (lawful_is f (Restart s) lawful) refl).unspent

-- a tick disturbs nothing
tick_quiet : (w : WorldOf) → disturbs is_either w Tick ≡ false
unfolding lines_of
tick_quiet w = by (is_lawful w.fabric Tick)
  where
    by : (b : Bool) → (b && false) ≡ false
    by true = refl
    by false = refl

-- the last disturbance after one event more
pub disturbed_now : (script : ScriptOf) (h : List Event) (e : Event) → disturbs is_either (world_after script h) e ≡ true → last script (h ++ e ∷ []) ≡ (world_after script h).fabric.tick
disturbed_now script h e is = last_more (disturbs is_either) script h e ∙ ap (λ b. cond b (world_after script h).fabric.tick (last script h)) is

pub undisturbed_now : (script : ScriptOf) (h : List Event) (e : Event) → disturbs is_either (world_after script h) e ≡ false → last script (h ++ e ∷ []) ≡ last script h
undisturbed_now script h e is = last_more (disturbs is_either) script h e ∙ ap (λ b. cond b (world_after script h).fabric.tick (last script h)) is

-- an event that comes about, does not disturb, and leaves no switch spent
pub record IsCalm (script : ScriptOf) (h : List Event) (e : Event) : Type 0 where
  pub lawful : is_lawful (world_after script h).fabric e ≡ true
  pub quiet : disturbs is_either (world_after script h) e ≡ false
  pub works : is_some_spent (world_after script h).fabric ≡ false
  pub works_on : is_some_spent (effect e (world_after script h)).fabric ≡ false
  pub later : last script h < (world_after script h).fabric.tick

abbrev Begins : ScriptOf → (ℕ → WorldOf → Type 0) → Type 0
Begins script P = (h : List Event) → is_lawful (world_after script h).fabric Tick ≡ true → is_some_spent (world_after script h).fabric ≡ false → (world_after script h).fabric.tick ≡ last script h → P (last script h) (effect Tick (world_after script h))

abbrev GoesOn : ScriptOf → (ℕ → WorldOf → Type 0) → Type 0
GoesOn script P = (h : List Event) (e : Event) → IsCalm script h e → P (last script h) (world_after script h) → P (last script h) (effect e (world_after script h))

abbrev HoldsAt : ScriptOf → (ℕ → WorldOf → Type 0) → List Event → Type 0
HoldsAt script P h = is_some_spent (world_after script h).fabric ≡ false → last script h < (world_after script h).fabric.tick → P (last script h) (world_after script h)

next_lawful : (script : ScriptOf) (P : ℕ → WorldOf → Type 0) → Begins script P → GoesOn script P → (h : List Event) (e : Event) → is_lawful (world_after script h).fabric e ≡ true → HoldsAt script P h
    → is_some_spent (effect e (world_after script h)).fabric ≡ false → last script (h ++ e ∷ []) < (effect e (world_after script h)).fabric.tick → P (last script (h ++ e ∷ [])) (effect e (world_after script h))
next_lawful script P begins goes h e lawful old works above = by (disturbs is_either w e) refl (step_of e w)
  where
    w : WorldOf
    w = world_after script h

    works_here : is_some_spent w.fabric ≡ false
    works_here = unspent_before script h e lawful works

    by_age : disturbs is_either w e ≡ false → (e ≡ Tick) ⊎ IsStepOf e w (effect e w) → (last script h < w.fabric.tick) ⊎ (w.fabric.tick ≤ last script h) → P (last script h) (effect e w)
    by_age quiet kind (inl later) = goes h e (record { lawful = lawful; quiet = quiet; works = works_here; works_on = works; later = later }) (old works_here later)
    by_age quiet (inl is) (inr now) = subst (λ x. P (last script h) (effect x w)) (sym is) (begins h (subst (λ x. is_lawful w.fabric x ≡ true) is lawful) works_here (let low = disturbance_past is_either script h in omega (arith, now, low)))
    by_age quiet (inr step) (inr now) =
        let tick = step.tick in
        let same = undisturbed_now script h e quiet in
        absurd (omega (arith, above, tick, same, now))

    by : (b : Bool) → disturbs is_either w e ≡ b → (e ≡ Tick) ⊎ IsStepOf e w (effect e w) → P (last script (h ++ e ∷ [])) (effect e w)
    by true is (inl tick) = absurd (true≢false (sym is ∙ ap (disturbs is_either w) tick ∙ tick_quiet w))
    by true is (inr step) =
        let tick = step.tick in
        let now = disturbed_now script h e is in
        absurd (omega (arith, above, tick, now))
    by false is kind = subst (λ n. P n (effect e w)) (sym (undisturbed_now script h e is)) (by_age is kind (cases_lt (last script h) w.fabric.tick))

next : (script : ScriptOf) (P : ℕ → WorldOf → Type 0) → Begins script P → GoesOn script P → (h : List Event) (e : Event) → HoldsAt script P h → HoldsAt script P (h ++ e ∷ [])
next script P begins goes h e old = by (is_lawful w.fabric e) refl
  where
    w : WorldOf
    w = world_after script h

    At : ℕ → WorldOf → Type 0
    At n v = is_some_spent v.fabric ≡ false → n < v.fabric.tick → P n v

    by : (b : Bool) → is_lawful w.fabric e ≡ b → HoldsAt script P (h ++ e ∷ [])
    by true lawful = subst (At (last script (h ++ e ∷ []))) (sym (world_after-event script h e ∙ step-lawful w e lawful)) (next_lawful script P begins goes h e lawful old)
    by false unlawful =
        let quiet : disturbs is_either w e ≡ false = ap (λ b. b && (is_of_script e || loses is_either w e)) unlawful in
        subst (At (last script (h ++ e ∷ []))) (sym (world_after-event script h e ∙ step-unlawful w e unlawful))
        (subst (λ n. At n w) (sym (undisturbed_now script h e quiet)) old)

first_calm : (script : ScriptOf) (P : ℕ → WorldOf → Type 0) → HoldsAt script P []
unfolding world_after
first_calm script P works above = absurd (let low : 0 < 0 = above in omega (arith, low))

pub calmly : (script : ScriptOf) (P : ℕ → WorldOf → Type 0) → Begins script P → GoesOn script P → (h : List Event) → HoldsAt script P h
calmly script P begins goes = by_events (HoldsAt script P) (first_calm script P) (next script P begins goes)
