-- What each event is ready for.

use Rattle.std.specs.Prelude.{◌≡◌, ◌⊎◌, ◌&&◌, ◌||◌, ◌<◌, ◌≤◌, ℕ, nat_lt, not, List, length, cond, slice_set, slice_index_or, is_some, Bool, true, false, refl}
use Rattle.std.proofs.Common.{sym, ◌∙◌, ap, subst, inl, inr, arith, true≢false}
use Rattle.std.proofs.lemmas.Bool.{and_parts, not-true, ltb-true, ltb-false, leb-false, cases_eq, cases_lt}
use Rattle.std.proofs.lemmas.List.{get_or-set_other, get_or-set_same, get_or_past}
use Rattle.std.proofs.lemmas.List.Sums.{get_or-le-sum_by}
use Rattle.std.proofs.lemmas.List.Folds.{list_any_at}
use Rattle.an_base.specs.declared.event.Event.TheVariants.{Clock, Take, Handle, Load, Restart}
use Rattle.net_state.specs.declared.hand.Hand.{Hand}
use Rattle.net_state.specs.declared.hand.Hand.TheVariants as hand
use Rattle.net_state.specs.Fabric.{FabricOf, StationOf, station, vacant, is_empty, is_full_at, full_hands, is_switch, is_external}
use Rattle.net_state.specs.Fabric.{clock_due_at, has_frame, is_some_spent, due_command, is_some_packet, is_some_clock_due}
use Rattle.net_state.specs.Fabric.{are_wires_empty, is_some_load_due}
use Rattle.net_state.specs.Lawful.{is_command, is_tick_due, is_paced, is_ready}
use Rattle.net_state.proofs.LawfulLemmas.{external_is}

-- what is in hand
pub empty_is : (h : Hand) → is_empty h ≡ true → h ≡ hand.Empty
empty_is hand.Empty is = refl
empty_is (hand.Clock now samples) is = absurd (true≢false (sym is))
empty_is (hand.Frame p) is = absurd (true≢false (sym is))

pub not_full : (h : Hand) → not (is_empty h) ≡ false → h ≡ hand.Empty
not_full hand.Empty is = refl
not_full (hand.Clock now samples) is = absurd (true≢false is)
not_full (hand.Frame p) is = absurd (true≢false is)

pub empty_at : (f : FabricOf) (s : ℕ) → is_full_at f s ≡ false → (station f s).hand ≡ hand.Empty
empty_at f s is = not_full (station f s).hand is

-- where no hand is full each is empty
pub all_empty : (f : FabricOf) → full_hands f ≡ 0 → (s : ℕ) → (station f s).hand ≡ hand.Empty
all_empty f none s = by (cases_lt s (length f.stations)) where
  count : (b : Bool) → not (is_empty (station f s).hand) ≡ b → cond b 1 0 ≤ 0 → (station f s).hand ≡ hand.Empty
  count true is le = absurd (omega (arith, le))
  count false is le = not_full (station f s).hand is

  by : (s < length f.stations) ⊎ (length f.stations ≤ s) → (station f s).hand ≡ hand.Empty
  by (inl below) =
      let le : cond (not (is_empty (station f s).hand)) 1 0 ≤ full_hands f = get_or-le-sum_by (λ (x : StationOf). cond (not (is_empty x.hand)) 1 0) f.stations s vacant below in
      count (not (is_empty (station f s).hand)) refl (subst (λ (n : ℕ). cond (not (is_empty (station f s).hand)) 1 0 ≤ n) none le)
  by (inr past) = ap (λ (x : StationOf). x.hand) (get_or_past f.stations s vacant past)

pub set_one : (P : StationOf → Type 0) (stations : List StationOf) (t s : ℕ) (x : StationOf)
    → s < length stations → (s ≡ t → P x) → P (slice_index_or stations s vacant) → P (slice_index_or (slice_set stations t x) s vacant)
set_one P stations t s x below here there = by (cases_eq s t) where
  by : (s ≡ t) ⊎ (s ≡ t → ⊥) → P (slice_index_or (slice_set stations t x) s vacant)
  by (inl same) = subst P (sym (ap (λ k. slice_index_or (slice_set stations t x) k vacant) same ∙ get_or-set_same stations t x vacant (omega (arith, below, same)))) (here same)
  by (inr other) = subst P (sym (get_or-set_other stations t s x vacant other)) there

-- a tick: all hands are empty
pub tick_is : (f : FabricOf) → is_tick_due f ≡ true → (full_hands f ≡ 0) × (f.tick < f.script.limits.ticks)
tick_is f due = by (not (is_some (due_command f))) (not (is_some_packet f)) (not (is_some_clock_due f)) ((are_wires_empty f && not (is_some_load_due f)) || is_paced f.script.pace f.since) due where
  by : (a b c d : Bool) → (a && b && not (nat_lt 0 (full_hands f)) && c && nat_lt f.tick f.script.limits.ticks && d) ≡ true → (full_hands f ≡ 0) × (f.tick < f.script.limits.ticks)
  by a b c d all =
      let p1 = and_parts (a && b && not (nat_lt 0 (full_hands f)) && c && nat_lt f.tick f.script.limits.ticks) d all in
      let p2 = and_parts (a && b && not (nat_lt 0 (full_hands f)) && c) (nat_lt f.tick f.script.limits.ticks) p1.0 in
      let p3 = and_parts (a && b && not (nat_lt 0 (full_hands f))) c p2.0 in
      let p4 = and_parts (a && b) (not (nat_lt 0 (full_hands f))) p3.0 in
      let none : full_hands f ≤ 0 = ltb-false 0 (full_hands f) (not-true (nat_lt 0 (full_hands f)) p4.1) in
      (omega (arith, none), ltb-true f.tick f.script.limits.ticks p2.1)

-- and no clock is due
pub tick_none_due : (f : FabricOf) → is_tick_due f ≡ true → is_some_clock_due f ≡ false
tick_none_due f due = by (not (is_some (due_command f)) && not (is_some_packet f) && not (nat_lt 0 (full_hands f))) (nat_lt f.tick f.script.limits.ticks) ((are_wires_empty f && not (is_some_load_due f)) || is_paced f.script.pace f.since) due where
  by : (a b c : Bool) → (a && not (is_some_clock_due f) && b && c) ≡ true → is_some_clock_due f ≡ false
  by a b c all =
      let p1 = and_parts (a && not (is_some_clock_due f) && b) c all in
      let p2 = and_parts (a && not (is_some_clock_due f)) b p1.0 in
      not-true (is_some_clock_due f) (and_parts a (not (is_some_clock_due f)) p2.0).1

-- what events of switches are ready for
pub clock_ready : (f : FabricOf) (s : ℕ) → is_ready f (Clock s) ≡ true → (is_switch f s ≡ true) × (is_full_at f s ≡ false) × (clock_due_at f s ≡ true)
clock_ready f s is =
    let outer = and_parts (is_switch f s && not (is_full_at f s)) (clock_due_at f s) is in
    let inner = and_parts (is_switch f s) (not (is_full_at f s)) outer.0 in
    (inner.0, not-true (is_full_at f s) inner.1, outer.1)

pub load_ready : (f : FabricOf) (s : ℕ) → is_ready f (Load s) ≡ true → (is_switch f s ≡ true) × (is_full_at f s ≡ false) × ((station f s).note.load_due ≡ true)
load_ready f s is =
    let outer = and_parts (is_switch f s && not (is_full_at f s)) (station f s).note.load_due is in
    let inner = and_parts (is_switch f s) (not (is_full_at f s)) outer.0 in
    (inner.0, not-true (is_full_at f s) inner.1, outer.1)

pub handle_ready : (f : FabricOf) (s : ℕ) → is_ready f (Handle s) ≡ true → (is_switch f s ≡ true) × (is_full_at f s ≡ true)
handle_ready f s is = and_parts (is_switch f s) (is_full_at f s) is

pub restart_ready : (f : FabricOf) (s : ℕ) → is_ready f (Restart s) ≡ true → (is_command f (Restart s) ≡ true) × (is_full_at f s ≡ false)
restart_ready f s is = let parts = and_parts (is_command f (Restart s)) (not (is_full_at f s)) is in (parts.0, not-true (is_full_at f s) parts.1)

pub record IsTakeReady (f : FabricOf) (s p : ℕ) : Type 0 where
  pub switch : is_switch f s ≡ true
  pub least : 1 ≤ p
  pub most : p ≤ 12
  pub empty : is_full_at f s ≡ false
  pub later : f.tick < (station f s).clock
  pub frame : has_frame f s p ≡ true

pub take_ready : (f : FabricOf) (s p : ℕ) → is_ready f (Take s p) ≡ true → IsTakeReady f s p
take_ready f s p is =
    let p1 = and_parts (is_switch f s && is_external p && not (is_full_at f s) && not (clock_due_at f s)) (has_frame f s p) is in
    let p2 = and_parts (is_switch f s && is_external p && not (is_full_at f s)) (not (clock_due_at f s)) p1.0 in
    let p3 = and_parts (is_switch f s && is_external p) (not (is_full_at f s)) p2.0 in
    let p4 = and_parts (is_switch f s) (is_external p) p3.0 in
    let port = external_is p p4.1 in
    record { switch = p4.0; least = port.0; most = port.1; empty = not-true (is_full_at f s) p3.1; later = leb-false (station f s).clock f.tick (not-true (clock_due_at f s) p2.1); frame = p1.1 }

-- no switch is spent where none of them is
pub unspent_at : (f : FabricOf) (s : ℕ) → is_some_spent f ≡ false → s < length f.stations → (station f s).spent ≡ false
unspent_at f s none below = by (station f s).spent refl where
  by : (b : Bool) → (station f s).spent ≡ b → (station f s).spent ≡ false
  by false is = is
  by true is = absurd (true≢false (sym (list_any_at (λ (x : StationOf). x.spent) f.stations s vacant below is) ∙ none))
