-- A spent switch has nothing in hand.

use Rattle.std.specs.Prelude.{◌≡◌, ◌⊎◌, ◌<◌, ◌≤◌, ◌||◌, not, ℕ, zero, suc, length, List, [], ◌∷◌, Option, Some, None, slice_index_or, slice_set, Bool, true, false, refl}
use Rattle.std.specs.List.{list_any}
use Rattle.std.proofs.Common.{true≢false, sym, ◌∙◌, ap, subst, inl, inr, arith}
use Rattle.std.proofs.lemmas.Bool.{false≢true, or_parts, not-true, cases_eq, cases_lt}
use Rattle.std.proofs.lemmas.List.{get_or-set_other, get_or-set_same, get_or_past, length-set}
use Rattle.an_base.specs.Values.{TopoOf}
use Rattle.an_base.specs.declared.event.Event.{Event}
use Rattle.an_base.specs.declared.event.Event.TheVariants.{Clock, Take, Handle, Load, Restart}
use Rattle.net_script.specs.Scripts.{ScriptOf}
use Rattle.switch_core.specs.Switch.{finish_of}
use Rattle.net_state.specs.Fabric.{FabricOf, StationOf, station, vacant, with_station, is_empty, is_full_at, is_some_spent}
use Rattle.net_state.specs.Lawful.{is_lawful, is_barred}
use Rattle.net_state.proofs.LawfulLemmas.{lawful_is}
use Rattle.net_world.specs.World.{WorldOf, effect, begun, loads_with, world_after}
use Rattle.net_world.proofs.InductionLemmas.{always}

-- what stands at a place after one of them changed
pub station_cases : (f : FabricOf) (s t : ℕ) (x : StationOf) → (station (with_station s x f) t ≡ x) ⊎ (station (with_station s x f) t ≡ station f t)
station_cases f s t x = by (cases_eq t s) (cases_lt t (length f.stations))
  where
    by : (t ≡ s) ⊎ (t ≡ s → ⊥) → (t < length f.stations) ⊎ (length f.stations ≤ t) → (station (with_station s x f) t ≡ x) ⊎ (station (with_station s x f) t ≡ station f t)
    by (inl is) (inl low) = inl (ap (λ n. slice_index_or (slice_set f.stations n x) t vacant) (sym is) ∙ get_or-set_same f.stations t x vacant low)
    by (inl is) (inr past) = inr (get_or_past (slice_set f.stations s x) t vacant (omega (arith, past, length-set f.stations s x)) ∙ sym (get_or_past f.stations t vacant past))
    by (inr other) low = inr (get_or-set_other f.stations s t x vacant other)

-- a spent switch has nothing in hand
abbrev pub IsEmptyIfSpent : StationOf → Type 0
IsEmptyIfSpent x = x.spent ≡ true → is_empty x.hand ≡ true

abbrev pub AreEmptyIfSpent : FabricOf → Type 0
AreEmptyIfSpent f = (s : ℕ) → IsEmptyIfSpent (station f s)

empty_with : (f : FabricOf) (s : ℕ) (x : StationOf) → AreEmptyIfSpent f → IsEmptyIfSpent x → AreEmptyIfSpent (with_station s x f)
empty_with f s x old new t = by (station_cases f s t x)
  where
    by : (station (with_station s x f) t ≡ x) ⊎ (station (with_station s x f) t ≡ station f t) → IsEmptyIfSpent (station (with_station s x f) t)
    by (inl is) = subst IsEmptyIfSpent (sym is) new
    by (inr is) = subst IsEmptyIfSpent (sym is) (old t)

none_spent : (xs : List StationOf) (s : ℕ) → list_any (λ x. x.spent) xs ≡ false → (slice_index_or xs s vacant).spent ≡ false
none_spent [] s none = refl
none_spent (x ∷ xs) zero none = (or_parts x.spent (list_any (λ x. x.spent) xs) none).0
none_spent (x ∷ xs) (suc s) none = none_spent xs s (or_parts x.spent (list_any (λ x. x.spent) xs) none).1

barred_none : (f : FabricOf) (s : ℕ) → (false || not (is_barred f)) ≡ true → (station f s).spent ≡ false
barred_none f s unbarred = none_spent f.stations s (or_parts (is_some_spent f) _ (not-true (is_barred f) unbarred)).0

loads_empty : (topo : Option TopoOf) (s : ℕ) (w : WorldOf) → AreEmptyIfSpent w.fabric → AreEmptyIfSpent (loads_with topo s w).fabric
loads_empty None s w old = old
loads_empty (Some topo) s w old = empty_with w.fabric s _ old (old s)

pub effect_empty : (e : Event) (w : WorldOf) → is_lawful w.fabric e ≡ true → AreEmptyIfSpent w.fabric → AreEmptyIfSpent (effect e w).fabric
unfolding effect
effect_empty (Clock s) w lawful old = empty_with w.fabric s _ old (λ is. absurd (true≢false (sym is ∙ barred_none w.fabric s (lawful_is w.fabric (Clock s) lawful).allowed)))
effect_empty (Take s p) w lawful old = empty_with w.fabric s _ old (λ is. absurd (true≢false (sym is ∙ barred_none w.fabric s (lawful_is w.fabric (Take s p) lawful).allowed)))
effect_empty (Handle s) w lawful old = empty_with w.fabric s _ old (λ is. refl)
effect_empty (Load s) w lawful old = loads_empty (finish_of (w.switches s)) s w old
effect_empty (Restart s) w lawful old = empty_with w.fabric s _ old (λ is. absurd (false≢true is))
effect_empty e w lawful old = old

-- at first nothing is spent
begun_at : (f : ℕ → StationOf) (xs : List ℕ) (s : ℕ) → ((n : ℕ) → (f n).spent ≡ false) → (slice_index_or (Rattle.std.specs.Prelude.map f xs) s vacant).spent ≡ false
begun_at f [] s all = refl
begun_at f (x ∷ xs) zero all = all x
begun_at f (x ∷ xs) (suc s) all = begun_at f xs s all

pub begun_empty : (script : ScriptOf) → AreEmptyIfSpent (begun script).fabric
begun_empty script s = λ is. absurd (true≢false (sym is ∙ begun_at _ _ s (λ n. refl)))

-- a spent switch handles nothing
pub full_unspent : (f : FabricOf) (s : ℕ) → AreEmptyIfSpent f → is_full_at f s ≡ true → (station f s).spent ≡ false
full_unspent f s old full = by (station f s).spent refl
  where
    by : (b : Bool) → (station f s).spent ≡ b → (station f s).spent ≡ false
    by true is = absurd (true≢false (sym (old s is) ∙ not-true (is_empty (station f s).hand) full))
    by false is = is

-- in each world that is reached
pub world_empty : (script : ScriptOf) (h : List Event) → AreEmptyIfSpent (world_after script h).fabric
world_empty script h = always script (λ w. AreEmptyIfSpent w.fabric) (begun_empty script) (λ g e lawful old. effect_empty e (world_after script g) lawful old) h
