-- When an end has come, and what is known where none has.

use Rattle.std.specs.Prelude.{◌≡◌, ◌==◌, ◌&&◌, ◌||◌, ◌<◌, ◌≤◌, ℕ, suc, nat_lt, not, List, [], ◌∷◌, length, cond, find, slice_index_or, Option, Some, None, is_some, Bool, true, false, refl}
use Rattle.std.specs.List.{list_any}
use Rattle.std.specs.Option.{option_map, option_map_or, option_and_then}
use Rattle.std.proofs.Common.{sym, ◌∙◌, ap, arith, true≢false}
use Rattle.std.proofs.lemmas.Bool.{and_parts, or_parts, not-true, ltb-false, lt-ltb, le-ltb}
use Rattle.std.proofs.lemmas.List.Sums.{get_or-le-sum_by}
use Rattle.std.proofs.lemmas.Map.Text.{is_eq-slice_cmp}
use Rattle.std.specs.Cmp.Lexicographic.{bytes_decides}
use Rattle.an_base.specs.Values.{LifeId}
use Rattle.an_base.specs.declared.event.Event.{Event}
use Rattle.net_state.specs.declared.ending.Ending.{Ending}
use Rattle.net_state.specs.declared.ending.Ending.TheVariants as ending
use Rattle.net_script.specs.declared.command.Command.{Command}
use Rattle.net_state.specs.Fabric.{FabricOf, StationOf, vacant, full_hands, room, next_command, if_due, due_command, are_all_done, are_wires_empty, is_empty, is_full_at, is_some_spent, is_some_clock_due, is_some_load_due, is_some_packet, is_some_unacked}
use Rattle.net_state.specs.Agree.{agrees, ending_of, ending_by, first_spent, is_idle, is_quiet, is_settled, is_unsettled}
use Rattle.net_state.specs.Lawful.{event_code, is_same_event, is_command}
use Rattle.net_state.proofs.LawfulLemmas.{IsOpen}

abbrev ends_by : Option LifeId → Bool → Bool → Bool → Option Ending
ends_by (Some life) s r u = Some (ending.Spent life)
ends_by None s r u = cond s (Some ending.Settled) (cond r (Some ending.Full) (cond u (Some ending.Unsettled) None))

ends_is : (f : FabricOf) (o : Option LifeId) → ending_by o f ≡ ends_by o (is_settled f) (nat_lt (room f) 2) (is_unsettled f)
ends_is f None = refl
ends_is f (Some life) = refl

abbrev not_unacked : FabricOf → Bool
not_unacked f = not (is_some_unacked f)

abbrev one : Bool → ℕ
one b = cond b 1 0

-- where none passes a test, none is found
pub find_none : {X : Type 0} (p : X → Bool) (xs : List X) → list_any p xs ≡ false → find p xs ≡ None
find_none p [] none = refl
find_none p (x ∷ xs) none = let parts = or_parts (p x) (list_any p xs) none in ap (λ b. cond b (Some x) (find p xs)) parts.0 ∙ find_none p xs parts.1

pub any_found : {X : Type 0} (p : X → Bool) (xs : List X) → list_any p xs ≡ true → is_some (find p xs) ≡ true
any_found p [] some = absurd (true≢false (sym some))
any_found p (x ∷ xs) some = by (p x) refl (any_found p xs) where
  by : (b : Bool) → p x ≡ b → (list_any p xs ≡ true → is_some (find p xs) ≡ true) → is_some (find p (x ∷ xs)) ≡ true
  by true is rest = ap (λ b. is_some (cond b (Some x) (find p xs))) is
  by false is rest = ap (λ b. is_some (cond b (Some x) (find p xs))) is ∙ rest (sym (ap (λ b. b || list_any p xs) is) ∙ some)

-- the place of one that passes a test
pub record IsAtPlace {X : Type 0} (p : X → Bool) (xs : List X) (d : X) : Type 0 where
  pub at : ℕ
  pub below : at < length xs
  pub passes : p (slice_index_or xs at d) ≡ true

pub any_at : {X : Type 0} (p : X → Bool) (xs : List X) (d : X) → list_any p xs ≡ true → IsAtPlace p xs d
any_at p [] d some = absurd (true≢false (sym some))
any_at p (x ∷ xs) d some = by (p x) refl (any_at p xs d) where
  by : (b : Bool) → p x ≡ b → (list_any p xs ≡ true → IsAtPlace p xs d) → IsAtPlace p (x ∷ xs) d
  by true is rest = record { at = 0; below = omega arith; passes = is }
  by false is rest = let r = rest (sym (ap (λ b. b || list_any p xs) is) ∙ some) in let lt = r.below in record { at = suc r.at; below = omega (arith, lt); passes = r.passes }

-- the first switch that is spent, where one is
mapped : (o : Option StationOf) → is_some o ≡ true → is_some (option_map (λ (x : StationOf). x.note.life) o) ≡ true
mapped None some = some
mapped (Some x) some = refl

pub spent_some : (f : FabricOf) → is_some_spent f ≡ true → is_some (first_spent f) ≡ true
spent_some f some = mapped (find (λ (x : StationOf). x.spent) f.stations) (any_found (λ (x : StationOf). x.spent) f.stations some)

pub spent_none : (f : FabricOf) → is_some_spent f ≡ false → first_spent f ≡ None
spent_none f none = ap (option_map (λ (x : StationOf). x.note.life)) (find_none (λ (x : StationOf). x.spent) f.stations none)

-- no end has come where no switch is spent, there is room, and it is neither settled nor unsettled
pub no_end : (f : FabricOf) → IsOpen f → is_settled f ≡ false → is_unsettled f ≡ false → is_some (ending_of f) ≡ false
unfolding ending_of
no_end f o settled unsettled =
    let none = spent_none f o.unspent in
    let roomy : nat_lt (room f) 2 ≡ false = le-ltb (room f) 2 o.roomy in
    ap (λ (o : Option Ending). is_some (cond (nat_lt 0 (full_hands f)) None o)) (ends_is f (first_spent f)) ∙ by (nat_lt 0 (full_hands f)) (is_settled f) (nat_lt (room f) 2) (is_unsettled f) (first_spent f) none settled roomy unsettled where
      by : (full s r u : Bool) (spent : Option LifeId) → spent ≡ None → s ≡ false → r ≡ false → u ≡ false → is_some (cond full None (ends_by spent s r u)) ≡ false
      by true s r u spent none ns nr nu = refl
      by false s r u spent none ns nr nu = ap is_some (ap (λ o. ends_by o s r u) none ∙ ap (λ b. ends_by None b r u) ns ∙ ap (λ b. ends_by None false b u) nr ∙ ap (λ b. ends_by None false false b) nu)

pub not_settled : (f : FabricOf) → is_idle f ≡ false → is_settled f ≡ false
not_settled f busy = by (are_all_done f) (is_idle f) (not_unacked f) (agrees f) busy where
  by : (a i u g : Bool) → i ≡ false → ((a && (i && u)) && g) ≡ false
  by true true u g is = absurd (true≢false is)
  by false true u g is = refl
  by true false u g is = refl
  by false false u g is = refl

pub not_unsettled : (f : FabricOf) → is_idle f ≡ false → is_unsettled f ≡ false
not_unsettled f busy = by ((f.tick == f.script.limits.ticks) && not (is_some (due_command f))) (is_idle f) busy where
  by : (a i : Bool) → i ≡ false → (a && i) ≡ false
  by a true is = absurd (true≢false is)
  by true false is = refl
  by false false is = refl

pub busy_no_end : (f : FabricOf) → IsOpen f → is_idle f ≡ false → is_some (ending_of f) ≡ false
busy_no_end f o busy = no_end f o (not_settled f busy) (not_unsettled f busy)

-- something to do
pub record IsIdle (f : FabricOf) : Type 0 where
  pub packets : is_some_packet f ≡ false
  pub clocks : is_some_clock_due f ≡ false
  pub loads : is_some_load_due f ≡ false
  pub wires : are_wires_empty f ≡ true

pub idle_parts : (f : FabricOf) → is_idle f ≡ true → IsIdle f
idle_parts f is =
    let p1 = and_parts (not (is_some_packet f) && not (is_some_clock_due f) && not (is_some_load_due f)) (are_wires_empty f) is in
    let p2 = and_parts (not (is_some_packet f) && not (is_some_clock_due f)) (not (is_some_load_due f)) p1.0 in
    let p3 = and_parts (not (is_some_packet f)) (not (is_some_clock_due f)) p2.0 in
    record { packets = not-true (is_some_packet f) p3.0; clocks = not-true (is_some_clock_due f) p3.1; loads = not-true (is_some_load_due f) p2.1; wires = p1.1 }

busy_by : (f : FabricOf) → (is_idle f ≡ true → ⊥) → is_idle f ≡ false
busy_by f differs = by (is_idle f) refl where
  by : (b : Bool) → is_idle f ≡ b → is_idle f ≡ false
  by true is = absurd (differs is)
  by false is = is

pub packet_busy : (f : FabricOf) → is_some_packet f ≡ true → is_idle f ≡ false
packet_busy f some = busy_by f (λ (is : is_idle f ≡ true). true≢false (sym some ∙ (idle_parts f is).packets))

pub clock_busy : (f : FabricOf) → is_some_clock_due f ≡ true → is_idle f ≡ false
clock_busy f some = busy_by f (λ (is : is_idle f ≡ true). true≢false (sym some ∙ (idle_parts f is).clocks))

pub load_busy : (f : FabricOf) → is_some_load_due f ≡ true → is_idle f ≡ false
load_busy f some = busy_by f (λ (is : is_idle f ≡ true). true≢false (sym some ∙ (idle_parts f is).loads))

pub wires_busy : (f : FabricOf) → are_wires_empty f ≡ false → is_idle f ≡ false
wires_busy f some = busy_by f (λ (is : is_idle f ≡ true). true≢false (sym (idle_parts f is).wires ∙ some))

-- where a command is due no end has come
due_is_some : (f : FabricOf) → is_some (due_command f) ≡ true → is_some (next_command f) ≡ true
due_is_some f due = by (next_command f) due where
  by : (n : Option Command) → is_some (option_and_then (if_due f.tick) n) ≡ true → is_some n ≡ true
  by None some = some
  by (Some c) some = refl

pub due_no_end : (f : FabricOf) → IsOpen f → is_some (due_command f) ≡ true → is_some (ending_of f) ≡ false
due_no_end f o due = no_end f o (settled (is_some (next_command f)) (due_is_some f due)) (unsettled (is_some (due_command f)) due) where
  settled : (b : Bool) → b ≡ true → (not b && is_quiet f && agrees f) ≡ false
  settled true is = refl
  settled false is = absurd (true≢false (sym is))

  unsettled : (b : Bool) → b ≡ true → ((f.tick == f.script.limits.ticks) && not b && is_idle f) ≡ false
  unsettled true is = ends (f.tick == f.script.limits.ticks) where
    ends : (a : Bool) → (a && false && is_idle f) ≡ false
    ends true = refl
    ends false = refl
  unsettled false is = absurd (true≢false (sym is))

-- where a hand is full no end has come
pub full_some : (f : FabricOf) (s : ℕ) → s < length f.stations → is_full_at f s ≡ true → 0 < full_hands f
full_some f s below full =
    let le : one (is_full_at f s) ≤ full_hands f = get_or-le-sum_by (λ (x : StationOf). one (not (is_empty x.hand))) f.stations s vacant below in
    let is : one (is_full_at f s) ≡ 1 = ap one full in
    omega (arith, le, is)

pub full_no_end : (f : FabricOf) → 0 < full_hands f → is_some (ending_of f) ≡ false
unfolding ending_of
full_no_end f full = ap (λ b. is_some (cond b None (ending_by (first_spent f) f))) (lt-ltb 0 (full_hands f) full)

-- what is known where no end has come and no hand is full
pub record IsGoingOn (f : FabricOf) : Type 0 where
  pub open_for : IsOpen f
  pub settled : is_settled f ≡ false
  pub unsettled : is_unsettled f ≡ false

pub going_on : (f : FabricOf) → full_hands f ≡ 0 → is_some (ending_of f) ≡ false → IsGoingOn f
unfolding ending_of
going_on f none goes =
    let no_hand : nat_lt 0 (full_hands f) ≡ false = ap (nat_lt 0) none in
    let now : is_some (ending_by (first_spent f) f) ≡ false = sym (ap (λ b. is_some (cond b None (ending_by (first_spent f) f))) no_hand) ∙ goes in
    by (first_spent f) refl now where
      unspent : (b : Bool) → is_some_spent f ≡ b → first_spent f ≡ None → is_some_spent f ≡ false
      unspent false is none = is
      unspent true is none = absurd (true≢false (sym (spent_some f is) ∙ ap is_some none))

      rest : (s r u : Bool) → is_settled f ≡ s → nat_lt (room f) 2 ≡ r → is_unsettled f ≡ u → is_some_spent f ≡ false → is_some (ends_by None s r u) ≡ false → IsGoingOn f
      rest true r u si ri ui spent differs = absurd (true≢false differs)
      rest false true u si ri ui spent differs = absurd (true≢false differs)
      rest false false true si ri ui spent differs = absurd (true≢false differs)
      rest false false false si ri ui spent differs = record { open_for = record { unspent = spent; roomy = ltb-false (room f) 2 ri }; settled = si; unsettled = ui }

      by : (o : Option LifeId) → first_spent f ≡ o → is_some (ending_by o f) ≡ false → IsGoingOn f
      by (Some life) is differs = absurd (true≢false differs)
      by None is differs = rest (is_settled f) (nat_lt (room f) 2) (is_unsettled f) refl refl refl (unspent (is_some_spent f) refl is) differs

-- an event is the same as itself
pub same_itself : (e : Event) → is_same_event e e ≡ true
same_itself e = is_eq-slice_cmp (event_code e) (event_code e) ∙ (bytes_decides (event_code e) (event_code e)).1 refl

-- the command that is due is the next one
pub due_is_command : (f : FabricOf) (e : Event) → due_command f ≡ Some e → is_command f e ≡ true
due_is_command f e due = ap (λ o. option_map_or (is_same_event e) o false) due ∙ same_itself e

pub command_is_due : (f : FabricOf) (e : Event) → is_command f e ≡ true → is_some (due_command f) ≡ true
command_is_due f e is = by (due_command f) is where
  by : (o : Option Event) → option_map_or (is_same_event e) o false ≡ true → is_some o ≡ true
  by None differs = absurd (true≢false (sym differs))
  by (Some x) same = refl
