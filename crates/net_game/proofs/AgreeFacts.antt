-- What a settled end says of the fabric, and what a note shows of a good port.

use Rattle.std.specs.Prelude.{◌≡◌, ◌⊎◌, ◌<◌, ◌≤◌, ◌-◌, ◌==◌, ◌&&◌, not, nat_lt, ℕ, zero, suc, map, find, List, [], ◌∷◌, Option, Some, None, slice_index_or, Bool, true, false, cond, refl, Contains}
use Rattle.std.specs.List.{list_any, list_all}
use Rattle.std.specs.Option.{option_map}
use Rattle.std.proofs.Common.{true≢false, sym, ◌∙◌, ap, subst, inl, inr, arith}
use Rattle.std.proofs.lemmas.Bool.{false≢true, and_parts, or_parts, ltb-false, and_left, and_right}
use Rattle.an_base.specs.Values.{LifeId, EndId}
use Rattle.an_base.specs.Ports.{PortViewOf}
use Rattle.net_graph.specs.declared.wiring.LinkAt.{LinkAt}
use Rattle.connectivity.specs.declared.conn.Conn.{Conn}
use Rattle.connectivity.specs.declared.conn.Conn.TheVariants.{Who, Loop, Good}
use Rattle.connectivity.specs.Connections.{is_end}
use Rattle.port_monitor.specs.declared.port.Phase.{Phase}
use Rattle.port_monitor.specs.declared.port.Phase.TheVariants.{Dead, Checking, Host, Switch}
use Rattle.port_monitor.specs.Ports.{state_by, peer_by, good_peer_by}
use Rattle.epoch_game.proofs.Basics.{none_some}
use Rattle.switch_core.specs.Switch.{SwitchOf, good_peer, port_of, ports_of, view_of}
use Rattle.net_state.specs.declared.ending.Ending.{Ending}
use Rattle.net_state.specs.declared.ending.Ending.TheVariants as ending
use Rattle.net_state.specs.Fabric.{FabricOf, StationOf, vacant, no_view, full_hands, room, port_shown, end_shown, is_up}
use Rattle.net_state.specs.Agree.{ending_of, ending_by, first_spent, is_settled, is_unsettled, is_good_to, link_agrees}
use Rattle.net_state.specs.PortStates.{is_dead, is_loop, is_good}
use Rattle.connectivity.proofs.EndLemmas.{same_end_is}

-- an end that is Settled says so
is_settling : Option Ending → Bool
is_settling None = false
is_settling (Some ending.Settled) = true
is_settling (Some ending.Unsettled) = false
is_settling (Some (ending.Spent life)) = false
is_settling (Some ending.Full) = false

settled_by : (a b c : Bool) → cond a (Some ending.Settled) (cond b (Some ending.Full) (cond c (Some ending.Unsettled) None)) ≡ Some ending.Settled → a ≡ true
unfolding is_settling
settled_by true b c is = refl
settled_by false true c is = absurd (false≢true (ap is_settling is))
settled_by false false true is = absurd (false≢true (ap is_settling is))
settled_by false false false is = absurd (false≢true (ap is_settling is))

-- What a settled fabric is
pub record IsSettledNow (f : FabricOf) : Type 0 where
  pub hands : full_hands f ≡ 0
  pub none : first_spent f ≡ None
  pub settled : is_settled f ≡ true

by_first : (f : FabricOf) (o : Option LifeId) → ending_by o f ≡ Some ending.Settled → (o ≡ None) × (is_settled f ≡ true)
unfolding is_settling
by_first f (Some life) is = absurd (false≢true (ap is_settling is))
by_first f None is = (refl, settled_by (is_settled f) (nat_lt (room f) 2) (is_unsettled f) is)

by_hands : (b : Bool) (o : Option Ending) → cond b None o ≡ Some ending.Settled → (b ≡ false) × (o ≡ Some ending.Settled)
by_hands true o is = absurd (none_some is)
by_hands false o is = (refl, is)

pub settled_now : (f : FabricOf) → ending_of f ≡ Some ending.Settled → IsSettledNow f
unfolding ending_of
settled_now f is =
    let a = by_hands (nat_lt 0 (full_hands f)) (ending_by (first_spent f) f) is in
    let b = by_first f (first_spent f) a.1 in
    let none = ltb-false 0 (full_hands f) a.0 in
    record { hands = omega (arith, none); none = b.0; settled = b.1 }

-- none of the places
pub none_any : (q : StationOf → Bool) (xs : List StationOf) (s : ℕ) → q vacant ≡ false → list_any q xs ≡ false → q (slice_index_or xs s vacant) ≡ false
none_any q [] s out none = out
none_any q (x ∷ xs) zero out none = (or_parts (q x) (list_any q xs) none).0
none_any q (x ∷ xs) (suc s) out none = none_any q xs s out (or_parts (q x) (list_any q xs) none).1

pub none_found : (g : StationOf → LifeId) (xs : List StationOf) (s : ℕ) → option_map g (find (λ x. x.spent) xs) ≡ None → (slice_index_or xs s vacant).spent ≡ false
none_found g [] s none = refl
none_found g (x ∷ xs) s none = by x.spent refl none s (λ n e. none_found g xs n e)
  where
    by : (b : Bool) → x.spent ≡ b → option_map g (cond b (Some x) (find (λ y. y.spent) xs)) ≡ None → (n : ℕ) → ((n : ℕ) → option_map g (find (λ y. y.spent) xs) ≡ None → (slice_index_or xs n vacant).spent ≡ false) → (slice_index_or (x ∷ xs) n vacant).spent ≡ false
    by true is e n rest = absurd (none_some (sym e))
    by false is e zero rest = is
    by false is e (suc n) rest = rest n e

-- what a switch shows of an external port
view_here : (u : SwitchOf) (i : ℕ) → i < 12 → slice_index_or (map view_of (ports_of u)) i no_view ≡ view_of (port_of u (suc i))
view_here u zero low = refl
view_here u (suc zero) low = refl
view_here u (suc (suc zero)) low = refl
view_here u (suc (suc (suc zero))) low = refl
view_here u (suc (suc (suc (suc zero)))) low = refl
view_here u (suc (suc (suc (suc (suc zero))))) low = refl
view_here u (suc (suc (suc (suc (suc (suc zero)))))) low = refl
view_here u (suc (suc (suc (suc (suc (suc (suc zero))))))) low = refl
view_here u (suc (suc (suc (suc (suc (suc (suc (suc zero)))))))) low = refl
view_here u (suc (suc (suc (suc (suc (suc (suc (suc (suc zero))))))))) low = refl
view_here u (suc (suc (suc (suc (suc (suc (suc (suc (suc (suc zero)))))))))) low = refl
view_here u (suc (suc (suc (suc (suc (suc (suc (suc (suc (suc (suc zero))))))))))) low = refl
view_here u (suc (suc (suc (suc (suc (suc (suc (suc (suc (suc (suc (suc i)))))))))))) low = absurd (omega (arith, low))

pub shown_is : (u : SwitchOf) (p : ℕ) → 1 ≤ p → p ≤ 12 → slice_index_or (map view_of (ports_of u)) (p - 1) no_view ≡ view_of (port_of u p)
shown_is u p least most = let e : suc (p - 1) ≡ p = omega (arith, least) in view_here u (p - 1) (omega (arith, least, most)) ∙ ap (λ n. view_of (port_of u n)) e

-- a good port shows that it is, and no other does
state_good : (phase : Phase) (conn : Conn) (far : EndId) → good_peer_by phase conn ≡ Some far → (is_dead (state_by phase conn) ≡ false) × (is_loop (state_by phase conn) ≡ false) × (peer_by phase conn ≡ Some far)
state_good Dead conn far is = absurd (none_some is)
state_good Checking conn far is = absurd (none_some is)
state_good Host conn far is = absurd (none_some is)
state_good Switch Who far is = absurd (none_some is)
state_good Switch (Loop peer) far is = absurd (none_some is)
state_good Switch (Good peer) far is = (refl, refl, is)

good_state : (phase : Phase) (conn : Conn) (far : EndId) → (is_good (state_by phase conn) && is_end (peer_by phase conn) far) ≡ true → good_peer_by phase conn ≡ Some far
good_state Dead conn far is = absurd (false≢true is)
good_state Checking conn far is = absurd (false≢true is)
good_state Host conn far is = absurd (false≢true is)
good_state Switch Who far is = absurd (false≢true is)
good_state Switch (Loop peer) far is = absurd (false≢true is)
good_state Switch (Good peer) far is = ap (λ (e : EndId). Some e) (same_end_is peer far is)

pub view_good : (u : SwitchOf) (p : ℕ) (far : EndId) (v : PortViewOf) → v ≡ view_of (port_of u p) → is_good_to far v ≡ true → good_peer u p ≡ Some far
view_good u p far v is good = good_state (port_of u p).phase (port_of u p).far.conn far (subst (λ (x : PortViewOf). is_good_to far x ≡ true) is good)

pub view_not_dead : (u : SwitchOf) (p : ℕ) (far : EndId) (v : PortViewOf) → v ≡ view_of (port_of u p) → good_peer u p ≡ Some far → (is_dead v.state ≡ false) × (is_loop v.state ≡ false)
view_not_dead u p far v is good =
    let e = state_good (port_of u p).phase (port_of u p).far.conn far good in
    (ap (λ (x : PortViewOf). is_dead x.state) is ∙ e.0, ap (λ (x : PortViewOf). is_loop x.state) is ∙ e.1)

-- where one end is neither dead nor a loop, both are good
third_of : (a b x y z : Bool) → cond a x (cond b y z) ≡ true → x ≡ false → y ≡ false → z ≡ true
third_of true b x y z is nx ny = absurd (true≢false (sym is ∙ nx))
third_of false true x y z is nx ny = absurd (true≢false (sym is ∙ ny))
third_of false false x y z is nx ny = is

abbrev pub IsShownGood : FabricOf → LinkAt → Type 0
IsShownGood f l = ((is_dead (port_shown f l.a l.a_port).state ≡ false) × (is_loop (port_shown f l.a l.a_port).state ≡ false)) ⊎ ((is_dead (port_shown f l.b l.b_port).state ≡ false) × (is_loop (port_shown f l.b l.b_port).state ≡ false))

pub ends_agree : (f : FabricOf) (l : LinkAt) → link_agrees f l ≡ true → IsShownGood f l
    → (is_good_to (end_shown f l.b l.b_port) (port_shown f l.a l.a_port) ≡ true) × (is_good_to (end_shown f l.a l.a_port) (port_shown f l.b l.b_port) ≡ true)
ends_agree f l is good = and_parts (is_good_to (end_shown f l.b l.b_port) (port_shown f l.a l.a_port)) (is_good_to (end_shown f l.a l.a_port) (port_shown f l.b l.b_port)) (by good)
  where
    by : IsShownGood f l → (is_good_to (end_shown f l.b l.b_port) (port_shown f l.a l.a_port) && is_good_to (end_shown f l.a l.a_port) (port_shown f l.b l.b_port)) ≡ true
    by (inl h) = third_of (not (is_up f l.a l.a_port)) (l.a == l.b) _ _ _ is (and_left _ (is_dead (port_shown f l.b l.b_port).state) h.0) (and_left _ (is_loop (port_shown f l.b l.b_port).state) h.1)
    by (inr h) = third_of (not (is_up f l.a l.a_port)) (l.a == l.b) _ _ _ is (and_right (is_dead (port_shown f l.a l.a_port).state) _ h.0) (and_right (is_loop (port_shown f l.a l.a_port).state) _ h.1)

pub all_contained : {A : Type 0} (q : A → Bool) (xs : List A) (x : A) → list_all q xs ≡ true → Contains xs x → q x ≡ true
all_contained q [] x all has = absurd (let low = has.1 in omega (arith, low))
all_contained q (y ∷ xs) x all (zero, low, at) = ap q (sym at) ∙ (and_parts (q y) (list_all q xs) all).0
all_contained q (y ∷ xs) x all (suc k, low, at) = all_contained q xs x (and_parts (q y) (list_all q xs) all).1 (k, omega (arith, low), at)
