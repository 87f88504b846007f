use Rattle.std.proofs.Common.{◌≡◌, ◌≢◌, ◌∙◌, sym, ap, ap₂, subst, ℕ, suc, ◌+◌, ◌-◌, ◌<◌, ◌≤◌, arith, List, [], ◌∷◌, ◌++◌, length, map, take, take_all, get_or, set, Option, Bool, false, ◌||◌}
use Rattle.std.specs.List.{list_any}
use Rattle.std.proofs.lemmas.List.{length-set, map-append, take_more, take_more_set}
use Rattle.std.proofs.lemmas.List.Folds.{list_any_more}
use Rattle.an_base.specs.Ports.{PortViewOf}
use Rattle.an_base.specs.Values.{EndId, LifeId}
use Rattle.an_base.specs.declared.port.PortState.{PortState}
use Rattle.port_monitor.specs.declared.monitor.Monitor.{Monitor}
use Rattle.port_monitor.specs.declared.port.Port.{Port}
use Rattle.port_monitor.specs.Histories.{History, IsAfter, port_after, externals}
use Rattle.port_monitor.specs.Ports.{peer_of, state_of}
use Rattle.switch_core.specs.declared.control.Control.{Control}
use Rattle.switch_core.specs.Stands.{Stands}
use Rattle.switch_core.specs.Switch.{CameBy, SwitchOf, is_unacked, note_of, port_of, ports_of, view_of}
use Rattle.switch_core.proofs.SessionLemmas.{each_but, port_at}

-- all of so many ports is acknowledged, and of one more
pub none_unacked : (bs : List Bool) (i : ℕ) (d : Bool) → i < length bs → get_or bs i d ≡ false → list_any (λ (b : Bool). b) (take i bs) ≡ false → list_any (λ (b : Bool). b) (take (i + 1) bs) ≡ false
none_unacked bs i d low none all = list_any_more (λ (b : Bool). b) bs i d low ∙ ap₂ (λ x y. x || y) all none

-- what a switch shows of a port
abbrev pub view_at : SwitchOf → ℕ → PortViewOf
view_at s port = view_of (port_of s port)

-- twelve views, of which so many are what it shows
abbrev pub Shows : ℕ → List PortViewOf → SwitchOf → Type 0
Shows n views s = (length views ≡ 12) × (take n views ≡ map (view_at s) (take n externals))

-- what is told of a port of a monitor, whatever happened there
abbrev pub IsOfPort : {A : Type 0} → (Port → A) → Monitor → ℕ → A → Type 0
IsOfPort f m port x = (histories : ℕ → History) → IsAfter m histories → x ≡ f (port_after (record { life = m.life; port = port }) (histories port))

-- its state and its peer are the view of the port
pub view_here : (c : Control) (s : SwitchOf) (port : ℕ) (state : PortState) (peer : Option EndId) → Stands c s → IsOfPort state_of c.monitor port state → IsOfPort peer_of c.monitor port peer
    → record { state = state; peer = peer } ≡ view_at s port
view_here c s port state peer stands of_state of_peer =
    let port_in = λ (l : LifeId). port_after (record { life = l; port = port }) (s.ports port) in
    ap (λ (x : PortState). record { state = x; peer = peer }) (of_state s.ports stands.ports)
    ∙ ap (λ (x : Option EndId). record { state = state_of (port_in c.monitor.life); peer = x }) (of_peer s.ports stands.ports)
    ∙ ap (λ (l : LifeId). view_of (port_in l)) stands.monitor

-- with the view of the next port, one more
shows_next : (i at : ℕ) (views : List PortViewOf) (view : PortViewOf) (s : SwitchOf) → i < 12 → at ≡ i → view ≡ view_at s (get_or externals i 0) → Shows i views s → Shows (i + 1) (set views at view) s
shows_next i at views view s low place is shown =
    subst (λ k. Shows (i + 1) (set views k view) s) (sym place) (
      length-set views i view ∙ shown.0,
      take_more_set views i view (omega (arith, low, shown.0))
          ∙ ap (λ vs. vs ++ view ∷ []) shown.1
          ∙ ap (λ v. map (view_at s) (take i externals) ++ v ∷ []) is
          ∙ sym (map-append (view_at s) (take i externals) (get_or externals i 0 ∷ []))
          ∙ ap (map (view_at s)) (sym (take_more externals i 0 low)),
    )

-- the view of the next port was set
pub view_set : (s : SwitchOf) (i port : ℕ) (views after : List PortViewOf) (view : PortViewOf) → i < 12 → port ≡ get_or externals i 0 → view ≡ view_at s port → after ≡ set views (port - 1) view → Shows i views s → Shows (i + 1) after s
view_set s i port views after view low here of_port is shown =
    let place : port ≡ suc i = here ∙ port_at i low in
    subst (λ vs. Shows (i + 1) vs s) (sym is)
    (shows_next i (port - 1) views view s low (omega (arith, place)) (of_port ∙ ap (view_at s) here) shown)

-- and so of all
pub all_shown : (n : ℕ) (views : List PortViewOf) (s : SwitchOf) → 12 ≤ n → Shows n views s → views ≡ map view_of (ports_of s)
all_shown n views s last shown =
    sym (take_all n views (omega (arith, last, shown.0))) ∙ shown.1 ∙ ap (map (view_at s)) (take_all n externals last)

-- and so the note is that of the switch
pub note_is : (c : Control) (s : SwitchOf) (life : LifeId) (views : List PortViewOf) (unacked : Bool) → Stands c s → life ≡ s.life → views ≡ map view_of (ports_of s) → unacked ≡ list_any (λ port. is_unacked (s.sendings port)) externals
    → record { life = life; epoch = c.epoch; ports = views; load_due = c.load_due; unacked = unacked } ≡ note_of s
note_is c s life views unacked stands of_life of_ports of_sessions =
    ap (λ (x : LifeId). record { life = x; epoch = c.epoch; ports = views; load_due = c.load_due; unacked = unacked }) of_life
    ∙ ap (λ (x : ℕ). record { life = s.life; epoch = x; ports = views; load_due = c.load_due; unacked = unacked }) stands.epoch
    ∙ ap (λ (x : List PortViewOf). record { life = s.life; epoch = s.epoch; ports = x; load_due = c.load_due; unacked = unacked }) of_ports
    ∙ ap (λ (x : Bool). record { life = s.life; epoch = s.epoch; ports = map view_of (ports_of s); load_due = x; unacked = unacked }) stands.load_due
    ∙ ap (λ (x : Bool). record { life = s.life; epoch = s.epoch; ports = map view_of (ports_of s); load_due = s.load_due; unacked = x }) of_sessions

-- another port is shown as before
view_kept : (port q : ℕ) (before s : SwitchOf) → CameBy port before s → q ≢ port → view_at s q ≡ view_at before q
view_kept port q before s came other =
    ap (λ (l : LifeId). view_of (port_after (record { life = l; port = q }) (s.ports q))) came.life ∙ ap (λ (h : History). view_of (port_after (record { life = before.life; port = q }) h)) (came.others q other)

-- so with the view of the port by which it came all are shown
pub view_put : (port : ℕ) (before s : SwitchOf) (views after : List PortViewOf) (view : PortViewOf) → 1 ≤ port → port ≤ 12 → CameBy port before s → view ≡ view_at s port → views ≡ map view_of (ports_of before) → after ≡ set views (port - 1) view → after ≡ map view_of (ports_of s)
view_put port before s views after view least most came of_port shown is =
    is ∙ ap₂ (λ vs v. set vs (port - 1) v) shown of_port ∙ each_but (view_at before) (view_at s) port least most (λ q other. view_kept port q before s came other)
