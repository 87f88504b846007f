use Rattle.std.proofs.Common.{◌≡◌, ◌∙◌, sym, ap, refl, subst, ℕ, ◌≤◌, List, length, arith, Some, None, Bool, true, false, cond, Contains}
use Rattle.std.proofs.lemmas.Option.{none-some}
use Rattle.an_base.specs.Values.{EntryOf, LifeId, TopoOf}
use Rattle.epoch_core.specs.Log.{CardOf}
use Rattle.epoch_core.specs.Epoch.{finish}
use Rattle.epoch_game.specs.Slice.{IsJoinedBy}
use Rattle.epoch_game.specs.Game.{Game, HasFinished, Play, begins, none, slice}
use Rattle.epoch_game.proofs.FinishLemmas.{finish_earlier, finished_under}
use Rattle.epoch_game.proofs.GameLemmas.{later_run, nothing_ahead, play_members}
use Rattle.epoch_game.proofs.StreamLemmas.{has_grown, nodes}
use Rattle.switch_core.specs.Switch.{SwitchOf, finish_of}
use Rattle.switch_game.specs.Network.{Happens, Network, PowerOn, dark}
use Rattle.switch_game.specs.Playing.{Agrees, node_of}
use Rattle.switch_game.proofs.Laws.{agrees, plays}

-- each life of a topology with which a life has finished has joined that epoch, and so is in it or in a greater one
pub not_behind : (lives members : List LifeId) (on : PowerOn) (w : Network) (g : Game) (x : LifeId) (e : ℕ) (f : HasFinished g x e) (d : EntryOf) → length members ≤ 126 → Happens lives (dark on) (begins on.epoch) w g → IsJoinedBy members (slice e g) → Contains f.topology.entries d → e ≤ (w.switches d.life).epoch
not_behind lives members on w g x e f d few happens joined has =
    let play = plays lives on w g happens in
    let run = play_members lives members on.epoch g e play joined in
    let u = finished_under members (slice e g) few run x f.node f.topology f.joined f.finish in
    let m = (u.entries d).0 has in
    let is : d.life ≡ m.life = ap (λ (i : EntryOf). i.life) m.is ∙ (nodes members (slice e g) run m.life m.node m.joined).0.me in
    let low = nothing_ahead lives on.epoch g play m.life e m.node m.joined in
    let present = (agrees lives on w g m.life happens).present in
    let same = ap (λ (l : LifeId). (w.switches l).epoch) is in
    omega (arith, low, present, same)

-- what a switch has finished with, its life has finished with in the game, then and ever after
pub has_finished : (lives : List LifeId) (first : LifeId → ℕ) (g h : Game) (x : LifeId) (s : SwitchOf) (t : TopoOf) → Play lives (begins first) g → Play lives g h → Agrees x s g → finish_of s ≡ Some t → (f : HasFinished h x s.epoch) × (f.topology ≡ t)
has_finished lives first g h x s t play more agree is = by s.joined refl is
  where
    by : (b : Bool) → s.joined ≡ b → cond b (finish s.card s.log) None ≡ Some t → (f : HasFinished h x s.epoch) × (f.topology ≡ t)
    by true joined done =
        let w = has_grown lives (slice s.epoch g) (slice s.epoch h) x (node_of s) (later_run lives first g h s.epoch play more) (agree.joined joined) in
        (record { node = w.node; joined = w.joined; topology = t; finish = ap (λ (c : CardOf). finish c w.node.log) w.card ∙ finish_earlier s.card s.log w.node.log t w.log done }, refl)
    by false joined done = absurd (none-some t done)

-- so no life of what a switch has finished with is behind it
pub present_not_behind : (lives members : List LifeId) (on : PowerOn) (w : Network) (g : Game) (x : LifeId) (t : TopoOf) (d : EntryOf) → length members ≤ 126 → Happens lives (dark on) (begins on.epoch) w g → IsJoinedBy members (slice (w.switches x).epoch g) → finish_of (w.switches x) ≡ Some t → Contains t.entries d
    → (w.switches x).epoch ≤ (w.switches d.life).epoch
present_not_behind lives members on w g x t d few happens joined is has =
    let s = w.switches x in
    let f = has_finished lives on.epoch g g x s t (plays lives on w g happens) none (agrees lives on w g x happens) is in
    not_behind lives members on w g x s.epoch f.0 d few happens joined (subst (λ (u : TopoOf). Contains u.entries d) (sym f.1) has)
