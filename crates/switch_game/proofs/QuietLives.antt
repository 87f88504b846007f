use Rattle.std.proofs.Common.{◌≡◌, ◌∙◌, sym, ap, refl, subst, ℕ, ◌≤◌, List, length, arith, Some, is_some, Bool, true, false, not, ◌&&◌}
use Rattle.an_base.specs.Values.{EndId, EntryOf, LifeId, PeerAt}
use Rattle.epoch_core.specs.Epoch.{own_entry}
use Rattle.epoch_game.specs.Slice.{IsJoinedBy, Names, Node}
use Rattle.epoch_game.specs.Detection.{IsMemberEntry, Reached, start as Reached-start, next as Reached-next}
use Rattle.epoch_game.specs.Delivered.{AcceptedAll, AcceptedAllOf, IsDelivered}
use Rattle.epoch_game.specs.Game.{Game, begins, slice}
use Rattle.epoch_game.proofs.Basics.{some_same}
use Rattle.epoch_game.proofs.Nodes.{all_in, link_found}
use Rattle.epoch_game.proofs.DeliveredLemmas.{has_ended}
use Rattle.epoch_game.proofs.GameLemmas.{play_members, play_run}
use Rattle.epoch_game.proofs.StreamLemmas.{nodes}
use Rattle.switch_core.specs.Switch.{SwitchOf, finish_of, good_peer}
use Rattle.switch_core.specs.Steps.{peer_among}
use Rattle.switch_core.proofs.FinishLemmas.{finish_joined}
use Rattle.switch_core.proofs.LinkLemmas.{good_link}
use Rattle.switch_game.specs.Network.{Happens, Network, PowerOn, dark}
use Rattle.switch_game.specs.Playing.{IsSettledLink, node_of}
use Rattle.switch_game.specs.Quiet.{Connected, HasSettled, IsEntryIn, IsQuiet, next, start}
use Rattle.switch_game.proofs.Links.{same_link}
use Rattle.switch_game.proofs.Played.{IsPart, IsPlayed}
use Rattle.switch_game.proofs.Laws.{holds, settled_part}

-- the life of a switch
at_life : (w : Network) (g : Game) (x : LifeId) → IsPart g x (w.switches x) → (w.switches x).life ≡ x
at_life w g x part = part.own.life

-- A good link of a quiet life is settled
link_settles : (lives : List LifeId) (on : PowerOn) (w : Network) (g : Game) (x y z : LifeId) (p q : ℕ) → IsPlayed lives on.epoch w.switches g → IsQuiet w x → Connected w x y → 1 ≤ p → p ≤ 12 → good_peer (w.switches y) p ≡ Some (record { life = z; port = q })
    → IsSettledLink (w.switches y) (w.switches z) p q
link_settles lives on w g x y z p q played quiet connected least most is =
    let here = quiet y connected in
    let there = quiet z (next y z p q connected least most is) in
    let back = here.linked p (record { life = z; port = q }) least most is in
    let one = played.parts y in
    let two = played.parts z in
    settled_part lives on.epoch g y z (w.switches y) (w.switches z) p q played.play one two here.working there.working least most back.least back.most
    (record {
      there = is ∙ ap (λ (l : LifeId). Some (record { life = l; port = q })) (sym two.own.life);
      back = back.good ∙ ap (λ (l : LifeId). Some (record { life = l; port = p })) (sym one.own.life);
      acknowledged = here.acknowledged p least most;
      acknowledged_back = there.acknowledged q back.least back.most;
    })

-- so all are in one epoch
one_epoch : (lives : List LifeId) (on : PowerOn) (w : Network) (g : Game) (x y : LifeId) → IsPlayed lives on.epoch w.switches g → IsQuiet w x → Connected w x y → (w.switches y).epoch ≡ (w.switches x).epoch
one_epoch lives on w g x _ played quiet start = refl
one_epoch lives on w g x _ played quiet (next y z p q connected least most is) =
    sym (link_settles lives on w g x y z p q played quiet connected least most is).epoch ∙ one_epoch lives on w g x y played quiet connected

-- and the game has the node of each there
node_there : (lives : List LifeId) (on : PowerOn) (w : Network) (g : Game) (x y : LifeId) → IsPlayed lives on.epoch w.switches g → IsQuiet w x → Connected w x y → g.nodes y (w.switches x).epoch ≡ Some (node_of (w.switches y))
node_there lives on w g x y played quiet connected =
    ap (g.nodes y) (sym (one_epoch lives on w g x y played quiet connected)) ∙ (played.parts y).agrees.joined (quiet y connected).joined

-- a link of its card is that at a good port
record IsAtGoodPort (s : SwitchOf) (p : ℕ) (far : EndId) : Type 0 where
  least : 1 ≤ p
  most : p ≤ 12
  good : good_peer s p ≡ Some far

good_of : (lives : List LifeId) (on : PowerOn) (w : Network) (g : Game) (x y z : LifeId) (p q : ℕ) → IsPlayed lives on.epoch w.switches g → IsQuiet w x → Connected w x y → Names (w.switches y).card p z q → IsAtGoodPort (w.switches y) p (record { life = z; port = q })
good_of lives on w g x y z p q played quiet connected named =
    let s = w.switches y in
    let far : EndId = record { life = z; port = q } in
    let e = (w.switches x).epoch in
    let card = (nodes lives (slice e g) (play_run lives on.epoch g e played.play) y (node_of s) (node_there lives on w g x y played quiet connected)).0 in
    let at = link_found p s.card.links far named in
    let low = all_in (λ (k : PeerAt). 1 ≤ k.port) s.card.links at.link card.least at.in_links in
    let high = all_in (λ (k : PeerAt). k.port ≤ 12) s.card.links at.link card.most at.in_links in
    let port = at.port in
    let least : 1 ≤ p = omega (arith, low, port) in
    let most : p ≤ 12 = omega (arith, high, port) in
    let links = (played.parts y).own.links (quiet y connected).joined (quiet y connected).working in
    record {
      least = least;
      most = most;
      good = sym (good_link s p least most) ∙ ap (λ (ls : List PeerAt). peer_among ls p) (sym links) ∙ same_link s.card.links p ∙ named;
    }

-- So the game reaches these lives and no others
connected_of : (lives : List LifeId) (on : PowerOn) (w : Network) (g : Game) (x y : LifeId) → IsPlayed lives on.epoch w.switches g → IsQuiet w x → Reached (slice (w.switches x).epoch g) x y → Connected w x y
connected_of lives on w g x _ played quiet Reached-start = start
connected_of lives on w g x _ played quiet (Reached-next y z p q n reached sy named) =
    let before = connected_of lives on w g x y played quiet reached in
    let is : n ≡ node_of (w.switches y) = some_same n (node_of (w.switches y)) (sym sy ∙ node_there lives on w g x y played quiet before) in
    let good = good_of lives on w g x y z p q played quiet before (subst (λ (m : Node). Names m.card p z q) is named) in
    next y z p q before good.least good.most good.good

named_there : (lives : List LifeId) (on : PowerOn) (w : Network) (g : Game) (z : LifeId) (s : SwitchOf) (p q : ℕ) → IsPlayed lives on.epoch w.switches g → Names s.card p (w.switches z).life q → Names s.card p z q
named_there lives on w g z s p q played named = subst (λ (l : LifeId). Names s.card p l q) (played.parts z).own.life named

reached_of : (lives : List LifeId) (on : PowerOn) (w : Network) (g : Game) (x y : LifeId) → IsPlayed lives on.epoch w.switches g → IsQuiet w x → Connected w x y → Reached (slice (w.switches x).epoch g) x y
reached_of lives on w g x _ played quiet start = Reached-start
reached_of lives on w g x _ played quiet (next y z p q connected least most is) =
    let link = link_settles lives on w g x y z p q played quiet connected least most is in
    Reached-next y z p q (node_of (w.switches y)) (reached_of lives on w g x y played quiet connected) (node_there lives on w g x y played quiet connected) (named_there lives on w g z (w.switches y) p q played link.named)

-- and nothing is under way among them
accepted_all : (lives : List LifeId) (on : PowerOn) (w : Network) (g : Game) (x y : LifeId) → IsPlayed lives on.epoch w.switches g → IsQuiet w x → Connected w x y → AcceptedAll (slice (w.switches x).epoch g) y
accepted_all lives on w g x y played quiet connected = record {
  node = node_of (w.switches y);
  joined = node_there lives on w g x y played quiet connected;
  links = far;
}
  where
    far : (p : ℕ) (z : LifeId) (q : ℕ) → Names (w.switches y).card p z q → AcceptedAllOf (slice (w.switches x).epoch g) y (node_of (w.switches y)) p z q
    far p z q named =
        let good = good_of lives on w g x y z p q played quiet connected named in
        let link = link_settles lives on w g x y z p q played quiet connected good.least good.most good.good in
        record {
          far = node_of (w.switches z);
          joined = node_there lives on w g x z played quiet (next y z p q connected good.least good.most good.good);
          back = named_there lives on w g y (w.switches z) q p played link.named_back;
          all = link.accepted_back;
        }

delivered : (lives : List LifeId) (on : PowerOn) (w : Network) (g : Game) (x : LifeId) → IsPlayed lives on.epoch w.switches g → IsQuiet w x → IsDelivered (slice (w.switches x).epoch g) x
delivered lives on w g x played quiet y reached = accepted_all lives on w g x y played quiet (connected_of lives on w g x y played quiet reached)

-- where it is to load none it has loaded
loaded_by : (due had was : Bool) → due ≡ (had && not was) → due ≡ false → had ≡ true → was ≡ true
loaded_by due true true is none has = refl
loaded_by due true false is none has = absurd (cc)
loaded_by due false was is none has = absurd (cc)

-- the entries are those of these lives
member_is : (lives : List LifeId) (on : PowerOn) (w : Network) (g : Game) (x : LifeId) (e : EntryOf) → IsPlayed lives on.epoch w.switches g → IsQuiet w x → IsMemberEntry (slice (w.switches x).epoch g) x e → IsEntryIn w x e
member_is lives on w g x e played quiet m =
    let y = m.life in
    let connected = connected_of lives on w g x y played quiet m.reached in
    let n : m.node ≡ node_of (w.switches y) = some_same m.node (node_of (w.switches y)) (sym m.joined ∙ node_there lives on w g x y played quiet connected) in
    let is : e ≡ own_entry (w.switches y).card (w.switches y).log = m.is ∙ ap (λ (k : Node). own_entry k.card k.log) n in
    record { life = y; connected = connected; is = is; links = ap (λ (d : EntryOf). d.links) is ∙ (played.parts y).own.links (quiet y connected).joined (quiet y connected).working }

is_member : (lives : List LifeId) (on : PowerOn) (w : Network) (g : Game) (x : LifeId) (e : EntryOf) → IsPlayed lives on.epoch w.switches g → IsQuiet w x → IsEntryIn w x e → IsMemberEntry (slice (w.switches x).epoch g) x e
is_member lives on w g x e played quiet m = record {
  life = m.life;
  node = node_of (w.switches m.life);
  reached = reached_of lives on w g x m.life played quiet m.connected;
  joined = node_there lives on w g x m.life played quiet m.connected;
  is = m.is;
}

pub has_settled : (lives members : List LifeId) (on : PowerOn) (w : Network) (g : Game) (x : LifeId) → length members ≤ 126 → Happens lives (dark on) (begins on.epoch) w g → IsJoinedBy members (slice (w.switches x).epoch g) → IsQuiet w x → HasSettled members w g x
has_settled lives members on w g x few happens joined quiet =
    let played = (holds lives on w g happens).played in
    let e = (w.switches x).epoch in
    let ended = has_ended members (slice e g) x few (play_members lives members on.epoch g e played.play joined) (delivered lives on w g x played quiet) in
    let finished : (y : LifeId) → Connected w x y → finish_of (w.switches y) ≡ Some ended.topology = λ y c.
    finish_joined (w.switches y) (quiet y c).joined ∙ ended.finished y (node_of (w.switches y)) (reached_of lives on w g x y played quiet c) (node_there lives on w g x y played quiet c)
    in
    record {
      reached = λ y. (λ r. connected_of lives on w g x y played quiet r, λ c. reached_of lives on w g x y played quiet c);
      epoch = λ y c. one_epoch lives on w g x y played quiet c;
      ended = ended;
      finished = finished;
      entries = λ d. (λ h. member_is lives on w g x d played quiet ((ended.entries d).0 h), λ m. (ended.entries d).1 (is_member lives on w g x d played quiet m));
      loaded = λ y c none.
          ap (g.loaded y) (sym (one_epoch lives on w g x y played quiet c))
          ∙ loaded_by (w.switches y).load_due (is_some (finish_of (w.switches y))) (g.loaded y (w.switches y).epoch) (played.parts y).agrees.load_due none (ap is_some (finished y c));
    }
