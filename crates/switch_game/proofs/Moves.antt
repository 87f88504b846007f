use Rattle.std.proofs.Common.{◌≡◌, ◌≢◌, ◌∙◌, sym, ap, refl, subst, ℕ, ◌<◌, ◌≤◌, ◌==◌, ◌⊎◌, inl, inr, arith, List, [], ◌∷◌, ◌++◌, append_assoc, reverse, Option, Some, Bool, true, false, cond}
use Rattle.std.proofs.lemmas.Bool.{cond_both, false_from_ne_true, ne_eqb}
use Rattle.std.specs.Ordering.{is_eq}
use Rattle.an_base.specs.Values.{LifeId}
use Rattle.an_base.specs.Order.{life_cmp}
use Rattle.an_base.specs.declared.body.Body.{Body}
use Rattle.an_base.proofs.LifeLemmas.{lives_differ}
use Rattle.an_base.proofs.LifeLemmas.{life_passes}
use Rattle.ordered_link.specs.Session.{IsFrontOf}
use Rattle.epoch_core.specs.Log.{CardOf, OnPort, Log, on_port}
use Rattle.epoch_core.specs.Epoch.{sent}
use Rattle.epoch_game.specs.Slice.{Node, Names, with_node}
use Rattle.epoch_game.specs.Game.{Game, Play, accepts, after_accept, after_join, after_load, begins, joins, loads, none, slice, with_loaded, with_node_in, with_present}
use Rattle.epoch_game.proofs.Basics.{number_itself}
use Rattle.epoch_game.proofs.Nodes.{decide_life, node_else, node_here}
use Rattle.epoch_game.proofs.GameLemmas.{loaded_finished, nothing_ahead}
use Rattle.switch_core.specs.Steps.{log_with}
use Rattle.switch_game.specs.Network.{all_accepted}
use Rattle.switch_game.specs.Playing.{HasStayed}
use Rattle.switch_game.proofs.Streams.{front_earlier, log_here, reverse-cons, stream}

-- one run after another
pub play_trans : (lives : List LifeId) (f g h : Game) → Play lives f g → Play lives g h → Play lives f h
play_trans lives f g _ a none = a
play_trans lives f g _ a (joins h x e c play may known ok) = joins h x e c (play_trans lives f g h a play) may known ok
play_trans lives f g _ a (accepts h x z p q n m b play sx sz lx lz next) = accepts h x z p q n m b (play_trans lives f g h a play) sx sz lx lz next
play_trans lives f g _ a (loads h x n t play sx done fresh) = loads h x n t (play_trans lives f g h a play) sx done fresh

-- the node that was put in an epoch, and the others
pub node_put : (g : Game) (e : ℕ) (x : LifeId) (n : Node) → with_node_in g e x n x e ≡ Some n
node_put g e x n = ap (λ (b : Bool). cond b (with_node (slice e g) x n x) (g.nodes x e)) (number_itself e) ∙ node_here (slice e g) x n

pub node_elsewhere : (g : Game) (e : ℕ) (x : LifeId) (n : Node) (y : LifeId) (f : ℕ) → (x ≡ y → ⊥) → with_node_in g e x n y f ≡ g.nodes y f
node_elsewhere g e x n y f ne = cond_both (e == f) (with_node (slice f g) x n y) (g.nodes y f) (λ (o : Option Node). o ≡ g.nodes y f) (λ _. node_else (slice f g) x y n ne) (λ _. refl)

pub present_here : (g : Game) (x : LifeId) (e : ℕ) → with_present g x e x ≡ e
present_here g x e = ap (λ (b : Bool). cond b e (g.present x)) (life_passes x x refl)

pub loaded_here : (g : Game) (x : LifeId) (e : ℕ) → with_loaded g x e x e ≡ true
loaded_here g x e = ap (λ (b : Bool). cond b (cond (e == e) true (g.loaded x e)) (g.loaded x e)) (life_passes x x refl) ∙ ap (λ (b : Bool). cond b true (g.loaded x e)) (number_itself e)

-- the other lives are as they were
pub record IsElsewhere (x : LifeId) (g h : Game) : Type 0 where
  pub present : (y : LifeId) → (x ≡ y → ⊥) → h.present y ≡ g.present y
  pub nodes : (y : LifeId) (e : ℕ) → (x ≡ y → ⊥) → h.nodes y e ≡ g.nodes y e
  pub loaded : (y : LifeId) (e : ℕ) → (x ≡ y → ⊥) → h.loaded y e ≡ g.loaded y e

pub elsewhere_itself : (x : LifeId) (g : Game) → IsElsewhere x g g
elsewhere_itself x g = record { present = λ y ne. refl; nodes = λ y e ne. refl; loaded = λ y e ne. refl }

pub elsewhere_trans : (x : LifeId) (f g h : Game) → IsElsewhere x f g → IsElsewhere x g h → IsElsewhere x f h
elsewhere_trans x f g h a b = record {
  present = λ y ne. b.present y ne ∙ a.present y ne;
  nodes = λ y e ne. b.nodes y e ne ∙ a.nodes y e ne;
  loaded = λ y e ne. b.loaded y e ne ∙ a.loaded y e ne;
}

pub join_elsewhere : (g : Game) (x : LifeId) (e : ℕ) (c : CardOf) → IsElsewhere x g (after_join g x e c)
join_elsewhere g x e c = record {
  present = λ y ne. ap (λ (b : Bool). cond b e (g.present y)) (lives_differ x y ne);
  nodes = λ y f ne. node_elsewhere g e x (record { card = c; log = [] }) y f ne;
  loaded = λ y f ne. refl;
}

accept_elsewhere : (g : Game) (x : LifeId) (n : Node) (p : ℕ) (b : Body) → IsElsewhere x g (after_accept g x n p b)
accept_elsewhere g x n p b = record {
  present = λ y ne. refl;
  nodes = λ y f ne. node_elsewhere g (g.present x) x (record { card = n.card; log = record { port = p; body = b } ∷ n.log }) y f ne;
  loaded = λ y f ne. refl;
}

pub load_elsewhere : (g : Game) (x : LifeId) → IsElsewhere x g (after_load g x)
load_elsewhere g x = record {
  present = λ y ne. refl;
  nodes = λ y f ne. refl;
  loaded = λ y f ne. ap (λ (b : Bool). cond b (cond (g.present x == f) true (g.loaded y f)) (g.loaded y f)) (lives_differ x y ne);
}

pub not_loaded : (lives : List LifeId) (first : LifeId → ℕ) (g : Game) (x : LifeId) (e : ℕ) → Play lives (begins first) g → g.present x < e → g.loaded x e ≡ false
not_loaded lives first g x e play above =
    false_from_ne_true (g.loaded x e)
    (λ is. let f = loaded_finished lives first g x e play is in let low = nothing_ahead lives first g play x e f.node f.joined in absurd (omega (arith, low, above)))

-- what comes of accepting these bodies in turn
pub record HasAccepted (lives : List LifeId) (x : LifeId) (card : CardOf) (log : Log) (g h : Game) : Type 0 where
  pub play : Play lives g h
  pub elsewhere : IsElsewhere x g h
  pub present : h.present x ≡ g.present x
  pub node : h.nodes x (g.present x) ≡ Some (record { card = card; log = log })
  pub loaded : (e : ℕ) → h.loaded x e ≡ g.loaded x e

-- the next bodies of a stream may be accepted in turn
pub accepts_all : (lives : List LifeId) (x z : LifeId) (p q : ℕ) (card : CardOf) (m : Node) (bodies : List Body) (log : Log) (g : Game) → g.nodes x (g.present x) ≡ Some (record { card = card; log = log }) → g.nodes z (g.present x) ≡ Some m
    → Names card p z q → Names m.card q x p → (x ≡ z → ⊥) → IsFrontOf (reverse (on_port p log) ++ bodies) (stream m.card q m.log)
    → HasAccepted lives x card (log_with p bodies log) g (all_accepted x p bodies card log g)
accepts_all lives x z p q card m [] log g sx sz lx lz ne front = record { play = none; elsewhere = elsewhere_itself x g; present = refl; node = sx; loaded = λ e. refl }
accepts_all lives x z p q card m (b ∷ bodies) log g sx sz lx lz ne front =
    let rest = accepts_all lives x z p q card m bodies (item ∷ log) next (node_put g (g.present x) x new) (node_elsewhere g (g.present x) x new z (g.present x) ne ∙ sz) lx lz ne fronts in
    record {
      play = play_trans lives g next (all_accepted x p bodies card (item ∷ log) next) (accepts g x z p q old m b none sx sz lx lz (front_earlier (b ∷ on_port p log) (sent m.card q m.log) one)) rest.play;
      elsewhere = elsewhere_trans x g next (all_accepted x p bodies card (item ∷ log) next) (accept_elsewhere g x old p b) rest.elsewhere;
      present = rest.present;
      node = rest.node;
      loaded = rest.loaded;
    }
  where
    item : OnPort
    item = record { port = p; body = b }

    old : Node
    old = record { card = card; log = log }

    new : Node
    new = record { card = card; log = item ∷ log }

    next : Game
    next = after_accept g x old p b

    joint : reverse (b ∷ on_port p log) ++ bodies ≡ reverse (on_port p log) ++ b ∷ bodies
    joint = ap (λ (r : List Body). r ++ bodies) (reverse-cons b (on_port p log)) ∙ append_assoc (reverse (on_port p log)) (b ∷ []) bodies

    one : IsFrontOf (reverse (b ∷ on_port p log)) (stream m.card q m.log)
    one = (bodies ++ front.0, sym (append_assoc (reverse (b ∷ on_port p log)) bodies front.0) ∙ ap (λ (r : List Body). r ++ front.0) joint ∙ front.1)

    fronts : IsFrontOf (reverse (on_port p (item ∷ log)) ++ bodies) (stream m.card q m.log)
    fronts = (front.0, ap (λ (r : List Body). (reverse r ++ bodies) ++ front.0) (log_here p b log) ∙ ap (λ (r : List Body). r ++ front.0) joint ∙ front.1)

-- What a life did in an epoch that it has left stays
record Left (x : LifeId) (e : ℕ) (g h : Game) : Type 0 where
  stayed : HasStayed x e g h
  higher : g.present x ≤ h.present x

node_apart : (g : Game) (e : ℕ) (x : LifeId) (n : Node) (y : LifeId) (f : ℕ) → e ≢ f → with_node_in g e x n y f ≡ g.nodes y f
node_apart g e x n y f other = ap (λ (b : Bool). cond b (with_node (slice f g) x n y) (g.nodes y f)) (ne_eqb e f other)

loaded_apart : (g : Game) (e : ℕ) (x y : LifeId) (f : ℕ) → e ≢ f → with_loaded g x e y f ≡ g.loaded y f
loaded_apart g e x y f other =
    cond_both (is_eq (life_cmp x y)) (cond (e == f) true (g.loaded y f)) (g.loaded y f) (λ (b : Bool). b ≡ g.loaded y f) (λ _. ap (λ (b : Bool). cond b true (g.loaded y f)) (ne_eqb e f other)) (λ _. refl)

-- what another life does, or what it does in a greater epoch
left_by : (x y : LifeId) (e : ℕ) (g h k : Game) → Left x e g h → IsElsewhere y h k → (y ≡ x → (k.nodes x e ≡ h.nodes x e) × (k.loaded x e ≡ h.loaded x e) × (h.present x ≤ k.present x)) → Left x e g k
left_by x y e g h k old else here = by (decide_life y x)
  where
    by : (y ≡ x → ⊥) ⊎ (y ≡ x) → Left x e g k
    by (inl ne) = record {
      stayed = record { node = else.nodes x e ne ∙ old.stayed.node; loaded = else.loaded x e ne ∙ old.stayed.loaded };
      higher = let s = else.present x ne in omega (arith, s, old.higher);
    }
    by (inr at) =
        let w = here at in
        let high = w.2 in
        record { stayed = record { node = w.0 ∙ old.stayed.node; loaded = w.1 ∙ old.stayed.loaded }; higher = omega (arith, high, old.higher) }

left_stays : (lives : List LifeId) (x : LifeId) (e : ℕ) (g h : Game) → e < g.present x → Play lives g h → Left x e g h
left_stays lives x e g _ low none = record { stayed = record { node = refl; loaded = refl }; higher = omega arith }
left_stays lives x e g _ low (joins h y f c play may known ok) =
    let old = left_stays lives x e g h low play in
    left_by x y e g h (after_join h y f c) old (join_elsewhere h y f c)
    (λ at.
    let above : h.present x < f = subst (λ (i : LifeId). h.present i < f) at may.greater in
    let here : with_present h y f x ≡ f = subst (λ (i : LifeId). with_present h y f i ≡ f) at (present_here h y f) in
    let high = old.higher in
    (node_apart h f y (record { card = c; log = [] }) x e (omega (arith, above, high, low)), refl, omega (arith, here, above)))
left_stays lives x e g _ low (accepts h y z p q n m b play sx sz lx lz next) =
    let old = left_stays lives x e g h low play in
    left_by x y e g h (after_accept h y n p b) old (accept_elsewhere h y n p b)
    (λ at.
    let high = old.higher in
    let same = ap h.present at in
    (node_apart h (h.present y) y (record { card = n.card; log = record { port = p; body = b } ∷ n.log }) x e (omega (arith, same, high, low)), refl, omega arith))
left_stays lives x e g _ low (loads h y n t play sx done fresh) =
    let old = left_stays lives x e g h low play in
    left_by x y e g h (after_load h y) old (load_elsewhere h y)
    (λ at.
    let high = old.higher in
    let same = ap h.present at in
    (refl, loaded_apart h (h.present y) y x e (omega (arith, same, high, low)), omega arith))

pub left_epochs_stay : (lives : List LifeId) (x : LifeId) (e : ℕ) (g h : Game) → e < g.present x → Play lives g h → HasStayed x e g h
left_epochs_stay lives x e g h low play = (left_stays lives x e g h low play).stayed
