use Rattle.std.proofs.Common.{◌≡◌, ◌⊎◌, inl, inr, ℕ, ◌≤◌, List, [], ◌∷◌, length, Option, Some, None, Bool, true, false, true≢false, cond, refl, sym, ap, ◌∙◌, subst, ⊎_elim, arith, Contains}
use Rattle.std.specs.Prelude.{◌==◌}
use Rattle.std.specs.Ordering.{is_eq}
use Rattle.an_base.specs.Values.{LifeId, TopoOf}
use Rattle.an_base.specs.Order.{life_cmp}
use Rattle.an_base.specs.declared.body.Body.{Body}
use Rattle.an_base.proofs.LifeLemmas.{life_passes, same_life}
use Rattle.epoch_core.specs.Log.{CardOf, on_port}
use Rattle.epoch_core.specs.Epoch.{finish, sent}
use Rattle.epoch_game.specs.Slice.{Earlier, Node, Slice, nobody, with_node, Names, IsCardOf, IsJoinedBy, Run, none as Run-none, joins as Run-joins, accepts as Run-accepts}
use Rattle.epoch_game.specs.Leaving.{WasStableRoot}
use Rattle.epoch_game.specs.Detection.{IsDetected}
use Rattle.epoch_game.specs.Game.{Game, slice, begins, with_node_in, with_present, with_loaded, after_join, after_accept, after_load, MayJoin, Play, none, joins, accepts, loads, HasFinished, IsDetectedIn}
use Rattle.epoch_game.proofs.Basics.{none_some, bool_cases}
use Rattle.epoch_game.proofs.Nodes.{decide_life, node_cases, node_else, node_here}
use Rattle.epoch_game.proofs.StreamLemmas.{has_grown, nodes}
use Rattle.epoch_game.proofs.FinishLemmas.{is_detected, finish_earlier}
use Rattle.std.proofs.lemmas.Bool.{eqb-true}

-- no life has a node in an epoch above its present one
abbrev pub NoneAhead : Game → Type 0
NoneAhead g = (x : LifeId) (e : ℕ) (n : Node) → g.nodes x e ≡ Some n → e ≤ g.present x

none_of : {A : Type 0} (o : Option A) → ((a : A) → o ≡ Some a → ⊥) → o ≡ None
none_of None f = refl
none_of (Some a) f = absurd (f a refl)

present_kept : (g : Game) (x y : LifeId) (e f : ℕ) → g.present x ≤ e → f ≤ g.present y → f ≤ with_present g x e y
present_kept g x y e f up low =
    ⊎_elim
    (λ (is : is_eq (life_cmp x y) ≡ true).
    let at_y = ap g.present (same_life x y is) in
    subst (λ (b : Bool). f ≤ cond b e (g.present y)) (sym is) (omega (arith, up, low, at_y)))
    (λ (is : is_eq (life_cmp x y) ≡ false). subst (λ (b : Bool). f ≤ cond b e (g.present y)) (sym is) low)
    (bool_cases (is_eq (life_cmp x y)))

present_joined : (g : Game) (x y : LifeId) (e f : ℕ) → x ≡ y → e ≡ f → f ≤ with_present g x e y
present_joined g x y e f at is = subst (λ (b : Bool). f ≤ cond b e (g.present y)) (sym (life_passes x y at)) (omega (arith, is))

-- a node after one was put in an epoch: the new one, or one of before
pub node_in : (g : Game) (e : ℕ) (x : LifeId) (n : Node) (y : LifeId) (f : ℕ) (m : Node) → with_node_in g e x n y f ≡ Some m → ((e ≡ f) × (x ≡ y) × (n ≡ m)) ⊎ (g.nodes y f ≡ Some m)
node_in g e x n y f m is =
    ⊎_elim
    (λ (same : (e == f) ≡ true).
    let at : with_node (slice f g) x n y ≡ Some m = sym (ap (λ (b : Bool). cond b (with_node (slice f g) x n y) (g.nodes y f)) same) ∙ is in
    ⊎_elim (λ (w : (x ≡ y) × (n ≡ m)). inl (eqb-true e f same, w.0, w.1)) (λ (w : (x ≡ y → ⊥) × (g.nodes y f ≡ Some m)). inr w.1) (node_cases (slice f g) x y n m at))
    (λ (other : (e == f) ≡ false). inr (sym (ap (λ (b : Bool). cond b (with_node (slice f g) x n y) (g.nodes y f)) other) ∙ is))
    (bool_cases (e == f))

ahead_join : (g : Game) (x : LifeId) (e : ℕ) (c : CardOf) → MayJoin g x e → NoneAhead g → NoneAhead (after_join g x e c)
ahead_join g x e c may old y f m is =
    ⊎_elim
    (λ (w : (e ≡ f) × (x ≡ y) × (record { card = c; log = [] } ≡ m)). present_joined g x y e f w.1 w.0)
    (λ (was : g.nodes y f ≡ Some m). present_kept g x y e f (let low = may.greater in omega (arith, low)) (old y f m was))
    (node_in g e x (record { card = c; log = [] }) y f m is)

ahead_accept : (g : Game) (x : LifeId) (n : Node) (p : ℕ) (b : Body) → NoneAhead g → NoneAhead (after_accept g x n p b)
ahead_accept g x n p b old y f m is =
    ⊎_elim
    (λ (w : (g.present x ≡ f) × (x ≡ y) × (record { card = n.card; log = record { port = p; body = b } ∷ n.log } ≡ m)). let e = sym w.0 ∙ ap g.present w.1 in omega (arith, e))
    (λ (was : g.nodes y f ≡ Some m). old y f m was)
    (node_in g (g.present x) x (record { card = n.card; log = record { port = p; body = b } ∷ n.log }) y f m is)

pub none_ahead : (lives : List LifeId) (g h : Game) → Play lives g h → NoneAhead g → NoneAhead h
none_ahead lives g _ none old = old
none_ahead lives g _ (joins h x e c play may known ok) old = ahead_join h x e c may (none_ahead lives g h play old)
none_ahead lives g _ (accepts h x z p q n m b play sx sz lx lz sends) old = ahead_accept h x n p b (none_ahead lives g h play old)
none_ahead lives g _ (loads h x n t play sx done fresh) old = none_ahead lives g h play old

-- An epoch after a node was put in one: it has the node, or is as before.
slice_here : (g : Game) (e f : ℕ) (x : LifeId) (n : Node) → (e == f) ≡ true → with_node (slice f g) x n ≡ (λ y. with_node_in g e x n y f)
slice_here g e f x n is = λ i y. ap (λ (b : Bool). cond b (with_node (slice f g) x n y) (g.nodes y f)) (sym is) i

slice_else : (g : Game) (e f : ℕ) (x : LifeId) (n : Node) → (e == f) ≡ false → slice f g ≡ (λ y. with_node_in g e x n y f)
slice_else g e f x n is = λ i y. ap (λ (b : Bool). cond b (with_node (slice f g) x n y) (g.nodes y f)) (sym is) i

run_join : (lives : List LifeId) (s : Slice) (h : Game) (x : LifeId) (e f : ℕ) (c : CardOf) → NoneAhead h → MayJoin h x e → Contains lives x → IsCardOf x c → Run lives s (slice f h) → Run lives s (slice f (after_join h x e c))
run_join lives s h x e f c ahead may known ok run =
    ⊎_elim
    (λ (is : (e == f) ≡ true).
    let same = eqb-true e f is in
    let free : h.nodes x f ≡ None = none_of (h.nodes x f) (λ n a. let low = ahead x f n a in let up = may.greater in absurd (omega (arith, low, up, same))) in
    subst (Run lives s) (slice_here h e f x (record { card = c; log = [] }) is) (Run-joins (slice f h) x c run free known ok))
    (λ (is : (e == f) ≡ false). subst (Run lives s) (slice_else h e f x (record { card = c; log = [] }) is) run)
    (bool_cases (e == f))

run_accept : (lives : List LifeId) (s : Slice) (h : Game) (x z : LifeId) (p q : ℕ) (n m : Node) (b : Body) (f : ℕ) → h.nodes x (h.present x) ≡ Some n → h.nodes z (h.present x) ≡ Some m → Names n.card p z q → Names m.card q x p
    → Earlier (b ∷ on_port p n.log) (sent m.card q m.log) → Run lives s (slice f h) → Run lives s (slice f (after_accept h x n p b))
run_accept lives s h x z p q n m b f sx sz lx lz sends run =
    ⊎_elim
    (λ (is : (h.present x == f) ≡ true).
    let same = eqb-true (h.present x) f is in
    subst (Run lives s) (slice_here h (h.present x) f x new is)
    (Run-accepts (slice f h) x z p q n m b run (subst (λ (i : ℕ). h.nodes x i ≡ Some n) same sx) (subst (λ (i : ℕ). h.nodes z i ≡ Some m) same sz) lx lz sends))
    (λ (is : (h.present x == f) ≡ false). subst (Run lives s) (slice_else h (h.present x) f x new is) run)
    (bool_cases (h.present x == f))
  where
    new : Node
    new = record { card = n.card; log = record { port = p; body = b } ∷ n.log }

-- what the game does is a run of each epoch
pub epoch_run : (lives : List LifeId) (g h : Game) (f : ℕ) → NoneAhead g → Play lives g h → Run lives (slice f g) (slice f h)
epoch_run lives g _ f ahead none = Run-none
epoch_run lives g _ f ahead (joins h x e c play may known ok) = run_join lives (slice f g) h x e f c (none_ahead lives g h play ahead) may known ok (epoch_run lives g h f ahead play)
epoch_run lives g _ f ahead (accepts h x z p q n m b play sx sz lx lz sends) = run_accept lives (slice f g) h x z p q n m b f sx sz lx lz sends (epoch_run lives g h f ahead play)
epoch_run lives g _ f ahead (loads h x n t play sx done fresh) = epoch_run lives g h f ahead play

start_ahead : (first : LifeId → ℕ) → NoneAhead (begins first)
start_ahead first x e n is = absurd (none_some is)

-- so no life has joined an epoch above its present one
pub nothing_ahead : (lives : List LifeId) (first : LifeId → ℕ) (g : Game) → Play lives (begins first) g → NoneAhead g
nothing_ahead lives first g play = none_ahead lives (begins first) g play (start_ahead first)

pub play_run : (lives : List LifeId) (first : LifeId → ℕ) (g : Game) (e : ℕ) → Play lives (begins first) g → Run lives nobody (slice e g)
play_run lives first g e play = epoch_run lives (begins first) g e (start_ahead first) play

pub later_run : (lives : List LifeId) (first : LifeId → ℕ) (g h : Game) (e : ℕ) → Play lives (begins first) g → Play lives g h → Run lives (slice e g) (slice e h)
later_run lives first g h e play more = epoch_run lives g h e (none_ahead lives (begins first) g play (start_ahead first)) more

-- A life that had joined before a node was put has joined after it
joined_before : (members : List LifeId) (t : Slice) (x : LifeId) (n : Node) → IsJoinedBy members (with_node t x n) → IsJoinedBy members t
joined_before members t x n all y m is = by (decide_life x y)
  where
    by : (x ≡ y → ⊥) ⊎ (x ≡ y) → Contains members y
    by (inl ne) = all y m (node_else t x y n ne ∙ is)
    by (inr same) = subst (Contains members) same (all x n (node_here t x n))

-- so a run is one of those that have joined alone
pub members_run : (lives members : List LifeId) (s t : Slice) → Run lives s t → IsJoinedBy members t → Run members s t
members_run lives members s _ Run-none all = Run-none
members_run lives members s _ (Run-joins t x c run free known ok) all =
    let new : Node = record { card = c; log = [] } in
    Run-joins t x c (members_run lives members s t run (joined_before members t x new all)) free (all x new (node_here t x new)) ok
members_run lives members s _ (Run-accepts t x z p q n m b run sx sz lx lz next) all =
    let new : Node = record { card = n.card; log = record { port = p; body = b } ∷ n.log } in
    Run-accepts t x z p q n m b (members_run lives members s t run (joined_before members t x new all)) sx sz lx lz next

-- who has joined is one of the lives
pub joined_lives : (lives : List LifeId) (s : Slice) → Run lives nobody s → IsJoinedBy lives s
joined_lives lives s run x n is = (nodes lives s run x n is).1

-- an epoch of the game is a run of those that join it
pub play_members : (lives members : List LifeId) (first : LifeId → ℕ) (g : Game) (e : ℕ) → Play lives (begins first) g → IsJoinedBy members (slice e g) → Run members nobody (slice e g)
play_members lives members first g e play joined = members_run lives members nobody (slice e g) (play_run lives first g e play) joined

-- each epoch by itself detects its end
pub is_detected_in : (lives members : List LifeId) (first : LifeId → ℕ) (g : Game) (e : ℕ) (r : LifeId) → length members ≤ 126 → Play lives (begins first) g → IsJoinedBy members (slice e g) → WasStableRoot (slice e g) r → IsDetectedIn lives members g e r
is_detected_in lives members first g e r few play joined was = record {
  detected = d;
  reached = λ h x more by. d.members (slice e h) x (since h more by);
  version = λ x n m h hx sx more by tx. (d.settled x n hx sx).version (slice e h) m (since h more by) tx;
  position = λ x n m h hx sx more by tx. (d.settled x n hx sx).stays (slice e h) m (since h more by) tx;
}
  where
    d : IsDetected members (slice e g) r
    d = is_detected members (slice e g) r few (play_members lives members first g e play joined) was

    since : (h : Game) → Play lives g h → IsJoinedBy members (slice e h) → Run members (slice e g) (slice e h)
    since h more by = members_run lives members (slice e g) (slice e h) (later_run lives first g h e play more) by

-- Who has loaded has finished.
abbrev LoadsAreFinished : Game → Type 0
LoadsAreFinished g = (x : LifeId) (e : ℕ) → g.loaded x e ≡ true → HasFinished g x e

finished_grows : (lives : List LifeId) (g h : Game) (x : LifeId) (e : ℕ) → Run lives (slice e g) (slice e h) → HasFinished g x e → HasFinished h x e
finished_grows lives g h x e run f =
    let w = has_grown lives (slice e g) (slice e h) x f.node run f.joined in
    record {
      node = w.node;
      joined = w.joined;
      topology = f.topology;
      finish = finish_earlier w.node.card f.node.log w.node.log f.topology w.log (subst (λ (c : CardOf). finish c f.node.log ≡ Some f.topology) (sym w.card) f.finish);
    }

loaded_cases : (g : Game) (x : LifeId) (e : ℕ) (y : LifeId) (f : ℕ) → with_loaded g x e y f ≡ true → ((x ≡ y) × (e ≡ f)) ⊎ (g.loaded y f ≡ true)
loaded_cases g x e y f is = by (is_eq (life_cmp x y)) refl is
  where
    by_epoch : (c : Bool) → (e == f) ≡ c → x ≡ y → cond c true (g.loaded y f) ≡ true → ((x ≡ y) × (e ≡ f)) ⊎ (g.loaded y f ≡ true)
    by_epoch true a at b = inl (at, eqb-true e f a)
    by_epoch false a at b = inr b

    by : (c : Bool) → is_eq (life_cmp x y) ≡ c → cond c (cond (e == f) true (g.loaded y f)) (g.loaded y f) ≡ true → ((x ≡ y) × (e ≡ f)) ⊎ (g.loaded y f ≡ true)
    by true a b = by_epoch (e == f) refl (same_life x y a) b
    by false a b = inr b

loads_kept : (lives : List LifeId) (g : Game) (x : LifeId) (n : Node) (t : TopoOf) → g.nodes x (g.present x) ≡ Some n → finish n.card n.log ≡ Some t → LoadsAreFinished g → LoadsAreFinished (after_load g x)
loads_kept lives g x n t sx done old y f is =
    ⊎_elim
    (λ (w : (x ≡ y) × (g.present x ≡ f)). subst (λ (a : LifeId × ℕ). HasFinished (after_load g x) a.0 a.1) (λ i. (w.0 i, w.1 i)) (record { node = n; joined = sx; topology = t; finish = done }))
    (λ (b : g.loaded y f ≡ true). let o = old y f b in record { node = o.node; joined = o.joined; topology = o.topology; finish = o.finish })
    (loaded_cases g x (g.present x) y f is)

loads_finished : (lives : List LifeId) (g h : Game) → NoneAhead g → Play lives g h → LoadsAreFinished g → LoadsAreFinished h
loads_finished lives g _ ahead none old = old
loads_finished lives g _ ahead (joins h x e c play may known ok) old =
    let before = loads_finished lives g h ahead play old in
    λ y f is. finished_grows lives h (after_join h x e c) y f (run_join lives (slice f h) h x e f c (none_ahead lives g h play ahead) may known ok Run-none) (before y f is)
loads_finished lives g _ ahead (accepts h x z p q n m b play sx sz lx lz sends) old =
    let before = loads_finished lives g h ahead play old in
    λ y f is. finished_grows lives h (after_accept h x n p b) y f (run_accept lives (slice f h) h x z p q n m b f sx sz lx lz sends Run-none) (before y f is)
loads_finished lives g _ ahead (loads h x n t play sx done fresh) old = loads_kept lives h x n t sx done (loads_finished lives g h ahead play old)

pub loaded_finished : (lives : List LifeId) (first : LifeId → ℕ) (g : Game) (x : LifeId) (e : ℕ) → Play lives (begins first) g → g.loaded x e ≡ true → HasFinished g x e
loaded_finished lives first g x e play is = loads_finished lives (begins first) g (start_ahead first) play (λ y f l. absurd (true≢false (sym l))) x e is
