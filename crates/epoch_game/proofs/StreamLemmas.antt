use Rattle.std.proofs.Common.{◌≡◌, ◌⊎◌, inl, inr, ℕ, List, [], ◌∷◌, Some, None, Bool, true, false, cond, refl, sym, ap, ◌∙◌, subst, ⊎_elim, arith, Contains, reverse}
use Rattle.std.specs.Prelude.{◌==◌}
use Rattle.an_base.specs.Values.{LifeId, EndId, PosOf}
use Rattle.an_base.specs.declared.body.Body.{Body}
use Rattle.epoch_core.specs.Log.{CardOf, OnPort, Log, on_port, last_pos, answered}
use Rattle.epoch_core.specs.Epoch.{version, position, adds, sent}
use Rattle.epoch_game.specs.Slice.{Earlier, Node, Slice, nobody, with_node, Names, IsCardOf, Run, none, joins, accepts}
use Rattle.epoch_game.specs.Streams.{told_on, HasNoAnswer, AnswersFrom, Shows, WasSent, ShowsFar, NamesItsNumber, HasStreams, HasGrown}
use Rattle.epoch_game.proofs.Basics.{some_same, none_some}
use Rattle.epoch_game.proofs.Lists.{earlier_itself, earlier_trans, earlier_append}
use Rattle.epoch_game.proofs.ViewLemmas.{shown}
use Rattle.epoch_game.proofs.Moments.{version_grows, on_port_grows}
use Rattle.epoch_game.proofs.Nodes.{decide_life, node_here, node_else, node_cases, not_own, has_link}
use Rattle.std.proofs.lemmas.Bool.{eqb-true}

-- a life that has joined has a card of its own, and is one of the lives
abbrev pub AreNodes : List LifeId → Slice → Type 0
AreNodes lives s = (x : LifeId) (n : Node) → s x ≡ Some n → IsCardOf x n.card × Contains lives x

pub nodes : (lives : List LifeId) (s : Slice) → Run lives nobody s → AreNodes lives s
nodes lives _ none = λ x n e. absurd (none_some e)
nodes lives _ (joins t x c run free known ok) =
    let old = nodes lives t run in
    λ y n e.
    ⊎_elim
    (λ (w : (x ≡ y) × (record { card = c; log = [] } ≡ n)). subst (λ (v : LifeId × Node). IsCardOf v.0 v.1.card × Contains lives v.0) (λ i. (w.0 i, w.1 i)) (ok, known))
    (λ w. old y n w.1)
    (node_cases t x y (record { card = c; log = [] }) n e)
nodes lives _ (accepts t x z p q n m b run sx sz lx lz next) =
    let old = nodes lives t run in
    λ y k e.
    ⊎_elim
    (λ (w : (x ≡ y) × (record { card = n.card; log = record { port = p; body = b } ∷ n.log } ≡ k)).
    subst (λ (v : LifeId × Node). IsCardOf v.0 v.1.card × Contains lives v.0) (λ i. (w.0 i, w.1 i)) (old x n sx))
    (λ w. old y k w.1)
    (node_cases t x y (record { card = n.card; log = record { port = p; body = b } ∷ n.log }) k e)

-- what was sent stays sent
pub sent_stays : (c : CardOf) (q : ℕ) (x : OnPort) (l : Log) (r : List Body) → Earlier r (sent c q l) → Earlier r (sent c q (x ∷ l))
sent_stays c q x l r e = earlier_append (reverse (on_port q (adds c (x ∷ l)))) r (sent c q l) e

abbrev pub Heard : Slice → LifeId → Node → ℕ → Type 0
Heard s x n p = (on_port p n.log ≡ []) ⊎ WasSent s x n p (on_port p n.log)

abbrev pub Streams : Slice → Type 0
Streams s = (x : LifeId) (n : Node) (p : ℕ) → s x ≡ Some n → Heard s x n p

-- another life joins
stream_join : (t : Slice) (x : LifeId) (new : Node) (y : LifeId) (n : Node) (p : ℕ) → t x ≡ None → Heard t y n p → Heard (with_node t x new) y n p
stream_join t x new y n p free (inl nil) = inl nil
stream_join t x new y n p free (inr h) =
    inr (record {
      far = h.far;
      port = h.port;
      node = h.node;
      named = h.named;
      joined = node_else t x h.far new (λ k. none_some (sym free ∙ ap t k ∙ h.joined)) ∙ h.joined;
      back = h.back;
      earlier = h.earlier;
    })

-- x accepts one more, which others may have heard of
stream_other : (t : Slice) (x : LifeId) (n : Node) (b : OnPort) (y : LifeId) (k : Node) (p : ℕ) → t x ≡ Some n → Heard t y k p → Heard (with_node t x (record { card = n.card; log = b ∷ n.log })) y k p
stream_other t x n b y k p sx (inl nil) = inl nil
stream_other t x n b y k p sx (inr h) = ⊎_elim other same (decide_life x h.far)
  where
    new : Node
    new = record { card = n.card; log = b ∷ n.log }

    other : (x ≡ h.far → ⊥) → Heard (with_node t x new) y k p
    other ne =
        inr (record { far = h.far; port = h.port; node = h.node; named = h.named; joined = node_else t x h.far new ne ∙ h.joined; back = h.back; earlier = h.earlier })

    same : x ≡ h.far → Heard (with_node t x new) y k p
    same at =
        let is : h.node ≡ n = some_same h.node n (sym h.joined ∙ ap t (sym at) ∙ sx) in
        inr (record {
          far = h.far;
          port = h.port;
          node = new;
          named = h.named;
          joined = subst (λ (i : LifeId). with_node t x new i ≡ Some new) at (node_here t x new);
          back = subst (λ (j : Node). Names j.card h.port y p) is h.back;
          earlier = sent_stays n.card h.port b n.log (on_port p k.log) (subst (λ (j : Node). Earlier (on_port p k.log) (sent j.card h.port j.log)) is h.earlier);
        })

-- and x itself
stream_own : (t : Slice) (x z : LifeId) (p q : ℕ) (n m : Node) (b : Body) (r : ℕ) → IsCardOf x n.card → t z ≡ Some m → Names n.card p z q → Names m.card q x p → Earlier (b ∷ on_port p n.log) (sent m.card q m.log)
    → Heard t x n r → Heard (with_node t x (record { card = n.card; log = record { port = p; body = b } ∷ n.log })) x (record { card = n.card; log = record { port = p; body = b } ∷ n.log }) r
stream_own t x z p q n m b r card sz lx lz next old = by (p == r) refl old
  where
    new : Node
    new = record { card = n.card; log = record { port = p; body = b } ∷ n.log }

    on : List Body → Type 0
    on heard = (heard ≡ []) ⊎ WasSent (with_node t x new) x new r heard

    at_port : p ≡ r → on (b ∷ on_port r n.log)
    at_port same =
        inr (record {
          far = z;
          port = q;
          node = m;
          named = subst (λ (i : ℕ). Names n.card i z q) same lx;
          joined = node_else t x z new (not_own x n.card p z q card lx) ∙ sz;
          back = subst (λ (i : ℕ). Names m.card q x i) same lz;
          earlier = subst (λ (i : ℕ). Earlier (b ∷ on_port i n.log) (sent m.card q m.log)) same next;
        })

    by : (g : Bool) → (p == r) ≡ g → Heard t x n r → on (cond g (b ∷ on_port r n.log) (on_port r n.log))
    by true is o = at_port (eqb-true p r is)
    by false is (inl nil) = inl nil
    by false is (inr h) =
        inr (record {
          far = h.far;
          port = h.port;
          node = h.node;
          named = h.named;
          joined = node_else t x h.far new (not_own x n.card r h.far h.port card h.named) ∙ h.joined;
          back = h.back;
          earlier = h.earlier;
        })

pub streams : (lives : List LifeId) (s : Slice) → Run lives nobody s → Streams s
streams lives _ none = λ x n p e. absurd (none_some e)
streams lives _ (joins t x c run free known ok) =
    let old = streams lives t run in
    let new : Node = record { card = c; log = [] } in
    λ y n p e.
    ⊎_elim
    (λ (w : (x ≡ y) × (new ≡ n)). inl (ap (λ (k : Node). on_port p k.log) (sym w.1)))
    (λ (w : (x ≡ y → ⊥) × (t y ≡ Some n)). stream_join t x new y n p free (old y n p w.1))
    (node_cases t x y new n e)
streams lives _ (accepts t x z p q n m b run sx sz lx lz next) =
    let old = streams lives t run in
    let card = (nodes lives t run x n sx).0 in
    let new : Node = record { card = n.card; log = record { port = p; body = b } ∷ n.log } in
    λ y k r e.
    ⊎_elim
    (λ (w : (x ≡ y) × (new ≡ k)).
    subst (λ (v : LifeId × Node). Heard (with_node t x new) v.0 v.1 r) (λ i. (w.0 i, w.1 i)) (stream_own t x z p q n m b r card sz lx lz next (old x n r sx)))
    (λ (w : (x ≡ y → ⊥) × (t y ≡ Some k)). stream_other t x n (record { port = p; body = b }) y k r sx (old y k r w.1))
    (node_cases t x y new k e)

-- at every moment what was heard shows the far end as it was at some moment
pub shows_far : (lives : List LifeId) (s : Slice) (x : LifeId) (n : Node) (p : ℕ) (h : Log) → Run lives nobody s → s x ≡ Some n → Earlier h n.log → (on_port p h ≡ []) ⊎ ShowsFar s x n p (on_port p h)
shows_far lives s x n p h run sx e = by (streams lives s run x n p sx)
  where
    grown : Earlier (on_port p h) (on_port p n.log)
    grown = on_port_grows p h n.log e

    found : (w : WasSent s x n p (on_port p n.log)) → (on_port p h ≡ []) ⊎ ((j : Log) × (Earlier j w.node.log) × (Shows w.node.card w.port j (on_port p h))) → (on_port p h ≡ []) ⊎ ShowsFar s x n p (on_port p h)
    found w (inl nil) = inl nil
    found w (inr v) = inr (record { far = w.far; port = w.port; node = w.node; named = w.named; joined = w.joined; back = w.back; moment = v.0; earlier = v.1; shows = v.2 })

    by : Heard s x n p → (on_port p h ≡ []) ⊎ ShowsFar s x n p (on_port p h)
    by (inl nil) = inl (subst (Earlier (on_port p h)) nil grown)
    by (inr w) =
        found w (shown w.node.card w.port (has_link w.far w.node.card w.port x p (nodes lives s run w.far w.node w.joined).0 w.back) w.node.log (on_port p h) (earlier_trans (on_port p h) (on_port p n.log) _ grown w.earlier))

-- the end at a port is one
pub one_end : (c : CardOf) (p : ℕ) (z : LifeId) (q : ℕ) (y : LifeId) (r : ℕ) → Names c p z q → Names c p y r → (z ≡ y) × (q ≡ r)
one_end c p z q y r a b =
    let e = some_same (record { life = z; port = q }) (record { life = y; port = r }) (sym a ∙ b) in
    (ap (λ (d : EndId). d.life) e, ap (λ (d : EndId). d.port) e)

-- what was heard on a link shows its far end at some moment
pub record View (m : Node) (q : ℕ) (heard : List Body) : Type 0 where
  pub moment : Log
  pub earlier : Earlier moment m.log
  pub shows : Shows m.card q moment heard

pub view_of : (lives : List LifeId) (s : Slice) (x : LifeId) (n : Node) (p : ℕ) (z : LifeId) (m : Node) (q : ℕ) (h : Log) → Run lives nobody s → s x ≡ Some n → s z ≡ Some m → Names n.card p z q → Earlier h n.log → (on_port p h ≡ []) ⊎ View m q (on_port p h)
view_of lives s x n p z m q h run sx sz lx e = by (shows_far lives s x n p h run sx e)
  where
    by : (on_port p h ≡ []) ⊎ ShowsFar s x n p (on_port p h) → (on_port p h ≡ []) ⊎ View m q (on_port p h)
    by (inl nil) = inl nil
    by (inr w) =
        let ends = one_end n.card p w.far w.port z q w.named lx in
        let is : w.node ≡ m = some_same w.node m (sym w.joined ∙ ap s ends.0 ∙ sz) in
        inr (subst (λ (v : Node × ℕ). View v.0 v.1 (on_port p h)) (λ i. (is i, ends.1 i)) (record { moment = w.moment; earlier = w.earlier; shows = w.shows }))

-- an answer names the version that has its number
pub names_its_number : (lives : List LifeId) (s : Slice) (x : LifeId) (n : Node) (p : ℕ) (h : Log) (v : ℕ) → Run lives nobody s → s x ≡ Some n → Earlier h n.log → answered (on_port p h) ≡ Some v → NamesItsNumber n (on_port p h) v
names_its_number lives s x n p h v run sx e says = by (shows_far lives s x n p h run sx e)
  where
    with_view : (w : ShowsFar s x n p (on_port p h)) (a : AnswersFrom w.node.card w.port w.moment (on_port p h)) → (on_port w.port a.moment ≡ []) ⊎ View n p (on_port w.port a.moment) → NamesItsNumber n (on_port p h) v
    with_view w a (inl nil) = absurd (none_some (sym (ap last_pos nil) ∙ a.last))
    with_view w a (inr u) =
        let v_is : v ≡ a.told.version = some_same v a.told.version (sym says ∙ a.answered) in
        let told_is : a.told ≡ told_on (version n.card u.moment) (position n.card u.moment) p = some_same a.told _ (sym a.last ∙ u.shows.place) in
        let number : v ≡ version n.card u.moment = v_is ∙ ap (λ (b : PosOf). b.version) told_is in
        let low = version_grows n.card u.moment n.log u.earlier in
        record { number = number ∙ sym u.shows.count ∙ a.count; had = omega (arith, number, low) }

    with_answer : (w : ShowsFar s x n p (on_port p h)) → HasNoAnswer (on_port p h) ⊎ AnswersFrom w.node.card w.port w.moment (on_port p h) → NamesItsNumber n (on_port p h) v
    with_answer w (inl nothing) = absurd (none_some (sym nothing.answered ∙ says))
    with_answer w (inr a) = with_view w a (view_of lives s w.far w.node w.port x n p a.moment run w.joined sx w.back (earlier_trans a.moment w.moment w.node.log a.earlier w.earlier))

    by : (on_port p h ≡ []) ⊎ ShowsFar s x n p (on_port p h) → NamesItsNumber n (on_port p h) v
    by (inl nil) = absurd (none_some (sym (ap answered nil) ∙ says))
    by (inr w) = with_answer w w.shows.answer

was_sent : (lives : List LifeId) (s : Slice) (x : LifeId) (n : Node) (p : ℕ) (h : Log) → Run lives nobody s → s x ≡ Some n → Earlier h n.log → (on_port p h ≡ []) ⊎ WasSent s x n p (on_port p h)
was_sent lives s x n p h run sx e = by (streams lives s run x n p sx)
  where
    by : Heard s x n p → (on_port p h ≡ []) ⊎ WasSent s x n p (on_port p h)
    by (inl nil) = inl (subst (Earlier (on_port p h)) nil (on_port_grows p h n.log e))
    by (inr w) =
        inr (record { far = w.far; port = w.port; node = w.node; named = w.named; joined = w.joined; back = w.back; earlier = earlier_trans (on_port p h) (on_port p n.log) _ (on_port_grows p h n.log e) w.earlier })

pub has_streams : (lives : List LifeId) (s : Slice) → Run lives nobody s → HasStreams lives s
has_streams lives s run = record {
  nodes = nodes lives s run;
  accepted = λ x n p h sx e. was_sent lives s x n p h run sx e;
  shown = λ x n p h sx e. shows_far lives s x n p h run sx e;
  answers = λ x n p h v sx e says. names_its_number lives s x n p h v run sx e says;
}

-- lists only grow
pub has_grown : (lives : List LifeId) (s : Slice) (t : Slice) (x : LifeId) (n : Node) → Run lives s t → s x ≡ Some n → HasGrown t x n
has_grown lives s _ x n none sx = record { node = n; joined = sx; card = refl; log = earlier_itself n.log }
has_grown lives s _ x n (joins t y c run free known ok) sx =
    let old = has_grown lives s t x n run sx in
    record { node = old.node; joined = node_else t y x (record { card = c; log = [] }) (λ e. none_some (sym free ∙ ap t e ∙ old.joined)) ∙ old.joined; card = old.card; log = old.log }
has_grown lives s _ x n (accepts t y z p q k m b run sy sz ly lz next) sx =
    grown_by (has_grown lives s t x n run sx) (decide_life y x)
  where
    new : Node
    new = record { card = k.card; log = record { port = p; body = b } ∷ k.log }

    grown_by : HasGrown t x n → (y ≡ x → ⊥) ⊎ (y ≡ x) → HasGrown (with_node t y new) x n
    grown_by old (inl ne) = record { node = old.node; joined = node_else t y x new ne ∙ old.joined; card = old.card; log = old.log }
    grown_by old (inr at) =
        let is : old.node ≡ k = some_same old.node k (sym old.joined ∙ ap t (sym at) ∙ sy) in
        record {
          node = new;
          joined = subst (λ (i : LifeId). with_node t y new i ≡ Some new) at (node_here t y new);
          card = sym (ap (λ (j : Node). j.card) is) ∙ old.card;
          log = inr (subst (λ (j : Node). Earlier n.log j.log) is old.log);
        }
