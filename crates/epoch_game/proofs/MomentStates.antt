use Rattle.std.proofs.Common.{◌≡◌, ◌≤◌, List, [], ◌∷◌, length, Some, true, sym, ap, ◌∙◌, subst, ⊎_elim}
use Rattle.an_base.specs.Values.{LifeId, TopoOf}
use Rattle.epoch_core.specs.Log.{CardOf, OnPort, Log}
use Rattle.epoch_core.specs.Epoch.{version, is_stable, finish}
use Rattle.epoch_game.specs.Slice.{Earlier, Node, Slice, nobody, with_node, Run, none, joins, accepts}
use Rattle.epoch_game.proofs.Basics.{none_some}
use Rattle.epoch_game.proofs.Nodes.{after, node_cases, with_item}
use Rattle.epoch_game.proofs.FinishLemmas.{finished_under, is_detected}

-- Each moment of a life was its list in some state of the run.
pub record WasState (lives : List LifeId) (s : Slice) (x : LifeId) (c : CardOf) (h : Log) : Type 0 where
  pub state : Slice
  pub before : Run lives nobody state
  pub after : Run lives state s
  pub joined : state x ≡ Some (record { card = c; log = h })

now_state : (lives : List LifeId) (s : Slice) (x : LifeId) (n : Node) (h : Log) → Run lives nobody s → s x ≡ Some n → h ≡ n.log → WasState lives s x n.card h
now_state lives s x n h run sx is = record {
  state = s;
  before = run;
  after = none;
  joined = sx ∙ ap (λ (l : Log). Some (record { card = n.card; log = l })) (sym is);
}

pub was_state : (lives : List LifeId) (s : Slice) (x : LifeId) (n : Node) (h : Log) → Run lives nobody s → s x ≡ Some n → Earlier h n.log → WasState lives s x n.card h
was_state lives _ x n h none sx e = absurd (none_some sx)
was_state lives _ x n h (joins t y c run free known ok) sx e =
    ⊎_elim
    (λ (w : (y ≡ x) × (new ≡ n)).
    let log = ap (λ (a : Node). a.log) w.1 in
    now_state lives (with_node t y new) x n h (joins t y c run free known ok) sx (subst (Earlier h) (sym log) e ∙ log))
    (λ (w : (y ≡ x → ⊥) × (t x ≡ Some n)). later (was_state lives t x n h run w.1 e))
    (node_cases t y x new n sx)
  where
    new : Node
    new = record { card = c; log = [] }

    later : WasState lives t x n.card h → WasState lives (with_node t y new) x n.card h
    later w = record { state = w.state; before = w.before; after = joins t y c w.after free known ok; joined = w.joined }
was_state lives _ x n h (accepts t y z p q k m b run sy sz ly lz next) sx e =
    ⊎_elim
    (λ (w : (y ≡ x) × (new ≡ n)).
    ⊎_elim
    (λ (is : h ≡ item ∷ k.log). now_state lives (after t y k item) x n h (accepts t y z p q k m b run sy sz ly lz next) sx (is ∙ ap (λ (a : Node). a.log) w.1))
    (λ (old : Earlier h k.log).
    later (subst (λ (a : LifeId × CardOf). WasState lives t a.0 a.1 h) (λ i. (w.0 i, (w.1 i).card)) (was_state lives t y k h run sy old)))
    (subst (λ (a : Node). Earlier h a.log) (sym w.1) e))
    (λ (w : (y ≡ x → ⊥) × (t x ≡ Some n)). later (was_state lives t x n h run w.1 e))
    (node_cases t y x new n sx)
  where
    item : OnPort
    item = record { port = p; body = b }

    new : Node
    new = with_item k item

    later : WasState lives t x n.card h → WasState lives (after t y k item) x n.card h
    later w = record { state = w.state; before = w.before; after = accepts t y z p q k m b w.after sy sz ly lz next; joined = w.joined }

-- So who had finished at a moment was stable then, and has kept the version of that moment.
pub record HasKept (n : Node) (h : Log) : Type 0 where
  pub stable : is_stable n.card h ≡ true
  pub version : version n.card n.log ≡ version n.card h

pub finish_kept : (lives : List LifeId) (s : Slice) → length lives ≤ 126 → Run lives nobody s → (x : LifeId) (n : Node) (h : Log) (t : TopoOf) → s x ≡ Some n → Earlier h n.log → finish n.card h ≡ Some t → HasKept n h
finish_kept lives s few run x n h t sx e done =
    let w = was_state lives s x n h run sx e in
    let u = finished_under lives w.state few w.before x (record { card = n.card; log = h }) t w.joined done in
    let d = is_detected lives w.state u.root few w.before u.was in
    let st = d.settled x (record { card = n.card; log = h }) u.reached w.joined in
    record { stable = st.stable; version = st.version s n w.after sx }
