-- Counts of steps, and of dependencies.
use Rattle.std.proofs.Common.{◌≡◌, ◌∙◌, sym, ap, subst, refl, ℕ, ◌+◌, ◌/◌, ◌≤◌, length, inl, inr, arith, mul_comm, ◌↔◌}
use Rattle.std.proofs.lemmas.Bool.{cases_eq, cases_lt}
use Rattle.std.proofs.Math.Nat.{div-add-mod}
use Rattle.common_graph.specs.Graph.{GraphOf, HasNoNext, IsNext, LeadsTo}
use Rattle.fabric_tables.specs.Cells.{TablesOf}
use Rattle.fabric_model.specs.Fabric.{FabricOf}
use Rattle.fabric_model.specs.declared.traffic.Traffic.{Traffic}
use Rattle.fabric_routes.specs.Counting.{IsCountOf}
use Rattle.fabric_routes.specs.Finding.{AreDependencies}
use Rattle.fabric_routes.specs.Routes.{DependsOn}
use Rattle.fabric_routes.specs.Found.{IsChannel, number}
use Rattle.fabric_routes.proofs.CountLemmas.{count_image, count_more, count_none, count_same, count_sum}
use Rattle.fabric_verdict.specs.Count.{IsDependencyCount}
use Rattle.fabric_verdict.specs.Steps.{IsNextBelow, IsStep, IsStepBelow}
use Rattle.fabric_verdict.proofs.NumberLemmas.{both, channel_at, channel_back}

module _ (graph : GraphOf) where
  module _ (node : ℕ) where
    pub nexts_none : IsCountOf (IsNextBelow graph node 0) 0
    nexts_none = count_none ℕ (IsNextBelow graph node 0) (λ next is. absurd (let low = is.1 in omega arith))

    -- one step more
    pub nexts_more : (from next count : ℕ) → IsNext graph node from next → IsCountOf (IsNextBelow graph node from) count → IsCountOf (IsNextBelow graph node (next + 1)) (count + 1)
    nexts_more from next count is so_far =
        count_more ℕ (IsNextBelow graph node from) (IsNextBelow graph node (next + 1)) next count (λ other has. (has.0, (let low = has.1 in let after = is.after in omega arith)))
        (λ other has. elim (cases_lt other from) [
          | inl before ↦ inl (has.0, before)
          | inr after ↦ inr (let least = is.least other after has.0 in let low = has.1 in omega arith)
        ])
        (is.step, omega arith) (λ has. absurd (let low = has.1 in let after = is.after in omega arith)) so_far

    -- all steps
    pub nexts_all : (from count : ℕ) → HasNoNext graph node from → IsCountOf (IsNextBelow graph node from) count → IsCountOf (LeadsTo graph node) count
    nexts_all from count none so_far =
        count_same ℕ (IsNextBelow graph node from) (LeadsTo graph node) count (λ next has. has.0)
        (λ next leads. (
          leads,
          elim (cases_lt next from) [
            | inl before ↦ before
            | inr after ↦ absurd (none next after leads)
          ],
        )) so_far

    abbrev IsFrom : ℕ × ℕ → Type 0
    IsFrom pair = IsStep graph pair × (pair.0 ≡ node)

    steps_from : (count : ℕ) → IsCountOf (LeadsTo graph node) count → IsCountOf IsFrom count
    steps_from count is =
        count_image ℕ (ℕ × ℕ) (λ (next : ℕ). (node, next)) (LeadsTo graph node) IsFrom count (λ next leads. (leads, refl))
        (λ pair has. (pair.1, subst (λ (n : ℕ). LeadsTo graph n pair.1) has.1 has.0, ap (λ (n : ℕ). let at : ℕ × ℕ = (n, pair.1) in at) (sym has.1)))
        (λ one other same. ap (λ (pair : ℕ × ℕ). pair.1) same) is

    -- the steps of one node more
    pub steps_more : (before own : ℕ) → IsCountOf (IsStepBelow graph node) before → IsCountOf (LeadsTo graph node) own → IsCountOf (IsStepBelow graph (node + 1)) (before + own)
    steps_more before own so_far here =
        count_sum (ℕ × ℕ) (IsStepBelow graph node) IsFrom (IsStepBelow graph (node + 1)) before own (λ pair is. (is.0, (let low = is.1 in omega arith))) (λ pair is. (is.0, (let same = is.1 in omega arith)))
        (λ pair is. elim (cases_eq pair.0 node) [
          | inl same ↦ inr (is.0, same)
          | inr less ↦ inl (is.0, (let low = is.1 in omega arith))
        ])
        (λ pair is other. absurd (let low = is.1 in let same = other.1 in omega arith)) so_far (steps_from own here)

  pub steps_none : IsCountOf (IsStepBelow graph 0) 0
  steps_none = count_none (ℕ × ℕ) (IsStepBelow graph 0) (λ pair is. absurd (let low = is.1 in omega arith))

  pub steps_all : (nodes count : ℕ) → length graph.bases ≤ nodes → IsCountOf (IsStepBelow graph nodes) count → IsCountOf (IsStep graph) count
  steps_all nodes count all so_far = count_same (ℕ × ℕ) (IsStepBelow graph nodes) (IsStep graph) count (λ pair is. is.0) (λ pair leads. (leads, (let low = leads.low in omega arith))) so_far

-- steps between nodes of any kind are as many as those between their numbers
module _ {Node : Type 0} (Is : Node → Type 0) (number : Node → ℕ) (node_at : ℕ → Node) (back : (node : Node) → Is node → node_at (number node) ≡ node) (number_back : (place : ℕ) → number (node_at place) ≡ place) (Step : Node → Node → Type 0) (are : (one other : Node) → Step one other → Is one × Is other) (g : GraphOf) (exact : (one other : Node) → Is one → Is other → (LeadsTo g (number one) (number other) ↔ Step one other)) (only : (one other : ℕ) → LeadsTo g one other → (x y : Node) × Is x × Is y × (one ≡ number x) × (other ≡ number y)) where
  abbrev IsStepOf : Node × Node → Type 0
  IsStepOf pair = Step pair.0 pair.1

  abbrev nodes_at : ℕ × ℕ → Node × Node
  nodes_at pair = (node_at pair.0, node_at pair.1)

  step_at : (pair : ℕ × ℕ) → IsStep g pair → IsStepOf (nodes_at pair)
  step_at pair leads =
      let (one, other, is, too, first, second) = only pair.0 pair.1 leads in
      let a : node_at pair.0 ≡ one = subst (λ (n : ℕ). node_at n ≡ one) (sym first) (back one is) in
      let b : node_at pair.1 ≡ other = subst (λ (n : ℕ). node_at n ≡ other) (sym second) (back other too) in
      let step : Step one other = (exact one other is too).0 (subst (λ (n : ℕ). LeadsTo g (number one) n) second (subst (λ (n : ℕ). LeadsTo g n pair.1) first leads)) in
      subst (λ (x : Node). Step x (node_at pair.1)) (sym a) (subst (λ (y : Node). Step one y) (sym b) step)

  from_step : (pair : Node × Node) → IsStepOf pair → (step : ℕ × ℕ) × IsStep g step × (nodes_at step ≡ pair)
  from_step pair step =
      let (is, too) = are pair.0 pair.1 step in (
        (number pair.0, number pair.1),
        (exact pair.0 pair.1 is too).1 step,
        ap (λ (x : Node). let all : Node × Node = (x, node_at (number pair.1)) in all) (back pair.0 is)
            ∙ ap (λ (x : Node). let all : Node × Node = (pair.0, x) in all) (back pair.1 too),
      )

  one_step : (one other : ℕ × ℕ) → nodes_at one ≡ nodes_at other → one ≡ other
  one_step one other same =
      let first : one.0 ≡ other.0 = sym (number_back one.0) ∙ ap (λ (pair : Node × Node). number pair.0) same ∙ number_back other.0 in
      let second : one.1 ≡ other.1 = sym (number_back one.1) ∙ ap (λ (pair : Node × Node). number pair.1) same ∙ number_back other.1 in
      ap (λ (n : ℕ). let all : ℕ × ℕ = (n, one.1) in all) first ∙ ap (λ (n : ℕ). let all : ℕ × ℕ = (other.0, n) in all) second

  pub count_of_steps : (count : ℕ) → IsCountOf (IsStep g) count → IsCountOf IsStepOf count
  count_of_steps count is = count_image (ℕ × ℕ) (Node × Node) nodes_at (IsStep g) IsStepOf count step_at from_step one_step is

-- the place of what stands at a place
pub number_back : (fabric : FabricOf) (place : ℕ) → number fabric (channel_at fabric.most place) ≡ place
number_back fabric place = let whole = div-add-mod place fabric.most in let turn = mul_comm fabric.most (place / fabric.most) in omega arith

pub dependencies : (fabric : FabricOf) (tables : TablesOf) (traffic : Traffic) (g : GraphOf) → AreDependencies fabric tables traffic g → (count : ℕ) → IsCountOf (IsStep g) count → IsDependencyCount fabric tables traffic count
dependencies fabric tables traffic g are count is = count_of_steps (IsChannel fabric) (number fabric) (channel_at fabric.most) (channel_back fabric) (number_back fabric) (DependsOn fabric tables traffic) (both fabric tables traffic g are) g are.exact are.only count is
