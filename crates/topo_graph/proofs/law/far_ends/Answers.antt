use Rattle.std.proofs.Common.{◌≡◌, ◌∙◌, ap, subst, ℕ, Some}
use Rattle.topo_graph.specs.Topology.{end_at, far_of}
use Rattle.topo_graph.proofs.FarLemmas.{one_place, far_is_link, link_is_far}
use Rattle.topo_graph.proofs.law.far_ends.Goals as goal

pub returns : goal.returns
returns c = λ es x p y q graph x_low y_low. (
  λ e. (far_is_link es x p y q graph.rising e).2,
  λ link.
      let far = link_is_far es (end_at es x p) (end_at es y q) graph link in
      let x_is : far.0 ≡ x = one_place es far.0 x graph.rising far.2 x_low far.4 in
      let y_is : far.1 ≡ y = one_place es far.1 y graph.rising far.3 y_low far.5 in
      subst (λ (n : ℕ). far_of es n p ≡ Some (y, q)) x_is (far.6 ∙ ap (λ (n : ℕ). Some (n, q)) y_is),
)
