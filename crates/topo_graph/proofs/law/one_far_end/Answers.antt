use Rattle.std.proofs.Common.{◌≡◌, ◌∙◌, sym, ap, subst, ℕ, Some}
use Rattle.std.proofs.lemmas.Option.{same_Some}
use Rattle.an_base.specs.Values.{LifeId, EndId}
use Rattle.topo_graph.specs.Topology.{life_at, far_of}
use Rattle.topo_graph.proofs.FarLemmas.{one_place, link_is_far}
use Rattle.topo_graph.proofs.law.one_far_end.Goals as goal

pub returns : goal.returns
returns c = λ es a b d graph ab ad.
    let f = link_is_far es a b graph ab in
    let g = link_is_far es a d graph ad in
    let same : f.0 ≡ g.0 = one_place es f.0 g.0 graph.rising f.2 g.2 (f.4 ∙ sym g.4) in
    let e : far_of es g.0 a.port ≡ Some (f.1, b.port) = subst (λ (n : ℕ). far_of es n a.port ≡ Some (f.1, b.port)) same f.6 in
    let both : ◌≡◌ {A = ℕ × ℕ} (f.1, b.port) (g.1, d.port) = same_Some (f.1, b.port) (g.1, d.port) (sym e ∙ g.6) in
    let life : b.life ≡ d.life = sym f.5 ∙ ap (λ (r : ℕ × ℕ). life_at es r.0) both ∙ g.5 in
    let port : b.port ≡ d.port = ap (λ (r : ℕ × ℕ). r.1) both in
    let made : LifeId → ℕ → EndId = λ l p. record { life = l; port = p } in
    ap (λ (l : LifeId). made l b.port) life ∙ ap (λ (p : ℕ). made d.life p) port
