-- A node has one place in a spanning tree.
use Rattle.std.proofs.Common.{◌≡◌, ◌∙◌, sym, ap, subst, ℕ, arith, inl, inr, Some}
use Rattle.std.proofs.lemmas.Bool.{cases_eq}
use Rattle.an_base.specs.Values.{Place}
use Rattle.an_base.specs.Tree.{Network, IsDistance, IsNearer, IsPlace, IsClosed, HasLivesApart}
use Rattle.an_base.proofs.OrderLaws.{place_is, both_least}

-- a node has one distance to another
pub one_level : (g : Network) (x r m n : ℕ) → IsDistance g x r m → IsDistance g x r n → m ≡ n
one_level g x r m n a b = let h = a.least n b.walk in let k = b.least m a.walk in omega arith

-- a node has one place in the spanning tree of a root
pub one_place_of : (g : Network) (r x : ℕ) (p q : Place) → IsClosed g → HasLivesApart g → IsPlace g r x p → IsPlace g r x q → p ≡ q
one_place_of g r x p q closed apart a b =
    let root : p.root ≡ q.root = a.root ∙ sym b.root in
    let level : p.level ≡ q.level = one_level g x r p.level q.level a.level b.level in
    elim (cases_eq x r) [
      | inl same ↦ (let c = a.at_root same in let d = b.at_root same in place_is p q root level (c.0 ∙ sym d.0) (c.1 ∙ sym d.1))
      | inr other ↦ (
          let y = a.below other in
          let z = b.below other in
          let z_near : IsNearer g r x p.level z.0 = subst (λ (n : ℕ). IsNearer g r x n z.0) (sym level) z.1.nearer in
          let y_near : IsNearer g r x q.level y.0 = subst (λ (n : ℕ). IsNearer g r x n y.0) level y.1.nearer in
          let lives = both_least (g.life y.0) (g.life z.0) (y.1.least z.0 z_near) (z.1.least y.0 y_near) in
          let in_y = closed x p.port y.0 y.1.port.0 y.1.port.1 in
          let in_z = closed x q.port z.0 z.1.port.0 z.1.port.1 in
          let one : y.0 ≡ z.0 = apart y.0 z.0 in_y in_z lives in
          let low = y.1.least_port q.port z.1.port.0 (z.1.port.1 ∙ ap (λ (n : ℕ). Some (n, z.1.port.0)) (sym one)) in
          let high = z.1.least_port p.port y.1.port.0 (y.1.port.1 ∙ ap (λ (n : ℕ). Some (n, y.1.port.0)) one) in
          place_is p q root level (y.1.parent ∙ lives ∙ sym z.1.parent) (omega arith))
    ]
