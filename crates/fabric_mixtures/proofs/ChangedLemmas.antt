-- Rows that are changed, one after another.
use Rattle.std.specs.Prelude.{◌↔◌, IsTrue}
use Rattle.std.specs.Int.{from_bool}
use Rattle.std.proofs.Common.{◌≡◌, ◌≢◌, ◌∙◌, sym, ap, subst, refl, ℕ, ◌+◌, ◌<◌, ◌≤◌, Bool, true, false, arith, inl, inr}
use Rattle.std.proofs.lemmas.Bool.{cases_eq, cases_lt}
use Rattle.fabric_tables.specs.Cells.{TablesOf}
use Rattle.fabric_model.specs.Fabric.{FabricOf, switch_count}
use Rattle.fabric_routes.specs.Counting.{IsCountOf}
use Rattle.fabric_routes.proofs.CountLemmas.{count_more, count_none, count_same, count_sum}
use Rattle.fabric_mixtures.specs.Steps.{ArePast, IsChangedBelow, IsChangedFor}
use Rattle.fabric_mixtures.specs.Verdict.{IsChanged}

abbrev Row : Type 0
Row = ℕ × ℕ

abbrev row_at : ℕ → ℕ → Row
row_at switch lid = (switch, lid)

same_row : (row : Row) (switch lid : ℕ) → row.0 ≡ switch → row.1 ≡ lid → row ≡ row_at switch lid
same_row row switch lid one other = ap (λ (n : ℕ). row_at n row.1) one ∙ ap (λ (n : ℕ). row_at switch n) other

-- so there are at most so many
pub few_more : (at count next : ℕ) (b : Bool) → next ≡ count + from_bool b → count ≤ at → next ≤ at + 1
few_more at count next true sum low = omega arith
few_more at count next false sum low = omega arith

module _ (fabric : FabricOf) (old new : TablesOf) where
  -- the rows for one LID
  module _ (lid : ℕ) where
    pub for_none : IsCountOf (IsChangedFor fabric old new lid 0) 0
    for_none = count_none Row (IsChangedFor fabric old new lid 0) (λ row is. absurd (let low = is.2 in omega arith))

    pub for_more : (at count next : ℕ) (b : Bool) → next ≡ count + from_bool b → at < switch_count fabric → (IsTrue b ↔ (old at lid ≢ new at lid)) → IsCountOf (IsChangedFor fabric old new lid at) count → IsCountOf (IsChangedFor fabric old new lid (at + 1)) next
    for_more at count next true sum low tells so_far =
        let more : next ≡ count + 1 = omega (arith, sum) in
        subst (IsCountOf (IsChangedFor fabric old new lid (at + 1))) (sym more) (count_more Row (IsChangedFor fabric old new lid at) (IsChangedFor fabric old new lid (at + 1)) (row_at at lid) count (λ row is. (is.0, is.1, (let less = is.2 in omega arith)))
        (λ row is. elim (cases_eq row.0 at) [
          | inl here ↦ inr (same_row row at lid here is.1)
          | inr before ↦ inl (is.0, is.1, (let less = is.2 in omega arith))
        ])
        (record { switch = low; differs = tells.0 refl }, refl, omega arith) (λ is. absurd (let less = is.2 in omega arith)) so_far)
    for_more at count next false sum low tells so_far =
        let same : next ≡ count = omega (arith, sum) in
        subst (IsCountOf (IsChangedFor fabric old new lid (at + 1))) (sym same) (count_same Row (IsChangedFor fabric old new lid at) (IsChangedFor fabric old new lid (at + 1)) count (λ row is. (is.0, is.1, (let less = is.2 in omega arith)))
        (λ row is. (
          is.0,
          is.1,
          elim (cases_eq row.0 at) [
            | inl here ↦ absurd (none (subst (λ (r : Row). IsChanged fabric old new r) (same_row row at lid here is.1) is.0))
            | inr before ↦ (let less = is.2 in omega arith)
          ],
        )) so_far)
      where
        none : IsChanged fabric old new (row_at at lid) → ⊥
        none is = let wrong : false ≡ true = tells.1 is.differs in absurd (cc)

    -- the rows for the LIDs before it and for it
    pub below_more : (before own : ℕ) → IsCountOf (IsChangedBelow fabric old new lid) before → IsCountOf (IsChangedFor fabric old new lid (switch_count fabric)) own → IsCountOf (IsChangedBelow fabric old new (lid + 1)) (before + own)
    below_more before own so_far here =
        count_sum Row (IsChangedBelow fabric old new lid) (IsChangedFor fabric old new lid (switch_count fabric)) (IsChangedBelow fabric old new (lid + 1)) before own (λ row is. (is.0, (let less = is.1 in omega arith))) (λ row is. (is.0, (let same = is.1 in omega arith)))
        (λ row is. elim (cases_eq row.1 lid) [
          | inl same ↦ inr (is.0, same, is.0.switch)
          | inr away ↦ inl (is.0, (let less = is.1 in omega arith))
        ])
        (λ row is other. absurd (let less = is.1 in let same = other.1 in omega arith)) so_far here

  pub below_none : IsCountOf (IsChangedBelow fabric old new 0) 0
  below_none = count_none Row (IsChangedBelow fabric old new 0) (λ row is. absurd (let low = is.1 in omega arith))

  pub below_all : (lids count : ℕ) → ArePast old new lids → IsCountOf (IsChangedBelow fabric old new lids) count → IsCountOf (IsChanged fabric old new) count
  below_all lids count past so_far = count_same Row (IsChangedBelow fabric old new lids) (IsChanged fabric old new) count (λ row is. is.0) (λ row is. (
    is,
    elim (cases_lt row.1 lids) [
      | inl less ↦ less
      | inr over ↦ absurd (let none = past row.0 row.1 over in is.differs (none.0 ∙ sym none.1))
    ],
  )) so_far
