use Rattle.std.proofs.Common.{◌≡◌, ◌≢◌, ◌∙◌, sym, ap, ℕ, ◌+◌, ◌<◌, ◌≤◌, List, length, get_or, max, arith, inl, inr}
use Rattle.std.proofs.lemmas.Bool.{cases_eq, cases_lt}
use Rattle.std.proofs.lemmas.List.{get_or_past}
use Rattle.fabric_route_command.proofs.GreatestLemmas.{greatest_is}
use Rattle.fabric_route_command.proofs.loads.Loads.greatest.Goals as goal

-- the greatest of the first so many
record IsMost (xs : List ℕ) (count most : ℕ) : Type 0 where
  all : (at : ℕ) → at < count → get_or xs at 0 ≤ most
  some : most ≢ 0 → (at : ℕ) × (at < count) × (get_or xs at 0 ≡ most)

most_more : (xs : List ℕ) (count most more : ℕ) → more ≡ max most (get_or xs count 0) → IsMost xs count most → IsMost xs (count + 1) more
most_more xs count most more is are = record {
  all = λ at low. elim (cases_eq at count) [
    | inl same ↦ (let value = ap (λ (k : ℕ). get_or xs k 0) same in omega arith)
    | inr differ ↦ (let old = are.all at (omega arith) in omega arith)
  ];
  some = λ other. elim (cases_lt most (get_or xs count 0)) [
    | inl less ↦ (count, omega arith, omega arith)
    | inr not_less ↦ (
        let same : more ≡ most = omega arith in
        let old = are.some (λ none. other (same ∙ none)) in
        (old.0, (let low = old.1 in omega arith), old.2 ∙ sym same))
  ];
}

pub loads-preserved : goal.loads-preserved
loads-preserved c =
    let items = c.args.self.now.each.items in
    let value : c.max-greatest.result ≡ max c.loads.greatest (get_or items c.loads.load-index 0) = c.max-greatest.ensures ∙ ap (λ (xs : List ℕ). max c.loads.greatest (get_or xs c.loads.load-index 0)) c.deref-load-items.ensures.value in
    let more = most_more items c.loads.load-index c.loads.greatest c.max-greatest.result value (record { all = c.loads.invariant.most; some = c.loads.invariant.some }) in
    record { most = more.all; some = more.some }

pub returns : goal.returns
returns c = λ fabric tables fits are.
    let items = c.args.self.now.each.items in
    let size : length items ≡ c.loads.load-index = (let same = ap (λ (xs : List ℕ). length xs) c.deref-load-items.ensures.value in omega arith) in
    greatest_is fabric tables fits c.args.self.now are c.loads.greatest
    (λ at. elim (cases_lt at (length items)) [
      | inl low ↦ c.loads.invariant.most at (omega arith)
      | inr past ↦ (let none = get_or_past items at 0 past in omega arith)
    ])
    (λ other. (let one = c.loads.invariant.some other in (one.0, (let low = one.1 in omega arith), one.2)))
