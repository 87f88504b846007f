-- Cycles and ranks of nodes of any kind, by their numbers.
use Rattle.std.proofs.Common.{◌≡◌, ◌∙◌, sym, ap, subst, refl, ℕ, List, [], ◌∷◌, Option, Some, None, arith, map, inl, inr, ◌↔◌}
use Rattle.std.specs.declared.cmp.Ordering.{Ordering}
use Rattle.std.specs.Prelude.{IsTrue}
use Rattle.std.specs.Ordering.{nat_cmp, is_le}
use Rattle.std.specs.Cmp.Lexicographic.{slice_cmp}
use Rattle.std.specs.List.{AllByRecursion}
use Rattle.std.proofs.lemmas.List.{length-map}
use Rattle.common_graph.specs.Cycles.{Path, IsCycle, HasNoCycle, IsLeastAt, IsLeastCycle, IsRank, AreRanks}

module _ {Node : Type 0} (Is : Node → Type 0) (number : Node → ℕ) (node_of : ℕ → Node) (back : (x : Node) → Is x → node_of (number x) ≡ x) (Step : Node → Node → Type 0) (are : (x y : Node) → Step x y → Is x × Is y) (Leads : ℕ → ℕ → Type 0) (exact : (x y : Node) → Is x → Is y → (Leads (number x) (number y) ↔ Step x y)) (only : (one other : ℕ) → Leads one other → (x y : Node) × Is x × Is y × (one ≡ number x) × (other ≡ number y)) where
  -- a step of nodes is one of their numbers
  step_number : (x y : Node) → Step x y → Leads (number x) (number y)
  step_number x y step = (exact x y (are x y step).0 (are x y step).1).1 step

  -- a path of nodes is one of their numbers
  path_numbers : (start : Node) (rest : List Node) (end : Node) → Path Step start rest end → Path Leads (number start) (map number rest) (number end)
  path_numbers start [] end step = step_number start end step
  path_numbers start (next ∷ rest) end (step, path) = (step_number start next step, path_numbers next rest end path)

  -- and its nodes have numbers
  path_are : (start : Node) (rest : List Node) (end : Node) → Path Step start rest end → AllByRecursion Is rest
  path_are start [] end step = tt
  path_are start (next ∷ rest) end (step, path) = ((are start next step).1, path_are next rest end path)

  path_first : (start : Node) (rest : List Node) (end : Node) → Path Step start rest end → Is start
  path_first start [] end step = (are start end step).0
  path_first start (next ∷ rest) end (step, path) = (are start next step).0

  -- a path of numbers is one of nodes
  path_nodes : (start : Node) (numbers : List ℕ) (end : Node) → Is start → Is end → Path Leads (number start) numbers (number end) → (rest : List Node) × (numbers ≡ map number rest) × Path Step start rest end
  path_nodes start [] end is_start is_end leads = ([], refl, (exact start end is_start is_end).0 leads)
  path_nodes start (n ∷ ns) end is_start is_end (leads, path) =
      let found = only (number start) n leads in
      let next = found.1 in
      let is_next = found.3 in
      let same = found.5 in
      let more = path_nodes next ns end is_next is_end (subst (λ (k : ℕ). Path Leads k ns (number end)) same path) in (
        next ∷ more.0,
        ap (λ (k : ℕ). k ∷ ns) same ∙ ap (λ (ks : List ℕ). number next ∷ ks) more.1,
        ((exact start next is_start is_next).0 (subst (λ (k : ℕ). Leads (number start) k) same leads), more.2),
      )

  -- steps that lead round as numbers lead round
  pub no_cycle : HasNoCycle Leads → HasNoCycle Step
  no_cycle none start rest cycle = none (number start) (map number rest) (path_numbers start rest start cycle)

  -- the nodes of numbers
  nodes_back : (rest : List Node) → AllByRecursion Is rest → map node_of (map number rest) ≡ rest
  nodes_back [] all = refl
  nodes_back (x ∷ xs) (is, all) = rw (back x is, nodes_back xs all) refl

  module _ (compare : Node → Node → Ordering) (order : (x y : Node) → Is x → Is y → compare x y ≡ nat_cmp (number x) (number y)) where
    lists_order : (xs ys : List Node) → AllByRecursion Is xs → AllByRecursion Is ys → slice_cmp compare xs ys ≡ slice_cmp nat_cmp (map number xs) (map number ys)
    lists_order [] [] all more = refl
    lists_order [] (y ∷ ys) all more = refl
    lists_order (x ∷ xs) [] all more = refl
    lists_order (x ∷ xs) (y ∷ ys) (is, all) (too, more) = rw (order x y is too, lists_order xs ys all more) refl

    -- the least cycle from a node
    least_at : (start : Node) (rest : List Node) → IsCycle Step start rest → IsLeastAt nat_cmp Leads (number start) (map number rest) → IsLeastAt compare Step start rest
    least_at start rest closed least = record {
      from = record {
        closed = closed;
        shortest = λ other cycle. (
            let le = least.from.shortest (map number other) (path_numbers start other start cycle) in
            let a = length-map rest number in
            let b = length-map other number in
            omega arith);
        least = λ other cycle count. subst (λ (o : Ordering). IsTrue (is_le o)) (sym (lists_order rest other (path_are start rest start closed) (path_are start other start cycle))) (least.from.least (map number other) (path_numbers start other start cycle) (length-map other number ∙ count ∙ sym (length-map rest number)));
      };
      first = λ other others cycle. subst (λ (o : Ordering). IsTrue (is_le o)) (sym (order start other (path_first start rest start closed) (path_first other others other cycle))) (least.first (number other) (map number others) (path_numbers other others other cycle));
    }

    leads_from : (n : ℕ) (ns : List ℕ) (m : ℕ) → Path Leads n ns m → (x : Node) × Is x × (n ≡ number x)
    leads_from n [] m leads = let found = only n m leads in (found.0, found.2, found.4)
    leads_from n (k ∷ ks) m (leads, path) = let found = only n k leads in (found.0, found.2, found.4)

    -- the least cycle of numbers is that of their nodes
    pub least_cycle : (numbers : List ℕ) → IsLeastCycle nat_cmp Leads numbers → IsLeastCycle compare Step (map node_of numbers)
    least_cycle [] least = absurd least
    least_cycle (n ∷ ns) least =
        let found = leads_from n ns n least.from.closed in
        let start = found.0 in
        let is = found.1 in
        let here : IsLeastAt nat_cmp Leads (number start) ns = subst (λ (k : ℕ). IsLeastAt nat_cmp Leads k ns) found.2 least in
        let rest = path_nodes start ns start is is here.from.closed in
        let there : IsLeastAt nat_cmp Leads (number start) (map number rest.0) = subst (λ (ks : List ℕ). IsLeastAt nat_cmp Leads (number start) ks) rest.1 here in
        let first : start ≡ node_of n = sym (back start is) ∙ ap node_of (sym found.2) in
        let others : rest.0 ≡ map node_of ns = sym (nodes_back rest.0 (path_are start rest.0 start rest.2)) ∙ ap (λ (ks : List ℕ). map node_of ks) (sym rest.1) in
        subst (λ (x : Node). IsLeastAt compare Step x (map node_of ns)) first (subst (λ (xs : List Node). IsLeastAt compare Step start xs) others (least_at start rest.0 rest.2 there))

  -- the ranks of numbers are those of their nodes
  pub ranks : (IsNumber : ℕ → Type 0) (rank : ℕ → Option ℕ) (rank_of : Node → Option ℕ) → ((x : Node) → Is x → IsNumber (number x)) → ((x : Node) → Is x → rank_of x ≡ rank (number x)) → ((x : Node) → (Is x → ⊥) → rank_of x ≡ None) → AreRanks IsNumber Leads rank → AreRanks Is Step rank_of
  ranks IsNumber rank rank_of inside same none ranked = record { nodes = nodes; others = none }
    where
      nodes : (x : Node) → Is x → (own : ℕ) × (rank_of x ≡ Some own) × IsRank Step rank_of x own
      nodes x is =
          let own = ranked.nodes (number x) (inside x is) in (
            own.0,
            same x is ∙ own.1,
            record {
              above = λ y step. (
                  let is_y = (are x y step).1 in
                  let over = own.2.above (number y) (step_number x y step) in
                  (over.0, same y is_y ∙ over.1, over.2));
              next = elim own.2.next [
                | inl zero ↦ inl zero
                | inr (after, lower, leads, has, one) ↦ (
                    let found = only (number x) after leads in
                    let y = found.1 in
                    let is_y = found.3 in
                    inr (y, lower, (exact x y is is_y).0 (subst (λ (k : ℕ). Leads (number x) k) found.5 leads), same y is_y ∙ ap rank (sym found.5) ∙ has, one))
              ];
            },
          )
