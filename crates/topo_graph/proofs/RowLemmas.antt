use Rattle.std.proofs.Common.{◌≡◌, ◌∙◌, sym, ap, subst, refl, ℕ, ◌+◌, ◌<◌, ◌≤◌, List, [], ◌∷◌, ◌++◌, Option, Some, None, arith, length, length-take-le, length-append, get_or, take, set, All, inl, inr, ◌==◌}
use Rattle.std.specs.Prelude.{IfSome}
use Rattle.std.specs.Option.{option_and_then, option_or}
use Rattle.std.proofs.lemmas.Bool.{cases_eq, cases_lt, eq-eqb, ne_eqb}
use Rattle.std.proofs.lemmas.List.{take_more, get_or-set_same, get_or-set_other, get_or-take, get_or_default, get_or_past, get_or_push, get_or_append_left}
use Rattle.std.proofs.lemmas.List.Folds.{find-append}
use Rattle.std.proofs.lemmas.List.Elements.{All-head, All-tail}
use Rattle.an_base.specs.Values.{EntryOf, PeerAt}
use Rattle.an_base.specs.Order.{LivesRise, PortsRise}
use Rattle.topo_graph.specs.declared.graph.PortRow.{PortRow}
use Rattle.topo_graph.specs.Topology.{nothing, entry_at, far_of, joined, link_at, AreWithin}
use Rattle.topo_graph.specs.Table.{cell_of, cell_at, HasLinks, LinksAreWithin, AreRows, IsKept}

-- no link at a port above those of the list
no_link : (links : List PeerAt) (p : ℕ) → All (λ l. l.port < p) links → link_at links p ≡ None
no_link [] p below = refl
no_link (l ∷ links) p below =
    let first : l.port < p = All-head (λ l. l.port < p) l links below in
    rw (ne_eqb l.port p (λ same. absurd (omega arith))) (no_link links p (All-tail (λ l. l.port < p) l links below))

-- nothing more is found where the next link has another port
or_none : (o : Option PeerAt) → option_or o None ≡ o
or_none None = refl
or_none (Some l) = refl

-- the links before one have ports below it
below_next : (links : List PeerAt) (k : ℕ) (l : PeerAt) → PortsRise links → k < length links → l ≡ get_or links k l → All (λ m. m.port < l.port) (take k links)
below_next links k l rising low at = λ i d less.
    let lt : i < k = omega (arith, length-take-le k links) in
    let e : get_or (take k links) i d ≡ get_or links i d = get_or-take k links i d lt in
    let h : (get_or links i d).port < (get_or links k d).port = rising i k d lt low in
    let f : get_or links k d ≡ get_or links k l = get_or_default links k d l low in
    rw (e, at, ← f) h

-- the row with one link more
pub row_more : (es : List EntryOf) (x : ℕ) (links : List PeerAt) (k port : ℕ) (l : PeerAt) (cells : List (Option (ℕ × ℕ))) (far : Option (ℕ × ℕ)) → PortsRise links → k < length links → l ≡ get_or links k l → port ≡ l.port → port < length cells → HasLinks es x (take k links) cells → far ≡ joined es x l → HasLinks es x (take (k + 1) links) (set cells port far)
row_more es x links k port l cells far rising low at is fits so_far found = λ p.
    let more : take (k + 1) links ≡ take k links ++ l ∷ [] = take_more links k l low ∙ ap (λ (m : PeerAt). take k links ++ m ∷ []) (sym at) in
    let split : link_at (take (k + 1) links) p ≡ option_or (link_at (take k links) p) (link_at (l ∷ []) p) = ap (λ (ms : List PeerAt). link_at ms p) more ∙ find-append (λ m. m.port == p) (take k links) (l ∷ []) in
    elim (cases_eq p port) [
      | inl same ↦ (
          let none : link_at (take k links) p ≡ None = rw (same, is) (no_link (take k links) l.port (below_next links k l rising low at)) in
          let one : link_at (l ∷ []) p ≡ Some l = rw (eq-eqb l.port p (sym is ∙ sym same)) refl in
          let got : get_or (set cells port far) p None ≡ far = rw same (get_or-set_same cells port far None fits) in
          let all : option_or (link_at (take k links) p) (link_at (l ∷ []) p) ≡ Some l = rw (none, one) refl in
          got ∙ found ∙ ap (λ (o : Option PeerAt). option_and_then (joined es x) o) (sym (split ∙ all)))
      | inr other ↦ (
          let none : link_at (l ∷ []) p ≡ None = rw (ne_eqb l.port p (λ e. other (sym e ∙ sym is))) refl in
          let got : get_or (set cells port far) p None ≡ get_or cells p None = get_or-set_other cells port p far None other in
          let all : option_or (link_at (take k links) p) (link_at (l ∷ []) p) ≡ link_at (take k links) p = rw none (or_none (link_at (take k links) p)) in
          got ∙ so_far p ∙ ap (λ (o : Option PeerAt). option_and_then (joined es x) o) (sym (split ∙ all)))
    ]

-- what one link has at its far side
pub far_more : (es : List EntryOf) (x at port : ℕ) (cells : List (Option (ℕ × ℕ))) (found : Option (ℕ × ℕ)) → port ≡ at → port < length cells → LinksAreWithin es x cells → IfSome found (AreWithin es x at) → LinksAreWithin es x (set cells port found)
far_more es x at port cells found is_at fits so_far within = λ p far e. elim (cases_eq p port) [
  | inl same ↦ (
      let got : get_or (set cells port found) p None ≡ found = rw same (get_or-set_same cells port found None fits) in
      let is : found ≡ Some far = sym got ∙ e in
      let here : AreWithin es x at far = subst (λ (o : Option (ℕ × ℕ)). IfSome o (AreWithin es x at)) is within in
      subst (λ (n : ℕ). AreWithin es x n far) (sym (same ∙ is_at)) here)
  | inr other ↦ so_far p far (sym (get_or-set_other cells port p found None other) ∙ e)
]

-- no row
abbrev none : PortRow
none = record { cells = [] }

-- the table with one row more
pub rows_more : (es : List EntryOf) (x : ℕ) (rows : List PortRow) (row : PortRow) → AreRows es rows x → HasLinks es x (entry_at es x).links row.cells → LinksAreWithin es x row.cells → PortsRise (entry_at es x).links → AreRows es (rows ++ row ∷ []) (x + 1)
rows_more es x rows row so_far links within ports = record {
  count = omega (arith, so_far.count, length-append rows (row ∷ []));
  cells = λ y p low. elim (cases_eq y x) [
    | inl same ↦ (ap (λ (r : PortRow). cell_of r p) (last y same) ∙ rw same (links p))
    | inr other ↦ (ap (λ (r : PortRow). cell_of r p) (get_or_append_left rows (row ∷ []) none y (omega (arith, so_far.count))) ∙ so_far.cells y p (omega arith))
  ];
  ports = λ y low. elim (cases_eq y x) [
    | inl same ↦ subst (λ (z : ℕ). PortsRise (entry_at es z).links) (sym same) ports
    | inr other ↦ so_far.ports y (omega arith)
  ];
  within = λ y p far e. elim (cases_lt y x) [
    | inl before ↦ so_far.within y p far (sym (ap (λ (r : PortRow). cell_of r p) (get_or_append_left rows (row ∷ []) none y (omega (arith, so_far.count)))) ∙ e)
    | inr after ↦ elim (cases_eq y x) [
      | inl same ↦ subst (λ (z : ℕ). AreWithin es z p far) (sym same) (within p far (sym (ap (λ (r : PortRow). cell_of r p) (last y same)) ∙ e))
      | inr other ↦ absurd (let past : get_or (rows ++ row ∷ []) y none ≡ none = get_or_past (rows ++ row ∷ []) y none (omega (arith, so_far.count, length-append rows (row ∷ []))) in let gone : cell_at (rows ++ row ∷ []) y p ≡ None = ap (λ (r : PortRow). cell_of r p) past in cc)
    ]
  ];
}
  where
    last : (y : ℕ) → y ≡ x → get_or (rows ++ row ∷ []) y none ≡ row
    last y same = get_or_push rows row none y (so_far.count ∙ sym same)

-- past the last entry there is no link
pub far_past : (es : List EntryOf) (x p : ℕ) → length es ≤ x → far_of es x p ≡ None
far_past es x p high = ap (λ (e : EntryOf). option_and_then (joined es x) (link_at e.links p)) (get_or_past es x nothing high)

-- at first the table has no entry
pub no_rows : (es : List EntryOf) → AreRows es [] 0
no_rows es = record {
  count = refl;
  cells = λ x p low. absurd (omega arith);
  ports = λ x low. absurd (omega arith);
  within = λ x p far e. absurd (cc);
}

-- the whole table
pub all_rows : (es : List EntryOf) (rows : List PortRow) → 1 ≤ length es → length es ≤ 126 → LivesRise es → AreRows es rows (length es) → IsKept es rows
all_rows es rows some most rising all = record {
  graph = record {
    some = some;
    most = most;
    rising = rising;
    ports = λ x. elim (cases_lt x (length es)) [
      | inl low ↦ all.ports x low
      | inr high ↦ subst (λ (e : EntryOf). PortsRise e.links) (sym (get_or_past es x nothing high)) (λ i j d lt less. absurd (omega arith))
    ];
    within = λ x p far e. all.within x p far (cells x p ∙ e);
  };
  cells = cells;
}
  where
    cells : (x p : ℕ) → cell_at rows x p ≡ far_of es x p
    cells x p = elim (cases_lt x (length es)) [
      | inl low ↦ all.cells x p low
      | inr high ↦ (ap (λ (r : PortRow). cell_of r p) (get_or_past rows x none (omega (arith, all.count))) ∙ sym (far_past es x p high))
    ]
