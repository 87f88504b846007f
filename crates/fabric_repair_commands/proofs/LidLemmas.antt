-- For how many LIDs rows are set, row by row.
use Rattle.std.proofs.Common.{◌≡◌, ◌∙◌, sym, ap, subst, refl, ℕ, ◌+◌, ◌^◌, ◌<◌, ◌⊎◌, inl, inr, Bool, true, false, List, [], ◌∷◌, ◌++◌, arith, length, get_or, set, replicate, take, add-one}
use Rattle.std.proofs.Math.Seq.{take-suc}
use Rattle.std.proofs.lemmas.Bool.{both_ways, cases_eq, cases_lt}
use Rattle.std.proofs.lemmas.List.{get_or-replicate, get_or-set_other, get_or-set_same, get_or_past, length-replicate, length-set}
use Rattle.std.proofs.lemmas.List.Elements.{Contains-append_left, Contains-push, Contains-push_cases}
use Rattle.fabric_routes.specs.Counting.{IsCountOf}
use Rattle.fabric_routes.proofs.CountLemmas.{count_more, count_none, count_same}
use Rattle.fabric_repair_commands.specs.declared.rows.SetRow.{SetRow}
use Rattle.fabric_repair_commands.specs.Repairs.{IsSetFor}
use Rattle.fabric_repair_commands.specs.Flags.{AreFlagged}

-- no LID is flagged
none_at : (size lid : ℕ) → get_or (replicate size false) lid false ≡ false
none_at size lid = elim (cases_lt lid size) [
  | inl low ↦ get_or-replicate size lid false false low
  | inr past ↦ get_or_past (replicate size false) lid false (let long = length-replicate size false in omega arith)
]

pub none_flagged : (flags : List Bool) → flags ≡ replicate (2 ^ 16) false → AreFlagged [] flags 0
none_flagged flags are =
    let none : (lid : ℕ) → get_or flags lid false ≡ false = λ lid. ap (λ (f : List Bool). get_or f lid false) are ∙ none_at (2 ^ 16) lid in
    record {
      size = ap (λ (f : List Bool). length f) are ∙ length-replicate (2 ^ 16) false;
      only = λ lid is. absurd (both_ways (get_or flags lid false) (none lid) is);
      each = λ lid is. absurd (let low = is.1.1 in omega arith);
      counted = count_none ℕ (IsSetFor []) (λ lid is. absurd (let low = is.1.1 in omega arith));
    }

module _ (rows : List SetRow) (row : SetRow) where
  abbrev more : List SetRow
  more = rows ++ row ∷ []

  was : (lid : ℕ) → IsSetFor rows lid → IsSetFor more lid
  was lid is = (is.0, Contains-append_left rows (row ∷ []) is.0 is.1, is.2)

  own : IsSetFor more row.lid
  own = (row, Contains-push rows row, refl)

  either : (lid : ℕ) → IsSetFor more lid → IsSetFor rows lid ⊎ (lid ≡ row.lid)
  either lid is = elim (Contains-push_cases rows row is.0 is.1) [
    | inl old ↦ inl (is.0, old, is.2)
    | inr same ↦ inr (sym is.2 ∙ ap (λ (r : SetRow). r.lid) (sym same))
  ]

  pub old_flagged : (flags : List Bool) (count after : ℕ) → after ≡ count → get_or flags row.lid false ≡ true → AreFlagged rows flags count → AreFlagged more flags after
  old_flagged flags count after same flagged had =
      let back : (lid : ℕ) → IsSetFor more lid → IsSetFor rows lid = λ lid is. elim (either lid is) [
        | inl old ↦ old
        | inr same ↦ subst (IsSetFor rows) (sym same) (had.only row.lid flagged)
      ] in
      record {
        size = had.size;
        only = λ lid is. was lid (had.only lid is);
        each = λ lid is. had.each lid (back lid is);
        counted = subst (IsCountOf (IsSetFor more)) (sym same) (count_same ℕ (IsSetFor rows) (IsSetFor more) count was back had.counted);
      }

  new_at : (flags : List Bool) (count : ℕ) → row.lid < length flags → get_or flags row.lid false ≡ false → AreFlagged rows flags count → AreFlagged more (set flags row.lid true) (count + 1)
  new_at flags count low none had = record {
    size = length-set flags row.lid true ∙ had.size;
    only = λ lid is. elim (cases_eq lid row.lid) [
      | inl same ↦ subst (IsSetFor more) (sym same) own
      | inr other ↦ was lid (had.only lid (sym (get_or-set_other flags row.lid lid true false other) ∙ is))
    ];
    each = λ lid is. elim (cases_eq lid row.lid) [
      | inl same ↦ ap (λ (l : ℕ). get_or (set flags row.lid true) l false) same ∙ get_or-set_same flags row.lid true false low
      | inr other ↦ get_or-set_other flags row.lid lid true false other ∙ had.each lid (elim (either lid is) [
        | inl old ↦ old
        | inr same ↦ absurd (other same)
      ])
    ];
    counted = count_more ℕ (IsSetFor rows) (IsSetFor more) row.lid count was either own (λ is. both_ways (get_or flags row.lid false) none (had.each row.lid is)) had.counted;
  }

  pub new_flagged : (flags : List Bool) (count lid : ℕ) → lid ≡ row.lid → lid < length flags → get_or flags lid false ≡ false → AreFlagged rows flags count → AreFlagged more (set flags lid true) (count + 1)
  new_flagged flags count lid same low none had =
      subst (λ (l : ℕ). AreFlagged more (set flags l true) (count + 1)) (sym same)
      (new_at flags count (let s = same in omega arith) (ap (λ (l : ℕ). get_or flags l false) (sym same) ∙ none) had)

-- the rows so far and one more
pub rows_more : (rows : List SetRow) (k : ℕ) (d : SetRow) → k < length rows → take (k + 1) rows ≡ take k rows ++ get_or rows k d ∷ []
rows_more rows k d low = rw (add-one k, take-suc rows k d low) refl
