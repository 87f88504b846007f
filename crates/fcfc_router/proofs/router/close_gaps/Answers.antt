use Rattle.std.proofs.Common.{◌≡◌, ◌∙◌, ap, refl, rules, sym, subst, arith, ℕ, List, length, get_or, slice_set, inl, inr}
use Rattle.std.specs.Prelude.{filter}
use Rattle.std.proofs.lemmas.Bool.{cases_eq, cases_lt}
use Rattle.std.proofs.lemmas.Fn.{filter_same}
use Rattle.std.proofs.lemmas.List.{get_or-set_other, get_or-set_same, length-map, length-set}
use Rattle.fcfc_router.specs.declared.router.Slot.{Slot}
use Rattle.fcfc_router.specs.Shown.{is_taken, request_of, set_at}
use Rattle.fcfc_router.proofs.ShownLemmas.{few_taken, none_past, shown_again}
use Rattle.fcfc_router.proofs.router.close_gaps.Goals as goal

pub places-init : goal.places-init
places-init c = record { count = refl; sets = λ k low. absurd (omega arith); others = λ k past. refl }

pub put-requires : goal.put-requires
put-requires c =
    let n = c.places.invariant.count in
    let e = c.len-used.ensures in
    let used = c.requires.used in
    let low = c.places-test.true in
    omega arith

pub places-preserved : goal.places-preserved
places-preserved c =
    let n = c.places.invariant.count in
    let e = c.len-used.ensures in
    let used = c.requires.used in
    let low = c.places-test.true in
    let m = ap (λ (xs : List ℕ). length xs) c.put.ensures ∙ length-set c.places.tree c.places.place c.set_at.result in
    record {
      count = omega arith;
      sets = λ k below. ap (λ (xs : List ℕ). get_or xs k 0) c.put.ensures ∙ elim (cases_eq k c.places.place) [
        | inl same ↦ subst (λ (j : ℕ). get_or (slice_set c.places.tree c.places.place c.set_at.result) j 0 ≡ set_at c.retain.new.self.items j) (sym same) (
            get_or-set_same c.places.tree c.places.place c.set_at.result 0 (omega arith) ∙ c.set_at.ensures ∙ ap (λ (xs : List Slot). set_at xs c.places.place) c.deref.ensures.value)
        | inr other ↦ (get_or-set_other c.places.tree c.places.place k c.set_at.result 0 other ∙ c.places.invariant.sets k (omega arith))
      ];
      others = λ k past. ap (λ (xs : List ℕ). get_or xs k 0) c.put.ensures ∙ get_or-set_other c.places.tree c.places.place k c.set_at.result 0 (omega arith) ∙ c.places.invariant.others k (omega arith);
    }

pub returns-clause-sets : goal.returns-clause-sets
returns-clause-sets c = λ place low.
    let n = c.places.invariant.count in
    let e = c.len-used.ensures in
    let done = c.places-test.false in
    let fewer = few_taken c.args.slots.now.items in
    let kept : c.retain.new.self.items ≡ filter is_taken c.args.slots.now.items = filter_same _ is_taken _ (λ x b f' k. search rules) _ _ c.retain.ensures.filtered in
    let count = ap (λ (xs : List Slot). length xs) kept in
    elim (cases_lt place c.places.place) [
      | inl before ↦ c.places.invariant.sets place before
      | inr past ↦ (
          c.places.invariant.others place past
          ∙ c.requires.sets place (omega arith)
          ∙ none_past c.args.slots.now.items place (omega arith)
          ∙ sym (none_past c.retain.new.self.items place (omega arith)))
    ]

pub returns-clause-shown : goal.returns-clause-shown
returns-clause-shown c = shown_again c.args.slots.now.items c.retain.new.self.items (filter_same _ is_taken _ (λ x b f' k. search rules) _ _ c.retain.ensures.filtered)

pub returns-clause-count : goal.returns-clause-count
returns-clause-count c =
    let kept : c.retain.new.self.items ≡ filter is_taken c.args.slots.now.items = filter_same _ is_taken _ (λ x b f' k. search rules) _ _ c.retain.ensures.filtered in
    ap (λ (xs : List Slot). length xs) kept ∙ sym (length-map (filter is_taken c.args.slots.now.items) request_of)

pub returns-clause-places : goal.returns-clause-places
returns-clause-places c = c.places.invariant.count
