use Rattle.std.proofs.Common.{arith, ◌≡◌, ◌∙◌, sym, ap, not, subst, Vec, Global, ℕ, length, map}
use Rattle.std.specs.List.{range_with_len}
use Rattle.an_base.specs.Values.{EntryOf}
use Rattle.an_base.specs.Numbers.{AreNumbers}
use Rattle.switch_numbering.specs.Numbering.{proposals, number_at, numbering}
use Rattle.switch_numbering.proofs.Differing.{numbers_are}
use Rattle.switch_numbering.proofs.Counting.{others_low, others_within, first_found, other_step, first_step, within_next}
use Rattle.switch_numbering.proofs.numbering.number.Goals as goal
use Rattle.switch_numbering.proofs.numbering.number.Goals.{then-is_proposed_by+in_ok-push, else-is_proposed_by+in_ok-push-2}

pub index-requires : goal.index-requires
index-requires c =
    let proposed = ap (λ (e : EntryOf). e.proposed) c.entry.view_is in
    let first = first_found c.as_slice-entries.result.now c.entries.i c.entry.inside.proposed c.index-entries-i.result c.is_proposed_by.result (omega arith) c.index-entries-i.is proposed c.is_proposed_by.ensures ∙ ap not c.if-is_proposed_by.true in
    omega (arith, others_within c.as_slice-entries.result.now c.in_ok-free.free.items c.entries.i c.entries.others (omega arith) (omega (arith, ap length c.as_slice-entries.ensures.all)) c.entries.invariant.1 first c.in_ok-free.ensures)

pub entries-preserved : goal.entries-preserved
entries-preserved c =
    let proposed = ap (λ (e : EntryOf). e.proposed) c.entry.view_is in
    let first = first_found c.as_slice-entries.result.now c.entries.i c.entry.inside.proposed c.index-entries-i.result c.is_proposed_by.result (omega arith) c.index-entries-i.is proposed c.is_proposed_by.ensures in
    let within = within_next c.as_slice-entries.result.now c.entries.i c.index-entries-i.result c.index-entries-i.is (omega arith) (omega (arith, proposed, c.entry.invariant)) (omega (arith, proposed, c.entry.invariant)) c.entries.invariant.2 in
    elim c.if-is_proposed_by.branch [
      | then-is_proposed_by+in_ok-push w ↦ (
          let s = other_step c.as_slice-entries.result.now c.in_ok-free.free.items c.entries.numbers.items w.push.new.self.items c.entries.i c.entries.others w.index.result.now c.in_ok-free.ensures c.entries.invariant.0 c.entries.invariant.1 (first ∙ ap not w.if-is_proposed_by.true) (others_within c.as_slice-entries.result.now c.in_ok-free.free.items c.entries.i c.entries.others (omega arith) (omega (arith, ap length c.as_slice-entries.ensures.all)) c.entries.invariant.1 (first ∙ ap not w.if-is_proposed_by.true) c.in_ok-free.ensures) w.index.ensures w.in_ok-push.ensures.items in
          (ap (λ (v : Vec ℕ Global). v.items) w.numbers-is ∙ s.0, w.others-is ∙ s.1, within))
      | else-is_proposed_by+in_ok-push-2 w ↦ (
          let s = first_step c.as_slice-entries.result.now c.entries.numbers.items w.push-else-is_proposed_by.new.self.items c.entries.i c.entries.others c.entry.inside.proposed c.index-entries-i.result (omega arith) c.entries.invariant.0 c.entries.invariant.1 (first ∙ ap not w.if-is_proposed_by.false) c.index-entries-i.is proposed w.in_ok-push-2.ensures.items in
          (ap (λ (v : Vec ℕ Global). v.items) w.numbers-is ∙ s.0, w.others-is ∙ s.1, within))
    ]

pub overflow_add-others : goal.overflow_add-others
overflow_add-others c = omega (arith, others_low (proposals c.as_slice-entries.result.now) c.entries.i, c.entries.invariant.1, ap length c.as_slice-entries.ensures.all)

pub new-requires : goal.new-requires
new-requires c =
    let es = c.as_slice-entries.result.now in
    let all : c.entries.i ≡ length es = omega arith in
    let same = ap length c.as_slice-entries.ensures.all in
    let items : c.entries.numbers.items ≡ numbering es = c.entries.invariant.0 ∙ ap (λ (k : ℕ). map (number_at (proposals es)) (range_with_len 0 k)) all in
    subst AreNumbers (sym items) (numbers_are es (omega (arith, c.as_slice-entries.ensures.some)) (omega (arith, c.as_slice-entries.ensures.most)) (λ k d low. c.entries.invariant.2 k d (omega arith)))
