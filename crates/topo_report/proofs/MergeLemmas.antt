use Rattle.std.proofs.Common.{◌≡◌, ◌∙◌, sym, ap, ℕ, zero, suc, ◌-◌, ◌<◌, ◌≤◌, List, [], ◌∷◌, ◌++◌, refl, true, false, append_assoc, append-nil, arith}
use Rattle.an_base.specs.Values.{LifeId, EntryOf}
use Rattle.an_base.specs.Order.{LivesRise}
use Rattle.topo_report.specs.Report.{least_entries, is_of, kept, report_of}
use Rattle.topo_report.specs.Inside.{TakesFirst}
use Rattle.topo_report.proofs.KeptLemmas.{kept-me, kept-other, kept-none}

-- What was kept, and of what is left the own life and so many others, make up the report.
pub record IsMerging (me : LifeId) (report done : List EntryOf) (room : ℕ) (xs ys : List EntryOf) : Type 0 where
  pub whole : done ++ kept me room (least_entries (xs ++ ys)) ≡ report
  pub rising : LivesRise xs × LivesRise ys

pub merging_begins : (me : LifeId) (xs ys : List EntryOf) → LivesRise xs → LivesRise ys → IsMerging me (report_of me (xs ++ ys)) [] 125 xs ys
unfolding report_of
merging_begins me xs ys rise high = record { whole = refl; rising = (rise, high) }

-- one more is kept
kept_one : (me : LifeId) (report done xs ys us vs : List EntryOf) (e : EntryOf) (room left : ℕ) → kept me room (e ∷ least_entries (us ++ vs)) ≡ e ∷ kept me left (least_entries (us ++ vs)) → IsMerging me report done room xs ys → TakesFirst xs ys e us vs → IsMerging me report (done ++ e ∷ []) left us vs
kept_one me report done xs ys us vs e room left keeps m t = record {
  whole = append_assoc done (e ∷ []) (kept me left (least_entries (us ++ vs))) ∙ ap (λ (es : List EntryOf). done ++ es) (sym keeps) ∙ ap (λ (es : List EntryOf). done ++ kept me room es) (sym t.least) ∙ m.whole;
  rising = t.rising;
}

-- the own entry
pub keeps_own : (me : LifeId) (report done xs ys us vs : List EntryOf) (e : EntryOf) (room : ℕ) → is_of me e ≡ true → IsMerging me report done room xs ys → TakesFirst xs ys e us vs → IsMerging me report (done ++ e ∷ []) room us vs
keeps_own me report done xs ys us vs e room own = kept_one me report done xs ys us vs e room room (kept-me me room e (least_entries (us ++ vs)) own)

kept-other_from : (me : LifeId) (e : EntryOf) (es : List EntryOf) (room : ℕ) → is_of me e ≡ false → 0 < room → kept me room (e ∷ es) ≡ e ∷ kept me (room - 1) es
kept-other_from me e es zero other some = absurd (omega arith)
kept-other_from me e es (suc room) other some = kept-other me room e es other ∙ ap (λ (n : ℕ). e ∷ kept me n es) (omega arith)

-- another, where there is room
pub keeps_other : (me : LifeId) (report done xs ys us vs : List EntryOf) (e : EntryOf) (room : ℕ) → is_of me e ≡ false → 0 < room → IsMerging me report done room xs ys → TakesFirst xs ys e us vs → IsMerging me report (done ++ e ∷ []) (room - 1) us vs
keeps_other me report done xs ys us vs e room other some = kept_one me report done xs ys us vs e room (room - 1) (kept-other_from me e (least_entries (us ++ vs)) room other some)

-- another, where there is none
pub leaves_other : (me : LifeId) (report done xs ys us vs : List EntryOf) (e : EntryOf) (room : ℕ) → is_of me e ≡ false → room ≤ 0 → IsMerging me report done room xs ys → TakesFirst xs ys e us vs → IsMerging me report done room us vs
leaves_other me report done xs ys us vs e zero other none m t = record {
  whole = ap (λ (es : List EntryOf). done ++ es) (sym (kept-none me e (least_entries (us ++ vs)) other)) ∙ ap (λ (es : List EntryOf). done ++ kept me zero es) (sym t.least) ∙ m.whole;
  rising = t.rising;
}
leaves_other me report done xs ys us vs e (suc room) other none m t = absurd (omega arith)

-- nothing is left
pub merging_ends : (me : LifeId) (report done xs ys : List EntryOf) (room : ℕ) → xs ++ ys ≡ [] → IsMerging me report done room xs ys → done ≡ report
merging_ends me report done xs ys room none m = sym (append-nil done) ∙ ap (λ (es : List EntryOf). done ++ kept me room (least_entries es)) (sym none) ∙ m.whole
