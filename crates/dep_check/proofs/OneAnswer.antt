-- The answer is one: ranks are one, a refusal is one, and what passes is not refused.
use Rattle.std.proofs.Common.{◌≡◌, ap, refl, ℕ, List, Option, true, Equal, inl, inr, ◌⊎◌}
use Rattle.common_values.proofs.OrderingLemmas.{nat_apart}
use Rattle.std.specs.declared.cmp.Ordering.{Ordering}
use Rattle.std.specs.Ordering.{nat_cmp, ordering_then, is_le}
use Rattle.std.specs.Cmp.{IsTotalOrder, then_total, on_total, nat_cmp_total}
use Rattle.an_base.specs.Values.{EntryOf}
use Rattle.an_base.specs.Rows.{RowOf}
use Rattle.common_values.proofs.OrderingLemmas.{then_equal, tied}
use Rattle.dep_check.specs.declared.channel.Channel.{Channel}
use Rattle.dep_check.specs.declared.refusal.CheckRefusal.{CheckRefusal}
use Rattle.dep_check.specs.declared.refusal.CheckRefusal.TheVariants.{Cycle, NotJoined, IllegalExit, OutOfMemory}
use Rattle.dep_check.specs.Channels.{far_at, IsChannel, LeadsTo, channel_cmp}
use Rattle.common_graph.proofs.OneAnswer.{no_both, one_cycle, one_rank}
use Rattle.dep_check.specs.Packets.{four_cmp}
use Rattle.dep_check.specs.Tables.{rank_at}
use Rattle.dep_check.specs.Answer.{IsRefusal, Passes}
use Rattle.dep_check.proofs.SpotLemmas.{option_cases}
use Rattle.dep_check.proofs.CycleLemmas.{channel_same}
use Rattle.dep_check.proofs.IllegalLemmas.{four_total}

both_equal : {K : Type 0} {R : K → K → Ordering} → IsTotalOrder R → (x y : K) → is_le (R x y) ≡ true → is_le (R y x) ≡ true → R x y ≡ Equal
both_equal {R} total x y a b = tied (R x y) (R y x) (total.antisymm x y) a b

channel_total : IsTotalOrder channel_cmp
channel_total = then_total (on_total (λ c. c.at) nat_cmp_total) (on_total (λ c. c.port) nat_cmp_total)

-- four numbers are one where they are equal
four_same : (a b c d x y z w : ℕ) → four_cmp (a, b, c, d) (x, y, z, w) ≡ Equal → (a ≡ x) × (b ≡ y) × (c ≡ z) × (d ≡ w)
four_same a b c d x y z w e =
    let one = then_equal (nat_cmp a x) (ordering_then (nat_cmp b y) (ordering_then (nat_cmp c z) (nat_cmp d w))) e in
    let two = then_equal (nat_cmp b y) (ordering_then (nat_cmp c z) (nat_cmp d w)) one.1 in
    let three = then_equal (nat_cmp c z) (nat_cmp d w) two.1 in
    (nat_apart a x one.0, nat_apart b y two.0, nat_apart c z three.0, nat_apart d w three.1)

four_one : (a b c d x y z w : ℕ) → is_le (four_cmp (a, b, c, d) (x, y, z, w)) ≡ true → is_le (four_cmp (x, y, z, w) (a, b, c, d)) ≡ true → (a ≡ x) × (b ≡ y) × (c ≡ z) × (d ≡ w)
four_one a b c d x y z w le ge = four_same a b c d x y z w (both_equal four_total (a, b, c, d) (x, y, z, w) le ge)

-- ranks are one
is_channel : (far : Channel → Option Channel) (c : Channel) → IsChannel far c ⊎ (IsChannel far c → ⊥)
is_channel far c = elim (option_cases (far c)) [
  | inl none ↦ inr (λ (end, e). absurd (cc))
  | inr some ↦ inl some
]

pub one_ranks : (es : List EntryOf) (numbers : List ℕ) (rows : List RowOf) (ranks others : List (Option ℕ)) (c : Channel) → Passes es numbers rows ranks → Passes es numbers rows others → rank_at ranks c ≡ rank_at others c
one_ranks es numbers rows ranks others c a b = one_rank (IsChannel (far_at es numbers)) (is_channel (far_at es numbers)) (LeadsTo (far_at es numbers) rows) (rank_at ranks) (rank_at others) a.ranked b.ranked c

-- what passes is not refused
pub not_refused : (es : List EntryOf) (numbers : List ℕ) (rows : List RowOf) (ranks : List (Option ℕ)) (refusal : CheckRefusal) → Passes es numbers rows ranks → IsRefusal es numbers rows refusal → refusal ≡ OutOfMemory
not_refused es numbers rows ranks (Cycle channels) passes is = absurd (no_both channel_cmp (LeadsTo (far_at es numbers) rows) channels is passes.no_cycle)
not_refused es numbers rows ranks (NotJoined from to at entry) passes is = absurd (passes.joined from to at entry is.1.meets)
not_refused es numbers rows ranks (IllegalExit at entry to exit) passes is = absurd (passes.legal at entry to exit is.2.illegal)
not_refused es numbers rows ranks OutOfMemory passes is = refl

-- the same refusal
abbrev pub Same : CheckRefusal → CheckRefusal → Type 0
Same a b = (a ≡ b) ⊎ (a ≡ OutOfMemory) ⊎ (b ≡ OutOfMemory)

pub one_refusal : (es : List EntryOf) (numbers : List ℕ) (rows : List RowOf) (a b : CheckRefusal) → IsRefusal es numbers rows a → IsRefusal es numbers rows b → Same a b
one_refusal es numbers rows OutOfMemory b x y = inr (inl refl)
one_refusal es numbers rows (Cycle cs) OutOfMemory x y = inr (inr refl)
one_refusal es numbers rows (NotJoined f t a e) OutOfMemory x y = inr (inr refl)
one_refusal es numbers rows (IllegalExit a e t p) OutOfMemory x y = inr (inr refl)
one_refusal es numbers rows (Cycle cs) (Cycle ds) x y = inl (ap (λ (zs : List Channel). Cycle zs) (one_cycle channel_cmp channel_total channel_same (LeadsTo (far_at es numbers) rows) cs ds x y))
one_refusal es numbers rows (Cycle cs) (NotJoined f t a e) x y = absurd (no_both channel_cmp (LeadsTo (far_at es numbers) rows) cs x y.0)
one_refusal es numbers rows (Cycle cs) (IllegalExit a e t p) x y = absurd (no_both channel_cmp (LeadsTo (far_at es numbers) rows) cs x y.0)
one_refusal es numbers rows (NotJoined f t a e) (Cycle ds) x y = absurd (no_both channel_cmp (LeadsTo (far_at es numbers) rows) ds y x.0)
one_refusal es numbers rows (NotJoined f t a e) (NotJoined g u b i) x y =
    let same = four_one f t a e g u b i (x.1.least g u b i y.1.meets) (y.1.least f t a e x.1.meets) in
    inl (rw (same.0, same.1, same.2, same.3) refl)
one_refusal es numbers rows (NotJoined f t a e) (IllegalExit b i u p) x y = absurd (y.1 f t a e x.1.meets)
one_refusal es numbers rows (IllegalExit a e t p) (Cycle ds) x y = absurd (no_both channel_cmp (LeadsTo (far_at es numbers) rows) ds y x.0)
one_refusal es numbers rows (IllegalExit a e t p) (NotJoined g u b i) x y = absurd (x.1 g u b i y.1.meets)
one_refusal es numbers rows (IllegalExit a e t p) (IllegalExit b i u q) x y =
    let same = four_one a e t p b i u q (x.2.least b i u q y.2.illegal) (y.2.least a e t p x.2.illegal) in
    inl (rw (same.0, same.1, same.2, same.3) refl)
