-- Which life an entry is of, and which of two entries of one life is the lesser.
use Rattle.std.proofs.Common.{◌≡◌, ◌∙◌, sym, ap, refl, ℕ, eqb, ◌&&◌, arith, Bool, true, cond, ◌⊎◌, inl, inr, Less, Equal, Greater}
use Rattle.std.specs.declared.cmp.Ordering.{Ordering}
use Rattle.std.specs.Ordering.{is_lt, is_le, is_eq, nat_cmp, ordering_then, ordering_reverse}
use Rattle.std.proofs.lemmas.Bool.Decides.{nat_tests}
use Rattle.std.specs.Cmp.{upto, tied_itself, Equal-is}
use Rattle.an_base.specs.Values.{LifeId, EntryOf}
use Rattle.an_base.specs.Order.{life_cmp, entry_cmp}
use Rattle.common_values.proofs.OrderingLemmas.{not_above, at_most, tied}
use Rattle.an_base.specs.TotalOrders.{life_total}
use Rattle.an_base.proofs.OrderLaws.{life_apart, entry_total, entry_apart}
use Rattle.topo_report.specs.Report.{lesser_entry, is_of, IsAtMost}

-- an entry is of the life that the test names
pub is_of-life : (me : LifeId) (e : EntryOf) → is_of me e ≡ true → e.life ≡ me
is_of-life me e is = life_apart e.life me ((Equal-is (life_cmp e.life me)).0 is)

pub is_of-me : (me : LifeId) (e : EntryOf) → e.life ≡ me → is_of me e ≡ true
is_of-me me e is = (Equal-is (life_cmp e.life me)).1 (rw is (tied_itself life_total me))

pub at_most_itself : (e : EntryOf) → IsAtMost e e
at_most_itself e = ap is_le (tied_itself entry_total e)

pub at_most_trans : (e f g : EntryOf) → IsAtMost e f → IsAtMost f g → IsAtMost e g
at_most_trans e f g le ge = at_most (entry_cmp e g) (upto entry_total e f g (not_above (entry_cmp e f) le) (not_above (entry_cmp f g) ge))

-- entries of one life of which neither is above the other are one
pub at_most_both : (e f : EntryOf) → e.life ≡ f.life → IsAtMost e f → IsAtMost f e → e ≡ f
at_most_both e f life le ge = entry_apart e f life (tied (entry_cmp e f) (entry_cmp f e) (entry_total.antisymm e f) le ge)

-- m is one of two entries of a life, and at most both
pub record IsLesser (e f m : EntryOf) : Type 0 where
  pub either : (m ≡ e) ⊎ (m ≡ f)
  pub first : IsAtMost m e
  pub second : IsAtMost m f

pub lesser_is : (e f : EntryOf) → IsLesser e f (lesser_entry e f)
lesser_is e f = by (entry_cmp f e) refl
  where
    by : (o : Ordering) → entry_cmp f e ≡ o → IsLesser e f (cond (is_lt o) f e)
    by Less is = record { either = inr refl; first = ap is_le is; second = at_most_itself f }
    by Equal is = record { either = inl refl; first = at_most_itself e; second = ap is_le (entry_total.antisymm e f ∙ ap ordering_reverse is) }
    by Greater is = record { either = inl refl; first = at_most_itself e; second = ap is_le (entry_total.antisymm e f ∙ ap ordering_reverse is) }

pub lesser_entry-life : (e f : EntryOf) → e.life ≡ f.life → (lesser_entry e f).life ≡ f.life
lesser_entry-life e f is = elim (lesser_is e f).either [ inl one ↦ ap (λ (x : EntryOf). x.life) one ∙ is | inr one ↦ ap (λ (x : EntryOf). x.life) one ]

both_equal : (u v b d : ℕ) → is_eq (ordering_then (nat_cmp u v) (nat_cmp b d)) ≡ (eqb u v && eqb b d)
both_equal u v b d = grind (arith, nat_tests)

-- the test as `==` answers it
pub is_of-tested : (me : LifeId) (e : EntryOf) (life : LifeId) (b : Bool) → life ≡ e.life → b ≡ (eqb life.uid me.uid && eqb life.boot me.boot) → is_of me e ≡ b
is_of-tested me e life b is tested = sym (tested ∙ sym (both_equal life.uid me.uid life.boot me.boot) ∙ ap (λ (l : LifeId). is_eq (life_cmp l me)) is)
