-- One more entry among entries that rise: the lesser of two of one life stays.
use Rattle.std.proofs.Common.{◌≡◌, ◌∙◌, sym, ap, refl, List, [], ◌∷◌, ◌⊎◌, inl, inr, Less, Equal, Greater}
use Rattle.std.specs.declared.cmp.Ordering.{Ordering}
use Rattle.std.specs.Ordering.{is_lt}
use Rattle.an_base.specs.Values.{EntryOf}
use Rattle.an_base.specs.Order.{life_cmp, IsBelow}
use Rattle.an_base.proofs.OrderLaws.{life_apart}
use Rattle.topo_report.specs.Report.{lesser_entry, put_by, put, IsAtMost}
use Rattle.an_base.proofs.LifeLemmas.{below_cmp, below_from_greater, below_trans}
use Rattle.topo_report.proofs.LifeLaws.{at_most_itself, lesser_is, lesser_entry-life}
use Rattle.topo_report.proofs.Members.{In, Under, Rises}

put_by_in : (x e f : EntryOf) (fs more : List EntryOf) (o : Ordering) → (In x more → (x ≡ e) ⊎ In x fs) → In x (put_by o e f fs more) → (x ≡ e) ⊎ In x (f ∷ fs)
put_by_in x e f fs more Less rest i = i
put_by_in x e f fs more Equal rest (inl is) = elim (lesser_is e f).either [ inl one ↦ inl (is ∙ one) | inr one ↦ inr (inl (is ∙ one)) ]
put_by_in x e f fs more Equal rest (inr i) = inr (inr i)
put_by_in x e f fs more Greater rest (inl is) = inr (inl is)
put_by_in x e f fs more Greater rest (inr i) = elim (rest i) [ inl is ↦ inl is | inr j ↦ inr (inr j) ]

-- what is in a list after one more entry is this one or was there
pub put_in : (x e : EntryOf) (fs : List EntryOf) → In x (put e fs) → (x ≡ e) ⊎ In x fs
put_in x e [] i = i
put_in x e (f ∷ fs) i = put_by_in x e f fs (put e fs) (life_cmp e.life f.life) (put_in x e fs) i

-- a list has an entry of g's life that is at most g
pub record Has (es : List EntryOf) (g : EntryOf) : Type 0 where
  pub entry : EntryOf
  pub one : In entry es
  pub life : entry.life ≡ g.life
  pub least : IsAtMost entry g

-- what is there stands for itself
pub has_itself : (es : List EntryOf) (g : EntryOf) → In g es → Has es g
has_itself es g i = record { entry = g; one = i; life = refl; least = at_most_itself g }

has_behind : (f g : EntryOf) (es : List EntryOf) → Has es g → Has (f ∷ es) g
has_behind f g es has = record { entry = has.entry; one = inr has.one; life = has.life; least = has.least }

put_by_has_new : (e f : EntryOf) (fs more : List EntryOf) (o : Ordering) → life_cmp e.life f.life ≡ o → Has more e → Has (put_by o e f fs more) e
put_by_has_new e f fs more Less is rest = has_itself (e ∷ f ∷ fs) e (inl refl)
put_by_has_new e f fs more Equal is rest =
    let life = life_apart e.life f.life is in
    record { entry = lesser_entry e f; one = inl refl; life = lesser_entry-life e f life ∙ sym life; least = (lesser_is e f).first }
put_by_has_new e f fs more Greater is rest = has_behind f e more rest

-- one more entry is there or a lesser one of its life
pub put_has_new : (e : EntryOf) (fs : List EntryOf) → Has (put e fs) e
put_has_new e [] = has_itself (e ∷ []) e (inl refl)
put_has_new e (f ∷ fs) = put_by_has_new e f fs (put e fs) (life_cmp e.life f.life) refl (put_has_new e fs)

put_by_has : (g e f : EntryOf) (fs more : List EntryOf) (o : Ordering) → life_cmp e.life f.life ≡ o → (In g fs → Has more g) → In g (f ∷ fs) → Has (put_by o e f fs more) g
put_by_has g e f fs more Less is rest i = has_itself (e ∷ f ∷ fs) g (inr i)
put_by_has g e f fs more Equal is rest (inl same) =
    let life = lesser_entry-life e f (life_apart e.life f.life is) in
    rw same (record { entry = lesser_entry e f; one = inl refl; life = life; least = (lesser_is e f).second })
put_by_has g e f fs more Equal is rest (inr i) = has_itself (lesser_entry e f ∷ fs) g (inr i)
put_by_has g e f fs more Greater is rest (inl same) = has_itself (f ∷ more) g (inl same)
put_by_has g e f fs more Greater is rest (inr i) = has_behind f g more (rest i)

-- and what was there still is, or a lesser one of its life
pub put_has : (g e : EntryOf) (fs : List EntryOf) → In g fs → Has (put e fs) g
put_has g e [] i = absurd i
put_has g e (f ∷ fs) i = put_by_has g e f fs (put e fs) (life_cmp e.life f.life) refl (put_has g e fs) i

under_both : (e f y : EntryOf) (fs : List EntryOf) → IsBelow e.life f.life → Under f fs → In y (f ∷ fs) → IsBelow e.life y.life
under_both e f y fs low high (inl is) = rw is low
under_both e f y fs low high (inr i) = below_trans e.life f.life y.life low (high y i)

put_by_rises : (e f : EntryOf) (fs more : List EntryOf) (o : Ordering) → life_cmp e.life f.life ≡ o → ((x : EntryOf) → In x more → (x ≡ e) ⊎ In x fs) → Rises more → Rises (f ∷ fs) → Rises (put_by o e f fs more)
put_by_rises e f fs more Less is from rest rise = (λ y i. under_both e f y fs (ap is_lt is) rise.0 i, rise)
put_by_rises e f fs more Equal is from rest rise = (λ y i. rw (lesser_entry-life e f (life_apart e.life f.life is)) (rise.0 y i), rise.1)
put_by_rises e f fs more Greater is from rest rise = (λ y i. elim (from y i) [ inl same ↦ rw same (below_from_greater e.life f.life is) | inr j ↦ rise.0 y j ], rest)

pub put_rises : (e : EntryOf) (fs : List EntryOf) → Rises fs → Rises (put e fs)
put_rises e [] rise = (λ y i. absurd i, tt)
put_rises e (f ∷ fs) rise = put_by_rises e f fs (put e fs) (life_cmp e.life f.life) refl (λ x i. put_in x e fs i) (put_rises e fs rise.1) rise

-- an entry below all others goes first
pub put_first : (e : EntryOf) (fs : List EntryOf) → Under e fs → put e fs ≡ e ∷ fs
put_first e [] low = refl
put_first e (f ∷ fs) low = ap (λ (o : Ordering). put_by o e f fs (put e fs)) (below_cmp e.life f.life (low f (inl refl)))
