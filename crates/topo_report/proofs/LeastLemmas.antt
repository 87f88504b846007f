-- The least entry of each life among entries.
use Rattle.std.proofs.Common.{◌≡◌, ◌∙◌, ap, refl, subst, List, [], ◌∷◌, ◌++◌, length, ◌⊎◌, inl, inr, Less, Equal, Greater, arith}
use Rattle.std.specs.declared.cmp.Ordering.{Ordering}
use Rattle.std.specs.Ordering.{is_lt}
use Rattle.an_base.specs.Values.{EntryOf}
use Rattle.an_base.specs.Order.{life_cmp, IsBelow, LivesRise}
use Rattle.an_base.proofs.OrderLaws.{life_apart}
use Rattle.topo_report.specs.Report.{lesser_entry, put_by, put, least_entries, IsAtMost}
use Rattle.topo_report.specs.Inside.{TakesFirst}
use Rattle.an_base.proofs.LifeLemmas.{below_from_greater, below_trans}
use Rattle.topo_report.proofs.LifeLaws.{at_most_trans, at_most_both}
use Rattle.topo_report.proofs.Members.{In, Under, Rises, in_append, in_left, in_right, rises_from, lives_rise_from, rising_apart, same_members}
use Rattle.topo_report.proofs.PutLemmas.{put_in, Has, put_has_new, put_has, put_rises, put_first}

pub least_entries_in : (x : EntryOf) (es : List EntryOf) → In x (least_entries es) → In x es
least_entries_in x [] i = i
least_entries_in x (e ∷ es) i = elim (put_in x e (least_entries es) i) [ inl is ↦ inl is | inr j ↦ inr (least_entries_in x es j) ]

pub least_entries_rise : (es : List EntryOf) → Rises (least_entries es)
least_entries_rise [] = tt
least_entries_rise (e ∷ es) = put_rises e (least_entries es) (least_entries_rise es)

has_trans : (g e : EntryOf) (fs : List EntryOf) → (h : Has fs g) → Has (put e fs) h.entry → Has (put e fs) g
has_trans g e fs h k = record { entry = k.entry; one = k.one; life = k.life ∙ h.life; least = at_most_trans k.entry h.entry g k.least h.least }

pub least_entries_have : (g : EntryOf) (es : List EntryOf) → In g es → Has (least_entries es) g
least_entries_have g [] i = absurd i
least_entries_have g (e ∷ es) (inl is) = rw is (put_has_new e (least_entries es))
least_entries_have g (e ∷ es) (inr i) = let h = least_entries_have g es i in has_trans g e (least_entries es) h (put_has h.entry e (least_entries es) h.one)

-- xs are the least entries of the lives of zs
pub record AreLeast (zs xs : List EntryOf) : Type 0 where
  pub rising : Rises xs
  pub taken : (x : EntryOf) → In x xs → In x zs
  pub has : (z : EntryOf) → In z zs → Has xs z

least_in : (zs xs ys : List EntryOf) → AreLeast zs xs → AreLeast zs ys → (x : EntryOf) → In x xs → In x ys
least_in zs xs ys a b x i =
    let h = b.has x (a.taken x i) in
    let k = a.has h.entry (b.taken h.entry h.one) in
    let back : k.entry ≡ x = rising_apart k.entry x xs a.rising k.one i (k.life ∙ h.life) in
    let same : h.entry ≡ x = at_most_both h.entry x h.life h.least (subst (λ (y : EntryOf). IsAtMost y h.entry) back k.least) in
    rw (← same) h.one

-- the members of zs say what its least entries are
pub one_least : (zs xs ys : List EntryOf) → AreLeast zs xs → AreLeast zs ys → xs ≡ ys
one_least zs xs ys a b = same_members xs ys a.rising b.rising (least_in zs xs ys a b) (least_in zs ys xs b a)

-- only the members of a list count
pub least_entries_same : (xs ys : List EntryOf) → ((x : EntryOf) → In x xs → In x ys) → ((x : EntryOf) → In x ys → In x xs) → least_entries xs ≡ least_entries ys
least_entries_same xs ys f g =
    one_least xs (least_entries xs) (least_entries ys)
    (record { rising = least_entries_rise xs; taken = λ x i. least_entries_in x xs i; has = λ z i. least_entries_have z xs i })
    (record { rising = least_entries_rise ys; taken = λ x i. g x (least_entries_in x ys i); has = λ z i. least_entries_have z ys (f z i) })

-- an entry whose life is below all others is the first of the least
pub least_entries_first : (e : EntryOf) (es : List EntryOf) → Under e es → least_entries (e ∷ es) ≡ e ∷ least_entries es
least_entries_first e es low = put_first e (least_entries es) (λ y i. low y (least_entries_in y es i))

-- the least entries of a list that rises are the list
pub least_entries_rising : (es : List EntryOf) → Rises es → least_entries es ≡ es
least_entries_rising [] rise = refl
least_entries_rising (e ∷ es) rise = least_entries_first e es rise.0 ∙ ap (λ (xs : List EntryOf). e ∷ xs) (least_entries_rising es rise.1)

under_append : (e : EntryOf) (xs ys : List EntryOf) → Under e xs → Under e ys → Under e (xs ++ ys)
under_append e xs ys low high y i = elim (in_append y xs ys i) [ inl j ↦ low y j | inr j ↦ high y j ]

pub under_more : (e f : EntryOf) (fs : List EntryOf) → IsBelow e.life f.life → Under f fs → Under e (f ∷ fs)
under_more e f fs low high y (inl is) = rw is low
under_more e f fs low high y (inr i) = below_trans e.life f.life y.life low (high y i)

-- Two lists that rise, of which the first begins with the lesser life, the second does, both with one life.
first_lesser : (a : EntryOf) (xs ys : List EntryOf) → Under a xs → Under a ys → least_entries ((a ∷ xs) ++ ys) ≡ a ∷ least_entries (xs ++ ys)
first_lesser a xs ys low high = least_entries_first a (xs ++ ys) (under_append a xs ys low high)

second_lesser : (b : EntryOf) (xs ys : List EntryOf) → Under b xs → Under b ys → least_entries (xs ++ b ∷ ys) ≡ b ∷ least_entries (xs ++ ys)
second_lesser b xs ys low high =
    least_entries_same (xs ++ b ∷ ys) (b ∷ (xs ++ ys)) (λ x i. forth x (in_append x xs (b ∷ ys) i)) (λ x i. back x i)
    ∙ least_entries_first b (xs ++ ys) (under_append b xs ys low high)
  where
    forth : (x : EntryOf) → In x xs ⊎ In x (b ∷ ys) → In x (b ∷ (xs ++ ys))
    forth x (inl i) = inr (in_left x xs ys i)
    forth x (inr (inl is)) = inl is
    forth x (inr (inr i)) = inr (in_right x xs ys i)

    back : (x : EntryOf) → In x (b ∷ (xs ++ ys)) → In x (xs ++ b ∷ ys)
    back x (inl is) = in_right x xs (b ∷ ys) (inl is)
    back x (inr i) = elim (in_append x xs ys i) [ inl j ↦ in_left x xs (b ∷ ys) j | inr j ↦ in_right x xs (b ∷ ys) (inr j) ]

one_life : (a b : EntryOf) (xs ys : List EntryOf) → life_cmp a.life b.life ≡ Equal → Under a xs → Under b ys → least_entries ((a ∷ xs) ++ b ∷ ys) ≡ lesser_entry a b ∷ least_entries (xs ++ ys)
one_life a b xs ys is low high =
    ap (put a) (second_lesser b xs ys (λ y i. rw (← life_apart a.life b.life is) (low y i)) high)
    ∙ ap (λ (o : Ordering). put_by o a b (least_entries (xs ++ ys)) (put a (least_entries (xs ++ ys)))) is

-- The same for what is read of two lists that rise: their first entries, and what follows these.
under_empty : (e : EntryOf) (ys : List EntryOf) → length ys ≡ 0 → Under e ys
under_empty e [] none y i = absurd i
under_empty e (z ∷ ys) none y i = absurd (omega arith)

-- the second list is empty
pub takes_only_first : (e : EntryOf) (xs ys us : List EntryOf) → LivesRise xs → LivesRise ys → xs ≡ e ∷ us → length ys ≡ 0 → TakesFirst xs ys e us ys
takes_only_first e xs ys us rise high is none =
    let left = rises_from (e ∷ us) (subst LivesRise is rise) in
    rw is (record { least = first_lesser e us ys left.0 (under_empty e ys none); rising = (lives_rise_from us left.1, high); fewer = omega arith })

-- the first list is empty
pub takes_only_second : (e : EntryOf) (xs ys vs : List EntryOf) → LivesRise xs → LivesRise ys → ys ≡ e ∷ vs → length xs ≡ 0 → TakesFirst xs ys e xs vs
takes_only_second e xs ys vs rise high is none =
    let left = rises_from (e ∷ vs) (subst LivesRise is high) in
    rw is (record { least = second_lesser e xs vs (under_empty e xs none) left.0; rising = (rise, lives_rise_from vs left.1); fewer = omega arith })

-- the first list begins with the lesser life
pub takes_first : (a b : EntryOf) (xs ys us vs : List EntryOf) → LivesRise xs → LivesRise ys → xs ≡ a ∷ us → ys ≡ b ∷ vs → life_cmp a.life b.life ≡ Less → TakesFirst xs ys a us ys
takes_first a b xs ys us vs rise high is ys-is low =
    let left = rises_from (a ∷ us) (subst LivesRise is rise) in
    let right = rises_from (b ∷ vs) (subst LivesRise ys-is high) in
    rw (is, ys-is) (record {
      least = first_lesser a us (b ∷ vs) left.0 (under_more a b vs (ap is_lt low) right.0);
      rising = (lives_rise_from us left.1, lives_rise_from (b ∷ vs) right);
      fewer = omega arith;
    })

-- the second does
pub takes_second : (a b : EntryOf) (xs ys us vs : List EntryOf) → LivesRise xs → LivesRise ys → xs ≡ a ∷ us → ys ≡ b ∷ vs → life_cmp a.life b.life ≡ Greater → TakesFirst xs ys b xs vs
takes_second a b xs ys us vs rise high is ys-is low =
    let left = rises_from (a ∷ us) (subst LivesRise is rise) in
    let right = rises_from (b ∷ vs) (subst LivesRise ys-is high) in
    rw (is, ys-is) (record {
      least = second_lesser b (a ∷ us) vs (under_more b a us (below_from_greater a.life b.life low) left.0) right.0;
      rising = (lives_rise_from (a ∷ us) left, lives_rise_from vs right.1);
      fewer = omega arith;
    })

-- both begin with one life
pub takes_both : (a b : EntryOf) (xs ys us vs : List EntryOf) → LivesRise xs → LivesRise ys → xs ≡ a ∷ us → ys ≡ b ∷ vs → life_cmp a.life b.life ≡ Equal → TakesFirst xs ys (lesser_entry a b) us vs
takes_both a b xs ys us vs rise high is ys-is same =
    let left = rises_from (a ∷ us) (subst LivesRise is rise) in
    let right = rises_from (b ∷ vs) (subst LivesRise ys-is high) in
    rw (is, ys-is) (record {
      least = one_life a b us vs same left.0 right.0;
      rising = (lives_rise_from us left.1, lives_rise_from vs right.1);
      fewer = omega arith;
    })
