-- Reports are of their members alone, in whichever order and however often they are made.
use Rattle.std.proofs.Common.{◌≡◌, ◌∙◌, sym, ap, refl, subst, ℕ, suc, ◌+◌, ◌≤◌, Bool, true, false, List, [], ◌∷◌, ◌++◌, length, map, ◌⊎◌, inl, inr, Contains, slice_index_or, arith}
use Rattle.std.proofs.lemmas.List.Elements.{Contains-get_or, All-contains}
use Rattle.an_base.specs.Values.{LifeId, EntryOf}
use Rattle.an_base.specs.Order.{IsBelow}
use Rattle.topo_report.specs.Report.{least_entries, is_of, kept, report_of, others, IsAtMost, Covers, IsCut, IsReport, AreLives}
use Rattle.an_base.proofs.LifeLemmas.{below_same}
use Rattle.topo_report.proofs.LifeLaws.{is_of-life, at_most_both}
use Rattle.topo_report.proofs.Members.{In, Rises, in_from, contains_from, in_swapped, rises_from, lives_rise_from, rising_apart}
use Rattle.topo_report.proofs.PutLemmas.{Has}
use Rattle.topo_report.proofs.LeastLemmas.{least_entries_in, least_entries_rise, least_entries_have, least_entries_same}
use Rattle.topo_report.proofs.KeptLemmas.{kept_in, kept_rises, kept_more, kept_stays}
use Rattle.topo_report.proofs.DistinctLemmas.{AreApart, length-le_from_apart}
use Rattle.topo_report.proofs.OtherLemmas.{others_in, others_have, others_differ, others_rise, others_most, CutAt, kept_whole, some_in, kept_some}
use Rattle.topo_report.proofs.OnlyLemmas.{kept_only}

pub members_alone_count : (me : LifeId) (xs ys : List EntryOf) → ((x : EntryOf) → In x xs → In x ys) → ((x : EntryOf) → In x ys → In x xs) → report_of me xs ≡ report_of me ys
unfolding report_of
members_alone_count me xs ys f g = ap (kept me 125) (least_entries_same xs ys f g)

pub either_order : (me : LifeId) (xs ys : List EntryOf) → report_of me (xs ++ ys) ≡ report_of me (ys ++ xs)
either_order me xs ys = members_alone_count me (xs ++ ys) (ys ++ xs) (λ x i. in_swapped x xs ys i) (λ x i. in_swapped x ys xs i)

pub report_stays : (me : LifeId) (xs : List EntryOf) → report_of me (report_of me xs) ≡ report_of me xs
unfolding report_of
report_stays me xs = kept_stays me 125 xs

merged_last : (me : LifeId) (xs ys : List EntryOf) → report_of me (xs ++ report_of me ys) ≡ report_of me (xs ++ ys)
unfolding report_of
merged_last me xs ys = kept_more me 125 xs (kept me 125 (least_entries ys)) ys (kept_stays me 125 ys)

pub merged_in_turn : (me : LifeId) (xs ys : List EntryOf) → report_of me (report_of me xs ++ ys) ≡ report_of me (xs ++ ys)
merged_in_turn me xs ys = either_order me (report_of me xs) ys ∙ merged_last me ys xs ∙ either_order me ys xs

covers_from : (es : List EntryOf) (f : EntryOf) → Has es f → Covers es f
covers_from es f h = record { entry = h.entry; kept = contains_from h.entry es h.one; life = h.life; least = h.least }

-- the entry that stands for f in the report, or none does
kept_or_cut : (me : LifeId) (n : ℕ) (xs : List EntryOf) (f : EntryOf) → In f xs → Has (kept me n (least_entries xs)) f ⊎ CutAt me n (kept me n (least_entries xs)) f.life
kept_or_cut me n xs f i =
    let h = least_entries_have f xs i in
    elim (kept_whole me h.entry (least_entries xs) (least_entries_rise xs) n h.one) [
      | inl j ↦ inl (record { entry = h.entry; one = j; life = h.life; least = h.least })
      | inr c ↦ inr (subst (CutAt me n (kept me n (least_entries xs))) h.life c)
    ]

kept_least : (me : LifeId) (n : ℕ) (xs : List EntryOf) (e f : EntryOf) → In e (kept me n (least_entries xs)) → In f xs → e.life ≡ f.life → IsAtMost e f
kept_least me n xs e f i j life =
    let h = least_entries_have f xs j in
    let same : h.entry ≡ e = rising_apart h.entry e (least_entries xs) (least_entries_rise xs) h.one (kept_in e me n (least_entries xs) i) (h.life ∙ sym life) in
    subst (λ (x : EntryOf). IsAtMost x f) same h.least

cut_from : (me : LifeId) (es : List EntryOf) (life : LifeId) → CutAt me 125 es life → IsCut me es life
cut_from me es life c = record {
  other = c.other;
  full = c.full;
  above = λ k d low. c.above (slice_index_or (others me es) k d) (in_from (slice_index_or (others me es) k d) (others me es) (Contains-get_or (others me es) k d low));
}

pub report_is_report : (me : LifeId) (xs : List EntryOf) → IsReport me xs (report_of me xs)
unfolding report_of
report_is_report me xs = record {
  rising = lives_rise_from (kept me 125 (least_entries xs)) (kept_rises me 125 (least_entries xs) (least_entries_rise xs));
  most = others_most me (least_entries xs) 125;
  taken = λ e has. contains_from e xs (least_entries_in e xs (kept_in e me 125 (least_entries xs) (in_from e (kept me 125 (least_entries xs)) has)));
  least = λ e f has in'. kept_least me 125 xs e f (in_from e (kept me 125 (least_entries xs)) has) (in_from f xs in');
  whole = λ f has. elim (kept_or_cut me 125 xs f (in_from f xs has)) [
    | inl h ↦ inl (covers_from (kept me 125 (least_entries xs)) f h)
    | inr c ↦ inr (cut_from me (kept me 125 (least_entries xs)) f.life c)
  ];
}

lives_of : List EntryOf → List LifeId
lives_of es = map (λ e. e.life) es

in_lives_of : (life : LifeId) (es : List EntryOf) → In life (lives_of es) → (e : EntryOf) × In e es × (life ≡ e.life)
unfolding lives_of
in_lives_of life [] i = absurd i
in_lives_of life (e ∷ es) (inl is) = (e, inl refl, is)
in_lives_of life (e ∷ es) (inr i) = let one = in_lives_of life es i in (one.0, inr one.1, one.2)

lives_of_in : (e : EntryOf) (es : List EntryOf) → In e es → In e.life (lives_of es)
unfolding lives_of
lives_of_in e [] i = absurd i
lives_of_in e (f ∷ fs) (inl is) = inl (ap (λ (x : EntryOf). x.life) is)
lives_of_in e (f ∷ fs) (inr i) = inr (lives_of_in e fs i)

length-lives_of : (es : List EntryOf) → length (lives_of es) ≡ length es
unfolding lives_of
length-lives_of [] = refl
length-lives_of (e ∷ es) = ap suc (length-lives_of es)

-- the lives of entries that rise are apart
lives_apart : (es : List EntryOf) → Rises es → AreApart (lives_of es)
unfolding lives_of
lives_apart [] rise = tt
lives_apart (e ∷ es) rise = (λ i. let one = in_lives_of e.life es i in below_same e.life one.0.life one.2 (rise.0 one.0 one.1), lives_apart es rise.1)

-- at most one entry of a report is no other's
length-le_from_others : (me : LifeId) (es : List EntryOf) → Rises es → length es ≤ length (others me es) + 1
length-le_from_others me es rise =
    let le = length-le_from_apart (lives_of es) (me ∷ lives_of (others me es)) (lives_apart es rise) within in
    omega (arith, le, length-lives_of es, length-lives_of (others me es))
  where
    within : (life : LifeId) → In life (lives_of es) → In life (me ∷ lives_of (others me es))
    within life i =
        let one = in_lives_of life es i in
        by one.0 one.1 one.2 (is_of me one.0) refl
      where
        by : (e : EntryOf) → In e es → life ≡ e.life → (b : Bool) → is_of me e ≡ b → In life (me ∷ lives_of (others me es))
        by e j is true own = inl (is ∙ is_of-life me e own)
        by e j is false other = inr (subst (λ (l : LifeId). In l (lives_of (others me es))) (sym is) (lives_of_in e (others me es) (others_have e me es j other)))

pub report_of-some : (me : LifeId) (xs : List EntryOf) → 1 ≤ length xs → 1 ≤ length (report_of me xs)
unfolding report_of
report_of-some me [] some = absurd (omega arith)
report_of-some me (x ∷ xs) some = let h = least_entries_have x (x ∷ xs) (inl refl) in kept_some me 124 (least_entries (x ∷ xs)) (some_in h.entry (least_entries (x ∷ xs)) h.one)

pub report_of-most : (me : LifeId) (xs : List EntryOf) → length (report_of me xs) ≤ 126
unfolding report_of
report_of-most me xs =
    let le = length-le_from_others me (kept me 125 (least_entries xs)) (kept_rises me 125 (least_entries xs) (least_entries_rise xs)) in
    let most = others_most me (least_entries xs) 125 in
    omega (arith, le, most)

-- a cut needs 127 lives
no_cut_among : (me : LifeId) (xs : List EntryOf) (lives : List LifeId) (f : EntryOf) → AreLives me xs lives → Contains xs f → CutAt me 125 (kept me 125 (least_entries xs)) f.life → ⊥
no_cut_among me xs lives f are has c =
    let among = others me (kept me 125 (least_entries xs)) in
    let le = length-le_from_apart (me ∷ f.life ∷ lives_of among) lives (apart, (others_apart, lives_apart among (others_rise me (kept me 125 (least_entries xs)) (kept_rises me 125 (least_entries xs) (least_entries_rise xs))))) within in
    omega (arith, le, are.most, c.full, length-lives_of among)
  where
    apart : In me (f.life ∷ lives_of (others me (kept me 125 (least_entries xs)))) → ⊥
    apart (inl is) = c.other (sym is)
    apart (inr i) = let one = in_lives_of me (others me (kept me 125 (least_entries xs))) i in others_differ one.0 me (kept me 125 (least_entries xs)) one.1 (sym one.2)

    others_apart : In f.life (lives_of (others me (kept me 125 (least_entries xs)))) → ⊥
    others_apart i = let one = in_lives_of f.life (others me (kept me 125 (least_entries xs))) i in below_same one.0.life f.life (sym one.2) (c.above one.0 one.1)

    within : (life : LifeId) → In life (me ∷ f.life ∷ lives_of (others me (kept me 125 (least_entries xs)))) → In life lives
    within life (inl is) = rw is (in_from me lives are.own)
    within life (inr (inl is)) = rw is (in_from f.life lives (are.all f has))
    within life (inr (inr i)) =
        let one = in_lives_of life (others me (kept me 125 (least_entries xs))) i in
        let there = least_entries_in one.0 xs (kept_in one.0 me 125 (least_entries xs) (others_in one.0 me (kept me 125 (least_entries xs)) one.1)) in
        rw (one.2) (in_from one.0.life lives (are.all one.0 (contains_from one.0 xs there)))

pub report_is_complete : (me : LifeId) (xs : List EntryOf) (lives : List LifeId) → AreLives me xs lives → (f : EntryOf) → Contains xs f → Covers (report_of me xs) f
unfolding report_of
report_is_complete me xs lives are f has = elim (kept_or_cut me 125 xs f (in_from f xs has)) [
  | inl h ↦ covers_from (kept me 125 (least_entries xs)) f h
  | inr c ↦ absurd (no_cut_among me xs lives f are has c)
]

-- what a report has is among the least entries
report_in : (me : LifeId) (xs r : List EntryOf) → IsReport me xs r → (x : EntryOf) → In x r → In x (least_entries xs)
report_in me xs r is x i =
    let there = is.taken x (contains_from x r i) in
    let h = least_entries_have x xs (in_from x xs there) in
    let least = is.least x h.entry (contains_from x r i) (contains_from h.entry xs (least_entries_in h.entry xs h.one)) (sym h.life) in
    let same : h.entry ≡ x = at_most_both h.entry x h.life h.least least in
    subst (λ (y : EntryOf). In y (least_entries xs)) same h.one

cut_at : (me : LifeId) (r : List EntryOf) (life : LifeId) → IsCut me r life → CutAt me 125 r life
cut_at me r life c = record {
  other = c.other;
  full = c.full;
  above = λ e i. All-contains (λ x. IsBelow x.life life) (others me r) e c.above (contains_from e (others me r) i);
}

report_whole : (me : LifeId) (xs r : List EntryOf) → IsReport me xs r → (f : EntryOf) → In f (least_entries xs) → In f r ⊎ CutAt me 125 r f.life
report_whole me xs r is f i = elim (is.whole f (contains_from f xs (least_entries_in f xs i))) [
  | inl k ↦ inl (let same : k.entry ≡ f = rising_apart k.entry f (least_entries xs) (least_entries_rise xs) (report_in me xs r is k.entry (in_from k.entry r k.kept)) i k.life in subst (λ (y : EntryOf). In y r) same (in_from k.entry r k.kept))
  | inr c ↦ inr (cut_at me r f.life c)
]

pub one_report : (me : LifeId) (xs r : List EntryOf) → IsReport me xs r → r ≡ report_of me xs
unfolding report_of
one_report me xs r is = kept_only me (least_entries xs) r 125 (least_entries_rise xs) (record {
  rising = rises_from r is.rising;
  taken = report_in me xs r is;
  most = is.most;
  whole = report_whole me xs r is;
})
