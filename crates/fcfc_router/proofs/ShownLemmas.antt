-- What the places of a router show, after a request and after a grant.
use Rattle.std.proofs.Common.{◌≡◌, ◌≢◌, ◌∙◌, sym, ap, subst, refl, ℕ, suc, ◌+◌, ◌<◌, ◌≤◌, List, [], ◌∷◌, ◌++◌, true, false, arith, length, get_or, set, take, drop, inl, inr, ◌==◌}
use Rattle.std.specs.Prelude.{All, bit_and, filter, map}
use Rattle.std.proofs.lemmas.Bool.{cases_Bool, cases_eq, cases_lt}
use Rattle.std.proofs.lemmas.Bool.Decides.{nat_tests}
use Rattle.std.proofs.lemmas.List.{drop_more, get_or_append_left, get_or_default, get_or_past, get_or_push, get_or-set_other, get_or-set_same, get_or-take, length-set, length-take-le, length_push, map-append, set_split, take-append-drop}
use Rattle.std.proofs.lemmas.List.Elements.{All-cons, filter-append}
use Rattle.std.proofs.lemmas.List.Sums.{count_by-le-length, length-filter}
use Rattle.fcfc_router.specs.declared.router.Slot.{Slot}
use Rattle.fcfc_router.specs.Router.{CanGo, Grants, IsLowest, NoneCanGo, RequestOf}
use Rattle.fcfc_router.specs.Shown.{HasSets, IsIndex, is_taken, request_of, set_at, shown}
use Rattle.fcfc_router.specs.Tree.{HasNone, IsFirst}
use Rattle.fcfc_router.proofs.BitLemmas.{blocked, gets_lowest, none_has_none}

pub shown-append : (xs ys : List Slot) → shown (xs ++ ys) ≡ shown xs ++ shown ys
shown-append xs ys = ap (map request_of) (filter-append is_taken xs ys) ∙ map-append request_of (filter is_taken xs) (filter is_taken ys)

-- a test that was passed is passed again
filter_again : (xs : List Slot) → filter is_taken (filter is_taken xs) ≡ filter is_taken xs
filter_again [] = refl
filter_again (x ∷ xs) = elim (cases_Bool (is_taken x)) [
  | inl taken ↦ rw (taken, taken) (ap (λ (ys : List Slot). x ∷ ys) (filter_again xs))
  | inr gone ↦ rw gone (filter_again xs)
]

pub shown_again : (xs ys : List Slot) → ys ≡ filter is_taken xs → shown ys ≡ shown xs
shown_again xs ys e = ap shown e ∙ ap (map request_of) (filter_again xs)

-- no more places are taken than there are
pub few_taken : (xs : List Slot) → length (filter is_taken xs) ≤ length xs
few_taken xs = let n = length-filter is_taken xs in let m = count_by-le-length is_taken xs in omega arith

-- past the last place there is no set
pub none_past : (slots : List Slot) (place : ℕ) → length slots ≤ place → set_at slots place ≡ 0
none_past slots place past = ap (λ (s : Slot). s.ports) (get_or_past slots place (record { packet = 0; ports = 0 }) past)

taken_is : (slot : Slot) → slot.ports ≢ 0 → is_taken slot ≡ true
taken_is slot some = let test : (slot.ports == 0) ≡ false = (grind (arith, nat_tests)) in rw test refl

shown_first : (slot : Slot) (slots : List Slot) → slot.ports ≢ 0 → shown (slot ∷ slots) ≡ request_of slot ∷ shown slots
shown_first slot slots some = rw (taken_is slot some) refl

-- those in the places whose sets share no port with the free ones cannot go
pub none_can_go : (free : ℕ) (slots : List Slot) → ((k : ℕ) → k < length slots → bit_and (set_at slots k) free ≡ 0) → NoneCanGo free (shown slots)
none_can_go free [] none = λ k d low. absurd (omega arith)
none_can_go free (slot ∷ slots) none =
    let rest = none_can_go free slots (λ k low. none (suc k) (omega arith)) in
    elim (cases_Bool (is_taken slot)) [
      | inl taken ↦ rw taken (All-cons (λ (request : RequestOf). CanGo free request → ⊥) (request_of slot) (shown slots) (blocked slot.ports free slot.packet (none 0 (omega arith))) rest)
      | inr gone ↦ rw gone rest
    ]

pub none_of_all : (free : ℕ) (slots : List Slot) (tree : List ℕ) → HasSets slots tree → length slots ≤ length tree → HasNone free tree → NoneCanGo free (shown slots)
none_of_all free slots tree sets used none = none_can_go free slots (λ k low. subst (λ (s : ℕ). bit_and s free ≡ 0) (sets k (omega arith)) (none k 0 (omega arith)))

-- the first place whose set shares one is that of a request
pub is_used : (free place : ℕ) (slots : List Slot) (tree : List ℕ) → HasSets slots tree → IsFirst free tree place → place < length slots
is_used free place slots tree sets first = elim (cases_lt place (length slots)) [
  | inl low ↦ low
  | inr past ↦ absurd (first.has (subst (λ (s : ℕ). bit_and s free ≡ 0) (sym (sets place first.within ∙ ap (λ (s : Slot). s.ports) (get_or_past slots place (record { packet = 0; ports = 0 }) past))) (none_has_none free)))
]

pub shares : (free place : ℕ) (slots : List Slot) (tree : List ℕ) (slot : Slot) → HasSets slots tree → IsFirst free tree place → slot ≡ get_or slots place slot → bit_and slot.ports free ≢ 0
shares free place slots tree slot sets first is none =
    let low = is_used free place slots tree sets first in
    let read : slot ≡ get_or slots place (record { packet = 0; ports = 0 }) = is ∙ get_or_default slots place slot (record { packet = 0; ports = 0 }) low in
    first.has (subst (λ (s : ℕ). bit_and s free ≡ 0) (ap (λ (s : Slot). s.ports) read ∙ sym (sets place first.within)) none)

pub grants_oldest : (free place port : ℕ) (slots : List Slot) (tree : List ℕ) (slot : Slot) → HasSets slots tree → IsFirst free tree place → slot ≡ get_or slots place slot → port < 16 → IsLowest (bit_and slot.ports free) port → Grants free (shown slots) (shown (set slots place (record { packet = slot.packet; ports = 0 }))) (record { packet = slot.packet; port = port })
grants_oldest free place port slots tree slot sets first is fits lowest =
    let low = is_used free place slots tree sets first in
    let some = shares free place slots tree slot sets first is in
    record {
      older = shown (take place slots);
      request = request_of slot;
      younger = shown (drop (suc place) slots);
      old_is =
          ap shown (sym (take-append-drop place slots) ∙ ap (λ (xs : List Slot). take place slots ++ xs) (here low))
          ∙ shown-append (take place slots) (slot ∷ drop (suc place) slots)
          ∙ ap (λ (xs : List RequestOf). shown (take place slots) ++ xs) (shown_first slot (drop (suc place) slots) (λ none. some (subst (λ (s : ℕ). bit_and s free ≡ 0) (sym none) (none_has_none free))));
      new_is =
          ap shown (set_split slots place (record { packet = slot.packet; ports = 0 }) low)
          ∙ shown-append (take place slots) (record { packet = slot.packet; ports = 0 } ∷ drop (suc place) slots);
      passed = none_can_go free (take place slots) (λ k below. earlier k (let n = length-take-le place slots (omega arith) in omega arith));
      gets = gets_lowest slot.ports free slot.packet port fits lowest;
    }
  where
    here : place < length slots → drop place slots ≡ slot ∷ drop (suc place) slots
    here low = let e : suc place ≡ place + 1 = omega arith in rw e (drop_more slots place slot low ∙ ap (λ (s : Slot). s ∷ drop (place + 1) slots) (sym is))

    earlier : (k : ℕ) → k < place → bit_and (set_at (take place slots) k) free ≡ 0
    earlier k below = subst (λ (s : ℕ). bit_and s free ≡ 0) (
        sets k (let w = first.within in omega arith) ∙ ap (λ (s : Slot). s.ports) (sym (get_or-take place slots k (record { packet = 0; ports = 0 }) below))) (first.before k below)

-- an index of other places, in which one set is written
index_written : (most capacity more place value : ℕ) (slots others : List Slot) (tree : List ℕ) → IsIndex most capacity slots tree → length others ≤ length tree → capacity ≤ more → HasSets others (set tree place value) → IsIndex most more others (set tree place value)
index_written most capacity more place value slots others tree index used enough sets =
    let count = length-set tree place value in
    let room = index.room in
    let kept = index.kept in
    record { room = omega arith; used = omega arith; kept = omega arith; sets = sets }

-- the index after a grant
pub index_granted : (most capacity place packet : ℕ) (slots : List Slot) (tree : List ℕ) → IsIndex most capacity slots tree → place < length slots → IsIndex most capacity (set slots place (record { packet = packet; ports = 0 })) (set tree place 0)
index_granted most capacity place packet slots tree index low =
    let n = length-set slots place (record { packet = packet; ports = 0 }) in
    let m = length-set tree place 0 in
    let used = index.used in
    index_written most capacity capacity place 0 slots (set slots place (record { packet = packet; ports = 0 })) tree index (omega arith) (omega arith) (λ k below. elim (cases_eq k place) [
      | inl same ↦ subst (λ (j : ℕ). get_or (set tree place 0) j 0 ≡ set_at (set slots place (record { packet = packet; ports = 0 })) j) (sym same) (
          get_or-set_same tree place 0 0 (omega arith) ∙ sym (ap (λ (s : Slot). s.ports) (get_or-set_same slots place (record { packet = packet; ports = 0 }) (record { packet = 0; ports = 0 }) low)))
      | inr other ↦ (get_or-set_other tree place k 0 0 other ∙ index.sets k (omega arith) ∙ sym (ap (λ (s : Slot). s.ports) (get_or-set_other slots place k (record { packet = packet; ports = 0 }) (record { packet = 0; ports = 0 }) other)))
    ])

-- the index after a request
pub index_asked : (most capacity more packet value : ℕ) (slots : List Slot) (tree : List ℕ) → IsIndex most capacity slots tree → length slots < length tree → capacity ≤ more → IsIndex most more (slots ++ (record { packet = packet; ports = value } ∷ [])) (set tree (length slots) value)
index_asked most capacity more packet value slots tree index low enough =
    let n = length_push slots (record { packet = packet; ports = value }) in
    let m = length-set tree (length slots) value in
    index_written most capacity more (length slots) value slots (slots ++ (record { packet = packet; ports = value } ∷ [])) tree index (omega arith) enough (λ k below. elim (cases_eq k (length slots)) [
      | inl same ↦ subst (λ (j : ℕ). get_or (set tree (length slots) value) j 0 ≡ set_at (slots ++ (record { packet = packet; ports = value } ∷ [])) j) (sym same) (
          get_or-set_same tree (length slots) value 0 low ∙ sym (ap (λ (s : Slot). s.ports) (get_or_push slots (record { packet = packet; ports = value }) (record { packet = 0; ports = 0 }) (length slots) refl)))
      | inr other ↦ (get_or-set_other tree (length slots) k value 0 other ∙ index.sets k (omega arith) ∙ elim (cases_lt k (length slots)) [
        | inl before ↦ sym (ap (λ (s : Slot). s.ports) (get_or_append_left slots (record { packet = packet; ports = value } ∷ []) (record { packet = 0; ports = 0 }) k before))
        | inr after ↦ (ap (λ (s : Slot). s.ports) (get_or_past slots k (record { packet = 0; ports = 0 }) after) ∙ sym (ap (λ (s : Slot). s.ports) (get_or_past (slots ++ (record { packet = packet; ports = value } ∷ [])) k (record { packet = 0; ports = 0 }) (omega arith))))
      ])
    ])

-- where no place has a port nobody is shown
pub none_there : (slots : List Slot) (tree : List ℕ) → slots ≡ [] → All (λ sets. sets ≡ 0) tree → HasSets slots tree
none_there slots tree none empty place low = empty place 0 low ∙ ap (λ (xs : List Slot). set_at xs place) (sym none)

nobody : (slots : List Slot) → ((k : ℕ) → k < length slots → set_at slots k ≡ 0) → shown slots ≡ []
nobody [] none = refl
nobody (slot ∷ slots) none =
    let first : slot.ports ≡ 0 = none 0 (omega arith) in
    let gone : is_taken slot ≡ false = (let test : (slot.ports == 0) ≡ true = (grind (arith, nat_tests)) in rw test refl) in
    rw gone (nobody slots (λ k low. none (suc k) (omega arith)))

pub none_shown : (old new : List Slot) (tree : List ℕ) → new ≡ [] → HasSets old tree → length old ≤ length tree → All (λ sets. sets ≡ 0) tree → shown new ≡ shown old
none_shown old new tree none sets used empty = ap shown none ∙ sym (nobody old (λ k low. sym (sets k (omega arith)) ∙ empty k 0 (omega arith)))
