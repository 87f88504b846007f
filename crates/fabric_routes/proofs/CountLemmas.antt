-- Counts of things.
use Rattle.std.proofs.Common.{◌≡◌, ◌≢◌, ◌∙◌, sym, subst, refl, ℕ, ◌+◌, ◌-◌, ◌<◌, List, [], ◌∷◌, ◌++◌, arith, length, length-append, map, inl, inr, ◌⊎◌, AllPairs, Contains}
use Rattle.std.proofs.lemmas.List.{length-map}
use Rattle.std.proofs.lemmas.List.Elements.{All-contains, Contains-append_cases, Contains-append_left, Contains-append_right, Contains-push, Contains-push_cases}
use Rattle.std.proofs.lemmas.List.Kept.{AllPairs-cons}
use Rattle.common_values.proofs.ListLemmas.{AllPairs-head, AllPairs-tail, All-from_members}
use Rattle.common_values.proofs.MemberLemmas.{Any-from_map, Contains-cons_cases, Contains-here, Contains-image, Contains-later}
use Rattle.common_values.proofs.PairLemmas.{AllPairs-append, AllPairs-map, apart_push}
use Rattle.fabric_routes.specs.Counting.{IsCountOf}

module _ (A : Type 0) where
  pub count_none : (Is : A → Type 0) → ((x : A) → Is x → ⊥) → IsCountOf Is 0
  count_none Is none = record {
    things = [];
    only = λ x has. absurd (let low = has.1 in omega arith);
    each = λ x is. absurd (none x is);
    apart = λ i j d lt low. absurd (omega arith);
    size = refl;
  }

  pub count_same : (Is As : A → Type 0) (count : ℕ) → ((x : A) → Is x → As x) → ((x : A) → As x → Is x) → IsCountOf Is count → IsCountOf As count
  count_same Is As count to back is = record {
    things = is.things;
    only = λ x has. to x (is.only x has);
    each = λ x as_it. is.each x (back x as_it);
    apart = is.apart;
    size = is.size;
  }

  -- one thing more
  pub count_more : (Is More : A → Type 0) (new : A) (count : ℕ) → ((x : A) → Is x → More x) → ((x : A) → More x → Is x ⊎ (x ≡ new)) → More new → (Is new → ⊥) → IsCountOf Is count → IsCountOf More (count + 1)
  count_more Is More new count to back is_new fresh is = record {
    things = is.things ++ new ∷ [];
    only = λ x has. elim (Contains-push_cases is.things new x has) [
      | inl old ↦ to x (is.only x old)
      | inr same ↦ subst More same is_new
    ];
    each = λ x more. elim (back x more) [
      | inl old ↦ Contains-append_left is.things (new ∷ []) x (is.each x old)
      | inr same ↦ subst (λ (y : A). Contains (is.things ++ new ∷ []) y) (sym same) (Contains-push is.things new)
    ];
    apart = apart_push is.things new is.apart (λ has. fresh (is.only new has));
    size = length-append is.things (new ∷ []) ∙ (let size = is.size in omega arith);
  }

  -- the things of two kinds, of which none is of both
  pub count_sum : (Is As Both : A → Type 0) (m n : ℕ) → ((x : A) → Is x → Both x) → ((x : A) → As x → Both x) → ((x : A) → Both x → Is x ⊎ As x) → ((x : A) → Is x → As x → ⊥) → IsCountOf Is m → IsCountOf As n → IsCountOf Both (m + n)
  count_sum Is As Both m n first second either not_both is others = record {
    things = is.things ++ others.things;
    only = λ x has. elim (Contains-append_cases is.things others.things x has) [
      | inl front ↦ first x (is.only x front)
      | inr back ↦ second x (others.only x back)
    ];
    each = λ x both. elim (either x both) [
      | inl front ↦ Contains-append_left is.things others.things x (is.each x front)
      | inr back ↦ Contains-append_right is.things others.things x (others.each x back)
    ];
    apart = AllPairs-append (λ a b. a ≢ b) is.things others.things is.apart others.apart
        (All-from_members _ is.things (λ x has. All-from_members (λ y. x ≢ y) others.things (λ y has_other same. not_both y (subst Is same (is.only x has)) (others.only y has_other))));
    size = length-append is.things others.things ∙ (let one = is.size in let other = others.size in omega arith);
  }

  -- a list without one of its elements
  record Without (xs : List A) (out : A) : Type 0 where
    rest : List A
    only : (x : A) → Contains rest x → Contains xs x × (x ≢ out)
    each : (x : A) → Contains xs x → x ≢ out → Contains rest x
    apart : AllPairs (λ a b. a ≢ b) rest
    size : length xs ≡ length rest + 1

  without : (out : A) → ((x : A) → (x ≡ out) ⊎ (x ≢ out)) → (xs : List A) → AllPairs (λ a b. a ≢ b) xs → Contains xs out → Without xs out
  without out same [] apart has = absurd (let low = has.1 in omega arith)
  without out same (y ∷ ys) apart has = elim (same y) [
    | inl is ↦ record {
      rest = ys;
      only = λ x later. (Contains-later y x ys later, λ e. All-contains (λ z. y ≢ z) ys x (AllPairs-head (λ a b. a ≢ b) y ys apart) later (is ∙ sym e));
      each = λ x any other. elim (Contains-cons_cases y x ys any) [
        | inl first ↦ absurd (other (sym first ∙ is))
        | inr later ↦ later
      ];
      apart = AllPairs-tail (λ a b. a ≢ b) y ys apart;
      size = omega arith;
    }
    | inr differs ↦ (
        let inner = without out same ys (AllPairs-tail (λ a b. a ≢ b) y ys apart) (elim (Contains-cons_cases y out ys has) [
          | inl first ↦ absurd (differs first)
          | inr later ↦ later
        ]) in
        record {
          rest = y ∷ inner.rest;
          only = λ x any. elim (Contains-cons_cases y x inner.rest any) [
            | inl first ↦ (subst (λ (z : A). Contains (y ∷ ys) z) first (Contains-here y ys), λ e. differs (first ∙ e))
            | inr later ↦ (Contains-later y x ys (inner.only x later).0, (inner.only x later).1)
          ];
          each = λ x any other. elim (Contains-cons_cases y x ys any) [
            | inl first ↦ subst (λ (z : A). Contains (y ∷ inner.rest) z) first (Contains-here y inner.rest)
            | inr later ↦ Contains-later y x inner.rest (inner.each x later other)
          ];
          apart = AllPairs-cons (λ a b. a ≢ b) y inner.rest (All-from_members (λ z. y ≢ z) inner.rest (λ x later. All-contains (λ z. y ≢ z) ys x (AllPairs-head (λ a b. a ≢ b) y ys apart) (inner.only x later).0)) inner.apart;
          size = (let size = inner.size in omega arith);
        })
  ]

  -- one thing less
  pub count_without : (Is : A → Type 0) (out : A) (count : ℕ) → ((x : A) → (x ≡ out) ⊎ (x ≢ out)) → Is out → IsCountOf Is count → (0 < count) × IsCountOf (λ x. Is x × (x ≢ out)) (count - 1)
  count_without Is out count same is_out is =
      let rest = without out same is.things is.apart (is.each out is_out) in
      let whole = rest.size in
      let size = is.size in (
        omega arith,
        record {
          things = rest.rest;
          only = λ x has. (is.only x (rest.only x has).0, (rest.only x has).1);
          each = λ x other. rest.each x (is.each x other.0) other.1;
          apart = rest.apart;
          size = omega arith;
        },
      )

  -- lists of the same things, each once, are of one length
  same_size : ((x y : A) → (x ≡ y) ⊎ (x ≢ y)) → (xs ys : List A) → AllPairs (λ a b. a ≢ b) xs → AllPairs (λ a b. a ≢ b) ys → ((x : A) → Contains xs x → Contains ys x) → ((x : A) → Contains ys x → Contains xs x) → length xs ≡ length ys
  same_size same [] [] apart others there back = refl
  same_size same [] (y ∷ ys) apart others there back = absurd (let none = (back y (Contains-here y ys)).1 in omega arith)
  same_size same (x ∷ xs) ys apart others there back =
      let rest = without x (λ y. same y x) ys others (there x (Contains-here x xs)) in
      let less = same_size same xs rest.rest (AllPairs-tail (λ a b. a ≢ b) x xs apart) rest.apart
      (λ y has. rest.each y (there y (Contains-later x y xs has)) (λ e. All-contains (λ z. x ≢ z) xs y (AllPairs-head (λ a b. a ≢ b) x xs apart) has (sym e)))
      (λ y has. elim (Contains-cons_cases x y xs (back y (rest.only y has).0)) [
        | inl first ↦ absurd ((rest.only y has).1 (sym first))
        | inr later ↦ later
      ]) in
      (let size = rest.size in omega arith)

  -- a count is one
  pub one_count : (Is : A → Type 0) → ((x y : A) → (x ≡ y) ⊎ (x ≢ y)) → (one other : ℕ) → IsCountOf Is one → IsCountOf Is other → one ≡ other
  one_count Is same one other is too =
      sym is.size
      ∙ same_size same is.things too.things is.apart too.apart (λ x has. too.each x (is.only x has)) (λ x has. is.each x (too.only x has))
      ∙ too.size

-- images by a function that gives no value twice
pub count_image : (A B : Type 0) (f : A → B) (Is : A → Type 0) (As : B → Type 0) (count : ℕ) → ((x : A) → Is x → As (f x)) → ((y : B) → As y → (x : A) × Is x × (f x ≡ y)) → ((x y : A) → f x ≡ f y → x ≡ y) → IsCountOf Is count → IsCountOf As count
count_image A B f Is As count to back one is = record {
  things = map f is.things;
  only = λ y has. (let from = Any-from_map f is.things y has in subst As from.4 (to from.1 (is.only from.1 (from.0, from.2, from.3))));
  each = λ y image. (let from = back y image in subst (λ (z : B). Contains (map f is.things) z) from.2 (Contains-image f is.things from.0 (is.each from.0 from.1)));
  apart = AllPairs-map (λ a b. a ≢ b) f is.things (λ i j d lt low same. is.apart i j d lt low (one _ _ same));
  size = length-map is.things f ∙ is.size;
}
