use Rattle.std.proofs.Common.{◌≡◌, ◌⊎◌, inl, inr, ◌∙◌, sym, ap, refl, ℕ, List, [], ◌∷◌, Option, Some, None}
use Rattle.common_lines.specs.Lines.{words_of}
use Rattle.common_lines.specs.Grammar.{HasNoFormBy, IsFaultyFormBy, AddsFormBy, AddsRowBy, AddsLineBy, IsFaultyRowBy, IsFaultyLineBy}

-- A grammar in which no two forms have the same words: some words lead to one state, or are faulty by one
-- cause, and not both.
module _ {Form State Cause : Type 0} (words_of_form : Form → List (List ℕ)) (cause_of : State → Form → Option Cause)
    (one_form : (f g : Form) → words_of_form f ≡ words_of_form g → f ≡ g) where
  pub form_once : (with_form : State → Form → State) (d : State) (words : List (List ℕ)) (e f : State) → AddsFormBy words_of_form cause_of with_form d words e → AddsFormBy words_of_form cause_of with_form d words f → e ≡ f
  form_once with_form d words e f one other =
      let same = one_form one.form other.form (sym one.line ∙ other.line) in
      one.then ∙ ap (with_form d) same ∙ sym other.then

  pub form_not_both : (with_form : State → Form → State) (unknown : Cause) (d : State) (words : List (List ℕ)) (e : State) (c : Cause) → AddsFormBy words_of_form cause_of with_form d words e → IsFaultyFormBy words_of_form cause_of unknown d words c → ⊥
  form_not_both with_form unknown d words e c good faulty = elim faulty [
    | inl none ↦ none.0 good.form good.line
    | inr wrong ↦ (let same = one_form good.form wrong.form (sym good.line ∙ wrong.line) in
        let both : ◌≡◌ {A = Option Cause} None (Some c) = sym good.good ∙ ap (cause_of d) same ∙ wrong.wrong in absurd (cc))
  ]

  pub form_one_cause : (unknown : Cause) (d : State) (words : List (List ℕ)) (b c : Cause) → IsFaultyFormBy words_of_form cause_of unknown d words b → IsFaultyFormBy words_of_form cause_of unknown d words c → b ≡ c
  form_one_cause unknown d words b c one other = elim one [
    | inl none ↦ elim other [
      | inl none' ↦ none.1 ∙ sym none'.1
      | inr wrong ↦ absurd (none.0 wrong.form wrong.line)
    ]
    | inr wrong ↦ elim other [
      | inl none ↦ absurd (none.0 wrong.form wrong.line)
      | inr wrong' ↦ (let same = one_form wrong.form wrong'.form (sym wrong.line ∙ wrong'.line) in
          let both : Some b ≡ Some c = sym wrong.wrong ∙ ap (cause_of d) same ∙ wrong'.wrong in cc)
    ]
  ]

-- A grammar whose forms can be told by their words: some words lead to a state, or are faulty.
module _ {Form State Cause : Type 0} (words_of_form : Form → List (List ℕ)) (cause_of : State → Form → Option Cause)
    (form_of : List (List ℕ) → Option Form)
    (form_is : (words : List (List ℕ)) (f : Form) → form_of words ≡ Some f → words ≡ words_of_form f)
    (no_form : (words : List (List ℕ)) → form_of words ≡ None → HasNoFormBy words_of_form words) where
  pub either_form : (with_form : State → Form → State) (unknown : Cause) (d : State) (words : List (List ℕ)) → ((e : State) × AddsFormBy words_of_form cause_of with_form d words e) ⊎ ((c : Cause) × IsFaultyFormBy words_of_form cause_of unknown d words c)
  either_form with_form unknown d words = go (form_of words) refl
    where
      wrong : (f : Form) → words ≡ words_of_form f → (o : Option Cause) → cause_of d f ≡ o → ((e : State) × AddsFormBy words_of_form cause_of with_form d words e) ⊎ ((c : Cause) × IsFaultyFormBy words_of_form cause_of unknown d words c)
      wrong f is None good = inl (with_form d f, record { form = f; line = is; good = good; then = refl })
      wrong f is (Some c) bad = inr (c, inr (record { form = f; line = is; wrong = bad }))

      go : (o : Option Form) → form_of words ≡ o → ((e : State) × AddsFormBy words_of_form cause_of with_form d words e) ⊎ ((c : Cause) × IsFaultyFormBy words_of_form cause_of unknown d words c)
      go None t = inr (unknown, inl (no_form words t, refl))
      go (Some f) t = wrong f (form_is words f t) (cause_of d f) refl

-- The same of lines, where it holds of their words.
module _ {State Cause : Type 0} (bytes_cause : List ℕ → Option Cause) (adds : State → List (List ℕ) → State → Type 0) (faulty : State → List (List ℕ) → Cause → Type 0) where
  pub line_once : ((d : State) (words : List (List ℕ)) (e f : State) → adds d words e → adds d words f → e ≡ f) → (d : State) (line : List ℕ) (e f : State) → AddsLineBy adds bytes_cause d line e → AddsLineBy adds bytes_cause d line f → e ≡ f
  line_once once d line e f one other = row (words_of line) one.row other.row
    where
      row : (words : List (List ℕ)) → AddsRowBy adds d words e → AddsRowBy adds d words f → e ≡ f
      row [] a b = a ∙ sym b
      row (w ∷ ws) a b = once d (w ∷ ws) e f a b

  pub line_not_both : ((d : State) (words : List (List ℕ)) (e : State) (c : Cause) → adds d words e → faulty d words c → ⊥) → (d : State) (line : List ℕ) (e : State) (c : Cause) → AddsLineBy adds bytes_cause d line e → IsFaultyLineBy faulty bytes_cause d line c → ⊥
  line_not_both not_both d line e c good bad = elim bad [
    | inl bytes ↦ (let both : ◌≡◌ {A = Option Cause} None (Some c) = sym good.bytes ∙ bytes in absurd (cc))
    | inr words ↦ row (words_of line) good.row words.1
  ]
    where
      row : (words : List (List ℕ)) → AddsRowBy adds d words e → IsFaultyRowBy faulty d words c → ⊥
      row [] a b = b
      row (w ∷ ws) a b = not_both d (w ∷ ws) e c a b

  pub line_one_cause : ((d : State) (words : List (List ℕ)) (b c : Cause) → faulty d words b → faulty d words c → b ≡ c) → (d : State) (line : List ℕ) (b c : Cause) → IsFaultyLineBy faulty bytes_cause d line b → IsFaultyLineBy faulty bytes_cause d line c → b ≡ c
  line_one_cause one_cause d line b c one other = elim one [
    | inl bytes ↦ elim other [
      | inl bytes' ↦ (let both : Some b ≡ Some c = sym bytes ∙ bytes' in cc)
      | inr words ↦ (let both : ◌≡◌ {A = Option Cause} (Some b) None = sym bytes ∙ words.0 in absurd (cc))
    ]
    | inr words ↦ elim other [
      | inl bytes ↦ (let both : ◌≡◌ {A = Option Cause} (Some c) None = sym bytes ∙ words.0 in absurd (cc))
      | inr words' ↦ row (words_of line) words.1 words'.1
    ]
  ]
    where
      row : (words : List (List ℕ)) → IsFaultyRowBy faulty d words b → IsFaultyRowBy faulty d words c → b ≡ c
      row [] x y = absurd x
      row (w ∷ ws) x y = one_cause d (w ∷ ws) b c x y

  pub either_line : ((d : State) (words : List (List ℕ)) → ((e : State) × adds d words e) ⊎ ((c : Cause) × faulty d words c)) → (d : State) (line : List ℕ) → ((e : State) × AddsLineBy adds bytes_cause d line e) ⊎ ((c : Cause) × IsFaultyLineBy faulty bytes_cause d line c)
  either_line either d line = go (bytes_cause line) refl
    where
      row : (words : List (List ℕ)) → ((e : State) × AddsRowBy adds d words e) ⊎ ((c : Cause) × IsFaultyRowBy faulty d words c)
      row [] = inl (d, refl)
      row (w ∷ ws) = either d (w ∷ ws)

      go : (o : Option Cause) → bytes_cause line ≡ o → ((e : State) × AddsLineBy adds bytes_cause d line e) ⊎ ((c : Cause) × IsFaultyLineBy faulty bytes_cause d line c)
      go (Some c) bad = inr (c, inl bad)
      go None good = elim (row (words_of line)) [
        | inl more ↦ inl (more.0, record { bytes = good; row = more.1 })
        | inr bad ↦ inr (bad.0, inr (good, bad.1))
      ]
