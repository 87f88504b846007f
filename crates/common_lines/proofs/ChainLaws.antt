-- Chains of lines: they lead to one state, have one first cause, and one of the two comes.
use Rattle.std.proofs.Common.{◌≡◌, ◌∙◌, sym, ap, subst, refl, ℕ, ◌+◌, ◌⊎◌, inl, inr, List, [], ◌∷◌, ◌++◌, append_assoc, append-nil, length, length-append, arith}
use Rattle.common_lines.specs.Lines.{lines_of}
use Rattle.common_lines.specs.Chains.{LeadsBy, IsFaultOf}

module _ {S : Type 0} (adds : S → List ℕ → S → Type 0) where
  -- good lines with one more
  pub LeadsBy-push : (d : S) (lines : List (List ℕ)) (e : S) (line : List ℕ) (f : S) → LeadsBy adds d lines e → adds e line f → LeadsBy adds d (lines ++ line ∷ []) f
  LeadsBy-push d [] e line f leads one = (f, subst (λ (m : S). adds m line f) (sym leads) one, refl)
  LeadsBy-push d (l ∷ ls) e line f leads one = (leads.0, leads.1, LeadsBy-push leads.0 ls e line f leads.2 one)

  -- the lines before the rest are good after s and say d, and the next one has this number
  pub record IsReadBy (s : S) (bytes rest : List ℕ) (d : S) (line : ℕ) : Type 0 where
    pub before : List (List ℕ)
    pub parts : lines_of bytes ≡ before ++ lines_of rest
    pub good : LeadsBy adds s before d
    pub number : line ≡ length before + 1

  -- one line more
  pub read_more : (s : S) (bytes rest here after : List ℕ) (d e : S) (line : ℕ) → IsReadBy s bytes rest d line → lines_of rest ≡ here ∷ lines_of after → adds d here e → IsReadBy s bytes after e (line + 1)
  read_more s bytes rest here after d e line read next one = record {
    before = read.before ++ here ∷ [];
    parts = read.parts ∙ ap (λ (ls : List (List ℕ)). read.before ++ ls) next ∙ sym (append_assoc read.before (here ∷ []) (lines_of after));
    good = LeadsBy-push s read.before d here e read.good one;
    number = omega (arith, read.number, length-append read.before (here ∷ []));
  }

  -- all lines are read
  pub all_read : (s : S) (bytes rest : List ℕ) (d : S) (line : ℕ) → IsReadBy s bytes rest d line → lines_of rest ≡ [] → LeadsBy adds s (lines_of bytes) d × (line ≡ length (lines_of bytes) + 1)
  all_read s bytes rest d line read none =
      let all : lines_of bytes ≡ read.before = read.parts ∙ ap (λ (ls : List (List ℕ)). read.before ++ ls) none ∙ append-nil read.before in
      (subst (λ (ls : List (List ℕ)). LeadsBy adds s ls d) (sym all) read.good, (omega (arith, read.number, ap length all)))

-- A kind of text in which each line is good or faulty, and not both, leads to one state and has one first cause.
module _ {S Cause : Type 0} (start : S) (adds : S → List ℕ → S → Type 0) (bad : S → List ℕ → Cause → Type 0) (IsEnded : S → Type 0) (no_end : Cause)
    (once : (d : S) (l : List ℕ) (e f : S) → adds d l e → adds d l f → e ≡ f)
    (not_both : (d : S) (l : List ℕ) (e : S) (c : Cause) → adds d l e → bad d l c → ⊥)
    (one_cause : (d : S) (l : List ℕ) (b c : Cause) → bad d l b → bad d l c → b ≡ c) where
  -- good lines lead to one state
  pub LeadsBy-once : (d : S) (lines : List (List ℕ)) (e f : S) → LeadsBy adds d lines e → LeadsBy adds d lines f → e ≡ f
  LeadsBy-once d [] e f one other = sym one ∙ other
  LeadsBy-once d (l ∷ ls) e f one other =
      let same = once d l one.0 other.0 one.1 other.1 in
      LeadsBy-once one.0 ls e f one.2 (subst (λ (m : S). LeadsBy adds m ls f) (sym same) other.2)

  -- where all lines are good none is faulty
  none_faulty : (before : List (List ℕ)) (d : S) (here : List ℕ) (after : List (List ℕ)) (e said : S) (c : Cause) → LeadsBy adds d (before ++ here ∷ after) e → LeadsBy adds d before said → bad said here c → ⊥
  none_faulty [] d here after e said c all good faulty = not_both d here all.0 c all.1 (subst (λ (m : S). bad m here c) (sym good) faulty)
  none_faulty (b ∷ bs) d here after e said c all good faulty =
      let same = once d b all.0 good.0 all.1 good.1 in
      none_faulty bs all.0 here after e said c all.2 (subst (λ (m : S). LeadsBy adds m bs said) (sym same) good.2) faulty

  -- the first faulty line is one, and so is its cause
  one_faulty : (before before' : List (List ℕ)) (d : S) (here here' : List ℕ) (after after' : List (List ℕ)) (said said' : S) (c c' : Cause) → before ++ here ∷ after ≡ before' ++ here' ∷ after' → LeadsBy adds d before said → LeadsBy adds d before' said' → bad said here c → bad said' here' c' → (length before ≡ length before') × (c ≡ c')
  one_faulty [] [] d here here' after after' said said' c c' same good good' faulty faulty' =
      let heads : here ≡ here' = cc in
      let drafts : said ≡ said' = sym good ∙ good' in
      (refl, one_cause said here c c' faulty (subst (λ (m : S). bad m here c') (sym drafts) (subst (λ (l : List ℕ). bad said' l c') (sym heads) faulty')))
  one_faulty [] (b ∷ bs) d here here' after after' said said' c c' same good good' faulty faulty' =
      let heads : here ≡ b = cc in
      absurd (not_both d b good'.0 c good'.1 (subst (λ (m : S). bad m b c) (sym good) (subst (λ (l : List ℕ). bad said l c) heads faulty)))
  one_faulty (b ∷ bs) [] d here here' after after' said said' c c' same good good' faulty faulty' =
      let heads : here' ≡ b = cc in
      absurd (not_both d b good.0 c' good.1 (subst (λ (m : S). bad m b c') (sym good') (subst (λ (l : List ℕ). bad said' l c') heads faulty')))
  one_faulty (b ∷ bs) (b' ∷ bs') d here here' after after' said said' c c' same good good' faulty faulty' =
      let heads : b' ≡ b = cc in
      let tails : bs ++ here ∷ after ≡ bs' ++ here' ∷ after' = cc in
      let drafts = once d b good.0 good'.0 good.1 (subst (λ (l : List ℕ). adds d l good'.0) heads good'.1) in
      let more = one_faulty bs bs' good.0 here here' after after' said said' c c' tails good.2 (subst (λ (m : S). LeadsBy adds m bs' said') (sym drafts) good'.2) faulty faulty' in
      (let lengths = more.0 in omega arith, more.1)

  -- where all lines are good and the last is there, the text has no fault
  pub no_fault_of : (bytes : List ℕ) (last : S) (line : ℕ) (c : Cause) → LeadsBy adds start (lines_of bytes) last → IsEnded last → IsFaultOf start adds bad IsEnded no_end bytes line c → ⊥
  no_fault_of bytes last line c good ended fault = elim fault [
    | inl at ↦ none_faulty at.before start at.here at.after last at.said c (subst (λ (ls : List (List ℕ)). LeadsBy adds start ls last) at.parts good) at.good at.faulty_here
    | inr early ↦ early.unended (subst IsEnded (LeadsBy-once start (lines_of bytes) last early.said good early.good) ended)
  ]

  -- the first fault is one
  pub one_fault_of : (bytes : List ℕ) (line other : ℕ) (c d : Cause) → IsFaultOf start adds bad IsEnded no_end bytes line c → IsFaultOf start adds bad IsEnded no_end bytes other d → (line ≡ other) × (c ≡ d)
  one_fault_of bytes line other c d one two = elim one [
    | inl a ↦ elim two [
      | inl b ↦ (let h = one_faulty a.before b.before start a.here b.here a.after b.after a.said b.said c d (sym a.parts ∙ b.parts) a.good b.good a.faulty_here b.faulty_here in
          (let lengths = h.0 in omega (arith, a.number, b.number), h.1))
      | inr e ↦ absurd (none_faulty a.before start a.here a.after e.said a.said c (subst (λ (ls : List (List ℕ)). LeadsBy adds start ls e.said) a.parts e.good) a.good a.faulty_here)
    ]
    | inr e ↦ elim two [
      | inl b ↦ absurd (none_faulty b.before start b.here b.after e.said b.said d (subst (λ (ls : List (List ℕ)). LeadsBy adds start ls e.said) b.parts e.good) b.good b.faulty_here)
      | inr f ↦ (omega (arith, e.number, f.number), e.cause_is ∙ sym f.cause_is)
    ]
  ]

-- A kind of text in which each line is good or faulty has a fault, or leads to its end.
module _ {S Cause : Type 0} (start : S) (adds : S → List ℕ → S → Type 0) (bad : S → List ℕ → Cause → Type 0) (IsEnded : S → Type 0) (no_end : Cause)
    (either : (d : S) (l : List ℕ) → ((e : S) × adds d l e) ⊎ ((c : Cause) × bad d l c))
    (ended_or : (d : S) → IsEnded d ⊎ (¬ IsEnded d)) where
  abbrev ReachesEnd : List ℕ → Type 0
  ReachesEnd bytes = (last : S) × LeadsBy adds start (lines_of bytes) last × IsEnded last

  abbrev HasFault : List ℕ → Type 0
  HasFault bytes = (line : ℕ) × (c : Cause) × IsFaultOf start adds bad IsEnded no_end bytes line c

  -- the lines from one place on, after good ones
  walk : (bytes : List ℕ) (lines before : List (List ℕ)) (d : S) → lines_of bytes ≡ before ++ lines → LeadsBy adds start before d → ReachesEnd bytes ⊎ HasFault bytes
  walk bytes [] before d parts good = elim (ended_or d) [
    | inl ended ↦ inl (d, all, ended)
    | inr not ↦ inr (length (lines_of bytes) + 1, no_end, inr (record { said = d; good = all; unended = not; number = refl; cause_is = refl }))
  ]
    where
      all : LeadsBy adds start (lines_of bytes) d
      all = subst (λ (ls : List (List ℕ)). LeadsBy adds start ls d) (sym (parts ∙ append-nil before)) good
  walk bytes (line ∷ lines) before d parts good = elim (either d line) [
    | inl one ↦ walk bytes lines (before ++ line ∷ []) one.0 (parts ∙ sym (append_assoc before (line ∷ []) lines)) (LeadsBy-push adds start before d line one.0 good one.1)
    | inr faulty ↦ inr (length before + 1, faulty.0, inl (record { before = before; here = line; after = lines; parts = parts; said = d; good = good; number = refl; faulty_here = faulty.1 }))
  ]

  pub end_or_fault : (bytes : List ℕ) → ReachesEnd bytes ⊎ HasFault bytes
  end_or_fault bytes = walk bytes (lines_of bytes) [] start refl refl
