-- Texts of ranks: each line is good or faulty, and not both.
use Rattle.std.proofs.Common.{◌≡◌, ◌∙◌, sym, ap, refl, ℕ, ◌<◌, ◌≤◌, ◌⊎◌, inl, inr, List, [], ◌∷◌, ◌++◌, ◌+◌, length, map, get_or, take, Option, Bor, Bool, true, false, ltb, arith, Result, Ok, Err}
use Rattle.std.specs.Prelude.{unwrap_or}
use Rattle.std.proofs.lemmas.Bool.Decides.{nat_tests}
use Rattle.std.proofs.lemmas.List.{map_push, take_more}
use Rattle.common_lines.specs.Lines.{lines_of, words_of}
use Rattle.fabric_model.specs.Fabric.{FabricOf}
use Rattle.fabric_words.specs.declared.ranks_cause.RanksCause.{RanksCause}
use Rattle.fabric_words.specs.declared.ranks_cause.RanksCause.TheVariants.{LineTooLong, NoHead}
use Rattle.common_lines.proofs.ChainLaws.{LeadsBy-once, end_or_fault, no_fault_of, one_fault_of}
use Rattle.fabric_read_ranks.specs.RankLines.{said_by, said_by_four, said_by_two, said_in}
use Rattle.fabric_read_ranks.specs.Ranks.{AddsTo, HasBegun, IsFaultyAfter, IsRanksFault, IsRanksText, Step, Told, none_told, after_said, told_with}
use Rattle.fabric_read_ranks.specs.declared.line.RankLine.{RankLine}
use Rattle.common_lines.specs.Stops.{IsStep}
use Rattle.common_lines.specs.declared.stop.Stop.{Stop}
use Rattle.common_lines.specs.declared.stop.Stop.TheVariants.{Fault, OutOfMemory}

-- what two words say, and four
pub by_two : (words : List (Bor (List ℕ))) (d : Bor (List ℕ)) → length words ≡ 2 → said_by_two (get_or words 0 d).now (get_or words 1 d).now ≡ said_by (map (λ w. w.now) words)
by_two [] d two = absurd (omega arith)
by_two (a ∷ []) d two = absurd (omega arith)
by_two (a ∷ b ∷ []) d two = refl
by_two (a ∷ b ∷ e ∷ more) d two = absurd (omega arith)

pub by_four : (words : List (Bor (List ℕ))) (d : Bor (List ℕ)) → length words ≡ 4 → said_by_four (get_or words 0 d).now (get_or words 1 d).now (get_or words 2 d).now (get_or words 3 d).now ≡ said_by (map (λ w. w.now) words)
by_four [] d four = absurd (omega arith)
by_four (a ∷ []) d four = absurd (omega arith)
by_four (a ∷ b ∷ []) d four = absurd (omega arith)
by_four (a ∷ b ∷ e ∷ []) d four = absurd (omega arith)
by_four (a ∷ b ∷ e ∷ f ∷ []) d four = refl
by_four (a ∷ b ∷ e ∷ f ∷ g ∷ more) d four = absurd (omega arith)

-- what a line says by its words
pub said_words : (line : List ℕ) (words : List (List ℕ)) → length line ≤ 200 → words ≡ words_of line → said_in line ≡ said_by words
unfolding said_in
said_words line words short are =
    let t : ltb 200 (length line) ≡ false = grind (arith, nat_tests) in
    rw (t, are) refl

pub said_long : (line : List ℕ) → 200 < length line → said_in line ≡ Err LineTooLong
unfolding said_in
said_long line long =
    let t : ltb 200 (length line) ≡ true = grind (arith, nat_tests) in
    rw t refl

module _ (fabric : FabricOf) (told : Told) (line : List ℕ) where
  pub faulty_long : 200 < length line → IsFaultyAfter fabric told line LineTooLong
  faulty_long long = ap (after_said fabric told) (said_long line long)

  -- what is told after its words
  pub told_words : (words : List (List ℕ)) → length line ≤ 200 → words ≡ words_of line → after_said fabric told (said_in line) ≡ after_said fabric told (said_by words)
  told_words words short are = ap (after_said fabric told) (said_words line words short are)

  pub step_words : {Done : Type 0} (words : List (List ℕ)) (said : RankLine) (after : Told) (r : Result Done (Stop RanksCause)) → length line ≤ 200 → words ≡ words_of line → said_by words ≡ Ok said → IsStep r (told_with fabric told said ≡ Ok after) (λ cause. told_with fabric told said ≡ Err cause) → IsStep r (AddsTo fabric told line after) (IsFaultyAfter fabric told line)
  step_words words said after (Ok done) short are says step = told_words words short are ∙ ap (after_said fabric told) says ∙ step
  step_words words said after (Err (Fault cause)) short are says step = told_words words short are ∙ ap (after_said fabric told) says ∙ step
  step_words words said after (Err OutOfMemory) short are says step = tt

  pub faulty_words : (words : List (List ℕ)) (cause : RanksCause) → length line ≤ 200 → words ≡ words_of line → said_by words ≡ Err cause → IsFaultyAfter fabric told line cause
  faulty_words words cause short are says = told_words words short are ∙ ap (after_said fabric told) says

module _ (fabric : FabricOf) where
  once : (d : Told) (l : List ℕ) (e f : Told) → AddsTo fabric d l e → AddsTo fabric d l f → e ≡ f
  once d l e f one other = let both : Ok e ≡ Ok f = sym one ∙ other in cc

  not_both : (d : Told) (l : List ℕ) (e : Told) (c : RanksCause) → AddsTo fabric d l e → IsFaultyAfter fabric d l c → ⊥
  not_both d l e c one other = let both : Ok e ≡ Err c = sym one ∙ other in absurd (cc)

  one_cause : (d : Told) (l : List ℕ) (b c : RanksCause) → IsFaultyAfter fabric d l b → IsFaultyAfter fabric d l c → b ≡ c
  one_cause d l b c one other = let both : Err b ≡ Err c = sym one ∙ other in cc

  good_or_faulty : (step : Step) → ((e : Told) × (step ≡ Ok e)) ⊎ ((c : RanksCause) × (step ≡ Err c))
  good_or_faulty (Ok e) = inl (e, refl)
  good_or_faulty (Err c) = inr (c, refl)

  has_begun_or : (begun : Bool) → (begun ≡ true) ⊎ (¬ (begun ≡ true))
  has_begun_or true = inl refl
  has_begun_or false = inr (λ is. absurd (cc))

  pub one_list : (bytes one other : List ℕ) → IsRanksText fabric bytes one → IsRanksText fabric bytes other → one ≡ other
  one_list bytes one other is too =
      let last = LeadsBy-once (none_told fabric) (AddsTo fabric) (IsFaultyAfter fabric) HasBegun NoHead once not_both one_cause (none_told fabric) (lines_of bytes) is.last too.last is.good too.good in
      is.says ∙ ap (λ (t : Told). map (λ rank. unwrap_or rank 0) t.ranks) last ∙ sym too.says

  pub one_fault : (bytes : List ℕ) (line other : ℕ) (cause other_cause : RanksCause) → IsRanksFault fabric bytes line cause → IsRanksFault fabric bytes other other_cause → (line ≡ other) × (cause ≡ other_cause)
  one_fault bytes line other cause other_cause is too = one_fault_of (none_told fabric) (AddsTo fabric) (IsFaultyAfter fabric) HasBegun NoHead once not_both one_cause bytes line other cause other_cause is too

  pub text_or : (bytes ranks : List ℕ) (line : ℕ) (cause : RanksCause) → IsRanksText fabric bytes ranks → IsRanksFault fabric bytes line cause → ⊥
  text_or bytes ranks line cause is fault = no_fault_of (none_told fabric) (AddsTo fabric) (IsFaultyAfter fabric) HasBegun NoHead once not_both one_cause bytes is.last line cause is.good is.begun fault

  pub either : (bytes : List ℕ) → ((ranks : List ℕ) × IsRanksText fabric bytes ranks) ⊎ ((line : ℕ) × (cause : RanksCause) × IsRanksFault fabric bytes line cause)
  either bytes = elim (end_or_fault (none_told fabric) (AddsTo fabric) (IsFaultyAfter fabric) HasBegun NoHead (λ d l. good_or_faulty (after_said fabric d (said_in l))) (λ d. has_begun_or d.begun) bytes) [
    | inl ends ↦ inl (map (λ rank. unwrap_or rank 0) ends.0.ranks, record { last = ends.0; good = ends.1; begun = ends.2; says = refl })
    | inr fault ↦ inr fault
  ]

-- the ranks that were told, with one more
pub ranks_more : (told : List (Option ℕ)) (i : ℕ) (d : Option ℕ) (rank : ℕ) (ranks all : List ℕ) → i < length told → rank ≡ unwrap_or (get_or told i d) 0 → ranks ≡ map (λ r. unwrap_or r 0) (take i told) → all ≡ ranks ++ rank ∷ [] → all ≡ map (λ r. unwrap_or r 0) (take (i + 1) told)
ranks_more told i d rank ranks all low is so_far last =
    let of = λ (r : Option ℕ). unwrap_or r 0 in
    last ∙ ap (λ (rs : List ℕ). rs ++ rank ∷ []) so_far ∙ ap (λ (r : ℕ). map of (take i told) ++ r ∷ []) is
    ∙ sym (map_push of (take i told) (get_or told i d)) ∙ ap (map of) (sym (take_more told i d low))
