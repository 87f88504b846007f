-- Texts whose lines each lead to one state or are faulty by one cause.
use Rattle.std.proofs.Common.{◌≡◌, ◌∙◌, sym, refl, ℕ, ◌⊎◌, inl, inr, List, Result, Ok, Err}
use Rattle.common_lines.specs.Chains.{IsFaultOf}
use Rattle.common_lines.specs.Lines.{lines_of}
use Rattle.common_lines.proofs.ChainLaws.{LeadsBy-once, end_or_fault, no_fault_of, one_fault_of}
use Rattle.fabric_read_lines.specs.Texts.{IsTextOf}

module _ {State Cause : Type 0} (step : State → List ℕ → Result State Cause) (IsEnded : State → Type 0) (ended_or : (s : State) → IsEnded s ⊎ (¬ IsEnded s)) (no_end : Cause) (start : State) where
  abbrev adds : State → List ℕ → State → Type 0
  adds before line after = step before line ≡ Ok after

  abbrev faulty : State → List ℕ → Cause → Type 0
  faulty before line cause = step before line ≡ Err cause

  once : (d : State) (l : List ℕ) (e f : State) → adds d l e → adds d l f → e ≡ f
  once d l e f one other = let both : Ok e ≡ Ok f = sym one ∙ other in cc

  not_both : (d : State) (l : List ℕ) (e : State) (c : Cause) → adds d l e → faulty d l c → ⊥
  not_both d l e c one wrong = let both : Ok e ≡ Err c = sym one ∙ wrong in absurd (cc)

  one_cause : (d : State) (l : List ℕ) (b c : Cause) → faulty d l b → faulty d l c → b ≡ c
  one_cause d l b c one other = let both : Err b ≡ Err c = sym one ∙ other in cc

  by_step : (d : State) (l : List ℕ) (r : Result State Cause) → step d l ≡ r → ((e : State) × adds d l e) ⊎ ((c : Cause) × faulty d l c)
  by_step d l (Ok e) is = inl (e, is)
  by_step d l (Err c) is = inr (c, is)

  good_or_faulty : (d : State) (l : List ℕ) → ((e : State) × adds d l e) ⊎ ((c : Cause) × faulty d l c)
  good_or_faulty d l = by_step d l (step d l) refl

  pub one_text : (bytes : List ℕ) (last other : State) → IsTextOf adds IsEnded start bytes last → IsTextOf adds IsEnded start bytes other → last ≡ other
  one_text bytes last other is too = LeadsBy-once start adds faulty IsEnded no_end once not_both one_cause start (lines_of bytes) last other is.good too.good

  pub one_fault : (bytes : List ℕ) (line other : ℕ) (cause also : Cause) → IsFaultOf start adds faulty IsEnded no_end bytes line cause → IsFaultOf start adds faulty IsEnded no_end bytes other also → (line ≡ other) × (cause ≡ also)
  one_fault bytes line other cause also is too = one_fault_of start adds faulty IsEnded no_end once not_both one_cause bytes line other cause also is too

  pub text_or : (bytes : List ℕ) (last : State) (line : ℕ) (cause : Cause) → IsTextOf adds IsEnded start bytes last → IsFaultOf start adds faulty IsEnded no_end bytes line cause → ⊥
  text_or bytes last line cause is fault = no_fault_of start adds faulty IsEnded no_end once not_both one_cause bytes last line cause is.good is.ended fault

  pub either : (bytes : List ℕ) → ((last : State) × IsTextOf adds IsEnded start bytes last) ⊎ ((line : ℕ) × (cause : Cause) × IsFaultOf start adds faulty IsEnded no_end bytes line cause)
  either bytes = elim (end_or_fault start adds faulty IsEnded no_end good_or_faulty ended_or bytes) [
    | inl ends ↦ inl (ends.0, record { good = ends.1; ended = ends.2 })
    | inr fault ↦ inr fault
  ]
