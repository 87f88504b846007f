use Rattle.std.proofs.Common.{◌≡◌, ◌≢◌, ◌⊎◌, inl, inr, ◌∙◌, sym, ap, refl, ℕ, List, [], ◌∷◌, Bool, true, false, ◌&&◌, codes}
use Rattle.net_script.specs.declared.cause.ScriptCause.{ScriptCause}
use Rattle.net_script.specs.declared.cause.ScriptCause.TheVariants.{BadHeader, UnknownWord, AfterEnd, NoEnd}
use Rattle.net_script.specs.declared.draft.Draft.{Draft}
use Rattle.net_script.specs.declared.draft.Part.{Part}
use Rattle.net_script.specs.declared.draft.Part.TheVariants.{Header, Items, After}
use Rattle.common_lines.specs.Lines.{lines_of}
use Rattle.net_script.specs.Scripts.{ScriptOf}
use Rattle.net_script.specs.Forms.{form_words, header_words}
use Rattle.net_script.specs.Drafts.{start}
use Rattle.net_script.specs.Rules.{cause_of, with_form}
use Rattle.net_script.specs.Texts.{AddsWords, Adds, IsFaultyWords, IsFaulty, bytes_cause, IsEnded, IsText, IsFault}
use Rattle.common_lines.specs.Grammar.{AddsRowBy}
use Rattle.common_lines.proofs.GrammarLaws.{form_once, form_not_both, form_one_cause, either_form, line_once, line_not_both, line_one_cause, either_line}
use Rattle.common_lines.proofs.ChainLaws.{LeadsBy-once, no_fault_of, one_fault_of, end_or_fault}
use Rattle.net_script.proofs.FormOf.{one_form, form_of, form_is, no_form}
use Rattle.common_lines.proofs.ChoiceLemmas.{word_is}
use Rattle.std.specs.Str.{bytes_eq}
use Rattle.std.proofs.lemmas.Bool.{and_parts}

-- the words of a line after a draft, if there are any, lead to another
abbrev pub AddsRow : Draft → List (List ℕ) → Draft → Type 0
AddsRow = AddsRowBy (λ d. AddsWords d.part d)

-- a line leads to one draft
words_once : (p : Part) (d : Draft) (words : List (List ℕ)) (e f : Draft) → AddsWords p d words e → AddsWords p d words f → e ≡ f
words_once Header d words e f one other = one.1 ∙ sym other.1
words_once Items d words e f one other = form_once form_words cause_of one_form with_form d words e f one other
words_once After d words e f one other = absurd one

pub Adds-once : (d : Draft) (line : List ℕ) (e f : Draft) → Adds d line e → Adds d line f → e ≡ f
Adds-once = line_once (bytes_cause 200) (λ d. AddsWords d.part d) (λ d. IsFaultyWords d.part d) (λ d. words_once d.part d)

-- a line is not both good and faulty
words_not_both : (p : Part) (d : Draft) (words : List (List ℕ)) (e : Draft) (c : ScriptCause) → AddsWords p d words e → IsFaultyWords p d words c → ⊥
words_not_both Header d words e c good faulty = faulty.0 good.0
words_not_both Items d words e c good faulty = form_not_both form_words cause_of one_form with_form UnknownWord d words e c good faulty
words_not_both After d words e c good faulty = good

pub not_both : (d : Draft) (line : List ℕ) (e : Draft) (c : ScriptCause) → Adds d line e → IsFaulty d line c → ⊥
not_both = line_not_both (bytes_cause 200) (λ d. AddsWords d.part d) (λ d. IsFaultyWords d.part d) (λ d. words_not_both d.part d)

-- a line has one first cause
words_one_cause : (p : Part) (d : Draft) (words : List (List ℕ)) (b c : ScriptCause) → IsFaultyWords p d words b → IsFaultyWords p d words c → b ≡ c
words_one_cause Header d words b c one other = one.1 ∙ sym other.1
words_one_cause Items d words b c one other = form_one_cause form_words cause_of one_form UnknownWord d words b c one other
words_one_cause After d words b c one other = one ∙ sym other

pub one_cause : (d : Draft) (line : List ℕ) (b c : ScriptCause) → IsFaulty d line b → IsFaulty d line c → b ≡ c
one_cause = line_one_cause (bytes_cause 200) (λ d. AddsWords d.part d) (λ d. IsFaultyWords d.part d) (λ d. words_one_cause d.part d)

-- the header, by a test
is_header : List (List ℕ) → Bool
is_header (a ∷ b ∷ []) = bytes_eq a (codes "autonet") && bytes_eq b (codes "1")
is_header ws = false

header_is : (ws : List (List ℕ)) → is_header ws ≡ true → ws ≡ header_words
unfolding is_header
header_is [] t = absurd (cc)
header_is (a ∷ []) t = absurd (cc)
header_is (a ∷ b ∷ []) t = let parts = and_parts (bytes_eq a (codes "autonet")) (bytes_eq b (codes "1")) t in rw (word_is a (codes "autonet") parts.0, word_is b (codes "1") parts.1) refl
header_is (a ∷ b ∷ c ∷ ws) t = absurd (cc)

header_test : is_header header_words ≡ true
unfolding is_header
header_test = refl

-- each line is good or faulty
either_words : (p : Part) (d : Draft) (ws : List (List ℕ)) → ((e : Draft) × AddsWords p d ws e) ⊎ ((c : ScriptCause) × IsFaultyWords p d ws c)
either_words Header d ws = go (is_header ws) refl
  where
    go : (b : Bool) → is_header ws ≡ b → ((e : Draft) × AddsWords Header d ws e) ⊎ ((c : ScriptCause) × IsFaultyWords Header d ws c)
    go true t = inl (record d { part = Items }, (header_is ws t, refl))
    go false t = inr (BadHeader, ((λ same. let both : true ≡ false = sym header_test ∙ ap is_header (sym same) ∙ t in absurd (cc)), refl))
either_words Items d ws = either_form form_words cause_of form_of form_is no_form with_form UnknownWord d ws
either_words After d ws = inr (AfterEnd, refl)

pub either : (d : Draft) (line : List ℕ) → ((e : Draft) × Adds d line e) ⊎ ((c : ScriptCause) × IsFaulty d line c)
either = either_line (bytes_cause 200) (λ d. AddsWords d.part d) (λ d. IsFaultyWords d.part d) (λ d. either_words d.part d)

-- the part after the last line, by a test
is_after : Part → Bool
is_after Header = false
is_after Items = false
is_after After = true

after_is : (p : Part) → is_after p ≡ true → p ≡ After
unfolding is_after
after_is Header t = absurd (cc)
after_is Items t = absurd (cc)
after_is After t = refl

not_after : (p : Part) → is_after p ≡ false → p ≢ After
unfolding is_after
not_after Header t same = absurd (cc)
not_after Items t same = absurd (cc)
not_after After t same = absurd (cc)

pub ended_or : (d : Draft) → IsEnded d ⊎ (¬ IsEnded d)
ended_or d = go (is_after d.part) refl
  where
    go : (b : Bool) → is_after d.part ≡ b → IsEnded d ⊎ (¬ IsEnded d)
    go true t = inl (after_is d.part t)
    go false t = inr (not_after d.part t)

-- the laws

pub one_text : (bytes : List ℕ) (s t : ScriptOf) → IsText bytes s → IsText bytes t → s ≡ t
one_text bytes s t one other =
    one.says ∙ ap (λ (d : Draft). d.script) (LeadsBy-once start Adds IsFaulty IsEnded NoEnd Adds-once not_both one_cause start (lines_of bytes) one.last other.last one.good other.good) ∙ sym other.says

pub no_fault : (bytes : List ℕ) (s : ScriptOf) (line : ℕ) (c : ScriptCause) → IsText bytes s → IsFault bytes line c → ⊥
no_fault bytes s line c text fault = no_fault_of start Adds IsFaulty IsEnded NoEnd Adds-once not_both one_cause bytes text.last line c text.good text.ended fault

pub one_fault : (bytes : List ℕ) (line other : ℕ) (c d : ScriptCause) → IsFault bytes line c → IsFault bytes other d → (line ≡ other) × (c ≡ d)
one_fault = one_fault_of start Adds IsFaulty IsEnded NoEnd Adds-once not_both one_cause

pub text_or_fault : (bytes : List ℕ) → ((s : ScriptOf) × IsText bytes s) ⊎ ((line : ℕ) × (c : ScriptCause) × IsFault bytes line c)
text_or_fault bytes = elim (end_or_fault start Adds IsFaulty IsEnded NoEnd either ended_or bytes) [
  | inl text ↦ inl (text.0.script, record { last = text.0; good = text.1; ended = text.2; says = refl })
  | inr fault ↦ inr fault
]
