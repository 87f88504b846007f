use Rattle.std.proofs.Common.{◌≡◌, ◌≢◌, ◌∙◌, ◌⊎◌, inl, inr, sym, ap, subst, refl, ℕ, List, [], ◌∷◌, ◌++◌, length, map, None, true, not, eqb, All, arith, ◌↔◌}
use Rattle.std.specs.List.{filter}
use Rattle.std.proofs.lemmas.Bool.Decides.{nat_tests}
use Rattle.std.proofs.lemmas.List.Elements.{All-nil, All-cons, All-head, All-tail}
use Rattle.common_lines.specs.Lines.{lines_of, words_of, with_words}
use Rattle.net_script.specs.declared.draft.Draft.{Draft}
use Rattle.net_script.specs.declared.draft.Part.{Part}
use Rattle.net_script.specs.declared.draft.Part.TheVariants.{Header, Items, After}
use Rattle.net_script.specs.Drafts.{start, begun}
use Rattle.net_script.specs.Forms.{Form, Number, AnyRoutes, SwitchLine, LinkLine, HostLine, ChangesLink, ChangesWire, Sends, Restarts, End, form_words, header_words}
use Rattle.net_script.specs.Rules.{cause_of, with_form}
use Rattle.net_script.specs.Scripts.{ScriptOf}
use Rattle.net_script.specs.Texts.{AddsWords, Adds, Leads, IsEnded, IsText, bytes_cause}
use Rattle.net_script.specs.TextForms.{FormsLead, IsTextOf}
use Rattle.net_script.proofs.TextLemmas.{AddsRow}

-- the bytes of a line are right
abbrev IsFine : List ℕ → Type 0
IsFine line = bytes_cause 200 line ≡ None

-- LINES WITH AND WITHOUT WORDS

kept : (w : List ℕ) (ws : List (List ℕ)) → not (eqb (length (w ∷ ws)) 0) ≡ true
kept w ws = grind (arith, nat_tests)

-- a line without words before others, and one with words
blank_line : (line : List ℕ) (lines : List (List ℕ)) → words_of line ≡ [] → with_words (line ∷ lines) ≡ with_words lines
blank_line line lines none = ap (λ (ws : List (List ℕ)). filter (λ words. not (eqb (length words) 0)) (ws ∷ map words_of lines)) none

word_line : (line : List ℕ) (lines : List (List ℕ)) (w : List ℕ) (ws : List (List ℕ)) → words_of line ≡ w ∷ ws → with_words (line ∷ lines) ≡ (w ∷ ws) ∷ with_words lines
word_line line lines w ws is = ap (λ (vs : List (List ℕ)). filter (λ words. not (eqb (length words) 0)) (vs ∷ map words_of lines)) is ∙ rw (kept w ws) refl

-- a form is the last, or leaves the part of the text as it is
abbrev StaysIn : Form → Type 0
StaysIn form = (form ≢ End) × ((d : Draft) → d.part ≡ Items → (with_form d form).part ≡ Items)

end_or : (form : Form) → (form ≡ End) ⊎ StaysIn form
end_or (Number k n) = inr ((λ same. absurd (cc)), (λ d part. part))
end_or AnyRoutes = inr ((λ same. absurd (cc)), (λ d part. part))
end_or (SwitchLine n u h) = inr ((λ same. absurd (cc)), (λ d part. part))
end_or (LinkLine a p b q) = inr ((λ same. absurd (cc)), (λ d part. part))
end_or (HostLine n u s p) = inr ((λ same. absurd (cc)), (λ d part. part))
end_or (ChangesLink k t n p) = inr ((λ same. absurd (cc)), (λ d part. part))
end_or (ChangesWire k t n p m) = inr ((λ same. absurd (cc)), (λ d part. part))
end_or (Sends t h g) = inr ((λ same. absurd (cc)), (λ d part. part))
end_or (Restarts t n) = inr ((λ same. absurd (cc)), (λ d part. part))
end_or End = inl refl

-- FROM A TEXT TO ITS FORMS

-- the bytes of good lines are right
all_fine : (d : Draft) (lines : List (List ℕ)) (e : Draft) → Leads d lines e → All IsFine lines
all_fine d [] e leads = All-nil IsFine
all_fine d (line ∷ lines) e leads = All-cons IsFine line lines leads.1.bytes (all_fine leads.0 lines e leads.2)

-- no words come after the last line
after_none : (d : Draft) (lines : List (List ℕ)) (e : Draft) → d.part ≡ After → Leads d lines e → (with_words lines ≡ []) × (e ≡ d)
after_none d [] e part leads = (refl, sym leads)
after_none d (line ∷ lines) e part leads = go (words_of line) refl leads.1.row (λ is. after_none leads.0 lines e is leads.2)
  where
    go : (ws : List (List ℕ)) → words_of line ≡ ws → AddsRow d ws leads.0 → (leads.0.part ≡ After → (with_words lines ≡ []) × (e ≡ leads.0)) → (with_words (line ∷ lines) ≡ []) × (e ≡ d)
    go [] none row later =
        let same : leads.0 ≡ d = row in
        let rest = later (ap (λ (x : Draft). x.part) same ∙ part) in
        (blank_line line lines none ∙ rest.0, rest.1 ∙ same)
    go (w ∷ ws) some row later = absurd (subst (λ (p : Part). AddsWords p d (w ∷ ws) leads.0) part row)

-- lines from a draft to the end, as forms
record Listed (d : Draft) (lines : List (List ℕ)) (e : Draft) : Type 0 where
  pub forms : List Form
  pub rows : with_words lines ≡ map form_words forms ++ form_words End ∷ []
  pub inner : All (λ form. form ≢ End) forms
  pub last : Draft
  pub good : FormsLead d forms last
  pub ends : e ≡ with_form last End

items : (d : Draft) (lines : List (List ℕ)) (e : Draft) → d.part ≡ Items → IsEnded e → Leads d lines e → Listed d lines e
items d [] e part ended leads = let clash : Items ≡ After = sym part ∙ ap (λ (x : Draft). x.part) leads ∙ ended in absurd (cc)
items d (line ∷ lines) e part ended leads = go (words_of line) refl leads.1.row (λ is. items leads.0 lines e is ended leads.2)
  where
    formed : (f : Form) (w : List ℕ) (ws : List (List ℕ)) → words_of line ≡ w ∷ ws → w ∷ ws ≡ form_words f → cause_of d f ≡ None → leads.0 ≡ with_form d f → (leads.0.part ≡ Items → Listed leads.0 lines e) → (f ≡ End) ⊎ StaysIn f → Listed d (line ∷ lines) e
    formed f w ws some is good then later (inl last) =
        let same : leads.0 ≡ with_form d End = then ∙ ap (with_form d) last in
        let none = after_none leads.0 lines e (ap (λ (x : Draft). x.part) same) leads.2 in
        record {
          forms = [];
          rows = word_line line lines w ws some ∙ ap (λ (rows : List (List (List ℕ))). (w ∷ ws) ∷ rows) none.0 ∙ ap (λ (words : List (List ℕ)). words ∷ []) (is ∙ ap form_words last);
          inner = All-nil (λ form. form ≢ End);
          last = d;
          good = refl;
          ends = none.1 ∙ same;
        }
    formed f w ws some is good then later (inr stays) =
        let rest = later (ap (λ (x : Draft). x.part) then ∙ stays.1 d part) in
        record {
          forms = f ∷ rest.forms;
          rows = word_line line lines w ws some ∙ ap (λ (rows : List (List (List ℕ))). (w ∷ ws) ∷ rows) rest.rows ∙ ap (λ (words : List (List ℕ)). words ∷ (map form_words rest.forms ++ form_words End ∷ [])) is;
          inner = All-cons (λ form. form ≢ End) f rest.forms stays.0 rest.inner;
          last = rest.last;
          good = (good, subst (λ (x : Draft). FormsLead x rest.forms rest.last) then rest.good);
          ends = rest.ends;
        }

    go : (ws : List (List ℕ)) → words_of line ≡ ws → AddsRow d ws leads.0 → (leads.0.part ≡ Items → Listed leads.0 lines e) → Listed d (line ∷ lines) e
    go [] none row later =
        let same : leads.0 ≡ d = row in
        let rest = later (ap (λ (x : Draft). x.part) same ∙ part) in
        record { forms = rest.forms; rows = blank_line line lines none ∙ rest.rows; inner = rest.inner; last = rest.last; good = subst (λ (x : Draft). FormsLead x rest.forms rest.last) same rest.good; ends = rest.ends }
    go (w ∷ ws) some row later =
        let adds = subst (λ (p : Part). AddsWords p d (w ∷ ws) leads.0) part row in
        formed adds.form w ws some adds.line adds.good adds.then later (end_or adds.form)

-- lines from the first on, as forms
record Begins (lines : List (List ℕ)) (e : Draft) : Type 0 where
  pub forms : List Form
  pub rows : with_words lines ≡ header_words ∷ (map form_words forms ++ form_words End ∷ [])
  pub inner : All (λ form. form ≢ End) forms
  pub last : Draft
  pub good : FormsLead begun forms last
  pub ends : e ≡ with_form last End

begins : (d : Draft) (lines : List (List ℕ)) (e : Draft) → d ≡ start → IsEnded e → Leads d lines e → Begins lines e
begins d [] e at ended leads = let clash : Header ≡ After = ap (λ (x : Draft). x.part) (sym at ∙ leads) ∙ ended in absurd (cc)
begins d (line ∷ lines) e at ended leads = go (words_of line) refl leads.1.row (λ is. begins leads.0 lines e is ended leads.2)
  where
    go : (ws : List (List ℕ)) → words_of line ≡ ws → AddsRow d ws leads.0 → (leads.0 ≡ start → Begins lines e) → Begins (line ∷ lines) e
    go [] none row later =
        let same : leads.0 ≡ d = row in
        let rest = later (same ∙ at) in
        record { forms = rest.forms; rows = blank_line line lines none ∙ rest.rows; inner = rest.inner; last = rest.last; good = rest.good; ends = rest.ends }
    go (w ∷ ws) some row later =
        let adds = subst (λ (p : Part). AddsWords p d (w ∷ ws) leads.0) (ap (λ (x : Draft). x.part) at) row in
        let same : leads.0 ≡ begun = adds.1 ∙ ap (λ (x : Draft). record x { part = Items }) at in
        let rest = items leads.0 lines e (ap (λ (x : Draft). x.part) same) ended leads.2 in
        record {
          forms = rest.forms;
          rows = word_line line lines w ws some ∙ ap (λ (rows : List (List (List ℕ))). (w ∷ ws) ∷ rows) rest.rows ∙ ap (λ (words : List (List ℕ)). words ∷ (map form_words rest.forms ++ form_words End ∷ [])) adds.0;
          inner = rest.inner;
          last = rest.last;
          good = subst (λ (x : Draft). FormsLead x rest.forms rest.last) same rest.good;
          ends = rest.ends;
        }

-- FROM FORMS TO THEIR TEXT

no_rows : (forms : List Form) → [] ≢ map form_words forms ++ form_words End ∷ []
no_rows [] same = absurd (cc)
no_rows (f ∷ fs) same = absurd (cc)

-- a line without words is good
blank_adds : (d : Draft) (line : List ℕ) → IsFine line → words_of line ≡ [] → Adds d line d
blank_adds d line fine none = record { bytes = fine; row = subst (λ (ws : List (List ℕ)). AddsRow d ws d) (sym none) refl }

-- and so is one of words that are good in the draft's part
words_add : (d e : Draft) (p : Part) (line w : List ℕ) (ws : List (List ℕ)) → IsFine line → words_of line ≡ w ∷ ws → d.part ≡ p → AddsWords p d (w ∷ ws) e → Adds d line e
words_add d e p line w ws fine some part adds = record {
  bytes = fine;
  row = subst (λ (vs : List (List ℕ)). AddsRow d vs e) (sym some) (subst (λ (q : Part). AddsWords q d (w ∷ ws) e) (sym part) adds);
}

back_after : (d : Draft) (lines : List (List ℕ)) → All IsFine lines → with_words lines ≡ [] → Leads d lines d
back_after d [] fine none = refl
back_after d (line ∷ lines) fine none = go (words_of line) refl (λ more. back_after d lines (All-tail IsFine line lines fine) more)
  where
    go : (ws : List (List ℕ)) → words_of line ≡ ws → (with_words lines ≡ [] → Leads d lines d) → Leads d (line ∷ lines) d
    go [] is later = (d, blank_adds d line (All-head IsFine line lines fine) is, later (sym (blank_line line lines is) ∙ none))
    go (w ∷ ws) is later = let clash : (w ∷ ws) ∷ with_words lines ≡ [] = sym (word_line line lines w ws is) ∙ none in absurd (cc)

-- the lines lead from the draft to the end
abbrev LeadsToEnd : Draft → List (List ℕ) → Draft → Type 0
LeadsToEnd d lines last = Leads d lines (with_form last End)

back_items : (d : Draft) (lines : List (List ℕ)) (forms : List Form) (last : Draft) → d.part ≡ Items → All IsFine lines → with_words lines ≡ map form_words forms ++ form_words End ∷ [] → All (λ form. form ≢ End) forms → FormsLead d forms last → LeadsToEnd d lines last
back_items d [] forms last part fine rows inner good = absurd (no_rows forms rows)
back_items d (line ∷ lines) forms last part fine rows inner good =
    go (words_of line) refl forms rows inner good (λ e fs at more within leads. back_items e lines fs last at (All-tail IsFine line lines fine) more within leads)
  where
    here : IsFine line
    here = All-head IsFine line lines fine

    formed : (f : Form) (fs : List Form) (w : List ℕ) (ws : List (List ℕ)) → words_of line ≡ w ∷ ws → w ∷ ws ≡ form_words f → cause_of d f ≡ None → f ≢ End → (f ≡ End) ⊎ StaysIn f → ((with_form d f).part ≡ Items → LeadsToEnd (with_form d f) lines last) → LeadsToEnd d (line ∷ lines) last
    formed f fs w ws is head plain other (inl end) later = absurd (other end)
    formed f fs w ws is head plain other (inr stays) later =
        (with_form d f, words_add d (with_form d f) Items line w ws here is part (record { form = f; line = head; good = plain; then = refl }), later (stays.1 d part))

    go : (ws : List (List ℕ)) → words_of line ≡ ws → (fs : List Form) → with_words (line ∷ lines) ≡ map form_words fs ++ form_words End ∷ [] → All (λ form. form ≢ End) fs → FormsLead d fs last → ((e : Draft) (gs : List Form) → e.part ≡ Items → with_words lines ≡ map form_words gs ++ form_words End ∷ [] → All (λ form. form ≢ End) gs → FormsLead e gs last → LeadsToEnd e lines last) → LeadsToEnd d (line ∷ lines) last
    go [] is fs at within leads later = (d, blank_adds d line here is, later d fs part (sym (blank_line line lines is) ∙ at) within leads)
    go (w ∷ ws) is [] at within leads later =
        let same : (w ∷ ws) ∷ with_words lines ≡ form_words End ∷ [] = sym (word_line line lines w ws is) ∙ at in
        let head : w ∷ ws ≡ form_words End = cc in
        let none : with_words lines ≡ [] = cc in
        subst (LeadsToEnd d (line ∷ lines)) leads
        (with_form d End, words_add d (with_form d End) Items line w ws here is part (record { form = End; line = head; good = refl; then = refl }), back_after (with_form d End) lines (All-tail IsFine line lines fine) none)
    go (w ∷ ws) is (f ∷ fs) at within leads later =
        let same : (w ∷ ws) ∷ with_words lines ≡ form_words f ∷ (map form_words fs ++ form_words End ∷ []) = sym (word_line line lines w ws is) ∙ at in
        let head : w ∷ ws ≡ form_words f = cc in
        let more : with_words lines ≡ map form_words fs ++ form_words End ∷ [] = cc in
        formed f fs w ws is head leads.0 (All-head (λ form. form ≢ End) f fs within) (end_or f) (λ part. later (with_form d f) fs part more (All-tail (λ form. form ≢ End) f fs within) leads.1)

back_begins : (lines : List (List ℕ)) (forms : List Form) (last : Draft) → All IsFine lines → with_words lines ≡ header_words ∷ (map form_words forms ++ form_words End ∷ []) → All (λ form. form ≢ End) forms → FormsLead begun forms last → LeadsToEnd start lines last
back_begins [] forms last fine rows inner good = absurd (cc)
back_begins (line ∷ lines) forms last fine rows inner good = go (words_of line) refl (λ more. back_begins lines forms last (All-tail IsFine line lines fine) more inner good)
  where
    here : IsFine line
    here = All-head IsFine line lines fine

    go : (ws : List (List ℕ)) → words_of line ≡ ws → (with_words lines ≡ header_words ∷ (map form_words forms ++ form_words End ∷ []) → LeadsToEnd start lines last) → LeadsToEnd start (line ∷ lines) last
    go [] is later = (start, blank_adds start line here is, later (sym (blank_line line lines is) ∙ rows))
    go (w ∷ ws) is later =
        let same : (w ∷ ws) ∷ with_words lines ≡ header_words ∷ (map form_words forms ++ form_words End ∷ []) = sym (word_line line lines w ws is) ∙ rows in
        let head : w ∷ ws ≡ header_words = cc in
        let more : with_words lines ≡ map form_words forms ++ form_words End ∷ [] = cc in
        (begun, words_add start begun Header line w ws here is refl (head, refl), back_items begun lines forms last refl (All-tail IsFine line lines fine) more inner good)

-- a text of a script is a whole list of forms, and such a list is a text
pub text_is_forms : (bytes : List ℕ) (script : ScriptOf) → IsText bytes script ↔ ((forms : List Form) × IsTextOf bytes forms script)
text_is_forms bytes script = (there, back)
  where
    there : IsText bytes script → (forms : List Form) × IsTextOf bytes forms script
    there text =
        let listed = begins start (lines_of bytes) text.last refl text.ended text.good in (
          listed.forms,
          record {
            fine = all_fine start (lines_of bytes) text.last text.good;
            rows = listed.rows;
            inner = listed.inner;
            last = listed.last;
            good = listed.good;
            says = text.says ∙ ap (λ (d : Draft). d.script) listed.ends;
          },
        )

    back : (forms : List Form) × IsTextOf bytes forms script → IsText bytes script
    back (forms, is) = record {
      last = with_form is.last End;
      good = back_begins (lines_of bytes) forms is.last is.fine is.rows is.inner is.good;
      ended = refl;
      says = is.says;
    }
