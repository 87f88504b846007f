use Rattle.std.proofs.Common.{◌≡◌, ◌≢◌, ◌∙◌, sym, ap, refl, subst, ℕ, ◌<◌, ◌≤◌, List, [], ◌∷◌, ◌++◌, append_assoc, append-nil, length, length-append, map, None, All, AllPairs, Contains, arith}
use Rattle.std.specs.List.{join_with_byte}
use Rattle.std.proofs.lemmas.Bool.Decides.{nat_tests}
use Rattle.std.proofs.lemmas.List.{get_or_append_left, get_or_at}
use Rattle.std.proofs.lemmas.List.Elements.{All-nil, All-cons}
use Rattle.net_script.specs.declared.draft.Draft.{Draft}
use Rattle.net_script.specs.declared.cause.ScriptCause.TheVariants.{LineTooLong, NotAscii}
use Rattle.net_script.specs.declared.draft.Part.{Part}
use Rattle.net_script.specs.declared.draft.Part.TheVariants.{Items}
use Rattle.net_script.specs.Forms.{Form, form_words}
use Rattle.net_script.specs.Scripts.{ScriptOf}
use Rattle.net_script.specs.Rules.{cause_of, with_form}
use Rattle.net_script.specs.Texts.{AddsWords, Adds, Leads}
use Rattle.net_script.proofs.TextLemmas.{AddsRow}
use Rattle.common_values.proofs.ListLemmas.{AllPairs-tail}
use Rattle.common_lines.proofs.SpellLemmas.{IsWord, line_good, line_words}

-- a line of this form is printed words, and nothing is wrong with it after d
pub record IsGood (d : Draft) (form : Form) : Type 0 where
  pub words : All IsWord (form_words form)
  pub some : 0 < length (form_words form)
  pub few : length (form_words form) ≤ 6
  pub part : d.part ≡ Items
  pub good : cause_of d form ≡ None

-- a printed line
abbrev pub line_of : List (List ℕ) → List ℕ
line_of words = join_with_byte 32 words

-- the lines of forms, each good after those before it, lead from d to e
abbrev pub Chain : Draft → List Form → Draft → Type 0
Chain d [] e = d ≡ e
Chain d (f ∷ fs) e = IsGood d f × Chain (with_form d f) fs e

pub Chain-append : (d : Draft) (fs : List Form) (e : Draft) (gs : List Form) (h : Draft) → Chain d fs e → Chain e gs h → Chain d (fs ++ gs) h
Chain-append d [] e gs h one two = subst (λ (m : Draft). Chain m gs h) (sym one) two
Chain-append d (f ∷ fs) e gs h one two = (one.0, Chain-append (with_form d f) fs e gs h one.1 two)

-- a good line is added
adds_row : (d e : Draft) (words : List (List ℕ)) → 0 < length words → AddsWords d.part d words e → AddsRow d words e
adds_row d e [] some adds = absurd (omega arith)
adds_row d e (w ∷ ws) some adds = adds

good_adds : (d : Draft) (form : Form) → IsGood d form → Adds d (line_of (form_words form)) (with_form d form)
good_adds d form is = record {
  bytes = line_good LineTooLong NotAscii 200 (form_words form) is.words (let h = is.few in omega arith);
  row = subst (λ (ws : List (List ℕ)). AddsRow d ws (with_form d form)) (sym (line_words (form_words form) is.some is.words))
      (adds_row d (with_form d form) (form_words form) is.some (subst (λ (p : Part). AddsWords p d (form_words form) (with_form d form)) (sym is.part) (record { form = form; line = refl; good = is.good; then = refl })));
}

pub Chain-leads : (d : Draft) (fs : List Form) (e : Draft) → Chain d fs e → Leads d (map line_of (map form_words fs)) e
Chain-leads d [] e chain = chain
Chain-leads d (f ∷ fs) e chain = (with_form d f, good_adds d f chain.0, Chain-leads (with_form d f) fs e chain.1)

-- the words of a chain
pub Chain-words : (d : Draft) (fs : List Form) (e : Draft) → Chain d fs e → All (All IsWord) (map form_words fs)
Chain-words d [] e chain = All-nil (All IsWord)
Chain-words d (f ∷ fs) e chain = All-cons (All IsWord) (form_words f) (map form_words fs) chain.0.words (Chain-words (with_form d f) fs e chain.1)

-- lines that lead from d to a script
pub record Reaches (d : Draft) (fs : List Form) (t : ScriptOf) : Type 0 where
  pub last : Draft
  pub chain : Chain d fs last
  pub script : last.script ≡ t
  pub part : last.part ≡ Items

pub Reaches-append : (d : Draft) (fs gs : List Form) (t u : ScriptOf) → Reaches d fs t → ((e : Draft) → e.script ≡ t → e.part ≡ Items → Reaches e gs u) → Reaches d (fs ++ gs) u
Reaches-append d fs gs t u one two =
    let rest = two one.last one.script one.part in
    record { last = rest.last; chain = Chain-append d fs one.last gs rest.last one.chain rest.chain; script = rest.script; part = rest.part }

-- a line that adds an item
pub record IsStep (d : Draft) (f : Form) (t : ScriptOf) : Type 0 where
  pub good : IsGood d f
  pub script : (with_form d f).script ≡ t
  pub part : (with_form d f).part ≡ Items

-- the lines of items, where each adds its item
pub Reaches-all : {X : Type 0} (f : X → Form) (base : List X → ScriptOf) (all : List X) → ((xs : List X) (x : X) (ys : List X) → xs ++ x ∷ ys ≡ all → (d : Draft) → d.script ≡ base xs → d.part ≡ Items → IsStep d (f x) (base (xs ++ x ∷ []))) → (xs ys : List X) → xs ++ ys ≡ all → (d : Draft) → d.script ≡ base xs → d.part ≡ Items → Reaches d (map f ys) (base all)
Reaches-all f base all step xs [] parts d script part = record { last = d; chain = refl; script = script ∙ ap base (sym (append-nil xs) ∙ parts); part = part }
Reaches-all f base all step xs (y ∷ ys) parts d script part =
    let one = step xs y ys parts d script part in
    let rest = Reaches-all f base all step (xs ++ y ∷ []) ys (append_assoc xs (y ∷ []) ys ∙ parts) (with_form d (f y)) one.script one.part in
    record { last = rest.last; chain = (one.good, rest.chain); script = rest.script; part = rest.part }

-- the elements behind others are apart where all are
pub apart_back : {X : Type 0} (xs ys : List X) → AllPairs (λ a b. a ≢ b) (xs ++ ys) → AllPairs (λ a b. a ≢ b) ys
apart_back [] ys apart = apart
apart_back (x ∷ xs) ys apart = apart_back xs ys (AllPairs-tail (λ a b. a ≢ b) x (xs ++ ys) apart)

-- where they are apart an element is none of those before it
pub apart_before : {X : Type 0} (xs ys : List X) (x : X) → AllPairs (λ a b. a ≢ b) (xs ++ x ∷ ys) → ¬ Contains xs x
apart_before xs ys x apart has =
    apart has.0 (length xs) x has.1 (omega (arith, length-append xs (x ∷ ys))) (get_or_append_left xs (x ∷ ys) x has.0 has.1 ∙ has.2 ∙ sym (get_or_at xs x ys x (length xs) refl))
