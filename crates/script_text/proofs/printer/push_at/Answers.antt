use Rattle.std.proofs.Common.{◌≡◌, ◌∙◌, ap, sym, append_assoc, get_or, ℕ, List, [], ◌∷◌, ◌++◌, map}
use Rattle.std.specs.Fmt.{decimal}
use Rattle.common_lines.specs.Lines.{line_text}
use Rattle.common_lines.proofs.FormTexts.{line_pieces}
use Rattle.script_text.specs.Canonical.{spaced_numbers}
use Rattle.script_text.proofs.printer.push_at.Goals as goal

-- a word, a name and numbers are the pieces of a line
pieces : (t0 t1 t2 t3 t4 t5 word name : List ℕ) (numbers : List ℕ) → t1 ≡ t0 ++ word → t2 ≡ t1 ++ 32 ∷ [] → t3 ≡ t2 ++ name → t4 ≡ t3 ++ spaced_numbers numbers → t5 ≡ t4 ++ 10 ∷ [] → t5 ≡ t0 ++ line_text (word ∷ name ∷ map decimal numbers)
pieces t0 t1 t2 t3 t4 t5 word name numbers e1 e2 e3 e4 e5 =
    let ends = spaced_numbers numbers in
    e5 ∙ ap (λ (t : List ℕ). t ++ 10 ∷ []) (e4 ∙ ap (λ (t : List ℕ). t ++ ends) (e3 ∙ ap (λ (t : List ℕ). t ++ name) (e2 ∙ ap (λ (t : List ℕ). t ++ 32 ∷ []) e1)))
    ∙ joined ends
    ∙ ap (λ (t : List ℕ). t0 ++ t) (sym (line_pieces word (name ∷ map decimal numbers)))
  where
    joined : (ends : List ℕ) → ((((t0 ++ word) ++ 32 ∷ []) ++ name) ++ ends) ++ 10 ∷ [] ≡ t0 ++ (word ++ (((32 ∷ name) ++ ends) ++ 10 ∷ []))
    joined ends = simp append_assoc

pub returns : goal.returns
returns c =
    let name = c.get.ensures ∙ ap (λ (place : ℕ). get_or c.args.names.now place []) c.from.ensures in
    pieces c.args.text.now.items c.extend_from_slice.new.self.items c.push.new.self.items c.extend_from_slice-2.new.self.items c.push_numbers.new.text.items c.push-2.new.self.items c.args.word.now _ c.args.numbers.now
    c.in_ok-extend_from_slice.ensures.items c.in_ok-push.ensures.items (c.in_ok-extend_from_slice-2.ensures.items ∙ ap (λ (t : List ℕ). c.push.new.self.items ++ t) name) c.in_ok-push_numbers.ensures c.in_ok-push-2.ensures.items
