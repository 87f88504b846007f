use Rattle.std.proofs.Common.{◌≡◌, ◌∙◌, ◌+◌, ◌++◌, ◌∷◌, [], ap, sym, arith, ℕ, List, append_assoc}
use Rattle.std.specs.Prelude.{codes}
use Rattle.std.specs.Fmt.{decimal}
use Rattle.std.proofs.lemmas.Fmt.{decimal_digit}
use Rattle.common_lines.specs.Lines.{line_text}
use Rattle.flow_text.proofs.FlowTexts.{two_digits}
use Rattle.flow_text.proofs.flow.push_port.Goals as goal

-- the end of a line in two pieces, with the digits of the port
ended : (text out new front back : List ℕ) (exit : ℕ) → new ≡ out ++ back → out ≡ text ++ front → front ++ back ≡ 32 ∷ line_text (codes "out" ∷ decimal exit ∷ []) → new ≡ text ++ 32 ∷ line_text (codes "out" ∷ decimal exit ∷ [])
ended text out new front back exit second first is = second ∙ ap (λ (t : List ℕ). t ++ back) first ∙ append_assoc text front back ∙ ap (λ (t : List ℕ). text ++ t) is

-- the same digits
spelled : (exit : ℕ) (digits : List ℕ) → decimal exit ≡ digits → 32 ∷ line_text (codes "out" ∷ digits ∷ []) ≡ 32 ∷ line_text (codes "out" ∷ decimal exit ∷ [])
spelled exit digits is = ap (λ (ds : List ℕ). 32 ∷ line_text (codes "out" ∷ ds ∷ [])) (sym is)

pub returns-then-exit-lt10 : goal.returns-then-exit-lt10
returns-then-exit-lt10 c =
    let exit = c.args.exit in
    ended c.args.text.now.items c.push_bytes.new.text.items _ (codes " out ") ((48 + exit) ∷ 10 ∷ []) exit c.push_bytes-then-exit-lt10.ensures.text c.push_bytes.ensures.text (spelled exit ((48 + exit) ∷ []) (decimal_digit exit c.if-exit-lt10.true))

pub returns-then-exit-lt20 : goal.returns-then-exit-lt20
returns-then-exit-lt20 c =
    let exit = c.args.exit in
    ended c.args.text.now.items c.push_bytes-then-exit-lt20.new.text.items _ (codes " out ") (49 ∷ (38 + exit) ∷ 10 ∷ []) exit c.push_bytes-then-exit-lt20-2.ensures.text c.push_bytes-then-exit-lt20.ensures.text (spelled exit (49 ∷ (38 + exit) ∷ []) (two_digits exit (omega (arith, c.if-exit-lt10.false)) c.if-exit-lt20.true))
