use Rattle.std.proofs.Common.{◌∙◌, ap, ℕ, ◌++◌}
use Rattle.std.specs.Fmt.{decimal}
use Rattle.check_text.specs.Check.{refusal_line}
use Rattle.check_text.proofs.PieceLemmas.{seven_pieces}
use Rattle.check_text.proofs.check.Naming.push_illegal.Goals as goal

pub returns : goal.returns
unfolding refusal_line
returns c =
    let to = c.in_ok-push_decimal.ensures.ok ∙ ap (λ (n : ℕ). c.extend_from_slice-2.new.self.items ++ decimal n) c.from.ensures in
    let exit = c.in_ok-push_decimal-2.ensures.ok ∙ ap (λ (n : ℕ). c.extend_from_slice-3.new.self.items ++ decimal n) c.from-2.ensures in
    seven_pieces _ _ _ _ _ _ _ _ _ _ _ _ _ _ _ c.in_ok-extend_from_slice.ensures.items c.in_ok-push_entry.ensures c.in_ok-extend_from_slice-2.ensures.items to c.in_ok-extend_from_slice-3.ensures.items exit c.in_ok-extend_from_slice-4.ensures.items
