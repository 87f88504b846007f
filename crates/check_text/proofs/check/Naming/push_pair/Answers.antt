use Rattle.check_text.specs.Check.{refusal_line}
use Rattle.check_text.proofs.PieceLemmas.{seven_pieces}
use Rattle.check_text.proofs.check.Naming.push_pair.Goals as goal

pub returns : goal.returns
unfolding refusal_line
returns c = seven_pieces _ _ _ _ _ _ _ _ _ _ _ _ _ _ _ c.in_ok-extend_from_slice.ensures.items c.in_ok-push.ensures c.in_ok-extend_from_slice-2.ensures.items c.in_ok-push-2.ensures c.in_ok-extend_from_slice-3.ensures.items c.in_ok-push_entry.ensures c.in_ok-extend_from_slice-4.ensures.items
