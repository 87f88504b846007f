use Rattle.std.proofs.Common.{◌≡◌, ◌∙◌, ap, ℕ, arith, ◌++◌}
use Rattle.std.specs.List.{flat_map, range_with_len}
use Rattle.check_text.specs.Check.{number_ranks, ranks_text}
use Rattle.check_text.proofs.PieceLemmas.{numbers_next}
use Rattle.check_text.proofs.check.Naming.push_ranks.Goals as goal

pub numbers-preserved : goal.numbers-preserved
numbers-preserved c = numbers_next (number_ranks c.args.self.now.script.now c.args.self.now.entries.now c.args.self.now.numbers.now c.args.ranks.now) c.args.text.now.items c.numbers.text.items c.push_ranks_at.new.text.items c.numbers.number c.numbers.invariant c.in_ok-push_ranks_at.ensures

pub returns : goal.returns
unfolding ranks_text
returns c =
    let all : c.numbers.number ≡ 127 = omega arith in
    c.numbers.invariant ∙ ap (λ (n : ℕ). c.args.text.now.items ++ flat_map (number_ranks c.args.self.now.script.now c.args.self.now.entries.now c.args.self.now.numbers.now c.args.ranks.now) (range_with_len 0 n)) all
