use Rattle.std.proofs.Common.{◌∙◌, ap, arith, get_or, length, ℕ, List, Option, None}
use Rattle.std.specs.Prelude.{unwrap_or}
use Rattle.fabric_read_ranks.proofs.RankLemmas.{ranks_more}
use Rattle.fabric_read_ranks.proofs.reading.Reading.ranks.Goals as goal

pub channels-preserved : goal.channels-preserved
channels-preserved c =
    let same = c.as_slice-rank-items.ensures.value in
    ranks_more c.args.self.now.ranks.items c.channels.rank-index None c.unwrap_or.result c.channels.ranks.items c.push.new.self.items (omega (arith, ap length same))
    (c.unwrap_or.ensures ∙ ap (λ (l : List (Option ℕ)). unwrap_or (get_or l c.channels.rank-index None) 0) same) c.channels.invariant c.in_ok-push.ensures.items
