use Rattle.std.proofs.Common.{◌∙◌, ℕ, ap}
use Rattle.std.specs.Int.{bit_at}
use Rattle.fabric_lane_counts.proofs.GoneLemmas.{no_common}
use Rattle.fabric_lane_counts.proofs.ends.Ends.all_arrive.Goals as goal

pub returns-in-Arrives : goal.returns-in-Arrives
returns-in-Arrives c = (c.in-Arrives.is, λ level one other. no_common c.from.result c.args.self.gone level c.if-from-self-ne0.false (ap (λ (n : ℕ). bit_at n level) c.from.ensures ∙ one) other)
