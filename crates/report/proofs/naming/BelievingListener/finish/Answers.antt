use Rattle.std.proofs.Common.{◌∙◌, ◌++◌, ap, List, ℕ, arith}
use Rattle.std.proofs.lemmas.Result.{on_ok_weaker}
use Rattle.common_lines.specs.Lines.{line_text}
use Rattle.report.proofs.RememberingLemmas.{counts_are, kept_few}
use Rattle.report.proofs.naming.BelievingListener.finish.Goals as goal

pub overflow_sub-broadcast : goal.overflow_sub-broadcast
overflow_sub-broadcast c =
    let net = c.args._net.now in
    let self = c.args.self.now in
    let few = kept_few net.script net.events self.script.now self.packets.items self.caches.items self.known c.requires.stands in
    omega arith

pub returns : goal.returns
returns c =
    let net = c.args._net.now in
    let self = c.args.self.now in
    let are = counts_are net.script net.events self.script.now self.packets.items self.caches.items self.known _ _ c.requires.stands (omega arith) (omega arith) in
    on_ok_weaker c.push_counts.result (λ is. is ∙ ap (λ (words : List (List ℕ)). c.args.text.now.items ++ line_text words) are) c.push_counts.ensures
