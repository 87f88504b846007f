use Rattle.std.proofs.Common.{◌≡◌, ◌≤◌, ◌-◌, ◌+◌, ◌*◌, ◌/◌, ◌%◌, ◌∙◌, ℕ, sym, ap, subst, arith}
use Rattle.std.specs.Prelude.{slice_index}
use Rattle.common_graph.specs.Graph.{word_at}
use Rattle.common_graph.specs.Rows.{IsMasked, StandsAt}
use Rattle.common_graph.proofs.CursorLemmas.{at_end, begins, none_after, none_beyond}
use Rattle.common_graph.proofs.graph.Graph.cursor.Goals as goal

pub returns-then-node-count-clause-stands : goal.returns-then-node-count-clause-stands
returns-then-node-count-clause-stands c =
    let count = c.count.ensures.count in
    let few = c.count.ensures.few in
    let high = c.if-node-count.true in
    rw c.end.ensures.end (at_end c.args.self.now c.args.node c.args.from c.count.ensures.within (omega arith) c.end.ensures.few (none_beyond c.args.self.now c.args.node c.args.from (omega arith)))

pub returns-then-part-wide-clause-stands : goal.returns-then-part-wide-clause-stands
returns-then-part-wide-clause-stands c =
    let graph = c.args.self.now in
    let count = c.count.ensures.count in
    let few = c.count.ensures.few in
    let wide = c.wide.ensures.wide in
    let offset = c.saturating_sub-offset.ensures in
    let base = c.base-base.ensures.base in
    let far = c.if-part-wide.true in
    let away : c.saturating_sub-offset.result ≡ c.args.from - slice_index graph.bases c.args.node = omega arith in
    let high : graph.wide ≤ (c.args.from - slice_index graph.bases c.args.node) / 64 = omega arith in
    rw c.end-then-part-wide.ensures.end (at_end graph c.args.node c.args.from c.count.ensures.within (omega arith) c.end-then-part-wide.ensures.few (none_after graph c.args.node c.args.from high))

pub returns-clause-stands : goal.returns-clause-stands
returns-clause-stands c =
    let graph = c.args.self.now in
    let node = c.args.node in
    let count = c.count.ensures.count in
    let few = c.count.ensures.few in
    let wide = c.wide.ensures.wide in
    let most = c.wide.ensures.most in
    let near = c.if-part-wide.false in
    let low = c.if-node-count.false in
    let base = c.base-base.ensures.base in
    let small = c.base-base.ensures.most in
    let offset = c.saturating_sub-offset.ensures in
    let away : c.args.from - slice_index graph.bases node ≡ c.saturating_sub-offset.result = omega arith in
    let mask : IsMasked c.word.result ((c.args.from - slice_index graph.bases node) % 64) c.bits_from.result = subst (λ (x : ℕ). IsMasked c.word.result (x % 64) c.bits_from.result) (sym away) c.bits_from.ensures in
    let at : c.word.result ≡ word_at graph node ((c.args.from - slice_index graph.bases node) / 64) = c.word.ensures ∙ ap (λ (x : ℕ). word_at graph node (x / 64)) (sym away) in
    let stands = begins graph node c.args.from c.word.result c.bits_from.result c.count.ensures.within (omega arith) (omega arith) (omega arith) (omega arith) (omega arith) at (let fits = c.word.type_inv in omega arith) mask in
    rw base (subst (λ (x : ℕ). StandsAt graph node (record { from = c.args.from; part = x / 64; first = slice_index graph.bases node + 64 * (x / 64); rest = c.bits_from.result })) away stands)
