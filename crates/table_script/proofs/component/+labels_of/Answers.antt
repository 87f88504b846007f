use Rattle.std.proofs.Common.{◌∙◌, ap}
use Rattle.net_graph.specs.declared.wiring.LinkAt.{LinkAt}
use Rattle.table_script.proofs.LabelLemmas.{labels_kept, labels_start, labels_step}
use Rattle.table_script.proofs.component.+labels_of.Goals as goal

pub returns-in-empty : goal.returns-in-empty
returns-in-empty t c = labels_start (λ v. v.items) c.places.result c.args.count c.args.links.now c.in-empty.len_below c.places.ensures

pub returns-else-from-to : goal.returns-else-from-to
returns-else-from-to t c = labels_step (λ v. v.items) c.relabelled.result c.args.count c.args.links.now c.link-item.result c.in_ok-labels-in-len1-up.labels.items c.deref.result.now c.from.result c.from-in-len1-up.result c.index-from.result.now c.index-to.result.now c.in-len1-up.len_at_least c.requires c.in_ok-labels-in-len1-up.ensures (c.from.ensures ∙ ap (λ (l : LinkAt). l.b) c.link-item.is) (c.from-in-len1-up.ensures ∙ ap (λ (l : LinkAt). l.a) c.link-item.is) c.index-from.ensures c.index-to.ensures c.deref.ensures.value c.relabelled.ensures

pub returns-then-from-to : goal.returns-then-from-to
returns-then-from-to t c = labels_kept c.args.count c.args.links.now c.link-item.result c.in_ok-labels-in-len1-up.labels.items c.from.result c.from-in-len1-up.result c.index-from.result.now c.index-to.result.now c.in-len1-up.len_at_least c.requires c.in_ok-labels-in-len1-up.ensures (c.from.ensures ∙ ap (λ (l : LinkAt). l.b) c.link-item.is) (c.from-in-len1-up.ensures ∙ ap (λ (l : LinkAt). l.a) c.link-item.is) c.index-from.ensures c.index-to.ensures c.if-from-to.true
