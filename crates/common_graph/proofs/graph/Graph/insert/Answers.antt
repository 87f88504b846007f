use Rattle.std.proofs.Common.{◌≡◌, ◌<◌, ◌+◌, ◌*◌, ◌/◌, ◌%◌, ◌^◌, ◌⊎◌, ◌↔◌, inl, inr, ℕ, sym, ap, subst, arith, length, get_or, set, ◌∙◌}
use Rattle.std.specs.Int.RustNames.{bit_or}
use Rattle.std.proofs.lemmas.List.{get_or_default}
use Rattle.std.proofs.lemmas.List.{length-set}
use Rattle.common_graph.specs.Graph.{GraphOf, LeadsTo}
use Rattle.common_graph.proofs.InsertLemmas.{inserted, row_place}
use Rattle.common_graph.proofs.graph.Graph.insert.Goals as goal

pub returns-clause-leads : goal.returns-clause-leads
returns-clause-leads c =
    let e = c.self.view_is in
    let old = c.self.inside.words.items in
    let place : ℕ = c.args.node * c.self.inside.wide + c.args.offset / 64 in
    let low : c.args.node < length c.self.inside.bases.items = subst (λ (g : GraphOf). c.args.node < length g.bases) (sym e) c.requires.node in
    let fits : c.args.offset < 64 * c.self.inside.wide = subst (λ (g : GraphOf). c.args.offset < 64 * g.wide) (sym e) c.requires.offset in
    let count = c.self.invariant.0 in
    let room : c.args.node * c.self.inside.wide + c.args.offset / 64 < length c.self.inside.words.items = subst (λ (n : ℕ). c.args.node * c.self.inside.wide + c.args.offset / 64 < n) (sym count) (row_place c.args.node (length c.self.inside.bases.items) c.self.inside.wide (c.args.offset / 64) low (omega arith)) in
    subst (λ (g : GraphOf). (one other : ℕ) → (LeadsTo (record { wide = c.self.inside.wide; bases = c.self.inside.bases.items; words = set c.self.inside.words.items (c.args.node * c.self.inside.wide + c.args.offset / 64) (bit_or c.index-word.result.now (1 * 2 ^ (c.args.offset % 64) % 2 ^ 64)) }) one other ↔ (LeadsTo g one other ⊎ ((one ≡ c.args.node) × (other ≡ get_or g.bases c.args.node 0 + c.args.offset))))) e
    (inserted c.self.inside.wide c.self.inside.bases.items c.self.inside.words.items (set c.self.inside.words.items (c.args.node * c.self.inside.wide + c.args.offset / 64) (bit_or c.index-word.result.now (1 * 2 ^ (c.args.offset % 64) % 2 ^ 64))) c.args.node c.args.offset low fits room (ap (λ (n : ℕ). set c.self.inside.words.items (c.args.node * c.self.inside.wide + c.args.offset / 64) (bit_or n (1 * 2 ^ (c.args.offset % 64) % 2 ^ 64))) (c.index-word.ensures ∙ get_or_default c.self.inside.words.items (c.args.node * c.self.inside.wide + c.args.offset / 64) c.index-word.result.now 0 room)))

pub invariant_of-self : goal.invariant_of-self
invariant_of-self c =
    let e = c.self.view_is in
    let i = c.self.invariant in
    let leads = returns-clause-leads c in (
      length-set c.self.inside.words.items (c.args.node * c.self.inside.wide + c.args.offset / 64) (bit_or c.index-word.result.now (1 * 2 ^ (c.args.offset % 64) % 2 ^ 64)) ∙ i.0,
      i.1,
      i.2,
      λ node next step. elim ((leads node next).0 step) [
        | inl old ↦ i.3 node next (subst (λ (g : GraphOf). LeadsTo g node next) (sym e) old)
        | inr (_, is) ↦ (let low : get_or c.self.inside.bases.items c.args.node 0 + c.args.offset < length c.self.inside.bases.items = subst (λ (g : GraphOf). get_or g.bases c.args.node 0 + c.args.offset < length g.bases) (sym e) c.requires.within in let at : next ≡ get_or c.self.inside.bases.items c.args.node 0 + c.args.offset = is ∙ ap (λ (g : GraphOf). get_or g.bases c.args.node 0 + c.args.offset) (sym e) in omega arith)
      ],
    )
