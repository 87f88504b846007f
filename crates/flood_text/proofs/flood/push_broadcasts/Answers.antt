use Rattle.std.proofs.Common.{◌≡◌, ◌<◌, ◌∙◌, ◌++◌, ◌∷◌, [], arith, ap, subst, length, ℕ, List}
use Rattle.std.proofs.lemmas.List.{take_all}
use Rattle.an_base.specs.Values.{EntryOf}
use Rattle.flood_text.specs.Floods.{AreFloods, lines_told, member_lines}
use Rattle.flood_text.proofs.FloodLemmas.{broadcast_at, floods_more, floods_told}
use Rattle.flood_text.proofs.flood.push_broadcasts.Goals as goal

pub members-preserved : goal.members-preserved
members-preserved c =
    let i = c.members.invariant in
    let entries = c.args.component.now in
    let slice = c.as_slice-entry-items in
    let entry = c.entry-item.result in
    let hops = c.in_ok-hops.hops.items in
    let at = c.members.entry-index in
    let low : at < length slice.result.now = omega arith in
    let from : c.entry.inside.life ≡ entry.life = ap (λ (e : EntryOf). e.life) c.entry.view_is in
    let is = broadcast_at entries c.args.flood.now slice.result.now at entry c.entry.inside.life hops slice.ensures.all c.requires low c.entry-item.is from c.in_ok-hops.ensures in
    let told = floods_told c.args.lives.now.script.now entries slice.result.now (length entries) c.len-members.result at i.0 entry c.entry.inside.life hops c.deref.result.now c.args.text.now.items c.members.text.items c.push_flood.new.text.items slice.ensures.all c.len-members.ensures c.deref.ensures.value low c.entry-item.is from i.1.count i.2 c.in_ok-push_flood.ensures in
    (i.0 ++ hops ∷ [], floods_more entries at i.0 hops i.1 is, told)

pub returns : goal.returns
returns c =
    let i = c.members.invariant in
    let entries = c.args.component.now in
    let at = c.members.entry-index in
    let count = ap (λ (es : List EntryOf). length es) c.as_slice-entry-items.ensures.all in
    let end : at ≡ length entries = omega (arith, count, c.members-test.false, c.members.auto.entry-index-end) in
    let all = take_all at entries (omega (arith, end)) in
    (i.0, subst (λ (n : ℕ). AreFloods entries n i.0) end i.1, i.2 ∙ ap (λ (es : List EntryOf). c.args.text.now.items ++ lines_told c.args.lives.now.script.now (member_lines (length entries) es i.0)) all)
