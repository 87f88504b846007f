use Rattle.std.proofs.Common.{◌≡◌, ◌∙◌, ◌+◌, ◌++◌, ◌<◌, ap, arith, get_or, length, subst, sym, ℕ, List, true, false}
use Rattle.std.specs.Prelude.{replicate}
use Rattle.std.proofs.lemmas.List.{length-replicate}
use Rattle.table_build.specs.declared.way.Way.{Way}
use Rattle.flow_channels.specs.Exits.{AreSetsBelow}
use Rattle.flow_channels.specs.Sets.{AreSetsOf, AreStarts, all_sets}
use Rattle.flow_channels.proofs.ExitTableLemmas.{first_sets, first_starts, member_more, sets_all}
use Rattle.flow_channels.proofs.exits.ExitTable.of.Goals as goal

pub members-init : goal.members-init
members-init c =
    let starts = c.in_ok-starts.starts.items in
    let sets = c.extend_from_slice.new.self.items in
    let starts_are : starts ≡ replicate 1651 0 = c.in_ok-starts.ensures.items_if_clones_equal (λ y is. is) ∙ ap (λ (n : ℕ). replicate n 0) c.from.ensures in
    let sets_are : sets ≡ replicate 127 0 = c.in_ok-extend_from_slice.ensures.items ∙ ap (λ (xs : List ℕ). xs ++ replicate 127 0) c.in_ok-sets.ensures.items in
    record {
      starts = first_starts starts sets starts_are sets_are;
      below = first_sets starts sets starts_are sets_are c.args.graph.now c.args.numbers.now c.args.any;
      count = ap (λ (xs : List ℕ). length xs) sets_are ∙ length-replicate {A = ℕ} 127 0;
    }

pub members-preserved : goal.members-preserved
members-preserved c =
    let es = c.args.graph.now in
    let numbers = c.args.numbers.now in
    let any = c.args.any in
    let x = c.members.x in
    let starts = c.members.starts.items in
    let sets = c.members.sets.items in
    let ways = c.in_ok-ways.ways.items in
    let above = c.sets_of.result in
    let under = c.sets_of-in-members.result in
    let new = c.write_starts.new.starts.items in
    let now = c.extend_from_slice-in-members-2.new.self.items in
    let first = c.in_ok-extend_from_slice-2.ensures.items in
    let now_is : now ≡ sets ++ above ++ under = c.in_ok-extend_from_slice-3.ensures.items ∙ ap (λ (xs : List ℕ). xs ++ under) first in
    let above_are : AreSetsOf ways true above = subst (λ (ws : List Way). AreSetsOf ws true above) c.deref.ensures.value c.sets_of.ensures in
    let under_are : AreSetsOf ways false under = subst (λ (ws : List Way). AreSetsOf ws false under) c.deref-in-members.ensures.value c.sets_of-in-members.ensures in
    let up_is : c.len-up.result ≡ length sets = omega (arith, c.len-up.ensures, c.members.sets.ok.0) in
    let down_is : c.len-down.result ≡ length (sets ++ above) = omega (arith, c.len-down.ensures, c.extend_from_slice-in-members.new.self.ok.0, ap (λ (xs : List ℕ). length xs) first) in
    let low : x < length es = omega (arith, c.members.auto.x-end, c.members-test.true, c.count-x-end.ensures.count) in
    let at = get_or c.as_slice-named.result.now c.from-in-members.result 0 in
    let at_is = ap (λ (k : ℕ). get_or c.as_slice-named.result.now k 0) c.from-in-members.ensures ∙ ap (λ (ns : List ℕ). get_or ns x 0) c.as_slice-named.ensures.all in
    let is = c.members.invariant in
    let (there, more, longer) = member_more es numbers any c.as_slice-named.ensures.numbers c.requires x at c.len-up.result c.len-down.result ways starts sets above under new low is.starts is.below c.in_ok-ways.ensures.ways above_are under_are at_is up_is down_is c.write_starts.ensures in
    record {
      starts = subst (λ (xs : List ℕ). AreStarts new xs) (sym now_is) there;
      below = subst (λ (xs : List ℕ). AreSetsBelow es numbers any (x + 1) (all_sets new xs)) (sym now_is) more;
      count = omega (arith, ap (λ (xs : List ℕ). length xs) now_is, longer, is.count);
    }

pub returns : goal.returns
returns c = λ rows tables.
    let end = c.members.auto.x-end in
    let past = c.members-test.false in
    let count = c.count-x-end.ensures.count in
    sets_all c.args.graph.now c.args.numbers.now c.args.any c.as_slice-named.ensures.numbers c.requires rows c.count.ensures.graph tables (all_sets c.members.starts.items c.members.sets.items) c.members.x (omega arith) c.members.invariant.below
