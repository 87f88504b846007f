use Rattle.std.proofs.Common.{◌≡◌, ◌∙◌, sym, ap}
use Rattle.std.specs.declared.cmp.Ordering.{Ordering}
use Rattle.an_base.specs.Values.{LifeId, EntryOf}
use Rattle.an_base.specs.Order.{life_cmp}
use Rattle.topo_report.proofs.LeastLemmas.{takes_only_first, takes_only_second, takes_first, takes_second, takes_both}
use Rattle.topo_report.proofs.report.take_first.Goals as goal

-- how the lives of two entries compare
compared : (a b : EntryOf) (l m : LifeId) (o : Ordering) → l ≡ a.life → m ≡ b.life → o ≡ life_cmp l m → life_cmp a.life b.life ≡ o
compared a b l m o first second is = sym (is ∙ ap (λ (x : LifeId). life_cmp x m) first ∙ ap (life_cmp a.life) second)

pub returns-in-Some-None : goal.returns-in-Some-None
returns-in-Some-None c = takes_only_first _ _ _ _ c.requires.mine c.requires.heard c.in-Some-None.ensures.cases.0 c.in-Some-None.ensures'.cases

pub returns-in-None-Some : goal.returns-in-None-Some
returns-in-None-Some c = takes_only_second _ _ _ _ c.requires.mine c.requires.heard c.in-None-Some.ensures'.cases.0 c.in-None-Some.ensures.cases

pub returns-in-Less : goal.returns-in-Less
returns-in-Less c =
    takes_first _ _ _ _ _ _ c.requires.mine c.requires.heard c.in-Some-Some.ensures.cases.0 c.in-Some-Some.ensures'.cases.0
    (compared c.in-Some-Some.one.now c.in-Some-Some.other.now _ _ _ (ap (λ (e : EntryOf). e.life) c.one.view_is) (ap (λ (e : EntryOf). e.life) c.other.view_is) c.in-Less.ensures)

pub returns-in-Equal : goal.returns-in-Equal
returns-in-Equal c =
    rw c.lesser.ensures (takes_both _ _ _ _ _ _ c.requires.mine c.requires.heard c.in-Some-Some.ensures.cases.0 c.in-Some-Some.ensures'.cases.0
    (compared c.in-Some-Some.one.now c.in-Some-Some.other.now _ _ _ (ap (λ (e : EntryOf). e.life) c.one.view_is) (ap (λ (e : EntryOf). e.life) c.other.view_is) c.in-Equal.ensures))

pub returns-in-Greater : goal.returns-in-Greater
returns-in-Greater c =
    takes_second _ _ _ _ _ _ c.requires.mine c.requires.heard c.in-Some-Some.ensures.cases.0 c.in-Some-Some.ensures'.cases.0
    (compared c.in-Some-Some.one.now c.in-Some-Some.other.now _ _ _ (ap (λ (e : EntryOf). e.life) c.one.view_is) (ap (λ (e : EntryOf). e.life) c.other.view_is) c.in-Greater.ensures)
