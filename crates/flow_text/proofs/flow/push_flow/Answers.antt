use Rattle.std.proofs.Common.{◌≡◌, ◌∙◌, ap, sym, subst, ℕ, List}
use Rattle.std.proofs.lemmas.Result.{on_ok_weaker}
use Rattle.an_base.specs.Values.{EntryOf}
use Rattle.net_script.specs.Scripts.{ScriptOf}
use Rattle.switch_numbering.specs.Numbering.{numbering}
use Rattle.flow_text.specs.FlowRuns.{AreNames}
use Rattle.flow_text.proofs.FlowTurns.{named_all}
use Rattle.flow_text.proofs.flow.push_flow.Goals as goal

-- the names by the numbers of the members
own_names : (script : ScriptOf) (entries graph : List EntryOf) (numbers : List ℕ) (names given : List (List ℕ)) → entries ≡ graph → numbers ≡ numbering graph → given ≡ names → AreNames script entries numbers 256 names → AreNames script graph (numbering graph) 256 given
own_names script entries graph numbers names given all named same are =
    subst (λ (es : List EntryOf). AreNames script es (numbering graph) 256 given) all
    (subst (λ (ns : List ℕ). AreNames script entries ns 256 given) named
    (subst (λ (all : List (List ℕ)). AreNames script entries numbers 256 all) (sym same) are))

pub names_of-requires : goal.names_of-requires
names_of-requires g c = named_all c.as_slice-entries.result.now c.as_slice.result.now (c.as_slice.ensures.all ∙ c.requires.0 ∙ ap numbering (sym (c.as_slice-entries.ensures.all ∙ c.entries.ensures.all)))

pub push_turns-requires : goal.push_turns-requires
push_turns-requires g c =
    let (numbered, (ranked, few)) = c.requires in
    let script = c.args.script.now in
    let graph = c.args.graph.now in
    let named = own_names script c.as_slice-entries.result.now graph c.as_slice.result.now c.in_ok-names.names.items c.deref.result.now
    (c.as_slice-entries.ensures.all ∙ c.entries.ensures.all) (c.as_slice.ensures.all ∙ numbered) c.deref.ensures.value c.in_ok-names.ensures in
    (ranked, ((script, graph, named), few))

pub returns-clause-told : goal.returns-clause-told
returns-clause-told g c =
    let (numbered, (ranked, few)) = c.requires in
    let script = c.args.script.now in
    let graph = c.args.graph.now in
    let named = own_names script c.as_slice-entries.result.now graph c.as_slice.result.now c.in_ok-names.names.items c.deref.result.now
    (c.as_slice-entries.ensures.all ∙ c.entries.ensures.all) (c.as_slice.ensures.all ∙ numbered) c.deref.ensures.value c.in_ok-names.ensures in
    on_ok_weaker c.push_turns.result (λ told. λ layout over. told layout script graph over named) c.push_turns.ensures.told
