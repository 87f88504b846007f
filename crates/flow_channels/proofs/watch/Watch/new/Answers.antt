use Rattle.std.proofs.Common.{sym, subst, ℕ, List}
use Rattle.flow_channels.specs.Flows.{empty_flow, FlowOf}
use Rattle.flow_channels.specs.Watch.{AreArriving, AreAwake}
use Rattle.flow_channels.proofs.WatchLemmas.{nobody_awake, nothing_arrives}
use Rattle.flow_channels.proofs.watch.Watch.new.Goals as goal

pub returns : goal.returns
returns c =
    let t = c.args.tables.now in
    record {
      arriving = subst (λ (f : FlowOf). AreArriving t f c.new.result) (sym c.requires.empty) (
          subst (λ (sets : List ℕ). AreArriving t empty_flow sets) (sym c.new.ensures) (nothing_arrives t));
      free = c.in_ok-all_free.ensures;
      awake = subst (λ (f : FlowOf). AreAwake t f c.new-2.result) (sym c.requires.empty) (
          subst (λ (sets : List ℕ). AreAwake t empty_flow sets) (sym c.new-2.ensures) (nobody_awake t));
    }
