use Rattle.std.proofs.Common.{◌≡◌, ◌∙◌, ap, sym, subst, inl, inr, ℕ, List}
use Rattle.std.proofs.lemmas.Result.{IfOk-weaker}
use Rattle.common_lines.specs.declared.stop.Refusal.{Refusal}
use Rattle.common_lines.specs.Stops.{IsRefusalBy}
use Rattle.fabric_tables.specs.Cells.{tables_of}
use Rattle.fabric_model.specs.declared.traffic.Traffic.{Traffic}
use Rattle.fabric_words.specs.declared.ranks_cause.RanksCause.{RanksCause}
use Rattle.fabric_read_ranks.specs.Ranks.{IsRanksFault, IsRanksText}
use Rattle.fabric_call.specs.declared.command.Given.{Given}
use Rattle.fabric_judge_commands.specs.Certified.{AreRanksJudged, AreRanksVerified}
use Rattle.fabric_judge_commands.specs.Verifying.{AskedOf}
use Rattle.fabric_judge_commands.proofs.verify.VerifyCommand.given.Goals as goal

pub returns-in-Ok-clause-given : goal.returns-in-Ok-clause-given
returns-in-Ok-clause-given c =
    let asked = c.args.self.now in
    let topology = c.args.topology.now in
    let tables = c.args.tables.now in
    let traffic : c.self.inside.traffic ≡ c.args.self.now.traffic = ap (λ (v : AskedOf). v.traffic) c.self.view_is in
    let bytes : c.self.inside.ranks.items ≡ c.args.self.now.bytes = ap (λ (v : AskedOf). v.bytes) c.self.view_is in
    let listed = subst (λ (ranks : List ℕ). IsRanksText topology.fabric c.deref.result.now ranks) (sym c.deref-in-Ok.ensures.value) c.in-Ok.ensures.text in
    let text = subst (λ (b : List ℕ). IsRanksText topology.fabric b c.deref-in-Ok.result.now) (c.deref.ensures.value ∙ bytes) listed in
    IfOk-weaker c.given_verified.result
    (λ (given : Given). AreRanksJudged c.self.inside.traffic asked.bytes topology.fabric (tables_of tables.cells) given.status given.text.items)
    (λ (given : Given). AreRanksVerified asked.traffic asked.bytes topology.text.items topology.fabric tables given.status given.text.items)
    (λ given is. inl (subst (λ (t : Traffic). AreRanksJudged t asked.bytes topology.fabric (tables_of tables.cells) given.status given.text.items) traffic is))
    (c.given_verified.ensures.given asked.bytes text)

pub returns-in-Err-Fault-clause-given : goal.returns-in-Err-Fault-clause-given
returns-in-Err-Fault-clause-given c =
    let fabric = c.args.topology.now.fabric in
    let bytes : c.self.inside.ranks.items ≡ c.args.self.now.bytes = ap (λ (v : AskedOf). v.bytes) c.self.view_is in
    let refused = subst (λ (r : Refusal RanksCause). IsRefusalBy (IsRanksFault fabric c.deref.result.now) r) c.in-Err-Fault.field-0-is c.in-Err-Fault.ensures.fault in
    inr (record {
      line = c.in-Err-Fault.line;
      cause = c.in-Err-Fault.cause;
      fault = subst (λ (b : List ℕ). IsRanksFault fabric b c.in-Err-Fault.line c.in-Err-Fault.cause) (c.deref.ensures.value ∙ bytes) refused;
      status_is = cc (c.in-Err-Fault.line-is, c.in-Err-Fault.cause-is);
      nothing = c.new.ensures.items;
    })
