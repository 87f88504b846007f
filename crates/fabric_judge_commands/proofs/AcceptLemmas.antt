-- What `ranks` writes is accepted by `verify`.
use Rattle.std.proofs.Common.{◌≡◌, ◌∙◌, ap, subst, ℕ, List, Option, None, inl, inr}
use Rattle.std.specs.Option.{option_map}
use Rattle.fabric_tables.specs.Cells.{tables_of}
use Rattle.fabric_model.specs.Fabric.{FabricOf}
use Rattle.fabric_model.specs.declared.traffic.Traffic.{Traffic}
use Rattle.fabric_read_tables.specs.declared.reader.Tables.{Tables}
use Rattle.fabric_verdict.specs.declared.verify.Rise.{Rise}
use Rattle.fabric_verdict.specs.Verified.{Fall}
use Rattle.fabric_verdict.proofs.RankLemmas.{none_rises}
use Rattle.fabric_read_ranks.proofs.RankLemmas.{one_list, text_or}
use Rattle.fabric_print.specs.Ranks.{verified_text}
use Rattle.fabric_call.specs.declared.status.Status.{Status}
use Rattle.fabric_judge_commands.specs.Certified.{AreRanksVerified, IsEndBy, TellsRanks, risen_of}
use Rattle.fabric_judge_commands.specs.Words.{traffic_word}

pub accepted : (traffic : Traffic) (text : List ℕ) (fabric : FabricOf) (found : Tables) (status again : Status) (written answer : List ℕ) → TellsRanks fabric (tables_of found.cells) traffic status written → AreRanksVerified traffic written text fabric found again answer → IsEndBy fabric (tables_of found.cells) traffic None again × (answer ≡ verified_text (traffic_word traffic) None)
accepted traffic text fabric found status again written answer tells is = elim is [
  | inl judged ↦
      let tables = tables_of found.cells in
      let same : tells.told ≡ judged.ranks = one_list fabric written tells.told judged.ranks tells.reads judged.told in
      let none : judged.found.rise ≡ None = none_rises fabric (tables_of found.cells) traffic judged.ranks judged.found.rise (subst (λ (ranks : List ℕ). Fall fabric (tables_of found.cells) traffic ranks) same tells.falls) judged.verified.rise in (
        subst (λ (rise : Option Rise). IsEndBy fabric (tables_of found.cells) traffic rise again) none judged.ends,
        judged.says
            ∙ ap (λ (rise : Option Rise). verified_text (traffic_word traffic) (option_map (risen_of fabric) rise)) none,
      )
  | inr refused ↦ absurd (text_or fabric written tells.told refused.line refused.cause tells.reads refused.fault)
]
