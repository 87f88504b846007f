-- What each command gives for the text of a topology, its fabric and tables.

use Rattle.std.specs.Prelude.{ℕ, List}
use Rattle.fabric_model.specs.declared.traffic.Traffic.{Traffic}
use Rattle.fabric_call.specs.Answer.{Gives}
use Rattle.fabric_judge_commands.specs.Certified.{AreRanksTold, AreRanksVerified}
use Rattle.fabric_judge_commands.specs.Drawn.{IsDrawn}
use Rattle.fabric_judge_commands.specs.Judged.{IsJudged}

-- `judge` gives the verdict on the routes of a traffic, `ranks` the ranks, `verify` whether the ranks in some
-- bytes fall, and `dot` a picture
abbrev pub gives_judged : Traffic → Gives
gives_judged traffic text fabric found status written = IsJudged traffic text fabric found status written

abbrev pub gives_ranks : Traffic → Gives
gives_ranks traffic text fabric found status written = AreRanksTold traffic text fabric found status written

abbrev pub gives_verified : Traffic → List ℕ → Gives
gives_verified traffic bytes text fabric found status written =
    AreRanksVerified traffic bytes text fabric found status written

abbrev pub gives_drawn : Traffic → Gives
gives_drawn traffic text fabric found status written = IsDrawn traffic text fabric found status written
