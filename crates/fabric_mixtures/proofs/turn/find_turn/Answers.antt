use Rattle.std.proofs.Common.{subst, ℕ, inl, inr, arith}
use Rattle.std.proofs.lemmas.Bool.{cases_eq, cases_lt}
use Rattle.fabric_tables.specs.Cells.{tables_of}
use Rattle.fabric_routes.specs.Found.{channel_of}
use Rattle.fabric_mixtures.specs.Mixtures.{MayTakeBoth}
use Rattle.fabric_mixtures.proofs.TurnLemmas.{lid_low}
use Rattle.fabric_mixtures.proofs.turn.find_turn.Goals as goal

pub returns-in-Some : goal.returns-in-Some
returns-in-Some c = record {
  turns = c.in-Some.ensures.turn;
  least = λ lid may. elim (cases_lt lid c.in-Some.turn.lid) [
    | inl less ↦ absurd (c.lids.invariant lid (let same = c.in-Some.ensures.lid in omega arith) may)
    | inr more ↦ more
  ];
}

pub lids-preserved : goal.lids-preserved
lids-preserved c lid less may = elim (cases_eq lid c.lids.lid) [
  | inl same ↦ c.in_default.ensures.turn (subst (λ (n : ℕ). MayTakeBoth c.args.fabric.now (tables_of c.args.old.now) (tables_of c.args.new.now) n (channel_of c.args.channel) (channel_of c.args.next)) same may)
  | inr away ↦ c.lids.invariant lid (omega arith) may
]

pub returns : goal.returns
returns c (lid, may) = c.lids.invariant lid (lid_low c.args.fabric.now (tables_of c.args.old.now) (tables_of c.args.new.now) c.lids.lid (λ switch to over. c.lids_of-lid-end.ensures.past switch to (let past = c.lids-test.false in omega arith)) lid c.args.channel.switch c.args.channel.port c.args.next.switch may.first) may
