use Rattle.std.proofs.Common.{◌∙◌, sym, ap, List, [], ◌∷◌, ◌++◌, ℕ, Option, map}
use Rattle.an_base.specs.declared.body.Body.{Body}
use Rattle.an_base.specs.declared.frame.Frame.TheVariants.{Carry}
use Rattle.ordered_link.specs.Session.{numbered}
use Rattle.switch_core.specs.Steps.{carried_to}
use Rattle.switch_core.specs.Bytes.{all_spelled}
use Rattle.switch_core.proofs.StandsLemmas.{carried_spelled}
use Rattle.switch_core.proofs.control.Control.carry.Goals as goal

pub returns-clause-out : goal.returns-clause-out
returns-clause-out c s stands =
    let there = c.body.ensures s.sendings s.receivings stands.sessions in
    let spelled = c.bytes.ensures.all ∙ c.encode_carry.ensures.spelled
    ∙ carried_spelled c.args.self.now s c.args.port c.args.k c.args.peer c.end_at.result c.body.result.now stands c.end_at.ensures in
    c.in_ok-push.ensures.ok ∙ ap (λ (b : List ℕ). c.args.out.now ++ record { port = c.args.port; bytes = b } ∷ []) spelled
    ∙ ap (λ (o : Option Body). c.args.out.now ++ all_spelled (map (carried_to s c.args.port c.args.peer) (numbered c.args.k o))) (sym there)

pub push-requires : goal.push-requires
push-requires c = record {
  least = c.requires.least;
  most = c.requires.most;
  frame = Carry (record { epoch = c.args.self.now.epoch; from = c.end_at.result; to = c.args.peer; number = c.args.k; body = c.body.result.now });
  is_frame = c.encode_carry.ensures.within;
  spelled = c.bytes.ensures.all ∙ c.encode_carry.ensures.spelled;
}
