use Rattle.std.proofs.Common.{◌+◌, ◌≤◌, ◌^◌, List, sym, subst, length}
use Rattle.epoch_core.specs.Log.{OnPort, on_port}
use Rattle.switch_core.specs.Steps.{all_pushed, begun}
use Rattle.switch_core.specs.Stands.{Done}
use Rattle.switch_core.proofs.JoinLemmas.{begun_stands, sends_of}
use Rattle.switch_core.proofs.SoundLemmas.{numbers_of_joins}
use Rattle.switch_core.proofs.control.Control.join.Goals as goal

pub push_all-requires : goal.push_all-requires
push_all-requires c =
    let s = c.requires.switch in
    let sends = sends_of c.args.self.now s c.args.epoch c.good_links-links.result c.new-sends.result c.join.new.sends c.requires.stands c.good_links-links.ensures c.new-sends.ensures c.in_ok-core.ensures.sends in
    record {
      switch = begun c.args.epoch s;
      stands = begun_stands c.args.self.now s c.args.epoch c.in_ok-core.core c.good_links-links.result c.new.result c.finish.result c.is_some-self.result
          c.requires.stands c.good_links-links.ensures c.in_ok-core.ensures.card c.in_ok-core.ensures.stands c.new.ensures c.finish.ensures c.is_some-self.ensures;
      numbers = λ q. subst (λ (xs : List OnPort). length ((begun c.args.epoch s).sendings q).pushed + length (on_port q xs) ≤ 2 ^ 31) (sym sends) (numbers_of_joins c.args.epoch s q);
    }

pub returns : goal.returns
returns c s stands =
    let begun_is = begun_stands c.args.self.now s c.args.epoch c.in_ok-core.core c.good_links-links.result c.new.result c.finish.result c.is_some-self.result
    stands c.good_links-links.ensures c.in_ok-core.ensures.card c.in_ok-core.ensures.stands c.new.ensures c.finish.ensures c.is_some-self.ensures in
    let sends = sends_of c.args.self.now s c.args.epoch c.good_links-links.result c.new-sends.result c.join.new.sends stands c.good_links-links.ensures c.new-sends.ensures c.in_ok-core.ensures.sends in
    subst (λ xs. Done c.push_all.new.self c.args.out.now c.push_all.new.out (all_pushed xs (begun c.args.epoch s))) sends (c.in_ok-push_all.ensures (begun c.args.epoch s) begun_is)
