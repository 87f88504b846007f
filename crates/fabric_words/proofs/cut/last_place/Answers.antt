use Rattle.std.proofs.Common.{◌∙◌, ◌-◌, arith, sym, true≢false}
use Rattle.fabric_words.proofs.CutLemmas.{from_there, nowhere_more, to_there}
use Rattle.fabric_words.proofs.cut.last_place.Goals as goal

pub places-preserved : goal.places-preserved
places-preserved c = record {
  within = omega arith;
  past = nowhere_more c.args.text.now c.args.bytes.now c.places.end (omega arith)
      (λ is. true≢false (sym (c.is_prefix.ensures.1 (to_there c.args.text.now c.args.bytes.now (c.places.end - 1) is)) ∙ c.if-is_prefix.false)) c.places.invariant.past;
}

pub returns-then-is_prefix : goal.returns-then-is_prefix
returns-then-is_prefix c = (
  record {
    low = omega arith;
    high = omega arith;
    after = λ k low high. c.places.invariant.past k (omega arith) high;
  },
  from_there c.args.text.now c.args.bytes.now (c.places.end - 1) (omega arith) (c.is_prefix.ensures.0 c.if-is_prefix.true),
)

pub returns : goal.returns
returns c = λ k low high. c.places.invariant.past k (omega arith) high
