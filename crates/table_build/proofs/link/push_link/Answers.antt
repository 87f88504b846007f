use Rattle.std.proofs.Common.{◌∙◌, sym, true, false}
use Rattle.table_build.proofs.LinkLemmas.{differs, those_more, those_none, those_same}
use Rattle.table_build.proofs.link.push_link.Goals as goal

pub returns-in_default : goal.returns-in_default
returns-in_default c =
    let es = c.args.graph.now in
    let none = sym c.far_place.ensures.far ∙ c.in_default.is in
    record {
      lower = those_none es c.args.y c.args.port true c.args.links.now.lower.items c.requires.below.lower none;
      upper = those_none es c.args.y c.args.port false c.args.links.now.upper.items c.requires.below.upper none;
    }

pub returns-then-is_up_end : goal.returns-then-is_up_end
returns-then-is_up_end c =
    let es = c.args.graph.now in
    let e = sym c.in-Some.ensures.far in
    let up = sym c.is_up_end.ensures ∙ c.if-is_up_end.true in
    record {
      lower = rw c.in_ok-push.ensures.items (those_more es c.args.y c.args.port c.in-Some.place c.in-Some.by true c.args.links.now.lower.items c.requires.below.lower e up);
      upper = those_same es c.args.y c.args.port false c.args.links.now.upper.items c.requires.below.upper (differs es c.args.y c.args.port c.in-Some.place c.in-Some.by true false e up (λ is. absurd (cc)));
    }

pub returns : goal.returns
returns c =
    let es = c.args.graph.now in
    let e = sym c.in-Some.ensures.far in
    let down = sym c.is_up_end.ensures ∙ c.if-is_up_end.false in
    record {
      lower = those_same es c.args.y c.args.port true c.args.links.now.lower.items c.requires.below.lower (differs es c.args.y c.args.port c.in-Some.place c.in-Some.by false true e down (λ is. absurd (cc)));
      upper = rw c.in_ok-push-2.ensures.items (those_more es c.args.y c.args.port c.in-Some.place c.in-Some.by false c.args.links.now.upper.items c.requires.below.upper e down);
    }
