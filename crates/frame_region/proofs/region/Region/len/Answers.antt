use Rattle.std.proofs.Common.{◌∙◌, sym, arith}
use Rattle.std.proofs.lemmas.Grind.{get_or_default_zero}
use Rattle.frame_region.proofs.ShownLemmas.{under}
use Rattle.frame_region.proofs.region.Region.len.Goals as goal

pub index-requires : goal.index-requires
index-requires c = let u = under _ _ _ _ _ _ _ _ _ c.self.invariant.0 c.self.view_is c.slip.view_is c.requires in omega (arith, u.below)

pub returns-clause-len : goal.returns-clause-len
returns-clause-len c =
    let u = under _ _ _ _ _ _ _ _ _ c.self.invariant.0 c.self.view_is c.slip.view_is c.requires in
    c.from.ensures ∙ c.index.ensures ∙ get_or_default_zero _ _ _ u.below ∙ sym u.len

pub returns-clause-least : goal.returns-clause-least
returns-clause-least c =
    let u = under _ _ _ _ _ _ _ _ _ c.self.invariant.0 c.self.view_is c.slip.view_is c.requires in
    omega (arith, u.some, c.from.ensures, c.index.ensures, get_or_default_zero c.self.inside.lens.items c.slip.inside.first c.index.result.now u.below)

pub returns-clause-most : goal.returns-clause-most
returns-clause-most c =
    let u = under _ _ _ _ _ _ _ _ _ c.self.invariant.0 c.self.view_is c.slip.view_is c.requires in
    omega (arith, c.self.invariant.0.short c.slip.inside.first, c.from.ensures, c.index.ensures, get_or_default_zero c.self.inside.lens.items c.slip.inside.first c.index.result.now u.below)
