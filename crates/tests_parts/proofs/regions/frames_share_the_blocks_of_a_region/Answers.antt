use Rattle.std.proofs.Common.{◌≡◌, ◌≢◌, ◌∙◌, ◌<◌, ap, length, List, None, refl, sym, subst, ℕ}
use Rattle.std.specs.Option.{IsSome}
use Rattle.std.proofs.lemmas.Option.{none-some}
use Rattle.frame_region.specs.Regions.{RegionOf, held_at, with_put}
use Rattle.frame_region.proofs.SlipLemmas.{put_held, put_others}
use Rattle.tests_parts.proofs.regions.frames_share_the_blocks_of_a_region.Goals as goal

-- bytes that are put leave those before them
kept : (r : RegionOf) (first second : ℕ) (one two : List ℕ) → first < length r.held → held_at (with_put first one r) second ≡ None → IsSome (held_at (with_put second two (with_put first one r)) first)
kept r first second one two low none =
    let here = put_held r first one low in
    let other : first ≢ second = λ same. none-some one (sym none ∙ ap (held_at (with_put first one r)) (sym same) ∙ here) in
    rw (put_others (with_put first one r) second first two other ∙ here) refl

pub take-requires : goal.take-requires
take-requires e c =
    let first = c.in_ok-first.first in
    let second = c.in_ok-_second._second in
    let begun = c.refuses.ensures ∙ c.in_ok-first.ensures.put in
    let whole = c.refuses-2.ensures ∙ c.in_ok-_second.ensures.put ∙ ap (with_put second _) begun in
    let none = subst (λ (q : RegionOf). held_at q second ≡ None) begun c.in_ok-_second.ensures.new.1 in
    subst (λ (q : RegionOf). IsSome (held_at q first)) (sym whole) (kept c.in_ok-region.region first second _ _ c.in_ok-first.ensures.new.0 none)
