use Rattle.std.proofs.Common.{◌≡◌, ◌∙◌, ◌++◌, ◌∷◌, [], ap, sym, subst, arith, List, length, get_or, inl, inr, ℕ, ◌/◌, ◌%◌, ◌<◌}
use Rattle.std.proofs.Math.Seq.{get_or-append_seam}
use Rattle.std.proofs.lemmas.Bool.{cases_eq}
use Rattle.std.proofs.lemmas.List.{get_or_append_left}
use Rattle.fabric_lane_tables.specs.PathLevels.{wide_place}
use Rattle.fabric_lane_tables.proofs.WideLemmas.{spot_of}
use Rattle.fabric_lane_tables.proofs.levels.widened.Goals as goal

pub place_in-requires : goal.place_in-requires
place_in-requires c low =
    let spot = spot_of c.args.rows c.args.old c.args.new c.places.index c.places-test.true low in
    omega (arith, spot, c.requires.size)

pub places-preserved : goal.places-preserved
places-preserved c =
    let places = c.args.places.now in
    let wide = c.places.wide.items in
    let at = c.places.index in
    let one = c.place_in.result in
    let is = c.in_ok-push.ensures.items in
    let size = c.places.invariant.size in
    record {
      size = omega (arith, c.in_ok-push.ensures.len, size);
      each = λ k low. subst (λ (xs : List ℕ). get_or xs k 4294967295 ≡ wide_place places c.args.old (k / c.args.new) (k % c.args.new)) (sym is) (elim (cases_eq k at) [
        | inl same ↦
            ap (λ (j : ℕ). get_or (wide ++ one ∷ []) j 4294967295) (same ∙ sym size)
            ∙ get_or-append_seam wide one [] 4294967295
            ∙ c.place_in.ensures
            ∙ ap (λ (j : ℕ). wide_place places c.args.old (j / c.args.new) (j % c.args.new)) (sym same)
        | inr other ↦ (let less : k < at = omega arith in let within : k < length wide = omega (arith, size, less) in get_or_append_left wide (one ∷ []) 4294967295 k within ∙ c.places.invariant.each k less)
      ]);
    }
