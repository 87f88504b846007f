-- The exits of a layout are those of its rows, and what is on its way has one with a link.
use Rattle.std.proofs.Common.{◌≡◌, ◌≢◌, ◌∙◌, ap, subst, refl, ℕ, zero, ◌<◌, List, [], ◌∷◌, Some, true, arith, length, inl, inr, ◌==◌}
use Rattle.std.specs.Prelude.{Contains, slice_get, ◌&&◌, ◌⊎◌}
use Rattle.std.specs.List.{list_any, range_with_len}
use Rattle.std.proofs.lemmas.Bool.{eq-eqb, eqb-true, and_parts}
use Rattle.std.proofs.lemmas.List.{get_or_default}
use Rattle.std.proofs.lemmas.Option.{same_Some}
use Rattle.std.proofs.lemmas.List.Folds.{Any-from_list_any, list_any-from_Any}
use Rattle.an_base.specs.Rows.{RowOf}
use Rattle.common_values.proofs.RangeLemmas.{Contains-kept, in_range, kept_passes}
use Rattle.dep_check.specs.declared.channel.Channel.{Channel}
use Rattle.dep_check.specs.Channels.{HasExit}
use Rattle.dep_check.specs.Packets.{AllAreJoined, IsGap}
use Rattle.dep_check.proofs.SpotLemmas.{option_cases}
use Rattle.flow_channels.specs.Layout.{LayoutOf, spot, has_exit, exits_of, IsWired}
use Rattle.flow_channels.specs.Sound.{IsOnWay}

pub list_cases : {A : Type 0} (xs : List A) → (xs ≡ []) ⊎ ((x : A) × (rest : List A) × (xs ≡ x ∷ rest))
list_cases [] = inl refl
list_cases (x ∷ xs) = inr (x, xs, refl)

-- a list whose first element is told
pub first_in : {A : Type 0} (xs : List A) (x : A) → slice_get xs 0 ≡ Some x → (others : List A) × (xs ≡ x ∷ others)
first_in [] x e = absurd (cc)
first_in {A} (y ∷ xs) x e = (xs, ap (λ (z : A). z ∷ xs) (same_Some y x e))

-- the test of a row says that it has the exit
pub row_has : (came : Channel) (to exit : ℕ) (row : RowOf) → has_exit came to exit row ≡ true → (row.at ≡ came.at) × (row.entry ≡ came.port) × (row.to ≡ to) × Contains row.exits exit
row_has came to exit row e =
    let a = and_parts (row.at == came.at) ((row.entry == came.port) && ((row.to == to) && list_any (λ port. port == exit) row.exits)) e in
    let b = and_parts (row.entry == came.port) ((row.to == to) && list_any (λ port. port == exit) row.exits) a.1 in
    let c = and_parts (row.to == to) (list_any (λ port. port == exit) row.exits) b.1 in
    let some = Any-from_list_any (λ port. port == exit) row.exits c.1 in
    let is : some.1 ≡ exit = eqb-true some.1 exit some.4 in (
      eqb-true row.at came.at a.0,
      eqb-true row.entry came.port b.0,
      eqb-true row.to to c.0,
      (some.0, some.2, get_or_default row.exits some.0 exit some.1 some.2 ∙ some.3 ∙ is),
    )

pub row_test : (came : Channel) (to exit : ℕ) (row : RowOf) → row.at ≡ came.at → row.entry ≡ came.port → row.to ≡ to → Contains row.exits exit → has_exit came to exit row ≡ true
row_test came to exit row at entry target has =
    let a = eq-eqb row.at came.at at in
    let b = eq-eqb row.entry came.port entry in
    let c = eq-eqb row.to to target in
    let d : list_any (λ port. port == exit) row.exits ≡ true = list_any-from_Any (λ port. port == exit) row.exits (has.0, exit, has.1, has.2, eq-eqb exit exit refl) in
    rw (a, b, c, d) refl

pub exit_has : (layout : LayoutOf) (came : Channel) (to exit : ℕ) → Contains (exits_of layout came to) exit → HasExit layout.rows came.at came.port to exit
exit_has layout came to exit named =
    let test = kept_passes (λ p. list_any (has_exit came to p) layout.rows) (range_with_len 0 13) exit named in
    let some = Any-from_list_any (has_exit came to exit) layout.rows test in
    (some.0, some.1, some.2, some.3, row_has came to exit some.1 some.4)

pub has_named : (layout : LayoutOf) (came : Channel) (to exit : ℕ) → exit < 13 → HasExit layout.rows came.at came.port to exit → Contains (exits_of layout came to) exit
has_named layout came to exit low (k, row, below, is, has) =
    let test = list_any-from_Any (has_exit came to exit) layout.rows (k, row, below, is, row_test came to exit row has.0 has.1 has.2 has.3) in
    Contains-kept (λ p. list_any (has_exit came to p) layout.rows) (range_with_len 0 13) exit (in_range 13 0 exit (omega arith) (omega arith)) test

-- an exit with a link
pub record Exit (layout : LayoutOf) (came : Channel) (to : ℕ) : Type 0 where
  pub exit : ℕ
  pub named : Contains (exits_of layout came to) exit
  pub far : Channel
  pub link : layout.far (spot came.at exit) ≡ Some far

module _ (layout : LayoutOf) (wired : IsWired layout) (joined : AllAreJoined layout.far layout.numbers layout.rows) where
  -- what is on its way meets no gap
  pub no_gap : (to : ℕ) (came : Channel) → IsOnWay layout to came → IsGap layout.far layout.rows to came → ⊥
  no_gap to came on gap =
      joined on.from to came.at came.port (record {
        from_in = on.from_in;
        to_in = on.to_in;
        apart = on.apart;
        meets = record { steps = on.steps; walk = on.walk; gap = gap };
      })

  pub has_way_on : (to : ℕ) (came : Channel) → IsOnWay layout to came → came.at ≢ to → Exit layout came to
  has_way_on to came on before = elim (list_cases (exits_of layout came to)) [
    | inl none ↦ absurd (no_gap to came on (record { before = before; gap = inl (λ exit has. no_exit none exit has) }))
    | inr (exit, rest, some) ↦ (
        let named : Contains (exits_of layout came to) exit = rw some (zero, omega arith, refl) in
        elim (option_cases (layout.far (spot came.at exit))) [
          | inl gone ↦ absurd (no_gap to came on (record { before = before; gap = inr (exit, exit_has layout came to exit named, gone) }))
          | inr (far, link) ↦ record { exit = exit; named = named; far = far; link = link }
        ])
  ]
    where
      no_exit : exits_of layout came to ≡ [] → (exit : ℕ) → HasExit layout.rows came.at came.port to exit → ⊥
      no_exit none exit has = elim (option_cases (layout.far (spot came.at exit))) [
        | inl gone ↦ no_gap to came on (record { before = before; gap = inr (exit, has, gone) })
        | inr (far, link) ↦ (
            let port = (wired.near (spot came.at exit) far link).port in
            let named = has_named layout came to exit port has in
            let low : named.0 < length (exits_of layout came to) = named.1 in
            let low' : named.0 < 0 = subst (λ (xs : List ℕ). named.0 < length xs) none low in
            absurd (omega arith))
      ]
