-- The external ports, one after the other.

use Rattle.std.specs.Prelude.{◌≡◌, ◌≢◌, ◌+◌, ◌-◌, ◌==◌, ◌<◌, ◌≤◌, ℕ, zero, suc, List, length, cond, drop, find, map, slice_get, slice_index_or, slice_set, Some, Bool, true, false, refl}
use Rattle.std.proofs.Common.{◌∙◌, ap, arith, ext_get_or, subst, sym}
use Rattle.std.proofs.lemmas.Bool.{eqb-false, eqb-true}
use Rattle.std.proofs.lemmas.Grind.{get_or-set_at}
use Rattle.std.proofs.lemmas.List.{at_drop_more, get_or-set_other, length-set}
use Rattle.std.proofs.lemmas.List.Edits.{fill_by_more}
use Rattle.std.proofs.lemmas.List.FromFn.{fill_by_all}
use Rattle.std.proofs.lemmas.Option.{get_or_from_slice_get}
use Rattle.an_base.specs.Ports.{PortViewOf}
use Rattle.an_base.specs.declared.port.Sample.{Sample}
use Rattle.an_base.specs.declared.port.Sample.TheVariants as sample
use Rattle.port_monitor.specs.Histories.{externals}
use Rattle.switch_core.proofs.SampleLemmas.{port_at}
use Rattle.net_state.specs.Fabric.{no_view}

-- the first port from this one on that passes
find_step : (p : ℕ → Bool) (port : ℕ) → 1 ≤ port → port ≤ 12 → find p (drop (port - 1) externals) ≡ cond (p port) (Some port) (find p (drop (port + 1 - 1) externals))
find_step p port least most =
    let at : slice_index_or externals (port - 1) 0 ≡ port = port_at (port - 1) (omega (arith, least, most)) ∙ omega (arith, least) in
    at_drop_more (find p) externals (port - 1) 0 (omega (arith, least, most)) ∙ ap (λ x. cond (p x) (Some x) (find p (drop (port - 1 + 1) externals))) at
    ∙ ap (λ k. cond (p port) (Some port) (find p (drop k externals))) (omega (arith, least))

pub found_here : (p : ℕ → Bool) (port : ℕ) → 1 ≤ port → port ≤ 12 → p port ≡ true → find p (drop (port - 1) externals) ≡ Some port
found_here p port least most is = find_step p port least most ∙ ap (λ b. cond b (Some port) (find p (drop (port + 1 - 1) externals))) is

pub found_later : (p : ℕ → Bool) (port : ℕ) → 1 ≤ port → port ≤ 12 → p port ≡ false → find p (drop (port - 1) externals) ≡ find p (drop (port + 1 - 1) externals)
found_later p port least most is = find_step p port least most ∙ ap (λ b. cond b (Some port) (find p (drop (port + 1 - 1) externals))) is

-- the first port that passes, where none of so many does
pub skipped : (p : ℕ → Bool) (many : ℕ) → many ≤ 12 → ((port : ℕ) → 1 ≤ port → port ≤ many → p port ≡ false) → find p externals ≡ find p (drop many externals)
skipped p zero most none = refl
skipped p (suc many) most none =
    let before : many ≡ suc many - 1 = omega arith in
    let behind : suc many + 1 - 1 ≡ suc many = omega arith in
    skipped p many (omega (arith, most)) (λ port least low. none port least (omega (arith, low)))
    ∙ ap (λ k. find p (drop k externals)) before
    ∙ found_later p (suc many) (omega arith) most (none (suc many) (omega arith) (omega arith))
    ∙ ap (λ k. find p (drop k externals)) behind

-- the samples of the ports so far, with one more
pub sampled_more : (f : ℕ → Sample) (xs : List Sample) (port at : ℕ) (x : Sample) → 1 ≤ port → port ≤ 12 → at ≡ port - 1 → length xs ≡ 12 → x ≡ f port
    → ((k : ℕ) → k < port - 1 → slice_index_or xs k sample.Down ≡ f (k + 1)) → (k : ℕ) → k < port + 1 - 1 → slice_index_or (slice_set xs at x) k sample.Down ≡ f (k + 1)
sampled_more f xs port at x least most place size is each k low =
    let here : x ≡ f (at + 1) = is ∙ ap f (omega (arith, least, place)) in
    ap (λ y. slice_index_or (slice_set xs at y) k sample.Down) here
    ∙ fill_by_more (λ i. f (i + 1)) xs at sample.Down (omega (arith, least, most, size, place)) (λ i lower. each i (omega (arith, lower, place))) k (omega (arith, low, least, place))

-- of all ports
pub all_sampled : (f : ℕ → Sample) (xs : List Sample) → length xs ≡ 12 → ((k : ℕ) → k < 12 → slice_index_or xs k sample.Down ≡ f (k + 1)) → xs ≡ map f externals
all_sampled f xs size each = fill_by_all (λ i. f (i + 1)) xs 12 sample.Down size each

-- Where each other port is shown as before, all are with the view of this one in its place
pub port_put : (port : ℕ) (before after : List PortViewOf) (view : PortViewOf) → 1 ≤ port → port ≤ 12 → length before ≡ 12 → length after ≡ 12
    → ((other : ℕ) → 1 ≤ other → other ≢ port → slice_index_or after (other - 1) no_view ≡ slice_index_or before (other - 1) no_view) → Some view ≡ slice_get after (port - 1) → slice_set before (port - 1) view ≡ after
port_put port before after view least most many as_many others here =
    let size = length-set before (port - 1) view in
    ext_get_or no_view (slice_set before (port - 1) view) after (size ∙ many ∙ sym as_many) (λ i low. at_place i (omega (arith, low, size)) (i == port - 1) refl)
  where
    at_place : (i : ℕ) → i < length before → (b : Bool) → b ≡ (i == port - 1) → slice_index_or (slice_set before (port - 1) view) i no_view ≡ slice_index_or after i no_view
    at_place i low true test =
        let place : i ≡ port - 1 = eqb-true i (port - 1) (sym test) in
        get_or-set_at before (port - 1) i view no_view place (omega (arith, least, most, many)) ∙ sym (ap (λ k. slice_index_or after k no_view) place ∙ get_or_from_slice_get after (port - 1) view no_view (sym here))
    at_place i low false test =
        let apart : i ≢ port - 1 = eqb-false i (port - 1) (sym test) in
        let place : suc i - 1 ≡ i = omega arith in
        get_or-set_other before (port - 1) i view no_view apart
        ∙ sym (subst (λ k. slice_index_or after k no_view ≡ slice_index_or before k no_view) place (others (suc i) (omega arith) (λ same. apart (omega (arith, same)))))
