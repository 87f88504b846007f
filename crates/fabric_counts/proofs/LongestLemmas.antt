-- The longest of the routes to a LID, if all arrive.
use Rattle.std.proofs.Common.{◌≡◌, ◌∙◌, sym, subst, refl, ℕ, ◌+◌, ◌*◌, ◌/◌, ◌%◌, ◌<◌, List, Some, arith, inl, inr, max}
use Rattle.std.proofs.lemmas.Bool.{cases_eq, cases_lt}
use Rattle.fabric_tables.specs.Cells.{TablesOf}
use Rattle.fabric_counts.specs.Counts.{hop_for}
use Rattle.fabric_counts.specs.Heights.{IsLonger}
use Rattle.fabric_counts.specs.Steps.{AllArriveWithin, AreLongest}
use Rattle.fabric_model.specs.declared.node.EndPort.{EndPort}
use Rattle.fabric_counts.proofs.EndLemmas.{begins_at}
use Rattle.fabric_model.specs.Fabric.{FabricOf, IsFabric, start_of, switch_count}
use Rattle.fabric_routes.specs.declared.hop.Hop.{Hop}
use Rattle.fabric_routes.specs.declared.hop.Outcome.TheVariants.{Arrives}
use Rattle.fabric_model.specs.declared.traffic.Traffic.{Traffic}
use Rattle.fabric_routes.specs.Routes.{EndsAs, Sends}
use Rattle.fabric_routes.specs.Waves.{AreStarts, HasBit}
use Rattle.fabric_routes.proofs.StartLemmas.{sender_is, start_low}

module _ (hop_at : ℕ → Hop) (words : List ℕ) (bit : ℕ) where
  pub longest_first : AreLongest hop_at words bit 0 0
  longest_first = record { all = λ at low has. absurd (omega arith); some = λ not_none. absurd (not_none refl) }

  -- one switch more at which none begins
  longest_none : (count hops : ℕ) → (HasBit words count bit → ⊥) → AreLongest hop_at words bit count hops → AreLongest hop_at words bit (count + 1) hops
  longest_none count hops none are = record {
    all = λ at low has. elim (cases_eq at count) [
      | inl here ↦ absurd (none (subst (λ (k : ℕ). HasBit words k bit) here has))
      | inr before ↦ are.all at (omega arith) has
    ];
    some = are.some;
  }

  -- or one that arrives
  longest_one : (count hops switches longer : ℕ) → HasBit words count bit → EndsAs hop_at count (Arrives switches) → longer ≡ max hops switches → AreLongest hop_at words bit count hops → AreLongest hop_at words bit (count + 1) longer
  longest_one count hops switches longer here_has ends is are = record {
    all = λ at low has. elim (cases_eq at count) [
      | inl here ↦ (switches, subst (λ (k : ℕ). EndsAs hop_at k (Arrives switches)) (sym here) ends, omega arith)
      | inr before ↦ (let one = are.all at (omega arith) has in (one.0, one.1, (let le = one.2 in omega arith)))
    ];
    some = λ not_none. elim (cases_lt switches hops) [
      | inl less ↦ (
          let e : hops ≡ longer = omega arith in
          let one = are.some (λ none. not_none (sym e ∙ none)) in
          (one.0, one.1, subst (λ (n : ℕ). EndsAs hop_at one.0 (Arrives n)) e one.2))
      | inr no_less ↦ (
          let e : switches ≡ longer = omega arith in
          (count, here_has, subst (λ (n : ℕ). EndsAs hop_at count (Arrives n)) e ends))
    ];
  }

  pub longest_more : (count hops longer : ℕ) → IsLonger hop_at words bit count hops longer → AreLongest hop_at words bit count hops → AreLongest hop_at words bit (count + 1) longer
  longest_more count hops longer is are = elim is [
    | inl (none, same) ↦ subst (AreLongest hop_at words bit (count + 1)) (sym same) (longest_none count hops none are)
    | inr (has, (switches, ends, most)) ↦ longest_one count hops switches longer has ends most are
  ]

module _ (fabric : FabricOf) (fits : IsFabric fabric) (tables : TablesOf) (traffic : Traffic) (lid : ℕ) (words : List ℕ) (starts : AreStarts fabric tables traffic (lid / 64) words) where
  same_lid : 64 * (lid / 64) + lid % 64 ≡ lid
  same_lid = omega arith

  low_bit : lid % 64 < 64
  low_bit = omega arith

  has_start : (source : EndPort) (start : ℕ) → Sends fabric tables traffic lid source → start_of fabric source ≡ Some start → HasBit words start (lid % 64)
  has_start source start sends begins = (starts start (lid % 64) low_bit).1 (source, subst (λ (l : ℕ). Sends fabric tables traffic l source) (sym same_lid) sends, begins)

  pub arrive_within : (count hops : ℕ) → count ≡ switch_count fabric → AreLongest (hop_for fabric tables lid) words (lid % 64) count hops → AllArriveWithin fabric tables traffic lid hops
  arrive_within count hops whole are = record {
    all = λ source sends.
        let is = sender_is fabric tables traffic lid source sends in
        let begins = begins_at fabric traffic source is in
        let low = start_low fabric fits traffic source begins.0 is begins.1 in
        let one = are.all begins.0 (omega arith) (has_start source begins.0 sends begins.1) in
        (one.0, record { start = begins.0; begins = begins.1; ends = one.1 }, one.2);
    some = λ not_none.
        let one = are.some not_none in
        let from = (starts one.0 (lid % 64) low_bit).0 one.1 in
        (from.0, subst (λ (l : ℕ). Sends fabric tables traffic l from.0) same_lid from.1, record { start = one.0; begins = from.2; ends = one.2 });
  }
