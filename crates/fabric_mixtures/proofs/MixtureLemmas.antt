-- What mixtures of two tables do.
use Rattle.std.proofs.Common.{◌≡◌, ◌≢◌, ◌∙◌, ◌+◌, sym, ap, refl, ℕ, zero, suc, Bool, true, false, cond, eqb, Option, Some, None, ◌<◌, arith, inl, inr, ◌⊎◌}
use Rattle.std.proofs.lemmas.Bool.Decides.{nat_tests}
use Rattle.common_graph.specs.Cycles.{HasNoCycle}
use Rattle.common_graph.proofs.PathLemmas.{more_steps}
use Rattle.fabric_tables.specs.Cells.{HasRow, TablesOf}
use Rattle.fabric_model.specs.declared.node.EndPort.TheVariants as port
use Rattle.fabric_model.specs.Fabric.{FabricOf, owner_of, switch_count}
use Rattle.fabric_routes.specs.declared.hop.Hop.TheVariants.{On}
use Rattle.fabric_model.specs.declared.traffic.Traffic.{Traffic}
use Rattle.fabric_model.specs.declared.traffic.Traffic.TheVariants.{All, Rows}
use Rattle.fabric_routes.specs.Routes.{Channel, DependsOn, Sends, SendsToOwner, hop, hop_by}
use Rattle.fabric_mixtures.specs.Mixtures.{IsEmptied, IsMixture, MayBeFollowed, MayTake, MayTakeBoth}
use Rattle.fabric_mixtures.specs.Moves.{DependsWhile}

-- a hop is by one entry
pub hop_same : (fabric : FabricOf) (one other : TablesOf) (switch lid : ℕ) → one switch lid ≡ other switch lid → hop fabric one switch lid ≡ hop fabric other switch lid
unfolding hop
hop_same fabric one other switch lid same = ap (λ (told : Option ℕ). hop_by fabric switch lid told) same

module _ (fabric : FabricOf) (old new : TablesOf) where
  -- what a mixture takes may be taken
  pub may_take : (mixed : TablesOf) → IsMixture old new mixed → (lid switch port next : ℕ) → hop fabric mixed switch lid ≡ On port next → MayTake fabric old new lid switch port next
  may_take mixed mix lid switch port next on = elim (mix switch lid) [
    | inl same ↦ inl (sym (hop_same fabric mixed old switch lid same) ∙ on)
    | inr same ↦ inr (sym (hop_same fabric mixed new switch lid same) ∙ on)
  ]

  pub depends : (mixed : TablesOf) (traffic : Traffic) (channel next : Channel) → IsMixture old new mixed → DependsOn fabric mixed traffic channel next → MayBeFollowed fabric old new channel next
  depends mixed traffic channel next mix (lid, source, takes) = (
    lid,
    record {
      first = may_take mixed mix lid channel.switch channel.port next.switch takes.first;
      after = takes.after;
      second = may_take mixed mix lid next.switch next.port takes.after takes.second;
    },
  )

  pub no_loop : (mixed : TablesOf) (traffic : Traffic) → HasNoCycle (MayBeFollowed fabric old new) → IsMixture old new mixed → HasNoCycle (DependsOn fabric mixed traffic)
  no_loop mixed traffic none mix = more_steps (DependsOn fabric mixed traffic) (MayBeFollowed fabric old new) (λ channel next. depends mixed traffic channel next mix) none

  pub depends_while : (traffic : Traffic) (channel next : Channel) → DependsWhile fabric old new traffic channel next → MayBeFollowed fabric old new channel next
  depends_while traffic channel next (lid, source, takes) = (
    lid,
    record {
      first = may_take (takes.tables_at takes.hops) (takes.mixed takes.hops) lid channel.switch channel.port next.switch takes.first;
      after = takes.after;
      second = may_take (takes.tables_at (takes.hops + 1)) (takes.mixed (takes.hops + 1)) lid next.switch next.port takes.after takes.second;
    },
  )

  pub no_loop_while : (traffic : Traffic) → HasNoCycle (MayBeFollowed fabric old new) → HasNoCycle (DependsWhile fabric old new traffic)
  no_loop_while traffic none = more_steps (DependsWhile fabric old new traffic) (MayBeFollowed fabric old new) (depends_while traffic) none

  -- one of the two tables takes what may be taken
  taken_by : (lid switch port next : ℕ) → MayTake fabric old new lid switch port next → (tables : TablesOf) × IsMixture old new tables × (hop fabric tables switch lid ≡ On port next)
  taken_by lid switch port next (inl on) = (old, (λ s l. inl refl), on)
  taken_by lid switch port next (inr on) = (new, (λ s l. inr refl), on)

  -- first the one, then the other
  moments : (one other : TablesOf) → ℕ → TablesOf
  moments one other zero = one
  moments one other (suc moment) = other

  moments_mixed : (one other : TablesOf) → IsMixture old new one → IsMixture old new other → (moment : ℕ) → IsMixture old new (moments one other moment)
  unfolding moments
  moments_mixed one other is too zero = is
  moments_mixed one other is too (suc moment) = too

  -- a switch sends to a LID by all tables by which it takes a channel for it
  abbrev pub SendsBy : Traffic → (lid : ℕ) (channel next : Channel) → Type 0
  SendsBy traffic lid channel next = (tables : TablesOf) → hop fabric tables channel.switch lid ≡ On channel.port next.switch → Sends fabric tables traffic lid (port.Switch channel.switch)

  pub changing : (traffic : Traffic) (lid : ℕ) (channel next : Channel) → MayTakeBoth fabric old new lid channel next → SendsBy traffic lid channel next → DependsWhile fabric old new traffic channel next
  unfolding moments
  changing traffic lid channel next may sends =
      let (one, is, on) = taken_by lid channel.switch channel.port next.switch may.first in
      let (other, too, next_on) = taken_by lid next.switch next.port may.after may.second in (
        lid,
        port.Switch channel.switch,
        record {
          tables_at = moments one other;
          mixed = moments_mixed one other is too;
          sends = sends one on;
          start = channel.switch;
          begins = refl;
          hops = 0;
          comes = refl;
          first = on;
          after = may.after;
          second = next_on;
        },
      )

  -- the one at a switch, the other at the others
  abbrev parted : (one other : TablesOf) (at : ℕ) → TablesOf
  parted one other at switch lid = cond (eqb switch at) (one switch lid) (other switch lid)

  parted_mixed : (one other : TablesOf) (at : ℕ) → IsMixture old new one → IsMixture old new other → IsMixture old new (parted one other at)
  parted_mixed one other at is too switch lid = by (eqb switch at)
    where
      by : (b : Bool) → (cond b (one switch lid) (other switch lid) ≡ old switch lid) ⊎ (cond b (one switch lid) (other switch lid) ≡ new switch lid)
      by true = is switch lid
      by false = too switch lid

  pub at_once : (traffic : Traffic) (lid : ℕ) (channel next : Channel) → MayTakeBoth fabric old new lid channel next → SendsBy traffic lid channel next → channel.switch ≢ next.switch → (mixed : TablesOf) × IsMixture old new mixed × DependsOn fabric mixed traffic channel next
  at_once traffic lid channel next may sends apart =
      let (one, is, on) = taken_by lid channel.switch channel.port next.switch may.first in
      let (other, too, next_on) = taken_by lid next.switch next.port may.after may.second in
      let here : eqb channel.switch channel.switch ≡ true = grind (arith, nat_tests) in
      let there : eqb next.switch channel.switch ≡ false = grind (arith, nat_tests) in
      let first = hop_same fabric (parted one other channel.switch) one channel.switch lid (ap (λ (b : Bool). cond b (one channel.switch lid) (other channel.switch lid)) here) ∙ on in (
        parted one other channel.switch,
        parted_mixed one other channel.switch is too,
        (
          lid,
          port.Switch channel.switch,
          record {
            comes = record { sends = sends (parted one other channel.switch) first; start = channel.switch; begins = refl; hops = 0; comes = refl };
            first = first;
            after = may.after;
            second = hop_same fabric (parted one other channel.switch) other next.switch lid (ap (λ (b : Bool). cond b (one next.switch lid) (other next.switch lid)) there) ∙ next_on;
          },
        ),
      )

-- where a switch takes a channel, it has a row
has_row : (fabric : FabricOf) (tables : TablesOf) (switch lid port next : ℕ) (told : Option ℕ) → tables switch lid ≡ told → hop_by fabric switch lid told ≡ On port next → HasRow tables lid
has_row fabric tables switch lid port next None is on = absurd (cc)
has_row fabric tables switch lid port next (Some out) is on = (switch, out, is)

-- it sends to a LID of another end port, and by `Rows` to one that nobody owns
module _ (fabric : FabricOf) (old new : TablesOf) (lid : ℕ) (channel next : Channel) where
  pub to_owner : SendsToOwner fabric All lid (port.Switch channel.switch) → SendsBy fabric old new All lid channel next
  to_owner sends tables on = inl sends

  pub to_nobody : owner_of fabric lid ≡ None → channel.switch < switch_count fabric → SendsBy fabric old new Rows lid channel next
  unfolding hop
  to_nobody unowned low tables on = inr (record { by_rows = refl; is_source = low; unowned = unowned; has_row = has_row fabric tables channel.switch lid channel.port next.switch (tables channel.switch lid) refl on })

-- where rows are taken out, nothing is added
no_row : (fabric : FabricOf) (switch lid port next : ℕ) → hop_by fabric switch lid None ≡ On port next → ⊥
no_row fabric switch lid port next on = cc

module _ (fabric : FabricOf) (old emptied : TablesOf) (is : IsEmptied old emptied) where
  took : (lid switch port next : ℕ) → MayTake fabric old emptied lid switch port next → MayTake fabric old old lid switch port next
  unfolding hop
  took lid switch port next (inl on) = inl on
  took lid switch port next (inr on) = elim (is switch lid) [
    | inl same ↦ inl (sym (hop_same fabric emptied old switch lid same) ∙ on)
    | inr none ↦ absurd (no_row fabric switch lid port next (sym (ap (λ (told : Option ℕ). hop_by fabric switch lid told) none) ∙ on))
  ]

  pub emptied_follows : (channel next : Channel) → MayBeFollowed fabric old emptied channel next → MayBeFollowed fabric old old channel next
  emptied_follows channel next (lid, may) = (
    lid,
    record {
      first = took lid channel.switch channel.port next.switch may.first;
      after = may.after;
      second = took lid next.switch next.port may.after may.second;
    },
  )

  pub no_loop_emptied : HasNoCycle (MayBeFollowed fabric old old) → HasNoCycle (MayBeFollowed fabric old emptied)
  no_loop_emptied none = more_steps (MayBeFollowed fabric old emptied) (MayBeFollowed fabric old old) emptied_follows none
