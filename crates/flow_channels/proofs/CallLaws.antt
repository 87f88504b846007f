-- A packet goes out no more often than the ranks allow, whatever enters between the moves.
use Rattle.std.proofs.Common.{◌≡◌, ◌≢◌, ◌∙◌, sym, subst, refl, ℕ, suc, ◌+◌, ◌≤◌, List, [], ◌∷◌, ◌++◌, Option, Some, false, arith, inl, inr, ◌==◌}
use Rattle.std.specs.Prelude.{Contains}
use Rattle.std.proofs.lemmas.Bool.{cases_eq}
use Rattle.std.proofs.lemmas.Bool.Decides.{nat_tests}
use Rattle.std.proofs.lemmas.Option.{same_Some}
use Rattle.std.proofs.lemmas.List.Elements.{All-push}
use Rattle.dep_check.specs.Channels.{IsChannel, LeadsTo}
use Rattle.common_graph.specs.Cycles.{AreRanks}
use Rattle.dep_check.specs.Tables.{rank_at}
use Rattle.flow_channels.specs.declared.went.Went.{Went}
use Rattle.flow_channels.specs.declared.went.Went.TheVariants.{Arrived, Out}
use Rattle.flow_channels.specs.Layout.{LayoutOf, IsWired}
use Rattle.flow_channels.specs.Flows.{FlowOf, WaitOf, waiting_at}
use Rattle.flow_channels.specs.Moves.{Move, IsPossible, went_by}
use Rattle.flow_channels.specs.Moves.Move.{Arrives, Goes}
use Rattle.flow_channels.specs.Runs.{Act, Comes, entered, greatest, hops_in, hops_of}
use Rattle.flow_channels.specs.Runs.Act.{Enter, Make}
use Rattle.flow_channels.specs.Sound.{IsInIfStarts, IsSound, WaitsThere}
use Rattle.flow_channels.proofs.StateLemmas.{waiting_each}
use Rattle.flow_channels.proofs.SoundLaws.{comes_sound, got, wait_known}
use Rattle.flow_channels.proofs.HopLaws.{Few, Starts, all_few, hops_first, move_few}

module _ (layout : LayoutOf) (ranks : List (Option ℕ)) (wired : IsWired layout) (ranked : AreRanks (IsChannel layout.far) (LeadsTo layout.far layout.rows) (rank_at ranks)) (k : ℕ) where
  -- who moves has entered
  move_unknown : (known : List ℕ) (flow : FlowOf) (move : Move) (went : Went) → IsSound layout known flow → IsPossible layout flow move → went_by flow move ≡ Some went → (Contains known k → ⊥) → hops_of k (went ∷ []) ≡ 0
  move_unknown known flow (Arrives c) went sound can is unknown =
      let same : Arrived can.0.packet can.0.to ≡ went = same_Some (Arrived can.0.packet can.0.to) went (sym (rw can.2 refl) ∙ is) in
      subst (λ (o : Went). hops_of k (o ∷ []) ≡ 0) same refl
  move_unknown known flow (Goes at i port) went sound can is unknown =
      let w = can.wait in
      let g = got layout wired known (waiting_at flow at) i w can.there in
      let waits : WaitsThere layout flow at w = subst (λ (v : WaitOf). WaitsThere layout flow at v) g.1 (sound.waits at i w g.0) in
      let one : IsInIfStarts known sound.place at w = subst (λ (v : WaitOf). IsInIfStarts known sound.place at v) g.1 (sound.starts at i w g.0) in
      let has = wait_known layout wired known flow at w sound waits one in
      let other : w.packet.packet ≢ k = (λ same. unknown (subst (λ (j : ℕ). Contains known j) same has)) in
      let test : (w.packet.packet == k) ≡ false = (grind (arith, nat_tests)) in
      let same : Out w.packet.packet at port ≡ went = same_Some (Out w.packet.packet at port) went (sym (rw can.there refl) ∙ is) in
      subst (λ (o : Went). hops_of k (o ∷ []) ≡ 0) same (rw test refl)

  -- so it goes out only after it entered
  none_before : (limit : ℕ) (acts : List Act) (flow : FlowOf) → Comes layout limit acts flow → (Contains (entered acts) k → ⊥) → hops_in k acts ≡ 0
  none_before limit [] flow comes unknown = refl
  none_before limit (Enter packet from to ∷ acts) flow (old, comes, may, is) unknown =
      none_before limit acts old comes (λ has. unknown (suc has.0, (let low = has.1 in omega arith), has.2))
  none_before limit (Make move went ∷ acts) flow (old, comes, possible, went_is, is) unknown =
      let sound = comes_sound layout limit acts old wired comes in
      let here = move_unknown (entered acts) old move went sound possible went_is unknown in
      let before = none_before limit acts old comes unknown in
      omega arith

  -- those so far and those that may be left
  record Counted (acts : List Act) (flow : FlowOf) : Type 0 where
    left : ℕ
    few : Few layout ranks wired ranked (entered acts) k left flow
    sum : hops_in k acts + left ≤ greatest ranks + 1

  counted : (limit : ℕ) (acts : List Act) (flow : FlowOf) → Comes layout limit acts flow → Counted acts flow
  counted limit [] flow comes = record { left = greatest ranks + 1; few = all_few layout ranks wired ranked [] k flow; sum = omega arith }
  counted limit (Enter packet from to ∷ acts) flow (old, comes, may, is) =
      let sound = comes_sound layout limit acts old wired comes in
      let before = counted limit acts old comes in
      let few = before.few in
      let sum = before.sum in
      let wait : WaitOf = record { packet = record { packet = packet; to = to }; entry = 0 } in
      elim (cases_eq packet k) [
        | inl same ↦ (
            let none = none_before limit acts old comes (subst (λ (j : ℕ). Contains (entered acts) j → ⊥) same may.new) in
            record { left = greatest ranks + 1; few = all_few layout ranks wired ranked (packet ∷ entered acts) k flow; sum = omega arith })
        | inr other ↦ record {
          left = before.left;
          few = subst (λ (f : FlowOf). Few layout ranks wired ranked (packet ∷ entered acts) k before.left f) (sym is) (record {
            queues = few.queues;
            starts = λ low b. waiting_each (λ b vs. Starts layout ranks wired ranked (entered acts) k vs) old from (waiting_at old from ++ (wait ∷ [])) sound.waiting (wired.low from may.from_in)
                (All-push (λ v. v.entry ≡ 0 → v.packet.packet ≢ k) (waiting_at old from) wait (few.starts low from) (λ first. other))
                (λ c apart. few.starts low c) b;
          });
          sum = sum;
        }
      ]
  counted limit (Make move went ∷ acts) flow (old, comes, possible, went_is, is) =
      let sound = comes_sound layout limit acts old wired comes in
      let before = counted limit acts old comes in
      let step = move_few layout ranks wired ranked (entered acts) k before.left old move went sound possible went_is before.few in
      let first = hops_first layout ranks wired ranked (entered acts) k went [] in
      let sum = step.sum in
      let most = before.sum in
      record {
        left = step.left;
        few = subst (λ (f : FlowOf). Few layout ranks wired ranked (entered acts) k step.left f) (sym is) step.few;
        sum = omega arith;
      }

  pub few_calls : (limit : ℕ) (acts : List Act) (flow : FlowOf) → Comes layout limit acts flow → hops_in k acts ≤ greatest ranks + 1
  few_calls limit acts flow comes =
      let count = counted limit acts flow comes in
      let sum = count.sum in
      omega arith
