-- The waves over a block.
use Rattle.std.proofs.Common.{◌≡◌, ◌∙◌, sym, ap, subst, refl, ℕ, zero, suc, ◌+◌, ◌-◌, ◌*◌, ◌<◌, Bool, true, false, cond, List, arith, length, get_or, inl, inr}
use Rattle.common_graph.specs.Graph.{GraphOf}
use Rattle.fabric_model.specs.declared.node.EndPort.{EndPort}
use Rattle.fabric_model.specs.declared.traffic.Traffic.{Traffic}
use Rattle.fabric_model.specs.Fabric.{FabricOf, switch_count}
use Rattle.fabric_tables.specs.Cells.{TablesOf}
use Rattle.fabric_routes.specs.Routes.{ComesBy, ComesTo}
use Rattle.fabric_routes.specs.Waves.{HasBit, StateOf, IsGraphOf, AreStarts, IsRunning, IsTurned, IsFurther, IsIdle, IsWaved}
use Rattle.std.proofs.lemmas.Bool.{cases_eq}
use Rattle.fabric_routes.proofs.TakenLemmas.{taken_none, taken_more}
use Rattle.fabric_routes.proofs.WordLemmas.{bit_or_not, has_low}

pub graph_kept : (fabric : FabricOf) (old new : GraphOf) → new.wide ≡ old.wide → new.bases ≡ old.bases → IsGraphOf fabric old → IsGraphOf fabric new
graph_kept fabric old new wide bases is = record {
  count = ap (λ (xs : List ℕ). length xs) bases ∙ is.count;
  wide = (let most = is.wide in let e = wide in omega arith);
  bases = λ switch port next entry leads. ap (λ (xs : List ℕ). get_or xs (switch * fabric.most + (port - 1)) 0) bases ∙ is.bases switch port next entry leads;
}

module _ (fabric : FabricOf) (tables : TablesOf) (block : ℕ) (initial : StateOf) where
  -- at first nothing is done
  pub run_first : (done : List ℕ) → ((switch bit : ℕ) → HasBit done switch bit → ⊥) → length initial.seen ≡ (switch_count fabric) → length done ≡ (switch_count fabric) → IsGraphOf fabric initial.graph → IsRunning fabric tables block initial initial done
  run_first done none seen_count done_count graph = record {
    taken = taken_none fabric tables block (HasBit done) initial none;
    within = λ switch bit has. absurd (none switch bit has);
    fits = λ switch bit has. absurd (none switch bit has);
    comes = λ traffic starts switch bit low has.
        let sends = (starts switch bit low).0 has in
        (sends.0, record { sends = sends.1; start = switch; begins = sends.2; hops = 0; comes = refl });
    seen_count = seen_count;
    done_count = done_count;
    graph = graph;
  }

  -- the fresh bits of a switch are done
  pub run_more : (at : ℕ) (old new : StateOf) (done after : List ℕ) → IsRunning fabric tables block initial old done → IsTurned fabric tables block at old new done after → IsRunning fabric tables block initial new after
  run_more at old new done after run turn = record {
    taken = taken_more fabric tables block (HasBit done) (λ switch bit. (switch ≡ at) × HasBit old.seen at bit × (HasBit done at bit → ⊥)) (HasBit after) initial old new
        (λ switch bit has. elim ((turn.done switch bit).0 has) [
          | inl had ↦ inl had
          | inr (same, saw) ↦ elim (bit_or_not (get_or done at 0) bit) [
            | inl had ↦ inl (subst (λ (s : ℕ). HasBit done s bit) (sym same) had)
            | inr not ↦ inr (same, saw, not)
          ]
        ])
        (λ switch bit had. (turn.done switch bit).1 (inl had))
        (λ switch bit kind. (turn.done switch bit).1 (inr (kind.0, kind.1)))
        run.taken turn.taken;
    within = λ switch bit has. (turn.taken.seen switch bit).1 (inl (elim ((turn.done switch bit).0 has) [
      | inl had ↦ run.within switch bit had
      | inr (same, saw) ↦ subst (λ (s : ℕ). HasBit old.seen s bit) (sym same) saw
    ]));
    fits = λ switch bit has. elim ((turn.done switch bit).0 has) [
      | inl had ↦ run.fits switch bit had
      | inr (same, saw) ↦ turn.fits bit saw
    ];
    comes = λ traffic starts switch bit low has. elim ((turn.taken.seen switch bit).0 has) [
      | inl had ↦ run.comes traffic starts switch bit low had
      | inr (from, port, kind, on) ↦ (
          let before = run.comes traffic starts from bit low (subst (λ (s : ℕ). HasBit old.seen s bit) (sym kind.0) kind.1) in
          (before.0, record { sends = before.1.sends; start = before.1.start; begins = before.1.begins; hops = suc before.1.hops; comes = (from, port, before.1.comes, on) }))
    ];
    seen_count = turn.taken.count ∙ run.seen_count;
    done_count = turn.count ∙ run.done_count;
    graph = graph_kept fabric old.graph new.graph turn.taken.wide turn.taken.bases run.graph;
  }

  -- where all that was seen is done, just the dependencies of the routes are there
  module _ (now : StateOf) (done : List ℕ) (run : IsRunning fabric tables block initial now done) (rest : (switch bit : ℕ) → switch < (switch_count fabric) → HasBit now.seen switch bit → HasBit done switch bit) (traffic : Traffic) (starts : AreStarts fabric tables traffic block initial.seen) where
    all_done : (switch bit : ℕ) → HasBit now.seen switch bit → HasBit done switch bit
    all_done switch bit has = rest switch bit (let low = has_low now.seen switch bit has in let e = run.seen_count in omega arith) has

    reach : (bit hops start at : ℕ) → ComesBy fabric tables (64 * block + bit) hops start at → HasBit now.seen start bit → HasBit now.seen at bit
    reach bit zero start at same has = subst (λ (s : ℕ). HasBit now.seen s bit) same has
    reach bit (suc hops) start at (before, port, comes, on) has =
        (run.taken.seen at bit).1 (inr (before, port, all_done before bit (reach bit hops start before comes has), on))

    come : (bit : ℕ) (source : EndPort) (at : ℕ) → bit < 64 → ComesTo fabric tables traffic (64 * block + bit) source at → HasBit done at bit
    come bit source at low comes = all_done at bit (reach bit comes.hops comes.start at comes.comes ((run.taken.seen comes.start bit).1 (inl ((starts comes.start bit low).1 (source, comes.sends, comes.begins)))))

    from : (at bit : ℕ) → HasBit done at bit → (bit < 64) × ((source : EndPort) × ComesTo fabric tables traffic (64 * block + bit) source at)
    from at bit has = (run.fits at bit has, run.comes traffic starts at bit (run.fits at bit has) (run.within at bit has))

    pub run_done : IsWaved fabric tables traffic block initial.graph now.graph initial.stopped now.stopped
    run_done = record {
      leads = λ one other. (
        λ has. elim ((run.taken.leads one other).0 has) [
          | inl had ↦ inl had
          | inr (at, bit, kind, makes) ↦ (
              let comes = from at bit kind in
              inr (
                bit,
                comes.0,
                record {
                  source = comes.1.0;
                  channel = record { switch = at; port = makes.port };
                  next = record { switch = makes.next; port = makes.next_port };
                  takes = record { comes = comes.1.1; first = makes.on; after = makes.after; second = makes.next_on };
                  is_one = makes.is_one;
                  is_other = makes.is_other;
                },
              ))
        ],
        λ either. elim either [
          | inl had ↦ (run.taken.leads one other).1 (inl had)
          | inr (bit, low, takes) ↦ (run.taken.leads one other).1 (inr (
            takes.channel.switch,
            bit,
            come bit takes.source takes.channel.switch low takes.takes.comes,
            record {
              port = takes.channel.port;
              next = takes.next.switch;
              on = takes.takes.first;
              next_port = takes.next.port;
              after = takes.takes.after;
              next_on = takes.takes.second;
              is_one = takes.is_one;
              is_other = takes.is_other;
            },
          ))
        ],
      );
      stopped = (
        λ is. elim (run.taken.stopped.0 is) [
          | inl had ↦ inl had
          | inr (at, bit, kind, stops) ↦ (
              let comes = from at bit kind in
              inr (bit, comes.0, (comes.1.0, (at, comes.1.1, stops))))
        ],
        λ either. elim either [
          | inl had ↦ run.taken.stopped.1 (inl had)
          | inr (bit, low, (source, (at, comes, stops))) ↦ run.taken.stopped.1 (inr (at, bit, come bit source at low comes, stops))
        ],
      );
      wide = run.taken.wide;
      bases = run.taken.bases;
    }

-- nothing was fresh at a switch
pub idle_run : (fabric : FabricOf) (tables : TablesOf) (block : ℕ) (initial : StateOf) (at : ℕ) (old new : StateOf) (before after : List ℕ) → IsIdle at old new before after → IsRunning fabric tables block initial old before → IsRunning fabric tables block initial new after
idle_run fabric tables block initial at old new before after idle run = subst (λ (s : StateOf). IsRunning fabric tables block initial s after) (sym idle.same) (subst (λ (d : List ℕ). IsRunning fabric tables block initial old d) (sym idle.same_done) run)

pub idle_rest : (at : ℕ) (old new : StateOf) (before after : List ℕ) → IsIdle at old new before after → ((switch bit : ℕ) → switch < at → HasBit old.seen switch bit → HasBit before switch bit) → (switch bit : ℕ) → switch < at + 1 → HasBit new.seen switch bit → HasBit after switch bit
idle_rest at old new before after idle rest switch bit low has =
    let saw : HasBit old.seen switch bit = subst (λ (s : StateOf). HasBit s.seen switch bit) idle.same has in
    subst (λ (words : List ℕ). HasBit words switch bit) (sym idle.same_done) (elim (cases_eq switch at) [
      | inl same ↦ subst (λ (s : ℕ). HasBit before s bit) (sym same) (idle.none bit (subst (λ (s : ℕ). HasBit old.seen s bit) same saw))
      | inr other ↦ rest switch bit (omega arith) saw
    ])

-- a turn carries the waves further
pub further_one : (fabric : FabricOf) (tables : TablesOf) (block at : ℕ) (old new : StateOf) (before after : List ℕ) → IsTurned fabric tables block at old new before after → IsFurther fabric tables block old new before after
further_one fabric tables block at old new before after turn = record {
  running = λ initial run. run_more fabric tables block initial at old new before after run turn;
  less = turn.less;
}

-- and one more still further
pub further_more : (fabric : FabricOf) (tables : TablesOf) (block at : ℕ) (first old new : StateOf) (before done after : List ℕ) → IsFurther fabric tables block first old before done → IsTurned fabric tables block at old new done after → IsFurther fabric tables block first new before after
further_more fabric tables block at first old new before done after so_far turn = record {
  running = λ initial run. run_more fabric tables block initial at old new done after (so_far.running initial run) turn;
  less = (let less = so_far.less in let more = turn.less in omega arith);
}

-- a round after which something is fresh leaves less to be done
pub round_less : (fresh was : Bool) (new old : ℕ) → was ≡ true → (fresh ≡ true → new < old) → cond fresh (new + 1) 0 < cond was (old + 1) 0
round_less true true new old is less = let h = less refl in omega arith
round_less false true new old is less = omega arith
round_less fresh false new old is less = absurd (cc)

-- an idle turn carries them no further
pub further_idle : (fabric : FabricOf) (tables : TablesOf) (block at : ℕ) (first old new : StateOf) (before done after : List ℕ) → IsFurther fabric tables block first old before done → IsIdle at old new done after → IsFurther fabric tables block first new before after
further_idle fabric tables block at first old new before done after so_far idle =
    subst (λ (x : StateOf). IsFurther fabric tables block first x before after) (sym idle.same) (subst (λ (xs : List ℕ). IsFurther fabric tables block first old before xs) (sym idle.same_done) so_far)
