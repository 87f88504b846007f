-- A port more, for a LID that has an owner.
use Rattle.std.proofs.Common.{◌≡◌, ◌≢◌, ◌∙◌, sym, ap, subst, ℕ, Bool, true, false, cond, Option, Some, None, arith, ◌&&◌, ◌==◌}
use Rattle.std.specs.Prelude.{is_some}
use Rattle.std.specs.Bool.{OnTrue, OnFalse}
use Rattle.std.proofs.lemmas.Bool.Decides.{nat_tests}
use Rattle.fabric_model.specs.declared.node.EndPort.{EndPort}
use Rattle.fabric_model.specs.Fabric.{FabricOf, owner_of}
use Rattle.fabric_tables.specs.Cells.{CellsOf, IsPut, tables_of}
use Rattle.fabric_engine.specs.Made.{AreTablesFor}

other_lid : (s l switch lid : ℕ) → l ≢ lid → (s == switch && l == lid) ≡ false
other_lid s l switch lid other = grind (arith, nat_tests)

not_some : (o : Option EndPort) → is_some o ≡ true → o ≡ None → ⊥
not_some (Some owner) some none = cc
not_some None some none = cc

module _ (fabric : FabricOf) (old new : CellsOf) (switch lid port : ℕ) (owned : is_some (owner_of fabric lid) ≡ true) (had : AreTablesFor fabric old) where
  -- a LID without an owner is another
  unowned : (l : ℕ) → owner_of fabric l ≡ None → l ≢ lid
  unowned l none same = not_some (owner_of fabric lid) owned (ap (owner_of fabric) (sym same) ∙ none)

  pub put_kept : (r : Bool) → new.switches ≡ old.switches → new.blocks ≡ old.blocks → OnTrue r (IsPut (tables_of old) (tables_of new) switch lid port) → OnFalse r (new ≡ old) → AreTablesFor fabric new
  put_kept true switches blocks put kept = record {
    switches = switches ∙ had.switches;
    lids = (let low = had.lids in let same = blocks in omega arith);
    low = (let low = had.low in let same = blocks in omega arith);
    owned = λ s l none. put s l ∙ ap (λ (b : Bool). cond b (Some port) (tables_of old s l)) (other_lid s l switch lid (unowned l none)) ∙ had.owned s l none;
  }
  put_kept false switches blocks put kept = subst (AreTablesFor fabric) (sym kept) had
