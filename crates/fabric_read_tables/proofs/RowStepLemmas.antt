-- What a row adds.
use Rattle.std.proofs.Common.{◌≡◌, ◌∙◌, sym, ap, refl, ℕ, ◌+◌, ◌≤◌, List, arith, Bool, true, false, cond, Option, Some, None, Result, Ok, Err, ◌&&◌, ◌==◌}
use mathlib.Core.Path.{fun_ext}
use Rattle.std.specs.Prelude.{is_none, is_some, not}
use Rattle.std.specs.Int.{from_bool}
use Rattle.std.proofs.lemmas.Bool.{false≢true, eq-eqb}
use Rattle.std.proofs.lemmas.Bool.Decides.{nat_tests}
use Rattle.common_lines.specs.declared.stop.Stop.{Stop}
use Rattle.common_lines.specs.declared.stop.Stop.TheVariants.{Fault, OutOfMemory}
use Rattle.fabric_words.specs.Says.{LedToOrWant, and_then}
use Rattle.fabric_model.specs.declared.node.EndPort.{EndPort}
use Rattle.fabric_model.specs.Fabric.{FabricOf, owner_of}
use Rattle.fabric_tables.specs.Cells.{HasNoOther, IsPut, TablesOf, with_port}
use Rattle.fabric_read_lines.specs.Pieces.{BeginsWith, IsFirstFaulty}
use Rattle.fabric_read_tables.specs.declared.cause.TablesCause.{TablesCause}
use Rattle.fabric_read_tables.specs.declared.line.TableLine.TheVariants.{Row}
use Rattle.fabric_read_tables.specs.declared.reading.Part.{Part}
use Rattle.fabric_read_tables.specs.declared.reading.Reading.{Reading}
use Rattle.fabric_read_tables.specs.TableLines.{said_in}
use Rattle.fabric_read_tables.specs.Tables.{IsFaultyAfter, Step, Told, is_void, port_told, row_added, row_told, switch_dumped, told_after, unowned_with}
use Rattle.fabric_read_tables.specs.Readings.{told_of}
use Rattle.fabric_read_tables.proofs.SaidLemmas.{told_by}

counted : (b : Bool) (count : ℕ) → count + from_bool b ≡ cond b (count + 1) count
counted true count = refl
counted false count = omega arith

-- a row for a LID that nobody owns is counted
is_unowned : (owner : Option EndPort) (none : Bool) → is_some owner ≡ not none → none ≡ is_none owner
is_unowned (Some owner) true says = absurd (false≢true (sym says))
is_unowned (Some owner) false says = refl
is_unowned None true says = refl
is_unowned None false says = absurd (false≢true says)

pub unowned_more : (fabric : FabricOf) (lid count more : ℕ) (owner : Option EndPort) (none : Bool) → owner ≡ owner_of fabric lid → is_some owner ≡ not none → more ≡ from_bool none → count + more ≡ unowned_with fabric lid count
unowned_more fabric lid count more owner none is_owner says is_more =
    ap (λ (n : ℕ). count + n) is_more ∙ counted none count ∙ ap (λ (b : Bool). cond b (count + 1) count) (is_unowned owner none says ∙ ap is_none is_owner)

-- a row that is put is for another LID than 0
for_other : (lid port switch s : ℕ) → is_void lid port ≡ false → (s == switch && 0 == lid) ≡ false
for_other lid port switch s says = grind (arith, nat_tests)

pub still_reserved : (room new : TablesOf) (switch lid port : ℕ) → is_void lid port ≡ false → IsPut room new switch lid port → ((s : ℕ) → room s 0 ≡ None) → (s : ℕ) → new s 0 ≡ None
still_reserved room new switch lid port says put reserved s = put s 0 ∙ ap (λ (b : Bool). cond b (Some port) (room s 0)) (for_other lid port switch s says) ∙ reserved s

pub one_more : (unowned rows unowned' rows' more : ℕ) (none : Bool) → more ≡ from_bool none → unowned' ≡ unowned → rows' ≡ rows → unowned ≤ rows → unowned' + more ≤ rows' + 1
one_more unowned rows unowned' rows' more true is same also few = omega arith
one_more unowned rows unowned' rows' more false is same also few = omega arith

module _ (fabric : FabricOf) (told : Told) (switch lid port : ℕ) where
  put_by : (had : Option ℕ) → ((other : ℕ) → had ≡ Some other → other ≡ port) → port_told fabric told switch lid port had ≡ Ok (row_added fabric told switch lid port)
  put_by None alone = refl
  put_by (Some other) alone = rw (eq-eqb other port (alone other refl)) refl

  -- the port was put into tables that are those told so far
  pub row_put : (at : Part) (rows unowned : ℕ) (room new : TablesOf) → is_void lid port ≡ false → at ≡ told.part → rows ≡ told.rows + 1 → unowned ≡ unowned_with fabric lid told.unowned → ((s l : ℕ) → room s l ≡ told.tables s l) → IsPut room new switch lid port → HasNoOther room switch lid port → row_told fabric told lid port switch ≡ Ok (record { part = at; tables = new; rows = rows; unowned = unowned })
  row_put at rows unowned room new not is_at is_rows is_unowned same put alone =
      let tables : new ≡ with_port told.tables switch lid port = fun_ext (λ s. fun_ext (λ l. put s l ∙ ap (λ (had : Option ℕ). cond (s == switch && l == lid) (Some port) had) (same s l))) in
      let step : row_told fabric told lid port switch ≡ port_told fabric told switch lid port (told.tables switch lid) = ap (λ (b : Bool). cond b (Ok told) (port_told fabric told switch lid port (told.tables switch lid))) not in
      step ∙ put_by (told.tables switch lid) (λ other is. alone other (same switch lid ∙ is))
      ∙ ap (λ (t : TablesOf). let after : Step = Ok (record told { rows = told.rows + 1; unowned = unowned_with fabric lid told.unowned; tables = t }) in after) (sym tables)
      ∙ ap (λ (n : ℕ). let after : Step = Ok (record told { rows = n; unowned = unowned_with fabric lid told.unowned; tables = new }) in after) (sym is_rows)
      ∙ ap (λ (n : ℕ). let after : Step = Ok (record told { rows = rows; unowned = n; tables = new }) in after) (sym is_unowned)
      ∙ ap (λ (p : Part). let after : Step = Ok (record { part = p; tables = new; rows = rows; unowned = unowned }) in after) (sym is_at)

-- a row that is read in its place
module _ (fabric : FabricOf) (old : Reading) (bytes : List ℕ) (end lid port : ℕ) (switch : Result ℕ TablesCause) (says : BeginsWith bytes end (λ line. said_in line ≡ Ok (Row lid port))) (here : switch ≡ switch_dumped old.part) where
  abbrev step : Step
  step = and_then switch (row_told fabric (told_of old) lid port)

  pub row_leads : (after : Step) → step ≡ after → BeginsWith bytes end (λ line. told_after fabric (told_of old) line ≡ after)
  row_leads after led = record {
    ends = says.ends;
    here = told_by fabric (told_of old) _ (Row lid port) says.here ∙ ap (λ (s : Result ℕ TablesCause). and_then s (row_told fabric (told_of old) lid port)) (sym here) ∙ led;
  }

  pub row_stopped : (stop : Stop TablesCause) (after : Told) → LedToOrWant {Done = Unit {0}} (Err stop) after step → IsFirstFaulty (λ at line cause. IsFaultyAfter fabric (told_of at) line cause) bytes old stop
  row_stopped (Fault cause) after led = (end, row_leads (Err cause) led)
  row_stopped OutOfMemory after led = tt
