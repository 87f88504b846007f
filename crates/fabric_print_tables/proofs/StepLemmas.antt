-- What is printed so far, line by line.
use Rattle.std.proofs.Common.{◌≡◌, ◌≢◌, ◌∙◌, sym, ap, subst, refl, ℕ, ◌+◌, ◌^◌, ◌<◌, ◌≤◌, ◌⊎◌, inl, inr, List, [], ◌∷◌, ◌++◌, append_assoc, append-nil, arith, All, Option, Some, None, Result, Ok, Err, Bool, true, false, cond, ◌&&◌, ◌==◌, eqb, ltb}
use mathlib.Core.Path.{fun_ext}
use Rattle.std.specs.Prelude.{codes, if◌then◌else◌, is_none, OnOk}
use Rattle.std.specs.List.{join_with_byte}
use Rattle.std.proofs.lemmas.Bool.{cases_eq, cases_lt}
use Rattle.std.proofs.lemmas.Bool.Decides.{nat_tests}
use Rattle.std.proofs.lemmas.Option.{same_Some}
use Rattle.common_lines.specs.Lines.{line_text, lines_of, lines_text}
use Rattle.common_lines.specs.Chains.{LeadsBy}
use Rattle.common_lines.proofs.ChainLaws.{LeadsBy-push}
use Rattle.common_lines.proofs.SpellLemmas.{IsWord, line_bytes, lines_of-line, no_line}
use Rattle.fabric_model.specs.declared.node.EndPort.{EndPort}
use Rattle.fabric_model.specs.Fabric.{FabricOf, owner_of, switch_with}
use Rattle.fabric_tables.specs.Cells.{CellsOf, TablesOf, port_of, tables_of, with_port}
use Rattle.fabric_read_tables.specs.declared.line.TableLine.TheVariants.{Head, Row, End, PlainHead, PlainEnd}
use Rattle.fabric_read_tables.specs.declared.reading.Part.{Part}
use Rattle.fabric_read_tables.specs.declared.reading.Part.TheVariants.{Start, Between, Dumped, Plain}
use Rattle.fabric_read_lines.specs.Pieces.{AreLinesOf}
use Rattle.fabric_read_tables.specs.Tables.{Told, AddsTo, at_part, is_void, may_begin, may_end, none_told, row_added, told_after, told_with}
use Rattle.fabric_read_tables.proofs.SaidLemmas.{told_by}
use Rattle.fabric_print_tables.specs.Texts.{IsFilled, IsFilledUnowned, IsTextOf}
use Rattle.fabric_print_tables.specs.Printed.{HasPrinted, IsBefore, IsCountBefore, end_words, head_words, none_rows, part_at, row_words}
use Rattle.fabric_print_tables.proofs.CountLemmas.{before_next, before_or, count_add, count_all, count_end, count_skip, count_start, none_before, not_itself}
use Rattle.fabric_print_tables.proofs.WordLemmas.{end_are, end_said, head_are, head_said, plain_are, plain_end_are, plain_end_said, plain_said, row_are, row_said}

-- whole lines with one more
lines_more : (lines : List (List ℕ)) (bytes : List ℕ) (row : List (List ℕ)) → AreLinesOf lines bytes → All IsWord row → AreLinesOf (lines ++ join_with_byte 32 row ∷ []) (bytes ++ line_text row)
lines_more lines bytes row whole are more =
    let line = join_with_byte 32 row in
    ap lines_of (append_assoc bytes (line_text row) more ∙ ap (λ (t : List ℕ). bytes ++ t) (append_assoc line (10 ∷ []) more))
    ∙ whole (line ++ 10 ∷ more)
    ∙ ap (λ (ls : List (List ℕ)). lines ++ ls) (lines_of-line line more (line_bytes row are))
    ∙ sym (append_assoc lines (line ∷ []) (lines_of more))

-- a cell is this one, or it is before the next one only if it is before this one
same_cell : (s l : ℕ) → (s == s && l == l) ≡ true
same_cell s l = grind (arith, nat_tests)

other_switch : (s l switch lid : ℕ) → s ≢ switch → (s == switch && l == lid) ≡ false
other_switch s l switch lid other = grind (arith, nat_tests)

other_lid : (s l switch lid : ℕ) → l ≢ lid → (s == switch && l == lid) ≡ false
other_lid s l switch lid other = grind (arith, nat_tests)

cell_or : (switch lid s l : ℕ) → ((s ≡ switch) × (l ≡ lid)) ⊎ (((s == switch && l == lid) ≡ false) × (IsBefore switch (lid + 1) s l → IsBefore switch lid s l))
cell_or switch lid s l = elim (cases_eq s switch) [
  | inl same ↦ elim (cases_eq l lid) [
    | inl here ↦ inl (same, here)
    | inr other ↦ inr (
      other_lid s l switch lid other,
      λ before. elim (before_or switch lid s l before) [
        | inl is ↦ is
        | inr at ↦ absurd (other at.1)
      ],
    )
  ]
  | inr other ↦ inr (
    other_switch s l switch lid other,
    λ before. elim (before_or switch lid s l before) [
      | inl is ↦ is
      | inr at ↦ absurd (other at.0)
    ],
  )
]

-- tables with one port more
at_cell : (tables : TablesOf) (switch lid port s l : ℕ) → s ≡ switch → l ≡ lid → with_port tables switch lid port s l ≡ Some port
at_cell tables switch lid port s l same here = rw (same, here) (ap (λ (b : Bool). cond b (Some port) (tables switch lid)) (same_cell switch lid))

off_cell : (tables : TablesOf) (switch lid port s l : ℕ) → (s == switch && l == lid) ≡ false → with_port tables switch lid port s l ≡ tables s l
off_cell tables switch lid port s l other = ap (λ (b : Bool). cond b (Some port) (tables s l)) other

in_tables : (tables : TablesOf) (switch lid s l : ℕ) (found : Option ℕ) → s ≡ switch → l ≡ lid → tables switch lid ≡ found → tables s l ≡ found
in_tables tables switch lid s l found same here is = rw (same, here) is

-- what each line leads to
row_step : (fabric : FabricOf) (told : Told) (switch lid port : ℕ) → told.part ≡ Dumped switch → is_void lid port ≡ false → told.tables switch lid ≡ None → told_with fabric told (Row lid port) ≡ Ok (row_added fabric told switch lid port)
row_step fabric told switch lid port part not none = rw (part, not, none) refl

row_says : (lid port : ℕ) → lid ≢ 0 → port < 255 → is_void lid port ≡ false
row_says lid port some small = grind (arith, nat_tests)

head_step : (fabric : FabricOf) (told : Told) (switch guid : ℕ) → may_begin told.part ≡ Ok tt → switch_with fabric guid ≡ Some switch → told_with fabric told (Head guid) ≡ Ok (at_part told (Dumped switch))
head_step fabric told switch guid begins known = rw (begins, known) refl

end_step : (fabric : FabricOf) (told : Told) (switch : ℕ) → told.part ≡ Dumped switch → told_with fabric told End ≡ Ok (at_part told Between)
end_step fabric told switch part = rw part refl

-- the parts in which tables begin and end
pub part_begins : (switch : ℕ) → may_begin (part_at switch) ≡ Ok tt
part_begins switch = elim (ltb 0 switch) as (λ b. may_begin (cond b Between Start) ≡ Ok tt) [
  | true ↦ refl
  | false ↦ refl
]

pub part_after : (switch : ℕ) → 0 < switch → part_at switch ≡ Between
part_after switch some = let t : ltb 0 switch ≡ true = grind (arith, nat_tests) in rw t refl

-- after an answer that is not an error
pub on_ok : {Done Error P Q : Type 0} → (P → Q) → (r : Result Done Error) → OnOk r P → OnOk r Q
on_ok leads (Ok done) is = leads is
on_ok leads (Err error) is = tt

-- one line more
good_more : (fabric : FabricOf) (lines : List (List ℕ)) (told after : Told) (line : List ℕ) → LeadsBy (AddsTo fabric) none_told lines told → told_after fabric told line ≡ Ok after → LeadsBy (AddsTo fabric) none_told (lines ++ line ∷ []) after
good_more fabric lines told after line good step = LeadsBy-push (AddsTo fabric) none_told lines told line after good step

module _ (fabric : FabricOf) (tables : TablesOf) where
  -- nothing
  pub none_printed : HasPrinted fabric tables [] (part_at 0) 0 0
  none_printed = record {
    lines = [];
    whole = λ more. refl;
    told = none_told;
    good = refl;
    part_is = refl;
    ports = λ s l before. absurd (none_before s l before);
    no_more = λ s l not. refl;
    rows = count_start (IsFilled tables);
    unowned = count_start (IsFilledUnowned fabric tables);
  }

  -- a LID for which a switch has no port
  not_filled : (switch lid : ℕ) → None ≡ tables switch lid → (port : ℕ) → tables switch lid ≡ Some port → ⊥
  not_filled switch lid none port some = let same : None ≡ Some port = none ∙ some in absurd (cc)

  pub skip_printed : (bytes : List ℕ) (part : Part) (switch lid : ℕ) → None ≡ tables switch lid → HasPrinted fabric tables bytes part switch lid → HasPrinted fabric tables bytes part switch (lid + 1)
  skip_printed bytes part switch lid none had = record {
    lines = had.lines;
    whole = had.whole;
    told = had.told;
    good = had.good;
    part_is = had.part_is;
    ports = λ s l before. elim (cell_or switch lid s l) [
      | inl same ↦ in_tables had.told.tables switch lid s l None same.0 same.1 (had.no_more switch lid (not_itself switch lid)) ∙ sym (in_tables tables switch lid s l None same.0 same.1 (sym none))
      | inr other ↦ had.ports s l (other.1 before)
    ];
    no_more = λ s l not. had.no_more s l (λ before. not (before_next switch lid s l before));
    rows = count_skip (IsFilled tables) switch lid had.told.rows (λ filled. not_filled switch lid none filled.0 filled.1) had.rows;
    unowned = count_skip (IsFilledUnowned fabric tables) switch lid had.told.unowned (λ filled. not_filled switch lid none filled.0.0 filled.0.1) had.unowned;
  }

  -- a row counts, and among those of LIDs that nobody owns if its LID is one
  unowned_more : (switch lid port count : ℕ) (owner : Option EndPort) → owner_of fabric lid ≡ owner → tables switch lid ≡ Some port → IsCountBefore (IsFilledUnowned fabric tables) switch lid count → IsCountBefore (IsFilledUnowned fabric tables) switch (lid + 1) (if is_none owner then count + 1 else count)
  unowned_more switch lid port count None none here had = count_add (IsFilledUnowned fabric tables) switch lid count ((port, here), none) had
  unowned_more switch lid port count (Some owner) owns here had = count_skip (IsFilledUnowned fabric tables) switch lid count (λ filled. (let same : Some owner ≡ None = sym owns ∙ filled.1 in absurd (cc))) had

  -- a row
  row_of : (bytes : List ℕ) (switch lid port : ℕ) → lid ≢ 0 → lid < 0xC000 → port < 255 → Some port ≡ tables switch lid → HasPrinted fabric tables bytes (Dumped switch) switch lid → HasPrinted fabric tables (bytes ++ line_text (row_words lid port)) (Dumped switch) switch (lid + 1)
  row_of bytes switch lid port some low small here had =
      let line = join_with_byte 32 (row_words lid port) in
      let not = row_says lid port some small in
      let none = had.no_more switch lid (not_itself switch lid) in
      let after = row_added fabric had.told switch lid port in
      let step = told_by fabric had.told line (Row lid port) (row_said lid port low (omega arith)) ∙ row_step fabric had.told switch lid port had.part_is not none in
      record {
        lines = had.lines ++ line ∷ [];
        whole = lines_more had.lines bytes (row_words lid port) had.whole (row_are lid port (omega arith));
        told = after;
        good = good_more fabric had.lines had.told after line had.good step;
        part_is = had.part_is;
        ports = λ s l before. elim (cell_or switch lid s l) [
          | inl same ↦ at_cell had.told.tables switch lid port s l same.0 same.1 ∙ sym (in_tables tables switch lid s l (Some port) same.0 same.1 (sym here))
          | inr other ↦ off_cell had.told.tables switch lid port s l other.0 ∙ had.ports s l (other.1 before)
        ];
        no_more = λ s l not. elim (cell_or switch lid s l) [
          | inl same ↦ absurd (not (inr (same.0, (let e = same.1 in omega arith))))
          | inr other ↦ off_cell had.told.tables switch lid port s l other.0 ∙ had.no_more s l (λ before. not (before_next switch lid s l before))
        ];
        rows = count_add (IsFilled tables) switch lid had.told.rows (port, sym here) had.rows;
        unowned = unowned_more switch lid port had.told.unowned (owner_of fabric lid) refl (sym here) had.unowned;
      }

  pub row_printed : (old new : List ℕ) (switch lid port : ℕ) → ((s : ℕ) → tables s 0 ≡ None) → lid < 0xC000 → port < 255 → Some port ≡ tables switch lid → new ≡ old ++ line_text (row_words lid port) → HasPrinted fabric tables old (Dumped switch) switch lid → HasPrinted fabric tables new (Dumped switch) switch (lid + 1)
  row_printed old new switch lid port reserved low small here is had =
      subst (λ (b : List ℕ). HasPrinted fabric tables b (Dumped switch) switch (lid + 1)) (sym is) (row_of old switch lid port some low small here had)
    where
      some : lid ≢ 0
      some zero = not_filled switch 0 (sym (reserved switch)) port (sym (subst (λ (l : ℕ). Some port ≡ tables switch l) zero here))

  -- a head
  pub head_printed : (old new : List ℕ) (switch guid : ℕ) → guid < 2 ^ 64 → switch_with fabric guid ≡ Some switch → new ≡ old ++ line_text (head_words guid) → HasPrinted fabric tables old (part_at switch) switch 0 → HasPrinted fabric tables new (Dumped switch) switch 0
  head_printed old new switch guid low known is had =
      let line = join_with_byte 32 (head_words guid) in
      let after = at_part had.told (Dumped switch) in
      let step = told_by fabric had.told line (Head guid) (head_said guid low) ∙ head_step fabric had.told switch guid (ap may_begin had.part_is ∙ part_begins switch) known in
      record {
        lines = had.lines ++ line ∷ [];
        whole = subst (λ (b : List ℕ). AreLinesOf (had.lines ++ line ∷ []) b) (sym is) (lines_more had.lines old (head_words guid) had.whole (head_are guid));
        told = after;
        good = good_more fabric had.lines had.told after line had.good step;
        part_is = refl;
        ports = had.ports;
        no_more = had.no_more;
        rows = had.rows;
        unowned = had.unowned;
      }

  -- the last line
  past_none : (switch l port : ℕ) → tables switch l ≡ None → tables switch l ≡ Some port → ⊥
  past_none switch l port none some = let same : None ≡ Some port = sym none ∙ some in absurd (cc)

  pub end_printed : (old new : List ℕ) (switch lids count : ℕ) → ((s l : ℕ) → lids ≤ l → tables s l ≡ None) → count < 2 ^ 64 → new ≡ old ++ line_text (end_words count) → HasPrinted fabric tables old (Dumped switch) switch lids → HasPrinted fabric tables new (part_at (switch + 1)) (switch + 1) 0
  end_printed old new switch lids count past low is had =
      let line = join_with_byte 32 (end_words count) in
      let after = at_part had.told Between in
      let step = told_by fabric had.told line End (end_said count low) ∙ end_step fabric had.told switch had.part_is in
      record {
        lines = had.lines ++ line ∷ [];
        whole = subst (λ (b : List ℕ). AreLinesOf (had.lines ++ line ∷ []) b) (sym is) (lines_more had.lines old (end_words count) had.whole (end_are count low));
        told = after;
        good = good_more fabric had.lines had.told after line had.good step;
        part_is = sym (part_after (switch + 1) (omega arith));
        ports = λ s l before. all_told s l before;
        no_more = λ s l not. had.no_more s l (λ before. elim before [
          | inl less ↦ not (inl (omega arith))
          | inr at ↦ (let same = at.0 in not (inl (omega arith)))
        ]);
        rows = count_end (IsFilled tables) switch lids had.told.rows (λ l over filled. past_none switch l filled.0 (past switch l over) filled.1) had.rows;
        unowned = count_end (IsFilledUnowned fabric tables) switch lids had.told.unowned (λ l over filled. past_none switch l filled.0.0 (past switch l over) filled.0.1) had.unowned;
      }
    where
      of_switch : (s l : ℕ) → s ≡ switch → had.told.tables s l ≡ tables s l
      of_switch s l same = elim (cases_lt l lids) [
        | inl told ↦ had.ports s l (inr (same, told))
        | inr more ↦ had.no_more s l (λ before. elim before [
          | inl less ↦ absurd (omega arith)
          | inr at ↦ (let under = at.1 in absurd (omega arith))
        ]) ∙ sym (past s l (omega arith))
      ]

      all_told : (s l : ℕ) → IsBefore (switch + 1) 0 s l → had.told.tables s l ≡ tables s l
      all_told s l before = elim before [
        | inl less ↦ elim (cases_lt s switch) [
          | inl under ↦ had.ports s l (inl under)
          | inr same ↦ of_switch s l (omega arith)
        ]
        | inr at ↦ (let under = at.1 in absurd (omega arith))
      ]

  -- all of it
  pub all_printed : (bytes : List ℕ) (count : ℕ) (part : Part) → part ≡ Between → ((s l : ℕ) → count ≤ s → tables s l ≡ None) → HasPrinted fabric tables bytes part count 0 → IsTextOf fabric bytes tables
  all_printed bytes count part last past had = record {
    rows = had.told.rows;
    unowned = had.told.unowned;
    text = record {
      last = had.told;
      good = subst (λ (ls : List (List ℕ)). LeadsBy (AddsTo fabric) none_told ls had.told) (sym lines_are) had.good;
      ended = ap may_end (had.part_is ∙ last);
      says = fun_ext (λ s. fun_ext (λ l. sym (each s l)));
      rows_are = refl;
      unowned_are = refl;
    };
    rows_are = count_all (IsFilled tables) count had.told.rows (λ s l over filled. past_none s l filled.0 (past s l over) filled.1) had.rows;
    unowned_are = count_all (IsFilledUnowned fabric tables) count had.told.unowned (λ s l over filled. past_none s l filled.0.0 (past s l over) filled.0.1) had.unowned;
  }
    where
      lines_are : lines_of bytes ≡ had.lines
      lines_are = ap lines_of (sym (append-nil bytes)) ∙ had.whole [] ∙ ap (λ (ls : List (List ℕ)). had.lines ++ ls) no_line ∙ append-nil had.lines

      each : (s l : ℕ) → had.told.tables s l ≡ tables s l
      each s l = elim (cases_lt s count) [
        | inl less ↦ had.ports s l (inl less)
        | inr more ↦ had.no_more s l (λ before. elim before [
          | inl less ↦ absurd (omega arith)
          | inr at ↦ (let under = at.1 in absurd (omega arith))
        ]) ∙ sym (past s l more)
      ]

  -- the two lines of the text of tables of no switches
  pub plain_printed : (bytes : List ℕ) → ((s l : ℕ) → tables s l ≡ None) → bytes ≡ lines_text none_rows → IsTextOf fabric bytes tables
  plain_printed bytes none is =
      let first = join_with_byte 32 (codes "tables" ∷ codes "1" ∷ []) in
      let second = join_with_byte 32 (codes "end" ∷ []) in
      let begun = at_part none_told Plain in
      let ended = at_part none_told Between in
      let one = lines_more [] [] (codes "tables" ∷ codes "1" ∷ []) (λ more. refl) plain_are in
      let two = lines_more (first ∷ []) (line_text (codes "tables" ∷ codes "1" ∷ [])) (codes "end" ∷ []) one plain_end_are in
      let good = good_more fabric [] none_told begun first refl (told_by fabric none_told first PlainHead plain_said) in
      all_printed bytes 0 Between refl (λ s l low. none s l) (record {
        lines = first ∷ second ∷ [];
        whole = subst (λ (b : List ℕ). AreLinesOf (first ∷ second ∷ []) b) (sym is) two;
        told = ended;
        good = good_more fabric (first ∷ []) begun ended second good (told_by fabric begun second PlainEnd plain_end_said);
        part_is = refl;
        ports = λ s l before. absurd (none_before s l before);
        no_more = λ s l not. refl;
        rows = count_start (IsFilled tables);
        unowned = count_start (IsFilledUnowned fabric tables);
      })

-- a port of cells
byte_low : (byte port : ℕ) → Some port ≡ port_of byte → port < 256 → port < 255
byte_low byte port is low = elim (cases_eq byte 255) [
  | inl none ↦ (let e : Some port ≡ None = is ∙ (rw none refl) in absurd (cc))
  | inr some ↦ (
      let e : eqb byte 255 ≡ false = grind (arith, nat_tests) in
      let same : port ≡ byte = same_Some port byte (is ∙ ap (λ (b : Bool). cond b None (Some byte)) e) in
      omega arith)
]

port_by : (b : Bool) (byte port : ℕ) → Some port ≡ cond b (port_of byte) None → port < 256 → port < 255
port_by true byte port is low = byte_low byte port is low
port_by false byte port is low = absurd (cc)

pub port_low : (cells : CellsOf) (s l port : ℕ) → Some port ≡ tables_of cells s l → port < 256 → port < 255
port_low cells s l port is low = port_by (ltb s cells.switches) _ port is low
