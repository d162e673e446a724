-- The arguments of a call without a cause to be refused: its table, numbers and buffers.
use Rattle.std.proofs.Common.{◌≡◌, ℕ, ◌+◌, ◌≤◌, ℤ, Bool, true, false, cond, not, List, length, map, Option, Some, None, refl, sym, ap, subst, ◌∙◌, arith}
use Rattle.std.specs.Prelude.{◌≤ℤ◌}
use Rattle.std.specs.FinMap.{get}
use Rattle.std.specs.List.{list_any}
use Rattle.std.specs.Option.{is_none}
use Rattle.std.specs.Ordering.{int_eq}
use Rattle.std.proofs.lemmas.Bool.{eqb-true, not-false}
use Rattle.std.proofs.lemmas.Bool.Decides.{Decides-int_eq}
use Rattle.std.proofs.lemmas.Int.{ints}
use Rattle.bpf_code.specs.declared.instruction.Instruction.TheVariants.{Call}
use Rattle.bpf_code.specs.declared.instruction.Register.TheVariants.{R1}
use Rattle.schema.specs.Schema.{Tables}
use Rattle.schema.specs.Helper.{helper_of}
use Rattle.schema.specs.declared.helper.Helper.{Helper}
use Rattle.bpf_semantics.specs.declared.value.Value.{Value}
use Rattle.bpf_semantics.specs.declared.value.Value.TheVariants as value
use Rattle.bpf_semantics.specs.State.{number}
use Rattle.bpf_semantics.specs.Memory.{and_then, known_bytes, stack_index, stack_with}
use Rattle.bpf_semantics.specs.Helpers.{Table, table_of, buffer_of}
use Rattle.bpf_semantics.proofs.StepLemmas.{just}
use Rattle.interval.specs.Range.{Bounds, IsWithin, is_single}
use Rattle.abs_state.specs.declared.kind.Kind.{Kind}
use Rattle.abs_state.specs.declared.kind.Kind.TheVariants.{Nothing, Number, Stack, Args}
use Rattle.abs_state.specs.declared.state.AbsState.{AbsState}
use Rattle.abs_state.specs.State.{kind_of}
use Rattle.abs_state.specs.declared.access.ByteSpan.{ByteSpan}
use Rattle.abs_state.specs.Kind.{is_nothing, is_number, table_width}
use Rattle.abs_state.specs.Access.{span_from, buffer_span, are_initialised}
use Rattle.abs_step.specs.Cause.{call_arguments, holds_nothing, is_unknown_table, is_no_number, is_no_buffer, row_is_uninitialised, reads_uninitialised, some_uninitialised}
use Rattle.abs_step.specs.Result.{with_span, with_buffer}
use Rattle.acceptance.specs.Description.{IsOf}
use Rattle.acceptance.proofs.Bytes.{access_known, index_is}
use Rattle.acceptance.proofs.Causes.{NoCause}
use Rattle.acceptance.proofs.Falling.{taken}
use Rattle.acceptance.proofs.Loads.{reached}
use Rattle.acceptance.proofs.After.{IsAfter, placed}
use Rattle.acceptance.proofs.Stores.{IsDescribed}

-- ---- the causes, of a helper that there is

pub record CallFits (tables : Tables) (h : Helper) (known : AbsState) : Type 0 where
  pub reads : list_any (λ r. is_nothing (kind_of known r)) (map (λ a. a.1) (call_arguments (just h))) ≡ false
  pub table : list_any (λ a. is_unknown_table tables a.0 (kind_of known a.1)) (call_arguments (just h)) ≡ false
  pub numbers : list_any (λ a. is_no_number a.0 (kind_of known a.1)) (call_arguments (just h)) ≡ false
  pub buffers : list_any (λ a. is_no_buffer (table_width tables (kind_of known R1)) a.0 (kind_of known a.1)) (call_arguments (just h)) ≡ false
  pub initialised : list_any (λ a. row_is_uninitialised known (table_width tables (kind_of known R1)) a.0 (kind_of known a.1)) (call_arguments (just h)) ≡ false

pub call_fits : (tables : Tables) (args_len : ℕ) (n : ℤ) (h : Helper) (known : AbsState) → helper_of n ≡ just h → NoCause tables args_len (Call n) known → CallFits tables h known
unfolding holds_nothing reads_uninitialised
call_fits tables args_len n h known e causes = record {
  reads = ap (λ (o : Option Helper). list_any (λ r. is_nothing (kind_of known r)) (map (λ a. a.1) (call_arguments o))) (sym e) ∙ causes.reads;
  table = ap (λ (o : Option Helper). list_any (λ a. is_unknown_table tables a.0 (kind_of known a.1)) (call_arguments o)) (sym e) ∙ causes.table;
  numbers = ap (λ (o : Option Helper). list_any (λ a. is_no_number a.0 (kind_of known a.1)) (call_arguments o)) (sym e) ∙ causes.numbers;
  buffers = ap (λ (o : Option Helper). list_any (λ a. is_no_buffer (table_width tables (kind_of known R1)) a.0 (kind_of known a.1)) (call_arguments o)) (sym e) ∙ causes.buffers;
  initialised = ap (λ (o : Option Helper). list_any (λ a. row_is_uninitialised known (table_width tables (kind_of known R1)) a.0 (kind_of known a.1)) (call_arguments o)) (sym e) ∙ causes.initialised;
}

-- ---- numbers

pub number_known : (k : Kind) (v : Value) → IsOf k v → not (is_number k) ≡ false → (n : ℕ) × (number v ≡ just n)
number_known Nothing v is plain = absurd cc
number_known (Stack lo hi) v is plain = absurd cc
number_known (Args lo hi) v is plain = absurd cc
number_known (Number r) (value.Number n) is plain = (n, refl)
number_known (Number r) value.Nothing is plain = absurd is
number_known (Number r) (value.Stack p) is plain = absurd is
number_known (Number r) (value.Args p) is plain = absurd is

-- ---- the table

pub record IsTableOf (tables : Tables) (k : Kind) (v : Value) : Type 0 where
  pub table : Table
  pub is : table_of tables v ≡ just table
  pub width : table_width tables k ≡ just table.width
  pub has : get tables table.table ≡ just table.width

found : (o : Option ℕ) → is_none o ≡ false → (w : ℕ) × (o ≡ just w)
found None e = absurd cc
found (Some w) e = (w, refl)

alone : (b : Bool) (o : Option ℕ) → is_none (cond b o None) ≡ false → b ≡ true
alone true o e = refl
alone false o e = absurd cc

one_table : (tables : Tables) (r : Bounds) (n : ℕ) → IsWithin r n → is_none (table_width tables (Number r)) ≡ false → IsTableOf tables (Number r) (value.Number n)
one_table tables r n within known =
    let one = alone (is_single r) (get tables r.lo) known in
    let same : n ≡ r.lo = omega (arith, eqb-true r.lo r.hi one, within.from, within.to) in
    let chosen : table_width tables (Number r) ≡ get tables r.lo = ap (λ (b : Bool). cond b (get tables r.lo) None) one in
    let w = found (get tables r.lo) (ap (λ (o : Option ℕ). is_none o) (sym chosen) ∙ known) in
    let has : get tables n ≡ just w.0 = ap (get tables) same ∙ w.1 in
    record {
      table = record { table = n; width = w.0 };
      is = taken (just n) (λ (table : ℕ). and_then (get tables table) (λ (width : ℕ). just (record { table = table; width = width }))) n refl ∙ taken (get tables n) (λ (width : ℕ). just (record { table = n; width = width })) w.0 has;
      width = chosen ∙ w.1;
      has = has;
    }

pub table_known : (tables : Tables) (k : Kind) (v : Value) → IsOf k v → is_none (table_width tables k) ≡ false → IsTableOf tables k v
table_known tables Nothing v is known = absurd cc
table_known tables (Stack lo hi) v is known = absurd cc
table_known tables (Args lo hi) v is known = absurd cc
table_known tables (Number r) (value.Number n) is known = one_table tables r n is known
table_known tables (Number r) value.Nothing is known = absurd is
table_known tables (Number r) (value.Stack p) is known = absurd is
table_known tables (Number r) (value.Args p) is known = absurd is

-- ---- buffers

pub record IsBufferOf (k : Kind) (v : Value) (count : ℕ) : Type 0 where
  pub at : ℕ
  pub is : buffer_of v count ≡ just at
  pub bytes : buffer_span k count ≡ just (record { index = at; count = count })
  pub fits : at + count ≤ 512

one_place : (b : Bool) (o : Option ByteSpan) → is_none (cond b o None) ≡ false → b ≡ true
one_place true o e = refl
one_place false o e = absurd cc

stack_buffer : (lo hi p : ℤ) (count : ℕ) → lo ≤ℤ p → p ≤ℤ hi → is_none (buffer_span (Stack lo hi) count) ≡ false → IsBufferOf (Stack lo hi) (value.Stack p) count
stack_buffer lo hi p count low high room =
    let one = one_place (int_eq lo hi) (span_from count (stack_index lo count)) room in
    let same : lo ≡ hi = (Decides-int_eq lo hi).0 one in
    let here : p ≡ lo = omega (arith, ints) in
    let chosen : buffer_span (Stack lo hi) count ≡ span_from count (stack_index lo count) = ap (λ (b : Bool). cond b (span_from count (stack_index lo count)) None) one in
    let k = reached (stack_index lo count) count (ap (λ (o : Option ByteSpan). is_none o) (sym chosen) ∙ room) in
    record {
      at = k.0;
      is = ap (λ (q : ℤ). stack_index q count) here ∙ k.1;
      bytes = chosen ∙ ap (span_from count) k.1;
      fits = (index_is _ count 512 k.0 k.1).1;
    }

pub buffer_known : (k : Kind) (v : Value) (count : ℕ) → IsOf k v → is_none (buffer_span k count) ≡ false → IsBufferOf k v count
buffer_known Nothing v count is room = absurd cc
buffer_known (Number r) v count is room = absurd cc
buffer_known (Args lo hi) v count is room = absurd cc
buffer_known (Stack lo hi) (value.Stack p) count is room = stack_buffer lo hi p count is.0 is.1 room
buffer_known (Stack lo hi) value.Nothing count is room = absurd is
buffer_known (Stack lo hi) (value.Number n) count is room = absurd is
buffer_known (Stack lo hi) (value.Args p) count is room = absurd is

-- what is written to a buffer is initialised
pub buffer_after : (known : AbsState) (stack : List (Option ℕ)) (k : Kind) (v : Value) (width : Option ℕ) (count : ℕ) (bytes : List ℕ) → IsDescribed known stack → width ≡ just count → length bytes ≡ count → (b : IsBufferOf k v count)
    → IsAfter known (with_buffer known k width) (stack_with stack b.at bytes)
buffer_after known stack k v width count bytes d is counted b =
    let one = placed known stack b.at count bytes counted b.fits d.long d.whole d.bytes in
    subst (λ (w : Option ℕ). IsAfter known (with_buffer known k w) (stack_with stack b.at bytes)) (sym is)
    (subst (λ (o : Option ByteSpan). IsAfter known (with_span o known) (stack_with stack b.at bytes)) (sym b.bytes) one)

-- a buffer whose bytes are initialised is read
pub buffer_read : (known : AbsState) (stack : List (Option ℕ)) (k : Kind) (v : Value) (count : ℕ) → IsDescribed known stack → (b : IsBufferOf k v count) → some_uninitialised known (buffer_span k count) ≡ false
    → (bytes : List ℕ) × (known_bytes stack b.at count ≡ just bytes)
buffer_read known stack k v count d b initialised =
    let all : not (are_initialised known (record { index = b.at; count = count })) ≡ false = ap (some_uninitialised known) (sym b.bytes) ∙ initialised in
    access_known known.initialised stack b.at count count b.at d.bytes (not-false _ all) (omega (arith, d.long, b.fits)) (record { first = omega arith; last = omega arith })
