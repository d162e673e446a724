-- The parts of a call that has a state after it.
use Rattle.std.proofs.Common.{◌≡◌, ℕ, zero, suc, ◌≤◌, ◌∷◌, take, replicate, Option, Some, None, refl, sym, ap, ◌∙◌, arith, List, ◌%◌, ◌^◌}
use Rattle.std.specs.FinMap.{get}
use Rattle.bpf_code.specs.declared.instruction.Register.{Register}
use Rattle.bpf_code.specs.declared.instruction.Register.TheVariants.{R1, R2, R3, R4, R5}
use Rattle.schema.specs.Schema.{Tables}
use Rattle.schema.specs.declared.look.Look.{Look}
use Rattle.schema.specs.Rows.{row_at, first_in, count_in}
use Rattle.schema.specs.declared.helper.Helper.TheVariants.{RowGet, RowPut, RowDelete, RangeCount, RangeNext, Cancel}
use Rattle.bpf_semantics.specs.State.{State, register, number}
use Rattle.bpf_semantics.specs.Memory.{and_then, known_bytes}
use Rattle.bpf_semantics.specs.Helpers.{Table, table_of, buffer_of, look_at, with_answer, with_range_look, with_row_write, with_row_read, with_next_read, row_get, row_put, row_delete, range_count, range_next, cancel, state_after_call}
use Rattle.vm_state.specs.Words.{Words, Holds, word}
use Rattle.bpf_vm.specs.Held.{HeldLaws}

-- the table that r1 names
abbrev pub named_table : Words → ℕ → Table
named_table m width = record { table = word m R1; width = width }

-- the keys from r2 to r3 of that table
abbrev pub named_look : Words → Look
named_look m = look_at (word m R1) (word m R2) (word m R3)

-- the state t after each call
pub record GetParts (tables : Tables) (s : State) (m : Words) (t : State) : Type 0 where
  pub width : ℕ
  pub buffer : ℕ
  pub has : get tables (word m R1) ≡ Some width
  pub at : buffer_of (register s R3) width ≡ Some buffer
  pub after : t ≡ with_row_read s (named_table m width) (word m R2) buffer (row_at s.rows (word m R1) (word m R2))

pub record PutParts (tables : Tables) (s : State) (m : Words) (t : State) : Type 0 where
  pub width : ℕ
  pub buffer : ℕ
  pub bytes : List ℕ
  pub has : get tables (word m R1) ≡ Some width
  pub at : buffer_of (register s R3) width ≡ Some buffer
  pub known : known_bytes s.stack buffer width ≡ Some bytes
  pub after : t ≡ with_answer 0 (with_row_write (word m R1) (word m R2) (Some bytes) s)

pub record DeleteParts (tables : Tables) (s : State) (m : Words) (t : State) : Type 0 where
  pub width : ℕ
  pub has : get tables (word m R1) ≡ Some width
  pub after : t ≡ with_answer 0 (with_row_write (word m R1) (word m R2) None s)

pub record CountParts (tables : Tables) (s : State) (m : Words) (t : State) : Type 0 where
  pub width : ℕ
  pub has : get tables (word m R1) ≡ Some width
  pub after : t ≡ with_answer (count_in (named_look m) s.rows % 2 ^ 64) (with_range_look (word m R1) (word m R2) (word m R3) (word m R3) s)

pub record NextParts (tables : Tables) (s : State) (m : Words) (t : State) : Type 0 where
  pub width : ℕ
  pub key_buffer : ℕ
  pub row_buffer : ℕ
  pub has : get tables (word m R1) ≡ Some width
  pub key_at : buffer_of (register s R4) 8 ≡ Some key_buffer
  pub row_at : buffer_of (register s R5) width ≡ Some row_buffer
  pub after : t ≡ with_next_read s (named_table m width) (word m R2) (word m R3) key_buffer row_buffer
      (first_in (named_look m) s.rows)

abbrev pub CancelParts : State → Words → State → Type 0
CancelParts s m t = t ≡ with_answer 0 (record s { cancel_code = Some (word m R1) })

-- ---- where there is such a state

chained : {X Y : Type 0} (o : Option X) (f : X → Option Y) (y : Y) → and_then o f ≡ Some y → (x : X) × (o ≡ Some x) × (f x ≡ Some y)
unfolding and_then
chained None f y e = absurd cc
chained (Some x) f y e = (x, refl, e)

some_is : {X : Type 0} (x y : X) → Some x ≡ Some y → x ≡ y
some_is x y e = cc

from_some : {X : Type 0} (x y : X) → Some x ≡ Some y → y ≡ x
from_some x y e = cc

module _ (laws : HeldLaws) (tables : Tables) (s : State) (m : Words) (held : Holds s m) where
  number_is : (r : Register) (n : ℕ) → number (register s r) ≡ Some n → n ≡ word m r
  number_is r n e = sym (laws.number (register s r) (word m r) n (laws.register s m r held) e)

  -- r1 names the table
  table_is : (tb : Table) → table_of tables (register s R1) ≡ Some tb → (get tables (word m R1) ≡ Some tb.width) × (tb ≡ named_table m tb.width)
  table_is tb e =
      let (n, is_n, rest) = chained (number (register s R1)) (λ table. and_then (get tables table) (λ width. Some (record { table = table; width = width }))) tb e in
      let (width, has, made) = chained (get tables n) (λ width. Some (record { table = n; width = width })) tb rest in
      let named : n ≡ word m R1 = number_is R1 n is_n in
      let made_is : record { table = n; width = width } ≡ tb = some_is _ _ made in
      let wide : width ≡ tb.width = ap (λ (x : Table). x.width) made_is in
      (ap (get tables) (sym named) ∙ has ∙ ap (λ w. Some w) wide, sym made_is ∙ (λ i. record { table = named i; width = wide i }))

  pub get_parts : (t : State) → state_after_call tables RowGet s ≡ Some t → GetParts tables s m t
  unfolding state_after_call row_get
  get_parts t e =
      let (tb, is_table, rest) = chained (table_of tables (register s R1)) (λ tb. and_then (number (register s R2)) (λ key. row_get s tb key (register s R3))) t e in
      let (key, is_key, more) = chained (number (register s R2)) (λ key. row_get s tb key (register s R3)) t rest in
      let (buffer, at, last) = chained (buffer_of (register s R3) tb.width) (λ buffer. Some (with_row_read s tb key buffer (row_at s.rows tb.table key))) t more in
      let (has, named) = table_is tb is_table in
      let key_is = number_is R2 key is_key in record {
        width = tb.width;
        buffer = buffer;
        has = has;
        at = at;
        after = from_some _ _ last ∙ (λ i. with_row_read s (named i) (key_is i) buffer (row_at s.rows (named i).table (key_is i)));
      }

  pub put_parts : (t : State) → state_after_call tables RowPut s ≡ Some t → PutParts tables s m t
  unfolding state_after_call row_put
  put_parts t e =
      let (tb, is_table, rest) = chained (table_of tables (register s R1)) (λ tb. and_then (number (register s R2)) (λ key. row_put s tb key (register s R3))) t e in
      let (key, is_key, more) = chained (number (register s R2)) (λ key. row_put s tb key (register s R3)) t rest in
      let (buffer, at, then) = chained (buffer_of (register s R3) tb.width) (λ buffer. and_then (known_bytes s.stack buffer tb.width) (λ bytes. Some (with_answer 0 (with_row_write tb.table key (Some bytes) s)))) t more in
      let (bytes, known, last) = chained (known_bytes s.stack buffer tb.width) (λ bytes. Some (with_answer 0 (with_row_write tb.table key (Some bytes) s))) t then in
      let (has, named) = table_is tb is_table in
      let key_is = number_is R2 key is_key in record {
        width = tb.width;
        buffer = buffer;
        bytes = bytes;
        has = has;
        at = at;
        known = known;
        after = from_some _ _ last ∙ (λ i. with_answer 0 (with_row_write (named i).table (key_is i) (Some bytes) s));
      }

  pub delete_parts : (t : State) → state_after_call tables RowDelete s ≡ Some t → DeleteParts tables s m t
  unfolding state_after_call
  delete_parts t e =
      let (tb, is_table, rest) = chained (table_of tables (register s R1)) (λ tb. and_then (number (register s R2)) (λ key. Some (row_delete s tb key))) t e in
      let (key, is_key, last) = chained (number (register s R2)) (λ key. Some (row_delete s tb key)) t rest in
      let (has, named) = table_is tb is_table in
      let key_is = number_is R2 key is_key in record {
        width = tb.width;
        has = has;
        after = from_some _ _ last ∙ (λ i. row_delete s (named i) (key_is i));
      }

  pub count_parts : (t : State) → state_after_call tables RangeCount s ≡ Some t → CountParts tables s m t
  unfolding state_after_call
  count_parts t e =
      let (tb, is_table, rest) = chained (table_of tables (register s R1)) (λ tb. and_then (number (register s R2)) (λ lo. and_then (number (register s R3)) (λ hi. Some (range_count s tb lo hi)))) t e in
      let (lo, is_lo, more) = chained (number (register s R2)) (λ lo. and_then (number (register s R3)) (λ hi. Some (range_count s tb lo hi))) t rest in
      let (hi, is_hi, last) = chained (number (register s R3)) (λ hi. Some (range_count s tb lo hi)) t more in
      let (has, named) = table_is tb is_table in
      let lo_is = number_is R2 lo is_lo in
      let hi_is = number_is R3 hi is_hi in record {
        width = tb.width;
        has = has;
        after = from_some _ _ last ∙ (λ i. range_count s (named i) (lo_is i) (hi_is i));
      }

  pub next_parts : (t : State) → state_after_call tables RangeNext s ≡ Some t → NextParts tables s m t
  unfolding state_after_call range_next
  next_parts t e =
      let (tb, is_table, rest) = chained (table_of tables (register s R1)) (λ tb. and_then (number (register s R2)) (λ lo. and_then (number (register s R3)) (λ hi. range_next s tb lo hi (register s R4) (register s R5)))) t e in
      let (lo, is_lo, more) = chained (number (register s R2)) (λ lo. and_then (number (register s R3)) (λ hi. range_next s tb lo hi (register s R4) (register s R5))) t rest in
      let (hi, is_hi, then) = chained (number (register s R3)) (λ hi. range_next s tb lo hi (register s R4) (register s R5)) t more in
      let (key_buffer, key_at, second) = chained (buffer_of (register s R4) 8) (λ kb. and_then (buffer_of (register s R5) tb.width) (λ rb. Some (with_next_read s tb lo hi kb rb (first_in (look_at tb.table lo hi) s.rows)))) t then in
      let (row_buffer, row_at, last) = chained (buffer_of (register s R5) tb.width) (λ rb. Some (with_next_read s tb lo hi key_buffer rb (first_in (look_at tb.table lo hi) s.rows))) t second in
      let (has, named) = table_is tb is_table in
      let lo_is = number_is R2 lo is_lo in
      let hi_is = number_is R3 hi is_hi in record {
        width = tb.width;
        key_buffer = key_buffer;
        row_buffer = row_buffer;
        has = has;
        key_at = key_at;
        row_at = row_at;
        after = from_some _ _ last ∙ (λ i. with_next_read s (named i) (lo_is i) (hi_is i) key_buffer row_buffer (first_in (look_at (named i).table (lo_is i) (hi_is i)) s.rows));
      }

  pub cancel_parts : (t : State) → state_after_call tables Cancel s ≡ Some t → CancelParts s m t
  unfolding state_after_call
  cancel_parts t e =
      let (code, is_code, last) = chained (number (register s R1)) (λ code. Some (cancel s code)) t e in
      let code_is = number_is R1 code is_code in
      from_some _ _ last ∙ (λ i. cancel s (code_is i))

-- ---- rows of zeros

take_zeros : (n k : ℕ) → n ≤ k → take n (replicate k 0) ≡ replicate {A = ℕ} n 0
take_zeros zero k h = refl
take_zeros (suc n) zero h = absurd (omega arith)
take_zeros (suc n) (suc k) h = ap (λ l. 0 ∷ l) (take_zeros n k (omega arith))

pub zeros_taken : (n : ℕ) → n ≤ 128 → take n (replicate 128 0) ≡ replicate {A = ℕ} n 0
zeros_taken n h = take_zeros n 128 h
