-- What a call leaves is the state after it.
use Rattle.std.proofs.Common.{◌≡◌, ◌≢◌, ℕ, ◌+◌, ◌%◌, ◌^◌, ◌<◌, ◌≤◌, List, [], ◌∷◌, ◌++◌, length, drop, replicate, Bool, true, false, Option, Some, None, is_some, nat_le, refl, sym, ap, subst, ◌∙◌, arith, length-append}
use Rattle.std.proofs.lemmas.Bool.Decides.{nat_tests}
use Rattle.std.proofs.lemmas.List.{length-replicate}
use Rattle.std.specs.Prelude.{IsTrue, ◌↔◌, option_map, if◌then◌else◌}
use Rattle.std.specs.FinMap.{get}
use Rattle.bpf_code.specs.declared.instruction.Register.{Register}
use Rattle.bpf_code.specs.declared.instruction.Register.TheVariants.{R1, R2, R3, R4, R5}
use Rattle.schema.specs.Schema.{Tables}
use Rattle.schema.specs.declared.look.Look.{Look}
use Rattle.schema.specs.declared.helper.Helper.{Helper}
use Rattle.schema.specs.declared.helper.Helper.TheVariants.{RowGet, RowPut, RowDelete, RangeCount, RangeNext, Cancel}
use Rattle.schema.specs.Rows.{Key, Rows, Writes, AreRows, IsFirst, row_at, covers, count_in, first_in}
use Rattle.bpf_semantics.specs.declared.value.Value.{Value}
use Rattle.bpf_semantics.specs.declared.value.Value.TheVariants.{Nothing, Number}
use Rattle.bpf_semantics.specs.State.{State, register, past}
use Rattle.bpf_semantics.specs.Memory.{stack_with}
use Rattle.bpf_semantics.specs.Helpers.{buffer_of, look_at, flag, row_or_zeros, key_or_zeros, row_of, last_seen, with_look, with_answer, with_stack, with_point_look, with_range_look, with_row_write, state_after_call}
use Rattle.vm_state.specs.Words.{Words, Holds, IsWordOf, word}
use Rattle.vm_state.specs.Access.{InStack}
use Rattle.txn_view.specs.declared.view.Own.{Own}
use Rattle.txn_view.specs.View.{IsReadOf, IsViewOf}
use Rattle.bpf_vm.specs.Calls.{CanCall, LooksMore, AfterCall}
use Rattle.bpf_vm.specs.declared.calls.HelperAnswer.TheVariants.{Done, Stale, NoMemory}
use Rattle.bpf_vm.proofs.PartLemmas.{GetParts, CountParts, NextParts, CancelParts, get_parts, put_parts, delete_parts, count_parts, next_parts}
use Rattle.bpf_vm.specs.Held.{HeldLaws}

-- ---- by the definition's state after the call, where there is one

module _ {A : Type 0} (answers_from : Rows → Type 0) (gone : Bool) (helper : Helper) (s : State) (m : Words) (own : Own A) where
  pub done : (o : Option State) → ((t : State) → o ≡ Some t → Holds (past 1 t) m × IsViewOf answers_from own t × (LooksMore gone s t → ⊥)) → AfterCall answers_from gone helper s o Done m own
  done None h = tt
  done (Some t) h = h t refl

  pub stale : (o : Option State) → ((t : State) → o ≡ Some t → LooksMore gone s t) → AfterCall answers_from gone helper s o Stale m own
  stale None h = tt
  stale (Some t) h = h t refl

  pub no_memory : (o : Option State) → helper ≢ Cancel → ((t : State) → o ≡ Some t → LooksMore gone s t → ⊥) → AfterCall answers_from gone helper s o NoMemory m own
  no_memory None other h = tt
  no_memory (Some t) other h = (other, h t refl)

-- ---- looks

-- all but the looks is the same
record OnlyLooks (s u : State) : Type 0 where
  slot : u.slot ≡ s.slot
  registers : u.registers ≡ s.registers
  stack : u.stack ≡ s.stack
  args : u.args ≡ s.args
  cancel : u.cancel_code ≡ s.cancel_code

nothing_else : (look : Look) (s : State) (b : Bool) → OnlyLooks s (if b then s else with_look look s)
nothing_else look s true = record { slot = refl; registers = refl; stack = refl; args = refl; cancel = refl }
nothing_else look s false = record { slot = refl; registers = refl; stack = refl; args = refl; cancel = refl }

something_else : (look : Look) (s : State) (b : Bool) → OnlyLooks s (if b then with_look look s else s)
something_else look s true = record { slot = refl; registers = refl; stack = refl; args = refl; cancel = refl }
something_else look s false = record { slot = refl; registers = refl; stack = refl; args = refl; cancel = refl }

point_only : (table key : ℕ) (s : State) → OnlyLooks s (with_point_look table key s)
point_only table key s = nothing_else (look_at table key key) s (is_some (get s.writes (table, key)))

range_only : (table lo hi last : ℕ) (s : State) → OnlyLooks s (with_range_look table lo hi last s)
range_only table lo hi last s = something_else (look_at table lo last) s (nat_le lo hi)

point_stack : (table key : ℕ) (stack : List (Option ℕ)) (s : State) → with_point_look table key (with_stack stack s) ≡ with_stack stack (with_point_look table key s)
point_stack table key stack s = elim (is_some (get s.writes (table, key))) as (λ b. (if b then with_stack stack s else with_look (look_at table key key) (with_stack stack s)) ≡ with_stack stack (if b then s else with_look (look_at table key key) s)) [ true ↦ refl | false ↦ refl ]

range_stack : (table lo hi last : ℕ) (stack : List (Option ℕ)) (s : State) → with_range_look table lo hi last (with_stack stack s) ≡ with_stack stack (with_range_look table lo hi last s)
range_stack table lo hi last stack s = elim (nat_le lo hi) as (λ b. (if b then with_look (look_at table lo last) (with_stack stack s) else with_stack stack s) ≡ with_stack stack (if b then with_look (look_at table lo last) s else s)) [ true ↦ refl | false ↦ refl ]

longer : {X : Type 0} (xs : List X) (x : X) → length xs < length (xs ++ x ∷ [])
longer xs x = omega (arith, length-append xs (x ∷ []))

-- a point look is made where the run has no write there
pub due_point : {gone : Bool} (s t : State) (writes : Writes) (table key : ℕ) → writes ≡ s.writes → t.looks ≡ (with_point_look table key s).looks → LooksMore gone s t → IsTrue gone × (get writes (table, key) ≡ None)
due_point {gone} s t writes table key same looks more =
    let P : Option (Option (List ℕ)) → Type 0 = λ w. length s.looks < length (if is_some w then s else with_look (look_at table key key) s).looks in
    let longer_so : P (get s.writes (table, key)) = subst (λ ls. length s.looks < length ls) looks more.1 in
    let none : get s.writes (table, key) ≡ None = elim (get s.writes (table, key)) as (λ w. P w → w ≡ None) [ None ↦ λ _. refl | Some w ↦ λ no_longer. absurd (omega arith) ] longer_so in
    (more.0, ap (λ w. get w (table, key)) same ∙ none)

pub more_point : {gone : Bool} (s t : State) (writes : Writes) (table key : ℕ) → writes ≡ s.writes → t.looks ≡ (with_point_look table key s).looks → IsTrue gone × (get writes (table, key) ≡ None) → LooksMore gone s t
more_point {gone} s t writes table key same looks due =
    let none : get s.writes (table, key) ≡ None = ap (λ w. get w (table, key)) (sym same) ∙ due.1 in
    let looked : (with_point_look table key s).looks ≡ s.looks ++ look_at table key key ∷ [] = ap (λ w. (if is_some w then s else with_look (look_at table key key) s).looks) none in
    (due.0, subst (λ ls. length s.looks < length ls) (sym (looks ∙ looked)) (longer s.looks (look_at table key key)))

-- a range look where lo isn't above hi
pub due_range : {gone : Bool} (s t : State) (table lo hi last : ℕ) → t.looks ≡ (with_range_look table lo hi last s).looks → LooksMore gone s t → IsTrue gone × (lo ≤ hi)
due_range {gone} s t table lo hi last looks more =
    let P : Bool → Type 0 = λ b. length s.looks < length (if b then with_look (look_at table lo last) s else s).looks in
    let longer_so : P (nat_le lo hi) = subst (λ ls. length s.looks < length ls) looks more.1 in
    let ordered : nat_le lo hi ≡ true = elim (nat_le lo hi) as (λ b. P b → b ≡ true) [ true ↦ λ _. refl | false ↦ λ no_longer. absurd (omega arith) ] longer_so in
    (more.0, grind (arith, nat_tests))

pub more_range : {gone : Bool} (s t : State) (table lo hi last : ℕ) → t.looks ≡ (with_range_look table lo hi last s).looks → IsTrue gone × (lo ≤ hi) → LooksMore gone s t
more_range {gone} s t table lo hi last looks due =
    let from = due.1 in
    let ordered : nat_le lo hi ≡ true = grind (arith, nat_tests) in
    let looked : (with_range_look table lo hi last s).looks ≡ s.looks ++ look_at table lo last ∷ [] = ap (λ b. (if b then with_look (look_at table lo last) s else s).looks) ordered in
    (due.0, subst (λ ls. length s.looks < length ls) (sym (looks ∙ looked)) (longer s.looks (look_at table lo last)))

-- where no look is made
pub no_more : {gone : Bool} (s t : State) → t.looks ≡ s.looks → LooksMore gone s t → ⊥
no_more s t same more = let longer_so = subst (λ ls. length s.looks < length ls) same more.1 in absurd (omega arith)

-- ---- what stands for the state before stands for the one after

pub answered_view : {A : Type 0} {answers_from : Rows → Type 0} {own : Own A} {s : State} (answer : ℕ) → IsViewOf answers_from own s → IsViewOf answers_from own (with_answer answer s)
answered_view answer v = record {
  read = record { looks_are = v.read.looks_are; writes_are = v.read.writes_are; below = v.read.below; answers = v.read.answers; rows_are = v.read.rows_are };
  cancelled = v.cancelled;
}

module _ {A : Type 0} {answers_from : Rows → Type 0} (own : Own A) (laws : HeldLaws) where
  after_look : {s u t : State} {m : Words} (stack : List (Option ℕ)) (answer : ℕ) → OnlyLooks s u → t ≡ with_answer answer (with_stack stack u)
      → Holds (past 1 (with_answer answer (with_stack stack s))) m → IsReadOf answers_from own.looks own.writes u → own.cancel_code ≡ s.cancel_code
      → Holds (past 1 t) m × IsViewOf answers_from own t
  after_look {s} {u} {t} {m} stack answer only e held read cancelled =
      subst (λ (t : State). Holds (past 1 t) m × IsViewOf answers_from own t) (sym e) (
        laws.same (past 1 (with_answer answer (with_stack stack s))) (past 1 (with_answer answer (with_stack stack u))) m
            (ap (λ n. n + 1) only.slot) (ap (λ rs. Number answer ∷ (replicate 5 Nothing ++ drop 6 rs)) only.registers) refl only.args held,
        record {
          read = record { looks_are = read.looks_are; writes_are = read.writes_are; below = read.below; answers = read.answers; rows_are = read.rows_are };
          cancelled = cancelled ∙ sym only.cancel;
        },
      )

  pub count_done : {tables : Tables} {s t : State} {m m1 : Words} (table lo hi count : ℕ) → CountParts tables s m t
      → table ≡ word m R1 → lo ≡ word m R2 → hi ≡ word m R3 → count ≡ count_in (look_at table lo hi) s.rows % 2 ^ 64
      → Holds (past 1 (with_answer count s)) m1
      → IsReadOf answers_from own.looks own.writes (with_range_look table lo hi hi s) → own.cancel_code ≡ s.cancel_code
      → Holds (past 1 t) m1 × IsViewOf answers_from own t
  count_done {tables} {s} {t} {m} {m1} table lo hi count p table_is lo_is hi_is count_is held read cancelled =
      let u = with_range_look table lo hi hi s in
      let only = range_only table lo hi hi s in
      let counted : count_in (look_at (word m R1) (word m R2) (word m R3)) s.rows % 2 ^ 64 ≡ count = sym (count_is ∙ (λ i. count_in (look_at (table_is i) (lo_is i) (hi_is i)) s.rows % 2 ^ 64)) in
      let after : t ≡ with_answer count u = p.after ∙ (λ i. with_answer (counted i) (with_range_look (sym table_is i) (sym lo_is i) (sym hi_is i) (sym hi_is i) s)) in
      after_look s.stack count only (after ∙ ap (λ stack. with_answer count (with_stack stack u)) only.stack) held read cancelled

  pub get_done : {tables : Tables} {s t : State} {m m1 m2 : Words} (table key width address answer : ℕ) (bytes : List ℕ) (found : Option (List ℕ)) → GetParts tables s m t
      → table ≡ word m R1 → key ≡ word m R2 → address ≡ word m R3 → get tables (word m R1) ≡ Some width
      → found ≡ row_at s.rows table key → bytes ≡ row_or_zeros width found → length bytes ≡ width → answer ≡ flag found → Holds s m
      → ((v : Value) (k : ℕ) → IsWordOf v address → buffer_of v (length bytes) ≡ Some k → Holds (with_stack (stack_with s.stack k bytes) s) m1)
      → ((s : State) → Holds s m1 → Holds (past 1 (with_answer answer s)) m2)
      → IsReadOf answers_from own.looks own.writes (with_point_look table key s) → own.cancel_code ≡ s.cancel_code
      → Holds (past 1 t) m2 × IsViewOf answers_from own t
  get_done {tables} {s} {t} {m} {m1} {m2} table key width address answer bytes found p table_is key_is address_is has found_is bytes_are long answer_is held put answered read cancelled =
      let wide : width ≡ p.width = (let both : Some width ≡ Some p.width = sym has ∙ p.has in cc) in
      let at : buffer_of (register s R3) (length bytes) ≡ Some p.buffer = ap (buffer_of (register s R3)) (long ∙ wide) ∙ p.at in
      let written = put (register s R3) p.buffer (subst (IsWordOf (register s R3)) (sym address_is) (laws.register s m R3 held)) at in
      let row : row_at s.rows (word m R1) (word m R2) ≡ found = sym (found_is ∙ (λ i. row_at s.rows (table_is i) (key_is i))) in
      let copied : row_or_zeros p.width (row_at s.rows (word m R1) (word m R2)) ≡ bytes = (λ i. row_or_zeros (sym wide i) (row i)) ∙ sym bytes_are in
      let flagged : flag (row_at s.rows (word m R1) (word m R2)) ≡ answer = ap flag row ∙ sym answer_is in
      let stack = stack_with s.stack p.buffer bytes in
      let after : t ≡ with_answer answer (with_point_look table key (with_stack stack s)) = p.after ∙ (λ i. with_answer (flagged i) (with_point_look (sym table_is i) (sym key_is i) (with_stack (stack_with s.stack p.buffer (copied i)) s))) in
      after_look stack answer (point_only table key s) (after ∙ ap (with_answer answer) (point_stack table key stack s)) (answered _ written) read cancelled

  pub next_done : {tables : Tables} {s t : State} {m m1 m2 m3 : Words} (table lo hi width key_address row_address answer : ℕ) (key_bytes bytes : List ℕ) (found : Option (Key × List ℕ)) → NextParts tables s m t
      → table ≡ word m R1 → lo ≡ word m R2 → hi ≡ word m R3 → key_address ≡ word m R4 → row_address ≡ word m R5 → get tables (word m R1) ≡ Some width
      → found ≡ first_in (look_at table lo hi) s.rows → key_bytes ≡ key_or_zeros found → length key_bytes ≡ 8
      → bytes ≡ row_or_zeros width (row_of found) → length bytes ≡ width → answer ≡ flag found → Holds s m
      → ((v : Value) (k : ℕ) → IsWordOf v key_address → buffer_of v (length key_bytes) ≡ Some k → Holds (with_stack (stack_with s.stack k key_bytes) s) m1)
      → ((s : State) (v : Value) (k : ℕ) → Holds s m1 → IsWordOf v row_address → buffer_of v (length bytes) ≡ Some k → Holds (with_stack (stack_with s.stack k bytes) s) m2)
      → ((s : State) → Holds s m2 → Holds (past 1 (with_answer answer s)) m3)
      → IsReadOf answers_from own.looks own.writes (with_range_look table lo hi (last_seen hi (first_in (look_at table lo hi) s.rows)) s) → own.cancel_code ≡ s.cancel_code
      → Holds (past 1 t) m3 × IsViewOf answers_from own t
  next_done {tables} {s} {t} {m} {m1} {m2} {m3} table lo hi width key_address row_address answer key_bytes bytes found p table_is lo_is hi_is key_address_is row_address_is has found_is key_bytes_are eight bytes_are long answer_is held put_key put_row answered read cancelled =
      let wide : width ≡ p.width = (let both : Some width ≡ Some p.width = sym has ∙ p.has in cc) in
      let key_at : buffer_of (register s R4) (length key_bytes) ≡ Some p.key_buffer = ap (buffer_of (register s R4)) eight ∙ p.key_at in
      let at : buffer_of (register s R5) (length bytes) ≡ Some p.row_buffer = ap (buffer_of (register s R5)) (long ∙ wide) ∙ p.row_at in
      let keyed = stack_with s.stack p.key_buffer key_bytes in
      let stack = stack_with keyed p.row_buffer bytes in
      let key_written = put_key (register s R4) p.key_buffer (subst (IsWordOf (register s R4)) (sym key_address_is) (laws.register s m R4 held)) key_at in
      let written : Holds (with_stack stack s) m2 = put_row (with_stack keyed s) (register s R5) p.row_buffer key_written (subst (IsWordOf (register s R5)) (sym row_address_is) (laws.register s m R5 held)) at in
      let first : first_in (look_at (word m R1) (word m R2) (word m R3)) s.rows ≡ found = sym (found_is ∙ (λ i. first_in (look_at (table_is i) (lo_is i) (hi_is i)) s.rows)) in
      let last : last_seen hi found ≡ last_seen hi (first_in (look_at table lo hi) s.rows) = ap (last_seen hi) found_is in
      let key_copied : key_or_zeros (first_in (look_at (word m R1) (word m R2) (word m R3)) s.rows) ≡ key_bytes = ap key_or_zeros first ∙ sym key_bytes_are in
      let copied : row_or_zeros p.width (row_of (first_in (look_at (word m R1) (word m R2) (word m R3)) s.rows)) ≡ bytes = (λ i. row_or_zeros (sym wide i) (row_of (first i))) ∙ sym bytes_are in
      let flagged : flag (first_in (look_at (word m R1) (word m R2) (word m R3)) s.rows) ≡ answer = ap flag first ∙ sym answer_is in
      let after : t ≡ with_answer answer (with_range_look table lo hi (last_seen hi found) (with_stack stack s)) = p.after ∙ (λ i. with_answer (flagged i) (with_range_look (sym table_is i) (sym lo_is i) (sym hi_is i) (last_seen (sym hi_is i) (first i)) (with_stack (stack_with (stack_with s.stack p.key_buffer (key_copied i)) p.row_buffer (copied i)) s))) in
      let u_last = last_seen hi (first_in (look_at table lo hi) s.rows) in
      after_look stack answer (range_only table lo hi u_last s) (after ∙ ap (λ last. with_answer answer (with_range_look table lo hi last (with_stack stack s))) last ∙ ap (with_answer answer) (range_stack table lo hi u_last stack s)) (answered _ written) read cancelled

  -- a write, which makes no look
  pub write_done : {s t : State} {m1 : Words} (m : Words) (table key : ℕ) (write : Option (List ℕ)) → t ≡ with_answer 0 (with_row_write (word m R1) (word m R2) write s)
      → table ≡ word m R1 → key ≡ word m R2 → Holds (past 1 (with_answer 0 s)) m1 → IsViewOf answers_from own (with_row_write table key write s)
      → Holds (past 1 t) m1 × IsViewOf answers_from own t
  write_done {s} {t} {m1} m table key write e table_is key_is held view =
      let after : t ≡ with_answer 0 (with_row_write table key write s) = e ∙ (λ i. with_answer 0 (with_row_write (sym table_is i) (sym key_is i) write s)) in
      subst (λ (t : State). Holds (past 1 t) m1 × IsViewOf answers_from own t) (sym after) (
        laws.same (past 1 (with_answer 0 s)) (past 1 (with_answer 0 (with_row_write table key write s))) m1 refl refl refl refl held,
        answered_view 0 view,
      )

  pub cancel_done : {s t : State} {m1 : Words} (m : Words) (code : ℕ) → CancelParts s m t → code ≡ word m R1
      → Holds (past 1 (with_answer 0 s)) m1 → IsViewOf answers_from own (record s { cancel_code = Some code })
      → Holds (past 1 t) m1 × IsViewOf answers_from own t
  cancel_done {s} {t} {m1} m code e code_is held view =
      let after : t ≡ with_answer 0 (record s { cancel_code = Some code }) = e ∙ (λ i. with_answer 0 (record s { cancel_code = Some (sym code_is i) })) in
      subst (λ (t : State). Holds (past 1 t) m1 × IsViewOf answers_from own t) (sym after) (
        laws.same (past 1 (with_answer 0 s)) (past 1 (with_answer 0 (record s { cancel_code = Some code }))) m1 refl refl refl refl held,
        answered_view 0 view,
      )

-- ---- the looks of the state after a call

pub get_looks : {tables : Tables} {s t : State} {m : Words} (table key : ℕ) → table ≡ word m R1 → key ≡ word m R2 → GetParts tables s m t → t.looks ≡ (with_point_look table key s).looks
get_looks {s = s} {m = m} table key table_is key_is p = ap (λ (t : State). t.looks) (p.after
    ∙ ap (with_answer (flag (row_at s.rows (word m R1) (word m R2)))) (point_stack (word m R1) (word m R2) _ s))
    ∙ (λ i. (with_point_look (sym table_is i) (sym key_is i) s).looks)

pub count_looks : {tables : Tables} {s t : State} {m : Words} (table lo hi : ℕ) → table ≡ word m R1 → lo ≡ word m R2 → hi ≡ word m R3 → CountParts tables s m t → t.looks ≡ (with_range_look table lo hi hi s).looks
count_looks {s = s} {m = m} table lo hi table_is lo_is hi_is p = ap (λ (t : State). t.looks) p.after ∙ (λ i. (with_range_look (sym table_is i) (sym lo_is i) (sym hi_is i) (sym hi_is i) s).looks)

pub next_looks : {tables : Tables} {s t : State} {m : Words} (table lo hi : ℕ) → table ≡ word m R1 → lo ≡ word m R2 → hi ≡ word m R3 → NextParts tables s m t → (last : ℕ) × (t.looks ≡ (with_range_look table lo hi last s).looks)
next_looks {s = s} {m = m} table lo hi table_is lo_is hi_is p =
    let first = first_in (look_at (word m R1) (word m R2) (word m R3)) s.rows in
    let last = last_seen (word m R3) first in (
      last,
      ap (λ (t : State). t.looks) (p.after ∙ ap (with_answer (flag first)) (range_stack (word m R1) (word m R2) (word m R3) last _ s))
          ∙ (λ i. (with_range_look (sym table_is i) (sym lo_is i) (sym hi_is i) last s).looks),
    )

-- ---- what one state that can make the call tells

pub flag_map : {X Y : Type 0} (f : X → Y) (o : Option X) → flag (option_map f o) ≡ flag o
flag_map f None = refl
flag_map f (Some x) = refl

some_state : (o : Option State) → o ≢ None → (t : State) × (o ≡ Some t)
some_state None runs = absurd (runs refl)
some_state (Some t) runs = (t, refl)

not_none : {X : Type 0} (o : Option X) (x : X) → o ≡ Some x → o ≢ None
not_none o x some none = absurd (cc)

pub one_width : (o : Option ℕ) (a b : ℕ) → o ≡ Some a → o ≡ Some b → a ≡ b
one_width o a b p q = cc

row_long : (tables : Tables) (rows : Rows) (table key width : ℕ) (found : Option (List ℕ)) → AreRows tables rows → get tables table ≡ Some width → found ≡ row_at rows table key → length (row_or_zeros width found) ≡ width
row_long tables rows table key width None are has e = length-replicate width 0
row_long tables rows table key width (Some bytes) are has e = one_width (get tables table) (length bytes) width (are table key bytes (sym e)).width has

abbrev FirstLaw : Type 0
FirstLaw = (look : Look) (rows : Rows) (k : Key) (bytes : List ℕ) → (first_in look rows ≡ Some (k, bytes)) ↔ IsFirst look rows k bytes

abbrev CoverLaw : Type 0
CoverLaw = (look : Look) (k : Key) → IsTrue (covers look k) ↔ ((look.table ≡ k.0) × (look.lo ≤ k.1) × (k.1 ≤ look.hi))

first_long : (tables : Tables) (rows : Rows) (look : Look) (width : ℕ) (found : Option (Key × List ℕ)) → FirstLaw → CoverLaw → AreRows tables rows → get tables look.table ≡ Some width → found ≡ first_in look rows → length (row_or_zeros width (row_of found)) ≡ width
first_long tables rows look width None first cover are has e = length-replicate width 0
first_long tables rows look width (Some (k, bytes)) first cover are has e =
    let found : IsFirst look rows k bytes = (first look rows k bytes).0 (sym e) in
    let same : look.table ≡ k.0 = ((cover look k).0 found.covered).0 in
    one_width (get tables look.table) (length bytes) width (ap (get tables) same ∙ (are k.0 k.1 bytes found.stands).width) has

buffer_room : (laws : HeldLaws) (m : Words) (s : State) (r : Register) (address count at : ℕ) → Holds s m → address ≡ word m r → buffer_of (register s r) count ≡ Some at → InStack address count
buffer_room laws m s r address count at held address_is some = laws.buffer (register s r) address count (subst (IsWordOf (register s r)) (sym address_is) (laws.register s m r held)) (not_none _ at some)

module _ {A : Type 0} {answers_from : Rows → Type 0} {own : Own A} {tables : Tables} {m : Words} (laws : HeldLaws) where
  pub get_table : CanCall answers_from tables RowGet m own → get tables (word m R1) ≢ None
  get_table (s, held, view, rows, runs) = (
      let (t, e) = some_state (state_after_call tables RowGet s) runs in
      let p = get_parts laws tables s m held t e in not_none _ p.width p.has)

  pub put_table : CanCall answers_from tables RowPut m own → get tables (word m R1) ≢ None
  put_table (s, held, view, rows, runs) = (
      let (t, e) = some_state (state_after_call tables RowPut s) runs in
      let p = put_parts laws tables s m held t e in not_none _ p.width p.has)

  pub delete_table : CanCall answers_from tables RowDelete m own → get tables (word m R1) ≢ None
  delete_table (s, held, view, rows, runs) = (
      let (t, e) = some_state (state_after_call tables RowDelete s) runs in
      let p = delete_parts laws tables s m held t e in not_none _ p.width p.has)

  pub count_table : CanCall answers_from tables RangeCount m own → get tables (word m R1) ≢ None
  count_table (s, held, view, rows, runs) = (
      let (t, e) = some_state (state_after_call tables RangeCount s) runs in
      let p = count_parts laws tables s m held t e in not_none _ p.width p.has)

  pub next_table : CanCall answers_from tables RangeNext m own → get tables (word m R1) ≢ None
  next_table (s, held, view, rows, runs) = (
      let (t, e) = some_state (state_after_call tables RangeNext s) runs in
      let p = next_parts laws tables s m held t e in not_none _ p.width p.has)

  -- the bytes that a get writes are as many as its buffer has, and that lies in the stack
  pub get_bytes : (table key width address : ℕ) (bytes : List ℕ) (found : Option (List ℕ)) → CanCall answers_from tables RowGet m own
      → table ≡ word m R1 → address ≡ word m R3 → get tables (word m R1) ≡ Some width → bytes ≡ row_or_zeros width found
      → ((s : State) → IsReadOf answers_from own.looks own.writes s → found ≡ row_at s.rows table key)
      → InStack address (length bytes) × (length bytes ≡ width)
  get_bytes table key width address bytes found (s, held, view, rows, runs) table_is address_is has bytes_are found_is = (
      let (t, e) = some_state (state_after_call tables RowGet s) runs in
      let p = get_parts laws tables s m held t e in
      let long : length bytes ≡ width = ap length bytes_are ∙ row_long tables s.rows table key width found rows (ap (get tables) table_is ∙ has) (found_is s view.read) in
      let wide : length bytes ≡ p.width = long ∙ one_width (get tables (word m R1)) width p.width has p.has in
      (buffer_room laws m s R3 address (length bytes) p.buffer held address_is (ap (buffer_of (register s R3)) wide ∙ p.at), long))

  -- the buffer that a put reads lies in the stack
  pub put_room : (width address : ℕ) → CanCall answers_from tables RowPut m own → address ≡ word m R3 → get tables (word m R1) ≡ Some width → InStack address width
  put_room width address (s, held, view, rows, runs) address_is has = (
      let (t, e) = some_state (state_after_call tables RowPut s) runs in
      let p = put_parts laws tables s m held t e in
      let wide = one_width (get tables (word m R1)) width p.width has p.has in
      buffer_room laws m s R3 address width p.buffer held address_is (ap (buffer_of (register s R3)) wide ∙ p.at))

  -- the two buffers that a next writes lie there too
  pub next_key_room : (key_bytes : List ℕ) (address : ℕ) → CanCall answers_from tables RangeNext m own → address ≡ word m R4 → length key_bytes ≡ 8 → InStack address (length key_bytes)
  next_key_room key_bytes address (s, held, view, rows, runs) address_is eight = (
      let (t, e) = some_state (state_after_call tables RangeNext s) runs in
      let p = next_parts laws tables s m held t e in
      buffer_room laws m s R4 address (length key_bytes) p.key_buffer held address_is (ap (buffer_of (register s R4)) eight ∙ p.key_at))

  pub next_bytes : (look : Look) (width address : ℕ) (bytes : List ℕ) (found : Option (Key × List ℕ)) → FirstLaw → CoverLaw → CanCall answers_from tables RangeNext m own
      → look.table ≡ word m R1 → address ≡ word m R5 → get tables (word m R1) ≡ Some width → bytes ≡ row_or_zeros width (row_of found)
      → ((s : State) → IsReadOf answers_from own.looks own.writes s → found ≡ first_in look s.rows)
      → InStack address (length bytes) × (length bytes ≡ width)
  next_bytes look width address bytes found first cover (s, held, view, rows, runs) table_is address_is has bytes_are found_is = (
      let (t, e) = some_state (state_after_call tables RangeNext s) runs in
      let p = next_parts laws tables s m held t e in
      let long : length bytes ≡ width = ap length bytes_are ∙ first_long tables s.rows look width found first cover rows (ap (get tables) table_is ∙ has) (found_is s view.read) in
      let wide : length bytes ≡ p.width = long ∙ one_width (get tables (word m R1)) width p.width has p.has in
      (buffer_room laws m s R5 address (length bytes) p.row_buffer held address_is (ap (buffer_of (register s R5)) wide ∙ p.row_at), long))
