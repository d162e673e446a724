-- What each helper looks at, what a put leaves at its key, and how far a place goes.
use Rattle.std.proofs.Common.{◌≡◌, ◌≢◌, ℕ, zero, suc, ℤ, pos, negsuc, Bool, true, false, cond, ◌+◌, ◌<◌, ◌≤◌, List, [], ◌∷◌, ◌++◌, length, take, drop, Option, Some, None, refl, sym, ap, subst, ◌∙◌, arith}
use Rattle.std.specs.Prelude.{◌≤ℤ◌, ◌+ℤ◌, nat_le, is_some, IsSome, map}
use Rattle.std.specs.FinMap.{get, get-insert}
use Rattle.std.specs.Option.{option_map}
use Rattle.std.proofs.lemmas.Bool.Decides.{nat_tests}
use Rattle.std.proofs.lemmas.Int.{ints}
use Rattle.bpf_code.specs.declared.instruction.Register.TheVariants.{R1, R2, R3, R4, R5}
use Rattle.schema.specs.Schema.{Tables}
use Rattle.schema.specs.declared.look.Look.{Look}
use Rattle.schema.specs.Rows.{Key, key_cmp_total, Rows, Writes, row_at, first_in, with_write, after_write}
use Rattle.schema.proofs.RowsLemmas.{get-after_write, here}
use Rattle.schema.specs.declared.helper.Helper.{Helper}
use Rattle.schema.specs.declared.helper.Helper.TheVariants.{RowGet, RowPut, RowDelete, RangeCount, RangeNext, Cancel}
use Rattle.bpf_semantics.specs.declared.value.Value.{Value}
use Rattle.bpf_semantics.specs.declared.value.Value.TheVariants.{Nothing, Number, Stack, Args}
use Rattle.bpf_semantics.specs.State.{State, register, number}
use Rattle.bpf_semantics.specs.Memory.{known_list, known_bytes, stack_index, stack_with}
use Rattle.bpf_semantics.specs.Helpers.{Table, table_of, buffer_of, state_after_call, row_get, row_put, range_next, with_answer, with_stack, with_look, with_point_look, with_range_look, look_at, last_seen, row_or_zeros, key_or_zeros, row_of}
use Rattle.bpf_semantics.specs.Step.{near_place, moved_place}
use Rattle.bpf_semantics.specs.Fit.{IsPlace, PutLeaves}
use Rattle.bpf_semantics.proofs.StepLemmas.{just, bound, some_is}
use Rattle.std.proofs.lemmas.List.{length-map, length-drop, length-take-le}
use Rattle.bpf_semantics.proofs.FitLemmas.{near_fits, mapped, buffer_within}

-- ---- arguments

number_is : (v : Value) (m n : ℕ) → v ≡ Number m → number v ≡ just n → n ≡ m
number_is v m n is e = sym (some_is m n (sym (ap number is) ∙ e))

table_is : (tables : Tables) (v : Value) (m : ℕ) (t : Table) → v ≡ Number m → table_of tables v ≡ just t → t.table ≡ m
table_is tables v m t is e =
    let a = bound _ _ t e in
    let b = bound _ _ t a.2 in
    sym (ap (λ (x : Table). x.table) (some_is _ t b.2)) ∙ number_is v m a.0 is a.1

-- ---- looks

-- what a get adds
point_looks : (table key : ℕ) (s : State) → ((get s.writes (table, key) ≡ None) → (with_point_look table key s).looks ≡ s.looks ++ look_at table key key ∷ [])
    × (IsSome (get s.writes (table, key)) → (with_point_look table key s).looks ≡ s.looks)
point_looks table key s =
    elim (get s.writes (table, key)) as (λ o. ((o ≡ None) → (cond (is_some o) s (with_look (look_at table key key) s)).looks ≡ s.looks ++ look_at table key key ∷ [])
    × (IsSome o → (cond (is_some o) s (with_look (look_at table key key) s)).looks ≡ s.looks)) [
      | None ↦ (λ e. refl, λ e. absurd cc)
      | Some w ↦ (λ e. absurd cc, λ e. refl)
    ]

range_looks : (table lo hi last : ℕ) (s : State) → (lo ≤ hi → (with_range_look table lo hi last s).looks ≡ s.looks ++ look_at table lo last ∷ []) × (hi < lo → (with_range_look table lo hi last s).looks ≡ s.looks)
range_looks table lo hi last s =
    elim (nat_le lo hi) as (λ b. nat_le lo hi ≡ b → (lo ≤ hi → (cond b (with_look (look_at table lo last) s) s).looks ≡ s.looks ++ look_at table lo last ∷ []) × (hi < lo → (cond b (with_look (look_at table lo last) s) s).looks ≡ s.looks)) [
      | true ↦ λ e. (λ h. refl, λ h. absurd (grind (arith, nat_tests)))
      | false ↦ λ e. (λ h. absurd (grind (arith, nat_tests)), λ h. refl)
    ] refl

-- the looks of a state whose look was made on a state with another stack
abbrev LooksOf : State → List Look → Type 0
LooksOf u looks = u.looks ≡ looks

pub get_looks : (tables : Tables) (s u : State) (table key : ℕ) → state_after_call tables RowGet s ≡ just u → register s R1 ≡ Number table → register s R2 ≡ Number key
    → ((get s.writes (table, key) ≡ None) → u.looks ≡ s.looks ++ look_at table key key ∷ []) × (IsSome (get s.writes (table, key)) → u.looks ≡ s.looks)
unfolding state_after_call row_get
get_looks tables s u table key e is_table is_key =
    let a = bound _ _ u e in
    let b = bound _ _ u a.2 in
    let d = bound _ _ u b.2 in
    let t = table_is tables (register s R1) table a.0 is_table a.1 in
    let k = number_is (register s R2) key b.0 is_key b.1 in
    let stack = stack_with s.stack d.0 (row_or_zeros a.0.width (row_at s.rows a.0.table b.0)) in
    let looks = point_looks a.0.table b.0 (with_stack stack s) in
    let last = ap (λ (x : State). x.looks) (sym (some_is _ u d.2)) in
    let P : ℕ → ℕ → Type 0 = λ (m : ℕ) (n : ℕ). ((get s.writes (m, n) ≡ None) → u.looks ≡ s.looks ++ look_at m n n ∷ []) × (IsSome (get s.writes (m, n)) → u.looks ≡ s.looks) in
    let at : P a.0.table b.0 = (λ h. last ∙ looks.0 h, λ h. last ∙ looks.1 h) in
    subst (λ (m : ℕ). P m key) t (subst (λ (n : ℕ). P a.0.table n) k at)

pub count_looks : (tables : Tables) (s u : State) (table lo hi : ℕ) → state_after_call tables RangeCount s ≡ just u → register s R1 ≡ Number table → register s R2 ≡ Number lo → register s R3 ≡ Number hi
    → (lo ≤ hi → u.looks ≡ s.looks ++ look_at table lo hi ∷ []) × (hi < lo → u.looks ≡ s.looks)
unfolding state_after_call
count_looks tables s u table lo hi e is_table is_lo is_hi =
    let a = bound _ _ u e in
    let b = bound _ _ u a.2 in
    let d = bound _ _ u b.2 in
    let t = table_is tables (register s R1) table a.0 is_table a.1 in
    let l = number_is (register s R2) lo b.0 is_lo b.1 in
    let h = number_is (register s R3) hi d.0 is_hi d.1 in
    let looks = range_looks a.0.table b.0 d.0 d.0 s in
    let last = ap (λ (x : State). x.looks) (sym (some_is _ u d.2)) in
    let P : ℕ → ℕ → ℕ → Type 0 = λ (m : ℕ) (n : ℕ) (o : ℕ). (n ≤ o → u.looks ≡ s.looks ++ look_at m n o ∷ []) × (o < n → u.looks ≡ s.looks) in
    let at : P a.0.table b.0 d.0 = (λ g. last ∙ looks.0 g, λ g. last ∙ looks.1 g) in
    subst (λ (m : ℕ). P m lo hi) t (subst (λ (n : ℕ). P a.0.table n hi) l (subst (λ (o : ℕ). P a.0.table b.0 o) h at))

pub next_looks_at : (tables : Tables) (s u : State) (table lo hi : ℕ) → state_after_call tables RangeNext s ≡ just u → register s R1 ≡ Number table → register s R2 ≡ Number lo → register s R3 ≡ Number hi
    → (lo ≤ hi → u.looks ≡ s.looks ++ look_at table lo (last_seen hi (first_in (look_at table lo hi) s.rows)) ∷ []) × (hi < lo → u.looks ≡ s.looks)
unfolding state_after_call range_next
next_looks_at tables s u table lo hi e is_table is_lo is_hi =
    let a = bound _ _ u e in
    let b = bound _ _ u a.2 in
    let d = bound _ _ u b.2 in
    let f = bound _ _ u d.2 in
    let g = bound _ _ u f.2 in
    let t = table_is tables (register s R1) table a.0 is_table a.1 in
    let l = number_is (register s R2) lo b.0 is_lo b.1 in
    let h = number_is (register s R3) hi d.0 is_hi d.1 in
    let found = first_in (look_at a.0.table b.0 d.0) s.rows in
    let stack = stack_with (stack_with s.stack f.0 (key_or_zeros (first_in (look_at a.0.table b.0 d.0) s.rows))) g.0 (row_or_zeros a.0.width (row_of (first_in (look_at a.0.table b.0 d.0) s.rows))) in
    let looks = range_looks a.0.table b.0 d.0 (last_seen d.0 (first_in (look_at a.0.table b.0 d.0) s.rows)) (with_stack stack s) in
    let last = ap (λ (x : State). x.looks) (sym (some_is _ u g.2)) in
    let P : ℕ → ℕ → ℕ → Type 0 = λ (m : ℕ) (n : ℕ) (o : ℕ). (n ≤ o → u.looks ≡ s.looks ++ look_at m n (last_seen o (first_in (look_at m n o) s.rows)) ∷ []) × (o < n → u.looks ≡ s.looks) in
    let at : P a.0.table b.0 d.0 = (λ q. last ∙ looks.0 q, λ q. last ∙ looks.1 q) in
    subst (λ (m : ℕ). P m lo hi) t (subst (λ (n : ℕ). P a.0.table n hi) l (subst (λ (o : ℕ). P a.0.table b.0 o) h at))

pub put_looks : (tables : Tables) (s u : State) → state_after_call tables RowPut s ≡ just u → u.looks ≡ s.looks
unfolding state_after_call row_put
put_looks tables s u e =
    let a = bound _ _ u e in
    let b = bound _ _ u a.2 in
    let d = bound _ _ u b.2 in
    let f = bound _ _ u d.2 in
    ap (λ (x : State). x.looks) (sym (some_is _ u f.2))

pub delete_looks : (tables : Tables) (s u : State) → state_after_call tables RowDelete s ≡ just u → u.looks ≡ s.looks
unfolding state_after_call
delete_looks tables s u e =
    let a = bound _ _ u e in
    let b = bound _ _ u a.2 in
    ap (λ (x : State). x.looks) (sym (some_is _ u b.2))

pub cancel_looks : (tables : Tables) (s u : State) → state_after_call tables Cancel s ≡ just u → u.looks ≡ s.looks
unfolding state_after_call
cancel_looks tables s u e = let a = bound _ _ u e in ap (λ (x : State). x.looks) (sym (some_is _ u a.2))

-- ---- what a put leaves

known_are : (xs : List (Option ℕ)) (bytes : List ℕ) → known_list xs ≡ just bytes → xs ≡ map (λ b. just b) bytes
unfolding known_list
known_are [] bytes e = ap (map (λ b. just b)) (some_is [] bytes e)
known_are (None ∷ xs) bytes e = absurd cc
known_are (Some b ∷ xs) bytes e =
    let m = mapped (λ bs. b ∷ bs) (known_list xs) bytes e in
    ap (λ (l : List (Option ℕ)). just b ∷ l) (known_are xs m.0 m.1) ∙ ap (map (λ b. just b)) m.2

width_of : (tables : Tables) (v : Value) (m width : ℕ) (t : Table) → v ≡ Number m → get tables m ≡ just width → table_of tables v ≡ just t → t.width ≡ width
width_of tables v m width t is known e =
    let a = bound _ _ t e in
    let b = bound _ _ t a.2 in
    let n = number_is v m a.0 is a.1 in
    sym (ap (λ (x : Table). x.width) (some_is _ t b.2)) ∙ some_is b.0 width (sym b.1 ∙ ap (get tables) n ∙ known)

buffer_at : (v : Value) (place : ℤ) (width k : ℕ) → v ≡ Stack place → buffer_of v width ≡ just k → stack_index place width ≡ just k
buffer_at v place width k is e = sym (ap (λ (x : Value). buffer_of x width) is) ∙ e

wide_as : (stack : List (Option ℕ)) (k count : ℕ) (bytes : List ℕ) → length stack ≡ 512 → k + count ≤ 512 → take count (drop k stack) ≡ map (λ b. just b) bytes → length bytes ≡ count
wide_as stack k count bytes whole within same =
    let mapped_length : length (map (λ b. just b) bytes) ≡ length bytes = length-map bytes (λ b. just b) in
    sym mapped_length ∙ ap length (sym same) ∙ length-take-le count (drop k stack) (let l = length-drop k stack in omega arith)

pub put_leaves : (tables : Tables) (s u : State) (table key width : ℕ) (place : ℤ) → state_after_call tables RowPut s ≡ just u → register s R1 ≡ Number table → register s R2 ≡ Number key → register s R3 ≡ Stack place
    → get tables table ≡ just width → length s.stack ≡ 512 → (bytes : List ℕ) × PutLeaves s u table key width place bytes
unfolding state_after_call row_put
put_leaves tables s u table key width place e is_table is_key is_place known whole =
    let a = bound _ _ u e in
    let b = bound _ _ u a.2 in
    let d = bound _ _ u b.2 in
    let f = bound _ _ u d.2 in
    let t = table_is tables (register s R1) table a.0 is_table a.1 in
    let k = number_is (register s R2) key b.0 is_key b.1 in
    let w = width_of tables (register s R1) table width a.0 is_table known a.1 in
    let from = buffer_at (register s R3) place a.0.width d.0 is_place d.1 in
    let bytes = known_are (take a.0.width (drop d.0 s.stack)) f.0 f.1 in
    let at = some_is _ u f.2 in
    let wide : length f.0 ≡ a.0.width = wide_as s.stack d.0 a.0.width f.0 whole (buffer_within (register s R3) a.0.width d.0 d.1) bytes in
    let same : (a.0.table, b.0) ≡ (table, key) = ap (λ (m : ℕ). (m, b.0)) t ∙ ap (λ (n : ℕ). (table, n)) k in
    let row : get u.rows (a.0.table, b.0) ≡ just f.0 =
    ap (λ (x : State). get x.rows (a.0.table, b.0)) (sym at) ∙ get-after_write s.rows (a.0.table, b.0) (a.0.table, b.0) (Some f.0) ∙ here (a.0.table, b.0) _ _ in
    let write : get u.writes (a.0.table, b.0) ≡ just (just f.0) =
    ap (λ (x : State). get x.writes (a.0.table, b.0)) (sym at) ∙ get-insert key_cmp_total s.writes (a.0.table, b.0) (Some f.0) (a.0.table, b.0) ∙ here (a.0.table, b.0) _ _ in (
      f.0,
      record {
        from = d.0;
        at = subst (λ (n : ℕ). stack_index place n ≡ just d.0) w from;
        read = subst (λ (n : ℕ). take n (drop d.0 s.stack) ≡ map (λ b. just b) f.0) w bytes;
        wide = wide ∙ w;
        row = ap (get u.rows) (sym same) ∙ row;
        write = ap (get u.writes) (sym same) ∙ write;
      },
    )

pub removal_leaves : (tables : Tables) (s u : State) (table key : ℕ) → state_after_call tables RowDelete s ≡ just u → register s R1 ≡ Number table → register s R2 ≡ Number key
    → (get u.rows (table, key) ≡ None) × (get u.writes (table, key) ≡ just None)
unfolding state_after_call
removal_leaves tables s u table key e is_table is_key =
    let a = bound _ _ u e in
    let b = bound _ _ u a.2 in
    let t = table_is tables (register s R1) table a.0 is_table a.1 in
    let k = number_is (register s R2) key b.0 is_key b.1 in
    let at = some_is _ u b.2 in
    let row : get u.rows (a.0.table, b.0) ≡ None =
    ap (λ (x : State). get x.rows (a.0.table, b.0)) (sym at) ∙ get-after_write s.rows (a.0.table, b.0) (a.0.table, b.0) None ∙ here (a.0.table, b.0) _ _ in
    let write : get u.writes (a.0.table, b.0) ≡ just None =
    ap (λ (x : State). get x.writes (a.0.table, b.0)) (sym at) ∙ get-insert key_cmp_total s.writes (a.0.table, b.0) None (a.0.table, b.0) ∙ here (a.0.table, b.0) _ _ in
    let P : ℕ → ℕ → Type 0 = λ (m : ℕ) (n : ℕ). (get u.rows (m, n) ≡ None) × (get u.writes (m, n) ≡ just None) in
    subst (λ (m : ℕ). P m key) t (subst (λ (n : ℕ). P a.0.table n) k (row, write))

-- ---- places

pub near_is : (place : ℤ) → IsPlace place → near_place place ≡ just place
near_is (pos n) fits =
    elim (nat_le n 65536) as (λ b. nat_le n 65536 ≡ b → cond b (just (pos n)) None ≡ just (pos n)) [
      | true ↦ λ e. refl
      | false ↦ λ e. absurd (let most : n ≤ 65536 = search (arith, ints, fits.1) in grind (arith, nat_tests))
    ] refl
near_is (negsuc n) fits =
    elim (nat_le (suc n) 65536) as (λ b. nat_le (suc n) 65536 ≡ b → cond b (just (negsuc n)) None ≡ just (negsuc n)) [
      | true ↦ λ e. refl
      | false ↦ λ e. absurd (let most : n ≤ 65535 = search (arith, ints, fits.0) in grind (arith, nat_tests))
    ] refl

near_same : (z place : ℤ) → near_place z ≡ just place → z ≡ place
near_same (pos n) place e = elim (nat_le n 65536) as (λ b. cond b (just (pos n)) None ≡ just place → pos n ≡ place) [ true ↦ λ h. some_is (pos n) place h | false ↦ λ h. absurd cc ] e
near_same (negsuc n) place e = elim (nat_le (suc n) 65536) as (λ b. cond b (just (negsuc n)) None ≡ just place → negsuc n ≡ place) [ true ↦ λ h. some_is (negsuc n) place h | false ↦ λ h. absurd cc ] e

pub stack_moves : (place distance : ℤ) → IsPlace (place +ℤ distance) → moved_place (Stack place) distance ≡ just (Stack (place +ℤ distance))
stack_moves place distance fits = ap (option_map (λ p. Stack p)) (near_is (place +ℤ distance) fits)

pub args_move : (place distance : ℤ) → IsPlace (place +ℤ distance) → moved_place (Args place) distance ≡ just (Args (place +ℤ distance))
args_move place distance fits = ap (option_map (λ p. Args p)) (near_is (place +ℤ distance) fits)

moved_near : (f : ℤ → Value) (z : ℤ) (v : Value) → option_map f (near_place z) ≡ just v → IsPlace z
moved_near f z v e = let m = mapped f (near_place z) v e in subst IsPlace (sym (near_same z m.0 m.1)) (near_fits z m.0 m.1)

pub stack_moved_near : (place distance : ℤ) (v : Value) → moved_place (Stack place) distance ≡ just v → IsPlace (place +ℤ distance)
stack_moved_near place distance v e = moved_near (λ p. Stack p) (place +ℤ distance) v e

pub args_moved_near : (place distance : ℤ) (v : Value) → moved_place (Args place) distance ≡ just v → IsPlace (place +ℤ distance)
args_moved_near place distance v e = moved_near (λ p. Args p) (place +ℤ distance) v e

pub some_of : {X : Type 0} (o : Option X) → IsSome o → (x : X) × (o ≡ just x)
some_of None some = absurd cc
some_of (Some x) some = (x, refl)
