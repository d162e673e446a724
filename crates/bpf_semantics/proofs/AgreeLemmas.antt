-- A run depends on the rows only where it looks: helpers and single steps.
use Rattle.std.proofs.Common.{◌≡◌, ℕ, Bool, true, false, cond, ◌%◌, ◌^◌, ◌≤◌, List, [], ◌∷◌, ◌++◌, Option, Some, None, refl, sym, ap, subst, ◌∙◌, arith, unwrap_or, inl, inr}
use Rattle.std.specs.Prelude.{is_some, nat_le, nat_eq, slice_get, IsSome, ◌||◌, ◌&&◌}
use Rattle.std.specs.FinMap.{get, len, entries}
use Rattle.std.proofs.lemmas.Bool.Decides.{nat_tests}
use Rattle.std.proofs.lemmas.Bool.{cases_lt}
use Rattle.schema.specs.Schema.{Tables}
use Rattle.schema.specs.declared.look.Look.{Look}
use Rattle.schema.specs.Rows.{Rows, Key, Writes, covers, any_covers, AgreeOn, row_at, after_writes, count_in, first_in}
use Rattle.schema.proofs.RowsLemmas.{get-after_writes}
use Rattle.schema.proofs.LookLemmas.{rows_in_agree, is_first, first_is}
use Rattle.schema.specs.declared.helper.Helper.{Helper}
use Rattle.schema.specs.declared.helper.Helper.TheVariants.{RowGet, RowPut, RowDelete, RangeCount, RangeNext, Cancel}
use Rattle.bpf_semantics.specs.State.{State}
use Rattle.bpf_semantics.specs.Memory.{and_then, stack_with}
use Rattle.bpf_semantics.specs.Helpers.{Table, state_after_call, row_get, row_put, range_count, range_next, with_point_look, with_range_look, with_row_read, with_next_read, look_at, last_seen, with_answer, flag, with_stack, row_or_zeros, key_or_zeros, row_of}
use Rattle.bpf_semantics.proofs.StepLemmas.{just}

-- the same state over other rows
abbrev pub over : Rows → State → State
over rows s = record s { rows = rows }

-- ---- which rows are the same

-- a key inside the last of the looks
last_covers : (looks : List Look) (look : Look) (k : Key) → covers look k ≡ true → any_covers (looks ++ look ∷ []) k ≡ true
last_covers [] look k e = rw e refl
last_covers (l ∷ looks) look k e = elim (covers l k) as (λ b. (b || any_covers (looks ++ look ∷ []) k) ≡ true) [ true ↦ refl | false ↦ last_covers looks look k e ]

agree_last : (looks : List Look) (look : Look) (m n : Rows) → AgreeOn (any_covers (looks ++ look ∷ [])) m n → AgreeOn (covers look) m n
agree_last looks look m n h k e = h k (last_covers looks look k e)

covered : (table lo hi : ℕ) (k : Key) → table ≡ k.0 → lo ≤ k.1 → k.1 ≤ hi → covers (look_at table lo hi) k ≡ true
covered table lo hi k e f g = grind (arith, nat_tests)

record Covered (table lo hi : ℕ) (k : Key) : Type 0 where
  table_is : table ≡ k.0
  from : lo ≤ k.1
  to : k.1 ≤ hi

and_parts : (a b : Bool) → (a && b) ≡ true → (a ≡ true) × (b ≡ true)
and_parts true b e = (refl, e)
and_parts false b e = absurd cc

covered_is : (table lo hi : ℕ) (k : Key) → covers (look_at table lo hi) k ≡ true → Covered table lo hi k
covered_is table lo hi k e =
    let a = and_parts (nat_eq table k.0 && nat_le lo k.1) (nat_le k.1 hi) e in
    let b = and_parts (nat_eq table k.0) (nat_le lo k.1) a.0 in
    let x : table ≡ k.0 = let h = b.0 in grind (arith, nat_tests) in
    let y : lo ≤ k.1 = let h = b.1 in grind (arith, nat_tests) in
    let z : k.1 ≤ hi = let h = a.1 in grind (arith, nat_tests) in
    record { table_is = x; from = y; to = z }

-- maps that agree still do after the same writes
agree_after : (passes : Key → Bool) (w : Writes) (m n : Rows) → AgreeOn passes m n → AgreeOn passes (after_writes w m) (after_writes w n)
agree_after passes w m n h k e = get-after_writes w m k ∙ ap (λ (o : Option (List ℕ)). unwrap_or (get w k) o) (h k e) ∙ sym (get-after_writes w n k)

point_same : (table key : ℕ) (s : State) (m n : Rows) → AgreeOn (any_covers (with_point_look table key s).looks) m n
    → get (after_writes s.writes m) (table, key) ≡ get (after_writes s.writes n) (table, key)
point_same table key s m n h =
    let inner : unwrap_or (get s.writes (table, key)) (get m (table, key)) ≡ unwrap_or (get s.writes (table, key)) (get n (table, key)) =
    elim (get s.writes (table, key)) as (λ o. AgreeOn (any_covers (cond (is_some o) s (record s { looks = s.looks ++ look_at table key key ∷ [] })).looks) m n
    → unwrap_or o (get m (table, key)) ≡ unwrap_or o (get n (table, key))) [
      | Some write ↦ λ a. refl
      | None ↦ λ a. agree_last s.looks (look_at table key key) m n a (table, key) (covered table key key (table, key) refl (omega arith) (omega arith))
    ] h in
    get-after_writes s.writes m (table, key) ∙ inner ∙ sym (get-after_writes s.writes n (table, key))

-- a look that is recorded, or over an empty range
range_agrees : (table lo hi last : ℕ) (s : State) (m n : Rows) → last ≤ hi → AgreeOn (any_covers (with_range_look table lo hi last s).looks) m n → AgreeOn (covers (look_at table lo last)) m n
range_agrees table lo hi last s m n within h =
    elim (nat_le lo hi) as (λ b. nat_le lo hi ≡ b → AgreeOn (any_covers (cond b (record s { looks = s.looks ++ look_at table lo last ∷ [] }) s).looks) m n → AgreeOn (covers (look_at table lo last)) m n) [
      | true ↦ λ e a. agree_last s.looks (look_at table lo last) m n a
      | false ↦ λ e a k inside.
          let c = covered_is table lo last k inside in
          let from = c.from in
          let to = c.to in
          absurd (grind (arith, nat_tests))
    ] refl h

count_same : (table lo hi : ℕ) (s : State) (m n : Rows) → AgreeOn (any_covers (with_range_look table lo hi hi s).looks) m n
    → count_in (look_at table lo hi) (after_writes s.writes m) ≡ count_in (look_at table lo hi) (after_writes s.writes n)
count_same table lo hi s m n h =
    let agree = agree_after (covers (look_at table lo hi)) s.writes m n (range_agrees table lo hi hi s m n (omega arith) h) in
    ap len (rows_in_agree (look_at table lo hi) (after_writes s.writes m) (after_writes s.writes n) agree)

-- the first row from lo on is the same where the maps agree up to it, or up to hi where there is none
first_found : (table lo hi : ℕ) (m n : Rows) (found : Option (Key × List ℕ)) → first_in (look_at table lo hi) m ≡ found → AgreeOn (covers (look_at table lo (last_seen hi found))) m n
    → first_in (look_at table lo hi) n ≡ found
first_found table lo hi m n None e agree =
    ap (λ (rows : Rows). slice_get (entries rows) 0) (sym (rows_in_agree (look_at table lo hi) m n agree)) ∙ e
first_found table lo hi m n (Some (k, bytes)) e agree =
    let first = is_first (look_at table lo hi) m k bytes e in
    let at = covered_is table lo hi k first.covered in
    let here : covers (look_at table lo k.1) k ≡ true = covered table lo k.1 k at.table_is at.from (omega arith) in
    first_is (look_at table lo hi) n k bytes (record {
      covered = first.covered;
      stands = sym (agree k here) ∙ first.stands;
      least = λ q inside present.
          elim (cases_lt q.1 k.1) [
            | inl lt ↦
                let c = covered_is table lo hi q inside in
                let near_place : covers (look_at table lo k.1) q ≡ true = covered table lo k.1 q c.table_is c.from (omega arith) in
                first.least q inside (subst (λ o. IsSome o) (sym (agree q near_place)) present)
            | inr le ↦ le
          ];
    })

last_within : (table lo hi : ℕ) (m : Rows) (found : Option (Key × List ℕ)) → first_in (look_at table lo hi) m ≡ found → last_seen hi found ≤ hi
last_within table lo hi m None e = omega arith
last_within table lo hi m (Some (k, bytes)) e = (covered_is table lo hi k (is_first (look_at table lo hi) m k bytes e).covered).to

first_same : (table lo hi : ℕ) (s : State) (m n : Rows)
    → AgreeOn (any_covers (with_range_look table lo hi (last_seen hi (first_in (look_at table lo hi) (after_writes s.writes m))) s).looks) m n
    → first_in (look_at table lo hi) (after_writes s.writes n) ≡ first_in (look_at table lo hi) (after_writes s.writes m)
first_same table lo hi s m n h =
    let found = first_in (look_at table lo hi) (after_writes s.writes m) in
    let last = last_seen hi (first_in (look_at table lo hi) (after_writes s.writes m)) in
    let within = last_within table lo hi (after_writes s.writes m) (first_in (look_at table lo hi) (after_writes s.writes m)) refl in
    let agree = agree_after (covers (look_at table lo last)) s.writes m n (range_agrees table lo hi last s m n within h) in
    first_found table lo hi (after_writes s.writes m) (after_writes s.writes n) (first_in (look_at table lo hi) (after_writes s.writes m)) refl agree

-- ---- a helper on the same state over other rows

-- both can't be called, or both give the same state but for the rows
abbrev pub AreTwins : Option State → Option State → Type 0
AreTwins None None = Unit {0}
AreTwins (Some u) (Some v) = v ≡ over v.rows u
AreTwins _ _ = ⊥

bound_twins : {X : Type 0} (P : State → Type 0) (o : Option X) (f g : X → Option State) → ((u : State) → and_then o f ≡ just u → P u)
    → ((x : X) → ((u : State) → f x ≡ just u → P u) → AreTwins (f x) (g x)) → AreTwins (and_then o f) (and_then o g)
unfolding and_then
bound_twins P None f g h next = tt
bound_twins P (Some x) f g h next = next x h

-- looks are recorded alike
point_over : (table key : ℕ) (rows : Rows) (s : State) → with_point_look table key (over rows s) ≡ over rows (with_point_look table key s)
point_over table key rows s = elim (is_some (get s.writes (table, key))) as (λ b. cond b (over rows s) (record (over rows s) { looks = s.looks ++ look_at table key key ∷ [] }) ≡ over rows (cond b s (record s { looks = s.looks ++ look_at table key key ∷ [] }))) [ true ↦ refl | false ↦ refl ]

range_over : (table lo hi last : ℕ) (rows : Rows) (s : State) → with_range_look table lo hi last (over rows s) ≡ over rows (with_range_look table lo hi last s)
range_over table lo hi last rows s = elim (nat_le lo hi) as (λ b. cond b (record (over rows s) { looks = s.looks ++ look_at table lo last ∷ [] }) (over rows s) ≡ over rows (cond b (record s { looks = s.looks ++ look_at table lo last ∷ [] }) s)) [ true ↦ refl | false ↦ refl ]

twin_of : (rows : Rows) (u v : State) → v ≡ over rows u → v ≡ over v.rows u
twin_of rows u v e = e ∙ ap (λ (r : Rows). over r u) (sym (ap (λ (x : State). x.rows) e))

row_read_over : (rows : Rows) (s : State) (t : Table) (key buffer : ℕ) (found : Option (List ℕ)) → with_row_read (over rows s) t key buffer found ≡ over rows (with_row_read s t key buffer found)
row_read_over rows s t key buffer found =
    ap (with_answer (flag found)) (point_over t.table key rows (with_stack (stack_with s.stack buffer (row_or_zeros t.width found)) s))

next_read_over : (rows : Rows) (s : State) (t : Table) (lo hi key_buffer row_buffer : ℕ) (found : Option (Key × List ℕ))
    → with_next_read (over rows s) t lo hi key_buffer row_buffer found ≡ over rows (with_next_read s t lo hi key_buffer row_buffer found)
next_read_over rows s t lo hi key_buffer row_buffer found =
    ap (with_answer (flag found)) (range_over t.table lo hi (last_seen hi found) rows
    (with_stack (stack_with (stack_with s.stack key_buffer (key_or_zeros found)) row_buffer (row_or_zeros t.width (row_of found))) s))

row_read_twins : (m n rows : Rows) (s : State) (t : Table) (key buffer : ℕ) → s.rows ≡ after_writes s.writes m → rows ≡ after_writes s.writes n
    → AgreeOn (any_covers (with_row_read s t key buffer (row_at s.rows t.table key)).looks) m n
    → AreTwins (just (with_row_read s t key buffer (row_at s.rows t.table key))) (just (with_row_read (over rows s) t key buffer (row_at rows t.table key)))
row_read_twins m n rows s t key buffer e f agree =
    let same : row_at rows t.table key ≡ row_at s.rows t.table key =
    ap (λ (r : Rows). get r (t.table, key)) f
    ∙ sym (point_same t.table key (with_stack (stack_with s.stack buffer (row_or_zeros t.width (row_at s.rows t.table key))) s) m n agree)
    ∙ ap (λ (r : Rows). get r (t.table, key)) (sym e) in
    twin_of rows (with_row_read s t key buffer (row_at s.rows t.table key)) (with_row_read (over rows s) t key buffer (row_at rows t.table key))
    (ap (with_row_read (over rows s) t key buffer) same ∙ row_read_over rows s t key buffer (row_at s.rows t.table key))

count_twins : (m n rows : Rows) (s : State) (t : Table) (lo hi : ℕ) → s.rows ≡ after_writes s.writes m → rows ≡ after_writes s.writes n
    → AgreeOn (any_covers (range_count s t lo hi).looks) m n → AreTwins (just (range_count s t lo hi)) (just (range_count (over rows s) t lo hi))
count_twins m n rows s t lo hi e f agree =
    let same : count_in (look_at t.table lo hi) rows ≡ count_in (look_at t.table lo hi) s.rows =
    ap (count_in (look_at t.table lo hi)) f ∙ sym (count_same t.table lo hi s m n agree) ∙ ap (count_in (look_at t.table lo hi)) (sym e) in
    twin_of rows (range_count s t lo hi) (range_count (over rows s) t lo hi)
    (ap (λ (count : ℕ). with_answer (count % 2 ^ 64) (with_range_look t.table lo hi hi (over rows s))) same
    ∙ ap (with_answer (count_in (look_at t.table lo hi) s.rows % 2 ^ 64)) (range_over t.table lo hi hi rows s))

-- the stack has no part in the looks
range_looks : (table lo hi last : ℕ) (stack : List (Option ℕ)) (s : State) → (with_range_look table lo hi last (with_stack stack s)).looks ≡ (with_range_look table lo hi last s).looks
range_looks table lo hi last stack s = elim (nat_le lo hi) as (λ b. (cond b (record (with_stack stack s) { looks = s.looks ++ look_at table lo last ∷ [] }) (with_stack stack s)).looks ≡ (cond b (record s { looks = s.looks ++ look_at table lo last ∷ [] }) s).looks) [ true ↦ refl | false ↦ refl ]

next_looks : (s : State) (t : Table) (lo hi key_buffer row_buffer : ℕ) (found : Option (Key × List ℕ))
    → (with_next_read s t lo hi key_buffer row_buffer found).looks ≡ (with_range_look t.table lo hi (last_seen hi found) s).looks
next_looks s t lo hi key_buffer row_buffer found =
    range_looks t.table lo hi (last_seen hi found) (stack_with (stack_with s.stack key_buffer (key_or_zeros found)) row_buffer (row_or_zeros t.width (row_of found))) s

next_twins : (m n rows : Rows) (s : State) (t : Table) (lo hi key_buffer row_buffer : ℕ) → s.rows ≡ after_writes s.writes m → rows ≡ after_writes s.writes n
    → AgreeOn (any_covers (with_next_read s t lo hi key_buffer row_buffer (first_in (look_at t.table lo hi) s.rows)).looks) m n
    → AreTwins (just (with_next_read s t lo hi key_buffer row_buffer (first_in (look_at t.table lo hi) s.rows))) (just (with_next_read (over rows s) t lo hi key_buffer row_buffer (first_in (look_at t.table lo hi) rows)))
next_twins m n rows s t lo hi key_buffer row_buffer e f agree =
    let agree' : AgreeOn (any_covers (with_range_look t.table lo hi (last_seen hi (first_in (look_at t.table lo hi) (after_writes s.writes m))) s).looks) m n =
    subst (λ (r : Rows). AgreeOn (any_covers (with_range_look t.table lo hi (last_seen hi (first_in (look_at t.table lo hi) r)) s).looks) m n) e
    (subst (λ (l : List Look). AgreeOn (any_covers l) m n) (next_looks s t lo hi key_buffer row_buffer (first_in (look_at t.table lo hi) s.rows)) agree) in
    let same : first_in (look_at t.table lo hi) rows ≡ first_in (look_at t.table lo hi) s.rows =
    ap (first_in (look_at t.table lo hi)) f ∙ first_same t.table lo hi s m n agree' ∙ ap (first_in (look_at t.table lo hi)) (sym e) in
    twin_of rows (with_next_read s t lo hi key_buffer row_buffer (first_in (look_at t.table lo hi) s.rows)) (with_next_read (over rows s) t lo hi key_buffer row_buffer (first_in (look_at t.table lo hi) rows))
    (ap (with_next_read (over rows s) t lo hi key_buffer row_buffer) same ∙ next_read_over rows s t lo hi key_buffer row_buffer (first_in (look_at t.table lo hi) s.rows))

pub called_twins : (m n rows : Rows) (tables : Tables) (h : Helper) (s : State) → s.rows ≡ after_writes s.writes m → rows ≡ after_writes s.writes n
    → ((u : State) → state_after_call tables h s ≡ just u → AgreeOn (any_covers u.looks) m n) → AreTwins (state_after_call tables h s) (state_after_call tables h (over rows s))
unfolding state_after_call row_get row_put range_next
called_twins m n rows tables RowGet s e f agree =
    bound_twins (λ u. AgreeOn (any_covers u.looks) m n) _ _ _ agree (λ t a. bound_twins (λ u. AgreeOn (any_covers u.looks) m n) _ _ _ a (λ key b. bound_twins (λ u. AgreeOn (any_covers u.looks) m n) _ _ _ b (λ buffer d.
    row_read_twins m n rows s t key buffer e f (d (with_row_read s t key buffer (row_at s.rows t.table key)) refl))))
called_twins m n rows tables RowPut s e f agree =
    bound_twins (λ u. AgreeOn (any_covers u.looks) m n) _ _ _ agree (λ t a. bound_twins (λ u. AgreeOn (any_covers u.looks) m n) _ _ _ a (λ key b. bound_twins (λ u. AgreeOn (any_covers u.looks) m n) _ _ _ b (λ buffer d.
    bound_twins (λ u. AgreeOn (any_covers u.looks) m n) _ _ _ d (λ bytes g. refl))))
called_twins m n rows tables RowDelete s e f agree =
    bound_twins (λ u. AgreeOn (any_covers u.looks) m n) _ _ _ agree (λ t a. bound_twins (λ u. AgreeOn (any_covers u.looks) m n) _ _ _ a (λ key b. refl))
called_twins m n rows tables RangeCount s e f agree =
    bound_twins (λ u. AgreeOn (any_covers u.looks) m n) _ _ _ agree (λ t a. bound_twins (λ u. AgreeOn (any_covers u.looks) m n) _ _ _ a (λ lo b. bound_twins (λ u. AgreeOn (any_covers u.looks) m n) _ _ _ b (λ hi d.
    count_twins m n rows s t lo hi e f (d (range_count s t lo hi) refl))))
called_twins m n rows tables RangeNext s e f agree =
    bound_twins (λ u. AgreeOn (any_covers u.looks) m n) _ _ _ agree (λ t a. bound_twins (λ u. AgreeOn (any_covers u.looks) m n) _ _ _ a (λ lo b. bound_twins (λ u. AgreeOn (any_covers u.looks) m n) _ _ _ b (λ hi d.
    bound_twins (λ u. AgreeOn (any_covers u.looks) m n) _ _ _ d (λ key_buffer g. bound_twins (λ u. AgreeOn (any_covers u.looks) m n) _ _ _ g (λ row_buffer l.
    next_twins m n rows s t lo hi key_buffer row_buffer e f (l (with_next_read s t lo hi key_buffer row_buffer (first_in (look_at t.table lo hi) s.rows)) refl))))))
called_twins m n rows tables Cancel s e f agree =
    bound_twins (λ u. AgreeOn (any_covers u.looks) m n) _ _ _ agree (λ code a. refl)
