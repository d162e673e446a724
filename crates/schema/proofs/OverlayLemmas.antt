-- What a look counts and finds first after writes.
use Rattle.std.proofs.Common.{◌≡◌, ℕ, ◌+◌, ◌<◌, ◌≤◌, List, [], ◌∷◌, refl, sym, ap, subst, ◌∙◌, arith, Bool, true, false, cond}
use Rattle.std.specs.Prelude.{T, IsTrue, IsSome, Option, Some, None, is_some, unwrap_or, not, ◌&&◌, nat_le, count_by, slice_get}
use Rattle.std.specs.declared.cmp.Ordering.{Ordering}
use Rattle.std.specs.declared.cmp.Ordering.TheVariants.{Less, Equal, Greater}
use Rattle.std.specs.Option.{option_or, option_map}
use Rattle.std.specs.Ordering.{is_lt, is_gt, is_eq}
use Rattle.std.specs.List.{find as first_passing}
use Rattle.std.specs.FinMap.{empty, get, contains_key, retain_keys, entries, entries_sorted, get-entries, get-empty, find, is_sorted}
use Rattle.std.specs.FinMap.Entries.{below_all}
use Rattle.std.proofs.lemmas.Bool.Decides.{nat_tests}
use Rattle.std.proofs.lemmas.List.Sums.{sum_by-cons}
use Rattle.schema.specs.declared.look.Look.{Look}
use Rattle.schema.specs.Rows.{Key, key_cmp, Rows, covers, count_in, first_in, AgreeOn, IsFirst, high_part}
use Rattle.schema.specs.Rows.{Writes, after_write, after_write_list, after_writes, puts, rows_under, rows_elsewhere, lesser_row}
use Rattle.schema.proofs.RowsLemmas.{is_key, one_key, here, same_rows, get-after_write, get-after_write_list, get-after_writes, get-puts}
use Rattle.schema.proofs.SplitLemmas.{get-kept, count_parts, inside_look, low_inside, rows_above, same_place}
use Rattle.schema.proofs.LookLemmas.{split_and, above_all, in_order, rows_in_agree, is_first, first_is, vacant_where_no_first, no_first_where_vacant, zero_where_vacant}
use Rattle.schema.proofs.CountLemmas.{count_new, count_absent, count_outside}

-- ---- counts in two parts

swapped : (a b : Bool) (x : Option (List ℕ)) → cond a (cond b x None) None ≡ cond b (cond a x None) None
swapped true true x = refl
swapped true false x = refl
swapped false true x = refl
swapped false false x = refl

pub count_before : (look : Look) (writes : Writes) (rows : Rows) → count_in look rows ≡ count_in look (rows_under writes rows) + count_in look (rows_elsewhere writes rows)
count_before look writes rows = count_parts look look look rows (rows_under writes rows) (rows_elsewhere writes rows) (contains_key writes)
    (λ q. swapped (contains_key writes q) (covers look q) (get rows q) ∙ ap (λ x. cond (covers look q) x None) (sym (get-kept rows (contains_key writes) q)))
    (λ q. swapped (not (contains_key writes q)) (covers look q) (get rows q) ∙ ap (λ x. cond (covers look q) x None) (sym (get-kept rows (λ k. not (contains_key writes k)) q)))

written_part : (write : Option (Option (List ℕ))) (c : Bool) (row : Option (List ℕ)) → cond (is_some write) (cond c (unwrap_or write row) None) None ≡ cond c (unwrap_or write None) None
written_part None true row = refl
written_part None false row = refl
written_part (Some write) c row = refl

other_part : (write : Option (Option (List ℕ))) (c : Bool) (row : Option (List ℕ)) → cond (not (is_some write)) (cond c (unwrap_or write row) None) None ≡ cond c (cond (not (is_some write)) row None) None
other_part None c row = refl
other_part (Some write) true row = refl
other_part (Some write) false row = refl

pub count_after : (look : Look) (writes : Writes) (rows : Rows) → count_in look (after_writes writes rows) ≡ count_in look (puts writes) + count_in look (rows_elsewhere writes rows)
count_after look writes rows = count_parts look look look (after_writes writes rows) (puts writes) (rows_elsewhere writes rows) (contains_key writes)
    (λ q. ap (λ x. cond (contains_key writes q) (cond (covers look q) x None) None) (get-after_writes writes rows q)
    ∙ written_part (get writes q) (covers look q) (get rows q)
    ∙ ap (λ x. cond (covers look q) x None) (sym (get-puts writes q)))
    (λ q. ap (λ x. cond (not (contains_key writes q)) (cond (covers look q) x None) None) (get-after_writes writes rows q)
    ∙ other_part (get writes q) (covers look q) (get rows q)
    ∙ ap (λ x. cond (covers look q) x None) (sym (get-kept rows (λ k. not (contains_key writes k)) q)))

-- ---- counts along the writes

not_equal : (o : Ordering) → T (is_lt o) → is_eq o ≡ false
not_equal Less p = refl
not_equal Equal p = absurd p
not_equal Greater p = absurd p

-- a key below all is none of them
none_below : (k : Key) (ws : List (Key × Option (List ℕ))) → T (below_all key_cmp k ws) → find key_cmp k ws ≡ None
none_below k [] h = refl
none_below k (w ∷ ws) h =
    let parts : T (is_lt (key_cmp k w.0)) × T (below_all key_cmp k ws) = split_and _ _ h in
    ap (λ b. cond b (Some w.1) (find key_cmp k ws)) (not_equal (key_cmp k w.0) parts.0) ∙ none_below k ws parts.1

-- one write more, at a key where nothing stands
count_one : (look : Look) (rows : Rows) (k : Key) (write : Option (List ℕ)) → get rows k ≡ None → count_in look (after_write k write rows) ≡ cond (covers look k && is_some write) 1 0 + count_in look rows
count_one look rows k write none = elim (covers look k) as (λ b. covers look k ≡ b → count_in look (after_write k write rows) ≡ cond (b && is_some write) 1 0 + count_in look rows) [
  | true ↦ λ t. elim write as (λ w. count_in look (after_write k w rows) ≡ cond (is_some w) 1 0 + count_in look rows) [
    | Some bytes ↦ let new = count_new look rows k bytes t none in omega arith
    | None ↦ let absent = count_absent look rows k none in omega arith
  ]
  | false ↦ λ out. let outside = count_outside look rows k write out in omega arith
] refl

get-put_list : (ws : List (Key × Option (List ℕ))) (q : Key) → get (after_write_list ws empty) q ≡ unwrap_or (find key_cmp q ws) None
get-put_list ws q = get-after_write_list ws empty q ∙ ap (unwrap_or (find key_cmp q ws)) (get-empty key_cmp q)

count_of_none : (look : Look) → count_in look empty ≡ 0
count_of_none look = zero_where_vacant look empty (λ k t. get-empty key_cmp k)

count_put_list : (look : Look) (ws : List (Key × Option (List ℕ))) → T (is_sorted key_cmp ws) → count_in look (after_write_list ws empty) ≡ count_by (λ w. covers look w.0 && is_some w.1) ws
count_put_list look [] h = count_of_none look
count_put_list look (w ∷ ws) h =
    let parts : T (below_all key_cmp w.0 ws) × T (is_sorted key_cmp ws) = split_and _ _ h in
    let none : get (after_write_list ws empty) w.0 ≡ None = get-put_list ws w.0 ∙ ap (λ o. unwrap_or o None) (none_below w.0 ws parts.0) in
    count_one look (after_write_list ws empty) w.0 w.1 none
    ∙ ap (λ n. cond (covers look w.0 && is_some w.1) 1 0 + n) (count_put_list look ws parts.1)
    ∙ sym (sum_by-cons (λ x. cond (covers look x.0 && is_some x.1) 1 0) w ws)

pub count_puts : (look : Look) (writes : Writes) → count_in look (puts writes) ≡ count_by (λ w. covers look w.0 && is_some w.1) (entries writes)
count_puts look writes = count_put_list look (entries writes) (entries_sorted writes)

-- the rows at these keys
abbrev under_list : List (Key × Option (List ℕ)) → Rows → Rows
under_list ws rows = retain_keys rows (λ k. is_some (find key_cmp k ws))

under_more : (w : Key × Option (List ℕ)) (ws : List (Key × Option (List ℕ))) (rows : Rows) → under_list (w ∷ ws) rows ≡ after_write w.0 (get rows w.0) (under_list ws rows)
under_more w ws rows = same_rows _ _ (λ q.
    get-kept rows (λ k. is_some (find key_cmp k (w ∷ ws))) q
    ∙ elim (is_key q w.0) as (λ b. is_key q w.0 ≡ b → cond (is_some (cond b (Some w.1) (find key_cmp q ws))) (get rows q) None ≡ cond b (get rows w.0) (cond (is_some (find key_cmp q ws)) (get rows q) None)) [
      | true ↦ λ t. ap (get rows) (one_key q w.0 t)
      | false ↦ λ t. refl
    ] refl
    ∙ sym (get-after_write (under_list ws rows) w.0 q (get rows w.0) ∙ ap (cond (is_key q w.0) (get rows w.0)) (get-kept rows (λ k. is_some (find key_cmp k ws)) q)))

count_under_list : (look : Look) (ws : List (Key × Option (List ℕ))) (rows : Rows) → T (is_sorted key_cmp ws) → count_in look (under_list ws rows) ≡ count_by (λ w. covers look w.0 && is_some (get rows w.0)) ws
count_under_list look [] rows h = zero_where_vacant look (under_list [] rows) (λ k t. get-kept rows (λ q. false) k)
count_under_list look (w ∷ ws) rows h =
    let parts : T (below_all key_cmp w.0 ws) × T (is_sorted key_cmp ws) = split_and _ _ h in
    let none : get (under_list ws rows) w.0 ≡ None = get-kept rows (λ k. is_some (find key_cmp k ws)) w.0 ∙ ap (λ o. cond (is_some o) (get rows w.0) None) (none_below w.0 ws parts.0) in
    ap (count_in look) (under_more w ws rows) ∙ count_one look (under_list ws rows) w.0 (get rows w.0) none
    ∙ ap (λ n. cond (covers look w.0 && is_some (get rows w.0)) 1 0 + n) (count_under_list look ws rows parts.1)
    ∙ sym (sum_by-cons (λ x. cond (covers look x.0 && is_some (get rows x.0)) 1 0) w ws)

pub count_under : (look : Look) (writes : Writes) (rows : Rows) → count_in look (rows_under writes rows) ≡ count_by (λ w. covers look w.0 && is_some (get rows w.0)) (entries writes)
count_under look writes rows = (λ i. count_in look (retain_keys rows (λ k. is_some (get-entries writes k i))))
    ∙ count_under_list look (entries writes) rows (entries_sorted writes)

-- ---- the first row

first_of : (look : Look) (m n : Rows) → AgreeOn (covers look) m n → first_in look m ≡ first_in look n
first_of look m n agree = ap (λ rows. slice_get (entries rows) 0) (rows_in_agree look m n agree)

-- at each covered key m has what a has, or else what b has
abbrev Unites : Look → Rows → Rows → Rows → Type 0
Unites look m a b = (q : Key) → IsTrue (covers look q) → get m q ≡ option_or (get a q) (get b q)

or_none : (x : Option (List ℕ)) → option_or x None ≡ x
or_none None = refl
or_none (Some x) = refl

least_of_two : (look : Look) (m a b : Rows) → Unites look m a b → (low : ℕ)
    → ((q : Key) → IsTrue (covers look q) → IsSome (get a q) → low ≤ q.1) → ((q : Key) → IsTrue (covers look q) → IsSome (get b q) → low ≤ q.1)
    → (q : Key) → IsTrue (covers look q) → IsSome (get m q) → low ≤ q.1
least_of_two look m a b both low in_a in_b q t some =
    let at : IsSome (option_or (get a q) (get b q)) = subst IsSome (both q t) some in
    elim (get a q) as (λ x. get a q ≡ x → IsSome (option_or x (get b q)) → low ≤ q.1) [
      | None ↦ λ e s. in_b q t s
      | Some x ↦ λ e s. in_a q t (ap is_some e)
    ] refl at

lesser : (look : Look) (m a b : Rows) → Unites look m a b → (e f : Key × List ℕ) → IsFirst look a e.0 e.1 → IsFirst look b f.0 f.1
    → (c : Bool) → nat_le e.0.1 f.0.1 ≡ c → first_in look m ≡ cond c (Some e) (Some f)
lesser look m a b both e f x y true le = first_is look m e.0 e.1 (record {
  covered = x.covered;
  stands = both e.0 x.covered ∙ ap (λ o. option_or o (get b e.0)) x.stands;
  least = least_of_two look m a b both e.0.1 x.least (λ q t s. let above : f.0.1 ≤ q.1 = y.least q t s in grind (arith, nat_tests));
})
lesser look m a b both e f x y false le =
    let below : f.0.1 < e.0.1 = grind (arith, nat_tests) in
    let none : get a f.0 ≡ None = elim (get a f.0) as (λ o. get a f.0 ≡ o → o ≡ None) [
      | None ↦ λ is. refl
      | Some bytes ↦ λ is. absurd (let above : e.0.1 ≤ f.0.1 = x.least f.0 y.covered (ap is_some is) in omega arith)
    ] refl in
    first_is look m f.0 f.1 (record {
      covered = y.covered;
      stands = both f.0 y.covered ∙ ap (λ o. option_or o (get b f.0)) none ∙ y.stands;
      least = least_of_two look m a b both f.0.1 (λ q t s. let above : e.0.1 ≤ q.1 = x.least q t s in omega arith) y.least;
    })

first_of_two : (look : Look) (m a b : Rows) → Unites look m a b → first_in look m ≡ lesser_row (first_in look a) (first_in look b)
first_of_two look m a b both = elim (first_in look a) as (λ x. first_in look a ≡ x → first_in look m ≡ lesser_row x (first_in look b)) [
  | None ↦ λ none. first_of look m b (λ q t. both q t ∙ ap (λ o. option_or o (get b q)) (vacant_where_no_first look a none q t))
  | Some e ↦ λ one. elim (first_in look b) as (λ y. first_in look b ≡ y → first_in look m ≡ lesser_row (Some e) y) [
    | None ↦ λ none. first_of look m a (λ q t. both q t ∙ ap (option_or (get a q)) (vacant_where_no_first look b none q t) ∙ or_none (get a q)) ∙ one
    | Some f ↦ λ other. lesser look m a b both e f (is_first look a e.0 e.1 one) (is_first look b f.0 f.1 other) (nat_le e.0.1 f.0.1) refl
  ] refl
] refl

united : (write : Option (Option (List ℕ))) (row : Option (List ℕ)) → unwrap_or write row ≡ option_or (unwrap_or write None) (cond (not (is_some write)) row None)
united None row = refl
united (Some None) row = refl
united (Some (Some bytes)) row = refl

get-elsewhere : (writes : Writes) (rows : Rows) (q : Key) → get (rows_elsewhere writes rows) q ≡ cond (not (is_some (get writes q))) (get rows q) None
get-elsewhere writes rows q = get-kept rows (λ k. not (contains_key writes k)) q

pub first_after : (look : Look) (writes : Writes) (rows : Rows) → first_in look (after_writes writes rows) ≡ lesser_row (first_in look (puts writes)) (first_in look (rows_elsewhere writes rows))
first_after look writes rows = first_of_two look (after_writes writes rows) (puts writes) (rows_elsewhere writes rows) (λ q t.
    get-after_writes writes rows q ∙ united (get writes q) (get rows q)
    ∙ (λ i. option_or (sym (get-puts writes q) i) (sym (get-elsewhere writes rows q) i)))

-- ---- the first row that is put, along the writes

abbrev pub as_put : Key × List ℕ → Key × Option (List ℕ)
as_put row = (row.0, Some row.1)

both_true : (a b : Bool) → (a && b) ≡ true → (a ≡ true) × (b ≡ true)
both_true true b e = (refl, e)
both_true false b e = absurd (cc)

no_put : (c : Bool) (write : Option (List ℕ)) → c ≡ true → (c && is_some write) ≡ false → write ≡ None
no_put true None t e = refl
no_put true (Some bytes) t e = absurd (cc)
no_put false write t e = absurd (cc)

some_write : (write : Option (Option (List ℕ))) → IsSome (unwrap_or write None) → IsSome write
some_write None s = absurd (cc)
some_write (Some write) s = refl

-- a write that puts nothing inside the look leaves what stands there, where nothing stood at its key
passed_over : (look : Look) (rows : Rows) (k : Key) (write : Option (List ℕ)) → get rows k ≡ None → (covers look k && is_some write) ≡ false → AgreeOn (covers look) (after_write k write rows) rows
passed_over look rows k write none not_put q t =
    get-after_write rows k q write
    ∙ elim (is_key q k) as (λ b. is_key q k ≡ b → cond b write (get rows q) ≡ get rows q) [
      | true ↦ λ e.
          let same = one_key q k e in
          no_put (covers look k) write (ap (covers look) (sym same) ∙ t) not_put ∙ sym (ap (get rows) same ∙ none)
      | false ↦ λ e. refl
    ] refl

-- a put inside the look at a key below those of all rows is the first
put_first : (look : Look) (rows : Rows) (k : Key) (write : Option (List ℕ)) → (covers look k && is_some write) ≡ true → ((q : Key) → IsSome (get rows q) → key_cmp k q ≡ Less)
    → option_map as_put (first_in look (after_write k write rows)) ≡ Some (k, write)
put_first look rows k None put below = absurd (let some = (both_true (covers look k) false put).1 in cc)
put_first look rows k (Some bytes) put below =
    let t = (both_true (covers look k) true put).0 in
    ap (option_map as_put) (first_is look (after_write k (Some bytes) rows) k bytes (record {
      covered = t;
      stands = get-after_write rows k k (Some bytes) ∙ here k (Some bytes) (get rows k);
      least = λ q u some. elim (is_key q k) as (λ b. is_key q k ≡ b → IsSome (cond b (Some bytes) (get rows q)) → k.1 ≤ q.1) [
        | true ↦ λ e _. let same : q.1 ≡ k.1 = ap (λ x. x.1) (one_key q k e) in omega arith
        | false ↦ λ e s. in_order look k q t u (ap is_gt (below q s))
      ] refl (subst IsSome (get-after_write rows k q (Some bytes)) some);
    }))

first_put_list : (look : Look) (ws : List (Key × Option (List ℕ))) → T (is_sorted key_cmp ws) → option_map as_put (first_in look (after_write_list ws empty)) ≡ first_passing (λ w. covers look w.0 && is_some w.1) ws
first_put_list look [] h = ap (option_map as_put) (no_first_where_vacant look empty (λ k t. get-empty key_cmp k))
first_put_list look (w ∷ ws) h =
    let parts : T (below_all key_cmp w.0 ws) × T (is_sorted key_cmp ws) = split_and _ _ h in
    let rows : Rows = after_write_list ws empty in
    elim (covers look w.0 && is_some w.1) as (λ b. (covers look w.0 && is_some w.1) ≡ b
    → option_map as_put (first_in look (after_write w.0 w.1 rows)) ≡ cond b (Some w) (first_passing (λ w. covers look w.0 && is_some w.1) ws)) [
      | true ↦ λ put. put_first look rows w.0 w.1 put (λ q some. above_all w.0 ws parts.0 q (some_write (find key_cmp q ws) (subst IsSome (get-put_list ws q) some)))
      | false ↦ λ not_put.
          let none : get rows w.0 ≡ None = get-put_list ws w.0 ∙ ap (λ o. unwrap_or o None) (none_below w.0 ws parts.0) in
          ap (option_map as_put) (first_of look (after_write w.0 w.1 rows) rows (passed_over look rows w.0 w.1 none not_put)) ∙ first_put_list look ws parts.1
    ] refl

pub first_put : (look : Look) (writes : Writes) → option_map as_put (first_in look (puts writes)) ≡ first_passing (λ w. covers look w.0 && is_some w.1) (entries writes)
first_put look writes = first_put_list look (entries writes) (entries_sorted writes)

-- ---- the first row at a key that isn't written

kept_none : (b : Bool) (x : Option (List ℕ)) → x ≡ None → cond b x None ≡ None
kept_none true x e = e
kept_none false x e = refl

kept_some : (b : Bool) (x : Option (List ℕ)) → IsSome (cond b x None) → IsSome x
kept_some true x s = s
kept_some false x s = absurd (cc)

pub no_first_elsewhere : (look : Look) (writes : Writes) (rows : Rows) → first_in look rows ≡ None → first_in look (rows_elsewhere writes rows) ≡ None
no_first_elsewhere look writes rows e = no_first_where_vacant look (rows_elsewhere writes rows) (λ k t.
    get-elsewhere writes rows k ∙ kept_none (not (is_some (get writes k))) (get rows k) (vacant_where_no_first look rows e k t))

pub first_unwritten : (look : Look) (writes : Writes) (rows : Rows) (k : Key) (bytes : List ℕ) → first_in look rows ≡ Some (k, bytes) → get writes k ≡ None → first_in look (rows_elsewhere writes rows) ≡ Some (k, bytes)
first_unwritten look writes rows k bytes e none =
    let first = is_first look rows k bytes e in
    first_is look (rows_elsewhere writes rows) k bytes (record {
      covered = first.covered;
      stands = get-elsewhere writes rows k ∙ ap (λ w. cond (not (is_some w)) (get rows k) None) none ∙ first.stands;
      least = λ q t some. first.least q t (kept_some (not (is_some (get writes q))) (get rows q) (subst IsSome (get-elsewhere writes rows q) some));
    })

pub first_above : (look : Look) (writes : Writes) (rows : Rows) (k : Key) (bytes : List ℕ) → first_in look rows ≡ Some (k, bytes) → IsSome (get writes k) → first_in look (rows_elsewhere writes rows) ≡ first_in (high_part look k.1) (rows_elsewhere writes rows)
first_above look writes rows k bytes e written =
    let first = is_first look rows k bytes e in
    let ends = inside_look look k first.covered in
    ap (λ r. slice_get (entries r) 0) (rows_above look k.1 (rows_elsewhere writes rows) ends.1 ends.2 (λ q t.
    get-elsewhere writes rows q
    ∙ elim (get rows q) as (λ x. get rows q ≡ x → cond (not (is_some (get writes q))) x None ≡ None) [
      | None ↦ λ is. kept_none (not (is_some (get writes q))) None refl
      | Some x ↦ λ is.
          let at = first.least q (low_inside look k.1 ends.2 q t) (ap is_some is) in
          let same : q ≡ k = same_place look k q first.covered t at in
          ap (λ b. cond (not b) (Some x) None) (ap (λ j. is_some (get writes j)) same ∙ written)
    ] refl))
