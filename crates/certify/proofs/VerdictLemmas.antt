-- A search among what is kept gives the verdict on the calls for which it is kept.
use Rattle.std.proofs.Common.{◌≡◌, ◌↔◌, ◌⊎◌, inl, inr, ℕ, zero, suc, ◌+◌, ◌-◌, ◌≤◌, ◌<◌, Bool, true, false, cond, ◌&&◌, ◌||◌, List, [], ◌∷◌, ◌++◌, length, drop, slice_get, nat_eq, nat_le, IsTrue, refl, sym, ap, subst, ◌∙◌, arith}
use Rattle.std.proofs.lemmas.Bool.{and_parts, and_from}
use Rattle.std.specs.Prelude.{Option, Some, None, is_some}
use Rattle.std.specs.List.{list_any}
use Rattle.std.specs.FinMap.{keys}
use Rattle.std.proofs.lemmas.List.{length-drop}
use Rattle.std.proofs.lemmas.Bool.Decides.{nat_tests}
use Rattle.schema.specs.declared.look.Look.{Look}
use Rattle.schema.specs.Rows.{Key, Writes, shares_key}
use Rattle.sig_lanes.proofs.LawLemmas.{few_set}
use Rattle.sig_lanes.specs.Signature.{bit_of, looks_set_bit, writes_set_bit, shares_bit}
use Rattle.log_model.specs.declared.verdict.Verdict.TheVariants.{Stale, Repeated}
use Rattle.log_model.specs.Log.{Call, DoneRequest, CertifiedItem, is_commit, conflicts, first_position, first_repeated, unless_repeated, unless_conflict, verdict_after}
use Rattle.certify.specs.Comparisons.{comparisons_from, comparisons_after}
use Rattle.certify.proofs.ListLemmas.{get_drop}
use Rattle.certify.specs.declared.search.SearchResult.{SearchResult}
use Rattle.certify.specs.Kept.{Ring, IsKept, Keeps, Latest, IsMemoryOfLatest}
use Rattle.certify.specs.Search.{search, with_compared, Meets, kept_shares}
use Rattle.certify.proofs.SearchLemmas.{nothing, found, compared, passed}

-- ---- a search gives the first conflict, where its tests answer of each call what they should

abbrev meets_call : List Look → CertifiedItem → Bool
meets_call looks c = is_commit c.verdict && shares_bit looks c.writes

abbrev Answer : (ℕ → Bool) → (ℕ → Bool) → List Look → ℕ → List CertifiedItem → Type 0
Answer meets shares looks before [] = Unit {0}
Answer meets shares looks before (c ∷ later) = (meets before ≡ meets_call looks c) × (shares before ≡ shares_key looks c.writes) × Answer meets shares looks (before + 1) later

abbrev pub result_of : List Look → ℕ → List CertifiedItem → SearchResult
result_of looks before later = record { compared = length (comparisons_from looks (before + 1) later); conflict = first_position (conflicts looks) (before + 1) later }

no_first : (a b : Bool) → a ≡ false → (a && b) ≡ false
no_first true b e = absurd cc
no_first false b e = refl

no_second : (a b : Bool) → b ≡ false → (a && b) ≡ false
no_second true b e = e
no_second false b e = refl

-- the first call: it isn't compared with, it conflicts, or it is only compared with
here_passed : (looks : List Look) (before : ℕ) (c : CertifiedItem) (later : List CertifiedItem) → meets_call looks c ≡ false → conflicts looks c ≡ false → result_of looks before (c ∷ later) ≡ result_of looks (before + 1) later
unfolding comparisons_from first_position
here_passed looks before c later m n =
    ap (λ (b : Bool). record { compared = length (cond b ((before + 1) ∷ []) [] ++ cond (conflicts looks c) [] (comparisons_from looks (before + 1 + 1) later)); conflict = cond (conflicts looks c) (Some (before + 1)) (first_position (conflicts looks) (before + 1 + 1) later) }) m
    ∙ ap (λ (b : Bool). record { compared = length (cond b [] (comparisons_from looks (before + 1 + 1) later)); conflict = cond b (Some (before + 1)) (first_position (conflicts looks) (before + 1 + 1) later) }) n

here_found : (looks : List Look) (before : ℕ) (c : CertifiedItem) (later : List CertifiedItem) → meets_call looks c ≡ true → conflicts looks c ≡ true → result_of looks before (c ∷ later) ≡ record { compared = 1; conflict = Some (before + 1) }
unfolding comparisons_from first_position
here_found looks before c later m n =
    ap (λ (b : Bool). record { compared = length (cond b ((before + 1) ∷ []) [] ++ cond (conflicts looks c) [] (comparisons_from looks (before + 1 + 1) later)); conflict = cond (conflicts looks c) (Some (before + 1)) (first_position (conflicts looks) (before + 1 + 1) later) }) m
    ∙ ap (λ (b : Bool). record { compared = length ((before + 1) ∷ cond b [] (comparisons_from looks (before + 1 + 1) later)); conflict = cond b (Some (before + 1)) (first_position (conflicts looks) (before + 1 + 1) later) }) n

one_longer : (n : ℕ) (xs : List ℕ) → length (n ∷ xs) ≡ 1 + length xs
one_longer n xs = omega arith

here_compared : (looks : List Look) (before : ℕ) (c : CertifiedItem) (later : List CertifiedItem) → meets_call looks c ≡ true → conflicts looks c ≡ false → result_of looks before (c ∷ later) ≡ with_compared 1 (result_of looks (before + 1) later)
unfolding comparisons_from first_position
here_compared looks before c later m n =
    ap (λ (b : Bool). record { compared = length (cond b ((before + 1) ∷ []) [] ++ cond (conflicts looks c) [] (comparisons_from looks (before + 1 + 1) later)); conflict = cond (conflicts looks c) (Some (before + 1)) (first_position (conflicts looks) (before + 1 + 1) later) }) m
    ∙ ap (λ (b : Bool). record { compared = length ((before + 1) ∷ cond b [] (comparisons_from looks (before + 1 + 1) later)); conflict = cond b (Some (before + 1)) (first_position (conflicts looks) (before + 1 + 1) later) }) n
    ∙ ap (λ (k : ℕ). record { compared = k; conflict = first_position (conflicts looks) (before + 1 + 1) later }) (one_longer (before + 1) (comparisons_from looks (before + 1 + 1) later))

none_left : (looks : List Look) (before : ℕ) → result_of looks before [] ≡ record { compared = 0; conflict = None }
unfolding comparisons_from first_position
none_left looks before = refl

search_gives : (meets shares : ℕ → Bool) (looks : List Look)
    → ((c : CertifiedItem) → shares_key looks c.writes ≡ true → shares_bit looks c.writes ≡ true)
    → (later : List CertifiedItem) (before : ℕ) → Answer meets shares looks before later → search meets shares before (length later) ≡ result_of looks before later
search_gives meets shares looks bits [] before h = nothing meets shares before ∙ sym (none_left looks before)
search_gives meets shares looks bits (c ∷ later) before h =
    let rest : search meets shares (before + 1) (length later) ≡ result_of looks (before + 1) later = search_gives meets shares looks bits later (before + 1) h.2 in
    elim (meets_call looks c) as (λ b. meets_call looks c ≡ b → search meets shares before (suc (length later)) ≡ result_of looks before (c ∷ later)) [
      | true ↦ λ m. elim (shares_key looks c.writes) as (λ b. shares_key looks c.writes ≡ b → search meets shares before (suc (length later)) ≡ result_of looks before (c ∷ later)) [
        | true ↦ λ s.
            found meets shares before (length later) (h.0 ∙ m) (h.1 ∙ s)
            ∙ sym (here_found looks before c later m (and_from (is_commit c.verdict) (shares_key looks c.writes) (and_parts (is_commit c.verdict) (shares_bit looks c.writes) m).0 s))
        | false ↦ λ s.
            compared meets shares before (length later) (h.0 ∙ m) (h.1 ∙ s)
            ∙ ap (with_compared 1) rest
            ∙ sym (here_compared looks before c later m (no_second (is_commit c.verdict) (shares_key looks c.writes) s))
      ] refl
      | false ↦ λ m.
          let apart : conflicts looks c ≡ false =
          elim (conflicts looks c) as (λ b. conflicts looks c ≡ b → b ≡ false) [
            | true ↦ λ x.
                let p = and_parts (is_commit c.verdict) (shares_key looks c.writes) x in
                let bad : false ≡ true = sym m ∙ and_from (is_commit c.verdict) (shares_bit looks c.writes) p.0 (bits c p.1) in
                cc
            | false ↦ λ x. refl
          ] refl in
          passed meets shares before (length later) (h.0 ∙ m) ∙ rest ∙ sym (here_passed looks before c later m apart)
    ] refl

-- ---- the tests, by what is kept

abbrev pub SharedBits : List Look → Type 0
SharedBits looks = (writes : Writes) → IsTrue (shares_bit looks writes) ↔ ((bit : ℕ) × IsTrue (looks_set_bit looks bit) × IsTrue (writes_set_bit writes bit))

kept_meets : (ring : Ring) (looks : List Look) (before : ℕ) (c : CertifiedItem) → ((k : Key) → bit_of k < 1024) → SharedBits looks → IsKept ring before c
    → IsTrue (meets_call looks c) ↔ Meets ring looks before
kept_meets ring looks before c few shared kept = (
  λ m.
      let p = and_parts (is_commit c.verdict) (shares_bit looks c.writes) m in
      let x = (shared c.writes).0 p.1 in
      let lt = few_set few (keys c.writes) x.0 x.2 in
      (x.0, lt, kept.signature x.0 lt ∙ and_from (is_commit c.verdict) (writes_set_bit c.writes x.0) p.0 x.2, x.1),
  λ x.
      let p = and_parts (is_commit c.verdict) (writes_set_bit c.writes x.0) (sym (kept.signature x.0 x.1) ∙ x.2) in
      and_from (is_commit c.verdict) (shares_bit looks c.writes) p.0 ((shared c.writes).1 (x.0, x.3, p.1)),
)

abbrev meets_some : List Look → Option CertifiedItem → Bool
meets_some looks (Some c) = meets_call looks c
meets_some looks None = false

-- of the call that has so many before it
abbrev pub meets_at : List Look → List CertifiedItem → ℕ → Bool
meets_at looks past before = meets_some looks (slice_get past before)

get_there : (past : List CertifiedItem) (before : ℕ) → before < length past → (c : CertifiedItem) × (slice_get past before ≡ Some c)
get_there [] before lt = absurd (omega arith)
get_there (c ∷ past) zero lt = (c, refl)
get_there (c ∷ past) (suc before) lt = get_there past before (omega arith)

pub meets_as_kept : (ring : Ring) (looks : List Look) (past : List CertifiedItem) (before : ℕ) → ((k : Key) → bit_of k < 1024) → SharedBits looks → Keeps ring past
    → before < length past → length past ≤ before + length ring.writes → IsTrue (meets_at looks past before) ↔ Meets ring looks before
meets_as_kept ring looks past before few shared keeps lt near =
    let x = get_there past before lt in
    subst (λ (o : Option CertifiedItem). IsTrue (meets_some looks o) ↔ Meets ring looks before) (sym x.1) (kept_meets ring looks before x.0 few shared (keeps before x.0 x.1 near))

answers : (meets shares : ℕ → Bool) (looks : List Look) (later : List CertifiedItem) (before : ℕ)
    → ((i : ℕ) (c : CertifiedItem) → slice_get later i ≡ Some c → (meets (before + i) ≡ meets_call looks c) × (shares (before + i) ≡ shares_key looks c.writes))
    → Answer meets shares looks before later
answers meets shares looks [] before h = tt
answers meets shares looks (c ∷ later) before h =
    let here : before + 0 ≡ before = omega arith in
    let first = h 0 c refl in (
      ap meets (sym here) ∙ first.0,
      ap shares (sym here) ∙ first.1,
      answers meets shares looks later (before + 1) (λ i d e.
          let next = h (suc i) d e in
          let there : before + 1 + i ≡ before + suc i = omega arith in
          (ap meets there ∙ next.0, ap shares there ∙ next.1)),
    )

-- the calls since a snapshot that is within the places
pub search_since_snapshot : (ring : Ring) (looks : List Look) (past : List CertifiedItem) (snapshot : ℕ)
    → ((c : CertifiedItem) → shares_key looks c.writes ≡ true → shares_bit looks c.writes ≡ true)
    → Keeps ring past → snapshot ≤ length past → length past ≤ snapshot + length ring.writes
    → search (meets_at looks past) (kept_shares ring.writes looks) snapshot (length past - snapshot) ≡ result_of looks snapshot (drop snapshot past)
search_since_snapshot ring looks past snapshot bits keeps le near =
    ap (λ (n : ℕ). search (meets_at looks past) (kept_shares ring.writes looks) snapshot n) (sym (length-drop snapshot past))
    ∙ search_gives (meets_at looks past) (kept_shares ring.writes looks) looks bits (drop snapshot past) snapshot
    (answers (meets_at looks past) (kept_shares ring.writes looks) looks (drop snapshot past) snapshot (λ i c e.
    let there : slice_get past (snapshot + i) ≡ Some c = sym (get_drop past snapshot i) ∙ e in
    let kept = keeps (snapshot + i) c there (omega arith) in
    (ap (meets_some looks) there, kept.keys looks)))

-- ---- verdicts

test_true : (m n : ℕ) → m ≤ n → nat_le m n ≡ true
test_true m n e = grind (arith, nat_tests)

test_false : (m n : ℕ) → n < m → nat_le m n ≡ false
test_false m n e = grind (arith, nat_tests)

pub stale : (window count snapshot : ℕ) (done : List DoneRequest) (past : List CertifiedItem) (call : Call) (looks : List Look) → call.snapshot ≡ snapshot → first_repeated done past call ≡ None → count ≡ length past → window < count - snapshot
    → Stale ≡ verdict_after window done past call looks
unfolding verdict_after
stale window count snapshot done past call looks same new is old =
    sym (ap (λ (o : Option ℕ). unless_repeated o (cond (nat_le (length past - call.snapshot) window) (unless_conflict (first_position (conflicts looks) (call.snapshot + 1) (drop call.snapshot past))) Stale)) new
    ∙ ap (λ b. cond b (unless_conflict (first_position (conflicts looks) (call.snapshot + 1) (drop call.snapshot past))) Stale) (test_false (length past - call.snapshot) window (omega arith)))

pub none_compared : (window count snapshot : ℕ) (done : List DoneRequest) (past : List CertifiedItem) (call : Call) (looks : List Look) → call.snapshot ≡ snapshot → first_repeated done past call ≡ None → count ≡ length past → window < count - snapshot
    → 0 ≡ length (comparisons_after window done past call looks)
unfolding comparisons_after
none_compared window count snapshot done past call looks same new is old =
    sym (ap (λ (o : Option ℕ). length (cond (is_some o) [] (cond (nat_le (length past - call.snapshot) window) (comparisons_from looks (call.snapshot + 1) (drop call.snapshot past)) []))) new
    ∙ ap (λ b. length (cond b (comparisons_from looks (call.snapshot + 1) (drop call.snapshot past)) [])) (test_false (length past - call.snapshot) window (omega arith)))

-- of a call that is neither repeated nor stale
pub verdict_of_search : (window snapshot : ℕ) (done : List DoneRequest) (past : List CertifiedItem) (call : Call) (looks : List Look) → call.snapshot ≡ snapshot → first_repeated done past call ≡ None → length past - snapshot ≤ window
    → unless_conflict (result_of looks snapshot (drop snapshot past)).conflict ≡ verdict_after window done past call looks
unfolding verdict_after
verdict_of_search window snapshot done past call looks same new near =
    ap (λ (n : ℕ). unless_conflict (first_position (conflicts looks) (n + 1) (drop n past))) (sym same)
    ∙ sym (ap (λ (o : Option ℕ). unless_repeated o (cond (nat_le (length past - call.snapshot) window) (unless_conflict (first_position (conflicts looks) (call.snapshot + 1) (drop call.snapshot past))) Stale)) new
    ∙ ap (λ b. cond b (unless_conflict (first_position (conflicts looks) (call.snapshot + 1) (drop call.snapshot past))) Stale) (test_true (length past - call.snapshot) window (omega arith)))

pub compared_of_search : (window snapshot : ℕ) (done : List DoneRequest) (past : List CertifiedItem) (call : Call) (looks : List Look) → call.snapshot ≡ snapshot → first_repeated done past call ≡ None → length past - snapshot ≤ window
    → (result_of looks snapshot (drop snapshot past)).compared ≡ length (comparisons_after window done past call looks)
unfolding comparisons_after
compared_of_search window snapshot done past call looks same new near =
    ap (λ (n : ℕ). length (comparisons_from looks (n + 1) (drop n past))) (sym same)
    ∙ sym (ap (λ (o : Option ℕ). length (cond (is_some o) [] (cond (nat_le (length past - call.snapshot) window) (comparisons_from looks (call.snapshot + 1) (drop call.snapshot past)) []))) new
    ∙ ap (λ b. length (cond b (comparisons_from looks (call.snapshot + 1) (drop call.snapshot past)) [])) (test_true (length past - call.snapshot) window (omega arith)))

-- what a search found that asked, of each call since the snapshot, whether its signature meets
pub result_is : (m : Latest) (looks : List Look) (past : List CertifiedItem) (snapshot : ℕ) (result : SearchResult)
    → ((k : Key) → bit_of k < 1024) → SharedBits looks → ((c : CertifiedItem) → shares_key looks c.writes ≡ true → shares_bit looks c.writes ≡ true)
    → IsMemoryOfLatest m past → m.window ≤ length m.ring.writes → snapshot ≤ m.count → m.count - snapshot ≤ m.window
    → ((meets : ℕ → Bool) → ((before : ℕ) → snapshot ≤ before → before < m.count → IsTrue (meets before) ↔ Meets m.ring looks before)
    → result ≡ search meets (kept_shares m.ring.writes looks) snapshot (m.count - snapshot))
    → result ≡ result_of looks snapshot (drop snapshot past)
result_is m looks past snapshot result few shared bits stands enough le near searched =
    let count : m.count ≡ length past = stands.count in
    let reach : length past ≤ snapshot + length m.ring.writes = omega arith in
    let since : snapshot ≤ length past = omega arith in
    searched (meets_at looks past) (λ before ge lt. meets_as_kept m.ring looks past before few shared stands.kept (omega arith) (omega arith))
    ∙ ap (λ (n : ℕ). search (meets_at looks past) (kept_shares m.ring.writes looks) snapshot (n - snapshot)) count
    ∙ search_since_snapshot m.ring looks past snapshot bits stands.kept since reach

-- ---- a call that repeats one

pub repeated_verdict : (window : ℕ) (done : List DoneRequest) (past : List CertifiedItem) (call : Call) (looks : List Look) (position : ℕ) → first_repeated done past call ≡ Some position → Repeated position ≡ verdict_after window done past call looks
unfolding verdict_after
repeated_verdict window done past call looks position e = sym (ap (λ (o : Option ℕ). unless_repeated o (cond (nat_le (length past - call.snapshot) window) (unless_conflict (first_position (conflicts looks) (call.snapshot + 1) (drop call.snapshot past))) Stale)) e)

pub none_compared_again : (window : ℕ) (done : List DoneRequest) (past : List CertifiedItem) (call : Call) (looks : List Look) (position : ℕ) → first_repeated done past call ≡ Some position → 0 ≡ length (comparisons_after window done past call looks)
unfolding comparisons_after
none_compared_again window done past call looks position e = sym (ap (λ (o : Option ℕ). length (cond (is_some o) [] (cond (nat_le (length past - call.snapshot) window) (comparisons_from looks (call.snapshot + 1) (drop call.snapshot past)) []))) e)

pub none_left_of : (o : Option ℕ) → ((x : ℕ) → o ≡ Some x → ⊥) → o ≡ None
none_left_of None h = refl
none_left_of (Some x) h = absurd (h x refl)
