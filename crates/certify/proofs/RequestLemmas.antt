-- The requests of committed calls.
use Rattle.std.proofs.Common.{◌≡◌, ◌⊎◌, inl, inr, ℕ, ◌+◌, ◌*◌, ◌<◌, ◌^◌, Bool, true, false, not, cond, ◌&&◌, nat_eq, List, [], ◌∷◌, ◌++◌, length, Option, Some, None, is_some, refl, sym, ap, subst, ◌∙◌, arith}
use Rattle.std.specs.Map.{lookup}
use Rattle.std.proofs.lemmas.Bool.Decides.{nat_tests}
use Rattle.log_model.specs.declared.request.RequestId.{RequestId}
use Rattle.log_model.specs.declared.verdict.Verdict.{Verdict}
use Rattle.log_model.specs.Log.{DoneRequest, CertifiedItem, is_commit, same_request, repeats, first_position, done_under, was_done, done_at}
use Rattle.certify.specs.Kept.{key_of, IsRequest, KeepsRequests}

abbrev just : {X : Type 0} → X → Option X
just x = Some x

abbrev pub or_else : Option ℕ → Option ℕ → Option ℕ
or_else (Some x) other = Some x
or_else None other = other

-- the first of one more
pub first_one_more : (test : CertifiedItem → Bool) (n : ℕ) (past : List CertifiedItem) (c : CertifiedItem) → first_position test n (past ++ c ∷ []) ≡ or_else (first_position test n past) (cond (test c) (just (n + length past)) None)
unfolding first_position
first_one_more test n [] c = elim (test c) as (λ b. cond b (just n) None ≡ cond b (just (n + 0)) None) [
  | true ↦ ap just (let same : n ≡ n + 0 = omega arith in same)
  | false ↦ refl
]
first_one_more test n (x ∷ past) c = elim (test x) as (λ b. cond b (just n) (first_position test (n + 1) (past ++ c ∷ [])) ≡ or_else (cond b (just n) (first_position test (n + 1) past)) (cond (test c) (just (n + length (x ∷ past))) None)) [
  | true ↦ refl
  | false ↦
      first_one_more test (n + 1) past c
      ∙ ap (λ (k : ℕ). or_else (first_position test (n + 1) past) (cond (test c) (just k) None)) (let same : n + 1 + length past ≡ n + length (x ∷ past) = omega arith in same)
]

-- what doesn't pass changes nothing
pub first_unless : (test : CertifiedItem → Bool) (n : ℕ) (past : List CertifiedItem) (c : CertifiedItem) → test c ≡ false → first_position test n (past ++ c ∷ []) ≡ first_position test n past
first_unless test n past c e = first_one_more test n past c ∙ ap (λ b. or_else (first_position test n past) (cond b (just (n + length past)) None)) e ∙ by (first_position test n past)
  where
    by : (o : Option ℕ) → or_else o None ≡ o
    by (Some x) = refl
    by None = refl

-- ---- where a request was done

done_one_more : (done : List DoneRequest) (past : List CertifiedItem) (c : CertifiedItem) (request : Option RequestId) → done_at done (past ++ c ∷ []) request ≡ or_else (done_at done past request) (cond (repeats request c) (just (1 + length past)) None)
done_one_more done past c request = elim (was_done done request) as (λ b. cond b (just 0) (first_position (repeats request) 1 (past ++ c ∷ [])) ≡ or_else (cond b (just 0) (first_position (repeats request) 1 past)) (cond (repeats request c) (just (1 + length past)) None)) [
  | true ↦ refl
  | false ↦ first_one_more (repeats request) 1 past c
]

done_unless : (done : List DoneRequest) (past : List CertifiedItem) (c : CertifiedItem) (request : Option RequestId) → repeats request c ≡ false → done_at done (past ++ c ∷ []) request ≡ done_at done past request
done_unless done past c request e = elim (was_done done request) as (λ b. cond b (just 0) (first_position (repeats request) 1 (past ++ c ∷ [])) ≡ cond b (just 0) (first_position (repeats request) 1 past)) [
  | true ↦ refl
  | false ↦ first_unless (repeats request) 1 past c e
]

no_commit : (a b : Bool) → a ≡ false → (a && b) ≡ false
no_commit true b e = absurd cc
no_commit false b e = refl

-- ---- keys

pub same_key : (r s : RequestId) → IsRequest r → IsRequest s → nat_eq (key_of r) (key_of s) ≡ same_request (Some r) (Some s)
same_key r s is other =
    let a = is.session in
    let b = is.sequence in
    let c = other.session in
    let d = other.sequence in
    elim (nat_eq r.session s.session) as (λ x. nat_eq r.session s.session ≡ x → nat_eq (key_of r) (key_of s) ≡ (x && nat_eq r.sequence s.sequence)) [
      | false ↦ λ e. apart (key_of r) (key_of s) (λ f. let same : r.session ≡ s.session = omega arith in differ r.session s.session e same)
      | true ↦ λ e. elim (nat_eq r.sequence s.sequence) as (λ y. nat_eq r.sequence s.sequence ≡ y → nat_eq (key_of r) (key_of s) ≡ y) [
        | true ↦ λ f. equal (key_of r) (key_of s) (ap (λ (n : ℕ). n * 2 ^ 32 + r.sequence) (is_eq r.session s.session e) ∙ ap (λ (n : ℕ). s.session * 2 ^ 32 + n) (is_eq r.sequence s.sequence f))
        | false ↦ λ f. apart (key_of r) (key_of s) (λ g.
            let first = is_eq r.session s.session e in
            let same : r.sequence ≡ s.sequence = omega arith in
            differ r.sequence s.sequence f same)
      ] refl
    ] refl
  where
    is_eq : (m n : ℕ) → nat_eq m n ≡ true → m ≡ n
    is_eq m n e = grind (arith, nat_tests)

    equal : (m n : ℕ) → m ≡ n → nat_eq m n ≡ true
    equal m n e = grind (arith, nat_tests)

    differ : (m n : ℕ) → nat_eq m n ≡ false → m ≡ n → ⊥
    differ m n e f = grind (arith, nat_tests)

    apart : (m n : ℕ) → (m ≡ n → ⊥) → nat_eq m n ≡ false
    apart m n f = elim (nat_eq m n) as (λ b. nat_eq m n ≡ b → b ≡ false) [ true ↦ λ e. absurd (f (is_eq m n e)) | false ↦ λ e. refl ] refl

-- ---- one more item

pub not_kept : (entries : List (ℕ × ℕ)) (done : List DoneRequest) (past : List CertifiedItem) (c : CertifiedItem) → ((r : RequestId) → IsRequest r → repeats (Some r) c ≡ false) → KeepsRequests entries done past → KeepsRequests entries done (past ++ c ∷ [])
not_kept entries done past c none keeps r is = keeps r is ∙ sym (done_unless done past c (Some r) (none r is))

pub of_refused : (c : CertifiedItem) (r : RequestId) → is_commit c.verdict ≡ false → repeats (Some r) c ≡ false
of_refused c r e = no_commit (is_commit c.verdict) (same_request (Some r) c.request) e

pub of_none : (c : CertifiedItem) (r : RequestId) → c.request ≡ None → repeats (Some r) c ≡ false
of_none c r none = ap (λ (q : Option RequestId). is_commit c.verdict && same_request (Some r) q) none ∙ by (is_commit c.verdict)
  where
    by : (b : Bool) → (b && false) ≡ false
    by true = refl
    by false = refl

committed_repeats : (c : CertifiedItem) (r s : RequestId) → is_commit c.verdict ≡ true → c.request ≡ Some s → IsRequest r → IsRequest s → repeats (Some r) c ≡ nat_eq (key_of r) (key_of s)
committed_repeats c r s e carried is other =
    ap (λ b. b && same_request (Some r) c.request) e ∙ ap (same_request (Some r)) carried ∙ sym (same_key r s is other)

-- where the key is there already, an earlier one stays
pub kept_before : (entries : List (ℕ × ℕ)) (done : List DoneRequest) (past : List CertifiedItem) (c : CertifiedItem) (s : RequestId) → is_commit c.verdict ≡ true → c.request ≡ Some s → IsRequest s → is_some (lookup (nat_eq (key_of s)) entries) ≡ true → KeepsRequests entries done past → KeepsRequests entries done (past ++ c ∷ [])
kept_before entries done past c s commit carried is there keeps r one =
    elim (nat_eq (key_of r) (key_of s)) as (λ b. nat_eq (key_of r) (key_of s) ≡ b → lookup (nat_eq (key_of r)) entries ≡ done_at done (past ++ c ∷ []) (Some r)) [
      | false ↦ λ e. keeps r one ∙ sym (done_unless done past c (Some r) (committed_repeats c r s commit carried one is ∙ e))
      | true ↦ λ e.
          let same : key_of s ≡ key_of r = is_eq (key_of r) (key_of s) e in
          by (lookup (nat_eq (key_of r)) entries) refl (ap (λ (k : ℕ). is_some (lookup (nat_eq k) entries)) (sym same) ∙ there)
    ] refl
  where
    is_eq : (m n : ℕ) → nat_eq m n ≡ true → n ≡ m
    is_eq m n e = grind (arith, nat_tests)

    by : (o : Option ℕ) → lookup (nat_eq (key_of r)) entries ≡ o → is_some (lookup (nat_eq (key_of r)) entries) ≡ true → lookup (nat_eq (key_of r)) entries ≡ done_at done (past ++ c ∷ []) (Some r)
    by None e h = absurd (let bad : false ≡ true = ap is_some (sym e) ∙ h in cc)
    by (Some x) e h =
        e ∙ sym (done_one_more done past c (Some r) ∙ ap (λ (o : Option ℕ). or_else o (cond (repeats (Some r) c) (just (1 + length past)) None)) (sym (keeps r one) ∙ e))

lookup_last : (test : ℕ → Bool) (entries : List (ℕ × ℕ)) (k v : ℕ) → lookup test (entries ++ (k, v) ∷ []) ≡ or_else (lookup test entries) (cond (test k) (just v) None)
lookup_last test [] k v = refl
lookup_last test (e ∷ entries) k v = elim (test e.0) as (λ b. cond b (just e.1) (lookup test (entries ++ (k, v) ∷ [])) ≡ or_else (cond b (just e.1) (lookup test entries)) (cond (test k) (just v) None)) [
  | true ↦ refl
  | false ↦ lookup_last test entries k v
]

-- where it isn't, it comes last
pub kept_last : (entries : List (ℕ × ℕ)) (done : List DoneRequest) (past : List CertifiedItem) (c : CertifiedItem) (s : RequestId) (position : ℕ) → length past + 1 ≡ position → is_commit c.verdict ≡ true → c.request ≡ Some s → IsRequest s → KeepsRequests entries done past → KeepsRequests (entries ++ (key_of s, position) ∷ []) done (past ++ c ∷ [])
kept_last entries done past c s position at commit carried is keeps r one =
    lookup_last (nat_eq (key_of r)) entries (key_of s) position
    ∙ ap (λ (o : Option ℕ). or_else o (cond (nat_eq (key_of r) (key_of s)) (just position) None)) (keeps r one)
    ∙ ap (λ b. or_else (done_at done past (Some r)) (cond b (just position) None)) (sym (committed_repeats c r s commit carried one is))
    ∙ ap (λ (n : ℕ). or_else (done_at done past (Some r)) (cond (repeats (Some r) c) (just n) None)) (let same : position ≡ 1 + length past = omega arith in same)
    ∙ sym (done_one_more done past c (Some r))

-- ---- one more request that was done before

abbrev at_first : Option ℕ
at_first = Some 0

done_more : (done : List DoneRequest) (d : DoneRequest) (request : Option RequestId) → done_at (done ++ d ∷ []) [] request ≡ or_else (done_at done [] request) (cond (same_request request (Some d.request)) at_first None)
unfolding first_position
done_more [] d request = elim (same_request request (Some d.request)) as (λ b. cond (is_some (cond b (Some d) None)) at_first None ≡ cond b at_first None) [
  | true ↦ refl
  | false ↦ refl
]
done_more (x ∷ done) d request =
    elim (same_request request (Some x.request)) as (λ b. cond (is_some (cond b (Some x) (done_under (done ++ d ∷ []) request))) at_first None ≡ or_else (cond (is_some (cond b (Some x) (done_under done request))) at_first None) (cond (same_request request (Some d.request)) at_first None)) [
      | true ↦ refl
      | false ↦ done_more done d request
    ]

stays : (o other : Option ℕ) → is_some o ≡ true → or_else o other ≡ o
stays None other e = absurd cc
stays (Some x) other e = refl

-- where the key is there already
pub noted_before : (entries : List (ℕ × ℕ)) (done : List DoneRequest) (d : DoneRequest) → IsRequest d.request → is_some (lookup (nat_eq (key_of d.request)) entries) ≡ true → KeepsRequests entries done [] → KeepsRequests entries (done ++ d ∷ []) []
noted_before entries done d is there keeps r one =
    elim (nat_eq (key_of r) (key_of d.request)) as (λ b. nat_eq (key_of r) (key_of d.request) ≡ b → lookup (nat_eq (key_of r)) entries ≡ done_at (done ++ d ∷ []) [] (Some r)) [
      | false ↦ λ e.
          keeps r one ∙ sym (or_none (done_at done [] (Some r))) ∙ ap (λ b. or_else (done_at done [] (Some r)) (cond b at_first None)) (sym e ∙ same_key r d.request one is)
          ∙ sym (done_more done d (Some r))
      | true ↦ λ e.
          let same : key_of d.request ≡ key_of r = is_eq (key_of r) (key_of d.request) e in
          let some : is_some (done_at done [] (Some r)) ≡ true = sym (ap is_some (keeps r one)) ∙ ap (λ (k : ℕ). is_some (lookup (nat_eq k) entries)) (sym same) ∙ there in
          keeps r one ∙ sym (stays (done_at done [] (Some r)) (cond (same_request (Some r) (Some d.request)) at_first None) some) ∙ sym (done_more done d (Some r))
    ] refl
  where
    is_eq : (m n : ℕ) → nat_eq m n ≡ true → n ≡ m
    is_eq m n e = grind (arith, nat_tests)

    or_none : (o : Option ℕ) → or_else o None ≡ o
    or_none (Some x) = refl
    or_none None = refl

-- where it isn't, it comes last
pub noted_last : (entries : List (ℕ × ℕ)) (done : List DoneRequest) (d : DoneRequest) → IsRequest d.request → KeepsRequests entries done [] → KeepsRequests (entries ++ (key_of d.request, 0) ∷ []) (done ++ d ∷ []) []
noted_last entries done d is keeps r one =
    lookup_last (nat_eq (key_of r)) entries (key_of d.request) 0
    ∙ ap (λ (o : Option ℕ). or_else o (cond (nat_eq (key_of r) (key_of d.request)) at_first None)) (keeps r one)
    ∙ ap (λ b. or_else (done_at done [] (Some r)) (cond b at_first None)) (same_key r d.request one is)
    ∙ sym (done_more done d (Some r))

-- no request is repeated
never_repeated : (n : ℕ) (past : List CertifiedItem) → first_position (repeats None) n past ≡ None
unfolding first_position
never_repeated n [] = refl
never_repeated n (c ∷ past) = ap (λ b. cond b (just n) (first_position (repeats None) (n + 1) past)) (by (is_commit c.verdict)) ∙ never_repeated (n + 1) past
  where
    by : (b : Bool) → (b && false) ≡ false
    by true = refl
    by false = refl

none_done : (done : List DoneRequest) → done_under done None ≡ None
none_done [] = refl
none_done (d ∷ done) = none_done done

pub done_by_none : (done : List DoneRequest) (past : List CertifiedItem) → done_at done past None ≡ None
done_by_none done past =
    ap (λ (o : Option DoneRequest). cond (is_some o) (just 0) (first_position (repeats None) 1 past)) (none_done done)
    ∙ never_repeated 1 past

pub no_keys : KeepsRequests [] [] []
unfolding first_position
no_keys r is = refl

pub is_none_of : (o : Option ℕ) → is_some o ≡ false → o ≡ None
is_none_of None e = refl
is_none_of (Some x) e = absurd cc

pub no_request : (o : Option RequestId) → ((r : RequestId) → o ≡ Some r → ⊥) → o ≡ None
no_request None none = refl
no_request (Some r) none = absurd (none r refl)
