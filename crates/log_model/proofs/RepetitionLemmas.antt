-- No two committed calls carry one request.
use Rattle.std.proofs.Common.{◌≡◌, ◌⊎◌, inl, inr, ◌↔◌, ℕ, suc, ◌-◌, ◌<◌, cond, true, false, nat_eq, nat_le, IsTrue, IsSome, Option, Some, None, slice_get, refl, sym, ap, subst, ◌∙◌, arith}
use Rattle.std.proofs.lemmas.Bool.{and_parts, and_from}
use Rattle.std.proofs.lemmas.Bool.Decides.{nat_tests}
use Rattle.log_model.specs.declared.request.RequestId.{RequestId}
use Rattle.log_model.specs.declared.verdict.Verdict.TheVariants.{Commit, Stale, Repeated}
use Rattle.log_model.specs.Log.{Setting, Call, CallItem, Log, IsLog, same_request, was_done, unless_repeated, unless_conflict, verdict_of}
use Rattle.log_model.specs.Verdicts.{IsDoneBefore, IsRepeated, IsRepetition}
use Rattle.log_model.proofs.RunLemmas.{just}
use Rattle.log_model.proofs.MeaningLemmas.{first_of_log, verdict_known, repeated_in, first_is_repeated, none_is_new, repeated_of, commit_is}

is_eq : (m n : ℕ) → nat_eq m n ≡ true → m ≡ n
is_eq m n e = grind (arith, nat_tests)

eq_is : (m n : ℕ) → m ≡ n → nat_eq m n ≡ true
eq_is m n e = grind (arith, nat_tests)

equal : (a b : RequestId) → a.session ≡ b.session → a.sequence ≡ b.sequence → a ≡ b
equal a b e f = ap (λ (n : ℕ). with_numbers n a.sequence) e ∙ ap (λ (n : ℕ). with_numbers b.session n) f
  where
    with_numbers : ℕ → ℕ → RequestId
    with_numbers m n = record { session = m; sequence = n }

same_is : (a b : RequestId) → same_request (Some a) (Some b) ≡ true → a ≡ b
same_is a b e =
    let parts = and_parts (nat_eq a.session b.session) (nat_eq a.sequence b.sequence) e in
    equal a b (is_eq a.session b.session parts.0) (is_eq a.sequence b.sequence parts.1)

same_self : (a : RequestId) → same_request (Some a) (Some a) ≡ true
same_self a = and_from (nat_eq a.session a.session) (nat_eq a.sequence a.sequence) (eq_is a.session a.session refl) (eq_is a.sequence a.sequence refl)

same_given : (a b : Option RequestId) → same_request a b ≡ true → (a ≡ b) × IsSome a
same_given None b e = absurd cc
same_given (Some a) None e = absurd cc
same_given (Some a) (Some b) e = (ap just (same_is a b e), refl)

given_same : (a b : Option RequestId) → a ≡ b → IsSome a → same_request a b ≡ true
given_same None b e some = absurd cc
given_same (Some a) b e some = ap (same_request (Some a)) (sym e) ∙ same_self a

pub same_in_words : (a b : Option RequestId) → IsTrue (same_request a b) ↔ ((a ≡ b) × IsSome a)
same_in_words a b = (same_given a b, λ h. given_same a b h.0 h.1)

turned : (a b : Option RequestId) → same_request a b ≡ true → same_request b a ≡ true
turned a b e = let s = same_given a b e in given_same b a (sym s.0) (subst IsSome s.0 s.1)

-- of two that are the same as a third
meet : (a b c : Option RequestId) → same_request a b ≡ true → same_request a c ≡ true → same_request b c ≡ true
meet a b c e f =
    let s = same_given a b e in
    let t = same_given a c f in
    given_same b c (sym s.0 ∙ t.0) (subst IsSome s.0 s.1)

-- the later one would repeat the earlier
earlier : (w : Setting) (log : Log) (d e : ℕ) (a b : Call) → IsLog log → slice_get log d ≡ just (CallItem a) → slice_get log e ≡ just (CallItem b) → verdict_of w log (suc d) ≡ just Commit → verdict_of w log (suc e) ≡ just Commit → same_request b.request a.request ≡ true → d < e → ⊥
earlier w log d e a b below x y u v same lt =
    (commit_is w log e b below y v).0.first (suc d) (record { earlier = omega arith; before = d; place = refl; first = a; stands = x; committed = u; same = same })

order_of : (d e : ℕ) → (d < e) ⊎ (e < d) ⊎ (d ≡ e)
order_of d e = elim (nat_le (suc d) e) as (λ b. nat_le (suc d) e ≡ b → (d < e) ⊎ (e < d) ⊎ (d ≡ e)) [
  | true ↦ λ t. inl (grind (arith, nat_tests))
  | false ↦ λ f. elim (nat_le (suc e) d) as (λ b. nat_le (suc e) d ≡ b → (d < e) ⊎ (e < d) ⊎ (d ≡ e)) [
    | true ↦ λ t. inr (inl (grind (arith, nat_tests)))
    | false ↦ λ g. inr (inr (grind (arith, nat_tests)))
  ] refl
] refl

pub once : (w : Setting) (log : Log) (d e : ℕ) (a b : Call) → IsLog log → slice_get log d ≡ Some (CallItem a) → slice_get log e ≡ Some (CallItem b) → verdict_of w log (suc d) ≡ Some Commit → verdict_of w log (suc e) ≡ Some Commit → IsTrue (same_request a.request b.request) → d ≡ e
once w log d e a b below x y u v same = elim (order_of d e) [
  | inl lt ↦ absurd (earlier w log d e a b below x y u v (turned a.request b.request same) lt)
  | inr (inl gt) ↦ absurd (earlier w log e d b a below y x v u same gt)
  | inr (inr eq) ↦ eq
]

-- two repetitions are one
same_repetition : (w : Setting) (log : Log) (call : Call) (m n later : ℕ) → IsLog log → IsRepetition w log call m later → IsRepetition w log call n later → m ≡ n
same_repetition w log call m n later below x y =
    let one = once w log x.before y.before x.first y.first below x.stands y.stands (ap (verdict_of w log) (sym x.place) ∙ x.committed) (ap (verdict_of w log) (sym y.place) ∙ y.committed)
    (meet call.request x.first.request y.first.request x.same y.same) in
    x.place ∙ ap suc one ∙ sym y.place

-- what a committed call repeats wasn't done before the log
done_first : (w : Setting) (log : Log) (call : Call) (n later : ℕ) → IsLog log → IsDoneBefore w call → IsRepetition w log call n later → ⊥
done_first w log call n later below done x =
    (commit_is w log x.before x.first below x.stands (ap (verdict_of w log) (sym x.place) ∙ x.committed)).0.not_before
    (ap (was_done w.beginning.requests) (sym (same_given call.request x.first.request x.same).0) ∙ done)

same_position : (w : Setting) (log : Log) (call : Call) (m n later : ℕ) → IsLog log → IsRepeated w log call m later → IsRepeated w log call n later → m ≡ n
same_position w log call m n later below (inl a) (inl b) = a.1 ∙ sym b.1
same_position w log call m n later below (inl a) (inr y) = absurd (done_first w log call n later below a.0 y)
same_position w log call m n later below (inr x) (inl b) = absurd (done_first w log call m later below b.0 x)
same_position w log call m n later below (inr x) (inr y) = same_repetition w log call m n later below x y

pub not_before : (w : Setting) (log : Log) (d : ℕ) (call : Call) → IsLog log → slice_get log d ≡ Some (CallItem call) → verdict_of w log (suc d) ≡ Some Commit → IsDoneBefore w call → ⊥
not_before w log d call below at committed = (commit_is w log d call below at committed).0.not_before

repeated_is : (w : Setting) (log : Log) (d : ℕ) (call : Call) (position : ℕ) → IsLog log → slice_get log d ≡ just (CallItem call) → verdict_of w log (suc d) ≡ just (Repeated position) → IsRepeated w log call position (suc d)
repeated_is w log d call position below e v = first_is_repeated w log d call position below (repeated_of (repeated_in w log d call) _ _ position (sym (verdict_known w log d call below e) ∙ v))

is_repeated : (w : Setting) (log : Log) (d : ℕ) (call : Call) (position : ℕ) → IsLog log → slice_get log d ≡ just (CallItem call) → IsRepeated w log call position (suc d) → verdict_of w log (suc d) ≡ just (Repeated position)
is_repeated w log d call position below e x = by (repeated_in w log d call) refl
  where
    by : (o : Option ℕ) → repeated_in w log d call ≡ o → verdict_of w log (suc d) ≡ just (Repeated position)
    by None none =
        let new = none_is_new w log d call below none in
        elim x [ inl done ↦ absurd (new.not_before done.0) | inr repetition ↦ absurd (new.first position repetition) ]
    by (Some m) some =
        let same = same_position w log call m position (suc d) below (first_is_repeated w log d call m below some) x in
        verdict_known w log d call below e ∙ ap (λ (o : Option ℕ). just (unless_repeated o (cond (nat_le (d - call.snapshot) w.window) (unless_conflict (first_of_log w log d call)) Stale))) some ∙ ap (λ (n : ℕ). just (Repeated n)) same

pub repeated_means : (w : Setting) (log : Log) (d : ℕ) (call : Call) (position : ℕ) → IsLog log → slice_get log d ≡ just (CallItem call) → (verdict_of w log (suc d) ≡ just (Repeated position)) ↔ IsRepeated w log call position (suc d)
repeated_means w log d call position below e = (repeated_is w log d call position below e, is_repeated w log d call position below e)
