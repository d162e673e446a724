-- What a verdict means.
use Rattle.std.proofs.Common.{◌≡◌, ◌⊎◌, inl, inr, ℕ, zero, suc, ◌+◌, ◌-◌, ◌≤◌, ◌<◌, Bool, true, false, cond, ◌&&◌, is_some, List, [], ◌∷◌, length, take, drop, slice_get, IsSome, nat_le, Option, Some, None, option_map, refl, sym, ap, subst, ◌∙◌, arith}
use Rattle.std.proofs.lemmas.Bool.{and_parts}
use Rattle.std.specs.Prelude.{◌↔◌}
use Rattle.std.specs.FinMap.{get, empty, get-empty}
use Rattle.std.proofs.lemmas.Bool.Decides.{nat_tests}
use Rattle.std.proofs.lemmas.List.{length-take-le}
use Rattle.schema.specs.declared.look.Look.{Look}
use Rattle.schema.specs.Rows.{Key, key_cmp, Writes, any_covers, shares_key}
use Rattle.schema.proofs.ShareLemmas.{shared as key_shared, shares as key_shares}
use Rattle.log_model.specs.declared.request.RequestId.{RequestId}
use Rattle.log_model.specs.declared.verdict.Verdict.{Verdict}
use Rattle.log_model.specs.declared.verdict.Verdict.TheVariants.{Commit, Conflict, Stale, Repeated, Taken}
use Rattle.log_model.specs.Log.{Setting, Call, Item, CallItem, AdditionItem, Log, IsLog, same_request, was_done, CertifiedItem, is_commit, conflicts, repeats, first_position, first_repeated, unless_repeated, unless_conflict, verdict_after, certified_addition, history, procedures_after, verdict_of, run_in}
use Rattle.log_model.specs.Verdicts.{WroteWhatWasRead, IsConflict, IsLeastConflict, IsRepetition, IsRepeated, IsNew}
use Rattle.log_model.proofs.RunLemmas.{just}
use Rattle.log_model.proofs.VerdictLemmas.{none_here}
use Rattle.log_model.proofs.CallLemmas.{certified_is, addition_is, count_history}

-- ---- a shared key

record Shared (looks : List Look) (writes : Writes) : Type 0 where
  key : Key
  looked_at : any_covers looks key ≡ true
  written : IsSome (get writes key)

shared : (looks : List Look) (writes : Writes) → shares_key looks writes ≡ true → Shared looks writes
shared looks writes e = let f = key_shared looks writes e in record { key = f.0; looked_at = f.1; written = f.2 }

shares : (looks : List Look) (writes : Writes) → Shared looks writes → shares_key looks writes ≡ true
shares looks writes s = key_shares looks writes s.key s.looked_at s.written

-- ---- the first of a list that passes a test

-- the first of these that passes stands there
record FirstAt (test : CertifiedItem → Bool) (cs : List CertifiedItem) (i : ℕ) : Type 0 where
  c : CertifiedItem
  stands : slice_get cs i ≡ just c
  is : test c ≡ true
  none_before : (j : ℕ) → j < i → (d : CertifiedItem) → slice_get cs j ≡ just d → test d ≡ false

some_is : {X : Type 0} (x y : X) → just x ≡ just y → x ≡ y
some_is x y e = cc

first_some : (test : CertifiedItem → Bool) (n : ℕ) (cs : List CertifiedItem) (e : ℕ) → first_position test n cs ≡ just e → (i : ℕ) × (e ≡ n + i) × FirstAt test cs i
unfolding first_position
first_some test n [] e h = absurd cc
first_some test n (c ∷ cs) e h =
    elim (test c) as (λ b. test c ≡ b → cond b (just n) (first_position test (n + 1) cs) ≡ just e → (i : ℕ) × (e ≡ n + i) × FirstAt test (c ∷ cs) i) [
      | true ↦ λ t g. (0, (let same = some_is n e g in omega arith), record { c = c; stands = refl; is = t; none_before = λ j lt. absurd (omega arith) })
      | false ↦ λ t g.
          let rest = first_some test (n + 1) cs e g in
          let at = rest.2 in
          let count = rest.1 in
          (suc rest.0, omega arith, record { c = at.c; stands = at.stands; is = at.is; none_before = before test c cs rest.0 t at.none_before })
    ] refl h
  where
    before : (test : CertifiedItem → Bool) (c : CertifiedItem) (cs : List CertifiedItem) (i : ℕ) → test c ≡ false → ((j : ℕ) → j < i → (d : CertifiedItem) → slice_get cs j ≡ just d → test d ≡ false)
        → (j : ℕ) → j < suc i → (d : CertifiedItem) → slice_get (c ∷ cs) j ≡ just d → test d ≡ false
    before test c cs i t h zero lt d e = subst (λ (x : CertifiedItem). test x ≡ false) (some_is c d e) t
    before test c cs i t h (suc j) lt d e = h j (omega arith) d e

first_none : (test : CertifiedItem → Bool) (n : ℕ) (cs : List CertifiedItem) → first_position test n cs ≡ None → (j : ℕ) (d : CertifiedItem) → slice_get cs j ≡ just d → test d ≡ false
unfolding first_position
first_none test n [] h j d e = absurd cc
first_none test n (c ∷ cs) h zero d e =
    elim (test c) as (λ b. test c ≡ b → cond b (just n) (first_position test (n + 1) cs) ≡ None → test d ≡ false) [
      | true ↦ λ t g. absurd cc
      | false ↦ λ t g. subst (λ (x : CertifiedItem). test x ≡ false) (some_is c d e) t
    ] refl h
first_none test n (c ∷ cs) h (suc j) d e =
    elim (test c) as (λ b. cond b (just n) (first_position test (n + 1) cs) ≡ None → test d ≡ false) [
      | true ↦ λ g. absurd cc
      | false ↦ λ g. first_none test (n + 1) cs g j d e
    ] h

-- ---- what became of the calls since the snapshot

pub get_drop : {X : Type 0} (xs : List X) (s i : ℕ) → slice_get (drop s xs) i ≡ slice_get xs (s + i)
get_drop xs zero i = let e : 0 + i ≡ i = omega arith in ap (slice_get xs) (sym e)
get_drop [] (suc s) i = refl
get_drop (x ∷ xs) (suc s) i = get_drop xs s i ∙ (let e : suc s + i ≡ suc (s + i) = omega arith in ap (slice_get (x ∷ xs)) (sym e))

get_take : {X : Type 0} (xs : List X) (n i : ℕ) → i < n → slice_get (take n xs) i ≡ slice_get xs i
get_take [] zero i lt = refl
get_take [] (suc n) i lt = refl
get_take (x ∷ xs) zero i lt = absurd (omega arith)
get_take (x ∷ xs) (suc n) zero lt = refl
get_take (x ∷ xs) (suc n) (suc i) lt = get_take xs n i (omega arith)

within : {X : Type 0} (xs : List X) (k : ℕ) (x : X) → slice_get xs k ≡ just x → k < length xs
within [] k x e = absurd cc
within (y ∷ xs) zero x e = omega arith
within (y ∷ xs) (suc k) x e = let lt = within xs k x e in omega arith

there : {X : Type 0} (xs : List X) (k : ℕ) → k < length xs → (x : X) × (slice_get xs k ≡ just x)
there [] k lt = absurd (omega arith)
there (x ∷ xs) zero lt = (x, refl)
there (x ∷ xs) (suc k) lt = there xs k (omega arith)

beyond : {X : Type 0} (xs : List X) (n i : ℕ) (x : X) → slice_get (take n xs) i ≡ just x → i < n
beyond [] zero i x e = absurd cc
beyond [] (suc n) i x e = absurd cc
beyond (y ∷ xs) zero i x e = absurd cc
beyond (y ∷ xs) (suc n) zero x e = omega arith
beyond (y ∷ xs) (suc n) (suc i) x e = let lt = beyond xs n i x e in omega arith

committed : (v : Verdict) → is_commit v ≡ true → v ≡ Commit
committed Commit e = refl
committed (Conflict n) e = absurd cc
committed Stale e = absurd cc
committed (Repeated n) e = absurd cc
committed (Taken n) e = absurd cc

-- what stands at a position of what the log came to, by the item there
data StandsThere (w : Setting) (log : Log) (k : ℕ) (c : CertifiedItem) : Type 0 where
  ByCall : (call : Call) → slice_get log k ≡ just (CallItem call) → (run_in w log call).writes ≡ c.writes → call.request ≡ c.request → StandsThere w log k c
  ByAddition : empty ≡ c.writes → None ≡ c.request → StandsThere w log k c

stands_there : (w : Setting) (log : Log) (k : ℕ) (c : CertifiedItem) (item : Item) → IsLog log → slice_get log k ≡ just item → slice_get (history w log).certified k ≡ just c → StandsThere w log k c
stands_there w log k c (CallItem call) below at here =
    let known = certified_is w log k call below at in
    ByCall call at (ap (λ (x : CertifiedItem). x.writes) (some_is _ c (sym known ∙ here))) (ap (λ (x : CertifiedItem). x.request) (some_is _ c (sym known ∙ here)))
stands_there w log k c (AdditionItem p) below at here =
    let known = addition_is w log k p below at in
    ByAddition (ap (λ (x : CertifiedItem). x.writes) (some_is (certified_addition (procedures_after w log k) p) c (sym known ∙ here)))
    (ap (λ (x : CertifiedItem). x.request) (some_is (certified_addition (procedures_after w log k) p) c (sym known ∙ here)))

whats_there : (w : Setting) (log : Log) (k : ℕ) (c : CertifiedItem) → IsLog log → slice_get (history w log).certified k ≡ just c → StandsThere w log k c
whats_there w log k c below here =
    let inside : k < length (history w log).certified = within (history w log).certified k c here in
    let count = count_history w log in
    let other = there log k (omega arith) in
    stands_there w log k c other.0 below other.1 here

abbrev no_writes : Writes
no_writes = empty

nothing_written : (key : Key) → IsSome (get no_writes key) → ⊥
nothing_written key h = let bad : false ≡ true = ap is_some (sym (get-empty key_cmp key)) ∙ h in cc

wrote : (w : Setting) (log : Log) (looks : List Look) (k : ℕ) (c : CertifiedItem) → slice_get (history w log).certified k ≡ just c → (is_commit c.verdict && shares_key looks c.writes) ≡ true → StandsThere w log k c → WroteWhatWasRead w log looks (suc k)
wrote w log looks k c here test (ByCall call at writes request) =
    let parts = and_parts (is_commit c.verdict) (shares_key looks c.writes) test in
    let s = shared looks c.writes parts.1 in
    record {
      before = k;
      place = refl;
      call = call;
      stands = at;
      committed = ap (option_map (λ (x : CertifiedItem). x.verdict)) here ∙ ap just (committed c.verdict parts.0);
      key = s.key;
      looked_at = s.looked_at;
      written = subst (λ (x : Writes). IsSome (get x s.key)) (sym writes) s.written;
    }
wrote w log looks k c here test (ByAddition writes request) =
    let parts = and_parts (is_commit c.verdict) (shares_key looks c.writes) test in
    let s = shared looks c.writes parts.1 in
    absurd (nothing_written s.key (subst (λ (x : Writes). IsSome (get x s.key)) (sym writes) s.written))

-- what conflicts is in the way
in_the_way : (w : Setting) (log : Log) (call : Call) (d i : ℕ) (c : CertifiedItem) → IsLog log → slice_get (drop call.snapshot (take d (history w log).certified)) i ≡ just c
    → conflicts (run_in w log call).looks c ≡ true → IsConflict w log call (call.snapshot + 1 + i) (suc d)
in_the_way w log call d i c below e test =
    let at : slice_get (take d (history w log).certified) (call.snapshot + i) ≡ just c = sym (get_drop (take d (history w log).certified) call.snapshot i) ∙ e in
    let lt : call.snapshot + i < d = beyond (history w log).certified d (call.snapshot + i) c at in
    let here : slice_get (history w log).certified (call.snapshot + i) ≡ just c = sym (get_take (history w log).certified d (call.snapshot + i) lt) ∙ at in
    let number : suc (call.snapshot + i) ≡ call.snapshot + 1 + i = omega arith in
    record {
      since = omega arith;
      earlier = omega arith;
      wrote = subst (WroteWhatWasRead w log (run_in w log call).looks) number (wrote w log (run_in w log call).looks (call.snapshot + i) c here test (whats_there w log (call.snapshot + i) c below here));
    }

-- what is in the way conflicts
conflicts_there : (w : Setting) (log : Log) (call : Call) (number d : ℕ) → IsLog log → IsConflict w log call number (suc d)
    → (i : ℕ) × (number ≡ call.snapshot + 1 + i) × ((c : CertifiedItem) × (slice_get (drop call.snapshot (take d (history w log).certified)) i ≡ just c) × (conflicts (run_in w log call).looks c ≡ true))
conflicts_there w log call number d below way =
    let since = way.since in
    let earlier = way.earlier in
    let wrote = way.wrote in
    let place = wrote.place in
    let i = wrote.before - call.snapshot in
    let back : call.snapshot + (wrote.before - call.snapshot) ≡ wrote.before = omega arith in
    let lt : wrote.before < d = omega arith in
    let known = certified_is w log wrote.before wrote.call below wrote.stands in
    let c : CertifiedItem = record { request = wrote.call.request; writes = (run_in w log wrote.call).writes; verdict = verdict_after w.window w.beginning.requests (take wrote.before (history w log).certified) wrote.call (run_in w log wrote.call).looks } in
    let verdict : c.verdict ≡ Commit = some_is _ Commit (sym (ap (option_map (λ (x : CertifiedItem). x.verdict)) known) ∙ sym (ap (verdict_of w log) wrote.place) ∙ wrote.committed) in
    let share : shares_key (run_in w log call).looks (run_in w log wrote.call).writes ≡ true = shares (run_in w log call).looks (run_in w log wrote.call).writes (record { key = wrote.key; looked_at = wrote.looked_at; written = wrote.written }) in (
      wrote.before - call.snapshot,
      omega arith,
      (
        c,
        get_drop (take d (history w log).certified) call.snapshot (wrote.before - call.snapshot) ∙ ap (slice_get (take d (history w log).certified)) back ∙ get_take (history w log).certified d wrote.before lt ∙ known,
        ap (λ (v : Verdict). is_commit v && shares_key (run_in w log call).looks (run_in w log wrote.call).writes) verdict ∙ share,
      ),
    )

pub contradiction : (b : Bool) → b ≡ true → b ≡ false → ⊥
contradiction true e f = cc
contradiction false e f = cc

abbrev pub since : Setting → Log → ℕ → Call → List CertifiedItem
since w log d call = drop call.snapshot (take d (history w log).certified)

abbrev pub first_of_log : Setting → Log → ℕ → Call → Option ℕ
first_of_log w log d call = first_position (conflicts (run_in w log call).looks) (call.snapshot + 1) (since w log d call)

-- ---- what carries the same request

not_none : (r : Option RequestId) → same_request r None ≡ true → ⊥
not_none None e = cc
not_none (Some r) e = cc

repetition_by : (w : Setting) (log : Log) (call : Call) (d k : ℕ) (c : CertifiedItem) → k < d → slice_get (history w log).certified k ≡ just c → repeats call.request c ≡ true → StandsThere w log k c → IsRepetition w log call (suc k) (suc d)
repetition_by w log call d k c lt here test (ByCall first at writes request) =
    let parts = and_parts (is_commit c.verdict) (same_request call.request c.request) test in
    record {
      earlier = omega arith;
      before = k;
      place = refl;
      first = first;
      stands = at;
      committed = ap (option_map (λ (x : CertifiedItem). x.verdict)) here ∙ ap just (committed c.verdict parts.0);
      same = ap (same_request call.request) request ∙ parts.1;
    }
repetition_by w log call d k c lt here test (ByAddition writes request) =
    let parts = and_parts (is_commit c.verdict) (same_request call.request c.request) test in
    absurd (not_none call.request (ap (same_request call.request) request ∙ parts.1))

-- what repeats is a repetition
repeated_there : (w : Setting) (log : Log) (call : Call) (d k : ℕ) (c : CertifiedItem) → IsLog log → slice_get (take d (history w log).certified) k ≡ just c → repeats call.request c ≡ true → IsRepetition w log call (suc k) (suc d)
repeated_there w log call d k c below at test =
    let lt : k < d = beyond (history w log).certified d k c at in
    let here : slice_get (history w log).certified k ≡ just c = sym (get_take (history w log).certified d k lt) ∙ at in
    repetition_by w log call d k c lt here test (whats_there w log k c below here)

-- a repetition repeats
repeats_there : (w : Setting) (log : Log) (call : Call) (number d : ℕ) → IsLog log → (x : IsRepetition w log call number (suc d)) → (c : CertifiedItem) × (slice_get (take d (history w log).certified) x.before ≡ just c) × (repeats call.request c ≡ true)
repeats_there w log call number d below x =
    let place = x.place in
    let earlier = x.earlier in
    let lt : x.before < d = omega arith in
    let known = certified_is w log x.before x.first below x.stands in
    let c : CertifiedItem = record { request = x.first.request; writes = (run_in w log x.first).writes; verdict = verdict_after w.window w.beginning.requests (take x.before (history w log).certified) x.first (run_in w log x.first).looks } in
    let verdict : c.verdict ≡ Commit = some_is _ Commit (sym (ap (option_map (λ (y : CertifiedItem). y.verdict)) known) ∙ sym (ap (verdict_of w log) x.place) ∙ x.committed) in
    (c, get_take (history w log).certified d x.before lt ∙ known, ap (λ (v : Verdict). is_commit v && same_request call.request x.first.request) verdict ∙ x.same)

abbrev pub repeated_in : Setting → Log → ℕ → Call → Option ℕ
repeated_in w log d call = first_repeated w.beginning.requests (take d (history w log).certified) call

-- the position of the committed call that carries the request
abbrev repeated_since : Setting → Log → ℕ → Call → Option ℕ
repeated_since w log d call = first_position (repeats call.request) 1 (take d (history w log).certified)

is_repetition : (w : Setting) (log : Log) (d : ℕ) (call : Call) (number : ℕ) → IsLog log → repeated_since w log d call ≡ just number → IsRepetition w log call number (suc d)
is_repetition w log d call number below e =
    let first = first_some (repeats call.request) 1 (take d (history w log).certified) number e in
    let at = first.2 in
    let place : number ≡ suc first.0 = (let is = first.1 in omega arith) in
    subst (λ (n : ℕ). IsRepetition w log call n (suc d)) (sym place) (repeated_there w log call d first.0 at.c below at.stands at.is)

pub first_is_repeated : (w : Setting) (log : Log) (d : ℕ) (call : Call) (number : ℕ) → IsLog log → repeated_in w log d call ≡ just number → IsRepeated w log call number (suc d)
first_is_repeated w log d call number below e = by (was_done w.beginning.requests call.request) refl e
  where
    by : (b : Bool) → was_done w.beginning.requests call.request ≡ b → cond b (just 0) (repeated_since w log d call) ≡ just number → IsRepeated w log call number (suc d)
    by true done found = inl (done, sym (some_is 0 number found))
    by false new found = inr (is_repetition w log d call number below found)

pub none_is_new : (w : Setting) (log : Log) (d : ℕ) (call : Call) → IsLog log → repeated_in w log d call ≡ None → IsNew w log call (suc d)
none_is_new w log d call below e =
    let parts = none_here (was_done w.beginning.requests call.request) 0 (repeated_since w log d call) e in
    record {
      not_before = λ done. contradiction (was_done w.beginning.requests call.request) done parts.0;
      first = λ number x.
          let there = repeats_there w log call number d below x in
          contradiction (repeats call.request there.0) there.2 (first_none (repeats call.request) 1 (take d (history w log).certified) parts.1 x.before there.0 there.1);
    }

pub new_is_none : (w : Setting) (log : Log) (d : ℕ) (call : Call) → IsLog log → IsNew w log call (suc d) → repeated_in w log d call ≡ None
new_is_none w log d call below new = none (repeated_in w log d call) refl
  where
    none : (o : Option ℕ) → repeated_in w log d call ≡ o → repeated_in w log d call ≡ None
    none None e = e
    none (Some number) e = elim (first_is_repeated w log d call number below e) [
      | inl done ↦ absurd (new.not_before done.0)
      | inr x ↦ absurd (new.first number x)
    ]

-- ---- the verdict

pub verdict_known : (w : Setting) (log : Log) (d : ℕ) (call : Call) → IsLog log → slice_get log d ≡ just (CallItem call)
    → verdict_of w log (suc d) ≡ just (unless_repeated (repeated_in w log d call) (cond (nat_le (d - call.snapshot) w.window) (unless_conflict (first_of_log w log d call)) Stale))
unfolding verdict_after
verdict_known w log d call below e =
    let count = count_history w log in
    let lt = within log d (CallItem call) e in
    let long : length (take d (history w log).certified) ≡ d = length-take-le d (history w log).certified (omega arith) in
    ap (option_map (λ (x : CertifiedItem). x.verdict)) (certified_is w log d call below e)
    ∙ ap (λ (n : ℕ). just (unless_repeated (repeated_in w log d call) (cond (nat_le (n - call.snapshot) w.window) (unless_conflict (first_of_log w log d call)) Stale))) long

-- of a call that repeats none
verdict_new : (w : Setting) (log : Log) (d : ℕ) (call : Call) → IsLog log → slice_get log d ≡ just (CallItem call) → IsNew w log call (suc d)
    → verdict_of w log (suc d) ≡ just (cond (nat_le (d - call.snapshot) w.window) (unless_conflict (first_of_log w log d call)) Stale)
verdict_new w log d call below e new =
    verdict_known w log d call below e ∙ ap (λ (o : Option ℕ). just (unless_repeated o (cond (nat_le (d - call.snapshot) w.window) (unless_conflict (first_of_log w log d call)) Stale))) (new_is_none w log d call below new)

stale_of : (r : Option ℕ) (b : Bool) (o : Option ℕ) → just (unless_repeated r (cond b (unless_conflict o) Stale)) ≡ just Stale → (r ≡ None) × (b ≡ false)
stale_of (Some n) b o e = absurd cc
stale_of None true None e = absurd cc
stale_of None true (Some n) e = absurd cc
stale_of None false o e = (refl, refl)

conflict_of : (r : Option ℕ) (b : Bool) (o : Option ℕ) (n : ℕ) → just (unless_repeated r (cond b (unless_conflict o) Stale)) ≡ just (Conflict n) → (r ≡ None) × (b ≡ true) × (o ≡ just n)
conflict_of (Some m) b o n e = absurd cc
conflict_of None true None n e = absurd cc
conflict_of None true (Some m) n e = (refl, refl, (let same : Conflict m ≡ Conflict n = some_is _ _ e in cc))
conflict_of None false o n e = absurd cc

commit_of : (r : Option ℕ) (b : Bool) (o : Option ℕ) → just (unless_repeated r (cond b (unless_conflict o) Stale)) ≡ just Commit → (r ≡ None) × (b ≡ true) × (o ≡ None)
commit_of (Some m) b o e = absurd cc
commit_of None true None e = (refl, refl, refl)
commit_of None true (Some m) e = absurd cc
commit_of None false o e = absurd cc

pub repeated_of : (r : Option ℕ) (b : Bool) (o : Option ℕ) (n : ℕ) → just (unless_repeated r (cond b (unless_conflict o) Stale)) ≡ just (Repeated n) → r ≡ just n
repeated_of (Some m) b o n e = (let same : Repeated m ≡ Repeated n = some_is _ _ e in cc)
repeated_of None true None n e = absurd cc
repeated_of None true (Some m) n e = absurd cc
repeated_of None false o n e = absurd cc

too_many : (m n : ℕ) → nat_le m n ≡ false → n < m
too_many m n e = grind (arith, nat_tests)

few : (m n : ℕ) → nat_le m n ≡ true → m ≤ n
few m n e = grind (arith, nat_tests)

test_false : (m n : ℕ) → n < m → nat_le m n ≡ false
test_false m n e = grind (arith, nat_tests)

test_true : (m n : ℕ) → m ≤ n → nat_le m n ≡ true
test_true m n e = grind (arith, nat_tests)

pub stale_means : (w : Setting) (log : Log) (d : ℕ) (call : Call) → IsLog log → slice_get log d ≡ just (CallItem call) → (verdict_of w log (suc d) ≡ just Stale) ↔ (IsNew w log call (suc d) × (w.window < d - call.snapshot))
stale_means w log d call below e = (
  (λ v.
      let parts = stale_of (repeated_in w log d call) (nat_le (d - call.snapshot) w.window) (first_of_log w log d call) (sym (verdict_known w log d call below e) ∙ v) in
      (none_is_new w log d call below parts.0, too_many (d - call.snapshot) w.window parts.1)),
  (λ x. verdict_new w log d call below e x.0 ∙ ap (λ b. just (cond b (unless_conflict (first_of_log w log d call)) Stale)) (test_false (d - call.snapshot) w.window x.1)),
)

least_is : (w : Setting) (log : Log) (call : Call) (d i : ℕ) → IsLog log → FirstAt (conflicts (run_in w log call).looks) (drop call.snapshot (take d (history w log).certified)) i → (other : ℕ) → IsConflict w log call other (suc d) → call.snapshot + 1 + i ≤ other
least_is w log call d i below at other way =
    let there = conflicts_there w log call other d below way in
    let is = there.1 in
    elim (either i there.0) [
      | inl le ↦ omega arith
      | inr lt ↦
          let apart = at.none_before there.0 lt there.2.0 there.2.1 in
          let shares = there.2.2 in
          absurd (contradiction (conflicts (run_in w log call).looks there.2.0) shares apart)
    ]
  where
    either : (i j : ℕ) → (i ≤ j) ⊎ (j < i)
    either i j = elim (nat_le i j) as (λ b. nat_le i j ≡ b → (i ≤ j) ⊎ (j < i)) [ true ↦ λ e. inl (few i j e) | false ↦ λ e. inr (too_many i j e) ] refl

    contradiction : (b : Bool) → b ≡ true → b ≡ false → ⊥
    contradiction true e f = cc
    contradiction false e f = cc

first_is : (w : Setting) (log : Log) (d : ℕ) (call : Call) (number : ℕ) → IsLog log → first_of_log w log d call ≡ just number → IsLeastConflict w log call number (suc d)
first_is w log d call number below e =
    let first = first_some (conflicts (run_in w log call).looks) (call.snapshot + 1) (since w log d call) number e in
    let at = first.2 in
    subst (λ (n : ℕ). IsLeastConflict w log call n (suc d)) (sym first.1) (record {
      is = in_the_way w log call d first.0 at.c below at.stands at.is;
      least = least_is w log call d first.0 below at;
    })

none_is : (w : Setting) (log : Log) (d : ℕ) (call : Call) → IsLog log → first_of_log w log d call ≡ None → (other : ℕ) → IsConflict w log call other (suc d) → ⊥
none_is w log d call below e other way =
    let there = conflicts_there w log call other d below way in
    let apart = first_none (conflicts (run_in w log call).looks) (call.snapshot + 1) (since w log d call) e there.0 there.2.0 there.2.1 in
    contradiction (conflicts (run_in w log call).looks there.2.0) there.2.2 apart

conflict_is : (w : Setting) (log : Log) (d : ℕ) (call : Call) (number : ℕ) → IsLog log → slice_get log d ≡ just (CallItem call) → verdict_of w log (suc d) ≡ just (Conflict number)
    → IsNew w log call (suc d) × (d - call.snapshot ≤ w.window) × IsLeastConflict w log call number (suc d)
conflict_is w log d call number below e v =
    let parts = conflict_of (repeated_in w log d call) (nat_le (d - call.snapshot) w.window) (first_of_log w log d call) number (sym (verdict_known w log d call below e) ∙ v) in
    (none_is_new w log d call below parts.0, few (d - call.snapshot) w.window parts.1, first_is w log d call number below parts.2)

is_conflict : (w : Setting) (log : Log) (d : ℕ) (call : Call) (number : ℕ) → IsLog log → slice_get log d ≡ just (CallItem call) → IsNew w log call (suc d) × (d - call.snapshot ≤ w.window) × IsLeastConflict w log call number (suc d)
    → verdict_of w log (suc d) ≡ just (Conflict number)
is_conflict w log d call number below e h =
    verdict_new w log d call below e h.0
    ∙ ap (λ b. just (cond b (unless_conflict (first_of_log w log d call)) Stale)) (test_true (d - call.snapshot) w.window h.1)
    ∙ elim (first_of_log w log d call) as (λ o. first_of_log w log d call ≡ o → just (unless_conflict o) ≡ just (Conflict number)) [
      | None ↦ λ none. absurd (none_is w log d call below none number h.2.is)
      | Some m ↦ λ some.
          let first = first_is w log d call m below some in
          let one = first.least number h.2.is in
          let two = h.2.least m first.is in
          let same : m ≡ number = omega arith in
          ap (λ (n : ℕ). just (Conflict n)) same
    ] refl

pub conflict_means : (w : Setting) (log : Log) (d : ℕ) (call : Call) (number : ℕ) → IsLog log → slice_get log d ≡ just (CallItem call)
    → (verdict_of w log (suc d) ≡ just (Conflict number)) ↔ (IsNew w log call (suc d) × (d - call.snapshot ≤ w.window) × IsLeastConflict w log call number (suc d))
conflict_means w log d call number below e = (conflict_is w log d call number below e, is_conflict w log d call number below e)

pub commit_is : (w : Setting) (log : Log) (d : ℕ) (call : Call) → IsLog log → slice_get log d ≡ just (CallItem call) → verdict_of w log (suc d) ≡ just Commit
    → IsNew w log call (suc d) × (d - call.snapshot ≤ w.window) × ((other : ℕ) → IsConflict w log call other (suc d) → ⊥)
commit_is w log d call below e v =
    let parts = commit_of (repeated_in w log d call) (nat_le (d - call.snapshot) w.window) (first_of_log w log d call) (sym (verdict_known w log d call below e) ∙ v) in
    (none_is_new w log d call below parts.0, few (d - call.snapshot) w.window parts.1, none_is w log d call below parts.2)

commits_if : (w : Setting) (log : Log) (d : ℕ) (call : Call) → IsLog log → slice_get log d ≡ just (CallItem call) → IsNew w log call (suc d) × (d - call.snapshot ≤ w.window) × ((other : ℕ) → IsConflict w log call other (suc d) → ⊥)
    → verdict_of w log (suc d) ≡ just Commit
commits_if w log d call below e h =
    verdict_new w log d call below e h.0
    ∙ ap (λ b. just (cond b (unless_conflict (first_of_log w log d call)) Stale)) (test_true (d - call.snapshot) w.window h.1)
    ∙ elim (first_of_log w log d call) as (λ o. first_of_log w log d call ≡ o → just (unless_conflict o) ≡ just Commit) [
      | None ↦ λ none. refl
      | Some m ↦ λ some. absurd (h.2 m (first_is w log d call m below some).is)
    ] refl

pub commit_means : (w : Setting) (log : Log) (d : ℕ) (call : Call) → IsLog log → slice_get log d ≡ just (CallItem call)
    → (verdict_of w log (suc d) ≡ just Commit) ↔ (IsNew w log call (suc d) × (d - call.snapshot ≤ w.window) × ((other : ℕ) → IsConflict w log call other (suc d) → ⊥))
commit_means w log d call below e = (commit_is w log d call below e, commits_if w log d call below e)
