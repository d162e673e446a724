-- What is said of a beginning of a log is said of the log.
use Rattle.std.proofs.Common.{◌≡◌, ℕ, zero, suc, inl, inr, List, [], ◌∷◌, ◌++◌, All, Option, Some, None, IfSome, get_or, length, slice_get, slice_set, refl, sym, ap, subst, ◌∙◌, append_assoc}
use Rattle.std.specs.Prelude.{◌⊎◌}
use Rattle.std.proofs.lemmas.List.{append-nil}
use Rattle.std.proofs.lemmas.Option.{get_or_from_slice_get, slice_get_within}
use mathlib.Core.List.{IsPrefix}
use Rattle.log_model.specs.Log.{Setting}
use Rattle.node_calls.specs.declared.answer.Answer.{Answer}
use Rattle.script_run.specs.declared.call.ScriptCall.{ScriptCall}
use Rattle.script_run.specs.declared.text.ReplicaEnd.{ReplicaEnd}
use Rattle.node.specs.Requests.{Entries}
use Rattle.script_run.specs.Answered.{AreFoundOf, AreToldOf, IsEndOf, IsMade, IsToldOf}

pub prefix_same : {X : Type 0} (xs : List X) → IsPrefix xs xs
prefix_same xs = ([], append-nil xs)

pub prefix_trans : {X : Type 0} (xs ys zs : List X) → IsPrefix xs ys → IsPrefix ys zs → IsPrefix xs zs
prefix_trans xs ys zs p q = (p.0 ++ q.0, sym (append_assoc xs p.0 q.0) ∙ ap (λ us. us ++ q.0) p.1 ∙ q.1)

seen_longer : (log longer : Entries) (seen : Option Entries) → IsPrefix log longer → IfSome seen (λ entries. IsPrefix entries log)
    → IfSome seen (λ entries. IsPrefix entries longer)
seen_longer log longer None p begins = tt
seen_longer log longer (Some entries) p begins = prefix_trans entries log longer begins p

pub told_longer : (w : Setting) (replicas : ℕ) (log longer : Entries) (call : ScriptCall (List ℕ)) (what : Answer) → IsPrefix log longer
    → IsToldOf w replicas log call what → IsToldOf w replicas longer call what
told_longer w replicas log longer call what p t = record { seen = t.seen; told = t.told; begins = seen_longer log longer t.seen p t.begins }

pub found_longer : (w : Setting) (replicas : ℕ) (log longer : Entries) (calls : List (ScriptCall (List ℕ))) (found : List (Option Answer)) → IsPrefix log longer
    → AreFoundOf w replicas log calls found → AreFoundOf w replicas longer calls found
found_longer w replicas log longer calls found p f = record { each = λ place call what at is. told_longer w replicas log longer call what p (f.each place call what at is) }

pub answers_longer : (w : Setting) (replicas : ℕ) (log longer : Entries) (calls : List (ScriptCall (List ℕ))) (answers : List Answer) → IsPrefix log longer
    → AreToldOf w replicas log calls answers → AreToldOf w replicas longer calls answers
answers_longer w replicas log longer calls answers p f = record { each = λ place call what at is. told_longer w replicas log longer call what p (f.each place call what at is) }

pub end_longer : (w : Setting) (log longer : Entries) (end : ReplicaEnd) → IsPrefix log longer → IsEndOf w log end → IsEndOf w longer end
end_longer w log longer end p e = record { delivered = e.delivered; begins = prefix_trans e.delivered log longer e.begins p; ended = e.ended }

-- ends of a longer log
pub ends_longer : (w : Setting) (log longer : Entries) (ends : List ReplicaEnd) → IsPrefix log longer → All (IsEndOf w log) ends → All (IsEndOf w longer) ends
ends_longer w log longer ends p h = λ k d lt. end_longer w log longer (get_or ends k d) p (h k d lt)

-- ---- places

some_same : {X : Type 0} (x y : X) → Some x ≡ Some y → x ≡ y
some_same x y is = cc

-- what stands in a list with one more at its end
slice_get_more : {X : Type 0} (xs : List X) (x : X) (i : ℕ) (y : X) → slice_get (xs ++ x ∷ []) i ≡ Some y → (slice_get xs i ≡ Some y) ⊎ ((i ≡ length xs) × (x ≡ y))
slice_get_more [] x zero y is = inr (refl, some_same x y is)
slice_get_more [] x (suc i) y is = absurd (cc)
slice_get_more (u ∷ xs) x zero y is = inl is
slice_get_more (u ∷ xs) x (suc i) y is = later (slice_get_more xs x i y is)
  where
    later : (slice_get xs i ≡ Some y) ⊎ ((i ≡ length xs) × (x ≡ y)) → (slice_get xs i ≡ Some y) ⊎ ((suc i ≡ suc (length xs)) × (x ≡ y))
    later (inl h) = inl h
    later (inr h) = inr (ap suc h.0, h.1)

-- what stands in a list where one place is set
slice_get_set : {X : Type 0} (xs : List X) (i : ℕ) (x : X) (j : ℕ) (y : X) → slice_get (slice_set xs i x) j ≡ Some y → (slice_get xs j ≡ Some y) ⊎ ((j ≡ i) × (x ≡ y))
slice_get_set [] i x j y is = inl is
slice_get_set (u ∷ xs) zero x zero y is = inr (refl, some_same x y is)
slice_get_set (u ∷ xs) zero x (suc j) y is = inl is
slice_get_set (u ∷ xs) (suc i) x zero y is = inl is
slice_get_set (u ∷ xs) (suc i) x (suc j) y is = later (slice_get_set xs i x j y is)
  where
    later : (slice_get xs j ≡ Some y) ⊎ ((j ≡ i) × (x ≡ y)) → (slice_get xs j ≡ Some y) ⊎ ((suc j ≡ suc i) × (x ≡ y))
    later (inl h) = inl h
    later (inr h) = inr (ap suc h.0, h.1)

-- ---- one answer more

pub told_more : (w : Setting) (replicas : ℕ) (log : Entries) (calls : List (ScriptCall (List ℕ))) (answers : List Answer) (what : Answer)
    → AreToldOf w replicas log calls answers → ((call : ScriptCall (List ℕ)) → slice_get calls (length answers) ≡ Some call → IsToldOf w replicas log call what)
    → AreToldOf w replicas log calls (answers ++ what ∷ [])
told_more w replicas log calls answers what before here = record { each = λ place call other at is. one place call other at (slice_get_more answers what place other is) }
  where
    one : (place : ℕ) (call : ScriptCall (List ℕ)) (other : Answer) → slice_get calls place ≡ Some call
        → (slice_get answers place ≡ Some other) ⊎ ((place ≡ length answers) × (what ≡ other)) → IsToldOf w replicas log call other
    one place call other at (inl h) = before.each place call other at h
    one place call other at (inr h) = subst (IsToldOf w replicas log call) h.1 (here call (subst (λ i. slice_get calls i ≡ Some call) h.0 at))

-- an answer at the place of its call
pub found_put : (w : Setting) (replicas : ℕ) (log : Entries) (calls : List (ScriptCall (List ℕ))) (found : List (Option Answer)) (i : ℕ) (what : Answer) (seen : Option Entries)
    → AreFoundOf w replicas log calls found → IsMade w replicas calls i what seen → IfSome seen (λ entries. IsPrefix entries log)
    → AreFoundOf w replicas log calls (slice_set found i (Some what))
found_put w replicas log calls found i what seen before made begins =
    record { each = λ place call other at is. one place call other at (slice_get_set found i (Some what) place (Some other) is) }
  where
    one : (place : ℕ) (call : ScriptCall (List ℕ)) (other : Answer) → slice_get calls place ≡ Some call
        → (slice_get found place ≡ Some (Some other)) ⊎ ((place ≡ i) × (Some what ≡ Some other)) → IsToldOf w replicas log call other
    one place call other at (inl h) = before.each place call other at h
    one place call other at (inr h) =
        let same : made.call ≡ call = some_same made.call call (sym made.stands ∙ subst (λ j. slice_get calls j ≡ Some call) h.0 at) in
        let here : IsToldOf w replicas log made.call what = record { seen = seen; told = made.told; begins = begins } in
        subst (λ c. IsToldOf w replicas log c other) same (subst (IsToldOf w replicas log made.call) (some_same what other h.1) here)

some_none : {X : Type 0} (x : X) → Some x ≡ None → ⊥
some_none x is = absurd (cc)

-- none is there
pub none_there : (w : Setting) (replicas : ℕ) (log : Entries) (calls : List (ScriptCall (List ℕ))) (found : List (Option Answer)) → All (λ o. o ≡ None) found
    → AreFoundOf w replicas log calls found
none_there w replicas log calls found none = record {
  each = λ place call what at is.
      absurd (some_none what (sym (get_or_from_slice_get found place (Some what) (Some what) is) ∙ none place (Some what) (slice_get_within found place (Some what) is)));
}
