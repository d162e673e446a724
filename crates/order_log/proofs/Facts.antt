-- The last entry of a list is the one that was added last, and it keeps its fact.
use Rattle.std.proofs.Common.{◌≡◌, ◌≤◌, ◌+◌, List, [], ◌∷◌, ◌++◌, length, take, refl, sym, ap, subst, arith, ◌∙◌, length-append}
use Rattle.std.proofs.lemmas.List.{take-append-le}
use mathlib.Core.List.{IsPrefix}
use Rattle.log_entry.specs.declared.entry.Entry.{Entry as LogEntry}
use Rattle.order_log.specs.Facts.{HasFact, HasFactAfter, snapshot_of}

last_same : {X : Type 0} (xs ys : List X) (x y : X) → xs ++ x ∷ [] ≡ ys ++ y ∷ [] → (xs ≡ ys) × (x ≡ y)
last_same [] [] x y e = let same : x ≡ y = cc in (refl, same)
last_same [] (b ∷ []) x y e = absurd (cc)
last_same [] (b ∷ (d ∷ ys)) x y e = absurd (cc)
last_same (a ∷ []) [] x y e = absurd (cc)
last_same (a ∷ (d ∷ xs)) [] x y e = absurd (cc)
last_same (a ∷ xs) (b ∷ ys) x y e =
    let head : a ≡ b = cc in
    let tail : xs ++ x ∷ [] ≡ ys ++ y ∷ [] = cc in
    let rest = last_same xs ys x y tail in
    let fronts : xs ≡ ys = rest.0 in
    let whole : a ∷ xs ≡ b ∷ ys = cc in
    (whole, rest.1)

pub fact_after : {A : Type 0} (shows : List (LogEntry A) → LogEntry A → Type 0) (before : List (LogEntry A)) (e : LogEntry A) → HasFact shows (before ++ e ∷ []) → HasFactAfter shows before e
unfolding HasFact
fact_after {A} shows before e s =
    let same = last_same before s.0 e s.1 s.2 in
    let P : List (LogEntry A) → Type 0 = λ xs. HasFactAfter shows xs e in
    let Q : LogEntry A → Type 0 = λ x. HasFactAfter shows s.0 x in
    subst P (sym same.0) (subst Q (sym same.1) s.3)

-- the fact of an entry that was shown over a beginning, after what came between
pub fact_of_last : {A : Type 0} (shows : List (LogEntry A) → LogEntry A → Type 0) (old between seen new : List (LogEntry A)) (e : LogEntry A) → seen ≡ old ++ between → new ≡ seen ++ e ∷ []
    → snapshot_of e ≤ length old → shows (take (snapshot_of e) old) e → HasFact shows new
unfolding HasFact
fact_of_last {A} shows old between seen new e is now le h =
    let count : length seen ≡ length old + length between = ap (λ (xs : List (LogEntry A)). length xs) is ∙ length-append old between in
    let front : take (snapshot_of e) seen ≡ take (snapshot_of e) old = ap (take (snapshot_of e)) is ∙ take-append-le (snapshot_of e) old between le in
    (seen, e, now, ((omega arith), subst (λ (xs : List (LogEntry A)). shows xs e) (sym front) h))

no_more : {X : Type 0} (xs rest : List X) → length (xs ++ rest) ≡ length xs → xs ++ rest ≡ xs
no_more [] [] e = refl
no_more [] (r ∷ rest) e = absurd (cc)
no_more (x ∷ xs) rest e = ap (λ ys. x ∷ ys) (no_more xs rest (omega arith))

-- a list that begins another of its length is that list
pub same_list : {X : Type 0} (xs ys : List X) → IsPrefix xs ys → length xs ≡ length ys → xs ≡ ys
same_list xs ys begins e = sym (no_more xs begins.0 (ap length begins.1 ∙ sym e)) ∙ begins.1
