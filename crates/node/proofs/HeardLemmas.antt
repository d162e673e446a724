-- What is heard at one more place.
use Rattle.std.proofs.Common.{◌≡◌, ◌⊎◌, inl, inr, ℕ, zero, suc, List, [], ◌∷◌, ◌++◌, length, slice_get, refl, sym, ap, ◌∙◌, subst}
use Rattle.std.specs.Prelude.{Some, Option}
use Rattle.log_model.specs.Log.{Setting}
use Rattle.log_entry.specs.declared.entry.Entry.{Entry as LogEntry}
use Rattle.node_calls.specs.Asked.{AskedCall}
use Rattle.node_calls.specs.declared.answer.Answer.{Answer}
use Rattle.node.specs.Requests.{IsHeard, AreHeardOf}

same_one : {X : Type 0} (x y : X) → Some x ≡ Some y → x ≡ y
same_one x y e = cc

-- in a list with one more: before, or the new one at the end
get_one_more : {X : Type 0} (xs : List X) (x y : X) (i : ℕ) → slice_get (xs ++ x ∷ []) i ≡ Some y → (slice_get xs i ≡ Some y) ⊎ ((i ≡ length xs) × (x ≡ y))
get_one_more [] x y zero e = inr (refl, same_one x y e)
get_one_more [] x y (suc i) e = absurd cc
get_one_more (z ∷ xs) x y zero e = inl e
get_one_more (z ∷ xs) x y (suc i) e = elim (get_one_more xs x y i e) [
  | inl old ↦ inl old
  | inr new ↦ (let at = new.0 in inr (ap suc at, new.1))
]

-- what was heard so far, with what is heard of the call at the next place
pub heard_next : {A : Type 0} (w : Setting) (replicas replica : ℕ) (asked : List AskedCall) (heard : List (Answer × Option (List (LogEntry A))))
    (a : AskedCall) (h : Answer × Option (List (LogEntry A)))
    → slice_get asked (length heard) ≡ Some a → AreHeardOf w replicas replica asked heard → IsHeard w replicas replica a h.0 h.1
    → AreHeardOf w replicas replica asked (heard ++ h ∷ [])
heard_next {A} w replicas replica asked heard a h here before new = λ place a' h' asks hears. elim (get_one_more heard h h' place hears) [
  | inl old ↦ before place a' h' asks old
  | inr last ↦ (
      let at : slice_get asked place ≡ Some a = ap (slice_get asked) last.0 ∙ here in
      let same : a ≡ a' = same_one a a' (sym at ∙ asks) in
      subst (λ (x : Answer × Option (List (LogEntry A))). IsHeard w replicas replica a' x.0 x.1) last.1 (subst (λ (x : AskedCall). IsHeard w replicas replica x h.0 h.1) same new))
]
