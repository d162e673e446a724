-- Since when a number is a procedure's, behind one more entry.
use Rattle.std.proofs.Common.{◌≡◌, ℕ, suc, ◌+◌, ◌≤◌, nat_eq, Bool, true, false, cond, find, List, [], ◌∷◌, ◌++◌, length, reverse, Option, Some, None, refl, sym, ap, ◌∙◌, arith, inl, inr}
use Rattle.std.proofs.lemmas.Bool.{cases_lt}
use Rattle.std.proofs.lemmas.Bool.Decides.{nat_tests}
use Rattle.std.proofs.lemmas.List.{length-append, reverse-append}
use Rattle.log_model.specs.Log.{StoredProcedure, Catalogue, Setting, Item, Log, IsLog, by_number, procedures_after}
use Rattle.site.specs.Replica.{KnowsSince, since_of, position_of}

-- what the laws of the log say
abbrev pub ProceduresStay : Type 0
ProceduresStay = (w : Setting) (log more : Log) (position : ℕ) → position ≤ length log → procedures_after w (log ++ more) position ≡ procedures_after w log position

abbrev pub NeverLost : Type 0
NeverLost = (w : Setting) (log : Log) (earlier later number : ℕ) (p : StoredProcedure) → IsLog log → earlier ≤ later → later ≤ length log → by_number (procedures_after w log earlier) number ≡ Some p → by_number (procedures_after w log later) number ≡ Some p

module _ (stay : ProceduresStay) (w : Setting) (log : Log) (item : Item) (additions : List (ℕ × ℕ)) where
  long : length (log ++ item ∷ []) ≡ suc (length log)
  long = length-append log (item ∷ []) ∙ (let e : length log + 1 ≡ suc (length log) = omega arith in e)

  same_before : (number position : ℕ) → position ≤ length log → by_number (procedures_after w (log ++ item ∷ []) position) number ≡ by_number (procedures_after w log position) number
  same_before number position le = ap (λ (ps : Catalogue). by_number ps number) (stay w log (item ∷ []) position le)

  at_the_end : (number position : ℕ) → length (log ++ item ∷ []) ≤ position → position ≤ length (log ++ item ∷ []) → by_number (procedures_after w (log ++ item ∷ []) position) number ≡ by_number (procedures_after w (log ++ item ∷ []) (length (log ++ item ∷ []))) number
  at_the_end number position ge le = ap (λ (n : ℕ). by_number (procedures_after w (log ++ item ∷ []) n) number) (let e : position ≡ length (log ++ item ∷ []) = omega arith in e)

  -- behind an item that leaves the procedures
  pub since_same : procedures_after w (log ++ item ∷ []) (suc (length log)) ≡ procedures_after w log (length log) → KnowsSince w log additions → KnowsSince w (log ++ item ∷ []) additions
  since_same same knows = record {
    reached = λ number. let old = knows.reached number in let count = long in omega arith;
    from = λ number position since le. elim (cases_lt position (length (log ++ item ∷ []))) [
      | inl lt ↦
          let count = long in
          same_before number position (omega arith) ∙ knows.from number position since (omega arith)
          ∙ sym (ap (λ (n : ℕ). by_number (procedures_after w (log ++ item ∷ []) n) number) long ∙ ap (λ (ps : Catalogue). by_number ps number) same)
      | inr ge ↦ at_the_end number position ge le
    ];
    before = λ number position lt. let old = knows.reached number in same_before number position (omega arith) ∙ knows.before number position lt;
  }

  -- behind one that adds a procedure
  module _ (p : StoredProcedure) (added : procedures_after w (log ++ item ∷ []) (suc (length log)) ≡ procedures_after w log (length log) ++ p ∷ []) where
    since_later : (number : ℕ) → since_of (additions ++ (p.number, suc (length log)) ∷ []) number ≡ cond (nat_eq p.number number) (suc (length log)) (since_of additions number)
    since_later number = ap (λ (xs : List (ℕ × ℕ)). position_of (find (λ a. nat_eq a.0 number) xs)) (reverse-append additions ((p.number, suc (length log)) ∷ [])) ∙ chosen (nat_eq p.number number)
      where
        chosen : (b : Bool) → position_of (cond b (Some (p.number, suc (length log))) (find (λ a. nat_eq a.0 number) (reverse additions))) ≡ cond b (suc (length log)) (since_of additions number)
        chosen true = refl
        chosen false = refl

    new_since : (number : ℕ) → nat_eq p.number number ≡ true → since_of (additions ++ (p.number, suc (length log)) ∷ []) number ≡ suc (length log)
    new_since number e = since_later number ∙ ap (λ b. cond b (suc (length log)) (since_of additions number)) e

    old_since : (number : ℕ) → nat_eq p.number number ≡ false → since_of (additions ++ (p.number, suc (length log)) ∷ []) number ≡ since_of additions number
    old_since number e = since_later number ∙ ap (λ b. cond b (suc (length log)) (since_of additions number)) e

    none_earlier : NeverLost → IsLog log → (number position : ℕ) → by_number (procedures_after w log (length log)) number ≡ None → position ≤ length log → (o : Option StoredProcedure) → by_number (procedures_after w log position) number ≡ o → o ≡ None
    none_earlier never is number position none le None e = refl
    none_earlier never is number position none le (Some q) e = absurd (let found = never w log position (length log) number q is le (omega arith) e in cc)

    others : (number : ℕ) → nat_eq p.number number ≡ false → by_number (procedures_after w (log ++ item ∷ []) (length (log ++ item ∷ []))) number ≡ by_number (procedures_after w log (length log)) number
    others number e =
        ap (λ (n : ℕ). by_number (procedures_after w (log ++ item ∷ []) n) number) long ∙ ap (λ (ps : Catalogue). by_number ps number) added ∙ not_last (procedures_after w log (length log))
      where
        not_last : (ps : Catalogue) → by_number (ps ++ p ∷ []) number ≡ by_number ps number
        not_last [] = ap (λ b. cond b (Some p) None) e
        not_last (q ∷ ps) = ap (λ (o : Option StoredProcedure). cond (nat_eq q.number number) (Some q) o) (not_last ps)

    pub since_added : NeverLost → IsLog log → by_number (procedures_after w log (length log)) p.number ≡ None → KnowsSince w log additions → KnowsSince w (log ++ item ∷ []) (additions ++ (p.number, suc (length log)) ∷ [])
    since_added never of_log none knows = record {
      reached = λ number. elim (nat_eq p.number number) as (λ b. nat_eq p.number number ≡ b → since_of (additions ++ (p.number, suc (length log)) ∷ []) number ≤ length (log ++ item ∷ [])) [
        | true ↦ λ e. let is = new_since number e in let count = long in omega arith
        | false ↦ λ e. let is = old_since number e in let old = knows.reached number in let count = long in omega arith
      ] refl;
      from = λ number position since le. elim (cases_lt position (length (log ++ item ∷ []))) [
        | inr ge ↦ at_the_end number position ge le
        | inl lt ↦ elim (nat_eq p.number number) as (λ b. nat_eq p.number number ≡ b → by_number (procedures_after w (log ++ item ∷ []) position) number ≡ by_number (procedures_after w (log ++ item ∷ []) (length (log ++ item ∷ []))) number) [
          | true ↦ λ e. absurd (let is = new_since number e in let count = long in omega arith)
          | false ↦ λ e.
              let is = old_since number e in
              let count = long in
              same_before number position (omega arith) ∙ knows.from number position (omega arith) (omega arith) ∙ sym (others number e)
        ] refl
      ];
      before = λ number position lt. elim (nat_eq p.number number) as (λ b. nat_eq p.number number ≡ b → by_number (procedures_after w (log ++ item ∷ []) position) number ≡ None) [
        | true ↦ λ e.
            let is = new_since number e in
            let same : p.number ≡ number = grind (arith, nat_tests) in
            let le : position ≤ length log = omega arith in
            same_before number position le ∙ none_earlier never of_log number position (ap (λ (n : ℕ). by_number (procedures_after w log (length log)) n) (sym same) ∙ none) le (by_number (procedures_after w log position) number) refl
        | false ↦ λ e.
            let is = old_since number e in
            let old = knows.reached number in
            same_before number position (omega arith) ∙ knows.before number position (omega arith)
      ] refl;
    }
