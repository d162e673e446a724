-- What the lines that are left come to.
use Rattle.std.proofs.Common.{◌≡◌, ◌⊎◌, inl, inr, ℕ, ◌+◌, ◌≤◌, length, List, [], ◌∷◌, Result, Ok, Err, IfOk, IfErr, refl, sym, ap, subst, arith, ◌∙◌}
use Rattle.std.specs.Prelude.{IsErrAnd, MatchResult}
use Rattle.script.specs.Text.{lines_of}
use Rattle.script.specs.declared.cause.FaultCause.{FaultCause}
use Rattle.script.specs.declared.cause.FaultCause.TheVariants.{NoMemory}
use Rattle.script.specs.declared.cause.ScriptFault.{ScriptFault}
use Rattle.script.specs.declared.stop.Stop.{Stop}
use Rattle.script.specs.declared.stop.Stop.TheVariants.{Fault}
use Rattle.script.specs.Said.{fault_at, said_from, unless_faulty, IsStopOf}

module _ {S X : Type 0} (after : S → List ℕ → Result S FaultCause) (at_end : S → Result X ScriptFault) (whole : Result X ScriptFault) where
  at_no_line : (s : S) (number : ℕ) → said_from after at_end s number [] ≡ at_end s
  unfolding said_from
  at_no_line s number = refl

  at_line : (s : S) (number : ℕ) (line : List ℕ) (more : List (List ℕ))
      → said_from after at_end s number (line ∷ more) ≡ unless_faulty number (after s line) (λ next. said_from after at_end next (number + 1) more)
  unfolding said_from
  at_line s number line more = refl

  pub ends : (s : S) (number : ℕ) (left : List (List ℕ)) → whole ≡ said_from after at_end s number left → left ≡ [] → whole ≡ at_end s
  ends s number left is none = is ∙ ap (said_from after at_end s number) none ∙ at_no_line s number

  -- what the whole script comes to, where its next line is this one
  by_line : (s : S) (number : ℕ) (left more : List (List ℕ)) (line : List ℕ)
      → whole ≡ said_from after at_end s number left → left ≡ line ∷ more
      → whole ≡ unless_faulty number (after s line) (λ next. said_from after at_end next (number + 1) more)
  by_line s number left more line is first = is ∙ ap (said_from after at_end s number) first ∙ at_line s number line more

  pub goes_on : (s next : S) (number : ℕ) (left more : List (List ℕ)) (line : List ℕ)
      → whole ≡ said_from after at_end s number left → left ≡ line ∷ more → after s line ≡ Ok next
      → whole ≡ said_from after at_end next (number + 1) more
  goes_on s next number left more line is first taken =
      by_line s number left more line is first
      ∙ ap (λ (r : Result S FaultCause). unless_faulty number r (λ n. said_from after at_end n (number + 1) more)) taken

  pub stops : (s : S) (number count : ℕ) (left more : List (List ℕ)) (line : List ℕ) (cause : FaultCause) (stop : Stop)
      → whole ≡ said_from after at_end s number left → left ≡ line ∷ more
      → (cause ≡ NoMemory) ⊎ (after s line ≡ Err cause) → stop ≡ Fault (fault_at number cause) → number ≤ count → IsStopOf whole count stop
  stops s number count left more line cause stop is first (inl out) told within = rw told (inl (out, within))
  stops s number count left more line cause stop is first (inr faulty) told within =
      rw told (inr (by_line s number left more line is first
      ∙ ap (λ (r : Result S FaultCause). unless_faulty number r (λ n. said_from after at_end n (number + 1) more)) faulty))

-- ---- the number of a line

-- the number of a line that is left is at most the count of all lines
pub at_most : (count number : ℕ) (left more : List (List ℕ)) (line : List ℕ) → number + length left ≡ 1 + count → left ≡ line ∷ more → number ≤ count
at_most count number left more line counted first = omega (arith, counted, ap length first)

pub counts_on : (count number : ℕ) (left more : List (List ℕ)) (line : List ℕ) → number + length left ≡ 1 + count → left ≡ line ∷ more → (number + 1) + length more ≡ 1 + count
counts_on count number left more line counted first = omega (arith, counted, ap length first)

-- the first of the lines, as the code has it
pub first_line : (bytes rest line shown : List ℕ) → lines_of bytes ≡ line ∷ lines_of rest → shown ≡ line → lines_of bytes ≡ shown ∷ lines_of rest
first_line bytes rest line shown first same = cc

pub ok_gives : {X E : Type 0} (r : Result X E) (P Q : X → Type 0) → IfOk r P → ((x : X) → P x → Q x) → IfOk r Q
ok_gives (Ok x) P Q p f = f x p
ok_gives (Err e) P Q p f = tt

-- ---- a result whose error was mapped

pub ok_mapped : {X E D : Type 0} (r : Result X E) (m : Result X D) (G : E → D → Type 0) (P : X → Type 0) → MatchResult r (λ x. m ≡ Ok x) (λ e. IsErrAnd m (G e)) → IfOk r P → IfOk m P
ok_mapped (Ok x) m G P is h = subst (λ n. IfOk n P) (sym is) h
ok_mapped (Err e) (Ok x) G P is h = absurd is
ok_mapped (Err e) (Err d) G P is h = tt

pub err_mapped : {X E D : Type 0} (r : Result X E) (m : Result X D) (G : E → D → Type 0) (P : E → Type 0) (Q : D → Type 0) → MatchResult r (λ x. m ≡ Ok x) (λ e. IsErrAnd m (G e)) → IfErr r P → ((e : E) (d : D) → G e d → P e → Q d) → IfErr m Q
err_mapped (Ok x) m G P Q is h f = subst (λ n. IfErr n Q) (sym is) tt
err_mapped (Err e) (Ok x) G P Q is h f = absurd is
err_mapped (Err e) (Err d) G P Q is h f = f e d is h
