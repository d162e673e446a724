-- Slots needed_versions one after another.
use Rattle.std.proofs.Common.{◌≡◌, ℕ, zero, suc, ◌≤◌, ◌<◌, ◌^◌, eqb, Bool, true, false, cond, List, [], ◌∷◌, length, refl, sym, ap, subst, ◌∙◌, arith}
use Rattle.std.specs.Prelude.{Some}
use Rattle.row_chain.specs.Version.{needed_versions}
use Rattle.row_chain.specs.Slots.{Slot, AreAbove, AreRising, AreSlotsOf, chain_at, versions_in, versions_at, ArePruned}

above_pruned : (horizon n k : ℕ) (es ns : List Slot) → ArePruned horizon n es ns → length es ≤ n → AreAbove k es → AreAbove k ns
above_pruned horizon zero k [] [] h le a = tt
above_pruned horizon (suc n) k [] [] h le a = tt
above_pruned horizon zero k [] (x ∷ ns) h le a = absurd h
above_pruned horizon (suc n) k [] (x ∷ ns) h le a = absurd h
above_pruned horizon zero k (e ∷ es) [] h le a = absurd h
above_pruned horizon (suc n) k (e ∷ es) [] h le a = absurd h
above_pruned horizon zero k (e ∷ es) (x ∷ ns) h le a = absurd (omega arith)
above_pruned horizon (suc n) k (e ∷ es) (x ∷ ns) h le a = (subst (λ (j : ℕ). k < j) (sym h.0.key) a.0, above_pruned horizon n k es ns h.1 (omega arith) a.1)

pub rising_pruned : (horizon n : ℕ) (es ns : List Slot) → ArePruned horizon n es ns → length es ≤ n → AreRising es → AreRising ns
rising_pruned horizon zero [] [] h le a = tt
rising_pruned horizon (suc n) [] [] h le a = tt
rising_pruned horizon zero [] (x ∷ ns) h le a = absurd h
rising_pruned horizon (suc n) [] (x ∷ ns) h le a = absurd h
rising_pruned horizon zero (e ∷ es) [] h le a = absurd h
rising_pruned horizon (suc n) (e ∷ es) [] h le a = absurd h
rising_pruned horizon zero (e ∷ es) (x ∷ ns) h le a = absurd (omega arith)
rising_pruned horizon (suc n) (e ∷ es) (x ∷ ns) h le a = (subst (λ (j : ℕ). AreAbove j ns) (sym h.0.key) (above_pruned horizon n e.key es ns h.1 (omega arith) a.0), rising_pruned horizon n es ns h.1 (omega arith) a.1)

pub wide_pruned : (horizon n w : ℕ) (es ns : List Slot) → ArePruned horizon n es ns → AreSlotsOf w es → AreSlotsOf w ns
wide_pruned horizon zero w [] [] h a = tt
wide_pruned horizon (suc n) w [] [] h a = tt
wide_pruned horizon zero w [] (x ∷ ns) h a = absurd h
wide_pruned horizon (suc n) w [] (x ∷ ns) h a = absurd h
wide_pruned horizon zero w (e ∷ es) [] h a = absurd h
wide_pruned horizon (suc n) w (e ∷ es) [] h a = absurd h
wide_pruned horizon zero w (e ∷ es) (x ∷ ns) h a = (subst (λ (s : Slot). (s.chain.width ≡ w) × (s.key < 2 ^ 64)) (sym h.0) a.0, wide_pruned horizon zero w es ns h.1 a.1)
wide_pruned horizon (suc n) w (e ∷ es) (x ∷ ns) h a = ((h.0.width ∙ a.0.0, subst (λ (j : ℕ). j < 2 ^ 64) (sym h.0.key) a.0.1), wide_pruned horizon n w es ns h.1 a.1)

pub versions_pruned : (horizon n : ℕ) (es ns : List Slot) (q : ℕ) → ArePruned horizon n es ns → length es ≤ n → versions_at ns q ≡ needed_versions horizon (versions_at es q)
versions_pruned horizon zero [] [] q h le = refl
versions_pruned horizon (suc n) [] [] q h le = refl
versions_pruned horizon zero [] (x ∷ ns) q h le = absurd h
versions_pruned horizon (suc n) [] (x ∷ ns) q h le = absurd h
versions_pruned horizon zero (e ∷ es) [] q h le = absurd h
versions_pruned horizon (suc n) (e ∷ es) [] q h le = absurd h
versions_pruned horizon zero (e ∷ es) (x ∷ ns) q h le = absurd (omega arith)
versions_pruned horizon (suc n) (e ∷ es) (x ∷ ns) q h le =
    ap (λ (j : ℕ). versions_in (cond (eqb j q) (Some x.chain) (chain_at ns q))) h.0.key
    ∙ elim (eqb e.key q) as (λ (t : Bool). versions_in (cond t (Some x.chain) (chain_at ns q)) ≡ needed_versions horizon (versions_in (cond t (Some e.chain) (chain_at es q)))) [
      | true ↦ h.0.versions
      | false ↦ versions_pruned horizon n es ns q h.1 (omega arith)
    ]
