-- Slots without those that have no versions.
use Rattle.std.proofs.Common.{◌≡◌, ℕ, ◌≤◌, eqb, Bool, true, false, not, cond, List, [], ◌∷◌, length, filter, refl, sym, ap, ◌∙◌, arith}
use Rattle.std.specs.Prelude.{◌≢◌, Some, IsSome}
use Rattle.std.proofs.lemmas.Bool.{eqb-true, ne_eqb, false≢true}
use Rattle.row_chain.specs.Version.{Version}
use Rattle.row_chain.specs.Slots.{Slot, AreAbove, AreRising, AreSlotsOf, chain_at, versions_in, versions_at, has_versions}
use Rattle.row_chain.proofs.TableLemmas.{none_above}

abbrev pub kept : List Slot → List Slot
kept es = filter has_versions es

above-kept : (n : ℕ) (es : List Slot) → AreAbove n es → AreAbove n (kept es)
above-kept n [] h = tt
above-kept n (e ∷ es) h =
    elim (has_versions e) as (λ (t : Bool). AreAbove n (cond t (e ∷ kept es) (kept es))) [
      | true ↦ (h.0, above-kept n es h.1)
      | false ↦ above-kept n es h.1
    ]

pub rising-kept : (es : List Slot) → AreRising es → AreRising (kept es)
rising-kept [] up = tt
rising-kept (e ∷ es) up =
    elim (has_versions e) as (λ (t : Bool). AreRising (cond t (e ∷ kept es) (kept es))) [
      | true ↦ (above-kept e.key es up.0, rising-kept es up.1)
      | false ↦ rising-kept es up.1
    ]

pub wide-kept : (w : ℕ) (es : List Slot) → AreSlotsOf w es → AreSlotsOf w (kept es)
wide-kept w [] h = tt
wide-kept w (e ∷ es) h =
    elim (has_versions e) as (λ (t : Bool). AreSlotsOf w (cond t (e ∷ kept es) (kept es))) [
      | true ↦ (h.0, wide-kept w es h.1)
      | false ↦ wide-kept w es h.1
    ]

none : (vs : List Version) → not (eqb (length vs) 0) ≡ false → vs ≡ []
none [] e = refl
none (v ∷ vs) e = absurd (false≢true (sym e ∙ ap not (ne_eqb (length (v ∷ vs)) 0 (omega arith))))

some : (vs : List Version) → not (eqb (length vs) 0) ≡ true → vs ≢ []
some [] e = absurd (false≢true e)
some (v ∷ vs) e = λ f. absurd (cc)

pub versions-kept : (es : List Slot) (q : ℕ) → AreRising es → versions_at (kept es) q ≡ versions_at es q
versions-kept [] q up = refl
versions-kept (e ∷ es) q up =
    elim (has_versions e) as (λ (t : Bool). has_versions e ≡ t → versions_at (cond t (e ∷ kept es) (kept es)) q ≡ versions_at (e ∷ es) q) [
      | true ↦ λ _. elim (eqb e.key q) as (λ (t : Bool). versions_in (cond t (Some e.chain) (chain_at (kept es) q)) ≡ versions_in (cond t (Some e.chain) (chain_at es q))) [
        | true ↦ refl
        | false ↦ versions-kept es q up.1
      ]
      | false ↦ λ empty. elim (eqb e.key q) as (λ (t : Bool). eqb e.key q ≡ t → versions_at (kept es) q ≡ versions_in (cond t (Some e.chain) (chain_at es q))) [
        | true ↦ λ same.
            let le : q ≤ e.key = omega (arith, eqb-true e.key q same) in
            ap versions_in (none_above e.key q (kept es) (above-kept e.key es up.0) le) ∙ sym (none e.chain.versions empty)
        | false ↦ λ _. versions-kept es q up.1
      ] refl
    ] refl

pub shown-kept : (es : List Slot) (q : ℕ) → IsSome (chain_at (kept es) q) → versions_at (kept es) q ≢ []
shown-kept [] q = λ is. absurd (false≢true is)
shown-kept (e ∷ es) q =
    elim (has_versions e) as (λ (t : Bool). has_versions e ≡ t → IsSome (chain_at (cond t (e ∷ kept es) (kept es)) q) → versions_at (cond t (e ∷ kept es) (kept es)) q ≢ []) [
      | true ↦ λ has. elim (eqb e.key q) as (λ (t : Bool). IsSome (cond t (Some e.chain) (chain_at (kept es) q)) → versions_in (cond t (Some e.chain) (chain_at (kept es) q)) ≢ []) [
        | true ↦ λ _. some e.chain.versions has
        | false ↦ shown-kept es q
      ]
      | false ↦ λ _. shown-kept es q
    ] refl
