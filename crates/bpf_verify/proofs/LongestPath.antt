-- The longest paths from the slots of the end.
use Rattle.std.proofs.Common.{◌≡◌, ℕ, zero, suc, ◌+◌, ◌<◌, ◌≤◌, List, length, get_or, Option, Some, None, refl, sym, ◌∙◌, subst, inl, inr, arith, replicate}
use Rattle.std.proofs.Math.ListN.{set}
use Rattle.std.proofs.lemmas.Bool.{cases_eq, cases_lt}
use Rattle.std.proofs.lemmas.List.{get_or-set_same, get_or-set_other, get_or-replicate, get_or_past, length-replicate}
use Rattle.std.proofs.lemmas.Option.{slice_get_past}
use Rattle.bpf_code.specs.declared.instruction.Instruction.{Instruction}
use Rattle.bpf_code.specs.Program.{Program, instruction_at, distance_of}
use Rattle.bpf_semantics.specs.Path.{fall_through, jump_of, from_there, one_more, path}
use Rattle.bpf_semantics.proofs.PathLemmas.{fall_further, jump_further}

past_end : (p : Program) (j : ℕ) → length p ≤ j → instruction_at p j ≡ None
past_end p j h = rw (slice_get_past p j h)

-- two functions that agree further on give the same
same_there : (f g : ℕ → ℕ) (slot : ℕ) (o : Option ℕ) → ((n : ℕ) → o ≡ Some n → 1 ≤ n) → ((k : ℕ) → slot < k → f k ≡ g k) → from_there f slot o ≡ from_there g slot o
same_there f g slot None further h = refl
same_there f g slot (Some n) further h = let one : 1 ≤ n = further n refl in h (slot + n) (omega arith)

pub same_more : (f g : ℕ → ℕ) (slot : ℕ) (o : Option Instruction) → ((k : ℕ) → slot < k → f k ≡ g k) → one_more f slot o ≡ one_more g slot o
same_more f g slot None h = refl
same_more f g slot (Some i) h = rw (same_there f g slot (fall_through i) (fall_further i) h, same_there f g slot (jump_of i) (jump_further (distance_of i)) h)

-- counting further changes nothing where the rest is short
saturates : (p : Program) (m slot : ℕ) → length p ≤ m + slot → path p (suc m) slot ≡ path p m slot
unfolding path
saturates p zero slot h = rw (past_end p slot (omega arith))
saturates p (suc m) slot h = same_more (path p (suc m)) (path p m) slot (instruction_at p slot) (λ k l. saturates p m k (omega arith))

opened : (p : Program) (m slot : ℕ) → path p (suc m) slot ≡ one_more (path p m) slot (instruction_at p slot)
unfolding path
opened p m slot = refl

pub path_here : (p : Program) (slot : ℕ) → path p (length p) slot ≡ one_more (path p (length p)) slot (instruction_at p slot)
path_here p slot = sym (saturates p (length p) slot (omega arith)) ∙ opened p (length p) slot

-- the slots that are done have their longest paths
pub record IsDone (p : Program) (done : ℕ) (lengths : List ℕ) : Type 0 where
  pub known : (j : ℕ) → length p ≤ j + done → get_or lengths j 0 ≡ path p (length p) j
  pub few : (j : ℕ) → get_or lengths j 0 ≤ done

no_path : (p : Program) (j : ℕ) → length p ≤ j → path p (length p) j ≡ 0
no_path p j h = rw (path_here p j, past_end p j h)

zeros : (j : ℕ) → ◌≡◌ {A = ℕ} (get_or (replicate 4096 0) j 0) 0
zeros j = elim (cases_lt j 4096) [
  | inl h ↦ get_or-replicate 4096 j 0 0 h
  | inr h ↦ get_or_past (replicate 4096 0) j 0 (omega (arith, length-replicate {A = ℕ} 4096 0))
]

pub first_done : (p : Program) → IsDone p 0 (replicate 4096 0)
first_done p = record {
  known = λ j h. zeros j ∙ sym (no_path p j (omega arith));
  few = λ j. omega (arith, zeros j);
}

there_few : (f : ℕ → ℕ) (slot n : ℕ) (o : Option ℕ) → ((k : ℕ) → f k ≤ n) → from_there f slot o ≤ n
there_few f slot n None h = omega arith
there_few f slot n (Some k) h = h (slot + k)

more_few : (f : ℕ → ℕ) (slot n : ℕ) (o : Option Instruction) → ((k : ℕ) → f k ≤ n) → one_more f slot o ≤ n + 1
more_few f slot n None h = omega arith
more_few f slot n (Some i) h = omega (arith, there_few f slot n (fall_through i) h, there_few f slot n (jump_of i) h)

pub next_done : (p : Program) (done slot v : ℕ) (lengths : List ℕ) → IsDone p done lengths → slot + done + 1 ≡ length p → slot < length lengths → v ≡ one_more (λ k. get_or lengths k 0) slot (instruction_at p slot) → IsDone p (done + 1) (set lengths slot v)
next_done p done slot v lengths h at inside is = record {
  known = λ j q. elim (cases_eq j slot) [
    | inl e ↦ subst (λ (k : ℕ). get_or (set lengths slot v) k 0 ≡ path p (length p) k) (sym e)
        (get_or-set_same lengths slot v 0 inside ∙ is ∙ same_more _ (path p (length p)) slot (instruction_at p slot) (λ k l. h.known k (omega arith)) ∙ sym (path_here p slot))
    | inr other ↦ get_or-set_other lengths slot j v 0 other ∙ h.known j (omega arith)
  ];
  few = λ j. elim (cases_eq j slot) [
    | inl e ↦ subst (λ (k : ℕ). get_or (set lengths slot v) k 0 ≤ done + 1) (sym e)
        (omega (arith, get_or-set_same lengths slot v 0 inside, is, more_few (λ k. get_or lengths k 0) slot done (instruction_at p slot) h.few))
    | inr other ↦ omega (arith, get_or-set_other lengths slot j v 0 other, h.few j)
  ];
}
