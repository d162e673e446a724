-- An instruction that is no call leaves what the run has done so far.
use Rattle.std.proofs.Common.{◌≡◌, ◌≢◌, ℕ, ◌+◌, ℤ, pos, negsuc, Bool, true, false, cond, List, Option, refl, subst}
use Rattle.bpf_words.specs.Condition.{holds}
use Rattle.bpf_code.specs.declared.instruction.Register.{Register}
use Rattle.bpf_code.specs.declared.instruction.Instruction.{Instruction}
use Rattle.bpf_code.specs.declared.instruction.Instruction.TheVariants.{LoadWide, Load, StoreImmediate, StoreRegister, Arithmetic, Negate, MoveSignExtended, End, Jump, LongJump, Branch, Call, Exit}
use Rattle.bpf_code.specs.Sizes.{width_bits}
use Rattle.schema.specs.Schema.{Tables}
use Rattle.bpf_semantics.specs.declared.value.Value.{Value}
use Rattle.bpf_semantics.specs.State.{State, with_register, past}
use Rattle.bpf_semantics.specs.Helpers.{with_stack}
use Rattle.bpf_semantics.specs.Step.{Going, execute, after_jump, with_result, with_store}
use Rattle.vm_state.specs.Plain.{SameEffects}
use Rattle.bpf_semantics.proofs.StepLemmas.{going_on, going_is, set_is}

same : (n : ℕ) (s u t : State) → SameEffects s u → Going (past n u) ≡ Going t → SameEffects s t
same n s u t p e = subst (λ (x : State). SameEffects s x) (going_is (past n u) t e) (record { looks = p.looks; writes = p.writes; rows = p.rows; code = p.code })

pub itself : (s : State) → SameEffects s s
itself s = record { looks = refl; writes = refl; rows = refl; code = refl }

set_leaves : (n : ℕ) (dst : Register) (v : Value) (s t : State) → with_result n dst v s ≡ Going t → SameEffects s t
set_leaves n dst v s t e = same n s (with_register s dst v) t (record { looks = refl; writes = refl; rows = refl; code = refl }) (set_is n dst v s t e)

store_leaves : (o : Option (List (Option ℕ))) (s t : State) → with_store o s ≡ Going t → SameEffects s t
store_leaves o s t e = let a = going_on o _ t e in same 1 s (with_stack a.0 s) t (record { looks = refl; writes = refl; rows = refl; code = refl }) a.2

jump_leaves : (d : ℤ) (s t : State) → after_jump d s ≡ Going t → SameEffects s t
jump_leaves (pos n) s t e = same (1 + n) s s t (itself s) e
jump_leaves (negsuc n) s t e = absurd cc

branch_leaves : (b : Bool) (d : ℤ) (s t : State) → cond b (after_jump d s) (Going (past 1 s)) ≡ Going t → SameEffects s t
branch_leaves true d s t e = jump_leaves d s t e
branch_leaves false d s t e = same 1 s s t (itself s) e

pub execute_leaves : (tables : Tables) (i : Instruction) (s t : State) → ((n : ℤ) → i ≢ Call n) → execute tables i s ≡ Going t → SameEffects s t
unfolding execute
execute_leaves tables (LoadWide dst value) s t no_call e = set_leaves 2 dst _ s t e
execute_leaves tables (Load kind dst src offset) s t no_call e = let a = going_on _ _ t e in set_leaves 1 dst _ s t a.2
execute_leaves tables (StoreImmediate size dst offset immediate) s t no_call e = store_leaves _ s t e
execute_leaves tables (StoreRegister size dst src offset) s t no_call e = let a = going_on _ _ t e in store_leaves _ s t a.2
execute_leaves tables (Arithmetic width op dst src) s t no_call e = let a = going_on _ _ t e in set_leaves 1 dst _ s t a.2
execute_leaves tables (Negate width dst) s t no_call e = let a = going_on _ _ t e in set_leaves 1 dst _ s t a.2
execute_leaves tables (MoveSignExtended kind dst src) s t no_call e = let a = going_on _ _ t e in set_leaves 1 dst _ s t a.2
execute_leaves tables (End order width dst) s t no_call e = let a = going_on _ _ t e in set_leaves 1 dst _ s t a.2
execute_leaves tables (Jump distance) s t no_call e = jump_leaves distance s t e
execute_leaves tables (LongJump distance) s t no_call e = jump_leaves distance s t e
execute_leaves tables (Branch width condition dst src distance) s t no_call e =
    let a = going_on _ _ t e in
    let b = going_on _ _ t a.2 in
    branch_leaves (holds (width_bits width) condition a.0 b.0) distance s t b.2
execute_leaves tables (Call helper) s t no_call e = absurd (no_call helper refl)
execute_leaves tables Exit s t no_call e = let a = going_on _ _ t e in absurd cc
