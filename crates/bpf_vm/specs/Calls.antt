-- What a call answers, and what it leaves.
use Rattle.std.specs.Prelude.{◌≢◌, ◌<◌, Bool, IsTrue, length, Option, Some, None}
use Rattle.schema.specs.Schema.{Tables}
use Rattle.schema.specs.Rows.{Rows, AreRows}
use Rattle.schema.specs.declared.helper.Helper.{Helper}
use Rattle.schema.specs.declared.helper.Helper.TheVariants.{Cancel}
use Rattle.bpf_semantics.specs.State.{State, past}
use Rattle.bpf_semantics.specs.Helpers.{state_after_call}
use Rattle.vm_state.specs.Words.{Words, Holds}
use Rattle.txn_view.specs.declared.view.Own.{Own}
use Rattle.txn_view.specs.View.{IsViewOf}
use Rattle.bpf_vm.specs.declared.calls.HelperAnswer.{HelperAnswer}
use Rattle.bpf_vm.specs.declared.calls.HelperAnswer.TheVariants.{Done, Stale, NoMemory}

-- one of the states that the words and the view stand for can make the call
abbrev pub CanCall : {A : Type 0} → (Rows → Type 0) → Tables → Helper → Words → Own A → Type 0
CanCall answers_from tables helper m own =
    (s : State) × Holds s m × IsViewOf answers_from own s × AreRows tables s.rows × (state_after_call tables helper s ≢ None)

-- the store is gone, and would have to be asked: the call makes a look
abbrev pub LooksMore : Bool → State → State → Type 0
LooksMore gone s t = IsTrue gone × (length s.looks < length t.looks)

-- what a call from the state s, after which the definition has this state, answers and leaves. Of what the definition
-- doesn't do nothing is said
abbrev pub AfterCall : {A : Type 0} → (Rows → Type 0) → Bool → Helper → State → Option State → HelperAnswer → Words → Own A
    → Type 0
AfterCall answers_from gone helper s None answer m own = Unit {0}
AfterCall answers_from gone helper s (Some t) Done m own = Holds (past 1 t) m × IsViewOf answers_from own t × (LooksMore gone s t → ⊥)
AfterCall answers_from gone helper s (Some t) Stale m own = LooksMore gone s t
AfterCall answers_from gone helper s (Some t) NoMemory m own = (helper ≢ Cancel) × (LooksMore gone s t → ⊥)
