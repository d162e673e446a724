-- When what a call has done so far, over a store, is that of a state of a run.
use Rattle.std.specs.Prelude.{◌≡◌, List}
use Rattle.schema.specs.declared.look.Look.{Look}
use Rattle.schema.specs.Rows.{Rows, Writes, after_writes}
use Rattle.bpf_semantics.specs.State.{State}
use Rattle.txn_view.specs.declared.view.Own.{Own}

-- the call looked at and wrote what the state did, and the state's rows are its writes over rows that the store answers
-- from
pub record IsReadOf (answers_from : Rows → Type 0) (looks : List Look) (writes : Writes) (s : State) : Type 0 where
  pub looks_are : looks ≡ s.looks
  pub writes_are : writes ≡ s.writes
  pub below : Rows
  pub answers : answers_from below
  pub rows_are : s.rows ≡ after_writes s.writes below

-- and it has cancelled as the state did
pub record IsViewOf {A : Type 0} (answers_from : Rows → Type 0) (own : Own A) (s : State) : Type 0 where
  pub read : IsReadOf answers_from own.looks own.writes s
  pub cancelled : own.cancel_code ≡ s.cancel_code
