use Rattle.std.proofs.Common.{◌≡◌, List, slice_get, inl, inr, ap, subst, ◌∙◌, arith}
use Rattle.std.proofs.lemmas.Bool.{cases_lt}
use Rattle.replica.specs.Replica.{Replica}
use Rattle.catalogue.specs.Stored.{ListedProcedure, AreStored}
use Rattle.dsm_world.proofs.Numbered.{get_lt}
use Rattle.dsm_world.proofs.ReplicaLemmas.{get_is, same_item}
use Rattle.script_replay.proofs.laws.procedures_are_stored.Goals as goal

pub loop-replica-preserved : goal.loop-replica-preserved
loop-replica-preserved g c = λ k r lt at.
    let x = c.replica-item.result in
    let there = get_is c.args.replicas.now c.loop-replica.replica-index x c.loop-replica-test.true c.replica-item.is in
    let known = subst (λ (ls : List ListedProcedure). AreStored ls) c.procedures.ensures c.stored_procedures_are_consistent.ensures in
    elim (cases_lt k c.loop-replica.replica-index) [
      | inl before ↦ c.loop-replica.invariant k r before at
      | inr least ↦
          let here : k ≡ c.loop-replica.replica-index = omega arith in
          let one = same_item c.args.replicas.now k x r (ap (slice_get c.args.replicas.now) here ∙ there) at in
          subst (λ (q : Replica). AreStored q.procedures) one known
    ]

pub returns : goal.returns
returns g c = λ k r at.
    let lt = get_lt c.args.replicas.now k r at in
    let all = c.loop-replica-test.false in
    c.loop-replica.invariant k r (omega arith) at
