use Rattle.std.proofs.Common.{◌≡◌, ◌∙◌, ◌≤◌, ℕ, length, sym, ap, subst, arith}
use Rattle.std.proofs.lemmas.Result.{IfOk-weaker}
use Rattle.bpf_semantics.specs.State.{entry_state}
use Rattle.bpf_semantics.specs.Run.{moment, run_at}
use Rattle.plain_runner.specs.Listed.{rows_of}
use Rattle.plain_runner.specs.Runner.{moment_of, steps_before}
use Rattle.plain_runner.proofs.RunnerLemmas.{few_steps, first_moment, one_later, read_off}
use Rattle.plain_runner.proofs.run.run_program.Goals as goal

pub loop-init : goal.loop-init
loop-init g c = first_moment c.args.code.now c.args.schema.now _ _ c.in_ok-entry.ensures

pub next-requires : goal.next-requires
next-requires g c =
    let few : steps_before (moment_of c.loop.moment) ≤ c.loop.counter =
    subst (λ m. steps_before m ≤ c.loop.counter) (sym c.loop.invariant) (few_steps c.args.code.now c.args.schema.now c.args.args.now (rows_of c.args.rows.now) c.loop.counter) in
    let short = c.slots-end.ensures.program.not_long in
    omega (arith, few, short)

pub loop-preserved : goal.loop-preserved
loop-preserved g c = one_later c.args.code.now c.args.schema.now _ c.loop.counter _ _ c.loop.invariant c.in_ok-moment.ensures

pub returns : goal.returns
returns g c =
    let all : c.loop.counter ≡ length c.args.code.now = omega arith in
    let last : moment_of c.loop.moment ≡ moment c.args.code.now c.args.schema.now (length c.args.code.now) (entry_state c.args.args.now (rows_of c.args.rows.now)) =
    c.loop.invariant ∙ ap (λ (k : ℕ). moment c.args.code.now c.args.schema.now k (entry_state c.args.args.now (rows_of c.args.rows.now))) all in
    let told = read_off c.args.code.now c.args.schema.now c.args.args.now (rows_of c.args.rows.now) _ last in
    IfOk-weaker c.run_at.result (λ answer. answer ≡ run_at (rows_of c.args.rows.now) (moment_of c.loop.moment)) _ (λ answer is. is ∙ told) c.run_at.ensures
