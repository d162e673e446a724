-- How the plain runner's own types stand for those of the definitions.
use Rattle.std.specs.Prelude.{ℕ, List, Option, refl}
use Rattle.std.specs.Coded.{Coded, code_by, coded×, coded_ℕ, coded_list, coded_option}
use Rattle.std.specs.FinMap.{code}
use Rattle.schema.specs.Rows.{Rows, Writes, Key}
use Rattle.schema.specs.declared.look.Look.{Look}
use Rattle.bpf_semantics.specs.Run.{Run}
use Rattle.plain_runner.specs.State.{state_of}
use Rattle.plain_runner.specs.declared.step.Moment as rust_moment
use Rattle.plain_runner.specs.declared.step.Moment.TheVariants as rust_moment_variants
use Rattle.bpf_semantics.specs.Step.{Moment, Going, Ended, Stuck}

-- No clause that a caller sees speaks of what follows.

-- where the runner's step leads
abbrev pub moment_of : {A : Type 0} → rust_moment.Moment A → Moment
moment_of (rust_moment_variants.Going s) = Going (state_of s)
moment_of (rust_moment_variants.Ended reply s) = Ended reply (state_of s)
moment_of rust_moment_variants.Stuck = Stuck

-- how many instructions were run before the one that is next
abbrev pub steps_before : Moment → ℕ
steps_before (Going s) = s.steps
steps_before _ = 0

-- ---- how a run is told from others, as the checker needs it

abbrev look_code : Coded Look
look_code = code_by (ℕ × (ℕ × ℕ)) (coded× coded_ℕ (coded× coded_ℕ coded_ℕ)) (λ l. (l.table, (l.lo, l.hi))) (λ c. record { table = c.0; lo = c.1.0; hi = c.1.1 }) (λ _. refl)

abbrev key_code : Coded Key
key_code = coded× coded_ℕ coded_ℕ

abbrev pub run_code : Coded Run
run_code = code_by (ℕ × (ℕ × (List Look × (Writes × (Option ℕ × Rows)))))
    (coded× coded_ℕ (coded× coded_ℕ (coded× (coded_list look_code) (coded× (code key_code (coded_option (coded_list coded_ℕ)))
    (coded× (coded_option coded_ℕ) (code key_code (coded_list coded_ℕ)))))))
    (λ r. (r.steps, (r.reply, (r.looks, (r.writes, (r.cancel_code, r.effect))))))
    (λ c. record { steps = c.0; reply = c.1.0; looks = c.1.1.0; writes = c.1.1.1.0; cancel_code = c.1.1.1.1.0; effect = c.1.1.1.1.1 })
    (λ _. refl)
