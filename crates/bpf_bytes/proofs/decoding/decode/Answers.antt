use Rattle.std.proofs.Common.{Result, Ok, Err, IfOk, IfErr, ◌≡◌, ◌⊎◌, inl, inr, sym, ap, ◌∙◌}
use Rattle.bpf_bytes.specs.declared.fault.DecodeCause.TheVariants.{NoMemory}
use Rattle.bpf_bytes.specs.declared.fault.DecodeFault.{DecodeFault}
use Rattle.bpf_code.specs.Program.{Program}
use Rattle.bpf_bytes.specs.Decoding.{fault, program_of}
use Rattle.bpf_bytes.proofs.ProgramWhole.{program_again}
use Rattle.bpf_bytes.proofs.decoding.decode.Goals as goal

-- a result that is what the bytes decode to, where they decode to p
decodes : (r : Result Program DecodeFault) (whole : Result Program DecodeFault) (p : Program) → IfOk r (λ code. whole ≡ Ok code)
    → IfErr r (λ e. (e ≡ fault NoMemory 0) ⊎ (whole ≡ Err e)) → whole ≡ Ok p → (r ≡ Err (fault NoMemory 0)) ⊎ (r ≡ Ok p)
decodes (Ok code) whole p exact other e = inr (sym exact ∙ e)
decodes (Err f) whole p exact other e =
    elim other [
      | inl memory ↦ inl (ap (λ (g : DecodeFault). Err g) memory)
      | inr is ↦ absurd cc
    ]

pub returns-clause-only : goal.returns-clause-only
returns-clause-only g c = λ p is e.
    decodes c.program.result (program_of c.args.bytes.now) p c.program.ensures.exact c.program.ensures.fault (ap program_of (sym e) ∙ program_again p is)
