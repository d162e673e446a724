use Rattle.std.proofs.Common.{◌≡◌, ℕ, suc, ◌+◌, List, [], ◌∷◌, ◌++◌, ◌∙◌, append_assoc, length, map, ap, sym, arith, rules}
use Rattle.std.specs.List.{concat}
use Rattle.catalogue.specs.Stored.{ListedProcedure, stored, stored_procedures}
use Rattle.site_report.specs.SettingsText.{procedure_line}
use Rattle.site_report.proofs.beginning.append_procedure_lines.Goals as goal

pub loop-procedure-preserved : goal.loop-procedure-preserved
loop-procedure-preserved g c =
    let so_far = c.loop-procedure.invariant in
    let item : ListedProcedure = record { name = c.in-Some.procedure.name.now; number = c.in-Some.procedure.number; accepted = c.in-Some.procedure.accepted.now } in
    let rest : List ℕ = concat (map procedure_line (stored_procedures c.next.new.self)) in
    let is : c.loop-procedure.procedure-iterator ≡ item ∷ c.next.new.self = search rules in
    let fewer : length c.loop-procedure.procedure-iterator ≡ suc (length c.next.new.self) = ap length is in
    let counted = so_far.2 in (
      tt,
      tt,
      omega arith,
      so_far.3 ++ procedure_line (stored item),
      g.met.S.ByteSink.together _ _ _ _ _ so_far.4 c.append_procedure_line.ensures,
      append_assoc so_far.3 (procedure_line (stored item)) rest ∙ ap (λ (xs : List ListedProcedure). so_far.3 ++ concat (map procedure_line (stored_procedures xs))) (sym is) ∙ so_far.5,
    )
