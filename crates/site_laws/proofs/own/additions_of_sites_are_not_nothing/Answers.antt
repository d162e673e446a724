use Rattle.std.proofs.Common.{◌≡◌, ◌≢◌, ℕ, ◌≤◌, ◌<◌, ◌^◌, true, ◌&&◌, nat_le, List, length, ap, refl, arith}
use Rattle.std.specs.List.{list_all}
use Rattle.std.proofs.lemmas.Bool.Decides.{nat_tests}
use Rattle.log_model.specs.Name.{is_name, is_name_byte}
use Rattle.program_checks.specs.ProgramCheck.{ProgramCheck, Passed, Failed}
use Rattle.program_checks.specs.Check.{check_of}
use Rattle.log_entry.specs.Fit.{AdditionFitsFields}
use Rattle.site_model.specs.declared.answer.AdditionAnswer.TheVariants.{Submitted}
use Rattle.site_model.specs.declared.outcome.EntryOutcome.TheVariants as outcome
use Rattle.site_model.specs.Order.{next_outcome}
use Rattle.site_model.specs.Answer.{answer_of_check, stored_as}
use Rattle.site_laws.proofs.DecodingLemmas.{whole_length}
use Rattle.site_laws.proofs.OwnLemmas.{added_by}
use Rattle.std.proofs.lemmas.Bool.{and_parts}
use Rattle.site_laws.proofs.SpelledLemmas.{decoded_is_spelled}
use Rattle.site_laws.proofs.own.additions_of_sites_are_not_nothing.Goals as goal

short_name : (name : List ℕ) → is_name name ≡ true → length name < 2 ^ 8
short_name name e =
    let long = and_parts (nat_le 1 (length name) && nat_le (length name) 32) (list_all is_name_byte name) e in
    let within = (and_parts (nat_le 1 (length name)) (nat_le (length name) 32) long.0).1 in
    let le : length name ≤ 32 = grind (arith, nat_tests) in
    omega (arith, le)

pub returns : goal.returns
returns c s order p bytes cause number few are submitted = by_check (check_of s.setting.tables p.args_len p.bytes) refl submitted
  where
    by_check : (r : ProgramCheck) → check_of s.setting.tables p.args_len p.bytes ≡ r → answer_of_check s p r ≡ Submitted bytes → next_outcome s order bytes ≢ outcome.Nothing cause
    by_check (Failed fault) is e = absurd cc
    by_check (Passed program) is e =
        let decoded = ((c.programs_pass_where_they_are_accepted.ensures.passed s.setting.tables p.args_len p.bytes program).0 is).0 in
        let spelled = decoded_is_spelled p.bytes program are decoded in
        let added = added_by s p program bytes e in
        let fits : AdditionFitsFields (stored_as p program) = record {
          number = number;
          args_len = omega (arith, few);
          name = short_name p.name added.named;
          program = omega (arith, ap length spelled, whole_length p.bytes program decoded);
        } in
        c.own_additions_are_not_nothing.ensures s order p program bytes cause few is spelled fits submitted
