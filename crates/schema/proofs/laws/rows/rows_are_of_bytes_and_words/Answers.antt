use Rattle.std.proofs.Common.{arith, ap}
use Rattle.std.specs.Prelude.{is_some}
use Rattle.schema.proofs.laws.rows.rows_are_of_bytes_and_words.Goals as goal

pub returns-clause-key : goal.returns-clause-key
returns-clause-key c = λ tables table key. (
  λ is. (is.table_is, (let below = is.key_fits in omega arith)),
  λ is. record { table_is = is.0; key_fits = (let below = is.1 in omega arith) },
)

pub returns-clause-row : goal.returns-clause-row
returns-clause-row c = λ tables table key bytes. (
  λ is. (is.width, (λ k d h. let below = is.each_byte k d h in omega arith), (let below = is.at_key.key_fits in omega arith)),
  λ is. record {
    at_key = record { table_is = ap is_some is.0; key_fits = (let below = is.2 in omega arith) };
    width = is.0;
    each_byte = λ k d h. let below = is.1 k d h in omega arith;
  },
)
