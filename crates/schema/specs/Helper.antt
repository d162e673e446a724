-- The helpers that a program may call: their numbers, what r1 to r5 hold, and what r0 holds afterwards.
use Rattle.std.specs.Prelude.{ℤ, pos, List, [], ◌∷◌, Option, find}
use Rattle.std.specs.Ordering.{int_eq}
use Rattle.schema.specs.declared.helper.Helper.{Helper}
use Rattle.schema.specs.declared.helper.Helper.TheVariants.{RowGet, RowPut, RowDelete, RangeCount, RangeNext, Cancel}
use Rattle.schema.specs.declared.helper.ArgumentKind.{ArgumentKind}
use Rattle.schema.specs.declared.helper.ArgumentKind.TheVariants.{Table, Number, RowRead, RowWritten, KeyWritten}
use Rattle.schema.specs.declared.helper.AnswerKind.{AnswerKind}
use Rattle.schema.specs.declared.helper.AnswerKind.TheVariants.{Flag, Zero, Count}

abbrev pub number_of_helper : Helper → ℤ
number_of_helper RowGet = pos 1
number_of_helper RowPut = pos 2
number_of_helper RowDelete = pos 3
number_of_helper RangeCount = pos 4
number_of_helper RangeNext = pos 5
number_of_helper Cancel = pos 6

abbrev pub helpers : List Helper
helpers = RowGet ∷ RowPut ∷ RowDelete ∷ RangeCount ∷ RangeNext ∷ Cancel ∷ []

-- the helper of a number, where there is one
abbrev pub helper_of : ℤ → Option Helper
helper_of number = find (λ helper. int_eq (number_of_helper helper) number) helpers

-- what r1, r2 and so on hold
abbrev pub arguments_of : Helper → List ArgumentKind
-- (table, key, buffer): the buffer gets the row, or zeros
arguments_of RowGet = Table ∷ Number ∷ RowWritten ∷ []
-- (table, key, buffer): the row becomes the buffer's bytes
arguments_of RowPut = Table ∷ Number ∷ RowRead ∷ []
-- (table, key): the row is removed
arguments_of RowDelete = Table ∷ Number ∷ []
-- (table, lo, hi): how many rows there are from lo to hi
arguments_of RangeCount = Table ∷ Number ∷ Number ∷ []
-- (table, lo, hi, key buffer, row buffer): the key buffer gets the least key from lo to hi, least byte first, and then
-- the row buffer its row; both get zeros where there is none
arguments_of RangeNext = Table ∷ Number ∷ Number ∷ KeyWritten ∷ RowWritten ∷ []
-- (code): the call's writes are dropped when it ends
arguments_of Cancel = Number ∷ []

-- what r0 holds: whether there was a row, 0, or how many rows
abbrev pub answer_of : Helper → AnswerKind
answer_of RowGet = Flag
answer_of RowPut = Zero
answer_of RowDelete = Zero
answer_of RangeCount = Count
answer_of RangeNext = Flag
answer_of Cancel = Zero
