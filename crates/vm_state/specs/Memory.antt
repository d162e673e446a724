-- Arguments and stack in one run of bytes. No clause that a caller sees speaks of it.
use Rattle.std.specs.Prelude.{ℕ, List, take, drop}

unfoldable pub stack_of : List ℕ → List ℕ
stack_of memory = drop 512 memory

unfoldable pub args_of : ℕ → List ℕ → List ℕ
args_of args_len memory = take args_len memory
