-- Stack and arguments as parts of one memory.
use Rattle.std.proofs.Common.{◌≡◌, ℕ, zero, suc, ◌+◌, ◌-◌, ◌%◌, ◌^◌, ◌<◌, ◌≤◌, nat_lt, true, false, List, [], ◌∷◌, ◌++◌, length, take, drop, refl, sym, ◌∙◌, ap, length-take, length-drop, length-append, arith}
use Rattle.std.proofs.lemmas.Bool.Decides.{nat_tests}
use Rattle.std.proofs.lemmas.List.{take-take, drop-take, drop-drop, take_at, append-nil, take-append-drop, take-append-le, drop-append-le}
use Rattle.vm_state.specs.Words.{Words}
use Rattle.vm_state.specs.Memory.{stack_of, args_of}
use Rattle.vm_state.specs.Access.{InStack, InArgs, CanLoad, bytes_from, with_bytes}
use Rattle.vm_state.proofs.Loading.{in_stack, in_args}

-- ---- places

pub stack_place : (address count : ℕ) → 0 < count → InStack address count → address % 1024 ≡ 512 + (address + 512 - 2 ^ 40)
stack_place address count some inside = omega (arith, some, inside.low, inside.high)

pub args_place : (all address count : ℕ) → all ≤ 256 → InArgs all address count → address % 1024 ≡ address - 2 ^ 41
args_place all address count few inside = omega (arith, few, inside.low, inside.high)

-- ---- what is read

part_inside : (k n m : ℕ) (xs : List ℕ) → k + n ≤ m → take n (drop k (take m xs)) ≡ take n (drop k xs)
part_inside k n m xs h =
    let is : m ≡ k + (m - k) = omega arith in
    ap (λ (j : ℕ). take n (drop k (take j xs))) is ∙ ap (take n) (drop-take k (m - k) xs) ∙ take-take n (m - k) (drop k xs) (omega arith)

pub stack_part : (memory : List ℕ) (address count : ℕ) → InStack address count → take count (drop (address % 1024) memory) ≡ take count (drop (address + 512 - 2 ^ 40) (stack_of memory))
unfolding stack_of
stack_part memory address zero inside = refl
stack_part memory address (suc n) inside =
    ap (λ (k : ℕ). take (suc n) (drop k memory)) (stack_place address (suc n) (omega arith) inside)
    ∙ ap (take (suc n)) (sym (drop-drop (address + 512 - 2 ^ 40) 512 memory))

pub args_part : (memory : List ℕ) (all address count : ℕ) → all ≤ 256 → InArgs all address count → take count (drop (address % 1024) memory) ≡ take count (drop (address - 2 ^ 41) (args_of all memory))
unfolding args_of
args_part memory all address count few inside =
    ap (λ (k : ℕ). take count (drop k memory)) (args_place all address count few inside)
    ∙ sym (part_inside (address - 2 ^ 41) count all memory (omega (arith, inside.low, inside.high)))

-- words of which stack and arguments lie in this memory
pub record AreIn (memory : List ℕ) (all : ℕ) (m : Words) : Type 0 where
  pub long : length memory ≡ 1024
  pub few : all ≤ 256
  pub stack : m.stack ≡ stack_of memory
  pub args : m.args ≡ args_of all memory

args_long : (memory : List ℕ) (all : ℕ) (m : Words) → AreIn memory all m → length m.args ≡ all
unfolding args_of
args_long memory all m h = ap length h.args ∙ omega (arith, length-take {A = ℕ}, h.long, h.few)

in_all : (memory : List ℕ) (all address count : ℕ) (m : Words) → AreIn memory all m → InArgs (length m.args) address count → InArgs all address count
in_all memory all address count m h inside = let is = args_long memory all m h in record { low = inside.low; high = omega (arith, is, inside.high) }

pub bytes_part : (memory : List ℕ) (all address count : ℕ) (m : Words) → AreIn memory all m → CanLoad m address count → take count (drop (address % 1024) memory) ≡ take count (bytes_from m address)
bytes_part memory all address count m h can = elim (nat_lt address (2 ^ 40)) as (λ t. nat_lt address (2 ^ 40) ≡ t → take count (drop (address % 1024) memory) ≡ take count (bytes_from m address)) [
  | true ↦ λ t.
      let below : address < 2 ^ 40 = grind (arith, nat_tests) in
      stack_part memory address count (can.stack below)
      ∙ ap (λ (l : List ℕ). take count (drop (address + 512 - 2 ^ 40) l)) (sym h.stack)
      ∙ ap (take count) (sym (in_stack m address below))
  | false ↦ λ t.
      let above : 2 ^ 40 ≤ address = grind (arith, nat_tests) in
      args_part memory all address count h.few (in_all memory all address count m h (can.args above))
      ∙ ap (λ (l : List ℕ). take count (drop (address - 2 ^ 41) l)) (sym h.args)
      ∙ ap (take count) (sym (in_args m address above))
] refl

pub place_inside : (memory : List ℕ) (all address count : ℕ) (m : Words) → AreIn memory all m → CanLoad m address count → address % 1024 + count ≤ length memory
place_inside memory all address count m h can = elim (nat_lt address (2 ^ 40)) as (λ t. nat_lt address (2 ^ 40) ≡ t → address % 1024 + count ≤ length memory) [
  | true ↦ λ t.
      let below : address < 2 ^ 40 = grind (arith, nat_tests) in
      let inside = can.stack below in
      omega (arith, h.long, inside.low, inside.high)
  | false ↦ λ t.
      let above : 2 ^ 40 ≤ address = grind (arith, nat_tests) in
      let inside = in_all memory all address count m h (can.args above) in
      let at = args_place all address count h.few inside in
      omega (arith, h.long, h.few, at, inside.low, inside.high)
] refl

-- ---- what is written

front_long : (memory bs : List ℕ) (k : ℕ) → k ≤ length memory → length (take k memory ++ bs) ≡ k + length bs
front_long memory bs k inside = omega (arith, length-append {A = ℕ}, length-take {A = ℕ})

stack_written : (memory bs : List ℕ) (j : ℕ) → 512 + j ≤ length memory → stack_of (take (512 + j) memory ++ bs ++ drop (512 + j + length bs) memory) ≡ take j (stack_of memory) ++ bs ++ drop (j + length bs) (stack_of memory)
unfolding stack_of
stack_written memory bs j inside =
    let behind = drop (512 + j + length bs) memory in
    let front = front_long memory bs (512 + j) inside in
    let all : 512 + j + length bs ≡ 512 + (j + length bs) = omega arith in
    drop-append-le 512 (take (512 + j) memory ++ bs) behind (omega (arith, front))
    ∙ ap (λ (l : List ℕ). l ++ behind) (drop-append-le 512 (take (512 + j) memory) bs (omega (arith, length-take {A = ℕ}, inside)))
    ∙ ap (λ (l : List ℕ). l ++ bs ++ behind) (drop-take 512 j memory)
    ∙ ap (λ (n : ℕ). take j (drop 512 memory) ++ bs ++ drop n memory) all
    ∙ ap (λ (l : List ℕ). take j (drop 512 memory) ++ bs ++ l) (sym (drop-drop (j + length bs) 512 memory))

args_kept : (memory bs : List ℕ) (all k n : ℕ) → k ≤ length memory → all ≤ k → args_of all (take k memory ++ bs ++ drop n memory) ≡ args_of all memory
unfolding args_of
args_kept memory bs all k n inside few =
    let front = front_long memory bs k inside in
    take-append-le all (take k memory ++ bs) (drop n memory) (omega (arith, front, few))
    ∙ take-append-le all (take k memory) bs (omega (arith, length-take {A = ℕ}, inside, few))
    ∙ take-take all k memory few

none_written : (xs : List ℕ) (k : ℕ) → take k xs ++ [] ++ drop (k + length {A = ℕ} []) xs ≡ xs
none_written xs k =
    let on : k + length {A = ℕ} [] ≡ k = omega arith in
    ap (λ (l : List ℕ). l ++ drop (k + length {A = ℕ} []) xs) (append-nil (take k xs))
    ∙ ap (λ (j : ℕ). take k xs ++ drop j xs) on
    ∙ take-append-drop k xs

pub written : (slot : ℕ) (registers memory new bs : List ℕ) (all address k : ℕ) → length memory ≡ 1024 → all ≤ 256 → k ≡ address % 1024 → InStack address (length bs) → new ≡ take k memory ++ bs ++ drop (k + length bs) memory
    → record { slot = slot; registers = registers; stack = stack_of new; args = args_of all new } ≡ with_bytes (record { slot = slot; registers = registers; stack = stack_of memory; args = args_of all memory }) address bs
written slot registers memory new [] all address k long few at inside is =
    ap (λ (l : List ℕ). record { slot = slot; registers = registers; stack = stack_of l; args = args_of all l }) (is ∙ none_written memory k)
    ∙ ap (λ (l : List ℕ). record { slot = slot; registers = registers; stack = l; args = args_of all memory }) (sym (none_written (stack_of memory) (address + 512 - 2 ^ 40)))
written slot registers memory new (b ∷ more) all address k long few at inside is =
    let bs = b ∷ more in
    let j = address + 512 - 2 ^ 40 in
    let place = stack_place address (length bs) (omega arith) inside in
    let from : k ≡ 512 + j = at ∙ place in
    let below : 512 + j ≤ length memory = omega (arith, long, inside.low, inside.high) in
    ap (λ (l : List ℕ). record { slot = slot; registers = registers; stack = stack_of l; args = args_of all l }) (is ∙ ap (λ (i : ℕ). take i memory ++ bs ++ drop (i + length bs) memory) from)
    ∙ ap (λ (l : List ℕ). record { slot = slot; registers = registers; stack = l; args = args_of all (take (512 + j) memory ++ bs ++ drop (512 + j + length bs) memory) }) (stack_written memory bs j below)
    ∙ ap (λ (l : List ℕ). record { slot = slot; registers = registers; stack = take j (stack_of memory) ++ bs ++ drop (j + length bs) (stack_of memory); args = l }) (args_kept memory bs all (512 + j) (512 + j + length bs) below (omega (arith, few)))

pub args_written : (memory bs : List ℕ) → args_of (length bs) (take 0 memory ++ bs ++ drop (0 + length bs) memory) ≡ bs
unfolding args_of
args_written memory bs = take_at bs (drop (0 + length bs) memory) (length bs) refl

pub stack_long : (memory : List ℕ) → length memory ≡ 1024 → length (stack_of memory) ≡ 512
unfolding stack_of
stack_long memory long = omega (arith, length-drop {A = ℕ}, long)
