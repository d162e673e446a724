-- Loads and stores, the least byte first (RFC 9669 section 5). Where memory may be touched is this product's rule: None
-- at an address that is no place, a byte outside stack or arguments, and a load of a byte that isn't known.
use Rattle.std.specs.Prelude.{ℕ, ◌+◌, ℤ, pos, negsuc, ◌+ℤ◌, List, [], ◌∷◌, ◌++◌, length, take, drop, map, nat_le, if◌then◌else◌, Option, Some, None}
use Rattle.std.specs.Option.{option_map}
use Rattle.bpf_words.specs.declared.operation.SignExtension.TheVariants.{From8, From16, From32}
use Rattle.bpf_words.specs.Operation.{sign_extension}
use Rattle.bpf_code.specs.declared.instruction.LoadKind.{LoadKind}
use Rattle.bpf_code.specs.declared.instruction.LoadKind.TheVariants.{I8, I16, I32}
use Rattle.bpf_semantics.specs.declared.value.Value.{Value}
use Rattle.bpf_semantics.specs.declared.value.Value.TheVariants.{Stack, Args}

unfoldable pub and_then : {X Y : Type 0} → Option X → (X → Option Y) → Option Y
and_then None f = None
and_then (Some x) f = f x

infixl 10 ◌>>=◌
abbrev pub ◌>>=◌ : {X Y : Type 0} → Option X → (X → Option Y) → Option Y
o >>= f = and_then o f

-- a load zero-extends to 64 bits, or sign-extends
abbrev pub load_value : LoadKind → ℕ → ℕ
load_value I8 n = sign_extension 64 From8 n
load_value I16 n = sign_extension 64 From16 n
load_value I32 n = sign_extension 64 From32 n
load_value _ n = n

-- ---- places

-- the index of place k in a memory of `all` bytes that begins at place 0, where `count` bytes from there on lie inside
abbrev pub index_in : ℤ → ℕ → ℕ → Option ℕ
index_in (pos k) count all = if nat_le (k + count) all then Some k else None
index_in (negsuc _) count all = None

-- the same for the stack, whose 512 bytes end before place 0
abbrev pub stack_index : ℤ → ℕ → Option ℕ
stack_index place count = index_in (place +ℤ pos 512) count 512

-- the bytes, where each is known
unfoldable pub known_list : List (Option ℕ) → Option (List ℕ)
known_list [] = Some []
known_list (None ∷ rest) = None
known_list (Some b ∷ rest) = option_map (λ bs. b ∷ bs) (known_list rest)

-- so many bytes of the stack from an index on, where each is known
abbrev pub known_bytes : List (Option ℕ) → ℕ → ℕ → Option (List ℕ)
known_bytes stack k count = known_list (take count (drop k stack))

-- the stack with these bytes from an index on
abbrev pub stack_with : List (Option ℕ) → ℕ → List ℕ → List (Option ℕ)
stack_with stack k bytes = take k stack ++ map (λ b. Some b) bytes ++ drop (k + length bytes) stack

-- so many known bytes of the stack from a place on
unfoldable pub stack_bytes : List (Option ℕ) → ℤ → ℕ → Option (List ℕ)
stack_bytes stack place count = do
  k ← stack_index place count
  known_bytes stack k count

-- the stack with these bytes from a place on
unfoldable pub stack_with_store : List (Option ℕ) → ℤ → List ℕ → Option (List (Option ℕ))
stack_with_store stack place bytes = do
  k ← stack_index place (length bytes)
  Some (stack_with stack k bytes)

-- so many bytes of the arguments from a place on
unfoldable pub args_bytes : List ℕ → ℤ → ℕ → Option (List ℕ)
args_bytes args place count = do
  k ← index_in place count (length args)
  Some (take count (drop k args))

-- so many bytes from where a value points, with an offset
abbrev pub memory_bytes : List (Option ℕ) → List ℕ → Value → ℤ → ℕ → Option (List ℕ)
memory_bytes stack args (Stack place) offset count = stack_bytes stack (place +ℤ offset) count
memory_bytes stack args (Args place) offset count = args_bytes args (place +ℤ offset) count
memory_bytes stack args _ offset count = None

-- the stack with these bytes where a value points, with an offset
abbrev pub memory_with_store : List (Option ℕ) → Value → ℤ → List ℕ → Option (List (Option ℕ))
memory_with_store stack (Stack place) offset bytes = stack_with_store stack (place +ℤ offset) bytes
memory_with_store stack _ offset bytes = None
