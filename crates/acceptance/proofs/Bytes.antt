-- Bytes of stack and arguments: which an access touches, and which are known.
use Rattle.std.proofs.Common.{◌≡◌, ℕ, suc, ◌+◌, ◌-◌, ◌<◌, ◌≤◌, ℤ, pos, negsuc, Bool, true, false, cond, List, [], ◌∷◌, ◌++◌, length, take, drop, get_or, Option, Some, None, refl, sym, ap, subst, ◌∙◌, arith}
use Rattle.std.specs.Prelude.{◌≤ℤ◌, ◌+ℤ◌, nat_le, IsSome, IsTrue}
use Rattle.std.specs.Int.{int_gap}
use Rattle.std.specs.List.{list_all}
use Rattle.std.specs.Option.{option_map}
use Rattle.std.proofs.lemmas.Bool.{false≢true}
use Rattle.std.proofs.lemmas.Bool.Decides.{nat_tests}
use Rattle.std.proofs.lemmas.Int.{ints}
use Rattle.std.proofs.lemmas.List.{length-take, length-take-le, length-drop, length-append, get_or-take, get_or-drop, get_or_append_left, get_or-append_right}
use Rattle.std.proofs.lemmas.List.Sums.{AllPass-from_list_all}
use Rattle.bpf_semantics.specs.Memory.{index_in, stack_index, known_list, known_bytes}
use Rattle.bpf_semantics.proofs.StepLemmas.{just, some_is}

-- ---- indices

-- an index of a place is the place itself, and its bytes lie inside
pub index_is : (place : ℤ) (count all k : ℕ) → index_in place count all ≡ just k → (place ≡ pos k) × (k + count ≤ all)
index_is (negsuc n) count all k e = absurd cc
index_is (pos n) count all k e =
    elim (nat_le (n + count) all) as (λ b. nat_le (n + count) all ≡ b → cond b (just n) None ≡ just k → (pos n ≡ pos k) × (k + count ≤ all)) [
      | true ↦ λ within h. let same : n ≡ k = some_is n k h in let fits : n + count ≤ all = grind (arith, nat_tests) in (ap (λ (m : ℕ). pos m) same, omega arith)
      | false ↦ λ outside h. absurd cc
    ] refl e

pub index_at : (place : ℤ) (count all k : ℕ) → place ≡ pos k → k + count ≤ all → index_in place count all ≡ just k
index_at (negsuc n) count all k is fits = absurd cc
index_at (pos n) count all k is fits =
    let same : n ≡ k = cc in
    elim (nat_le (n + count) all) as (λ b. nat_le (n + count) all ≡ b → cond b (just n) None ≡ just k) [
      | true ↦ λ within. ap (λ (m : ℕ). just m) same
      | false ↦ λ outside. absurd (let fit : n + count ≤ all = omega arith in grind (arith, nat_tests))
    ] refl

-- ---- an access through a pointer of several places

-- an access of `size` bytes at an index, all of which are among `count` bytes from `from` on
pub record IsAmong (from count size at : ℕ) : Type 0 where
  pub first : from ≤ at
  pub last : at + size ≤ from + count

pub record Access (b : ℤ) (size all from count : ℕ) : Type 0 where
  pub at : ℕ
  pub index : index_in b size all ≡ just at
  pub fits : at + size ≤ all
  pub among : IsAmong from count size at

natural : (a b : ℤ) (k : ℕ) → a ≡ pos k → a ≤ℤ b → (j : ℕ) × (b ≡ pos j)
natural a (pos j) k is le = (j, refl)
natural a (negsuc j) k is le = absurd (let far : pos k ≤ℤ negsuc j = subst (λ (x : ℤ). x ≤ℤ negsuc j) is le in omega (arith, ints))

accessed : (a b : ℤ) (gap size all k : ℕ) → index_in a (gap + size) all ≡ just k → a ≤ℤ b → b ≤ℤ (a +ℤ pos gap) → Access b size all k (gap + size)
accessed a b gap size all k e low high =
    let is = index_is a (gap + size) all k e in
    let j = natural a b k is.0 low in
    let from : k ≤ j.0 = omega (arith, ints, is.0, j.1) in
    let to : j.0 ≤ k + gap = omega (arith, ints, is.0, j.1) in
    let within = is.1 in
    let fits : j.0 + size ≤ all = omega arith in
    record { at = j.0; index = index_at b size all j.0 j.1 fits; fits = fits; among = record { first = from; last = omega arith } }

gap_from : (lo hi p : ℤ) → lo ≤ℤ p → p ≤ℤ hi → p ≤ℤ (lo +ℤ pos (int_gap lo hi))
gap_from (pos a) (pos b) p low high = omega (arith, ints)
gap_from (pos a) (negsuc b) p low high = omega (arith, ints)
gap_from (negsuc a) (pos b) p low high = omega (arith, ints)
gap_from (negsuc a) (negsuc b) p low high = omega (arith, ints)

pub args_access : (lo hi p offset : ℤ) (size all k : ℕ) → lo ≤ℤ p → p ≤ℤ hi → index_in (lo +ℤ offset) (int_gap lo hi + size) all ≡ just k → Access (p +ℤ offset) size all k (int_gap lo hi + size)
args_access lo hi p offset size all k low high e =
    let near = gap_from lo hi p low high in
    accessed (lo +ℤ offset) (p +ℤ offset) (int_gap lo hi) size all k e (omega (arith, ints)) (omega (arith, ints))

pub stack_access : (lo hi p offset : ℤ) (size k : ℕ) → lo ≤ℤ p → p ≤ℤ hi → stack_index (lo +ℤ offset) (int_gap lo hi + size) ≡ just k → Access (p +ℤ offset +ℤ pos 512) size 512 k (int_gap lo hi + size)
stack_access lo hi p offset size k low high e =
    let near = gap_from lo hi p low high in
    accessed (lo +ℤ offset +ℤ pos 512) (p +ℤ offset +ℤ pos 512) (int_gap lo hi) size 512 k e (omega (arith, ints)) (omega (arith, ints))

-- ---- bytes that are known

-- each byte that is initialised is known
abbrev pub AreKnown : List Bool → List (Option ℕ) → Type 0
AreKnown initialised stack = (k : ℕ) → IsTrue (get_or initialised k false) → IsSome (get_or stack k None)

first_known : (o : Option ℕ) → IsSome o → (b : ℕ) × (o ≡ just b)
first_known None some = absurd cc
first_known (Some b) some = (b, refl)

all_known : (xs : List (Option ℕ)) → ((k : ℕ) → k < length xs → IsSome (get_or xs k None)) → (bytes : List ℕ) × (known_list xs ≡ just bytes)
unfolding known_list
all_known [] known = ([], refl)
all_known (None ∷ xs) known = absurd (false≢true (known 0 (omega arith)))
all_known (Some b ∷ xs) known =
    let rest = all_known xs (λ k h. known (suc k) (omega arith)) in
    (b ∷ rest.0, ap (option_map (λ bs. b ∷ bs)) rest.1)

-- where each byte from an index on is known, so are they as a list
pub bytes_known : (stack : List (Option ℕ)) (index count : ℕ) → ((k : ℕ) → index ≤ k → k < index + count → IsSome (get_or stack k None)) → (bytes : List ℕ) × (known_bytes stack index count ≡ just bytes)
bytes_known stack index count known =
    let part = take count (drop index stack) in
    all_known (take count (drop index stack)) (λ k h.
    let below : k < count = omega (arith, length-take count (drop index stack)) in
    let is = get_or-take count (drop index stack) k None below ∙ get_or-drop index stack k None in
    subst (λ (o : Option ℕ). IsSome o) (sym is) (known (index + k) (omega arith) (omega arith)))

-- a byte among those that are all initialised
pub byte_initialised : (initialised : List Bool) (index count k : ℕ) → list_all (λ byte. byte) (take count (drop index initialised)) ≡ true → index + count ≤ length initialised → index ≤ k → k < index + count → get_or initialised k false ≡ true
byte_initialised initialised index count k all whole from to =
    let below : k - index < count = omega arith in
    let long = length-take-le count (drop index initialised) (omega (arith, length-drop index initialised)) in
    let at : index + (k - index) ≡ k = omega arith in
    let passes : get_or (take count (drop index initialised)) (k - index) false ≡ true = AllPass-from_list_all (λ byte. byte) (take count (drop index initialised)) all (k - index) false (omega arith) in
    ap (λ (n : ℕ). get_or initialised n false) (sym at) ∙ sym (get_or-take count (drop index initialised) (k - index) false below ∙ get_or-drop index initialised (k - index) false) ∙ passes

-- an access among bytes that are all initialised reads known bytes
pub access_known : (initialised : List Bool) (stack : List (Option ℕ)) (from count size at : ℕ) → AreKnown initialised stack → list_all (λ byte. byte) (take count (drop from initialised)) ≡ true → from + count ≤ length initialised
    → IsAmong from count size at → (bytes : List ℕ) × (known_bytes stack at size ≡ just bytes)
access_known initialised stack from count size at known all whole among =
    bytes_known stack at size (λ k low high. known k (byte_initialised initialised from count k all whole (omega (arith, among.first)) (omega (arith, among.last))))

-- ---- bytes that are written

abbrev pub written : {X : Type 0} → List X → ℕ → List X → List X
written xs k ys = take k xs ++ ys ++ drop (k + length ys) xs

pub length_written : {X : Type 0} (xs : List X) (k : ℕ) (ys : List X) → k + length ys ≤ length xs → length (written xs k ys) ≡ length xs
length_written xs k ys fits =
    let a = length-append (take k xs ++ ys) (drop (k + length ys) xs) in
    let b = length-append (take k xs) ys in
    let c = length-take-le k xs (omega arith) in
    let d = length-drop (k + length ys) xs in
    omega arith

-- before, among and after the bytes that are written
pub written_before : {X : Type 0} (xs : List X) (k : ℕ) (ys : List X) (j : ℕ) (d : X) → k + length ys ≤ length xs → j < k → get_or (written xs k ys) j d ≡ get_or xs j d
written_before xs k ys j d fits below =
    let c = length-take-le k xs (omega arith) in
    let b = length-append (take k xs) ys in
    get_or_append_left (take k xs ++ ys) (drop (k + length ys) xs) d j (omega arith) ∙ get_or_append_left (take k xs) ys d j (omega arith) ∙ get_or-take k xs j d below

pub written_among : {X : Type 0} (xs : List X) (k : ℕ) (ys : List X) (j : ℕ) (d : X) → k + length ys ≤ length xs → k ≤ j → j < k + length ys → get_or (written xs k ys) j d ≡ get_or ys (j - k) d
written_among xs k ys j d fits from to =
    let c = length-take-le k xs (omega arith) in
    let b = length-append (take k xs) ys in
    get_or_append_left (take k xs ++ ys) (drop (k + length ys) xs) d j (omega arith) ∙ get_or-append_right (take k xs) ys k j d c from

pub written_after : {X : Type 0} (xs : List X) (k : ℕ) (ys : List X) (j : ℕ) (d : X) → k + length ys ≤ length xs → k + length ys ≤ j → get_or (written xs k ys) j d ≡ get_or xs j d
written_after xs k ys j d fits past =
    let c = length-take-le k xs (omega arith) in
    let b = length-append (take k xs) ys in
    let at : k + length ys + (j - (k + length ys)) ≡ j = omega arith in
    get_or-append_right (take k xs ++ ys) (drop (k + length ys) xs) (k + length ys) j d (omega arith) past ∙ get_or-drop (k + length ys) xs (j - (k + length ys)) d ∙ ap (λ (n : ℕ). get_or xs n d) at
