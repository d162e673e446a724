-- Bits of keys and of looks, as the code computes them.
use Rattle.std.proofs.Common.{◌≡◌, ℕ, suc, ◌+◌, ◌-◌, ◌*◌, ◌/◌, ◌%◌, ◌^◌, ◌≤◌, ◌<◌, Bool, false, ◌||◌, List, [], ◌∷◌, map, refl, ap, arith}
use Rattle.std.specs.List.{list_any, range_with_len}
use Rattle.schema.specs.declared.look.Look.{Look}
use Rattle.schema.specs.Rows.{Key, covers, any_covers}
use Rattle.sig_lanes.specs.Signature.{bit_of}

pub bit_by_words : (table key : ℕ) → (key * 0x9E3779B97F4A7C15 % 2 ^ 64 + table * 0xC2B2AE3D27D4EB4F % 2 ^ 64) % 2 ^ 64 / 2 ^ 54 ≡ bit_of (table, key)
unfolding bit_of
bit_by_words table key = words (key * 0x9E3779B97F4A7C15) (table * 0xC2B2AE3D27D4EB4F)
  where
    words : (a b : ℕ) → (a % 2 ^ 64 + b % 2 ^ 64) % 2 ^ 64 / 2 ^ 54 ≡ (a + b) % 2 ^ 64 / 2 ^ 54
    words a b = omega arith

-- whether a key from this one to the last passes
abbrev pub any_key : (ℕ → Bool) → ℕ → ℕ → Bool
any_key p key last = list_any p (range_with_len key (last + 1 - key))

pub no_key : (p : ℕ → Bool) (key last : ℕ) → last < key → any_key p key last ≡ false
no_key p key last h = let none : last + 1 - key ≡ 0 = omega arith in ap (λ (n : ℕ). list_any p (range_with_len key n)) none

pub one_key : (p : ℕ → Bool) (key last : ℕ) → key ≤ last → any_key p key last ≡ (p key || any_key p (key + 1) last)
one_key p key last h = let more : last + 1 - key ≡ suc (last + 1 - (key + 1)) = omega arith in ap (λ (n : ℕ). list_any p (range_with_len key n)) more

pub any_by_covers : (looks : List Look) (k : Key) → list_any (λ look. covers look k) looks ≡ any_covers looks k
any_by_covers [] k = refl
any_by_covers (look ∷ looks) k = ap (λ b. covers look k || b) (any_by_covers looks k)

pub any_of_map : {A B : Type 0} (p : B → Bool) (f : A → B) (xs : List A) → list_any (λ x. p (f x)) xs ≡ list_any p (map f xs)
any_of_map p f [] = refl
any_of_map p f (x ∷ xs) = ap (λ b. p (f x) || b) (any_of_map p f xs)
