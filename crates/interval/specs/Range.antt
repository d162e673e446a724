-- Ranges of words: what is known of a number before a program runs.
use Rattle.std.specs.Prelude.{ℕ, ◌^◌, ◌<◌, ◌≤◌, Bool, ◌==◌, min, max}

-- the numbers from lo to hi, both included
pub record Bounds : Type 0 where
  pub lo : ℕ
  pub hi : ℕ

-- a range of 64-bit words: it has a number, and all of them are words
pub record IsRange (r : Bounds) : Type 0 where
  pub ordered : r.lo ≤ r.hi
  pub word : r.hi < 2 ^ 64

-- the number is one of the range
pub record IsWithin (r : Bounds) (x : ℕ) : Type 0 where
  pub from : r.lo ≤ x
  pub to : x ≤ r.hi

-- each number of the inner range is one of the outer
abbrev pub IsInside : Bounds → Bounds → Type 0
IsInside inner outer = (x : ℕ) → IsWithin inner x → IsWithin outer x

abbrev pub from_to : ℕ → ℕ → Bounds
from_to lo hi = record { lo = lo; hi = hi }

abbrev pub single : ℕ → Bounds
single x = from_to x x

-- whether it has one number alone
abbrev pub is_single : Bounds → Bool
is_single r = r.lo == r.hi

-- the least range round both
abbrev pub join : Bounds → Bounds → Bounds
join a b = from_to (min a.lo b.lo) (max a.hi b.hi)
