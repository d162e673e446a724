-- Plain commands aren't global.
use Rattle.std.proofs.Common.{◌≡◌, ◌&&◌, sym, refl, Bool, true, false, true≢false, Result, Ok, Err, IfOk}
use Rattle.std.proofs.lemmas.Bool.{and_parts}
use Rattle.std.specs.Prelude.{not}

off : (c : Bool) → not c ≡ true → c ≡ false
off false e = refl
off true e = absurd (true≢false (sym e))

pub third_is_off : (a b c d : Bool) → (a && (b && (not c && d))) ≡ true → c ≡ false
third_is_off a b c d e = off c (and_parts (not c) d (and_parts b (not c && d) (and_parts a (b && (not c && d)) e).1).1).0

pub ok_gives : {X E : Type 0} (r : Result X E) (P Q : X → Type 0) → IfOk r P → ((x : X) → P x → Q x) → IfOk r Q
ok_gives (Ok x) P Q p f = f x p
ok_gives (Err e) P Q p f = tt
