-- Texts written one behind the other.
use Rattle.std.proofs.Common.{ℕ, List, [], Option, Result, Ok, Err, ◌++◌, subst}
use Rattle.std.proofs.lemmas.List.{append-nil}
use Rattle.std.specs.Io.KnownBytes.{Appends}
use Rattle.byte_output.specs.Writes.{AppendsBeginning, WritesText}
use Rattle.byte_output.proofs.WritesLemmas.{Appends-then, AppendsBeginning-then}

pub writes_behind : {T E : Type 0} (a b c : Option (List ℕ)) (xs ys : List ℕ) (result : Result T E) → Appends a b xs → WritesText b c result ys → WritesText a c result (xs ++ ys)
writes_behind a b c xs ys (Ok t) p q = Appends-then a b c xs ys p q
writes_behind a b c xs ys (Err e) p q = subst (λ (t : List ℕ). AppendsBeginning a c (xs ++ t)) (append-nil ys) (AppendsBeginning-then a b c xs ys [] p q)
