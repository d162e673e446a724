-- Bytes that grow in memory by pieces.
use Rattle.std.proofs.Common.{◌≡◌, ℕ, Bool, true, false, if◌then◌else◌, List, [], ◌++◌, ◌∙◌, Option, Some, None, ap, refl, sym}
use Rattle.std.proofs.lemmas.List.{append_assoc, append-nil}
use Rattle.byte_output.specs.declared.sink.GrowingBytes.{GrowingBytes}

-- the bytes so far, where memory was wanting for none of them
abbrev pub bytes_of : {A : Type 0} → GrowingBytes A → Option (List ℕ)
bytes_of g = if g.is_whole then Some g.bytes.items else None

-- these are the bytes, of which the piece stands behind those from before, where none was wanting
abbrev pub HasAppended : Option (List ℕ) → List ℕ → Option (List ℕ) → Type 0
HasAppended old piece None = Unit {0}
HasAppended old piece (Some after) = (before : List ℕ) × (old ≡ Some before) × (after ≡ before ++ piece)

abbrev pub HasGrown : {A : Type 0} → GrowingBytes A → GrowingBytes A → List ℕ → Type 0
HasGrown old new piece = HasAppended (bytes_of old) piece (bytes_of new)

nothing_appended : (bytes : Option (List ℕ)) → HasAppended bytes [] bytes
nothing_appended None = tt
nothing_appended (Some bytes) = (bytes, refl, sym (append-nil bytes))

appended_twice : (first second third : Option (List ℕ)) (front back : List ℕ) → HasAppended first front second
    → HasAppended second back third → HasAppended first (front ++ back) third
appended_twice first second None front back a b = tt
appended_twice first (Some two) (Some three) front back (one, e, h) (before, f, k) =
    let same : before ≡ two = cc in
    (one, e, k ∙ ap (λ (bytes : List ℕ). bytes ++ back) (same ∙ h) ∙ append_assoc one front back)
appended_twice first None (Some three) front back a (before, f, k) = absurd cc

pub grown_by_nothing : {A : Type 0} (a : GrowingBytes A) → HasGrown a a []
grown_by_nothing a = nothing_appended (bytes_of a)

pub grown_twice : {A : Type 0} (a b c : GrowingBytes A) (front back : List ℕ) → HasGrown a b front → HasGrown b c back → HasGrown a c (front ++ back)
grown_twice a b c front back = appended_twice (bytes_of a) (bytes_of b) (bytes_of c) front back
