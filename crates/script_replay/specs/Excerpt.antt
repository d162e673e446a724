-- An excerpt of bytes that are appended by pieces.
use Rattle.std.proofs.Common.{◌≡◌, ℕ, ◌-◌, List, [], ◌++◌, take, drop, length, subst, sym, append_assoc}
use Rattle.std.proofs.lemmas.List.{append-nil}
use Rattle.script_replay.specs.declared.excerpt.Excerpt.{Excerpt}
use Rattle.script_replay.specs.declared.excerpt.TheConstants.{EXCERPT_BYTES}

-- the bytes of a text from a place on, as many as there is room for
abbrev pub IsExcerpt : ℕ → List ℕ → Excerpt → Type 0
IsExcerpt from text e = (e.skip ≡ from - length text) × (e.bytes.items ≡ take EXCERPT_BYTES (drop from text))

-- an excerpt of a text has become that of the text with a piece more
abbrev pub HasSeen : Excerpt → Excerpt → List ℕ → Type 0
HasSeen old new piece = (from : ℕ) (text : List ℕ) → IsExcerpt from text old → IsExcerpt from (text ++ piece) new

pub nothing_seen : (a : Excerpt) → HasSeen a a []
nothing_seen a from text is = subst (λ (t : List ℕ). IsExcerpt from t a) (sym (append-nil text)) is

pub seen_together : (a b c : Excerpt) (front back : List ℕ) → HasSeen a b front → HasSeen b c back → HasSeen a c (front ++ back)
seen_together a b c front back first then from text is =
    subst (λ (t : List ℕ). IsExcerpt from t c) (append_assoc text front back) (then from (text ++ front) (first from text is))
