-- What was appended to an output that may fail.
use Rattle.std.proofs.Common.{◌≡◌, ℕ, List, [], ◌++◌, Option, Some, None, ◌∙◌, refl, subst, sym, append_assoc}
use Rattle.std.proofs.lemmas.List.{append-nil}
use Rattle.std.specs.Borrow.{MutBor}
use Rattle.std.specs.Io.KnownBytes.{Appends}
use Rattle.byte_output.specs.Writes.{AppendsBeginning}
use Rattle.byte_output.specs.declared.paged.PagedOutput.{PagedOutput}
use Rattle.byte_output.specs.Pending.{output_of, pending_of}
use Rattle.byte_output.specs.declared.output_sink.OutputSink.{OutputSink}

-- the pages that it appends to
abbrev pub pages_of : {W : Type 0} → OutputSink W → MutBor (PagedOutput W)
pages_of s = s.pages

-- of a text that was given since the output had these contents a beginning left, and the rest is pending
abbrev pub HasPassed : {W : Type 0} → (W → Option (List ℕ)) → Option (List ℕ) → List ℕ → PagedOutput W → Type 0
HasPassed contents start text pages =
    (left : List ℕ) × (text ≡ left ++ pending_of pages) × Appends start (contents (output_of pages).now) left

-- the same, or the output failed, and a beginning of the text left
abbrev pub HasTaken : {W E : Type 0} → (W → Option (List ℕ)) → Option (List ℕ) → List ℕ → PagedOutput W → Option E → Type 0
HasTaken contents start text pages None = HasPassed contents start text pages
HasTaken contents start text pages (Some error) = AppendsBeginning start (contents (output_of pages).now) text

-- of a text that was appended to it
abbrev pub HasTakenSo : {W : Type 0} → (W → Option (List ℕ)) → Option (List ℕ) → List ℕ → OutputSink W → Type 0
HasTakenSo contents start text s = HasTaken contents start text s.pages.now s.failed

-- a piece more was appended to the same output, whatever was before
pub record HasTakenMore {W : Type 0} (contents : W → Option (List ℕ)) (old new : OutputSink W) (piece : List ℕ) : Type 0 where
  pub same_pages : (pages_of new).ghost_name ≡ (pages_of old).ghost_name
  pub same_output : (output_of (pages_of new).now).ghost_name ≡ (output_of (pages_of old).now).ghost_name
  pub taken : (start : Option (List ℕ)) (text : List ℕ) → HasTakenSo contents start text old
      → HasTakenSo contents start (text ++ piece) new

pub nothing_more : {W : Type 0} (contents : W → Option (List ℕ)) (a : OutputSink W) → HasTakenMore contents a a []
nothing_more contents a = record {
  same_pages = refl;
  same_output = refl;
  taken = λ start text taken.
      subst (λ (t : List ℕ). HasTakenSo contents start t a) (sym (append-nil text)) taken;
}

pub taken_together : {W : Type 0} (contents : W → Option (List ℕ)) (a b c : OutputSink W) (front back : List ℕ)
    → HasTakenMore contents a b front → HasTakenMore contents b c back → HasTakenMore contents a c (front ++ back)
taken_together contents a b c front back first then = record {
  same_pages = then.same_pages ∙ first.same_pages;
  same_output = then.same_output ∙ first.same_output;
  taken = λ start text taken.
      subst (λ (t : List ℕ). HasTakenSo contents start t c) (append_assoc text front back)
      (then.taken start (text ++ front) (first.taken start text taken));
}
