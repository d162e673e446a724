-- What a look, a write and a cancel make of a view.
use Rattle.std.proofs.Common.{◌≡◌, ℕ, List, [], ◌∷◌, ◌++◌, true, false, Option, Some, refl, sym, ap, ◌∙◌, nat_le, ◌≤◌, ◌<◌, is_some, arith}
use Rattle.std.proofs.lemmas.Bool.Decides.{nat_tests}
use Rattle.std.specs.FinMap.{get}
use Rattle.schema.specs.declared.look.Look.{Look}
use Rattle.schema.specs.Rows.{Key, Rows, Writes, with_write, after_write, after_writes}
use Rattle.bpf_semantics.specs.State.{State}
use Rattle.bpf_semantics.specs.Helpers.{look_at, with_look, with_point_look, with_range_look, with_row_write}
use Rattle.txn_view.specs.declared.view.Own.{Own}
use Rattle.txn_view.specs.View.{IsReadOf, IsViewOf}

module _ {answers_from : Rows → Type 0} where
  -- one look more
  pub looked : {looks : List Look} {writes : Writes} {s : State} (more : List Look) (look : Look) → more ≡ looks ++ look ∷ [] → IsReadOf answers_from looks writes s → IsReadOf answers_from more writes (with_look look s)
  looked more look e v = record { looks_are = e ∙ ap (λ looks. looks ++ look ∷ []) v.looks_are; writes_are = v.writes_are; below = v.below; answers = v.answers; rows_are = v.rows_are }

  pub looked_at_key : {looks : List Look} {writes : Writes} {s : State} (more : List Look) (table key : ℕ) → is_some (get writes (table, key)) ≡ false → more ≡ looks ++ look_at table key key ∷ [] → IsReadOf answers_from looks writes s → IsReadOf answers_from more writes (with_point_look table key s)
  looked_at_key {looks} {writes} {s} more table key none e v =
      let none_of_s : is_some (get s.writes (table, key)) ≡ false = ap (λ w. is_some (get w (table, key))) (sym v.writes_are) ∙ none in
      rw none_of_s (looked more (look_at table key key) e v)

  -- none, where the run wrote there itself
  pub not_looked : {looks : List Look} {writes : Writes} {s : State} (table key : ℕ) → is_some (get writes (table, key)) ≡ true → IsReadOf answers_from looks writes s → IsReadOf answers_from looks writes (with_point_look table key s)
  not_looked {looks} {writes} {s} table key some v =
      let some_of_s : is_some (get s.writes (table, key)) ≡ true = ap (λ w. is_some (get w (table, key))) (sym v.writes_are) ∙ some in
      rw some_of_s v

  pub looked_at_range : {looks : List Look} {writes : Writes} {s : State} (more : List Look) (table lo hi last : ℕ) → lo ≤ hi → more ≡ looks ++ look_at table lo last ∷ [] → IsReadOf answers_from looks writes s → IsReadOf answers_from more writes (with_range_look table lo hi last s)
  looked_at_range more table lo hi last from e v = let ordered : nat_le lo hi ≡ true = grind (arith, nat_tests) in rw ordered (looked more (look_at table lo last) e v)

  -- none, where lo is above hi
  pub not_ranged : {looks : List Look} {writes : Writes} {s : State} (table lo hi last : ℕ) → hi < lo → IsReadOf answers_from looks writes s → IsReadOf answers_from looks writes (with_range_look table lo hi last s)
  not_ranged table lo hi last above v = let unordered : nat_le lo hi ≡ false = grind (arith, nat_tests) in rw unordered v

  -- one write more
  pub written : {A : Type 0} {own : Own A} {s : State} (more : Writes) (k : Key) (write : Option (List ℕ))
      → ((writes : Writes) (k : Key) (write : Option (List ℕ)) (rows : Rows) → after_writes (with_write writes k write) rows ≡ after_write k write (after_writes writes rows))
      → more ≡ with_write own.writes k write → IsViewOf answers_from own s → IsViewOf answers_from (record own { writes = more }) (with_row_write k.0 k.1 write s)
  written {own = own} {s} more k write law e v = record {
    read = record {
      looks_are = v.read.looks_are;
      writes_are = e ∙ ap (λ writes. with_write writes k write) v.read.writes_are;
      below = v.read.below;
      answers = v.read.answers;
      rows_are = ap (after_write k write) v.read.rows_are ∙ sym (law s.writes k write v.read.below);
    };
    cancelled = v.cancelled;
  }

  pub cancelled : {A : Type 0} {own : Own A} {s : State} (code : ℕ) → IsViewOf answers_from own s → IsViewOf answers_from (record own { cancel_code = Some code }) (record s { cancel_code = Some code })
  cancelled code v = record {
    read = record { looks_are = v.read.looks_are; writes_are = v.read.writes_are; below = v.read.below; answers = v.read.answers; rows_are = v.read.rows_are };
    cancelled = refl;
  }
