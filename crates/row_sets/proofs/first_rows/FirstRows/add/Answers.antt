use Rattle.std.proofs.Common.{◌≡◌, ◌∙◌, ◌∷◌, ◌++◌, [], List, sym, ap, subst}
use Rattle.std.specs.Prelude.{T, Result, Ok, Err, OnOk, OnErr}
use Rattle.std.specs.FinMap.{insert, is_sorted}
use Rattle.schema.specs.Rows.{Key, Rows, is_behind, key_cmp, key_cmp_total}
use Rattle.row_sets.specs.FlatRows.{Row}
use Rattle.row_sets.proofs.FirstRowsLemmas.{added_behind, still_sorted}
use Rattle.row_sets.proofs.first_rows.FirstRows.add.Goals as goal

either : {A E : Type 0} (r : Result A E) (P Q R : Type 0) → (P → R) → (Q → R) → OnOk r P → OnErr r Q → R
either (Ok x) P Q R f g h i = f h
either (Err e) P Q R f g h i = g i

on_ok : {A E : Type 0} (r : Result A E) (P Q : Type 0) → (P → Q) → OnOk r P → OnOk r Q
on_ok (Ok x) P Q f h = f h
on_ok (Err e) P Q f h = tt

pub invariant_of-self : goal.invariant_of-self
invariant_of-self g c =
    let old = c.self.inside.rows in
    let new = c.push.new.self in
    let key : Key = (c.args.table, c.args.key) in
    either c.push.result (new ≡ old ++ (key, c.args.bytes.now) ∷ []) (new ≡ old) (T (is_sorted key_cmp new))
    (still_sorted key_cmp_total key c.args.bytes.now old new c.self.invariant (ap (λ (rows : Rows). is_behind rows key) c.self.view_is ∙ c.requires))
    (λ same. subst (λ (rows : List Row). T (is_sorted key_cmp rows)) (sym same) c.self.invariant) c.push.ensures.pushed c.push.ensures.unchanged

pub returns-clause-added : goal.returns-clause-added
returns-clause-added g c =
    let old = c.self.inside.rows in
    let new = c.push.new.self in
    let key : Key = (c.args.table, c.args.key) in
    on_ok c.push.result (new ≡ old ++ (key, c.args.bytes.now) ∷ []) _
    (λ is. added_behind key_cmp_total key c.args.bytes.now old new c.self.invariant (ap (λ (rows : Rows). is_behind rows key) c.self.view_is ∙ c.requires) is
    ∙ ap (λ (rows : Rows). insert rows key c.args.bytes.now) c.self.view_is) c.push.ensures.pushed
