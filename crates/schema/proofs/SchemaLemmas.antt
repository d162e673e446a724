-- What is known of the tables of a schema.
use Rattle.std.proofs.Common.{◌≡◌, ℕ, List, [], refl, sym, ap, subst, ◌∙◌, cond, true, false, arith}
use Rattle.std.specs.Prelude.{Option, Some, None}
use Rattle.std.specs.Ordering.{nat_cmp, eq_by_cmp}
use Rattle.std.proofs.lemmas.Bool.Decides.{nat_tests}
use Rattle.std.specs.Cmp.{nat_cmp_total}
use Rattle.std.specs.BTreeMap.{is_at}
use Rattle.std.specs.FinMap.{get, insert, from_entries, get-insert, nat_cmp-IsAntisymmetric}
use Rattle.std.proofs.lemmas.Map.Views.{tells_apart}
use Rattle.schema.proofs.MapLemmas.{found_at, get_at, one_put}
use Rattle.schema.specs.Schema.{Tables, IsTable, AreTables, fault_of}

-- what std's map finds at a table
abbrev pub width_at : List (ℕ × ℕ) → ℕ → Option ℕ
width_at = found_at nat_cmp

pub get_width : (es : List (ℕ × ℕ)) (q : ℕ) → get (from_entries {R = nat_cmp} es) q ≡ width_at es q
get_width = get_at nat_cmp_total

pub one_added : (es fs : List (ℕ × ℕ)) (table width : ℕ) → ((q : ℕ) → width_at fs q ≡ cond (is_at (nat_cmp table) q) (Some width) (width_at es q)) → from_entries {R = nat_cmp} fs ≡ insert (from_entries es) table width
one_added = one_put nat_cmp_total nat_cmp-IsAntisymmetric

-- ---- what is known of every schema

pub no_tables : (es : List (ℕ × ℕ)) → es ≡ [] → AreTables (from_entries es)
no_tables es none table width e = absurd (let at = get_width es table ∙ ap (λ fs. width_at fs table) none in cc)

fits : (tables : Tables) (table width : ℕ) → fault_of tables table width ≡ None → IsTable table width
fits tables table width e = record {
  table_from = grind (arith, nat_tests);
  table_to = grind (arith, nat_tests);
  width_from = grind (arith, nat_tests);
  width_to = grind (arith, nat_tests);
}

pub tables_added : (tables : Tables) (table width : ℕ) → AreTables tables → fault_of tables table width ≡ None → AreTables (insert tables table width)
tables_added tables table width are none q w e =
    let at : cond (eq_by_cmp nat_cmp q table) (Some width) (get tables q) ≡ Some w = sym (get-insert nat_cmp_total tables table width q) ∙ e in
    elim (eq_by_cmp nat_cmp q table) as (λ b. eq_by_cmp nat_cmp q table ≡ b → cond b (Some width) (get tables q) ≡ Some w → IsTable q w) [
      | true ↦ λ t is.
          let key : q ≡ table = tells_apart {R = nat_cmp} nat_cmp-IsAntisymmetric q table t in
          let value : width ≡ w = cc in
          subst (λ (x : ℕ). IsTable x w) (sym key) (subst (IsTable table) value (fits tables table width none))
      | false ↦ λ t is. are q w is
    ] refl at
