use Rattle.std.proofs.Common.{◌≡◌, ◌∙◌, ℕ, ◌<◌, inl, List, length, get_or, refl, ap, arith}
use Rattle.std.proofs.lemmas.List.{length-set}
use Rattle.key_table.specs.Table.{Slot, Table, ArePrunedOrSame, versions_at}
use Rattle.rows_mv.specs.Versions.{no_table}
use Rattle.rows_mv.proofs.TablesLemmas.{at_each, at_table}
use Rattle.rows_mv.proofs.tables.prune_page.Goals as goal

in_range : (tables all : List Table) (at : ℕ) → all ≡ tables → at < length all → at < length tables
in_range tables all at same lt = let n = ap (λ (l : List Table). length l) same in omega (arith, n, lt)

pub returns-then-table-all-clause-versions : goal.returns-then-table-all-clause-versions
returns-then-table-all-clause-versions g c k = inl refl

pub prune_page_at-next-requires : goal.prune_page_at-next-requires
prune_page_at-next-requires g c =
    in_range c.args.tables.now.items c.deref-all.result.now c.first_with_keys-table.result c.deref-all.ensures.value (let e = c.if-table-all.false in omega arith)

pub returns-clause-versions : goal.returns-clause-versions
returns-clause-versions g c k =
    let old = c.args.tables.now.items in
    let new = c.prune_page_at-next.new.tables.items in
    let i = c.first_with_keys-table.result in
    let p = c.prune_page_at-next.ensures no_table in
    let lt = in_range old c.deref-all.result.now i c.deref-all.ensures.value (let e = c.if-table-all.false in omega arith) in
    at_each (λ (t : ℕ) (a b : List Slot). ArePrunedOrSame c.args.horizon (versions_at a k.1) (versions_at b k.1)) old new i k.0 (get_or new i no_table) lt p.1
    (p.0.versions k.1) (λ ne. inl refl)

pub returns-clause-widths : goal.returns-clause-widths
returns-clause-widths g c t =
    let old = c.args.tables.now.items in
    let new = c.prune_page_at-next.new.tables.items in
    let i = c.first_with_keys-table.result in
    let p = c.prune_page_at-next.ensures no_table in
    let lt = in_range old c.deref-all.result.now i c.deref-all.ensures.value (let e = c.if-table-all.false in omega arith) in
    at_table (λ (a b : Table). b.width ≡ a.width) old new i t (get_or new i no_table) lt p.1 p.0.width refl

pub returns-clause-count : goal.returns-clause-count
returns-clause-count g c =
    let old = c.args.tables.now.items in
    let new = c.prune_page_at-next.new.tables.items in
    let i = c.first_with_keys-table.result in
    let p = c.prune_page_at-next.ensures no_table in
    ap (λ (l : List Table). length l) p.1 ∙ length-set old i (get_or new i no_table)
