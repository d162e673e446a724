-- The cells of a log: a group's cell has a group, and that has cells of its own, which have the entries.
use Rattle.std.specs.Prelude.{◌≡◌, ℕ, suc, ◌/◌, ◌%◌, List, [], ◌∷◌, map, slice_index}
use Rattle.std.specs.declared.alloc.Global.{Global}
use Rattle.crossbeam_utils.specs.declared.cache_padded.CachePadded.{CachePadded}
use Rattle.crossbeam_utils.specs.Padded.{padded_value}
use Rattle.once_cell.specs.Once.{cell_name}
use Rattle.log_entry.specs.declared.entry.Entry.{Entry as LogEntry}

-- the names of these cells, in order
abbrev pub cell_names : List (CachePadded (Global × ℕ)) → List ℕ
cell_names cells = map (λ c. cell_name (padded_value c)) cells

-- cells of groups with the names of the cells in each, and cells with their entries: those of the log with these names of its
-- groups' cells, one after another from the i-th place on
abbrev pub AreCellsOf : {A : Type 0} → List ℕ → ℕ → List (ℕ × List ℕ) → List (ℕ × LogEntry A) → Type 0
AreCellsOf names i [] [] = Unit {0}
AreCellsOf names i (g ∷ gs) [] = ⊥
AreCellsOf names i [] (c ∷ cs) = ⊥
AreCellsOf names i (g ∷ gs) (c ∷ cs) =
    (g.0 ≡ slice_index names (i / 1024)) × (c.0 ≡ slice_index g.1 (i % 1024)) × AreCellsOf names (suc i) gs cs

-- what the cells hold
abbrev pub known_entries : {A : Type 0} → List (ℕ × LogEntry A) → List (LogEntry A)
known_entries cs = map (λ c. c.1) cs
