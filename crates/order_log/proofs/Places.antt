-- What was seen of one log: one entry more, two lists of which one begins the other, and the cells of a position.
use Rattle.std.proofs.Common.{◌≡◌, ℕ, zero, suc, ◌+◌, ◌<◌, ◌≤◌, ◌/◌, ◌%◌, List, [], ◌∷◌, ◌++◌, length, slice_index, Option, Some, inl, inr, refl, sym, ◌∙◌, ap, subst, arith}
use Rattle.std.specs.List.{slice_get}
use Rattle.std.proofs.lemmas.List.{length-map}
use mathlib.Core.List.{IsPrefix}
use Rattle.known.specs.Agrees.{AgreeAll, Has}
use Rattle.log_entry.specs.declared.entry.Entry.{Entry as LogEntry}
use Rattle.order_log.specs.Cells.{AreCellsOf, known_entries}

fewer : {X : Type 0} (js ks : List (ℕ × X)) (k : ℕ × X) → AgreeAll js (k ∷ ks) → AgreeAll js ks
fewer [] ks k a = tt
fewer (j ∷ js) ks k a = (a.0.1, fewer js ks k a.1)

module _ {A : Type 0} where
  -- the two parts of what stands at the i-th place
  IsPlace : List ℕ → ℕ → ℕ × List ℕ → ℕ × LogEntry A → Type 0
  IsPlace names i g c = (g.0 ≡ slice_index names (i / 1024)) × (c.0 ≡ slice_index g.1 (i % 1024))

  place : (names : List ℕ) (i : ℕ) (g : ℕ × List ℕ) (c : ℕ × LogEntry A) → g.0 ≡ slice_index names (i / 1024) → c.0 ≡ slice_index g.1 (i % 1024) → IsPlace names i g c
  unfolding IsPlace
  place names i g c a b = (a, b)

  place_group : (names : List ℕ) (i : ℕ) (g : ℕ × List ℕ) (c : ℕ × LogEntry A) → IsPlace names i g c → g.0 ≡ slice_index names (i / 1024)
  unfolding IsPlace
  place_group names i g c a = a.0

  place_cell : (names : List ℕ) (i : ℕ) (g : ℕ × List ℕ) (c : ℕ × LogEntry A) → IsPlace names i g c → c.0 ≡ slice_index g.1 (i % 1024)
  unfolding IsPlace
  place_cell names i g c a = a.1

  more_from : (names : List ℕ) (i k : ℕ) (gs : List (ℕ × List ℕ)) (cs : List (ℕ × LogEntry A)) (g : ℕ × List ℕ) (c : ℕ × LogEntry A) → AreCellsOf names i gs cs → k ≡ i + length cs → IsPlace names k g c
      → AreCellsOf names i (gs ++ g ∷ []) (cs ++ c ∷ [])
  more_from names i k [] [] g c s is here = let same : k ≡ i = omega arith in let a = subst (λ (j : ℕ). IsPlace names j g c) same here in (place_group names i g c a, place_cell names i g c a, tt)
  more_from names i k [] (d ∷ cs) g c s is here = absurd s
  more_from names i k (h ∷ gs) [] g c s is here = absurd s
  more_from names i k (h ∷ gs) (d ∷ cs) g c s is here = (s.0, s.1, more_from names (suc i) k gs cs g c s.2 (omega arith) here)

  pub cells_more : (names : List ℕ) (k : ℕ) (gs : List (ℕ × List ℕ)) (cs : List (ℕ × LogEntry A)) (g : ℕ × List ℕ) (c : ℕ × LogEntry A) → AreCellsOf names 0 gs cs → k ≡ length cs
      → g.0 ≡ slice_index names (k / 1024) → c.0 ≡ slice_index g.1 (k % 1024) → AreCellsOf names 0 (gs ++ g ∷ []) (cs ++ c ∷ [])
  cells_more names k gs cs g c s is a b = more_from names 0 k gs cs g c s (omega arith) (place names k g c a b)

  pub entries_more : (cs : List (ℕ × LogEntry A)) (c : ℕ × LogEntry A) → known_entries (cs ++ c ∷ []) ≡ known_entries cs ++ c.1 ∷ []
  entries_more [] c = refl
  entries_more (d ∷ cs) c = ap (λ xs. d.1 ∷ xs) (entries_more cs c)

  pub cells_agree : (names : List ℕ) (i : ℕ) (gs hs : List (ℕ × List ℕ)) (cs ds : List (ℕ × LogEntry A)) → AreCellsOf names i gs cs → AreCellsOf names i hs ds → AgreeAll gs hs → AgreeAll cs ds → length cs ≤ length ds
      → IsPrefix (known_entries cs) (known_entries ds)
  cells_agree names i [] hs [] ds s t p q short = (known_entries ds, refl)
  cells_agree names i [] hs (c ∷ cs) ds s t p q short = absurd s
  cells_agree names i (g ∷ gs) hs [] ds s t p q short = absurd s
  cells_agree names i (g ∷ gs) [] (c ∷ cs) [] s t p q short = absurd (omega arith)
  cells_agree names i (g ∷ gs) [] (c ∷ cs) (d ∷ ds) s t p q short = absurd t
  cells_agree names i (g ∷ gs) (h ∷ hs) (c ∷ cs) [] s t p q short = absurd t
  cells_agree names i (g ∷ gs) (h ∷ hs) (c ∷ cs) (d ∷ ds) s t p q short =
      let same_group : g.1 ≡ h.1 = p.0.0 (t.0 ∙ sym s.0) in
      let same_cell : d.0 ≡ c.0 = t.1 ∙ sym (s.1 ∙ ap (λ (k : List ℕ). slice_index k (i % 1024)) same_group) in
      let same : c.1 ≡ d.1 = q.0.0 same_cell in
      let rest = cells_agree names (suc i) gs hs cs ds s.2 t.2 (fewer gs hs h p.1) (fewer cs ds d q.1) (omega arith) in
      (rest.0, ap (λ x. x ∷ (known_entries cs ++ rest.0)) same ∙ ap (λ xs. d.1 ∷ xs) rest.1)

  -- what stands in the cell of a place, and the names of the cells in its group
  pub record IsHeldAt (names : List ℕ) (gs : List (ℕ × List ℕ)) (cs : List (ℕ × LogEntry A)) (i k : ℕ) : Type 0 where
    pub cells : List ℕ
    pub entry : LogEntry A
    pub group : Has gs (slice_index names (i / 1024)) cells
    pub cell : Has cs (slice_index cells (i % 1024)) entry
    pub found : slice_get (known_entries cs) k ≡ Some entry

  one_later : (names : List ℕ) (gs : List (ℕ × List ℕ)) (cs : List (ℕ × LogEntry A)) (g : ℕ × List ℕ) (c : ℕ × LogEntry A) (i k : ℕ) → IsHeldAt names gs cs i k → IsHeldAt names (g ∷ gs) (c ∷ cs) i (suc k)
  one_later names gs cs g c i k h = record { cells = h.cells; entry = h.entry; group = inr h.group; cell = inr h.cell; found = h.found }

  held_from : (names : List ℕ) (i k n : ℕ) (gs : List (ℕ × List ℕ)) (cs : List (ℕ × LogEntry A)) → AreCellsOf names i gs cs → n ≡ i + k → k < length cs → IsHeldAt names gs cs n k
  held_from names i k n [] [] s is short = absurd (omega arith)
  held_from names i k n [] (c ∷ cs) s is short = absurd s
  held_from names i k n (g ∷ gs) [] s is short = absurd s
  held_from names i zero n (g ∷ gs) (c ∷ cs) s is short =
      let same : i ≡ n = omega arith in
      record {
        cells = g.1;
        entry = c.1;
        group = inl (subst (λ (j : ℕ). g.0 ≡ slice_index names (j / 1024)) same s.0, refl);
        cell = inl (subst (λ (j : ℕ). c.0 ≡ slice_index g.1 (j % 1024)) same s.1, refl);
        found = refl;
      }
  held_from names i (suc k) n (g ∷ gs) (c ∷ cs) s is short = one_later names gs cs g c n k (held_from names (suc i) k n gs cs s.2 (omega arith) (omega arith))

  pub few_entries : (count : ℕ) (cs : List (ℕ × LogEntry A)) (entries : List (LogEntry A)) → count ≡ length cs → count ≤ 1048576 → known_entries cs ≡ entries → length entries ≤ 1048576
  few_entries count cs entries is few view =
      let same : length cs ≡ length entries = simp length-map at (ap (length {A = LogEntry A}) view) in
      omega (arith, is, few, same)

  -- that of an entry of the list
  pub held_at : (names : List ℕ) (k : ℕ) (gs : List (ℕ × List ℕ)) (cs : List (ℕ × LogEntry A)) (entries : List (LogEntry A)) → AreCellsOf names 0 gs cs → known_entries cs ≡ entries → k < length entries → IsHeldAt names gs cs k k
  held_at names k gs cs entries s view short =
      let count : length cs ≡ length entries = simp length-map at (ap (length {A = LogEntry A}) view) in
      held_from names 0 k k gs cs s (omega arith) (omega (arith, count, short))

  pub has_group : (names ns : List ℕ) (k cell : ℕ) (gs : List (ℕ × List ℕ)) (cs : List (ℕ × LogEntry A)) (h : IsHeldAt names gs cs k k) → cell ≡ slice_index ns (k / 1024) → ns ≡ names → Has gs cell h.cells
  has_group names ns k cell gs cs h is same = subst (λ (j : ℕ). Has gs j h.cells) (sym (is ∙ ap (λ (ms : List ℕ). slice_index ms (k / 1024)) same)) h.group

  pub has_cell : (names cells : List ℕ) (k cell : ℕ) (gs : List (ℕ × List ℕ)) (cs : List (ℕ × LogEntry A)) (h : IsHeldAt names gs cs k k) → cell ≡ slice_index cells (k % 1024) → h.cells ≡ cells → Has cs cell h.entry
  has_cell names cells k cell gs cs h is same = subst (λ (j : ℕ). Has cs j h.entry) (sym (is ∙ ap (λ (ms : List ℕ). slice_index ms (k % 1024)) (sym same))) h.cell
