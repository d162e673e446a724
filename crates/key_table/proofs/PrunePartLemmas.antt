-- Slots of which a run is pruned, and pages of which one is.
use Rattle.std.proofs.Common.{◌≡◌, ◌⊎◌, inl, inr, ℕ, zero, suc, ◌+◌, ◌≤◌, ◌<◌, ◌^◌, eqb, Bool, true, false, not, cond, List, [], ◌∷◌, ◌++◌, length, get_or, set, filter, refl, sym, ap, subst, ◌∙◌, arith}
use Rattle.std.specs.Prelude.{Some}
use Rattle.std.proofs.lemmas.Bool.{eqb-true, ne_eqb, false≢true, ltb-true}
use Rattle.std.proofs.lemmas.List.{append_assoc, length-append}
use Rattle.row_chain.specs.Version.{Version, needed_versions}
use Rattle.row_chain.specs.Slots.{Slot, AreAbove, AreRising, AreSlotsOf, ArePruned, chain_at, versions_in, versions_at, has_versions}
use Rattle.row_chain.proofs.TableLemmas.{none_above}
use Rattle.row_chain.proofs.KeptLemmas.{kept}
use Rattle.key_table.specs.Pages.{all_slots, has_slots, AreFilled, IsPrunedTo, IsPrunedWithin}
use Rattle.key_table.proofs.PrunePagesLemmas.{all-filled_pages, length_left, length-filter-le}

-- ---- a run, with what stands behind it

above_run : (horizon k : ℕ) (run left behind : List Slot) → ArePruned horizon (length run) run left → AreAbove k (run ++ behind) → AreAbove k (kept left ++ behind)
above_run horizon k [] [] behind h a = a
above_run horizon k [] (x ∷ left) behind h a = absurd h
above_run horizon k (e ∷ run) [] behind h a = absurd h
above_run horizon k (e ∷ run) (x ∷ left) behind h a =
    elim (has_versions x) as (λ (t : Bool). AreAbove k (cond t (x ∷ kept left) (kept left) ++ behind)) [
      | true ↦ (subst (λ (j : ℕ). k < j) (sym h.0.key) a.0, above_run horizon k run left behind h.1 a.1)
      | false ↦ above_run horizon k run left behind h.1 a.1
    ]

rising_run : (horizon : ℕ) (run left behind : List Slot) → ArePruned horizon (length run) run left → AreRising (run ++ behind) → AreRising (kept left ++ behind)
rising_run horizon [] [] behind h up = up
rising_run horizon [] (x ∷ left) behind h up = absurd h
rising_run horizon (e ∷ run) [] behind h up = absurd h
rising_run horizon (e ∷ run) (x ∷ left) behind h up =
    elim (has_versions x) as (λ (t : Bool). AreRising (cond t (x ∷ kept left) (kept left) ++ behind)) [
      | true ↦ (subst (λ (j : ℕ). AreAbove j (kept left ++ behind)) (sym h.0.key) (above_run horizon e.key run left behind h.1 up.0), rising_run horizon run left behind h.1 up.1)
      | false ↦ rising_run horizon run left behind h.1 up.1
    ]

wide_run : (horizon w : ℕ) (run left behind : List Slot) → ArePruned horizon (length run) run left → AreSlotsOf w (run ++ behind) → AreSlotsOf w (kept left ++ behind)
wide_run horizon w [] [] behind h a = a
wide_run horizon w [] (x ∷ left) behind h a = absurd h
wide_run horizon w (e ∷ run) [] behind h a = absurd h
wide_run horizon w (e ∷ run) (x ∷ left) behind h a =
    elim (has_versions x) as (λ (t : Bool). AreSlotsOf w (cond t (x ∷ kept left) (kept left) ++ behind)) [
      | true ↦ ((h.0.width ∙ a.0.0, subst (λ (j : ℕ). j < 2 ^ 64) (sym h.0.key) a.0.1), wide_run horizon w run left behind h.1 a.1)
      | false ↦ wide_run horizon w run left behind h.1 a.1
    ]

no_versions : (vs : List Version) → not (eqb (length vs) 0) ≡ false → vs ≡ []
no_versions [] e = refl
no_versions (v ∷ vs) e = absurd (false≢true (sym e ∙ ap not (ne_eqb (length (v ∷ vs)) 0 (omega arith))))

-- a key's versions stay, or are pruned
abbrev pub PrunedOrNot : ℕ → List Version → List Version → Type 0
PrunedOrNot horizon old new = (new ≡ old) ⊎ (new ≡ needed_versions horizon old)

versions_run : (horizon : ℕ) (run left behind : List Slot) (q : ℕ) → ArePruned horizon (length run) run left → AreRising (run ++ behind)
    → PrunedOrNot horizon (versions_at (run ++ behind) q) (versions_at (kept left ++ behind) q)
versions_run horizon [] [] behind q h up = inl refl
versions_run horizon [] (x ∷ left) behind q h up = absurd h
versions_run horizon (e ∷ run) [] behind q h up = absurd h
versions_run horizon (e ∷ run) (x ∷ left) behind q h up =
    let rest = kept left ++ behind in
    elim (has_versions x) as (λ (t : Bool). has_versions x ≡ t → PrunedOrNot horizon (versions_at (e ∷ (run ++ behind)) q) (versions_at (cond t (x ∷ kept left) (kept left) ++ behind) q)) [
      | true ↦ λ _. subst (λ (j : ℕ). PrunedOrNot horizon (versions_at (e ∷ (run ++ behind)) q) (versions_in (cond (eqb j q) (Some x.chain) (chain_at rest q)))) (sym h.0.key)
          (elim (eqb e.key q) as (λ (t : Bool). PrunedOrNot horizon (versions_in (cond t (Some e.chain) (chain_at (run ++ behind) q))) (versions_in (cond t (Some x.chain) (chain_at rest q)))) [
            | true ↦ inr h.0.versions
            | false ↦ versions_run horizon run left behind q h.1 up.1
          ])
      | false ↦ λ empty. elim (eqb e.key q) as (λ (t : Bool). eqb e.key q ≡ t → PrunedOrNot horizon (versions_in (cond t (Some e.chain) (chain_at (run ++ behind) q))) (versions_at rest q)) [
        | true ↦ λ same.
            let le : q ≤ e.key = omega (arith, eqb-true e.key q same) in
            inr (ap versions_in (none_above e.key q rest (above_run horizon e.key run left behind h.1 up.0) le) ∙ sym (no_versions x.chain.versions empty) ∙ h.0.versions)
        | false ↦ λ _. versions_run horizon run left behind q h.1 up.1
      ] refl
    ] refl

-- ---- what stands before a change

above_before : (k : ℕ) (before xs ys : List Slot) → (AreAbove k xs → AreAbove k ys) → AreAbove k (before ++ xs) → AreAbove k (before ++ ys)
above_before k [] xs ys f a = f a
above_before k (e ∷ before) xs ys f a = (a.0, above_before k before xs ys f a.1)

rising_before : (before xs ys : List Slot) → ((k : ℕ) → AreAbove k xs → AreAbove k ys) → (AreRising xs → AreRising ys) → AreRising (before ++ xs) → AreRising (before ++ ys)
rising_before [] xs ys f g up = g up
rising_before (e ∷ before) xs ys f g up = (above_before e.key before xs ys (f e.key) up.0, rising_before before xs ys f g up.1)

rising_end : (before xs : List Slot) → AreRising (before ++ xs) → AreRising xs
rising_end [] xs up = up
rising_end (e ∷ before) xs up = rising_end before xs up.1

wide_before : (w : ℕ) (before xs ys : List Slot) → (AreSlotsOf w xs → AreSlotsOf w ys) → AreSlotsOf w (before ++ xs) → AreSlotsOf w (before ++ ys)
wide_before w [] xs ys f a = f a
wide_before w (e ∷ before) xs ys f a = (a.0, wide_before w before xs ys f a.1)

versions_before : (horizon : ℕ) (before xs ys : List Slot) (q : ℕ) → PrunedOrNot horizon (versions_at xs q) (versions_at ys q) → PrunedOrNot horizon (versions_at (before ++ xs) q) (versions_at (before ++ ys) q)
versions_before horizon [] xs ys q h = h
versions_before horizon (e ∷ before) xs ys q h =
    elim (eqb e.key q) as (λ (t : Bool). PrunedOrNot horizon (versions_in (cond t (Some e.chain) (chain_at (before ++ xs) q))) (versions_in (cond t (Some e.chain) (chain_at (before ++ ys) q)))) [
      | true ↦ inl refl
      | false ↦ versions_before horizon before xs ys q h
    ]

-- ---- slots of which a run is pruned

pub rising_within : (horizon : ℕ) (old new : List Slot) → IsPrunedWithin horizon old new → AreRising old → AreRising new
rising_within horizon old new w up =
    let left = w.pruned.0 in
    let is : new ≡ w.before ++ (kept left ++ w.behind) = w.now ∙ ap (λ (l : List Slot). w.before ++ (l ++ w.behind)) w.pruned.1.1 in
    subst AreRising (sym is)
    (rising_before w.before (w.run ++ w.behind) (kept left ++ w.behind) (λ k a. above_run horizon k w.run left w.behind w.pruned.1.0 a) (λ a. rising_run horizon w.run left w.behind w.pruned.1.0 a)
    (subst AreRising w.was up))

pub wide_within : (horizon width : ℕ) (old new : List Slot) → IsPrunedWithin horizon old new → AreSlotsOf width old → AreSlotsOf width new
wide_within horizon width old new w wide =
    let left = w.pruned.0 in
    let is : new ≡ w.before ++ (kept left ++ w.behind) = w.now ∙ ap (λ (l : List Slot). w.before ++ (l ++ w.behind)) w.pruned.1.1 in
    subst (AreSlotsOf width) (sym is)
    (wide_before width w.before (w.run ++ w.behind) (kept left ++ w.behind) (λ a. wide_run horizon width w.run left w.behind w.pruned.1.0 a) (subst (AreSlotsOf width) w.was wide))

pub versions_within : (horizon : ℕ) (old new : List Slot) (q : ℕ) → IsPrunedWithin horizon old new → AreRising old → PrunedOrNot horizon (versions_at old q) (versions_at new q)
versions_within horizon old new q w up =
    let left = w.pruned.0 in
    let is : new ≡ w.before ++ (kept left ++ w.behind) = w.now ∙ ap (λ (l : List Slot). w.before ++ (l ++ w.behind)) w.pruned.1.1 in
    subst (λ (l : List Slot). PrunedOrNot horizon (versions_at old q) (versions_at l q)) (sym is)
    (subst (λ (l : List Slot). PrunedOrNot horizon (versions_at l q) (versions_at (w.before ++ (kept left ++ w.behind)) q)) (sym w.was)
    (versions_before horizon w.before (w.run ++ w.behind) (kept left ++ w.behind) q
    (versions_run horizon w.run left w.behind q w.pruned.1.0 (rising_end w.before (w.run ++ w.behind) (subst AreRising w.was up)))))

pub length_within : (horizon : ℕ) (old new : List Slot) → IsPrunedWithin horizon old new → length new ≤ length old
length_within horizon old new w =
    let few : length w.left ≤ length w.run = length_left horizon w.run w.left w.pruned in
    let a : length old ≡ length (w.before ++ (w.run ++ w.behind)) = ap (λ (l : List Slot). length l) w.was in
    let b : length new ≡ length (w.before ++ (w.left ++ w.behind)) = ap (λ (l : List Slot). length l) w.now in
    let c : length (w.before ++ (w.run ++ w.behind)) ≡ length w.before + length (w.run ++ w.behind) = length-append w.before (w.run ++ w.behind) in
    let d : length (w.before ++ (w.left ++ w.behind)) ≡ length w.before + length (w.left ++ w.behind) = length-append w.before (w.left ++ w.behind) in
    let e : length (w.run ++ w.behind) ≡ length w.run + length w.behind = length-append w.run w.behind in
    let f : length (w.left ++ w.behind) ≡ length w.left + length w.behind = length-append w.left w.behind in
    omega arith

append_nil : (l : List Slot) → l ≡ l ++ []
append_nil [] = refl
append_nil (e ∷ l) = ap (λ (r : List Slot). e ∷ r) (append_nil l)

pub whole_within : (horizon : ℕ) (old new : List Slot) → IsPrunedTo horizon old new → IsPrunedWithin horizon old new
whole_within horizon old new h = record { before = []; run = old; left = new; behind = []; pruned = h; was = append_nil old; now = append_nil new }

-- ---- pages of which one is pruned

behind_more : (before run behind more : List Slot) → (before ++ (run ++ behind)) ++ more ≡ before ++ (run ++ (behind ++ more))
behind_more before run behind more = append_assoc before (run ++ behind) more ∙ ap (λ (l : List Slot). before ++ l) (append_assoc run behind more)

pub part_within : (horizon : ℕ) (ps : List (List Slot)) (i : ℕ) (new d : List Slot) → i < length ps → IsPrunedWithin horizon (get_or ps i d) new → IsPrunedWithin horizon (all_slots ps) (all_slots (set ps i new))
part_within horizon [] i new d lt w = absurd (omega arith)
part_within horizon (p ∷ ps) zero new d lt w = record {
  before = w.before;
  run = w.run;
  left = w.left;
  behind = w.behind ++ all_slots ps;
  pruned = w.pruned;
  was = ap (λ (l : List Slot). l ++ all_slots ps) w.was ∙ behind_more w.before w.run w.behind (all_slots ps);
  now = ap (λ (l : List Slot). l ++ all_slots ps) w.now ∙ behind_more w.before w.left w.behind (all_slots ps);
}
part_within horizon (p ∷ ps) (suc i) new d lt w =
    let rest = part_within horizon ps i new d (omega arith) w in
    record {
      before = p ++ rest.before;
      run = rest.run;
      left = rest.left;
      behind = rest.behind;
      pruned = rest.pruned;
      was = ap (λ (l : List Slot). p ++ l) rest.was ∙ sym (append_assoc p rest.before (rest.run ++ rest.behind));
      now = ap (λ (l : List Slot). p ++ l) rest.now ∙ sym (append_assoc p rest.before (rest.left ++ rest.behind));
    }

-- the pages without one that has no slots
abbrev pub without_empty : List Slot → List (List Slot) → List (List Slot)
without_empty page pages = cond (has_slots page) pages (filter has_slots pages)

pub slots_left : (page : List Slot) (pages : List (List Slot)) → all_slots (without_empty page pages) ≡ all_slots pages
slots_left page pages =
    elim (has_slots page) as (λ (t : Bool). all_slots (cond t pages (filter has_slots pages)) ≡ all_slots pages) [ true ↦ refl | false ↦ all-filled_pages pages ]

filled_filter : (most : ℕ) (ps : List (List Slot)) → AreFilled most ps → AreFilled most (filter has_slots ps)
filled_filter most [] filled = tt
filled_filter most (p ∷ ps) filled =
    elim (has_slots p) as (λ (t : Bool). AreFilled most (cond t (p ∷ filter has_slots ps) (filter has_slots ps))) [
      | true ↦ (filled.0, filled_filter most ps filled.1)
      | false ↦ filled_filter most ps filled.1
    ]

filled_set : (most : ℕ) (ps : List (List Slot)) (i : ℕ) (new : List Slot) → 0 < length new → length new ≤ most → AreFilled most ps → AreFilled most (set ps i new)
filled_set most [] i new some few filled = filled
filled_set most (p ∷ ps) zero new some few filled = ((some, few), filled.1)
filled_set most (p ∷ ps) (suc i) new some few filled = (filled.0, filled_set most ps i new some few filled.1)

filled_dropped : (most : ℕ) (ps : List (List Slot)) (i : ℕ) (new : List Slot) → has_slots new ≡ false → AreFilled most ps → AreFilled most (filter has_slots (set ps i new))
filled_dropped most [] i new none filled = filled
filled_dropped most (p ∷ ps) zero new none filled =
    subst (λ (t : Bool). AreFilled most (cond t (new ∷ filter has_slots ps) (filter has_slots ps))) (sym none) (filled_filter most ps filled.1)
filled_dropped most (p ∷ ps) (suc i) new none filled =
    elim (has_slots p) as (λ (t : Bool). AreFilled most (cond t (p ∷ filter has_slots (set ps i new)) (filter has_slots (set ps i new)))) [
      | true ↦ (filled.0, filled_dropped most ps i new none filled.1)
      | false ↦ filled_dropped most ps i new none filled.1
    ]

few_at : (most : ℕ) (ps : List (List Slot)) (i : ℕ) (d : List Slot) → i < length ps → AreFilled most ps → length (get_or ps i d) ≤ most
few_at most [] i d lt filled = absurd (omega arith)
few_at most (p ∷ ps) zero d lt filled = filled.0.1
few_at most (p ∷ ps) (suc i) d lt filled = few_at most ps i d (omega arith) filled.1

pub filled_left : (most : ℕ) (ps : List (List Slot)) (i : ℕ) (new d : List Slot) → i < length ps → length new ≤ length (get_or ps i d) → AreFilled most ps → AreFilled most (without_empty new (set ps i new))
filled_left most ps i new d lt less filled =
    let few : length (get_or ps i d) ≤ most = few_at most ps i d lt filled in
    elim (has_slots new) as (λ (t : Bool). has_slots new ≡ t → AreFilled most (cond t (set ps i new) (filter has_slots (set ps i new)))) [
      | true ↦ λ some. filled_set most ps i new (ltb-true 0 (length new) some) (omega arith) filled
      | false ↦ λ none. filled_dropped most ps i new none filled
    ] refl

pub few_without : (page : List Slot) (pages : List (List Slot)) → length (without_empty page pages) ≤ length pages
few_without page pages =
    let less : length (filter has_slots pages) ≤ length pages = length-filter-le has_slots pages in
    elim (has_slots page) as (λ (t : Bool). length (cond t pages (filter has_slots pages)) ≤ length pages) [ true ↦ omega arith | false ↦ less ]
