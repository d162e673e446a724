-- The rows of a scan that were appended, and those that are left.
use Rattle.std.proofs.Common.{◌≡◌, ℕ, suc, ◌+◌, ◌-◌, ◌<◌, List, [], ◌∷◌, ◌++◌, length, map, take, Some, refl, sym, ap, subst, ◌∙◌, arith, append_assoc, length-append}
use Rattle.std.specs.List.{concat}
use Rattle.std.proofs.lemmas.List.{append-nil, map-append}
use Rattle.std.proofs.Math.Seq.{take-nil}
use Rattle.schema.specs.Rows.{Key, Rows}
use Rattle.row_scan.specs.Left.{ScanState, rows_left}
use Rattle.site_service.specs.declared.line.Scan.{Scan}
use Rattle.site_report.specs.Answers.{row_text}
use Rattle.site_service.specs.Scanned.{look_of, scanned_rows}

-- these rows were appended, so many, and those that are left of the scan stand behind them
pub record HasScanned {S : Type 0} (appends : S → S → List ℕ → Type 0) (old new : S) (scan : Scan) (rows : Rows) (left : ScanState) (count : ℕ) : Type 0 where
  pub done : List (Key × List ℕ)
  pub appended : appends old new (concat (map row_text done))
  pub counted : length done ≡ count
  pub split : scanned_rows scan rows ≡ done ++ take (scan.most - count) (rows_left left.left rows)
  pub table : left.table ≡ scan.table

pub scan_begins : {S : Type 0} (appends : S → S → List ℕ → Type 0) (a : S) (scan : Scan) (rows : Rows) (left : ScanState) → left ≡ record { table = scan.table; left = Some (look_of scan) } → appends a a []
    → HasScanned appends a a scan rows left 0
scan_begins appends a scan rows left is nothing = record {
  done = [];
  appended = nothing;
  counted = refl;
  split = sym (ap (λ (n : ℕ). take n (rows_left left.left rows)) (whole scan.most) ∙ ap (λ (s : ScanState). take scan.most (rows_left s.left rows)) is);
  table = ap (λ (s : ScanState). s.table) is;
}
  where
    whole : (n : ℕ) → n - 0 ≡ n
    whole n = omega arith

concat-append : (xs ys : List (List ℕ)) → concat (xs ++ ys) ≡ concat xs ++ concat ys
concat-append [] ys = refl
concat-append (x ∷ xs) ys = ap (λ (t : List ℕ). x ++ t) (concat-append xs ys) ∙ sym (append_assoc x (concat xs) (concat ys))

took_one : {X : Type 0} (n m : ℕ) (x : X) (xs : List X) → n ≡ m + 1 → take n (x ∷ xs) ≡ x ∷ take m xs
took_one n m x xs is = ap (λ k. take k (x ∷ xs)) (let same : n ≡ suc m = omega (arith, is) in same)

texts-append : (xs : List (Key × List ℕ)) (x : Key × List ℕ) → concat (map row_text xs) ++ row_text x ≡ concat (map row_text (xs ++ x ∷ []))
texts-append xs x =
    sym (ap concat (map-append row_text xs (x ∷ [])) ∙ concat-append (map row_text xs) (row_text x ∷ [])
    ∙ ap (λ (t : List ℕ). concat (map row_text xs) ++ t) (append-nil (row_text x)))

pub scan_goes : {S : Type 0} (appends : S → S → List ℕ → Type 0)
    → ((a b c : S) (front back : List ℕ) → appends a b front → appends b c back → appends a c (front ++ back))
    → (old mid new : S) (scan : Scan) (rows : Rows) (left later : ScanState) (count key : ℕ) (bytes : List ℕ)
    → HasScanned appends old mid scan rows left count → count < scan.most
    → rows_left left.left rows ≡ ((left.table, key), bytes) ∷ rows_left later.left rows → later.table ≡ left.table
    → appends mid new (row_text ((scan.table, key), bytes)) → HasScanned appends old new scan rows later (count + 1)
scan_goes appends together old mid new scan rows left later count key bytes so_far more next same appended =
    let row : Key × List ℕ = ((scan.table, key), bytes) in
    let rest = rows_left later.left rows in
    let fewer : scan.most - count ≡ (scan.most - (count + 1)) + 1 = omega (arith, more) in
    let found : rows_left left.left rows ≡ row ∷ rest = next ∙ ap (λ (t : ℕ). ((t, key), bytes) ∷ rest) so_far.table in
    record {
      done = so_far.done ++ row ∷ [];
      appended = subst (appends old new) (texts-append so_far.done row) (together old mid new (concat (map row_text so_far.done)) (row_text row) so_far.appended appended);
      counted = omega (arith, so_far.counted, length-append so_far.done (row ∷ []));
      split =
          so_far.split
          ∙ ap (λ (t : List (Key × List ℕ)). so_far.done ++ take (scan.most - count) t) found
          ∙ ap (λ (t : List (Key × List ℕ)). so_far.done ++ t) (took_one (scan.most - count) (scan.most - (count + 1)) row rest fewer)
          ∙ sym (append_assoc so_far.done (row ∷ []) (take (scan.most - (count + 1)) rest));
      table = same ∙ so_far.table;
    }

-- ---- its end

-- the rows of a scan were appended, so many
abbrev pub IsScanned : {S : Type 0} → (S → S → List ℕ → Type 0) → S → S → Scan → Rows → ℕ → Type 0
IsScanned appends old new scan rows count =
    appends old new (concat (map row_text (scanned_rows scan rows))) × (count ≡ length (scanned_rows scan rows))

ends_with : {S : Type 0} (appends : S → S → List ℕ → Type 0) (old new : S) (scan : Scan) (rows : Rows) (left : ScanState) (count : ℕ) (so_far : HasScanned appends old new scan rows left count)
    → take (scan.most - count) (rows_left left.left rows) ≡ [] → IsScanned appends old new scan rows count
ends_with appends old new scan rows left count so_far none =
    let all : scanned_rows scan rows ≡ so_far.done = so_far.split ∙ ap (λ (t : List (Key × List ℕ)). so_far.done ++ t) none ∙ append-nil so_far.done in
    (subst (λ (t : List (Key × List ℕ)). appends old new (concat (map row_text t))) (sym all) so_far.appended, sym so_far.counted ∙ ap length (sym all))

-- there are no more rows
pub scan_ends : {S : Type 0} (appends : S → S → List ℕ → Type 0) (old new : S) (scan : Scan) (rows : Rows) (left : ScanState) (count : ℕ) → HasScanned appends old new scan rows left count
    → rows_left left.left rows ≡ [] → IsScanned appends old new scan rows count
scan_ends appends old new scan rows left count so_far none =
    ends_with appends old new scan rows left count so_far (ap (take (scan.most - count)) none ∙ take-nil (scan.most - count))

-- there are as many as it asks for
pub scan_is_full : {S : Type 0} (appends : S → S → List ℕ → Type 0) (old new : S) (scan : Scan) (rows : Rows) (left : ScanState) (count : ℕ) → HasScanned appends old new scan rows left count
    → count ≡ scan.most → IsScanned appends old new scan rows count
scan_is_full appends old new scan rows left count so_far full =
    let none : scan.most - count ≡ 0 = omega (arith, full) in
    ends_with appends old new scan rows left count so_far (ap (λ (n : ℕ). take n (rows_left left.left rows)) none)
