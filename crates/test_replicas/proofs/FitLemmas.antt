-- Each write, and each entry, in turn.
use Rattle.std.proofs.Common.{◌≡◌, ◌⊎◌, inl, inr, ℕ, suc, ◌+◌, ◌≤◌, ◌<◌, true, false, cond, List, [], ◌∷◌, length, drop, refl, sym, ap, subst, ◌∙◌, arith}
use Rattle.std.specs.Prelude.{Option, Some, None, Result, Ok, Err, OnOk, OnErr, slice_index_or}
use Rattle.std.proofs.lemmas.List.{drop_more}
use Rattle.std.specs.FinMap.{find, empty, get-empty}
use Rattle.schema.specs.Schema.{Tables}
use Rattle.schema.specs.Rows.{Key, key_cmp, IsWrite, AreWrites}
use Rattle.schema.proofs.RowsLemmas.{is_key, one_key}
use Rattle.log_model.specs.Log.{IsPlaced, IsLogFrom}
use Rattle.log_model.specs.Entries.{item_of, items_of}
use Rattle.log_entry.specs.declared.entry.Entry.{Entry as LogEntry}
use Rattle.log_entry.specs.Kind.{entry_of}
use Rattle.replica.specs.Replica.{entries_of}

abbrev pub Write : Type 0
Write = Key × Option (List ℕ)

same_write : (a b : Option (List ℕ)) → Some a ≡ Some b → a ≡ b
same_write a b e = cc

pub fits_or_later : (tables : Tables) (x : Write) (rest : List Write) (k : Key) (write : Option (List ℕ)) → IsWrite tables x.0 x.1 → find key_cmp k (x ∷ rest) ≡ Some write → IsWrite tables k write ⊎ (find key_cmp k rest ≡ Some write)
fits_or_later tables x rest k write fits h =
    elim (is_key k x.0) as (λ b. is_key k x.0 ≡ b → cond b (Some x.1) (find key_cmp k rest) ≡ Some write → IsWrite tables k write ⊎ (find key_cmp k rest ≡ Some write)) [
      | true ↦ λ e same. inl (subst (λ (q : Key). IsWrite tables q write) (sym (one_key k x.0 e)) (subst (IsWrite tables x.0) (same_write x.1 write same) fits))
      | false ↦ λ e later. inr later
    ] refl h

pub none_later : (rest : List Write) (k : Key) (write : Option (List ℕ)) → rest ≡ [] → find key_cmp k rest ≡ Some write → ⊥
none_later rest k write is h = let bad : None ≡ Some write = ap (λ (l : List Write). find key_cmp k l) (sym is) ∙ h in cc

-- ---- entries from one on

pub log_more : {A : Type 0} (entries : List (LogEntry A)) (i : ℕ) (e : LogEntry A) → i < length entries → e ≡ slice_index_or entries i e → IsPlaced i (item_of (entry_of e))
    → IsLogFrom (i + 1) (items_of (entries_of (drop (i + 1) entries))) → IsLogFrom i (items_of (entries_of (drop i entries)))
log_more entries i e lt is placed later =
    let next : i + 1 ≡ suc i = omega arith in
    let first = subst (λ (x : LogEntry _). IsPlaced i (item_of (entry_of x))) is placed in
    subst (λ (l : List (LogEntry _)). IsLogFrom i (items_of (entries_of l))) (sym (drop_more entries i e lt))
    (first, subst (λ (n : ℕ). IsLogFrom n (items_of (entries_of (drop (i + 1) entries)))) next later)

-- nothing that is written is of any schema
pub nothing_fits : (tables : Tables) → AreWrites tables empty
nothing_fits tables k write is = let bad : None ≡ Some write = sym (get-empty key_cmp k) ∙ is in cc

-- ---- what a call leaves

pub either_way : {A E : Type 0} (r : Result A E) (P Q R : Type 0) → (P → R) → (Q → R) → OnOk r P → OnErr r Q → R
either_way (Ok x) P Q R p q ok err = p ok
either_way (Err e) P Q R p q ok err = q err
