-- What is held by number, against the stored procedures that contracts see.
use Rattle.std.proofs.Common.{◌≡◌, ℕ, List, [], ◌∷◌, ◌++◌, map, refl, sym, ap, subst, ◌∙◌, Bool, true, false, cond}
use Rattle.std.specs.Prelude.{Option, Some, None, is_some, find, nat_eq}
use Rattle.std.specs.Option.{option_map}
use Rattle.std.specs.Map.{lookup}
use Rattle.std.specs.Cmp.{nat_eq_equiv}
use Rattle.std.specs.List.{AllByRecursion, IsDistinct}
use Rattle.std.specs.Str.{bytes_eq}
use Rattle.std.proofs.lemmas.List.{map-append}
use Rattle.indexmap.specs.IndexMap.{IndexMap, insert_entry}
use Rattle.indexmap.proofs.CallerLemmas.{insert_entry-new}
use Rattle.bpf_verify.specs.Flow.{Procedure}
use Rattle.log_model.specs.declared.verdict.Identifier.TheVariants.{Name, Number}
use Rattle.log_model.specs.declared.verdict.Verdict.{Verdict}
use Rattle.log_model.specs.declared.verdict.Verdict.TheVariants.{Commit, Taken}
use Rattle.log_model.specs.Log.{StoredProcedure, Catalogue, by_number, by_name, verdict_on_addition}
use Rattle.log_model.specs.Name.{is_name}
use Rattle.catalogue.specs.Stored.{ListedProcedure, NamedProcedure, stored, stored_procedures, WasAccepted, AreStored, listed_by_number, listed_entry, listed}

abbrev Held : Type 0
Held = List (ℕ × NamedProcedure)

abbrev Procedures : Type 0
Procedures = List ListedProcedure

-- ---- what is held, and what is listed

pub one_more_listed : (held : Held) (e : ℕ × NamedProcedure) → listed (held ++ e ∷ []) ≡ listed held ++ listed_entry e ∷ []
one_more_listed held e = map-append listed_entry held (e ∷ [])

-- what is held under a number is what is listed under it
pub held_under : (number : ℕ) (held : Held) → option_map (λ n. n.accepted) (lookup (nat_eq number) held) ≡ option_map (λ l. l.accepted) (listed_by_number (listed held) number)
held_under number [] = refl
held_under number (e ∷ held) =
    ap (λ b. option_map (λ n. n.accepted) (cond b (Some e.1) (lookup (nat_eq number) held))) (nat_eq_equiv.symm number e.0)
    ∙ by (nat_eq e.0 number) (held_under number held)
  where
    by : (b : Bool) → option_map (λ n. n.accepted) (lookup (nat_eq number) held) ≡ option_map (λ l. l.accepted) (listed_by_number (listed held) number)
        → option_map (λ n. n.accepted) (cond b (Some e.1) (lookup (nat_eq number) held))
        ≡ option_map (λ l. l.accepted) (cond b (Some (listed_entry e)) (listed_by_number (listed held) number))
    by true rest = refl
    by false rest = rest

pub held_as : (number : ℕ) (held : Held) (found : Option NamedProcedure) → found ≡ lookup (nat_eq number) held
    → option_map (λ n. n.accepted) found ≡ option_map (λ l. l.accepted) (listed_by_number (listed held) number)
held_as number held found is = ap (λ (o : Option NamedProcedure). option_map (λ n. n.accepted) o) is ∙ held_under number held

none_held : (number : ℕ) (held : Held) → listed_by_number (listed held) number ≡ None → lookup (nat_eq number) held ≡ None
none_held number [] none = refl
none_held number (e ∷ held) none =
    ap (λ b. cond b (Some e.1) (lookup (nat_eq number) held)) (nat_eq_equiv.symm number e.0)
    ∙ by (nat_eq e.0 number) none (none_held number held)
  where
    by : (b : Bool) → cond b (Some (listed_entry e)) (listed_by_number (listed held) number) ≡ None
        → (listed_by_number (listed held) number ≡ None → lookup (nat_eq number) held ≡ None)
        → cond b (Some e.1) (lookup (nat_eq number) held) ≡ None
    by true h rest = absurd cc
    by false h rest = rest h

-- what is entered under a number that none has stands behind the others
pub entered_last : {S : Type 0} (table : IndexMap ℕ NamedProcedure S) (number : ℕ) (n : NamedProcedure)
    → listed_by_number (listed table.entries) number ≡ None → insert_entry nat_eq table.entries number n ≡ table.entries ++ (number, n) ∷ []
entered_last table number n none = insert_entry-new nat_eq table number n (none_held number table.entries none)

-- ---- what is listed, and what is stored

pub stored_by_number : (number : ℕ) (procedures : Procedures) → by_number (stored_procedures procedures) number ≡ option_map stored (listed_by_number procedures number)
stored_by_number number [] = refl
stored_by_number number (l ∷ procedures) = by (nat_eq l.number number) (stored_by_number number procedures)
  where
    by : (b : Bool) → by_number (stored_procedures procedures) number ≡ option_map stored (listed_by_number procedures number)
        → cond b (Some (stored l)) (by_number (stored_procedures procedures) number) ≡ option_map stored (cond b (Some l) (listed_by_number procedures number))
    by true rest = refl
    by false rest = rest

-- a program that is listed under a number is that of a stored procedure
pub stored_under : (number : ℕ) (procedures : Procedures) (accepted : Procedure) → Some accepted ≡ option_map (λ l. l.accepted) (listed_by_number procedures number)
    → (p : StoredProcedure) × (by_number (stored_procedures procedures) number ≡ Some p) × (accepted.args_len ≡ p.args_len)
stored_under number procedures accepted e = go (listed_by_number procedures number) e (stored_by_number number procedures)
  where
    one : (a b : Procedure) → Some a ≡ Some b → a ≡ b
    one a b e = cc

    go : (o : Option ListedProcedure) → Some accepted ≡ option_map (λ l. l.accepted) o → by_number (stored_procedures procedures) number ≡ option_map stored o
        → (p : StoredProcedure) × (by_number (stored_procedures procedures) number ≡ Some p) × (accepted.args_len ≡ p.args_len)
    go None e f = absurd cc
    go (Some l) e f = (stored l, f, ap (λ (p : Procedure). p.args_len) (one accepted l.accepted e))

pub none_under : (number : ℕ) (procedures : Procedures) → None ≡ option_map (λ l. l.accepted) (listed_by_number procedures number) → by_number (stored_procedures procedures) number ≡ None
none_under number procedures e = go (listed_by_number procedures number) e (stored_by_number number procedures)
  where
    go : (o : Option ListedProcedure) → None ≡ option_map (λ l. l.accepted) o → by_number (stored_procedures procedures) number ≡ option_map stored o → by_number (stored_procedures procedures) number ≡ None
    go None e f = f
    go (Some l) e f = absurd cc

none_mapped : {X Y : Type 0} (f : X → Y) (o : Option X) → option_map f o ≡ None → o ≡ None
none_mapped f None e = refl
none_mapped f (Some x) e = absurd cc

pub none_listed : (number : ℕ) (procedures : Procedures) → by_number (stored_procedures procedures) number ≡ None → listed_by_number procedures number ≡ None
none_listed number procedures none = none_mapped stored (listed_by_number procedures number) (sym (stored_by_number number procedures) ∙ none)

none_named : (name : List ℕ) (procedures : Procedures) → by_name (stored_procedures procedures) name ≡ None → find (λ l. bytes_eq l.name name) procedures ≡ None
none_named name [] none = refl
none_named name (l ∷ procedures) none = by (bytes_eq l.name name) none (none_named name procedures)
  where
    by : (b : Bool) → cond b (Some (stored l)) (by_name (stored_procedures procedures) name) ≡ None
        → (by_name (stored_procedures procedures) name ≡ None → find (λ (q : ListedProcedure). bytes_eq q.name name) procedures ≡ None)
        → cond b (Some l) (find (λ (q : ListedProcedure). bytes_eq q.name name) procedures) ≡ None
    by true h rest = absurd cc
    by false h rest = rest h

-- ---- one more

one_more : {X : Type 0} (P : X → Type 0) (xs : List X) (x : X) → AllByRecursion P xs → P x → AllByRecursion P (xs ++ x ∷ [])
one_more P [] x all one = (one, tt)
one_more P (y ∷ xs) x all one = (all.0, one_more P xs x all.1 one)

one_more_key : {K : Type 0} (P : K → Type 0) (key : ListedProcedure → K) (procedures : Procedures) (p : ListedProcedure)
    → AllByRecursion P (map key procedures) → P (key p) → AllByRecursion P (map key (procedures ++ p ∷ []))
one_more_key P key [] p all one = (one, tt)
one_more_key P key (q ∷ procedures) p all one = (all.0, one_more_key P key procedures p all.1 one)

-- the key of one more that isn't found differs from the others
one_more_distinct : {K : Type 0} (eq : K → K → Bool) (key : ListedProcedure → K) (procedures : Procedures) (p : ListedProcedure)
    → find (λ q. eq (key q) (key p)) procedures ≡ None
    → IsDistinct eq (map key procedures) → IsDistinct eq (map key (procedures ++ p ∷ []))
unfolding IsDistinct
one_more_distinct eq key [] p none distinct = (tt, tt)
one_more_distinct eq key (q ∷ procedures) p none distinct =
    let both = by (eq (key q) (key p)) (find (λ r. eq (key r) (key p)) procedures) none in (
      one_more_key (λ k. eq (key q) k ≡ false) key procedures p distinct.0 both.0,
      one_more_distinct eq key procedures p both.1 distinct.1,
    )
  where
    by : (b : Bool) (rest : Option ListedProcedure) → cond b (Some q) rest ≡ None → (b ≡ false) × (rest ≡ None)
    by true rest h = absurd cc
    by false rest h = (refl, h)

pub none_stored : AreStored []
unfolding IsDistinct
none_stored = record { accepted = tt; numbers = tt; names = tt; shapes = tt }

pub one_more_stored : (procedures : Procedures) (name : List ℕ) (number : ℕ) (accepted : Procedure)
    → AreStored procedures → WasAccepted accepted → is_name name ≡ true
    → by_name (stored_procedures procedures) name ≡ None → by_number (stored_procedures procedures) number ≡ None
    → AreStored (procedures ++ record { name = name; number = number; accepted = accepted } ∷ [])
one_more_stored procedures name number accepted known was shape unnamed unnumbered =
    let l : ListedProcedure = record { name = name; number = number; accepted = accepted } in record {
      accepted = one_more (λ q. WasAccepted q.accepted) procedures l known.accepted was;
      numbers = one_more_distinct nat_eq (λ q. q.number) procedures l (none_listed number procedures unnumbered) known.numbers;
      names = one_more_distinct bytes_eq (λ q. q.name) procedures l (none_named name procedures unnamed) known.names;
      shapes = one_more (λ q. is_name q.name ≡ true) procedures l known.shapes shape;
    }

-- ---- where numbers differ

-- one that stands behind others has a number that none of these has
pub fresh_behind : (before later : Procedures) (l : ListedProcedure) → IsDistinct nat_eq (map (λ q. q.number) (before ++ l ∷ later)) → listed_by_number before l.number ≡ None
unfolding IsDistinct
fresh_behind [] later l distinct = refl
fresh_behind (q ∷ before) later l distinct =
    ap (λ b. cond b (Some q) (listed_by_number before l.number)) (differs before distinct.0) ∙ fresh_behind before later l distinct.1
  where
    differs : (xs : Procedures) → AllByRecursion (λ k. nat_eq q.number k ≡ false) (map (λ r. r.number) (xs ++ l ∷ later)) → nat_eq q.number l.number ≡ false
    differs [] all = all.0
    differs (x ∷ xs) all = differs xs all.1

-- what holds of each procedure holds of one that is found
pub found_among : (P : StoredProcedure → Type 0) (test : StoredProcedure → Bool) (procedures : Catalogue) (p : StoredProcedure)
    → AllByRecursion P procedures → find test procedures ≡ Some p → P p
found_among P test [] p all found = absurd cc
found_among P test (q ∷ procedures) p all found = by (test q) found (found_among P test procedures p all.1)
  where
    by : (b : Bool) → cond b (Some q) (find test procedures) ≡ Some p → (find test procedures ≡ Some p → P p) → P p
    by true h rest = let same : q ≡ p = cc in subst P same all.0
    by false h rest = rest h

of_each_number : (P : ℕ → Type 0) (procedures : Procedures) → AllByRecursion P (map (λ l. l.number) procedures)
    → AllByRecursion (λ (p : StoredProcedure). P p.number) (stored_procedures procedures)
of_each_number P [] all = tt
of_each_number P (q ∷ procedures) all = (all.0, of_each_number P procedures all.1)

-- the procedure of a name is the one of its number
by_own_number : (name : List ℕ) (procedures : Procedures) (p : StoredProcedure)
    → IsDistinct nat_eq (map (λ q. q.number) procedures) → by_name (stored_procedures procedures) name ≡ Some p → by_number (stored_procedures procedures) p.number ≡ Some p
unfolding IsDistinct
by_own_number name [] p distinct found = absurd cc
by_own_number name (q ∷ procedures) p distinct found =
    by (bytes_eq q.name name) found
    (found_among (λ r. nat_eq q.number r.number ≡ false) (λ r. bytes_eq r.name name) (stored_procedures procedures) p
    (of_each_number (λ n. nat_eq q.number n ≡ false) procedures distinct.0))
    (by_own_number name procedures p distinct.1)
  where
    of : Bool → Option StoredProcedure
    of b = cond b (Some (stored q)) (by_number (stored_procedures procedures) p.number)

    by : (b : Bool) → cond b (Some (stored q)) (by_name (stored_procedures procedures) name) ≡ Some p
        → (by_name (stored_procedures procedures) name ≡ Some p → nat_eq q.number p.number ≡ false)
        → (by_name (stored_procedures procedures) name ≡ Some p → by_number (stored_procedures procedures) p.number ≡ Some p)
        → cond (nat_eq q.number p.number) (Some (stored q)) (by_number (stored_procedures procedures) p.number) ≡ Some p
    by true h differs rest =
        let same : stored q ≡ p = cc in
        ap of (ap (λ (r : StoredProcedure). nat_eq r.number p.number) same ∙ nat_eq_equiv.refl p.number) ∙ h
    by false h differs rest = ap of (differs h) ∙ rest h

pub found_is_numbered : (procedures : Procedures) (name : List ℕ) (p : StoredProcedure) → AreStored procedures
    → by_name (stored_procedures procedures) name ≡ Some p → by_number (stored_procedures procedures) p.number ≡ Some p
found_is_numbered procedures name p known found = by_own_number name procedures p known.numbers found

-- ---- the verdict on an addition

some_mapped : {X Y : Type 0} (f : X → Y) (o : Option X) → is_some o ≡ is_some (option_map f o)
some_mapped f None = refl
some_mapped f (Some x) = refl

-- whether a name is there, by the number that is found
pub is_named : (name : List ℕ) (procedures : Procedures) (found : Option ℕ) (b told : Bool) → found ≡ option_map (λ p. p.number) (by_name (stored_procedures procedures) name)
    → told ≡ is_some found → told ≡ b → is_some (by_name (stored_procedures procedures) name) ≡ b
is_named name procedures found b told e f g = some_mapped (λ p. p.number) (by_name (stored_procedures procedures) name) ∙ ap is_some (sym e) ∙ sym f ∙ g

-- whether a number is there, by the program that is found
pub is_numbered : (number : ℕ) (procedures : Procedures) (found : Option Procedure) (b told : Bool) → found ≡ option_map (λ l. l.accepted) (listed_by_number procedures number)
    → told ≡ is_some found → told ≡ b → is_some (by_number (stored_procedures procedures) number) ≡ b
is_numbered number procedures found b told e f g =
    ap is_some (stored_by_number number procedures) ∙ sym (some_mapped stored (listed_by_number procedures number))
    ∙ some_mapped (λ l. l.accepted) (listed_by_number procedures number) ∙ ap is_some (sym e) ∙ sym f ∙ g

abbrev pub by_both : Bool → Bool → Verdict
by_both named numbered = cond named (Taken Name) (cond numbered (Taken Number) Commit)

pub verdict_is : (procedures : Catalogue) (p : StoredProcedure) (named numbered : Bool) → is_some (by_name procedures p.name) ≡ named → is_some (by_number procedures p.number) ≡ numbered
    → by_both named numbered ≡ verdict_on_addition procedures p
verdict_is procedures p named numbered e f = sym (ap (λ b. by_both b (is_some (by_number procedures p.number))) e ∙ ap (by_both named) f)
