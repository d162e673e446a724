-- The lines of a log, by what replicas keep.
use Rattle.catalogue.specs.Catalogue.{beginning_of}
use Rattle.std.proofs.Common.{◌≡◌, ℕ, suc, ◌+◌, ◌<◌, ◌≤◌, Bool, true, false, cond, ◌||◌, find, nat_lt, List, [], ◌∷◌, length, map, take, drop, slice_get, arith, Option, Some, None, refl, sym, ap, subst, ◌∙◌}
use Rattle.std.proofs.lemmas.Bool.Decides.{nat_tests}
use Rattle.std.specs.List.{list_any}
use Rattle.std.specs.Prelude.{option_map}
use Rattle.log_model.specs.declared.verdict.Verdict.{Verdict}
use Rattle.log_model.specs.Log.{Item, verdict_of}
use Rattle.log_model.specs.Entries.{Entry, item_of, items_of}
use Rattle.dsm_model.specs.World.{Replica as Progress}
use Rattle.replica.specs.Replica.{Replica, AreEntriesOf, certification_of}
use Rattle.dsm_world.specs.System.{SystemWorld, setting_of, world_of, progress_of, KeepsDelivered}
use Rattle.dsm_world.proofs.Numbered.{get_map}
use Rattle.report.specs.declared.printed.Line.TheVariants as line
use Rattle.report.specs.Lines.{line_text}
use Rattle.script_replay.specs.Printed.{entry_of, logged_entry, compared_count, is_delivered, certified_line, logged_text}
use Rattle.script_replay.proofs.PrintedLemmas.{drop_next, is_entry, carries, VerdictsGrow, HasLogVerdict, VerdictsSuffice, verdict_there, compared_there}

-- ---- whether some replica has come further

abbrev pub further : ℕ → Replica → Bool
further before r = nat_lt before r.position

abbrev some_further : ℕ → List Replica → Bool
some_further before replicas = list_any (λ (p : Progress). nat_lt before p.position) (map progress_of replicas)

-- the first that has, of those from a place on
found_next : (before : ℕ) (replicas : List Replica) (k : ℕ) (r : Replica) → slice_get replicas k ≡ Some r
    → find (further before) (drop k replicas) ≡ cond (nat_lt before r.position) (Some r) (find (further before) (drop (k + 1) replicas))
found_next before replicas k r at =
    let next : suc k ≡ k + 1 = omega arith in
    ap (λ (rs : List Replica). find (further before) rs) (drop_next replicas k r at)
    ∙ ap (λ (n : ℕ). cond (nat_lt before r.position) (Some r) (find (further before) (drop n replicas))) next

pub is_further : (m n : ℕ) → m < n → nat_lt m n ≡ true
is_further m n lt = grind (arith, nat_tests)

pub is_not_further : (m n : ℕ) → n ≤ m → nat_lt m n ≡ false
is_not_further m n le = grind (arith, nat_tests)

-- the first of those from a place on is the replica there, where that has come further
pub found_here : (before : ℕ) (replicas : List Replica) (k : ℕ) (r : Replica) → slice_get replicas k ≡ Some r → before < r.position → find (further before) (drop k replicas) ≡ Some r
found_here before replicas k r at lt =
    found_next before replicas k r at ∙ ap (λ (b : Bool). cond b (Some r) (find (further before) (drop (k + 1) replicas))) (is_further before r.position lt)

-- otherwise the first of those behind it
pub found_behind : (before : ℕ) (replicas : List Replica) (k : ℕ) (r : Replica) → slice_get replicas k ≡ Some r → r.position ≤ before → find (further before) (drop k replicas) ≡ find (further before) (drop (k + 1) replicas)
found_behind before replicas k r at le =
    found_next before replicas k r at ∙ ap (λ (b : Bool). cond b (Some r) (find (further before) (drop (k + 1) replicas))) (is_not_further before r.position le)

-- it is one of them, it has, and so some has
pub record IsFurther (before : ℕ) (replicas : List Replica) (r : Replica) : Type 0 where
  pub place : ℕ
  pub stands : slice_get replicas place ≡ Some r
  pub has : nat_lt before r.position ≡ true
  pub some : list_any (λ (p : Progress). nat_lt before p.position) (map progress_of replicas) ≡ true

-- the first of them has, or one of the others
found_case : (before : ℕ) (x : Replica) (xs : List Replica) (r : Replica) → (find (further before) xs ≡ Some r → IsFurther before xs r) → (b : Bool) → nat_lt before x.position ≡ b → cond b (Some x) (find (further before) xs) ≡ Some r → IsFurther before (x ∷ xs) r
found_case before x xs r later true is e =
    let same : x ≡ r = cc in
    record { place = 0; stands = e; has = subst (λ (q : Replica). nat_lt before q.position ≡ true) same is; some = ap (λ (b : Bool). b || some_further before xs) is }
found_case before x xs r later false is e =
    let rest = later e in
    record { place = suc rest.place; stands = rest.stands; has = rest.has; some = ap (λ (b : Bool). b || some_further before xs) is ∙ rest.some }

pub found : (before : ℕ) (replicas : List Replica) (r : Replica) → find (further before) replicas ≡ Some r → IsFurther before replicas r
found before [] r e = absurd cc
found before (x ∷ xs) r e = found_case before x xs r (found before xs r) (nat_lt before x.position) refl e

none_case : (before : ℕ) (x : Replica) (xs : List Replica) → (find (further before) xs ≡ None → some_further before xs ≡ false) → (b : Bool) → nat_lt before x.position ≡ b → cond b (Some x) (find (further before) xs) ≡ None
    → some_further before (x ∷ xs) ≡ false
none_case before x xs later true is e = absurd cc
none_case before x xs later false is e = ap (λ (b : Bool). b || some_further before xs) is ∙ later e

pub none_found : (before : ℕ) (replicas : List Replica) → find (further before) replicas ≡ None → list_any (λ (p : Progress). nat_lt before p.position) (map progress_of replicas) ≡ false
none_found before [] e = refl
none_found before (x ∷ xs) e = none_case before x xs (none_found before xs) (nat_lt before x.position) refl e

-- ---- the line of an entry

same_some : {X : Type 0} (x y : X) → Some x ≡ Some y → x ≡ y
same_some x y e = cc

item_is : (entries : List Entry) (before : ℕ) (e : Entry) (item : Item) → slice_get entries before ≡ Some e → slice_get (items_of entries) before ≡ Some item → item_of e ≡ item
item_is entries before e item at there = same_some (item_of e) item (sym (get_map item_of entries before ∙ ap (λ (o : Option Entry). option_map item_of o) at) ∙ there)

-- where no replica has delivered it
pub open_line : (s : SystemWorld) (before : ℕ) (e : Entry) (item : Item) → AreEntriesOf (setting_of s) s.entries → slice_get s.entries before ≡ Some e → slice_get (items_of s.entries) before ≡ Some item
    → is_delivered (world_of s) before ≡ false → line_text (line.Open (logged_entry (before + 1) e)) ≡ logged_text (setting_of s) (world_of s) before item
open_line s before e item are at there none =
    let w = setting_of s in
    let log = items_of s.entries in
    let shipped = is_entry w log e (carries w s.entries before e are at) in
    subst (λ (i : Item). line_text (line.Open (logged_entry (before + 1) e)) ≡ logged_text w (world_of s) before i) (item_is s.entries before e item at there)
    (ap (λ (x : Entry). line_text (line.Open (logged_entry (before + 1) x))) shipped
    ∙ ap (λ (b : Bool). line_text (certified_line (logged_entry (before + 1) (entry_of w log (item_of e))) (compared_count w log before (item_of e)) (cond b (verdict_of w log (before + 1)) None))) (sym none))

-- where one has
pub delivered_line : (s : SystemWorld) (r : Replica) (before : ℕ) (e : Entry) (item : Item) (keeps : KeepsDelivered s r) → r.position ≤ length s.entries → before < r.position → slice_get s.entries before ≡ Some e → slice_get (items_of s.entries) before ≡ Some item
    → is_delivered (world_of s) before ≡ true → VerdictsGrow → HasLogVerdict r (before + 1) (certification_of r.window (beginning_of s.catalogue) (take r.position s.entries) before e).verdict → VerdictsSuffice
    → line_text (line.Certified (logged_entry (before + 1) e) (certification_of r.window (beginning_of s.catalogue) (take r.position s.entries) before e).compared (certification_of r.window (beginning_of s.catalogue) (take r.position s.entries) before e).verdict)
    ≡ logged_text (setting_of s) (world_of s) before item
delivered_line s r before e item keeps within delivered at there some grow follow suffice =
    let w = setting_of s in
    let log = items_of s.entries in
    let certification = certification_of r.window (beginning_of s.catalogue) (take r.position s.entries) before e in
    let shipped = is_entry w log e (carries w s.entries before e keeps.entries at) in
    let entry = logged_entry (before + 1) (entry_of w log (item_of e)) in
    subst (λ (i : Item). line_text (line.Certified (logged_entry (before + 1) e) certification.compared certification.verdict) ≡ logged_text w (world_of s) before i) (item_is s.entries before e item at there)
    (ap (λ (x : Entry). line_text (line.Certified (logged_entry (before + 1) x) certification.compared certification.verdict)) shipped
    ∙ ap (λ (n : ℕ). line_text (certified_line entry n (Some certification.verdict))) (sym (compared_there suffice s r before e keeps within delivered at))
    ∙ ap (λ (o : Option Verdict). line_text (certified_line entry (compared_count w log before (item_of e)) o)) (sym (verdict_there s r before e keeps within delivered at grow follow))
    ∙ ap (λ (b : Bool). line_text (certified_line entry (compared_count w log before (item_of e)) (cond b (verdict_of w log (before + 1)) None))) (sym some))
