-- Entries that come to the same behind others.
use Rattle.std.proofs.Common.{◌≡◌, ℕ, zero, suc, ◌+◌, ◌-◌, ◌≤◌, ◌<◌, nat_le, is_some, cond, List, [], ◌∷◌, ◌++◌, length, take, drop, slice_get, Some, refl, sym, ap, subst, ◌∙◌, arith, inl, inr}
use Rattle.std.proofs.lemmas.Bool.{cases_lt}
use Rattle.std.proofs.lemmas.List.{length-append}
use Rattle.std.proofs.lemmas.List.Sums.{fold-append}
use Rattle.schema.specs.declared.look.Look.{Look}
use Rattle.schema.specs.Rows.{Rows}
use Rattle.log_model.specs.InstalledWrites.{map_after}
use Rattle.log_model.specs.Log.{Beginning, Setting, Call, CertifiedItem, DoneRequest, verdict_after, done_at, first_position, conflicts, unless_repeated, unless_conflict}
use Rattle.log_model.specs.declared.verdict.Verdict.TheVariants.{Stale}
use Rattle.certify.specs.Comparisons.{comparisons_after, comparisons_from}
use Rattle.log_model.specs.Entries.{Entry, CallEntry, AdditionEntry, CertifiedEntries, none_certified, certified_entry, with_entry, certified_entries_of, installed_from}
use Rattle.certify.specs.declared.certification.Certification.{Certification}
use Rattle.certify.specs.Kept.{IsMemoryOf}
use Rattle.replica.specs.Replica.{Replica, StandsFor, StandsIn, certification_next, certification_of, AreCertificationsOf}
use Rattle.replica.proofs.EntryLemmas.{take_first}
use Rattle.rows_mv.specs.Versions.{AnswersFrom}
use Rattle.site.specs.Taking.{AreAlike}

verdict_alike : (window : ℕ) (done : List DoneRequest) (past : List CertifiedItem) (c d : Call) (k l : List Look) → c.request ≡ d.request → c.snapshot ≡ d.snapshot → k ≡ l → verdict_after window done past c k ≡ verdict_after window done past d l
unfolding verdict_after
verdict_alike window done past c d k l request snapshot looks =
    (λ i. unless_repeated (done_at done past (request i))
    (cond (nat_le (length past - snapshot i) window) (unless_conflict (first_position (conflicts (looks i)) (snapshot i + 1) (drop (snapshot i) past))) Stale))

compared_alike : (window : ℕ) (done : List DoneRequest) (past : List CertifiedItem) (c d : Call) (k l : List Look) → c.request ≡ d.request → c.snapshot ≡ d.snapshot → k ≡ l → comparisons_after window done past c k ≡ comparisons_after window done past d l
unfolding comparisons_after
compared_alike window done past c d k l request snapshot looks =
    (λ i. cond (is_some (done_at done past (request i))) []
    (cond (nat_le (length past - snapshot i) window) (comparisons_from (looks i) (snapshot i + 1) (drop (snapshot i) past)) []))

pub certified_alike : (window : ℕ) (past : CertifiedEntries) (e d : Entry) → AreAlike e d → certified_entry window past e ≡ certified_entry window past d
certified_alike window past (CallEntry e) (CallEntry d) (request, snapshot, looks, writes, reply) =
    (λ i. record { request = request i; writes = writes i; verdict = verdict_alike window past.done past.certified e.call d.call e.looks d.looks request snapshot looks i })
certified_alike window past (AdditionEntry p) (AdditionEntry q) same = ap (λ x. certified_entry window past (AdditionEntry x)) same
certified_alike window past (CallEntry e) (AdditionEntry q) never = absurd never
certified_alike window past (AdditionEntry p) (CallEntry d) never = absurd never

with_alike : (window : ℕ) (past : CertifiedEntries) (e d : Entry) → AreAlike e d → with_entry window past e ≡ with_entry window past d
with_alike window past (CallEntry e) (CallEntry d) alike =
    ap (λ (c : CertifiedItem). record { done = past.done; certified = past.certified ++ c ∷ []; procedures = past.procedures }) (certified_alike window past (CallEntry e) (CallEntry d) alike)
with_alike window past (AdditionEntry p) (AdditionEntry q) same = ap (λ x. with_entry window past (AdditionEntry x)) same
with_alike window past (CallEntry e) (AdditionEntry q) never = absurd never
with_alike window past (AdditionEntry p) (CallEntry d) never = absurd never

next_alike : (window : ℕ) (past : CertifiedEntries) (e d : Entry) → AreAlike e d → certification_next window past e ≡ certification_next window past d
next_alike window past (CallEntry e) (CallEntry d) (request, snapshot, looks, writes, reply) =
    (λ i. record {
      verdict = verdict_alike window past.done past.certified e.call d.call e.looks d.looks request snapshot looks i;
      compared = length (compared_alike window past.done past.certified e.call d.call e.looks d.looks request snapshot looks i);
    })
next_alike window past (AdditionEntry p) (AdditionEntry q) same = ap (λ x. certification_next window past (AdditionEntry x)) same
next_alike window past (CallEntry e) (AdditionEntry q) never = absurd never
next_alike window past (AdditionEntry p) (CallEntry d) never = absurd never

certified_snoc : (window : ℕ) (base : Beginning) (xs : List Entry) (e : Entry) → certified_entries_of window base (xs ++ e ∷ []) ≡ with_entry window (certified_entries_of window base xs) e
unfolding certified_entries_of
certified_snoc window base xs e = fold-append (with_entry window) (none_certified base) xs (e ∷ [])

whole_alike : (window : ℕ) (base : Beginning) (xs : List Entry) (e d : Entry) → AreAlike e d → certified_entries_of window base (xs ++ d ∷ []) ≡ certified_entries_of window base (xs ++ e ∷ [])
whole_alike window base xs e d alike = certified_snoc window base xs d ∙ sym (certified_snoc window base xs e ∙ with_alike window (certified_entries_of window base xs) e d alike)

-- ---- one of some and one more

get_first : {X : Type 0} (xs ys : List X) (k : ℕ) → k < length xs → slice_get (xs ++ ys) k ≡ slice_get xs k
get_first [] ys k lt = absurd (omega arith)
get_first (x ∷ xs) ys zero lt = refl
get_first (x ∷ xs) ys (suc k) lt = get_first xs ys k (omega arith)

get_last : {X : Type 0} (xs : List X) (x y : X) (k : ℕ) → length xs ≤ k → slice_get (xs ++ x ∷ []) k ≡ Some y → (k ≡ length xs) × (x ≡ y)
get_last [] x y zero le e = (refl, one x y e)
  where
    one : {X : Type 0} (a b : X) → Some a ≡ Some b → a ≡ b
    one a b e = cc
get_last [] x y (suc k) le e = absurd cc
get_last (z ∷ xs) x y zero le e = absurd (omega arith)
get_last (z ∷ xs) x y (suc k) le e = let rest = get_last xs x y k (omega arith) e in (ap suc rest.0, rest.1)

get_there : {X : Type 0} (xs : List X) (x : X) → slice_get (xs ++ x ∷ []) (length xs) ≡ Some x
get_there [] x = refl
get_there (y ∷ xs) x = get_there xs x

-- what became of each is the same
certifications_alike : (window : ℕ) (base : Beginning) (xs : List Entry) (e d : Entry) (cs : List Certification) → AreAlike e d → AreCertificationsOf window base (xs ++ d ∷ []) cs → AreCertificationsOf window base (xs ++ e ∷ []) cs
certifications_alike window base xs e d cs alike are = record {
  count = are.count ∙ length-append xs (d ∷ []) ∙ sym (length-append xs (e ∷ []));
  each = λ before x at. elim (cases_lt before (length xs)) [
    | inl lt ↦
        are.each before x (get_first xs (d ∷ []) before lt ∙ sym (get_first xs (e ∷ []) before lt) ∙ at)
        ∙ ap (λ (past : List Entry). Some (certification_next window (certified_entries_of window base past) x)) (take_first xs (d ∷ []) before (omega arith) ∙ sym (take_first xs (e ∷ []) before (omega arith)))
    | inr ge ↦
        let last = get_last xs e x before ge at in
        are.each before d (ap (slice_get (xs ++ d ∷ [])) last.0 ∙ get_there xs d)
        ∙ ap (λ (past : List Entry). Some (certification_next window (certified_entries_of window base past) d)) (take_first xs (d ∷ []) before (omega (arith, last.0)) ∙ sym (take_first xs (e ∷ []) before (omega (arith, last.0))))
        ∙ ap Some (sym (next_alike window (certified_entries_of window base (take before (xs ++ e ∷ []))) e d alike))
        ∙ ap (λ (y : Entry). Some (certification_of window base (xs ++ e ∷ []) before y)) last.1
  ];
}

stands_alike : (base : Beginning) (r : Replica) (xs : List Entry) (e d : Entry) → AreAlike e d → StandsFor base r (xs ++ d ∷ []) → StandsFor base r (xs ++ e ∷ [])
stands_alike base r xs e d alike stands =
    let same = whole_alike r.window base xs e d alike in
    record {
      position = stands.position ∙ length-append xs (d ∷ []) ∙ sym (length-append xs (e ∷ []));
      window = stands.window;
      memory = subst (λ (c : CertifiedEntries). IsMemoryOf r.memory base.requests c.certified) same stands.memory;
      horizon = stands.horizon;
      rows = λ s near. subst (λ (rows : Rows). AnswersFrom r.versions.tables s rows) (ap (λ (c : CertifiedEntries). map_after base.rows (installed_from 1 c.certified) s) same) (stands.rows s near);
      certifications = certifications_alike r.window base xs e d r.certifications alike stands.certifications;
      procedures = stands.procedures ∙ ap (λ (c : CertifiedEntries). c.procedures) same;
    }

pub stands_in_alike : (w : Setting) (r : Replica) (xs : List Entry) (e d : Entry) → AreAlike e d → StandsIn w r (xs ++ d ∷ []) → StandsIn w r (xs ++ e ∷ [])
stands_in_alike w r xs e d alike is = record { delivered = stands_alike w.beginning r xs e d alike is.delivered; window = is.window; tables = is.tables; procedures = is.procedures }
