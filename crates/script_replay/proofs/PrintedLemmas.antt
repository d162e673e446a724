-- What a world keeps, in words of its log.
use Rattle.catalogue.specs.Catalogue.{beginning_of}
use Rattle.std.proofs.Common.{◌≡◌, ℕ, false, cond, nat_eq, zero, suc, ◌+◌, ◌<◌, ◌≤◌, List, [], ◌∷◌, ◌++◌, codes, length, take, drop, slice_get, option_map, Option, Some, None, Result, Ok, Err, refl, sym, ap, subst, ◌∙◌, arith, append_assoc}
use Rattle.std.proofs.lemmas.List.{append-nil}
use Rattle.schema.specs.declared.look.Look.{Look}
use Rattle.schema.specs.Rows.{Writes}
use Rattle.std.proofs.lemmas.Bool.Decides.{nat_tests}
use Rattle.log_model.specs.declared.verdict.Verdict.{Verdict}
use Rattle.log_model.specs.declared.verdict.Verdict.TheVariants.{Repeated}
use Rattle.log_model.specs.Log.{Beginning, StoredProcedure, Setting, Catalogue, Item, Log, CertifiedItem, IsLog, reply_done, run_in, verdict_of, history}
use Rattle.certify.specs.Comparisons.{comparisons_after}
use Rattle.log_model.specs.Entries.{ExecutedCall, Entry, CallEntry, AdditionEntry, item_of, items_of, IsCarried, CarryRuns, CertifiedEntries, certified_entry, certified_entries_of}
use Rattle.dsm_model.specs.World.{numbered}
use Rattle.dsm_model.specs.Sound.{reply_of, request_of_item, told_by}
use Rattle.certify.specs.declared.certification.Certification.{Certification}
use Rattle.replica.specs.Replica.{Replica, AreEntriesOf, StandsFor, certification_of}
use Rattle.replica.proofs.KeepsLemmas.{certified_more, certified_count, done_stays}
use Rattle.dsm_world.specs.System.{SystemWorld, setting_of, world_of, KeepsDelivered}
use Rattle.dsm_world.proofs.Numbered.{numbered_map}
use Rattle.dsm_world.proofs.RowLemmas.{log_is}
use Rattle.replica.proofs.EntryLemmas.{take_all, take_first, take_drop, items_count, take_count, all_at, entries_taken}
use Rattle.byte_output.specs.declared.paged.PagedOutput.{PagedOutput}
use Rattle.byte_output.specs.Pending.{Passes}
use Rattle.byte_output.proofs.PendingLemmas.{Passes-then}
use Rattle.dsm_model.specs.World.{World}
use Rattle.report.specs.declared.printed.Line.TheVariants as line
use Rattle.hex.specs.Hex.{encode_lower}
use Rattle.log_entry.specs.Bytes.{entry_bytes}
use Rattle.report.specs.Lines.{bytes_label, bytes_words, line_text}
use Rattle.script_replay.specs.Printed.{entry_of, entry_text, compared_count, logged_text, items_text, log_text}
use Rattle.script_replay.specs.Acting.{PassesBeginning, Gives}
use Rattle.script_replay.proofs.GivenLemmas.{nothing_given, beginning_then, beginning_more}

-- ---- entries

same_executed : (e : ExecutedCall) (looks : List Look) (writes : Writes) (reply : ℕ) → e.looks ≡ looks → e.writes ≡ writes → e.reply ≡ reply → e ≡ record { call = e.call; looks = looks; writes = writes; reply = reply }
same_executed e looks writes reply l w r = rw (sym l) rw (sym w) rw (sym r) refl

pub is_entry : (w : Setting) (log : Log) (e : Entry) → IsCarried w log e → e ≡ entry_of w log (item_of e)
is_entry w log (CallEntry e) h = ap CallEntry (same_executed e (run_in w log e.call).looks (run_in w log e.call).writes (run_in w log e.call).reply h.looks h.writes h.reply)
is_entry w log (AdditionEntry p) h = refl

pub carries : (w : Setting) (entries : List Entry) (k : ℕ) (e : Entry) → AreEntriesOf w entries → slice_get entries k ≡ Some e → IsCarried w (items_of entries) e
carries w entries k e are at = all_at (IsCarried w (items_of entries)) entries k e are.runs at

pub carries_numbered : (w : Setting) (entries : List Entry) (n : ℕ) (e : Entry) → AreEntriesOf w entries → numbered entries n ≡ Some e → IsCarried w (items_of entries) e
carries_numbered w entries zero e are at = absurd cc
carries_numbered w entries (suc k) e are at = carries w entries k e are at

pub item_numbered : (entries : List Entry) (n : ℕ) (o : Option Entry) → numbered entries n ≡ o → numbered (items_of entries) n ≡ option_map item_of o
item_numbered entries n o at = numbered_map item_of entries n ∙ ap (λ (x : Option Entry). option_map item_of x) at

-- the reply of the call at a position, by its entry
pub reply_there : (w : Setting) (entries : List Entry) (n : ℕ) (e : ExecutedCall) → AreEntriesOf w entries → numbered entries n ≡ Some (CallEntry e)
    → Some e.reply ≡ reply_of w (items_of entries) (numbered (items_of entries) n)
reply_there w entries n e are at =
    ap (λ (x : ℕ). Some x) (carries_numbered w entries n (CallEntry e) are at).reply
    ∙ sym (ap (reply_of w (items_of entries)) (item_numbered entries n (Some (CallEntry e)) at))

pub no_reply_there : (w : Setting) (entries : List Entry) (n : ℕ) (p : StoredProcedure) → numbered entries n ≡ Some (AdditionEntry p)
    → None ≡ reply_of w (items_of entries) (numbered (items_of entries) n)
no_reply_there w entries n p at = sym (ap (reply_of w (items_of entries)) (item_numbered entries n (Some (AdditionEntry p)) at))

pub no_reply : (w : Setting) (entries : List Entry) (n : ℕ) → numbered entries n ≡ None → None ≡ reply_of w (items_of entries) (numbered (items_of entries) n)
no_reply w entries n at = sym (ap (reply_of w (items_of entries)) (item_numbered entries n None at))

-- the reply to a request that was done before
pub told_before : (s : SystemWorld) (log : Log) (position earlier : ℕ) → earlier ≡ 0 → reply_done (setting_of s).beginning.requests (request_of_item (numbered log position)) ≡ told_by (setting_of s) log position (Some (Repeated earlier))
told_before s log position earlier is = ap (λ (n : ℕ). told_by (setting_of s) log position (Some (Repeated n))) (sym is)

-- the request of the item at a position, by its entry
pub request_there : (entries : List Entry) (n : ℕ) (e : ExecutedCall) → numbered entries n ≡ Some (CallEntry e) → request_of_item (numbered (items_of entries) n) ≡ e.call.request
request_there entries n e at = ap request_of_item (item_numbered entries n (Some (CallEntry e)) at)

pub no_request_there : (entries : List Entry) (n : ℕ) (p : StoredProcedure) → numbered entries n ≡ Some (AdditionEntry p) → request_of_item (numbered (items_of entries) n) ≡ None
no_request_there entries n p at = ap request_of_item (item_numbered entries n (Some (AdditionEntry p)) at)

pub no_request : (entries : List Entry) (n : ℕ) → numbered entries n ≡ None → request_of_item (numbered (items_of entries) n) ≡ None
no_request entries n at = ap request_of_item (item_numbered entries n None at)

-- an earlier call's reply, above 0
pub told_again : (s : SystemWorld) (log : Log) (position earlier : ℕ) → (earlier ≡ 0 → ⊥) → reply_of (setting_of s) log (numbered log earlier) ≡ told_by (setting_of s) log position (Some (Repeated earlier))
told_again s log position zero later = absurd (later refl)
told_again s log position (suc n) later = sym (ap (λ b. cond b (reply_done (setting_of s).beginning.requests (request_of_item (numbered log position))) (reply_of (setting_of s) log (numbered log (suc n)))) (above n))
  where
    above : (n : ℕ) → nat_eq (suc n) 0 ≡ false
    above n = grind (arith, nat_tests)

-- ---- the verdict, and what it compared

abbrev certified_of : ℕ → Beginning → List Entry → List CertifiedItem
certified_of window base entries = (certified_entries_of window base entries).certified

certified_first : (window : ℕ) (base : Beginning) (xs ys : List Entry) → (more : List CertifiedItem) × (certified_of window base (xs ++ ys) ≡ certified_of window base xs ++ more)
certified_first window base xs [] = ([], ap (certified_of window base) (append-nil xs) ∙ sym (append-nil (certified_of window base xs)))
certified_first window base xs (y ∷ ys) =
    let rest = certified_first window base (xs ++ y ∷ []) ys in
    let c = certified_entry window (certified_entries_of window base xs) y in (
      c ∷ rest.0,
      ap (certified_of window base) (sym (append_assoc xs (y ∷ []) ys)) ∙ rest.1
          ∙ ap (λ (past : CertifiedEntries). past.certified ++ rest.0) (certified_more window base xs y) ∙ append_assoc (certified_of window base xs) (c ∷ []) rest.0,
    )

-- the first so many entries come to what they come to alone
certified_taken : (window : ℕ) (base : Beginning) (entries : List Entry) (n : ℕ) → n ≤ length entries → certified_of window base (take n entries) ≡ take n (certified_of window base entries)
certified_taken window base entries n le =
    let first = certified_first window base (take n entries) (drop n entries) in
    let count = certified_count window base (take n entries) ∙ take_count entries n le in
    let split = ap (certified_of window base) (sym (take_drop entries n)) ∙ first.1 in
    sym (ap (take n) split ∙ take_first (certified_of window base (take n entries)) first.0 n (omega arith) ∙ take_all (certified_of window base (take n entries)) n (omega arith))

-- what the law of entries says of verdicts
abbrev pub VerdictsSuffice : Type 0
VerdictsSuffice = (w : Setting) (entries : List Entry) → IsLog (items_of entries) → CarryRuns w entries → (certified_entries_of w.window w.beginning entries).certified ≡ (history w (items_of entries)).certified

-- what a replica says of the verdict at a position
abbrev pub HasLogVerdict : Replica → ℕ → Verdict → Type 0
HasLogVerdict r position v = (w : Setting) (entries : List Entry) → w.window ≡ r.window → StandsFor w.beginning r entries → AreEntriesOf w entries → verdict_of w (items_of entries) position ≡ Some v

-- what the law of growing logs says
abbrev pub VerdictsGrow : Type 0
VerdictsGrow = (w : Setting) (log more : Log) (d : ℕ) → d < length log → verdict_of w (log ++ more) (suc d) ≡ verdict_of w log (suc d)

get_taken : {X : Type 0} (xs : List X) (n k : ℕ) → k < n → slice_get (take n xs) k ≡ slice_get xs k
get_taken xs zero k lt = absurd (omega arith)
get_taken [] (suc n) k lt = refl
get_taken (x ∷ xs) (suc n) zero lt = refl
get_taken (x ∷ xs) (suc n) (suc k) lt = get_taken xs n k (omega arith)

taken_twice : {X : Type 0} (xs : List X) (n k : ℕ) → k ≤ n → take k (take n xs) ≡ take k xs
taken_twice xs n zero le = refl
taken_twice xs zero (suc k) le = absurd (omega arith)
taken_twice [] (suc n) (suc k) le = refl
taken_twice (x ∷ xs) (suc n) (suc k) le = ap (λ ys. x ∷ ys) (taken_twice xs n k (omega arith))

module _ (s : SystemWorld) (r : Replica) (before : ℕ) (e : Entry) (keeps : KeepsDelivered s r) (within : r.position ≤ length s.entries) (delivered : before < r.position) (at : slice_get s.entries before ≡ Some e) where
  abbrev pub certification_there : Certification
  certification_there = certification_of r.window (beginning_of s.catalogue) (take r.position s.entries) before e

  pub stands_there : slice_get (take r.position s.entries) before ≡ Some e
  stands_there = get_taken s.entries r.position before delivered ∙ at

  pub verdict_there : VerdictsGrow → HasLogVerdict r (before + 1) certification_there.verdict → verdict_of (setting_of s) (items_of s.entries) (before + 1) ≡ Some certification_there.verdict
  verdict_there grow follow =
      let w = setting_of s in
      let past = take r.position s.entries in
      let count = take_count s.entries r.position within in
      let calls = items_count past in
      let next : before + 1 ≡ suc before = omega arith in
      let here = follow w past (sym keeps.window) keeps.delivered (entries_taken w s.entries r.position keeps.entries) in
      ap (λ (l : Log). verdict_of w l (before + 1)) (log_is s r.position)
      ∙ ap (verdict_of w (items_of past ++ items_of (drop r.position s.entries))) next
      ∙ grow w (items_of past) (items_of (drop r.position s.entries)) before (omega arith)
      ∙ ap (verdict_of w (items_of past)) (sym next)
      ∙ here

-- what its replica certified before it is what the log says
past_is : VerdictsSuffice → (s : SystemWorld) (r : Replica) (before : ℕ) (keeps : KeepsDelivered s r) → before ≤ r.position → before ≤ length s.entries
    → certified_of r.window (beginning_of s.catalogue) (take before (take r.position s.entries)) ≡ take before (history (setting_of s) (items_of s.entries)).certified
past_is suffice s r before keeps reached there =
    let w = setting_of s in
    ap (λ (xs : List Entry). certified_of r.window (beginning_of s.catalogue) xs) (taken_twice s.entries r.position before reached)
    ∙ ap (λ (n : ℕ). certified_of n (beginning_of s.catalogue) (take before s.entries)) keeps.window
    ∙ certified_taken w.window (beginning_of s.catalogue) s.entries before there
    ∙ ap (take before) (suffice w s.entries keeps.entries.log keeps.entries.runs)

pub compared_there : VerdictsSuffice → (s : SystemWorld) (r : Replica) (before : ℕ) (e : Entry) (keeps : KeepsDelivered s r) → r.position ≤ length s.entries → before < r.position → slice_get s.entries before ≡ Some e
    → compared_count (setting_of s) (items_of s.entries) before (item_of e) ≡ (certification_of r.window (beginning_of s.catalogue) (take r.position s.entries) before e).compared
compared_there suffice s r before (CallEntry e) keeps within delivered at =
    let w = setting_of s in
    let runs = carries w s.entries before (CallEntry e) keeps.entries at in
    let past = past_is suffice s r before keeps (omega arith) (omega arith) in
    ap (λ (looks : List Look). length (comparisons_after w.window w.beginning.requests (take before (history w (items_of s.entries)).certified) e.call looks)) (sym runs.looks)
    ∙ ap (λ (cs : List CertifiedItem). length (comparisons_after w.window w.beginning.requests cs e.call e.looks)) (sym past)
    ∙ ap (λ (n : ℕ). length (comparisons_after n w.beginning.requests (certified_of r.window (beginning_of s.catalogue) (take before (take r.position s.entries))) e.call e.looks)) (sym keeps.window)
    ∙ ap (λ done. length (comparisons_after r.window done (certified_of r.window (beginning_of s.catalogue) (take before (take r.position s.entries))) e.call e.looks))
    (sym (done_stays r.window (beginning_of s.catalogue) (take before (take r.position s.entries))))
compared_there suffice s r before (AdditionEntry p) keeps within delivered at = refl

-- ---- lines of the log, as far as a loop has come

-- so many entries have their lines, and what was given stands in front of those of the others
pub record HaveLines {W : Type 0} (contents : W → Option (List ℕ)) (w : Setting) (world : World) (before : ℕ) (old new : PagedOutput W) : Type 0 where
  pub done : List ℕ
  pub given : Passes contents old new done
  pub all : items_text w world 0 world.log ≡ done ++ items_text w world before (drop before world.log)

pub no_lines : {W : Type 0} (contents : W → Option (List ℕ)) (w : Setting) (world : World) (old : PagedOutput W) → HaveLines contents w world 0 old old
no_lines contents w world old = record { done = []; given = nothing_given contents old; all = refl }

pub drop_next : {X : Type 0} (xs : List X) (k : ℕ) (x : X) → slice_get xs k ≡ Some x → drop k xs ≡ x ∷ drop (suc k) xs
drop_next [] k x e = absurd cc
drop_next (y ∷ xs) zero x e = cc
drop_next (y ∷ xs) (suc k) x e = drop_next xs k x e

drop_out : {X : Type 0} (xs : List X) (n : ℕ) → length xs ≤ n → drop n xs ≡ []
drop_out [] zero le = refl
drop_out [] (suc n) le = refl
drop_out (x ∷ xs) zero le = absurd (omega arith)
drop_out (x ∷ xs) (suc n) le = drop_out xs n (omega arith)

-- the lines from the next entry on
next_lines : (w : Setting) (world : World) (before : ℕ) (item : Item) → slice_get world.log before ≡ Some item
    → items_text w world before (drop before world.log) ≡ logged_text w world before item ++ items_text w world (before + 1) (drop (before + 1) world.log)
next_lines w world before item at =
    let next : before + 1 ≡ suc before = omega arith in
    ap (items_text w world before) (drop_next world.log before item at)
    ∙ ap (λ (n : ℕ). logged_text w world before item ++ items_text w world (before + 1) (drop n world.log)) (sym next)

pub one_more_line : {W : Type 0} (contents : W → Option (List ℕ)) (w : Setting) (world : World) (before : ℕ) (item : Item) (old mid new : PagedOutput W) → HaveLines contents w world before old mid → slice_get world.log before ≡ Some item
    → Passes contents mid new (logged_text w world before item) → HaveLines contents w world (before + 1) old new
one_more_line contents w world before item old mid new have at given = record {
  done = have.done ++ logged_text w world before item;
  given = Passes-then contents old mid new have.done (logged_text w world before item) have.given given;
  all = have.all ∙ ap (λ (t : List ℕ). have.done ++ t) (next_lines w world before item at) ∙ sym (append_assoc have.done (logged_text w world before item) (items_text w world (before + 1) (drop (before + 1) world.log)));
}

-- a line of which a beginning was given
pub line_breaks : {W : Type 0} (contents : W → Option (List ℕ)) (w : Setting) (world : World) (before : ℕ) (item : Item) (old mid new : PagedOutput W) → HaveLines contents w world before old mid → slice_get world.log before ≡ Some item
    → PassesBeginning contents mid new (logged_text w world before item) → PassesBeginning contents old new (log_text w world)
line_breaks contents w world before item old mid new have at begun =
    let rest = items_text w world (before + 1) (drop (before + 1) world.log) in
    let all = have.all ∙ ap (λ (t : List ℕ). have.done ++ t) (next_lines w world before item at) in
    beginning_more contents old new (items_text w world 0 world.log) _
    (subst (PassesBeginning contents old new) (sym all) (beginning_then contents old mid new have.done (logged_text w world before item ++ rest) have.given (beginning_more contents mid new (logged_text w world before item) rest begun)))

-- all have their lines
all_given : {W : Type 0} (contents : W → Option (List ℕ)) (w : Setting) (world : World) (before : ℕ) (old new : PagedOutput W) → HaveLines contents w world before old new → length world.log ≤ before → Passes contents old new (items_text w world 0 world.log)
all_given contents w world before old new have le =
    let none : items_text w world before (drop before world.log) ≡ [] = ap (items_text w world before) (drop_out world.log before le) in
    subst (Passes contents old new) (sym (have.all ∙ ap (λ (t : List ℕ). have.done ++ t) none ∙ append-nil have.done)) have.given

-- and then the last line was given
pub log_given : {W T E : Type 0} (contents : W → Option (List ℕ)) (w : Setting) (world : World) (before : ℕ) (old mid new : PagedOutput W) (result : Result T E) → HaveLines contents w world before old mid → length world.log ≤ before
    → Gives contents mid new result (line_text (line.Log (length world.log))) → Gives contents old new result (log_text w world)
log_given contents w world before old mid new (Ok x) have le given = Passes-then contents old mid new _ _ (all_given contents w world before old mid have le) given
log_given contents w world before old mid new (Err x) have le given = beginning_then contents old mid new _ _ (all_given contents w world before old mid have le) given

-- the line of an entry's bytes
pub entry_printed : (s : SystemWorld) (position : ℕ) (e : Entry) → AreEntriesOf (setting_of s) s.entries → numbered s.entries position ≡ Some e
    → bytes_label position ++ encode_lower (entry_bytes e) ++ codes "\n" ≡ entry_text (setting_of s) (world_of s).log position
entry_printed s position e entries at =
    let w = setting_of s in
    let log = (world_of s).log in
    let there : numbered log position ≡ Some (item_of e) = item_numbered s.entries position (Some e) at in
    let is : e ≡ entry_of w log (item_of e) = is_entry w log e (carries_numbered w s.entries position e entries at) in
    ap (λ (x : Entry). bytes_words position (Some (entry_bytes x)) ++ codes "\n") is
    ∙ ap (λ (o : Option Item). bytes_words position (option_map (λ item. entry_bytes (entry_of w log item)) o) ++ codes "\n") (sym there)
