-- What a site is behind one more entry.
use Rattle.std.proofs.Common.{◌≡◌, ℕ, suc, ◌+◌, List, [], ◌∷◌, ◌++◌, length, map, slice_get, Some, None, refl, sym, ap, subst, ◌∙◌, arith}
use Rattle.std.proofs.lemmas.List.{length-map, map-append}
use Rattle.schema.specs.Schema.{Tables}
use Rattle.schema.specs.Rows.{Writes, AreWrites}
use Rattle.rows_mv.specs.Versions.{Versions, HaveTables}
use Rattle.log_model.specs.declared.verdict.Verdict.{Verdict}
use Rattle.log_model.specs.declared.verdict.Verdict.TheVariants.{Commit, Conflict, Stale, Repeated, Taken}
use Rattle.log_model.specs.Log.{StoredProcedure, Catalogue, Setting, Call, CallItem, AdditionItem, Log, IsLog, IsPlaced, by_name, by_number, if_commits, procedures_after, verdict_of}
use Rattle.log_model.specs.Fit.{FitsLog}
use Rattle.log_model.specs.Entries.{Entry, CallEntry, AdditionEntry, certified_entry, certified_entries_of, item_of, items_of, IsCarried}
use Rattle.log_entry.specs.declared.entry.Entry.{Entry as LogEntry}
use Rattle.log_entry.specs.Kind.{entry_of}
use Rattle.replica.specs.Replica.{Replica, FitTables, HasDelivered, HasSameTables, IsForTables, StandsIn, writes_in}
use Rattle.site_model.specs.Fit.{AreFitEntries}
use Rattle.site.specs.Replica.{SiteReplica, KnowsSince, StandsForLog, reply_of, setting_of}
use Rattle.site.specs.Taking.{AreAlike, Follows, additions_after}
use Rattle.site.proofs.AlikeLemmas.{certified_alike, stands_in_alike}
use Rattle.site.proofs.SinceLemmas.{ProceduresStay, NeverLost, since_same, since_added}
use Rattle.catalogue.specs.Catalogue.{system_setting}

-- what the laws of lower crates say
abbrev pub OneMore : Type 0
OneMore = (w : Setting) (entries : List Entry) (e : Entry) → AreFitEntries w entries → IsPlaced (length entries) (item_of e) → FitsLog w (items_of entries) (item_of e) → IsCarried w (items_of entries) e → AreFitEntries w (entries ++ e ∷ [])

abbrev pub NextVerdict : Type 0
NextVerdict = (w : Setting) (entries : List Entry) (e : Entry) → AreFitEntries w entries → AreFitEntries w (entries ++ e ∷ []) → verdict_of w (items_of (entries ++ e ∷ [])) (length entries + 1) ≡ Some (certified_entry w.window (certified_entries_of w.window w.beginning entries) e).verdict

abbrev pub CallsLeave : Type 0
CallsLeave = (w : Setting) (log : Log) (d : ℕ) (call : Call) → IsLog log → slice_get log d ≡ Some (CallItem call) → procedures_after w log (suc d) ≡ procedures_after w log d

abbrev pub AdditionsAdd : Type 0
AdditionsAdd = (w : Setting) (log : Log) (d : ℕ) (p : StoredProcedure) (v : Verdict) → IsLog log → slice_get log d ≡ Some (AdditionItem p) → verdict_of w log (suc d) ≡ Some v → procedures_after w log (suc d) ≡ if_commits v (procedures_after w log d ++ p ∷ []) (procedures_after w log d)

abbrev pub CommitsWhereNone : Type 0
CommitsWhereNone = (w : Setting) (log : Log) (d : ℕ) (p : StoredProcedure) → IsLog log → slice_get log d ≡ Some (AdditionItem p)
    → (verdict_of w log (suc d) ≡ Some Commit → (by_name (procedures_after w log d) p.name ≡ None) × (by_number (procedures_after w log d) p.number ≡ None))
    × ((by_name (procedures_after w log d) p.name ≡ None) × (by_number (procedures_after w log d) p.number ≡ None) → verdict_of w log (suc d) ≡ Some Commit)

abbrev pub TablesFit : Type 0
TablesFit = (schema : Tables) (versions : Versions) (writes : Writes) → HaveTables schema versions.tables → AreWrites schema writes → FitTables versions writes

-- what a delivery to a replica says of what the replica stands for
abbrev pub OneMoreIn : {A : Type 0} → Replica → LogEntry A → Replica → Type 0
OneMoreIn old entry new = (w : Setting) (past : List Entry) → StandsIn w old past → IsForTables w.tables entry → StandsIn w new (past ++ entry_of entry ∷ [])

there : {X : Type 0} (xs : List X) (x : X) → slice_get (xs ++ x ∷ []) (length xs) ≡ Some x
there [] x = refl
there (y ∷ xs) x = there xs x

-- ---- the verdict

module _ {A : Type 0} (s : SiteReplica) (entries : List Entry) (e : Entry) (entry : LogEntry A) where
  pub verdict_is : OneMore → NextVerdict → (new : Replica) (v : Verdict) → Follows s entries e entry → HasDelivered s.replica new (entry_of entry) v → verdict_of (setting_of s).setting (items_of (entries ++ e ∷ [])) (length entries + 1) ≡ Some v
  verdict_is one next new v f delivered =
      let w = (setting_of s).setting in
      let past = certified_entries_of w.window w.beginning entries in
      next w entries e f.stands.of_log (one w entries e f.stands.of_log f.placed f.fits f.carried)
      ∙ ap Some (ap (λ c. c.verdict) (certified_alike w.window past e (entry_of entry) f.alike) ∙ sym (delivered.verdict w.beginning entries f.stands.stands.delivered))

-- ---- procedures

since_next : (w : Setting) (entries : List Entry) (e : Entry) (v : Verdict) (additions : List (ℕ × ℕ)) → ProceduresStay → NeverLost → CallsLeave → AdditionsAdd → CommitsWhereNone
    → IsLog (items_of (entries ++ e ∷ [])) → IsLog (items_of entries) → verdict_of w (items_of entries ++ item_of e ∷ []) (suc (length (items_of entries))) ≡ Some v
    → items_of (entries ++ e ∷ []) ≡ items_of entries ++ item_of e ∷ []
    → KnowsSince w (items_of entries) additions → KnowsSince w (items_of entries ++ item_of e ∷ []) (additions_after additions e v (suc (length (items_of entries))))
since_next w entries (CallEntry e) v additions stay never leave add where_none is old verdict same knows =
    let log = items_of entries in
    let is = subst IsLog same is in
    since_same stay w log (CallItem e.call) additions (leave w (log ++ CallItem e.call ∷ []) (length log) e.call is (there log (CallItem e.call)) ∙ stay w log (CallItem e.call ∷ []) (length log) (omega arith)) knows
since_next w entries (AdditionEntry p) Commit additions stay never leave add where_none is old verdict same knows =
    let log = items_of entries in
    let more = log ++ AdditionItem p ∷ [] in
    let is = subst IsLog same is in
    let here = there log (AdditionItem p) in
    let before = stay w log (AdditionItem p ∷ []) (length log) (omega arith) in
    let none = ((where_none w more (length log) p is here).0 verdict).1 in
    since_added stay w log (AdditionItem p) additions p (add w more (length log) p Commit is here verdict ∙ ap (λ (ps : Catalogue). ps ++ p ∷ []) before)
    never old (ap (λ (ps : Catalogue). by_number ps p.number) (sym before) ∙ none) knows
since_next w entries (AdditionEntry p) (Conflict n) additions stay never leave add where_none is old verdict same knows =
    let log = items_of entries in
    let is = subst IsLog same is in
    since_same stay w log (AdditionItem p) additions (add w (log ++ AdditionItem p ∷ []) (length log) p (Conflict n) is (there log (AdditionItem p)) verdict ∙ stay w log (AdditionItem p ∷ []) (length log) (omega arith)) knows
since_next w entries (AdditionEntry p) Stale additions stay never leave add where_none is old verdict same knows =
    let log = items_of entries in
    let is = subst IsLog same is in
    since_same stay w log (AdditionItem p) additions (add w (log ++ AdditionItem p ∷ []) (length log) p Stale is (there log (AdditionItem p)) verdict ∙ stay w log (AdditionItem p ∷ []) (length log) (omega arith)) knows
since_next w entries (AdditionEntry p) (Repeated n) additions stay never leave add where_none is old verdict same knows =
    let log = items_of entries in
    let is = subst IsLog same is in
    since_same stay w log (AdditionItem p) additions (add w (log ++ AdditionItem p ∷ []) (length log) p (Repeated n) is (there log (AdditionItem p)) verdict ∙ stay w log (AdditionItem p ∷ []) (length log) (omega arith)) knows
since_next w entries (AdditionEntry p) (Taken i) additions stay never leave add where_none is old verdict same knows =
    let log = items_of entries in
    let is = subst IsLog same is in
    since_same stay w log (AdditionItem p) additions (add w (log ++ AdditionItem p ∷ []) (length log) p (Taken i) is (there log (AdditionItem p)) verdict ∙ stay w log (AdditionItem p ∷ []) (length log) (omega arith)) knows

additions_alike : (additions : List (ℕ × ℕ)) (e d : Entry) (v : Verdict) (position : ℕ) → AreAlike e d → additions_after additions e v position ≡ additions_after additions d v position
additions_alike additions (CallEntry e) (CallEntry d) v position alike = refl
additions_alike additions (AdditionEntry p) (AdditionEntry q) v position same = ap (λ x. additions_after additions (AdditionEntry x) v position) same
additions_alike additions (CallEntry e) (AdditionEntry q) v position never = absurd never
additions_alike additions (AdditionEntry p) (CallEntry d) v position never = absurd never

reply_alike : (e d : Entry) → AreAlike e d → reply_of e ≡ reply_of d
reply_alike (CallEntry e) (CallEntry d) alike = alike.4
reply_alike (AdditionEntry p) (AdditionEntry q) same = refl
reply_alike (CallEntry e) (AdditionEntry q) never = absurd never
reply_alike (AdditionEntry p) (CallEntry d) never = absurd never

-- ---- the site

abbrev pub site_after : {A : Type 0} → SiteReplica → Replica → LogEntry A → Verdict → SiteReplica
site_after s new entry v = record {
  catalogue = s.catalogue;
  table_list = s.table_list;
  takes_additions = s.takes_additions;
  origin = s.origin;
  replica = new;
  replies = s.replies ++ reply_of (entry_of entry) ∷ [];
  additions = additions_after s.additions (entry_of entry) v new.position;
  sessions = s.sessions;
}

module _ {A : Type 0} (s : SiteReplica) (entries : List Entry) (e : Entry) (entry : LogEntry A) where
  pub delivered : OneMore → NextVerdict → ProceduresStay → NeverLost → CallsLeave → AdditionsAdd → CommitsWhereNone → (new : Replica) (v : Verdict) → Follows s entries e entry → HasDelivered s.replica new (entry_of entry) v → HasSameTables s.replica new
      → OneMoreIn s.replica entry new → StandsForLog (site_after s new entry v) (entries ++ e ∷ [])
  delivered one next stay never leave add where_none new v f is same more_in =
      let w = (setting_of s).setting in
      let log = items_of entries in
      let more = one w entries e f.stands.of_log f.placed f.fits f.carried in
      let items : items_of (entries ++ e ∷ []) ≡ log ++ item_of e ∷ [] = map-append item_of entries (e ∷ []) in
      let long : length log ≡ length entries = length-map entries item_of in
      let verdict = verdict_is s entries e entry one next new v f is in
      let here : verdict_of w (log ++ item_of e ∷ []) (suc (length log)) ≡ Some v =
      ap (λ (n : ℕ). verdict_of w (log ++ item_of e ∷ []) n) (let n : suc (length log) ≡ length entries + 1 = omega arith in n) ∙ ap (λ (l : Log). verdict_of w l (length entries + 1)) (sym items) ∙ verdict in
      let position : new.position ≡ suc (length log) = let a = is.position in let b = f.stands.stands.delivered.position in omega arith in
      let since = since_next w entries e v s.additions stay never leave add where_none more.log f.stands.of_log.log here items f.stands.since in
      record {
        running = is.running;
        stands = subst (λ (n : ℕ). StandsIn (system_setting s.catalogue n) new (entries ++ e ∷ [])) (sym same.window) (stands_in_alike w new entries e (entry_of entry) f.alike (more_in w entries f.stands.stands f.taken.for_tables));
        of_log = subst (λ (n : ℕ). AreFitEntries (system_setting s.catalogue n) (entries ++ e ∷ [])) (sym same.window) more;
        replies =
            ap (λ (xs : List ℕ). xs ++ reply_of (entry_of entry) ∷ []) f.stands.replies
            ∙ ap (λ n. map reply_of entries ++ n ∷ []) (sym (reply_alike e (entry_of entry) f.alike))
            ∙ sym (map-append reply_of entries (e ∷ []));
        since =
            subst (λ (n : ℕ). KnowsSince (system_setting s.catalogue n) (items_of (entries ++ e ∷ [])) (additions_after s.additions (entry_of entry) v new.position)) (sym same.window)
            (subst (λ (l : Log). KnowsSince w l (additions_after s.additions (entry_of entry) v new.position)) (sym items)
            (subst (λ (xs : List (ℕ × ℕ)). KnowsSince w (log ++ item_of e ∷ []) xs)
            (additions_alike s.additions e (entry_of entry) v (suc (length log)) f.alike ∙ ap (additions_after s.additions (entry_of entry) v) (sym position)) since));
      }

  pub fits : TablesFit → Follows s entries e entry → FitTables s.replica.versions (writes_in (entry_of entry))
  fits fit f = fit s.catalogue.tables s.replica.versions (writes_in (entry_of entry)) f.stands.stands.tables f.taken.writes
