-- The entries of an order of byte strings over safe settings are fit.
use Rattle.std.proofs.Common.{◌≡◌, ◌↔◌, ℕ, ◌<◌, List, [], ◌∷◌, ◌++◌, length, All, Ok, subst, sym}
use Rattle.std.specs.List.{fold}
use Rattle.std.proofs.lemmas.List.Elements.{All-head, All-tail}
use Rattle.bpf_code.specs.Program.{Program, IsProgram}
use Rattle.bpf_bytes.specs.Decoding.{program_of}
use Rattle.bpf_verify.specs.Flow.{IsAccepted}
use Rattle.schema.specs.Schema.{Tables, AreTables}
use Rattle.log_model.specs.Log.{StoredProcedure, Setting, IsPlaced}
use Rattle.log_model.specs.Fit.{FitsLog, IsSafe}
use Rattle.log_model.specs.Entries.{Entry, AdditionEntry, item_of, items_of, IsCarried}
use Rattle.program_checks.specs.ProgramCheck.{Passed}
use Rattle.program_checks.specs.Check.{check_of}
use Rattle.site_model.specs.Fit.{AreFitEntries}
use Rattle.site_model.specs.Sessions.{Sessions}
use Rattle.site_model.specs.Standing.{SiteSetting, StandsAs, standing}
use Rattle.site_model.specs.Order.{Followed, Order, before_order, followed, followed_by, next_entry, order_entries, with_bytes}
use Rattle.site_laws.specs.Added.{NamesProcedure}
use Rattle.site_laws.specs.Orders.{IsBytes, IsOfBytes, IsSafeSetting}
use Rattle.site_laws.proofs.DecodingLemmas.{decoded_is_program}
use Rattle.site_laws.proofs.LogLemmas.{ArePlaced}
use Rattle.site_laws.proofs.OutcomeLemmas.{names_by}

-- what lower laws say
abbrev pub OneMoreIsFit : Type 0
OneMoreIsFit = (w : Setting) (entries : List Entry) (e : Entry) → AreFitEntries w entries → IsPlaced (length entries) (item_of e) → FitsLog w (items_of entries) (item_of e)
    → IsCarried w (items_of entries) e → AreFitEntries w (entries ++ e ∷ [])

abbrev pub AreCarried : Type 0
AreCarried = (s : SiteSetting) (known : Sessions) (entries : List Entry) (bytes : List ℕ) → IsCarried s.setting (items_of entries) (next_entry s known entries bytes)

abbrev pub NextIsFit : Type 0
NextIsFit = (s : SiteSetting) (known : Sessions) (entries : List Entry) (bytes : List ℕ) → All (λ b. b < 256) bytes
    → ((p : StoredProcedure) → standing s known (items_of entries) bytes ≡ StandsAs (AdditionEntry p) → IsSafe s.setting.tables p)
    → FitsLog s.setting (items_of entries) (item_of (next_entry s known entries bytes))

abbrev pub ChecksPass : Type 0
ChecksPass = (tables : Tables) (args_len : ℕ) (bytes : List ℕ) (program : Program) → (check_of tables args_len bytes ≡ Passed program)
    ↔ ((program_of bytes ≡ Ok program) × IsAccepted (record { program = program; tables = tables; args_len = args_len }))

abbrev pub AcceptedAreSafe : Type 0
AcceptedAreSafe = (tables : Tables) (p : StoredProcedure) → IsProgram p.program → AreTables tables
    → IsAccepted (record { program = p.program; tables = tables; args_len = p.args_len }) → IsSafe tables p

-- a procedure whose program is accepted is safe
pub named_are_safe : (s : SiteSetting) (bytes : List ℕ) (p : StoredProcedure) → ChecksPass → AcceptedAreSafe → AreTables s.setting.tables → NamesProcedure s bytes p → IsSafe s.setting.tables p
named_are_safe s bytes p passed safe tables names =
    let n = names.named in
    let (decoded, accepted) = (passed s.setting.tables n.args_len n.bytes names.program).0 names.accepted in
    subst (IsSafe s.setting.tables) (sym names.is)
    (safe s.setting.tables (record { name = n.name; number = n.number; program = names.program; args_len = n.args_len }) (decoded_is_program n.bytes names.program decoded) tables accepted)

module _ (one_more : OneMoreIsFit) (placed : ArePlaced) (carried : AreCarried) (fits : NextIsFit) (passed : ChecksPass) (safe : AcceptedAreSafe) (s : SiteSetting) (is : IsSafeSetting s.setting) where
  fit_next : (known : Sessions) (entries : List Entry) (bytes : List ℕ) → IsBytes bytes → AreFitEntries s.setting entries → AreFitEntries s.setting (with_bytes s known entries bytes)
  fit_next known entries bytes are fit =
      one_more s.setting entries (next_entry s known entries bytes) fit (placed s known entries bytes)
      (fits s known entries bytes are (λ p stands. named_are_safe s bytes p passed safe is.tables (names_by s known (items_of entries) bytes p stands)))
      (carried s known entries bytes)

  fit_from : (f : Followed) (order : Order) → IsOfBytes order → AreFitEntries s.setting f.entries → AreFitEntries s.setting (fold (followed_by s) f order).entries
  fit_from f [] are fit = fit
  fit_from f (bytes ∷ order) are fit =
      fit_from (followed_by s f bytes) order (All-tail IsBytes bytes order are) (fit_next f.sessions f.entries bytes (All-head IsBytes bytes order are) fit)

  pub order_is_fit : (order : Order) → IsOfBytes order → AreFitEntries s.setting (order_entries s order)
  unfolding followed
  order_is_fit order are = fit_from (before_order s) order are (record { begins = is.begins; log = tt; items = tt; runs = tt })
