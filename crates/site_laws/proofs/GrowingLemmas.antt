-- The procedures behind an order that goes on.
use Rattle.std.proofs.Common.{◌≡◌, ◌≢◌, ◌↔◌, ℕ, List, [], ◌∷◌, ◌++◌, Some, refl, sym, ap, subst, ◌∙◌, append_assoc, append-nil}
use Rattle.log_model.specs.Log.{StoredProcedure, Catalogue, by_name, by_number}
use Rattle.site_model.specs.declared.outcome.EntryOutcome.{EntryOutcome}
use Rattle.site_model.specs.declared.outcome.EntryOutcome.TheVariants as outcome
use Rattle.site_model.specs.Standing.{SiteSetting}
use Rattle.site_model.specs.Order.{Order, next_outcome}
use Rattle.site_laws.specs.Added.{AddsProcedure}
use Rattle.site_laws.specs.Orders.{HasDistinctNumbers, procedures_behind}
use Rattle.site_laws.proofs.NameLemmas.{HaveOwnNumbers, name_stays, number_stays, one_more_has_its_own, own_numbers}

-- what the law of one more byte string says
abbrev pub First : Type 0
First = (s : SiteSetting) → procedures_behind s [] ≡ s.setting.beginning.procedures

abbrev pub Told : Type 0
Told = (s : SiteSetting) (order : Order) (bytes : List ℕ) (number : ℕ) → (next_outcome s order bytes ≡ outcome.Added number) ↔ ((p : StoredProcedure) × AddsProcedure s order bytes p × (p.number ≡ number))

abbrev pub Added : Type 0
Added = (s : SiteSetting) (order : Order) (bytes : List ℕ) (p : StoredProcedure) → AddsProcedure s order bytes p → procedures_behind s (order ++ bytes ∷ []) ≡ procedures_behind s order ++ p ∷ []

abbrev pub Others : Type 0
Others = (s : SiteSetting) (order : Order) (bytes : List ℕ) → ((number : ℕ) → next_outcome s order bytes ≢ outcome.Added number) → procedures_behind s (order ++ bytes ∷ []) ≡ procedures_behind s order

module _ (s : SiteSetting) (told : Told) (added : Added) (others : Others) where
  -- one more procedure that is added, or none
  pub by_next : (P : Catalogue → Type 0) (order : Order) (bytes : List ℕ) → ((p : StoredProcedure) → AddsProcedure s order bytes p → P (procedures_behind s order ++ p ∷ [])) → P (procedures_behind s order)
      → P (procedures_behind s (order ++ bytes ∷ []))
  by_next P order bytes one none = by_outcome (next_outcome s order bytes) refl
    where
      left : ((number : ℕ) → next_outcome s order bytes ≢ outcome.Added number) → P (procedures_behind s (order ++ bytes ∷ []))
      left never = subst P (sym (others s order bytes never)) none

      by_outcome : (o : EntryOutcome) → next_outcome s order bytes ≡ o → P (procedures_behind s (order ++ bytes ∷ []))
      by_outcome (outcome.Added n) is =
          let (p, adds, number) = (told s order bytes n).0 is in
          subst P (sym (added s order bytes p adds)) (one p adds)
      by_outcome (outcome.Committed reply) is = left (λ n e. absurd (let x = sym is ∙ e in cc))
      by_outcome (outcome.Conflict n) is = left (λ n e. absurd (let x = sym is ∙ e in cc))
      by_outcome outcome.Stale is = left (λ n e. absurd (let x = sym is ∙ e in cc))
      by_outcome (outcome.Repeated n reply) is = left (λ n e. absurd (let x = sym is ∙ e in cc))
      by_outcome (outcome.Taken i) is = left (λ n e. absurd (let x = sym is ∙ e in cc))
      by_outcome (outcome.Session session) is = left (λ n e. absurd (let x = sym is ∙ e in cc))
      by_outcome (outcome.Nothing c) is = left (λ n e. absurd (let x = sym is ∙ e in cc))

  abbrev GoesOn : Catalogue → Catalogue → Type 0
  GoesOn before behind = (later : Catalogue) × (behind ≡ before ++ later)

  pub grow : (order more : Order) → (later : Catalogue) × (procedures_behind s (order ++ more) ≡ procedures_behind s order ++ later)
  grow order [] = ([], ap (procedures_behind s) (append-nil order) ∙ sym (append-nil (procedures_behind s order)))
  grow order (bytes ∷ more) =
      let (one, first) = by_next (GoesOn (procedures_behind s order)) order bytes (λ p adds. (p ∷ [], refl)) ([], sym (append-nil (procedures_behind s order))) in
      let (later, rest) = grow (order ++ bytes ∷ []) more in (
        one ++ later,
        ap (procedures_behind s) (sym (append_assoc order (bytes ∷ []) more)) ∙ rest ∙ ap (λ (ps : Catalogue). ps ++ later) first ∙ append_assoc (procedures_behind s order) one later,
      )

  own_from : (order more : Order) → HaveOwnNumbers (procedures_behind s order) → HaveOwnNumbers (procedures_behind s (order ++ more))
  own_from order [] own = subst (λ (o : Order). HaveOwnNumbers (procedures_behind s o)) (sym (append-nil order)) own
  own_from order (bytes ∷ more) own =
      subst (λ (o : Order). HaveOwnNumbers (procedures_behind s o)) (append_assoc order (bytes ∷ []) more)
      (own_from (order ++ bytes ∷ []) more (by_next HaveOwnNumbers order bytes (λ p adds. one_more_has_its_own (procedures_behind s order) p adds.new_number own) own))

  pub own_behind : First → HasDistinctNumbers s.setting → (order : Order) → HaveOwnNumbers (procedures_behind s order)
  own_behind first distinct order = own_from [] order (subst HaveOwnNumbers (sym (first s)) (own_numbers s.setting.beginning.procedures distinct))

  pub name_kept : (order more : Order) (name : List ℕ) (p : StoredProcedure) → by_name (procedures_behind s order) name ≡ Some p → by_name (procedures_behind s (order ++ more)) name ≡ Some p
  name_kept order more name p e =
      let (later, goes) = grow order more in
      ap (λ (ps : Catalogue). by_name ps name) goes ∙ name_stays (procedures_behind s order) later name p e

  pub number_kept : (order more : Order) (number : ℕ) (p : StoredProcedure) → by_number (procedures_behind s order) number ≡ Some p → by_number (procedures_behind s (order ++ more)) number ≡ Some p
  number_kept order more number p e =
      let (later, goes) = grow order more in
      ap (λ (ps : Catalogue). by_number ps number) goes ∙ number_stays (procedures_behind s order) later number p e
