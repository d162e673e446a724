-- Answers, by what the code's values stand for.
use Rattle.std.proofs.Common.{◌≡◌, ◌⊎◌, inl, inr, ℕ, ◌+◌, Bool, true, false, cond, List, [], ◌∷◌, ◌++◌, length, Option, Result, Ok, Err, sym, ap, subst, ◌∙◌}
use Rattle.log_model.specs.declared.request.RequestId.{RequestId}
use Rattle.log_entry.specs.Head.{head_of}
use Rattle.script.specs.declared.fault.LineFault.{LineFault}
use Rattle.site_model.specs.declared.outcome.EntryOutcome.{EntryOutcome}
use Rattle.site_model.specs.Standing.{SiteSetting}
use Rattle.log_model.specs.OpenRequest.{given_request}
use Rattle.site_model.specs.Order.{Order, next_outcome, request_in}
use Rattle.site_service.specs.declared.line.SiteLine.TheVariants.{Call}
use Rattle.site_service.specs.Lines.{SiteRequest}
use Rattle.site_report.specs.Answers.{entry_line, order_full_line}
use Rattle.site_service.specs.LineAnswers.{IsAnswer, IsCallAnswer, entry_answer, is_full, order_with_bytes}

-- ---- a byte string

module _ (s : SiteSetting) (order : Order) (bytes : List ℕ) (position : ℕ) (count : position ≡ length order) (room : is_full s position ≡ false) where
  tested : is_full s (length order) ≡ false
  tested = sym (ap (is_full s) count) ∙ room

  pub entry_answered : (A : List ℕ → Type 0) (o : EntryOutcome) (r : Option RequestId) → o ≡ next_outcome s order bytes → r ≡ request_in (head_of bytes) → A (entry_line (position + 1) o r) → A (entry_answer s order bytes)
  entry_answered A o r told request given =
      subst A (ap (λ (n : ℕ). entry_line (n + 1) o r) count ∙ (λ i. entry_line (length order + 1) (told i) (request i))
      ∙ sym (ap (λ (b : Bool). cond b order_full_line (entry_line (length order + 1) (next_outcome s order bytes) (request_in (head_of bytes)))) tested)) given

  pub stands_with : (P : Order → Type 0) → P (order ++ bytes ∷ []) → P (order_with_bytes s order bytes)
  stands_with P stands = subst P (sym (ap (λ (b : Bool). cond b order (order ++ bytes ∷ [])) tested)) stands

module _ (s : SiteSetting) (order : Order) (bytes : List ℕ) (position : ℕ) (count : position ≡ length order) (full : is_full s position ≡ true) where
  no_room : is_full s (length order) ≡ true
  no_room = sym (ap (is_full s) count) ∙ full

  pub full_answered : (A : List ℕ → Type 0) → A order_full_line → A (entry_answer s order bytes)
  full_answered A given = subst A (sym (ap (λ (b : Bool). cond b order_full_line (entry_line (length order + 1) (next_outcome s order bytes) (request_in (head_of bytes)))) no_room)) given

  pub stands_without : (P : Order → Type 0) → P order → P (order_with_bytes s order bytes)
  stands_without P stands = subst P (sym (ap (λ (b : Bool). cond b order (order ++ bytes ∷ [])) no_room)) stands

-- ---- what a line asks for

pub call_answered : (s : SiteSetting) (order : Order) (r : SiteRequest) (name args given_name given_args : List ℕ) (session sequence : ℕ) (given : Option RequestId) (text : List ℕ) → r ≡ Call name args session sequence → given_name ≡ name → given_args ≡ args
    → given ≡ given_request session sequence → IsCallAnswer s order (record { name = given_name; args = given_args; request = given }) text → IsAnswer s order r text
call_answered s order r name args given_name given_args session sequence given text is same_name same_args same_request answer =
    subst (λ (q : SiteRequest). IsAnswer s order q text) (sym is)
    (subst (λ (n : List ℕ). IsCallAnswer s order (record { name = n; args = args; request = given_request session sequence }) text) same_name
    (subst (λ (a : List ℕ). IsCallAnswer s order (record { name = given_name; args = a; request = given_request session sequence }) text) same_args
    (subst (λ (q : Option RequestId). IsCallAnswer s order (record { name = given_name; args = given_args; request = q }) text) same_request answer)))

-- ---- what it says

pub says_fault : (says : Result (Option SiteRequest) LineFault) (fault none : LineFault) → (fault ≡ none) ⊎ (says ≡ Err fault) → (fault ≡ none → ⊥) → says ≡ Err fault
says_fault says fault none (inl e) isnt = absurd (isnt e)
says_fault says fault none (inr e) isnt = e

pub says_this : (says : Result (Option SiteRequest) LineFault) (o p : Option SiteRequest) → says ≡ Ok o → o ≡ p → says ≡ Ok p
says_this says o p e f = e ∙ ap Ok f
