-- Lines of settings, one behind another: what has been set before them and behind them.
use Rattle.std.proofs.Common.{◌≡◌, ℕ, ◌+◌, List, [], ◌∷◌, ◌++◌, Some, Result, Ok, refl, sym, ap, ◌∙◌, append_assoc, append-nil}
use Rattle.std.specs.List.{concat}
use Rattle.script.specs.declared.cause.FaultCause.{FaultCause}
use Rattle.script.specs.Said.{said_from, unless_faulty}
use Rattle.script.specs.Text.{lines_of}
use Rattle.script.proofs.LineLemmas.{lines_of-ended}
use Rattle.site_service.specs.Settings.{SettingsRequest, SettingsSoFar, after_line, nothing_set, settings_say, whole, with_line}
use Rattle.site_service.proofs.PrintedLemmas.{Prints}

-- behind these lines what was set at first has become what is set at last, whatever follows
pub record Leads (s : SettingsSoFar) (lines : List (List ℕ)) (t : SettingsSoFar) : Type 0 where
  pub step : (number : ℕ) (more : List ℕ) → (next : ℕ) × (said_from with_line whole s number (lines_of (concat lines ++ more)) ≡ said_from with_line whole t next (lines_of more))

pub leads_nowhere : (s : SettingsSoFar) → Leads s [] s
leads_nowhere s = record { step = λ number more. (number, refl) }

pub leads_by : (s t u : SettingsSoFar) (line : List ℕ) (lines : List (List ℕ)) (x : SettingsRequest) → Prints line x → after_line s (Ok (Some x)) ≡ Ok t → Leads t lines u → Leads s (line ∷ lines) u
unfolding said_from
leads_by s t u line lines x prints taken later = record {
  step = λ number more.
      let rest : List ℕ = concat lines ++ more in
      let split : (line ++ concat lines) ++ more ≡ prints.text ++ (10 ∷ rest) =
      ap (λ (l : List ℕ). (l ++ concat lines) ++ more) prints.is ∙ append_assoc (prints.text ++ 10 ∷ []) (concat lines) more ∙ append_assoc prints.text (10 ∷ []) rest in
      let next = later.step (number + 1) more in (
        next.0,
        ap (λ (l : List ℕ). said_from with_line whole s number (lines_of l)) split
            ∙ ap (said_from with_line whole s number) (lines_of-ended prints.text rest prints.no_end)
            ∙ ap (λ (r : Result SettingsSoFar FaultCause). unless_faulty number r (λ n. said_from with_line whole n (number + 1) (lines_of rest))) (ap (after_line s) prints.says ∙ taken)
            ∙ next.1,
      );
}

pub leads_on : (s t u : SettingsSoFar) (first second : List (List ℕ)) → Leads s first t → Leads t second u → Leads s (first ++ second) u
leads_on s t u first second a b = record {
  step = λ number more.
      let one = a.step number (concat second ++ more) in
      let two = b.step one.0 more in (
        two.0,
        ap (λ (l : List ℕ). said_from with_line whole s number (lines_of l)) (ap (λ (l : List ℕ). l ++ more) (concat-append first) ∙ append_assoc (concat first) (concat second) more)
            ∙ one.1 ∙ two.1,
      );
}
  where
    concat-append : (xs : List (List ℕ)) → concat (xs ++ second) ≡ concat xs ++ concat second
    concat-append [] = refl
    concat-append (x ∷ xs) = ap (λ (l : List ℕ). x ++ l) (concat-append xs) ∙ sym (append_assoc x (concat xs) (concat second))

pub said_where_led : (lines : List (List ℕ)) (t : SettingsSoFar) → Leads nothing_set lines t → settings_say (concat lines) ≡ whole t
unfolding said_from
said_where_led lines t leads =
    ap (λ (l : List ℕ). said_from with_line whole nothing_set 1 (lines_of l)) (sym (append-nil (concat lines))) ∙ (leads.step 1 []).1
