-- Answers to lines behind others.
use Rattle.std.proofs.Common.{◌≡◌, inl, ℕ, List, [], ◌∷◌, ◌++◌, Option, Some, None, Result, Ok, Err, refl, sym, ap, subst, ◌∙◌, append_assoc}
use Rattle.std.proofs.lemmas.List.Sums.{fold-append}
use Rattle.script.specs.declared.fault.LineFault.{LineFault}
use Rattle.site_model.specs.Standing.{SiteSetting}
use Rattle.site_model.specs.Order.{Order}
use Rattle.site_service.specs.Lines.{SiteRequest, line_says}
use Rattle.site_service.specs.declared.line.SiteLine.TheVariants.{Call, Add, Entry, Rows, Scan, Dump, Position}
use Rattle.site_report.specs.Answers.{fault_line}
use Rattle.site_service.specs.LineAnswers.{IsAnswer, IsLineAnswer, order_behind}
use Rattle.site_service.specs.Answering.{AreAnswers, order_after}

pub nothing_answered : (s : SiteSetting) (order : Order) → AreAnswers s order [] []
unfolding AreAnswers
nothing_answered s order = refl

pub nothing_answered_of : (s : SiteSetting) (order : Order) (lines : List (List ℕ)) → lines ≡ [] → AreAnswers s order lines []
nothing_answered_of s order lines none = subst (λ ls. AreAnswers s order ls []) (sym none) (nothing_answered s order)

pub first_answered : (s : SiteSetting) (order : Order) (line : List ℕ) (lines : List (List ℕ)) (here rest : List ℕ)
    → IsLineAnswer s order (line_says line) here
    → AreAnswers s (order_behind s order (line_says line)) lines rest → AreAnswers s order (line ∷ lines) (here ++ rest)
unfolding AreAnswers
first_answered s order line lines here rest answer behind = (here, rest, answer, refl, behind)

-- some lines are answered, and those behind them
pub answered_behind : (s : SiteSetting) (order : Order) (lines others : List (List ℕ)) (text more : List ℕ)
    → AreAnswers s order lines text → AreAnswers s (order_after s order lines) others more → AreAnswers s order (lines ++ others) (text ++ more)
unfolding AreAnswers
answered_behind s order [] others text more none behind = subst (AreAnswers s order others) (ap (λ (t : List ℕ). t ++ more) (sym none)) behind
answered_behind s order (line ∷ lines) others text more (here, rest, answer, split, then) behind = (
  here,
  rest ++ more,
  answer,
  ap (λ (t : List ℕ). t ++ more) split ∙ append_assoc here rest more,
  answered_behind s (order_behind s order (line_says line)) lines others rest more then behind,
)

pub order_after_more : (s : SiteSetting) (order : Order) (lines more : List (List ℕ)) → order_after s order (lines ++ more) ≡ order_after s (order_after s order lines) more
order_after_more s order lines more = fold-append (λ so_far l. order_behind s so_far (line_says l)) order lines more

-- ---- whatever is asked there is an answer

can_answer : (s : SiteSetting) (order : Order) (request : SiteRequest) → (text : List ℕ) × IsAnswer s order request text
can_answer s order (Call name args session sequence) = (_, inl refl)
can_answer s order (Add p) = (_, inl refl)
can_answer s order (Entry bytes) = (_, refl)
can_answer s order Rows = (_, refl)
can_answer s order (Scan scan) = (_, refl)
can_answer s order Dump = (_, refl)
can_answer s order Position = (_, refl)

can_answer_line : (s : SiteSetting) (order : Order) (says : Result (Option SiteRequest) LineFault) → (text : List ℕ) × IsLineAnswer s order says text
can_answer_line s order (Ok (Some request)) = can_answer s order request
can_answer_line s order (Ok None) = ([], refl)
can_answer_line s order (Err fault) = (fault_line fault, refl)

pub can_answer_lines : (s : SiteSetting) (order : Order) (lines : List (List ℕ)) → (text : List ℕ) × AreAnswers s order lines text
can_answer_lines s order [] = ([], nothing_answered s order)
can_answer_lines s order (line ∷ lines) =
    let here = can_answer_line s order (line_says line) in
    let rest = can_answer_lines s (order_behind s order (line_says line)) lines in
    (here.0 ++ rest.0, first_answered s order line lines here.0 rest.0 here.1 rest.1)
