use Rattle.std.proofs.Common.{◌∙◌, ◌≡◌, ◌+◌, ◌++◌, [], ap, sym, arith, length, set, take, drop, replicate, take-append-drop}
use Rattle.std.specs.Prelude.{true}
use Rattle.std.proofs.lemmas.List.{append-nil}
use Rattle.abs_state.proofs.BitLemmas.{inside, one_more}
use Rattle.abs_state.proofs.stack_bytes.StackBytes.add.Goals as goal

pub loop-done-init : goal.loop-done-init
loop-done-init c = sym (ap (λ n. take c.args.from c.args.self.now ++ [] ++ drop n c.args.self.now) (omega arith) ∙ ap (λ l. l ++ drop c.args.from c.args.self.now) (append-nil (take c.args.from c.args.self.now)) ∙ take-append-drop c.args.from c.args.self.now)

pub loop-done-preserved : goal.loop-done-preserved
loop-done-preserved c =
    let here : length c.loop-done.self ≡ length (take c.args.from c.args.self.now ++ replicate c.loop-done.done true ++ drop (c.args.from + c.loop-done.done) c.args.self.now) = ap length c.loop-done.invariant in
    c.add_one.ensures.added ∙ ap (λ l. set l (c.args.from + c.loop-done.done) true) c.loop-done.invariant
    ∙ one_more c.args.self.now c.args.from c.loop-done.done (inside c.args.self.now c.args.from c.loop-done.done (sym here ∙ c.add_one.ensures.long) (omega arith))

pub returns : goal.returns
returns c = c.loop-done.invariant ∙ ap (λ n. take c.args.from c.args.self.now ++ replicate n true ++ drop (c.args.from + n) c.args.self.now) (omega arith)
