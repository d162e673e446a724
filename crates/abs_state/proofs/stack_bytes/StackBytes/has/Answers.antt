use Rattle.std.proofs.Common.{◌∙◌, ◌<◌, ap, sym, arith, length, get_or, take, drop}
use Rattle.std.specs.Prelude.{Bool, false, ◌&&◌}
use Rattle.std.specs.List.{list_all}
use Rattle.std.proofs.lemmas.List.{get_or-drop, get_or-take, length-drop, length-take}
use Rattle.std.proofs.lemmas.List.Folds.{list_all_at, list_all_more}
use Rattle.abs_state.proofs.stack_bytes.StackBytes.has.Goals as goal

pub loop-done-preserved : goal.loop-done-preserved
loop-done-preserved c =
    let inside : c.loop-done.done < length (drop c.args.from c.args.self.now) = omega (arith, length-drop c.args.from c.args.self.now, c.has_one.ensures.long) in
    list_all_more (λ (byte : Bool). byte) (drop c.args.from c.args.self.now) c.loop-done.done false inside
    ∙ ap (λ (b : Bool). b && get_or (drop c.args.from c.args.self.now) c.loop-done.done false) c.loop-done.invariant
    ∙ get_or-drop c.args.from c.args.self.now c.loop-done.done false ∙ sym c.has_one.ensures.value ∙ c.if-not-has_one.false

pub returns-then-not-has_one : goal.returns-then-not-has_one
returns-then-not-has_one c =
    let inside : c.loop-done.done < length (take c.args.count (drop c.args.from c.args.self.now)) = omega (arith, length-take c.args.count (drop c.args.from c.args.self.now), length-drop c.args.from c.args.self.now, c.has_one.ensures.long) in
    sym (list_all_at (λ (byte : Bool). byte) (take c.args.count (drop c.args.from c.args.self.now)) c.loop-done.done false inside
    (get_or-take c.args.count (drop c.args.from c.args.self.now) c.loop-done.done false (omega arith) ∙ get_or-drop c.args.from c.args.self.now c.loop-done.done false ∙ sym c.has_one.ensures.value ∙ c.if-not-has_one.true))

pub returns : goal.returns
returns c = sym (ap (λ n. list_all (λ (byte : Bool). byte) (take n (drop c.args.from c.args.self.now))) (omega arith) ∙ c.loop-done.invariant)
