use Rattle.std.proofs.Common.{rules, ◌≡◌, ℕ, List, [], ◌++◌, ◌∙◌, ap, sym, subst, map}
use Rattle.std.specs.Slice.Iter.{iter_rest}
use Rattle.std.proofs.lemmas.List.{nil_from_length}
use Rattle.std.proofs.lemmas.List.{append-nil, append_assoc}
use Rattle.std.specs.List.{concat}
use Rattle.std.specs.FinMap.{entries}
use Rattle.log_entry.specs.Bytes.{count_bytes, write_bytes, writes_bytes}
use Rattle.log_entry.proofs.bytes.append_writes.Goals as goal

pub loop-key-init : goal.loop-key-init
loop-key-init g c = ([], g.met.S.ByteSink.nothing c.append_count.new.sink, search rules)

pub loop-key-preserved : goal.loop-key-preserved
loop-key-preserved g c =
    let so_far = c.loop-key.invariant in
    let write : List ℕ = write_bytes c.in-Some.field-0.now in
    let rest : List ℕ = concat (map write_bytes (iter_rest c.next.new.self)) in
    let next : so_far.0 ++ (write ++ rest) ≡ so_far.0 ++ concat (map write_bytes (iter_rest c.loop-key.key-iterator)) = search rules in
    (so_far.0 ++ write, g.met.S.ByteSink.together _ _ _ _ _ so_far.1 c.append_write.ensures, append_assoc so_far.0 write rest ∙ next ∙ so_far.2)

pub returns : goal.returns
returns g c =
    let so_far = c.loop-key.invariant in
    let all : so_far.0 ≡ concat (map write_bytes (entries c.args.writes.now)) =
    sym (append-nil so_far.0) ∙ ap (λ xs. so_far.0 ++ concat (map write_bytes xs)) (sym (nil_from_length _ c.in-None.ensures.steps.0)) ∙ so_far.2 in
    let text : count_bytes c.len.result ++ so_far.0 ≡ writes_bytes c.args.writes.now = search rules in
    subst (λ (bytes : List ℕ). g.S.ByteSink.appends c.args.sink.now c.loop-key.sink bytes) text
    (g.met.S.ByteSink.together _ _ _ _ _ c.append_count.ensures so_far.1)
